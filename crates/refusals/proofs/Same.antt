-- What follows of the numbers: each is of one refusal. Assumes nothing.
use Prim.Native.Nat.{ℕ}
use mathlib.Core.Path.{◌≡◌, refl, sym, ◌∙◌, ap}
use mathlib.Core.List.{List, [], ◌∷◌}
use lib.ListN.{get_or}
use Rattle.refusals.specs.declared.Refusal.{Refusal}
use Rattle.refusals.specs.declared.Refusal.TheVariants.{NotAJob, WrongCount, TooManyPairs, WrongEntry, WrongStar, Unanswered, Circle, NoFloor, NothingHeld, NoContact, CannotTurn, NoVertex, TooShort, NoCuts, NotAPlan, WrongSizes, TooLarge, NoSeason}
use Rattle.refusals.specs.Numbers.{number_of}

-- the refusals by number, from 0 on; any, where a number is of none
abbrev by_number : List Refusal
by_number = NotAJob ∷ NotAJob ∷ WrongCount ∷ TooManyPairs ∷ WrongEntry ∷ WrongStar ∷ Unanswered ∷ Circle ∷ NotAJob ∷ NoFloor ∷ NothingHeld ∷ NoContact ∷ CannotTurn ∷ NoVertex ∷ TooShort ∷ NoCuts ∷ NotAPlan ∷ WrongSizes ∷ TooLarge ∷ NoSeason ∷ []

-- the refusal of a number
abbrev pub refusal_of : ℕ → Refusal
refusal_of n = get_or by_number n NotAJob

-- it is the refusal that the number is of
pub back : (r : Refusal) → refusal_of (number_of r) ≡ r
unfolding number_of
back NotAJob = refl
back WrongCount = refl
back TooManyPairs = refl
back WrongEntry = refl
back WrongStar = refl
back Unanswered = refl
back Circle = refl
back NoFloor = refl
back NothingHeld = refl
back NoContact = refl
back CannotTurn = refl
back NoVertex = refl
back TooShort = refl
back NoCuts = refl
back NotAPlan = refl
back WrongSizes = refl
back TooLarge = refl
back NoSeason = refl

-- REFUSALS OF ONE NUMBER ARE ONE
pub same_refusal : (r t : Refusal) → number_of r ≡ number_of t → r ≡ t
same_refusal r t e = sym (back r) ∙ ap refusal_of e ∙ back t
