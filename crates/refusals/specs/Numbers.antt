-- The number of each refusal, as document 01 and the requests give it. Assumes nothing.
use Rattle.std.specs.Prelude.{ℕ}
use Rattle.refusals.specs.declared.Refusal.{Refusal}
use Rattle.refusals.specs.declared.Refusal.TheVariants.{NotAJob, WrongCount, TooManyPairs, WrongEntry, WrongStar, Unanswered, Circle, NoFloor, NothingHeld, NoContact, CannotTurn, NoVertex, TooShort, NoCuts, NotAPlan, WrongSizes, TooLarge, NoSeason}

-- THE NUMBER OF A REFUSAL
unfoldable pub number_of : Refusal → ℕ
number_of NotAJob = 1
number_of WrongCount = 2
number_of TooManyPairs = 3
number_of WrongEntry = 4
number_of WrongStar = 5
number_of Unanswered = 6
number_of Circle = 7
number_of NoFloor = 9
number_of NothingHeld = 10
number_of NoContact = 11
number_of CannotTurn = 12
number_of NoVertex = 13
number_of TooShort = 14
number_of NoCuts = 15
number_of NotAPlan = 16
number_of WrongSizes = 17
number_of TooLarge = 18
number_of NoSeason = 19
