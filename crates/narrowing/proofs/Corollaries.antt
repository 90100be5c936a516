-- What follows from the promise of `round`. Assumes nothing.
use Prim.Native.Nat.{ℕ}
use mathlib.Core.Path.{◌≡◌, refl}
use mathlib.Core.List.{List}
use Rattle.floor.specs.Jobs.{Sizes}
use Rattle.floor.specs.Plans.{rect_of}
use Rattle.fields.proofs.Corollaries.{one_answer}
use Rattle.stars.specs.declared.Stars.{Stars}
use Rattle.drawing.specs.declared.Plan.{Plan as HeldPlan}
use Rattle.std.specs.Prelude.{Option}
use Rattle.drawing.specs.Rects.{plan_in}
use Rattle.narrowing.specs.Slims.{brief, slims_by, first_slims}
use Rattle.narrowing.specs.Rounds.{plan_across, Rounds}

-- THE PROMISE OF `round` ALLOWS ONE ANSWER, ONE PLAN AND ONE CONTENT OF THE LENT KINDS
pub one_round : (h : Stars) (z : Sizes) (p : HeldPlan) (a b : Option HeldPlan) (x y : List ℕ) → Rounds a x h z p → Rounds b y h z p → (a ≡ b) × (x ≡ y)
one_round h z p a b x y e f = (one_answer a b _ e.answers f.answers, one_answer x y _ e.leaves f.leaves)

-- a round does not ask a plan's height
pub any_height : (h : Stars) (z : Sizes) (p : HeldPlan) → first_slims h z (plan_across p.rooms p.width p.rects) ≡ first_slims h z p
unfolding first_slims slims_by brief plan_in rect_of
any_height h z p = refl
