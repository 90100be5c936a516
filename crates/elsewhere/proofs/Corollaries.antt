-- What follows from the promises. Assumes nothing.
use Prim.Native.Nat.{ℕ}
use mathlib.Core.Path.{◌≡◌, sym, ap, ◌∙◌}
use mathlib.Core.Logic.{◌↔◌}
use mathlib.Core.Bool.{true}
use mathlib.Core.List.{List}
use Rattle.floor.specs.Jobs.{SizedJob}
use Rattle.floor.specs.Plans.{Plan, held, write_plan}
use Rattle.floor.specs.Calls.{load}
use Rattle.floor.specs.Foreign.{judged, GoodFor}
use Rattle.floor.proofs.Demands.{elsewhere_yes_exactly, elsewhere_ours}
use Rattle.std.specs.Prelude.{Bool, Result, Ok, Err}
use Rattle.refusals.specs.declared.Refusal.{Refusal}
use Rattle.refusals.specs.Numbers.{number_of}
use Rattle.refusals.proofs.Same.{same_refusal}
use Rattle.elsewhere.specs.Answers.{verdict}

-- answers that say the same are one
same_verdict : (r t : Result Bool Refusal) → verdict r ≡ verdict t → r ≡ t
unfolding verdict
same_verdict (Err k) (Err l) e = let n : number_of k ≡ number_of l = cc in ap Err (same_refusal k l n)
same_verdict (Err k) (Ok b) e = cc
same_verdict (Ok a) (Err l) e = cc
same_verdict (Ok a) (Ok b) e = cc

-- THE PROMISE OF `judge` ALLOWS ONE ANSWER
pub one_verdict : (job plan : List ℕ) (r t : Result Bool Refusal) → verdict r ≡ judged job plan → verdict t ≡ judged job plan → r ≡ t
one_verdict job plan r t p q = same_verdict r t (p ∙ sym q)

-- YES IS ANSWERED EXACTLY WHERE THE PLAN IS GOOD FOR THE JOB
pub yes_exactly : (job plan : List ℕ) (r : Result Bool Refusal) → verdict r ≡ judged job plan → (r ≡ Ok true) ↔ GoodFor job plan
unfolding verdict
yes_exactly job plan r p = (
  λ e. (elsewhere_yes_exactly job plan).0 (sym p ∙ ap verdict e),
  λ g. same_verdict r (Ok true) (p ∙ (elsewhere_yes_exactly job plan).1 g),
)

-- AND OF OUR OWN WRITTEN PLAN
pub ours_yes : (job : List ℕ) (o : SizedJob) (p : Plan) (r : Result Bool Refusal) → load job ≡ held o p → verdict r ≡ judged job (write_plan p) → r ≡ Ok true
unfolding verdict
ours_yes job o p r h q = same_verdict r (Ok true) (q ∙ elsewhere_ours job o p h)
