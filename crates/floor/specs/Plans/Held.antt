-- Definitions; what is proved of them stands in proofs/ under the same name. Assumes nothing.
use Rattle.std.specs.Prelude.{◌≡◌, true, ℕ}
use Rattle.std.proofs.Math.Option.{some}
use mathlib.Core.List.{List}
use Rattle.floor.specs.Jobs.{SizedJob}
use Rattle.floor.specs.Walls.{upright, level, at, job_numbers}
use Rattle.floor.specs.Plans.{Plan, plan_of, drawable, test18}

-- WHAT A HELD PLAN CAME FROM
pub record Drawn (o : SizedJob) (p : Plan) : Type 0 where
  pub xs : List ℕ
  pub ys : List ℕ
  pub is_upright : job_numbers upright o.stars o.sizes ≡ some xs
  pub is_level : job_numbers level o.stars o.sizes ≡ some ys
  pub is_plan : p ≡ plan_of o.stars (at xs) (at ys)
  pub sheet : test18 p ≡ true
  pub draws : drawable o.stars p ≡ true
