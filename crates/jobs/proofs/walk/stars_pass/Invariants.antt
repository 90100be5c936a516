use Prim.Native.Nat.{◌-◌}
use mathlib.Core.Path.{◌≡◌}
use lib.ListN.{drop}
use Rattle.floor.specs.Lists.{all}
use Rattle.floor.specs.Jobs.{star_ok}
use Rattle.jobs.specs.Shapes.{stars_at}
use Rattle.jobs.proofs.walk.stars_pass.Given as goal

abbrev pub invariant-loop-i : goal.invariant-loop-i
invariant-loop-i l = all star_ok (stars_at (l.count - l.i) (drop l.at l.job)) ≡ all star_ok (stars_at l.n (drop l.from l.job))
