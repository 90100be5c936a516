use Prim.Native.Nat.{◌+◌, ◌-◌}
use mathlib.Core.Path.{◌≡◌}
use lib.ListN.{drop}
use Rattle.stars.specs.Rooms.{all_from}
use Rattle.jobs.specs.Shapes.{stars_at, entries_ok}
use Rattle.jobs.proofs.walk.entries_pass.Given as goal

abbrev pub invariant-loop-i : goal.invariant-loop-i
invariant-loop-i l =
    all_from (entries_ok l.n) (4 + l.i) (stars_at (l.count - l.i) (drop l.at l.job)) ≡ all_from (entries_ok l.n) 4 (stars_at l.n (drop l.from l.job))
