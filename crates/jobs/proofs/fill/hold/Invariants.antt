use Prim.Native.Nat.{◌+◌, ◌-◌, ◌≤◌}
use mathlib.Core.Path.{◌≡◌}
use lib.ListN.{length, drop}
use Rattle.floor.specs.Jobs.{pairs_in}
use Rattle.stars.specs.Held.{put_all, held_of}
use Rattle.jobs.specs.Shapes.{stars_at}
use Rattle.jobs.proofs.Filling.{laid}
use Rattle.jobs.proofs.fill.hold.Given as goal

abbrev pub invariant-loop-i : goal.invariant-loop-i
invariant-loop-i l =
    (l.i ≤ l.count) × (length l.held.ends ≡ 60) × (length l.held.nbr ≡ 360) × (length l.held.kind ≡ 360)
    × (l.m + pairs_in (stars_at (l.count - l.i) (drop l.at l.job)) ≤ 360)
    × (put_all (laid l.i l.held.ends l.held.nbr l.held.kind) l.m (stars_at (l.count - l.i) (drop l.at l.job)) ≡ held_of (stars_at l.n (drop l.from l.job)))
