use mathlib.Core.Path.{◌≡◌}
use Prim.Native.Nat.{◌+◌, ◌-◌, ◌≤◌}
use lib.ListN.{length}
use Rattle.floor.specs.Lists.{keep}
use Rattle.floor.specs.Foreign.{in_corner}
use Rattle.stars.specs.Held.{stars_in, job_held}
use Rattle.elsewhere.proofs.rooms.in_corner.Given as goal

abbrev pub invariant-loop-i : goal.invariant-loop-i
invariant-loop-i l = (l.found ≤ l.i) × (l.found + length (keep in_corner (stars_in (l.stars.count - l.i) l.i l.stars.ends.now l.stars.nbr.now l.stars.kind.now)) ≡ length (keep in_corner (job_held l.stars)))
