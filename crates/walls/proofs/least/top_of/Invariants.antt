use Prim.Native.Nat.{◌+◌, ◌-◌, ◌*◌, ◌≤◌}
use mathlib.Core.Path.{◌≡◌}
use Rattle.stars.specs.Sized.{sizes_lent}
use Rattle.walls.specs.Jobs.{axis_of, top_of_rooms}
use Rattle.walls.proofs.Sizing.{asked}
use Rattle.walls.proofs.least.top_of.Given as goal

abbrev pub invariant-loop-i : goal.invariant-loop-i
invariant-loop-i l =
    (l.top + asked (axis_of l.way) (sizes_lent l.sizes) (4 + l.i) (l.count - l.i) ≡ top_of_rooms (axis_of l.way) l.count (sizes_lent l.sizes)) × (l.top ≤ 61 + 254 * l.i)
