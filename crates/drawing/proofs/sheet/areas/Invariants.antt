use Prim.Native.Nat.{◌+◌, ◌-◌, ◌*◌, ◌≤◌}
use mathlib.Core.Path.{◌≡◌}
use mathlib.Core.List.{map}
use Rattle.floor.specs.Lists.{sum}
use Rattle.floor.specs.Plans.{area}
use Rattle.drawing.specs.Rects.{rects_in, rects_lent}
use Rattle.drawing.proofs.sheet.areas.Given as goal

abbrev pub invariant-loop-v : goal.invariant-loop-v
invariant-loop-v l =
    (l.total ≤ l.v * 4294967296)
    × (l.total + sum (map area (rects_in (l.layout.rooms + 4 - l.v) l.v l.layout.rects.now)) ≡ sum (map area (rects_lent l.layout)))
