use Prim.Native.Nat.{◌+◌, ◌-◌}
use mathlib.Core.Path.{◌≡◌}
use Rattle.floor.specs.Lists.{all}
use Rattle.drawing.specs.Rects.{rects_in, rects_lent}
use Rattle.drawing.specs.Tests.{inside_sheet}
use Rattle.drawing.proofs.sheet.all_inside.Given as goal

abbrev pub invariant-loop-v : goal.invariant-loop-v
invariant-loop-v l =
    all (inside_sheet l.layout.width l.layout.height) (rects_in (l.layout.rooms + 4 - l.v) l.v l.layout.rects.now)
    ≡ all (inside_sheet l.layout.width l.layout.height) (rects_lent l.layout)
