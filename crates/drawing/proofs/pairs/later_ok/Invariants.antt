use Prim.Native.Nat.{◌+◌, ◌-◌}
use mathlib.Core.Path.{◌≡◌}
use Rattle.floor.specs.Lists.{all}
use Rattle.stars.specs.Held.{job_held}
use Rattle.drawing.specs.Rects.{rect_in, rects_in}
use Rattle.drawing.specs.Tests.{pair_ok}
use Rattle.drawing.proofs.pairs.later_ok.Given as goal

abbrev pub invariant-loop-v : goal.invariant-loop-v
invariant-loop-v l =
    all (pair_ok (job_held l.stars) (rect_in l.r)) (rects_in (l.layout.rooms + 4 - l.v) l.v l.layout.rects.now)
    ≡ all (pair_ok (job_held l.stars) (rect_in l.r)) (rects_in (l.layout.rooms + 4 - l.first) l.first l.layout.rects.now)
