use Prim.Native.Nat.{◌+◌, ◌-◌}
use mathlib.Core.Path.{◌≡◌}
use Rattle.floor.specs.Lists.{pairwise}
use Rattle.stars.specs.Held.{job_held}
use Rattle.drawing.specs.Rects.{rects_in, rects_lent}
use Rattle.drawing.specs.Tests.{pair_ok}
use Rattle.drawing.proofs.pairs.all_pairs.Given as goal

abbrev pub invariant-loop-v : goal.invariant-loop-v
invariant-loop-v l =
    pairwise (pair_ok (job_held l.stars)) (rects_in (l.layout.rooms + 4 - l.v) l.v l.layout.rects.now)
    ≡ pairwise (pair_ok (job_held l.stars)) (rects_lent l.layout)
