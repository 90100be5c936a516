use Prim.Native.Nat.{◌-◌}
use mathlib.Core.Path.{◌≡◌}
use Rattle.floor.specs.Lists.{all}
use Rattle.stars.specs.Held.{stars_in, job_held}
use Rattle.drawing.specs.Rects.{rects_lent}
use Rattle.drawing.specs.Tests.{star_ordered}
use Rattle.drawing.proofs.order.all_ordered.Given as goal

abbrev pub invariant-loop-i : goal.invariant-loop-i
invariant-loop-i l =
    all (star_ordered (rects_lent l.layout)) (stars_in (l.stars.count - l.i) l.i l.stars.ends.now l.stars.nbr.now l.stars.kind.now)
    ≡ all (star_ordered (rects_lent l.layout)) (job_held l.stars)
