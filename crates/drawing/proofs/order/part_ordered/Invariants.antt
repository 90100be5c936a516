use Prim.Native.Nat.{◌-◌}
use mathlib.Core.Path.{◌≡◌}
use Rattle.floor.specs.Lists.{all}
use Rattle.stars.specs.Held.{cells, links_from}
use Rattle.drawing.specs.Rects.{rects_lent}
use Rattle.drawing.specs.Tests.{ordered, star_ordered}
use Rattle.drawing.proofs.order.part_ordered.Given as goal

abbrev pub invariant-loop-a : goal.invariant-loop-a
invariant-loop-a l =
    all (ordered (rects_lent l.layout)) (links_from l.from l.end l.stars.nbr.now l.stars.kind.now l.a)
    ≡ star_ordered (rects_lent l.layout) (cells (l.end - l.from) l.from l.stars.nbr.now l.stars.kind.now)
