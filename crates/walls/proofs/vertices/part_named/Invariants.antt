use Prim.Native.Nat.{◌-◌}
use mathlib.Core.Path.{◌≡◌}
use Rattle.stars.specs.Held.{cells}
use Rattle.walls.specs.Jobs.{star_named}
use Rattle.walls.proofs.vertices.part_named.Given as goal

abbrev pub invariant-loop-k : goal.invariant-loop-k
invariant-loop-k l =
    star_named l.sides (cells (l.end - l.k) l.k l.stars.nbr.now l.stars.kind.now) ≡ star_named l.sides (cells (l.end - l.from) l.from l.stars.nbr.now l.stars.kind.now)
