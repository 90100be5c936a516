use Prim.Native.Nat.{◌-◌}
use mathlib.Core.Path.{◌≡◌}
use mathlib.Core.Bool.{true}
use lib.ListN.{length}
use Rattle.floor.specs.Walls.{star_rules}
use Rattle.stars.specs.Held.{cells}
use Rattle.walls.specs.Jobs.{axis_of, star_named}
use Rattle.walls.proofs.Running.{Going}
use Rattle.walls.proofs.rules.Rules.star.Given as goal

abbrev pub invariant-loop-k : goal.invariant-loop-k
invariant-loop-k l =
    (length l.f ≡ length l.initial.f) × (star_named (length l.initial.f) (cells (l.end - l.k) l.k l.self.stars.nbr.now l.self.stars.kind.now) ≡ true)
    × Going l.done (star_rules (axis_of l.self.way) l.u (cells (l.end - l.k) l.k l.self.stars.nbr.now l.self.stars.kind.now)) (star_rules (axis_of l.self.way) l.u (cells (l.end - l.from) l.from l.self.stars.nbr.now l.self.stars.kind.now)) l.initial.f l.f l.self.top
