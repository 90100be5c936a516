use Prim.Native.Nat.{◌+◌, ◌-◌}
use mathlib.Core.Path.{◌≡◌}
use mathlib.Core.Bool.{true}
use lib.ListN.{length}
use Rattle.floor.specs.Walls.{extra, rules_from}
use Rattle.stars.specs.Held.{stars_in}
use Rattle.stars.specs.Sized.{sizes_lent}
use Rattle.walls.specs.Steps.{rules_of, sides_of}
use Rattle.walls.specs.Jobs.{axis_of, named}
use Rattle.walls.proofs.Running.{Going}
use Rattle.walls.proofs.rules.Rules.pass.Given as goal

abbrev pub invariant-loop-i : goal.invariant-loop-i
invariant-loop-i l =
    (length l.f ≡ length l.initial.f) × (named (sides_of l.self) (stars_in (l.self.stars.count - l.i) l.i l.self.stars.ends.now l.self.stars.nbr.now l.self.stars.kind.now) ≡ true)
    × Going l.done (rules_from (axis_of l.self.way) (extra (axis_of l.self.way) (sizes_lent l.self.sizes)) (4 + l.i) (stars_in (l.self.stars.count - l.i) l.i l.self.stars.ends.now l.self.stars.nbr.now l.self.stars.kind.now))
    (rules_of l.self) l.initial.f l.f l.self.top
