use Prim.Native.Nat.{◌*◌, ◌-◌}
use mathlib.Core.Path.{◌≡◌}
use lib.ListN.{length}
use Rattle.floor.specs.Walls.Relax.{total, Reached}
use Rattle.walls.specs.Steps.{Capped, rules_of}
use Rattle.walls.proofs.rules.Rules.settle.Given as goal

abbrev pub invariant-loop : goal.invariant-loop
invariant-loop l = (length l.f ≡ length l.initial.f) × Reached (rules_of l.self) l.f × Capped l.f l.self.top

abbrev pub decreases-loop : goal.decreases-loop
decreases-loop l = length l.initial.f * l.self.top - total l.f
