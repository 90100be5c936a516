use mathlib.Core.Path.{◌≡◌}
use lib.ListN.{length}
use Rattle.walls.specs.Steps.{Climbs, rules_of}
use Rattle.walls.proofs.rules.Rules.go_round.Given as goal

abbrev pub invariant-loop-round : goal.invariant-loop-round
invariant-loop-round l = (length l.f ≡ length l.initial.f) × Climbs l.done (rules_of l.self) l.initial.f l.f l.self.top
