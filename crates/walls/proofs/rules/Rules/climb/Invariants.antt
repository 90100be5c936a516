use mathlib.Core.Path.{◌≡◌}
use lib.ListN.{length}
use Rattle.walls.specs.Steps.{Climbs, rules_of}
use Rattle.walls.proofs.rules.Rules.climb.Given as goal

abbrev pub invariant-loop-visit : goal.invariant-loop-visit
invariant-loop-visit l = (length l.f ≡ length l.initial.f) × Climbs l.done (rules_of l.self) l.initial.f l.f l.self.top
