use mathlib.Core.Path.{◌≡◌}
use Rattle.floor.specs.Lists.{any}
use Rattle.floor.specs.Turns.{ends_at, is_last}
use Rattle.stars.specs.Held.{links_from, held_star}
use Rattle.turns.proofs.contact.last_of.Given as goal

abbrev pub invariant-loop-k : goal.invariant-loop-k
invariant-loop-k l = any (ends_at l.v) (links_from l.«from» l.end l.stars.nbr.now l.stars.kind.now l.k) ≡ is_last (held_star l.stars.ends.now l.stars.nbr.now l.stars.kind.now l.i) l.v
