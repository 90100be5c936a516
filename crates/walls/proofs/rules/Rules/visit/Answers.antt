use Rattle.walls.proofs.Visiting.{visit_climbs, own_climbs, place_low, place_high}
use borrow.Author.Rules.{rules}
use Rattle.walls.proofs.rules.Rules.visit.Goals as goal

pub returns-else-self-i : goal.returns-else-self-i
returns-else-self-i c = search (own_climbs, rules)

pub returns-else-end_of-k : goal.returns-else-end_of-k
returns-else-end_of-k c = search (visit_climbs, place_low, place_high, rules)
