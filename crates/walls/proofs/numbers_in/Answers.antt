use Rattle.walls.proofs.Numbering.{rooms_fit, rooms_hold, all_vertices, numbers_some, numbers_none}
use borrow.Author.Rules.{rules}
use Rattle.walls.proofs.numbers_in.Goals as goal

pub top_of-requires : goal.top_of-requires
top_of-requires c = search (rooms_fit, rules)

pub number_front-requires : goal.number_front-requires
number_front-requires c = search (rooms_hold, rules)

pub returns-then-number_front : goal.returns-then-number_front
returns-then-number_front c = search (numbers_some, rules)

pub returns-else-number_front : goal.returns-else-number_front
returns-else-number_front c = search (numbers_none, rules)

pub invariant_of-rules-clause-few : goal.invariant_of-rules-clause-few
invariant_of-rules-clause-few c = search (rooms_fit, rules)

pub invariant_of-rules-clause-in_job : goal.invariant_of-rules-clause-in_job
invariant_of-rules-clause-in_job c = search (all_vertices, rules)
