use Rattle.walls.specs.Numbers.{walls_of}
use Rattle.walls.proofs.Numbering.{none_good, first_none, second_none, both_numbered}
use borrow.Author.Rules.{rules}
use Rattle.walls.proofs.walls_of.Goals as goal

pub returns-then-not-can_number : goal.returns-then-not-can_number
unfolding walls_of
returns-then-not-can_number c = search (none_good, rules)

pub returns-in_err-uprights : goal.returns-in_err-uprights
unfolding walls_of
returns-in_err-uprights c = search (first_none, rules)

pub returns-in_err-levels : goal.returns-in_err-levels
unfolding walls_of
returns-in_err-levels c = search (second_none, rules)

pub returns : goal.returns
unfolding walls_of
returns c = search (both_numbered, rules)
