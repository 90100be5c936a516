use Rattle.registers.proofs.Putting.{stands_upright, lies_level}
use borrow.Author.Rules.{rules}
use Rattle.registers.proofs.put.direction.Goals as goal

pub returns-then-i-uprights : goal.returns-then-i-uprights
returns-then-i-uprights c = search (stands_upright, rules)

pub returns-else-i-uprights : goal.returns-else-i-uprights
returns-else-i-uprights c = search (lies_level, rules)
