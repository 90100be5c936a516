use Rattle.registers.proofs.Reading.{wall_past, wall_read}
use borrow.Author.Rules.{rules}
use Rattle.registers.proofs.held.wall_at.Goals as goal

pub returns-then-rows-i : goal.returns-then-rows-i
returns-then-rows-i c = search (wall_past, rules)

pub returns : goal.returns
returns c = search (wall_read, rules)
