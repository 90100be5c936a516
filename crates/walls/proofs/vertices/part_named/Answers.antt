use Rattle.walls.proofs.Telling.{part_false, part_next, part_done}
use borrow.Author.Rules.{rules}
use Rattle.walls.proofs.vertices.part_named.Goals as goal

pub returns-then-sides-to_at : goal.returns-then-sides-to_at
returns-then-sides-to_at c = search (part_false, rules)

pub loop-k-preserved : goal.loop-k-preserved
loop-k-preserved c = search (part_next, rules)

pub returns : goal.returns
returns c = search (part_done, rules)
