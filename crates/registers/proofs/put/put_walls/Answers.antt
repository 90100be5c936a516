use mathlib.Core.Path.{refl}
use Rattle.registers.proofs.Putting.{walls_first, walls_more, walls_done}
use borrow.Author.Rules.{rules}
use Rattle.registers.proofs.put.put_walls.Goals as goal

pub loop-i-init : goal.loop-i-init
loop-i-init c = (refl, walls_first _ _ _ _)

pub loop-i-preserved : goal.loop-i-preserved
loop-i-preserved c = (search rules, search (walls_more, rules))

pub returns : goal.returns
returns c = search (walls_done, rules)
