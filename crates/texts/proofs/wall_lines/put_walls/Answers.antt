use mathlib.Core.Path.{refl}
use native.Mathlib.Omega.{arith}
use Rattle.texts.proofs.Registers.{walls_none, none_short, walls_more, more_short, walls_done, walls_short}
use borrow.Author.Rules.{rules}
use Rattle.texts.proofs.wall_lines.put_walls.Goals as goal

pub loop-i-init : goal.loop-i-init
loop-i-init c = (refl, omega arith, walls_none _ _ _ _, none_short _ _)

pub loop-i-preserved : goal.loop-i-preserved
loop-i-preserved c = (search rules, search rules, search (walls_more, rules), search (more_short, rules))

pub returns : goal.returns
returns c = (search (walls_done, rules), search (walls_short, rules))
