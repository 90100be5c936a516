use native.Mathlib.Nat.{sub-zero}
use Rattle.walls.proofs.Telling.{all_false, all_next, all_done}
use borrow.Author.Rules.{rules}
use Rattle.walls.proofs.vertices.all_named.Goals as goal

pub loop-i-init : goal.loop-i-init
loop-i-init c = rw sub-zero

pub returns-then-not-star_named : goal.returns-then-not-star_named
returns-then-not-star_named c = search (all_false, rules)

pub loop-i-preserved : goal.loop-i-preserved
loop-i-preserved c = search (all_next, rules)

pub returns : goal.returns
returns c = search (all_done, rules)
