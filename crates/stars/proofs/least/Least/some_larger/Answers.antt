use borrow.Author.Rules.{rules}
use native.Mathlib.Nat.{sub-zero}
use Rattle.stars.proofs.Sized.{some_true, some_next, some_done}
use Rattle.stars.proofs.least.Least.some_larger.Goals as goal

pub loop-i-init : goal.loop-i-init
loop-i-init c = rw sub-zero

pub returns-then-is_larger : goal.returns-then-is_larger
returns-then-is_larger c = search (some_true, rules)

pub loop-i-preserved : goal.loop-i-preserved
loop-i-preserved c = search (some_next, rules)

pub returns : goal.returns
returns c = search (some_done, rules)
