use borrow.Author.Rules.{rules}
use native.Mathlib.Nat.{sub-zero}
use Rattle.stars.proofs.Sized.{each_false, each_next, each_done}
use Rattle.stars.proofs.least.Least.each_ok.Goals as goal

pub loop-i-init : goal.loop-i-init
loop-i-init c = rw sub-zero

pub returns-then-not-size_ok : goal.returns-then-not-size_ok
returns-then-not-size_ok c = search (each_false, rules)

pub loop-i-preserved : goal.loop-i-preserved
loop-i-preserved c = search (each_next, rules)

pub returns : goal.returns
returns c = search (each_done, rules)
