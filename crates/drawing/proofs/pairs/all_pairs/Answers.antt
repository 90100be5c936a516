use native.Mathlib.Nat.{sub-zero}
use Rattle.drawing.proofs.Asking.{pairs_false, pairs_next, pairs_all}
use borrow.Author.Rules.{rules}
use Rattle.drawing.proofs.pairs.all_pairs.Goals as goal

pub loop-v-init : goal.loop-v-init
loop-v-init c = rw sub-zero

pub returns-then-not-later_ok : goal.returns-then-not-later_ok
returns-then-not-later_ok c = search (pairs_false, rules)

pub loop-v-preserved : goal.loop-v-preserved
loop-v-preserved c = search (pairs_next, rules)

pub returns : goal.returns
returns c = search (pairs_all, rules)
