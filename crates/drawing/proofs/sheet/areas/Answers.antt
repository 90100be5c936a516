use native.Mathlib.Nat.{sub-zero}
use Rattle.drawing.proofs.Asking.{sum_next, sum_done}
use borrow.Author.Rules.{rules}
use Rattle.drawing.proofs.sheet.areas.Goals as goal

pub loop-v-init : goal.loop-v-init
loop-v-init c = (search rules, rw sub-zero (search rules))

pub loop-v-preserved : goal.loop-v-preserved
loop-v-preserved c = (search rules, search (sum_next, rules))

pub returns : goal.returns
returns c = search (sum_done, rules)
