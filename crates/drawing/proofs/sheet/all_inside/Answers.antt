use native.Mathlib.Nat.{sub-zero}
use Rattle.drawing.proofs.Asking.{rects_false, rects_next, rects_all}
use borrow.Author.Rules.{rules}
use Rattle.drawing.proofs.sheet.all_inside.Goals as goal

pub loop-v-init : goal.loop-v-init
loop-v-init c = rw sub-zero

pub returns-then-not-inside : goal.returns-then-not-inside
returns-then-not-inside c = search (rects_false, rules)

pub loop-v-preserved : goal.loop-v-preserved
loop-v-preserved c = search (rects_next, rules)

pub returns : goal.returns
returns c = search (rects_all, rules)
