use mathlib.Core.Path.{refl}
use native.Mathlib.Omega.{arith}
use Rattle.texts.proofs.Plans.{lines_none, none_short, rects_more, more_short, rects_done, rects_short}
use borrow.Author.Rules.{rules}
use Rattle.texts.proofs.plan.put_rects.Goals as goal

pub loop-v-init : goal.loop-v-init
loop-v-init c = (refl, omega arith, lines_none _ _, none_short)

pub loop-v-preserved : goal.loop-v-preserved
loop-v-preserved c = (search rules, search rules, search (rects_more, rules), search (more_short, rules))

pub returns : goal.returns
returns c = (search (rects_done, rules), search (rects_short, rules))
