use Rattle.drawing.proofs.Asking.{rects_false, rects_next, rects_all}
use borrow.Author.Rules.{rules}
use Rattle.drawing.proofs.pairs.later_ok.Goals as goal

pub returns-then-not-pair_ok : goal.returns-then-not-pair_ok
returns-then-not-pair_ok c = search (rects_false, rules)

pub loop-v-preserved : goal.loop-v-preserved
loop-v-preserved c = search (rects_next, rules)

pub returns : goal.returns
returns c = search (rects_all, rules)
