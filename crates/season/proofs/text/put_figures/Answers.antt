use Rattle.std.proofs.Common.{refl, arith, rules}
use Rattle.season.proofs.Printing.{lines_none, none_short, lines_more, more_short, lines_done, done_short}
use Rattle.season.proofs.text.put_figures.Goals as goal

pub loop-sum-init : goal.loop-sum-init
loop-sum-init c = (refl, omega arith, lines_none _, none_short)

pub loop-sum-preserved : goal.loop-sum-preserved
loop-sum-preserved c = (search rules, search rules, search (lines_more, rules), more_short c.args.sums.now c.loop-sum.sum-index (search rules) (omega (arith, c.type_inv.sums c.loop-sum.sum-index)) (search rules))

pub returns : goal.returns
returns c = (search (lines_done, rules), search (done_short, rules))
