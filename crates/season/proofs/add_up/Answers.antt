use Rattle.std.proofs.Common.{refl, rules}
use Rattle.season.proofs.Adding.{add_more, add_done}
use Rattle.season.proofs.add_up.Goals as goal

pub loop-i-init : goal.loop-i-init
loop-i-init c = (refl, refl)

pub loop-i-preserved : goal.loop-i-preserved
loop-i-preserved c = (search rules, add_more c.loop-i.sums c.args.more.now _ c.loop-i.i c.loop-i.invariant.1 _ (search rules) (search rules) refl)

pub returns : goal.returns
returns c = add_done c.loop-i.sums c.args.more.now _ c.loop-i.i c.loop-i.invariant.1 (search rules)
