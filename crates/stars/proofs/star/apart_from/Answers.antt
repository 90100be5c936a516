use Rattle.stars.proofs.Entries.{apart_false, apart_next, all_done}
use Rattle.stars.proofs.star.apart_from.Goals as goal

pub returns-then-to-other : goal.returns-then-to-other
returns-then-to-other c = apart_false _ _ _ c.args.kind c.if-to-other.true c.in-len2-up.len_at_least c.others.invariant

pub others-preserved : goal.others-preserved
others-preserved c = apart_next _ _ _ c.args.kind c.if-to-other.false c.in-len2-up.len_at_least c.others.invariant

pub returns : goal.returns
returns c = all_done _ _ _ c.in_default.len_below c.others.invariant
