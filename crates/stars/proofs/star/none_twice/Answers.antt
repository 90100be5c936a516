use Rattle.stars.proofs.Entries.{twice_false, twice_next, twice_done}
use Rattle.stars.proofs.star.none_twice.Goals as goal

pub returns-then-not-apart_from : goal.returns-then-not-apart_from
returns-then-not-apart_from c = twice_false _ _ _ c.apart_from.ensures c.if-not-apart_from.true c.in-len2-up.len_at_least c.entries.invariant

pub entries-preserved : goal.entries-preserved
entries-preserved c = twice_next _ _ _ c.apart_from.ensures c.if-not-apart_from.false c.in-len2-up.len_at_least c.entries.invariant

pub returns : goal.returns
returns c = twice_done _ _ c.in_default.len_below c.entries.invariant
