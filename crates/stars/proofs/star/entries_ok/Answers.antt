use Rattle.stars.proofs.Entries.{all_false, all_next, all_done}
use borrow.Author.Rules.{rules}
use Rattle.stars.proofs.star.entries_ok.Goals as goal

pub returns-then-not-entry_ok : goal.returns-then-not-entry_ok
returns-then-not-entry_ok c = search (all_false, rules)

pub entries-preserved : goal.entries-preserved
entries-preserved c = all_next _ _ _ _ c.entry_ok.ensures c.if-not-entry_ok.false c.in-len2-up.len_at_least c.entries.invariant

pub returns : goal.returns
returns c = all_done _ _ _ c.in_default.len_below c.entries.invariant
