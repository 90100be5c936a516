use Rattle.jobs.proofs.Walks.{entries_false, entries_next, entries_done}
use borrow.Author.Rules.{rules}
use Rattle.jobs.proofs.walk.entries_pass.Goals as goal

pub returns-then-not-entries_ok : goal.returns-then-not-entries_ok
returns-then-not-entries_ok c = search (entries_false, rules)

pub loop-i-preserved : goal.loop-i-preserved
loop-i-preserved c = search (entries_next, rules)

pub returns : goal.returns
returns c = search (entries_done, rules)
