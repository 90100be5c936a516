use Rattle.stars.proofs.Sized.{none_pass, each_fails, some_passes}
use borrow.Author.Rules.{rules}
use Rattle.stars.proofs.least.Least.sizes_pass.Goals as goal

pub returns-then-self-eq0 : goal.returns-then-self-eq0
returns-then-self-eq0 c = search (none_pass, rules)

pub returns-then-not-each_ok : goal.returns-then-not-each_ok
returns-then-not-each_ok c = search (each_fails, rules)

pub returns : goal.returns
returns c = search (some_passes, rules)
