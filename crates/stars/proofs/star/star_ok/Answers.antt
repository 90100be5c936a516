use Rattle.stars.proofs.Entries.{star_changes, star_twice}
use borrow.Author.Rules.{rules}
use Rattle.stars.proofs.star.star_ok.Goals as goal

pub returns-then-changes_round-ne4 : goal.returns-then-changes_round-ne4
returns-then-changes_round-ne4 c = search (star_changes, rules)

pub returns : goal.returns
returns c = search (star_twice, rules)
