use Rattle.narrowing.proofs.Trying.{two_brief}
use borrow.Author.Rules.{rules}
use Rattle.narrowing.proofs.tries.brief.Goals as goal

pub returns : goal.returns
returns c = search (two_brief, rules)
