use Rattle.cuts.proofs.Writing.{says_so}
use borrow.Author.Rules.{rules}
use Rattle.cuts.proofs.sliceable.Goals as goal

pub returns : goal.returns
returns c = search (says_so, rules)
