use Rattle.cuts.proofs.Linking.{corner_is}
use borrow.Author.Rules.{rules}
use Rattle.cuts.proofs.links.corner_at.Goals as goal

pub returns : goal.returns
returns c = search (corner_is, rules)
