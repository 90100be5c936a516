use Rattle.cuts.proofs.Linking.{link_next, link_head}
use borrow.Author.Rules.{rules}
use Rattle.cuts.proofs.links.link_room.Goals as goal

pub returns : goal.returns
returns c = (search (link_next, rules), search (link_head, rules))
