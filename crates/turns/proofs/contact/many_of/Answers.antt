use Rattle.turns.proofs.Contacts.{many_first, many_more, many_done}
use borrow.Author.Rules.{rules}
use Rattle.turns.proofs.contact.many_of.Goals as goal

pub loop-k-init : goal.loop-k-init
loop-k-init c = (search rules, search (many_first, rules))

pub loop-k-preserved : goal.loop-k-preserved
loop-k-preserved c = (search rules, search (many_more, rules))

pub returns : goal.returns
returns c = search (many_done, rules)
