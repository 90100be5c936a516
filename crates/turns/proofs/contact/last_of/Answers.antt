use Rattle.stars.proofs.Round.{links_true, links_other, links_no}
use Rattle.turns.proofs.Contacts.{last_first}
use borrow.Author.Rules.{rules}
use Rattle.turns.proofs.contact.last_of.Goals as goal

pub loop-k-init : goal.loop-k-init
loop-k-init c = search (last_first, rules)

pub returns-then-ends_at : goal.returns-then-ends_at
returns-then-ends_at c = search (links_true, rules)

pub loop-k-preserved : goal.loop-k-preserved
loop-k-preserved c = search (links_other, rules)

pub returns : goal.returns
returns c = search (links_no, rules)
