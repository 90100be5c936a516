use Rattle.turns.proofs.Contacts.{leads_up, leads_right}
use borrow.Author.Rules.{rules}
use Rattle.turns.proofs.contact.leads.Goals as goal

pub returns-then-kind-eq0 : goal.returns-then-kind-eq0
returns-then-kind-eq0 c = search (leads_up, rules)

pub returns-else-kind-eq0 : goal.returns-else-kind-eq0
returns-else-kind-eq0 c = search (leads_right, rules)
