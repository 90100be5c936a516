use Rattle.turns.proofs.Contacts.{kind_next, kind_before}
use borrow.Author.Rules.{rules}
use Rattle.turns.proofs.contact.turned_kind.Goals as goal

pub returns-then-last : goal.returns-then-last
returns-then-last c = search (kind_next, rules)

pub returns : goal.returns
returns c = search (kind_before, rules)
