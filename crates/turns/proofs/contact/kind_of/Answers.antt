use Rattle.turns.proofs.Contacts.{kind_here, kind_none}
use borrow.Author.Rules.{rules}
use Rattle.turns.proofs.contact.kind_of.Goals as goal

pub returns-then-place-end_of : goal.returns-then-place-end_of
returns-then-place-end_of c = search (kind_here, rules)

pub returns : goal.returns
returns c = search (kind_none, rules)
