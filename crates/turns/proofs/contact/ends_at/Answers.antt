use Rattle.turns.proofs.Contacts.{ends_elsewhere, ends_here}
use borrow.Author.Rules.{rules}
use Rattle.turns.proofs.contact.ends_at.Goals as goal

pub returns-then-to_at-v : goal.returns-then-to_at-v
returns-then-to_at-v c = search (ends_elsewhere, rules)

pub returns : goal.returns
returns c = search (ends_here, rules)
