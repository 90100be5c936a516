use Rattle.fields.proofs.Laws.{after_none, after_whole}
use borrow.Author.Rules.{rules}
use Rattle.fields.proofs.after_at.Goals as goal

pub returns-in-None : goal.returns-in-None
returns-in-None c = search (after_none, rules)

pub returns-in-Some : goal.returns-in-Some
returns-in-Some c = search (after_whole, rules)
