use Rattle.letters.proofs.Rows.{both_puts}
use borrow.Author.Rules.{rules}
use Rattle.letters.proofs.line.put_then.Goals as goal

pub returns : goal.returns
returns c = search (both_puts, rules)
