use Rattle.letters.proofs.Rows.{refusal_put}
use borrow.Author.Rules.{rules}
use Rattle.letters.proofs.line.put_refusal.Goals as goal

pub returns : goal.returns
returns c = search (refusal_put, rules)
