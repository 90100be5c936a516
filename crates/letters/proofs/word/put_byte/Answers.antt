use Rattle.letters.proofs.Rows.{byte_put, byte_out}
use borrow.Author.Rules.{rules}
use Rattle.letters.proofs.word.put_byte.Goals as goal

pub returns-then-at-out : goal.returns-then-at-out
returns-then-at-out c = search (byte_put, rules)

pub returns : goal.returns
returns c = search (byte_out, rules)
