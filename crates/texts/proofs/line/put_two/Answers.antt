use Rattle.texts.proofs.Rows.{more_puts, two_short}
use borrow.Author.Rules.{rules}
use Rattle.texts.proofs.line.put_two.Goals as goal

pub returns : goal.returns
returns c = (
  more_puts _ _ _ _ _ _ _ _ _ _ c.from.ensures c.put_then-next.ensures (rw c.from-2.ensures at c.put_one.ensures),
  two_short _ _ (search rules) (search rules),
)
