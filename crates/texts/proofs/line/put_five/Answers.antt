use mathlib.Core.Path.{refl}
use Rattle.texts.proofs.Rows.{more_puts, five_short}
use borrow.Author.Rules.{rules}
use Rattle.texts.proofs.line.put_five.Goals as goal

pub returns : goal.returns
returns c = (
  more_puts _ _ _ _ _ _ _ _ _ _ refl c.put_then-second.ensures
      (more_puts _ _ _ _ _ _ _ _ _ _ c.from.ensures c.put_then-third.ensures
      (more_puts _ _ _ _ _ _ _ _ _ _ c.from-2.ensures c.put_then-fourth.ensures c.put_two.ensures.0)),
  λ h. five_short _ _ _ _ _ h (search rules) (search rules) (search rules) (search rules),
)
