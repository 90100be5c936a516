use mathlib.Core.Path.{refl}
use Rattle.texts.proofs.Rows.{more_puts, six_short}
use borrow.Author.Rules.{rules}
use Rattle.texts.proofs.line.put_six.Goals as goal

pub returns : goal.returns
returns c = (
  more_puts _ _ _ _ _ _ _ _ _ _ refl c.put_then-second.ensures (rw c.from.ensures at c.put_five.ensures.0),
  λ hu hv hs. six_short _ _ _ _ _ _ hu hv hs (search rules) (search rules) (search rules),
)
