use lib.Seq.{set_out}
use borrow.Author.Rules.{rules}
use Rattle.turns.proofs.place.set_kind.Goals as goal

pub returns-else-place-kind : goal.returns-else-place-kind
returns-else-place-kind c = search (set_out, rules)
