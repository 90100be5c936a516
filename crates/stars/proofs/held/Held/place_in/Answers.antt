use Rattle.stars.proofs.Holding.{place_here, place_next, place_done}
use borrow.Author.Rules.{rules}
use Rattle.stars.proofs.held.Held.place_in.Goals as goal

pub returns-then-to_at-v : goal.returns-then-to_at-v
returns-then-to_at-v c = search (place_here, rules)

pub loop-k-preserved : goal.loop-k-preserved
loop-k-preserved c = search (place_next, rules)

pub returns : goal.returns
returns c = search (place_done, rules)
