use Rattle.jobs.proofs.Walks.{place_next, place_here}
use borrow.Author.Rules.{rules}
use Rattle.jobs.proofs.walk.place_after.Goals as goal

pub loop-i-preserved : goal.loop-i-preserved
loop-i-preserved c = search (place_next, rules)

pub returns : goal.returns
returns c = search (place_here, rules)
