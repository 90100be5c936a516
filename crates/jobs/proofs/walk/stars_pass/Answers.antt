use Rattle.jobs.proofs.Walks.{stars_false, stars_next, stars_done}
use borrow.Author.Rules.{rules}
use Rattle.jobs.proofs.walk.stars_pass.Goals as goal

pub returns-then-not-star_ok : goal.returns-then-not-star_ok
returns-then-not-star_ok c = search (stars_false, rules)

pub loop-i-preserved : goal.loop-i-preserved
loop-i-preserved c = search (stars_next, rules)

pub returns : goal.returns
returns c = search (stars_done, rules)
