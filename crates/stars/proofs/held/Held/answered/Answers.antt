use native.Mathlib.Nat.{sub-zero}
use Rattle.stars.proofs.Holding.{stars_false, stars_next, stars_rest, test6_held}
use borrow.Author.Rules.{rules}
use Rattle.stars.proofs.held.Held.answered.Goals as goal

pub loop-i-init : goal.loop-i-init
loop-i-init c = rw sub-zero

pub returns-then-not-star_answered : goal.returns-then-not-star_answered
returns-then-not-star_answered c = search (test6_held, stars_false, rules)

pub loop-i-preserved : goal.loop-i-preserved
loop-i-preserved c = search (stars_next, rules)

pub returns : goal.returns
returns c = search (test6_held, stars_rest, rules)
