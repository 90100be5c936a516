use Rattle.cuts.proofs.Looking.{look_leaf, look_upright, look_level, look_stuck}
use borrow.Author.Rules.{rules}
use Rattle.cuts.proofs.look.look.Goals as goal

pub returns-in-Some : goal.returns-in-Some
returns-in-Some c = search (look_leaf, rules)

pub returns-in-Some-cut : goal.returns-in-Some-cut
returns-in-Some-cut c = search (look_upright, rules)

pub returns-in-Some-cut-2 : goal.returns-in-Some-cut-2
returns-in-Some-cut-2 c = search (look_level, rules)

pub returns : goal.returns
returns c = search (look_stuck, rules)
