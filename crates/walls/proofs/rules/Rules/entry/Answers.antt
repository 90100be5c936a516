use Rattle.walls.proofs.Telling.{ran_far, ran_near, ran_cross, ran_side, ran_other}
use borrow.Author.Rules.{rules}
use Rattle.walls.proofs.rules.Rules.entry.Goals as goal

pub returns-then-kind-far : goal.returns-then-kind-far
returns-then-kind-far c = search (ran_far, rules)

pub returns-then-kind-near : goal.returns-then-kind-near
returns-then-kind-near c = search (ran_near, rules)

pub returns-then-v-ge4 : goal.returns-then-v-ge4
returns-then-v-ge4 c = search (ran_cross, rules)

pub returns-else-v-ge4 : goal.returns-else-v-ge4
returns-else-v-ge4 c = search (ran_side, rules)

pub returns-else-kind-cross : goal.returns-else-kind-cross
returns-else-kind-cross c = search (ran_other, rules)
