use Rattle.stars.proofs.Holding.{answer_side, answer_room}
use borrow.Author.Rules.{rules}
use Rattle.stars.proofs.held.Held.entry_answered.Goals as goal

pub returns-then-v-lt4 : goal.returns-then-v-lt4
returns-then-v-lt4 c = search (answer_side, rules)

pub returns : goal.returns
returns c = search (answer_room, rules)
