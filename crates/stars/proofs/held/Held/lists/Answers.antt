use Rattle.stars.proofs.Holding.{side_lists, none_lists, room_lists}
use borrow.Author.Rules.{rules}
use Rattle.stars.proofs.held.Held.lists.Goals as goal

pub returns-then-v-lt4 : goal.returns-then-v-lt4
returns-then-v-lt4 c = search (side_lists, rules)

pub returns-then-self-v : goal.returns-then-self-v
returns-then-self-v c = search (none_lists, rules)

pub returns : goal.returns
returns c = search (room_lists, rules)
