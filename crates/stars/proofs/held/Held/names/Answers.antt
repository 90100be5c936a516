use Rattle.stars.proofs.Holding.{side_names, none_names, room_names}
use borrow.Author.Rules.{rules}
use borrow.Author.Rules.{rules}
use Rattle.stars.proofs.held.Held.names.Goals as goal

pub returns-then-v-lt4 : goal.returns-then-v-lt4
returns-then-v-lt4 c = search (side_names, rules)

pub returns-then-self-v : goal.returns-then-self-v
returns-then-self-v c = search (none_names, rules)

pub returns : goal.returns
returns c = search (room_names, rules)
