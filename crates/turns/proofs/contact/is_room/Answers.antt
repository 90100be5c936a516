use Rattle.turns.proofs.Contacts.{low_room, high_room}
use borrow.Author.Rules.{rules}
use Rattle.turns.proofs.contact.is_room.Goals as goal

pub returns-else-v-ge4 : goal.returns-else-v-ge4
returns-else-v-ge4 c = search (low_room, rules)

pub returns-then-v-ge4 : goal.returns-then-v-ge4
returns-then-v-ge4 c = search (high_room, rules)
