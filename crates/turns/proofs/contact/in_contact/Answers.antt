use Rattle.turns.proofs.Contacts.{no_first, no_second, two_rooms}
use borrow.Author.Rules.{rules}
use Rattle.turns.proofs.contact.in_contact.Goals as goal

pub returns-then-not-is_room : goal.returns-then-not-is_room
returns-then-not-is_room c = search (no_first, rules)

pub returns-then-not-is_room-2 : goal.returns-then-not-is_room-2
returns-then-not-is_room-2 c = search (no_second, rules)

pub returns : goal.returns
returns c = search (two_rooms, rules)
