use Rattle.cuts.proofs.Linking.{by_first, by_follows, by_no_room}
use borrow.Author.Rules.{rules}
use Rattle.cuts.proofs.links.Rooms.room_by.Goals as goal

pub returns-then-first-eq0 : goal.returns-then-first-eq0
returns-then-first-eq0 c = search (by_no_room, rules)

pub room_from-requires : goal.room_from-requires
room_from-requires c = (search rules, search rules, search rules, search (by_first, rules), search (by_follows, rules))
