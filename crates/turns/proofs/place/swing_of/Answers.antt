use Rattle.std.proofs.Common.{ap, not}
use Rattle.turns.proofs.Contacts.{met_rooms}
use Rattle.turns.proofs.Placing.{swing_none, swing_from_first, swing_from_second}
use borrow.Author.Rules.{rules}
use Rattle.turns.proofs.place.swing_of.Goals as goal

pub returns-then-not-in_contact : goal.returns-then-not-in_contact
returns-then-not-in_contact c = search (swing_none, rules)

pub overflow_sub-u : goal.overflow_sub-u
overflow_sub-u c = (met_rooms _ _ _ _ _ _ _ c.in_contact.ensures (ap not c.if-not-in_contact.false)).0

pub swing_at-requires : goal.swing_at-requires
swing_at-requires c = met_rooms _ _ _ _ _ _ _ c.in_contact.ensures (ap not c.if-not-in_contact.false)

pub returns-then-leads : goal.returns-then-leads
returns-then-leads c = search (swing_from_first, rules)

pub swing_at-requires-2 : goal.swing_at-requires-2
swing_at-requires-2 c = let rooms = met_rooms _ _ _ _ _ _ _ c.in_contact.ensures (ap not c.if-not-in_contact.false) in
    (rooms.2, rooms.3, rooms.0, rooms.1)

pub returns : goal.returns
returns c = search (swing_from_second, rules)
