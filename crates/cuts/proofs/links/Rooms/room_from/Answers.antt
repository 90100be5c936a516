use borrow.Author.Rules.{rules}
use Rattle.cuts.proofs.Linking.{leaf_here, leaf_none, from_start, from_there, follow_none, follow_on, follow_there}
use Rattle.cuts.proofs.links.Rooms.room_from.Goals as goal

pub loop-w-init : goal.loop-w-init
loop-w-init c = (search (from_there, rules), search (from_start, rules))

pub returns-then-is_box : goal.returns-then-is_box
returns-then-is_box c = search (leaf_here, rules)

pub returns-then-n-w : goal.returns-then-n-w
returns-then-n-w c =
    follow_none _ _ _ _ _ c.args.self.now.next.now _ c.is_box.ensures c.if-is_box.false c.loop-w.invariant.0 c.requires.4 _ c.next_of-n.ensures
    c.loop-w.invariant.1 (search rules)

pub loop-w-preserved : goal.loop-w-preserved
loop-w-preserved c = (
  follow_there _ _ _ _ _ c.args.self.now.next.now _ c.is_box.ensures c.if-is_box.false c.loop-w.invariant.0 c.requires.4 _ c.next_of-n.ensures
      c.loop-w.invariant.1 (search rules),
  follow_on _ _ _ _ _ c.args.self.now.next.now _ c.is_box.ensures c.if-is_box.false c.loop-w.invariant.0 c.requires.4 _ c.next_of-n.ensures
      c.loop-w.invariant.1 (search rules),
)

pub returns : goal.returns
returns c = search (leaf_none, rules)
