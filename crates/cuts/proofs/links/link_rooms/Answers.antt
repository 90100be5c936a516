use borrow.Author.Rules.{rules}
use Rattle.cuts.proofs.Linking.{link_start, link_on, link_done}
use Rattle.cuts.proofs.links.link_rooms.Goals as goal

pub loop-v-init : goal.loop-v-init
loop-v-init c = (search rules, search rules, search rules, search rules, search (link_start, rules))

pub loop-v-preserved : goal.loop-v-preserved
loop-v-preserved c = (
  search rules,
  search rules,
  search rules,
  search rules,
  link_on _ _ _ _ _ _ _ c.loop-v-test.true c.loop-v.invariant.1 (search rules) c.link_room.ensures.0 c.link_room.ensures.1 c.loop-v.invariant.4,
)

pub returns : goal.returns
returns c = search (link_done, rules)
