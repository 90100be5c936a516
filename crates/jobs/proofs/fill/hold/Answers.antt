use Rattle.jobs.proofs.Filling.{hold_first, room_in, room_word, room_behind, hold_next, hold_done}
use borrow.Author.Rules.{rules}
use Rattle.jobs.proofs.fill.hold.Goals as goal

pub loop-i-init : goal.loop-i-init
loop-i-init c =
    hold_first c.args.job.now _ _ c.args.from _ c.none_held-held.ensures c.from-count.ensures c.requires.1

pub put_star-requires : goal.put_star-requires
put_star-requires c = (search (room_in, rules), search (room_in, rules))

pub overflow_cast-held : goal.overflow_cast-held
overflow_cast-held c = search (room_word, rules)

pub loop-i-preserved : goal.loop-i-preserved
loop-i-preserved c = (
  search rules,
  search rules,
  search rules,
  search rules,
  search (room_behind, rules),
  hold_next _ _ _ c.loop-i.at _ _ _ _ _ _ _ _ _ c.loop-i-test.true c.value_at-star.ensures c.after_at-at.ensures c.put_star.ensures.0
      c.put_star.ensures.1 c.loop-i.invariant.5,
)

pub returns : goal.returns
returns c = search (hold_done, rules)
