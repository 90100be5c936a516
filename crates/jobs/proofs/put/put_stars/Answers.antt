use Rattle.jobs.proofs.Writing.{room_field, room_later, stars_more, stars_done}
use borrow.Author.Rules.{rules}
use Rattle.jobs.proofs.put.put_stars.Goals as goal

pub put_field-at-requires : goal.put_field-at-requires
put_field-at-requires c = (search rules, search (room_field, rules))

pub loop-i-preserved : goal.loop-i-preserved
loop-i-preserved c = (search rules, search (room_later, rules), search (stars_more, rules))

pub returns : goal.returns
returns c = search (stars_done, rules)
