use mathlib.Core.Path.{refl}
use Rattle.job_texts.proofs.Put.{rooms_first, rooms_next, rooms_done}
use borrow.Author.Rules.{rules}
use Rattle.job_texts.proofs.write.put_rooms.Goals as goal

pub loop-i-init : goal.loop-i-init
loop-i-init c = (refl, search (rooms_first, rules))

pub loop-i-preserved : goal.loop-i-preserved
loop-i-preserved c = (search rules, search (rooms_next, rules))

pub returns : goal.returns
returns c = search (rooms_done, rules)
