use mathlib.Core.Path.{refl}
use Rattle.drawing.proofs.Placing.{rooms_first, rooms_more, rooms_done}
use borrow.Author.Rules.{rules}
use Rattle.drawing.proofs.place.put_rooms.Goals as goal

pub loop-i-init : goal.loop-i-init
loop-i-init c = (refl, rooms_first _ _ _ _)

pub loop-i-preserved : goal.loop-i-preserved
loop-i-preserved c = (search rules, search (rooms_more, rules))

pub returns : goal.returns
returns c = search (rooms_done, rules)
