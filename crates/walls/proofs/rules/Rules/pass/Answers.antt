use mathlib.Core.Path.{refl}
use native.Mathlib.Nat.{sub-zero}
use Rattle.walls.proofs.Running.{going_start}
use Rattle.walls.proofs.Telling.{rooms_here, rooms_later_lem, pass_next, pass_done}
use borrow.Author.Rules.{rules}
use Rattle.walls.proofs.rules.Rules.pass.Goals as goal

pub loop-i-init : goal.loop-i-init
loop-i-init c = (refl, rw sub-zero (search rules), rw sub-zero (going_start _ _ _))

pub room-did-requires : goal.room-did-requires
room-did-requires c = (search rules, search (rooms_here, rules))

pub loop-i-preserved : goal.loop-i-preserved
loop-i-preserved c = (search rules, search (rooms_later_lem, rules), search (pass_next, rules))

pub returns : goal.returns
returns c = search (pass_done, rules)
