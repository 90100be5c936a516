use native.Mathlib.Nat.{sub-zero}
use native.Mathlib.Omega.{arith}
use Rattle.elsewhere.proofs.Asking.{corner_next, corner_done}
use borrow.Author.Rules.{rules}
use Rattle.elsewhere.proofs.rooms.in_corner.Goals as goal

pub loop-i-init : goal.loop-i-init
loop-i-init c = (search rules, rw sub-zero (omega arith))

pub loop-i-preserved : goal.loop-i-preserved
loop-i-preserved c = (search rules, search (corner_next, rules))

pub returns : goal.returns
returns c = search (corner_done, rules)
