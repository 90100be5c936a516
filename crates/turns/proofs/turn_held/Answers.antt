use Rattle.turns.proofs.Placing.{first_low, second_low, turns_not, turns_so}
use borrow.Author.Rules.{rules}
use Rattle.turns.proofs.turn_held.Goals as goal

pub returns-in_err-swing : goal.returns-in_err-swing
returns-in_err-swing c = search (turns_not, rules)

pub overflow_sub-swing : goal.overflow_sub-swing
overflow_sub-swing c = search (first_low, rules)

pub overflow_sub-swing-2 : goal.overflow_sub-swing-2
overflow_sub-swing-2 c = search (second_low, rules)

pub returns : goal.returns
returns c = turns_so _ _ _ _ _ _ _ c.swing_of.ensures _ c.in_ok-swing.was _ _ _ _ _ c.place_of-there.ensures c.place_of-back.ensures c.set_kind.ensures c.opposite_of.ensures c.set_kind-2.ensures
