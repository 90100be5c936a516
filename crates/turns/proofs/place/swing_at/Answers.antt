use native.Mathlib.Omega.{arith}
use Rattle.turns.proofs.Placing.{swing_first, swing_second, swing_turns}
use borrow.Author.Rules.{rules}
use Rattle.turns.proofs.place.swing_at.Goals as goal

pub returns-then-many_of-lt2 : goal.returns-then-many_of-lt2
returns-then-many_of-lt2 c = search (swing_first, rules)

pub returns-then-many_of-lt2-2 : goal.returns-then-many_of-lt2-2
returns-then-many_of-lt2-2 c = search (swing_second, rules)

pub returns : goal.returns
returns c = let pre = c.requires in
    swing_turns _ _ _ _ _ _ _ pre.0 pre.1 pre.2 pre.3 _ c.many_of.ensures _ _ (omega (arith, c.if-many_of-lt2.false)) c.opposite_of-other.ensures
    c.many_of-2.ensures _ _ (omega (arith, c.if-many_of-lt2-2.false)) c.last_of-last.ensures c.turned_kind.ensures
