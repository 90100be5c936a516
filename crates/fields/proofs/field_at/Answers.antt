use native.Mathlib.Omega.{arith}
use Rattle.fields.proofs.Laws.{field_short, field_cut, field_whole}
use Rattle.fields.proofs.field_at.Goals as goal

pub returns-then-s-at : goal.returns-then-s-at
returns-then-s-at c = field_short _ _ (omega arith)

pub returns-then-s-at-lt3 : goal.returns-then-s-at-lt3
returns-then-s-at-lt3 c = field_short _ _ (omega arith)

pub returns-then-s-start : goal.returns-then-s-start
returns-then-s-start c = field_cut _ _ _ c.word_at-n.ensures.0 (omega arith) (omega arith)

pub returns : goal.returns
returns c = field_whole _ _ _ c.word_at-n.ensures.0 c.if-s-at.false c.if-s-at-lt3.false
    c.if-s-start.false
