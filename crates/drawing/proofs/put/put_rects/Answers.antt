use mathlib.Core.Path.{refl}
use native.Mathlib.Omega.{arith}
use Rattle.drawing.proofs.Writing.{field_fits, fields_first, fields_more, fields_done}
use borrow.Author.Rules.{rules}
use Rattle.drawing.proofs.put.put_rects.Goals as goal

pub loop-v-init : goal.loop-v-init
loop-v-init c = (refl, fields_first _ _ _)

pub put_rect-requires : goal.put_rect-requires
put_rect-requires c =
    field_fits _ _ _ _ _ c.rect_at.ensures c.loop-v-test.true c.many-v-end.ensures.1 (omega (arith, c.requires, c.many-v-end.ensures.0, c.loop-v.invariant.0))

pub loop-v-preserved : goal.loop-v-preserved
loop-v-preserved c = (search rules, search (fields_more, rules))

pub returns : goal.returns
returns c = search (fields_done, rules)
