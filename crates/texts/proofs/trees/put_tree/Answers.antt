use mathlib.Core.Path.{refl}
use Rattle.texts.proofs.Cutting.{walked_first, cut_placed, walked_cut, walked_leaf, walked_done}
use borrow.Author.Rules.{rules}
use Rattle.texts.proofs.trees.put_tree.Goals as goal

pub fields-init : goal.fields-init
fields-init c = (refl, λ t e. walked_first t _ _ _ e)

pub returns-in_default-others : goal.returns-in_default-others
returns-in_default-others c = λ t e. absurd (cut_placed t _ _ _ _ _ (c.fields.invariant.1 t e) c.in-len4-up.len_at_least _ refl c.if-tag-eq-CUT.true c.in_default-others.len_below)

pub fields-preserved-then-tag-eq-CUT : goal.fields-preserved-then-tag-eq-CUT
fields-preserved-then-tag-eq-CUT c = (
  search rules,
  λ t e. walked_cut t _ _ _ _ _ (c.fields.invariant.1 t e) c.in-len4-up.len_at_least _ c.from.ensures c.if-tag-eq-CUT.true _ _ _ c.in-len1-up.len_at_least c.from-then-tag-eq-CUT.ensures c.put_two-next.ensures.0,
)

pub fields-preserved : goal.fields-preserved
fields-preserved c = (
  search rules,
  λ t e. walked_leaf t _ _ _ _ _ (c.fields.invariant.1 t e) c.in-len4-up.len_at_least _ c.from-else-tag-eq-CUT.ensures _ _ c.if-tag-eq-CUT.false c.put_one-next.ensures,
)

pub returns : goal.returns
returns c = λ t e. walked_done t _ _ _ _ _ (c.fields.invariant.1 t e) c.in_default.len_below
