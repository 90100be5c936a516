use Rattle.std.proofs.Common.{rules}
use Rattle.fields.proofs.Laws.{in_order_lem, within}
use Rattle.season.proofs.Telling.{past_none, past_end, past_over, past_broken, past_other, past_job}
use Rattle.season.proofs.sum_up.Goals as goal

pub loop-at-init : goal.loop-at-init
loop-at-init c = past_none _ _ _ (search rules) c.none-sums.ensures

pub returns-then-left-eq0 : goal.returns-then-left-eq0
returns-then-left-eq0 c = past_over _ _ _ _ c.loop-at.invariant c.loop-at-test.true c.if-left-eq0.true

pub returns-in_default : goal.returns-in_default
returns-in_default c = past_broken _ _ _ _ c.loop-at.invariant c.loop-at-test.true c.if-left-eq0.false _ c.read_at.ensures.0 (search rules)

pub returns-then-field-ne9 : goal.returns-then-field-ne9
returns-then-field-ne9 c = past_other _ _ _ _ c.loop-at.invariant c.loop-at-test.true c.if-left-eq0.false _ c.read_at.ensures.0 _ c.in-Some.is c.if-field-ne9.true

pub slice_bounds-add-count : goal.slice_bounds-add-count
slice_bounds-add-count c = search (in_order_lem, rules)

pub slice_bounds-add-start : goal.slice_bounds-add-start
slice_bounds-add-start c = search (in_order_lem, rules)

pub slice_bounds-add-end : goal.slice_bounds-add-end
slice_bounds-add-end c = search (within, rules)

pub loop-at-preserved : goal.loop-at-preserved
loop-at-preserved c = past_job _ _ _ _ c.loop-at.invariant c.loop-at-test.true c.if-left-eq0.false _ c.read_at.ensures.0 _ c.in-Some.is _ c.if-field-ne9.false c.add.ensures

pub returns : goal.returns
returns c = past_end _ _ _ _ c.loop-at.invariant c.loop-at-test.false
