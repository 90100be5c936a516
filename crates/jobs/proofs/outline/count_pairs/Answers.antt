use Rattle.jobs.proofs.Outlines.{pairs_fit, count_broken, count_tag, count_odd, count_next, count_done, none_behind, behind_next, behind_done}
use native.Mathlib.Omega.{arith}
use Rattle.fields.proofs.Laws.{in_order_lem, within}
use borrow.Author.Rules.{rules}
use Rattle.jobs.proofs.outline.count_pairs.Goals as goal

pub returns-in_err-field : goal.returns-in_err-field
returns-in_err-field c = rw c.from_residual.ensures (search (count_broken, rules), none_behind _ _)

pub returns-then-field-ne2 : goal.returns-then-field-ne2
returns-then-field-ne2 c = (search (count_tag, rules), none_behind _ _)

pub overflow_sub-field : goal.overflow_sub-field
overflow_sub-field c = search (in_order_lem, rules)

pub returns-then-field-ne0 : goal.returns-then-field-ne0
returns-then-field-ne0 c = (search (count_odd, rules), none_behind _ _)

pub overflow_sub-pairs : goal.overflow_sub-pairs
overflow_sub-pairs c = search (in_order_lem, rules)

pub overflow_add-pairs : goal.overflow_add-pairs
overflow_add-pairs c = let s = c.args.job.now in
    let here = c.in_ok-field.was in
    omega (arith, pairs_fit s _ _ _ _ here c.read_at.ensures.1 c.loop-i.invariant.0, within s _ _ _ here c.read_at.ensures.1)

pub loop-i-preserved : goal.loop-i-preserved
loop-i-preserved c = (
  search (pairs_fit, rules),
  search (count_next, rules),
  behind_next _ _ _ _ _ _ _ c.in_ok-field.was c.read_at.ensures.0 c.loop-i-test.true c.loop-i.invariant.2,
)

pub returns : goal.returns
returns c = (search (count_done, rules), search (behind_done, rules))
