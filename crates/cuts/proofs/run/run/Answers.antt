use borrow.Author.Rules.{rules}
use Prim.Native.Nat.{◌+◌, ◌-◌, ◌≤◌}
use mathlib.Core.Path.{refl}
use native.Mathlib.Omega.{arith}
use Rattle.cuts.proofs.Running.{run_start, run_many, run_long, run_done, run_stuck, run_on, act_few_bytes, act_few_grown, act_some_bytes, twice_set}
use Rattle.cuts.proofs.run.run.Goals as goal

pub loop-waiting-init : goal.loop-waiting-init
loop-waiting-init c = (search rules, search rules, search rules, search rules, search (run_start, rules))

pub returns-then-at-waiting-gt535 : goal.returns-then-at-waiting-gt535
returns-then-at-waiting-gt535 c = search (run_many, rules)

pub returns-in_err-task : goal.returns-in_err-task
returns-in_err-task c =
    rw c.from_residual.ensures (run_stuck _ _ _ _ _ _ _ c.loop-waiting.invariant.0 c.loop-waiting.invariant.1 c.loop-waiting.invariant.3 c.loop-waiting.invariant.4 _
    (omega (arith, c.loop-waiting-test.true)) refl _ _ c.look.ensures c.in_err-task.was)

pub overflow_add-waiting : goal.overflow_add-waiting
overflow_add-waiting c = let h : c.act_of-act.result.grown ≤ 2 = search (act_few_grown, rules) in search rules

pub overflow_add-at-in-loop-waiting : goal.overflow_add-at-in-loop-waiting
overflow_add-at-in-loop-waiting c = let h : c.act_of-act.result.bytes ≤ 5 = search (act_few_bytes, rules) in search rules

pub loop-waiting-smaller : goal.loop-waiting-smaller
loop-waiting-smaller c = let h : 4 ≤ c.act_of-act.result.bytes = search (act_some_bytes, rules) in search rules

pub loop-waiting-preserved : goal.loop-waiting-preserved
loop-waiting-preserved c =
    let h : c.act_of-act.result.bytes ≤ 5 = search (act_few_bytes, rules) in
    let k : 4 ≤ c.act_of-act.result.bytes = search (act_some_bytes, rules) in
    let g : c.act_of-act.result.grown ≤ 2 = search (act_few_grown, rules) in
    let w : c.loop-waiting.waiting ≤ 133 = omega (arith, c.if-at-waiting-gt535.false) in (
      twice_set c.loop-waiting.stack (c.loop-waiting.waiting - 1) (c.loop-waiting.waiting - 1 + 1) c.act_of-act.result.high c.act_of-act.result.low
          c.loop-waiting.invariant.0,
      omega (arith, c.put_act.auto.out, c.loop-waiting.invariant.1),
      omega (arith, w),
      omega (arith, c.if-at-waiting-gt535.false),
      run_on _ _ _ _ _ _ _ c.loop-waiting.invariant.0 c.loop-waiting.invariant.1 c.loop-waiting.invariant.3 c.loop-waiting.invariant.4 _
          (omega (arith, c.loop-waiting-test.true)) refl _ _ _ _ c.look.ensures c.in_ok-task.was c.act_of-act.ensures (omega (arith, c.if-at-waiting-gt535.false)) c.put_act.ensures,
    )

pub returns-then-at-gt535 : goal.returns-then-at-gt535
returns-then-at-gt535 c = search (run_long, rules)

pub returns : goal.returns
returns c = search (run_done, rules)
