use native.Mathlib.Omega.{arith}
use lib.ListN.{length-set}
use Rattle.fields.proofs.Laws.{head_none, head_put}
use Rattle.fields.proofs.put_head.Goals as goal

pub returns-then-out-at : goal.returns-then-out-at
returns-then-out-at c = head_none _ _ _ _ (omega arith)

pub returns-then-out-at-lt3 : goal.returns-then-out-at-lt3
returns-then-out-at-lt3 c = head_none _ _ _ _ (omega arith)

pub bounds-out-at-2 : goal.bounds-out-at-2
bounds-out-at-2 c = simp length-set (omega arith)

pub bounds-out-at-3 : goal.bounds-out-at-3
bounds-out-at-3 c = simp length-set (omega arith)

pub returns : goal.returns
returns c = head_put _ _ _ _ (omega arith)
