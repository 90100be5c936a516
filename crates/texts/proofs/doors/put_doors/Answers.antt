use mathlib.Core.Path.{refl}
use native.Mathlib.Omega.{arith}
use Rattle.texts.proofs.Fitting.{partly_none, pairs_most, among_more, among_done}
use borrow.Author.Rules.{rules}
use Rattle.texts.proofs.doors.put_doors.Goals as goal

pub loop-u-init : goal.loop-u-init
loop-u-init c = (refl, search rules, partly_none _ _ _ _ _ (pairs_most _ (omega arith)))

pub loop-u-preserved : goal.loop-u-preserved
loop-u-preserved c = (
  search rules,
  search rules,
  among_more _ _ _ _ _ _ _ c.many-many.ensures.0 _ _ _ _ _ c.loop-u.invariant.2 c.loop-u-test.true c.put_doors_to-next.ensures,
)

pub returns : goal.returns
returns c = among_done _ _ _ _ _ _ _ c.many-many.ensures.0 _ _ _ c.loop-u.invariant.2 c.loop-u-test.false
