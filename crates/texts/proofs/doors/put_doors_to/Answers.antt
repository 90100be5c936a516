use mathlib.Core.Path.{refl}
use native.Mathlib.Omega.{arith}
use Rattle.texts.proofs.Fitting.{partly_none, vertex_small, vertex_next, to_more, to_done}
use borrow.Author.Rules.{rules}
use Rattle.texts.proofs.doors.put_doors_to.Goals as goal

pub loop-v-init : goal.loop-v-init
loop-v-init c = (refl, search rules, partly_none _ _ _ _ _ (omega arith))

pub put_door-next-requires : goal.put_door-next-requires
put_door-next-requires c = (search (vertex_small, rules), search (vertex_next, rules))

pub loop-v-preserved : goal.loop-v-preserved
loop-v-preserved c = (
  search rules,
  search rules,
  to_more _ _ _ _ _ _ _ c.many-many.ensures.0 _ _ _ _ _ _ _ _
      c.loop-v.invariant.2
      c.loop-v-test.true
      c.rectangle-r.ensures
      c.rectangle-s.ensures
      c.put_door-next.ensures,
)

pub returns : goal.returns
returns c = to_done _ _ _ _ _ _ _ c.many-many.ensures.0 _ _ _ _ c.loop-v.invariant.2 c.loop-v-test.false
