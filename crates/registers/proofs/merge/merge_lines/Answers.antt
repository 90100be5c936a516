use native.Mathlib.Omega.{arith}
use Rattle.registers.proofs.Rows.{wrote_first, wrote_more, wrote_done}
use borrow.Author.Rules.{rules}
use Rattle.registers.proofs.merge.merge_lines.Goals as goal

pub loop-head-init : goal.loop-head-init
loop-head-init c = (wrote_first _ _ _ _, search rules, search rules, search rules)

pub merge_chain-n-requires : goal.merge_chain-n-requires
merge_chain-n-requires c =
    let first = c.from.ensures in (
      c.requires.0,
      omega (arith, first, c.requires.1 c.loop-head.head-index),
      search rules,
      search rules,
      omega (arith, c.loop-head.invariant.1, c.loop-head.invariant.2, c.loop-head-test.true, c.requires.2, c.requires.4),
    )

pub loop-head-preserved : goal.loop-head-preserved
loop-head-preserved c =
    let first = c.from.ensures in (
      wrote_more c.args.heads.now c.args.cells.now _ _ _ _ _ _ c.loop-head.head-index _ first c.merge_chain-n.ensures.0 c.loop-head.invariant.0,
      search rules,
      omega (arith, c.loop-head.invariant.2, c.merge_chain-n.ensures.1),
      search rules,
    )

pub returns : goal.returns
returns c = (λ d. wrote_done _ _ _ _ _ _ _ c.loop-head.invariant.1 c.loop-head-test.false c.loop-head.invariant.0 d, omega (arith, c.loop-head.invariant.1, c.loop-head.invariant.2))
