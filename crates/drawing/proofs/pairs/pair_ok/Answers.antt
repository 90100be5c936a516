use Rattle.drawing.proofs.Two.{pair_far_across, pair_far_upward, pair_clear, pair_wall}
use borrow.Author.Rules.{rules}
use Rattle.drawing.proofs.pairs.pair_ok.Goals.{then-away-via-then-away, then-away-via-else-away+then-away-2}
use Rattle.drawing.proofs.pairs.pair_ok.Goals as goal

pub returns-then-away : goal.returns-then-away
returns-then-away c =
    elim c.then-away.branch [
      | then-away-via-then-away w ↦ pair_far_across _ c.args.r c.args.s _ c.away.ensures w.if-away.true
      | then-away-via-else-away+then-away-2 w ↦
          pair_far_upward _ c.args.r c.args.s _ c.away.ensures _ w.if-away.false w.away-else-away.ensures w.if-away-2.true
    ]

pub returns-in_default : goal.returns-in_default
returns-in_default c = search (pair_clear, rules)

pub returns : goal.returns
returns c = search (pair_wall, rules)
