use mathlib.Core.Path.{◌∙◌}
use native.Mathlib.Omega.{arith}
use borrow.Author.Rules.{rules}
use Rattle.board.proofs.Narrowing.{round_stops, round_turns}
use Rattle.board.proofs.rounds.all.Goals as goal

pub loop-held-init : goal.loop-held-init
loop-held-init c = (omega arith, search rules)

pub once-next-requires : goal.once-next-requires
once-next-requires c = omega arith

pub returns-then-next-held : goal.returns-then-next-held
returns-then-next-held c =
    round_stops _ _ _ c.once-next.ensures c.if-next-held.true ∙ c.loop-held.invariant.1

pub loop-held-smaller : goal.loop-held-smaller
loop-held-smaller c =
    (round_turns _ _ _ c.once-next.ensures c.if-next-held.false).0

pub loop-held-preserved : goal.loop-held-preserved
loop-held-preserved c =
    let (less, more, same) = round_turns _ _ _ c.once-next.ensures c.if-next-held.false in
    (omega (arith, less, more), same ∙ c.loop-held.invariant.1)
