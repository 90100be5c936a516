use Rattle.stars.proofs.Entries.{round_first, round_done, round_broken, round_more}
use borrow.Author.Rules.{rules}
use Rattle.stars.proofs.star.changes_round.Goals as goal

pub round-init : goal.round-init
round-init c = (search rules, round_first _)

pub returns-then-not-goes_on : goal.returns-then-not-goes_on
returns-then-not-goes_on c =
    round_broken _ _ _ _ c.round.invariant.1 c.in-len2-up.len_at_least _ _ c.first_kind-first.ensures c.first_kind-next.ensures _ c.goes_on.ensures c.if-not-goes_on.true

pub round-preserved : goal.round-preserved
round-preserved c =
    (search rules, round_more _ _ _ _ c.round.invariant.1 c.in-len2-up.len_at_least _ _ c.first_kind-first.ensures c.first_kind-next.ensures _ c.goes_on.ensures _ c.if-not-goes_on.false c.one_change-many.ensures.0)

pub returns : goal.returns
returns c = round_done _ _ _ _ c.round.invariant.1 c.in_default.len_below
