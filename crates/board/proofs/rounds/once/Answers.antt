use Rattle.board.proofs.Narrowing.{stars_same, plan_same, once_turns, once_stops}
use borrow.Author.Rules.{rules}
use Rattle.board.proofs.rounds.once.Goals as goal

pub returns-in-Some : goal.returns-in-Some
returns-in-Some c =
    once_turns _ _ _ _ _ (stars_same _ _ _ _ _ c.lent.ensures.same) c.lent-2.ensures.sizes (plan_same _ _ _ _ _ c.lent-3.ensures.same) _ _ (c.round.ensures.within (search rules, search rules)) _ c.in-Some.is

pub returns-in-None : goal.returns-in-None
returns-in-None c =
    once_stops _ _ _ _ _ (stars_same _ _ _ _ _ c.lent.ensures.same) c.lent-2.ensures.sizes (plan_same _ _ _ _ _ c.lent-3.ensures.same) _ _ (c.round.ensures.within (search rules, search rules)) c.in-None.is
