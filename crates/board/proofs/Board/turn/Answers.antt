use Rattle.board.proofs.Answering.{stays_tells, ten_turn, turn_stops, turn_swings}
use borrow.Author.Rules.{rules}
use Rattle.board.proofs.Board.turn.Goals as goal

pub returns-then-self-eq0 : goal.returns-then-self-eq0
returns-then-self-eq0 c = search (stays_tells, ten_turn, rules)

pub returns-in-Err : goal.returns-in-Err
returns-in-Err c = stays_tells _ _ _ _ _ c.stays-in-Err.ensures
    (turn_stops _ c.if-self-eq0.false _ _ _ c.from.ensures _ _ c.turn_held.ensures _ c.in-Err.is)

pub returns-in-Ok : goal.returns-in-Ok
returns-in-Ok c =
    turn_swings _ c.if-self-eq0.false _ _ _ c.from.ensures _ _ c.turn_held.ensures _ c.in-Ok.is _ c.hold_numbered.ensures
