-- The boards that the public calls can reach. Assumes nothing.
use Rattle.std.specs.Prelude.{List, ℕ}
use Rattle.floor.specs.Calls.{Call}
use Rattle.board.specs.declared.Board.{Board as HeldBoard}
use Rattle.board.specs.declared.Step.{Step as Handed}
use Rattle.board.specs.Boards.{no_board, outcome, Tells}

-- A BOARD THAT CALLS REACH: the empty one, and any that a call hands back on a reached one, refused or not
pub data Reached : HeldBoard → Type 0 where
  at_first : Reached no_board
  called : {b : HeldBoard} (c : Call) (r : Handed) (buf : List ℕ) → Reached b → Tells r buf (outcome b c) → Reached r.board
