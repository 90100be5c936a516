use Rattle.registers.proofs.Corollaries.{counted_held}
use Rattle.board.proofs.counted.Goals as goal

pub returns : goal.returns
returns c = counted_held _ _ c.register_of.ensures
