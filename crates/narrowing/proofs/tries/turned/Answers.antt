use Rattle.narrowing.proofs.Trying.{turns_ok}
use Rattle.narrowing.proofs.tries.turned.Goals as goal

pub returns : goal.returns
returns c = (turns_ok _ _ _ c.turn_held.ensures.0 c.is_ok.ensures.value, c.turn_held.ensures.1)
