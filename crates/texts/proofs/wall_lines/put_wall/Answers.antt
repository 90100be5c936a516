use Rattle.texts.proofs.Registers.{wall_put}
use Rattle.texts.proofs.wall_lines.put_wall.Goals as goal

pub returns : goal.returns
returns c = wall_put _ _ _ _ c.wall_at-w.ensures _ c.from-direction.ensures _ _ _ _ c.put_five.ensures
