use Rattle.season.proofs.Counting.{frame_sum}
use Rattle.std.proofs.Common.{rules}
use Rattle.season.proofs.counts.frame_cells.Goals as goal

pub returns : goal.returns
returns c = search (frame_sum, rules)
