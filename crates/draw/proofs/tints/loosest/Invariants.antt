use Rattle.std.proofs.Common.{◌<◌}
use Rattle.draw.proofs.tints.loosest.Given as goal

abbrev pub invariant-loop-v : goal.invariant-loop-v
invariant-loop-v l = l.best < 64
