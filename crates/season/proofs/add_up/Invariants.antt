use Rattle.std.proofs.Common.{◌≡◌, ◌++◌, length, take, drop}
use Rattle.season.specs.Counted.{added}
use Rattle.season.proofs.add_up.Given as goal

abbrev pub invariant-loop-i : goal.invariant-loop-i
invariant-loop-i l = (length l.sums ≡ length l.initial.sums) × (take l.i l.sums ++ added (drop l.i l.sums) (drop l.i l.more) ≡ added l.initial.sums l.more)
