-- The stack of parts keeps its room, and no cut has a number past the bytes before it.
use Rattle.std.proofs.Common.{◌+◌, ◌≤◌, length}
use Rattle.draw.proofs.cutting.number_all.Given as goal

abbrev pub invariant-fields : goal.invariant-fields
invariant-fields g l = (l.many ≤ 64) × (l.made + length l.rest ≤ 535)

abbrev pub decreases-fields : goal.decreases-fields
decreases-fields g l = length l.rest
