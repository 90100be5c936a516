use Prim.Native.Nat.{◌+◌, ◌≤◌}
use mathlib.Core.Path.{◌≡◌}
use Rattle.stars.specs.Sized.{sizes_of}
use Rattle.board.specs.Boards.{slim_in, slimmed_on}
use Rattle.board.proofs.rounds.all.Given as goal

abbrev pub invariant-loop-held : goal.invariant-loop-held
invariant-loop-held l =
    (l.held.turns + l.held.plan.width ≤ l.initial.held.plan.width) × (slimmed_on (sizes_of l.sizes) (slim_in l.held) ≡ slimmed_on (sizes_of l.sizes) (slim_in l.initial.held))

abbrev pub decreases-loop-held : goal.decreases-loop-held
decreases-loop-held l = l.held.plan.width
