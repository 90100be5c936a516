use lib.ListN.{length}
use mathlib.Core.Path.{◌≡◌}
use Prim.Native.Nat.{◌≤◌}
use Rattle.orders.proofs.sheet.Sheet.visit_on.Given as goal

abbrev pub invariant-loop-p : goal.invariant-loop-p
invariant-loop-p l = (l.first ≤ l.at) × (l.at ≤ length l.initial.visits) × (length l.visits ≡ length l.initial.visits)
