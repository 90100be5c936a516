use lib.ListN.{length}
use mathlib.Core.Path.{◌≡◌}
use Prim.Native.Nat.{◌≤◌}
use Rattle.orders.proofs.sheet.Sheet.visit_back.Given as goal

abbrev pub invariant-loop-n : goal.invariant-loop-n
invariant-loop-n l = (l.first ≤ l.at) × (l.at ≤ length l.initial.visits) × (length l.visits ≡ length l.initial.visits)
