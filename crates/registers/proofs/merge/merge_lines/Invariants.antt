use Prim.Native.Nat.{◌+◌, ◌*◌, ◌≤◌}
use mathlib.Core.Path.{◌≡◌}
use lib.ListN.{length}
use Rattle.registers.proofs.Rows.{Wrote}
use Rattle.registers.proofs.merge.merge_lines.Given as goal

abbrev pub invariant-loop-head : goal.invariant-loop-head
invariant-loop-head l =
    Wrote l.heads l.cells l.initial.rows l.rows l.at l.n l.head-index × (l.head-index ≤ length l.heads) × (l.n ≤ l.at + 65536 * l.head-index) × (length l.rows ≡ 256)
