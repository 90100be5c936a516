use Prim.Native.Nat.{◌+◌, ◌≤◌}
use mathlib.Core.Path.{◌≡◌}
use lib.ListN.{length}
use Rattle.registers.proofs.Rows.{Rests}
use Rattle.registers.proofs.merge.merge_rest.Given as goal

abbrev pub invariant-loop-h : goal.invariant-loop-h
invariant-loop-h l =
    Rests l.cells l.rows l.w l.h l.initial.rows l.initial.w l.initial.h × (l.h ≤ l.initial.h) × (l.w.at + l.h ≤ l.initial.w.at + l.initial.h) × (l.w.sides + l.h ≤ l.initial.w.sides + l.initial.h) × (length l.rows ≡ 256)

abbrev pub decreases-loop-h : goal.decreases-loop-h
decreases-loop-h l = l.h
