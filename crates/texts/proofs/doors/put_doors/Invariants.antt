use Prim.Native.Nat.{◌+◌, ◌-◌, ◌*◌, ◌≤◌}
use mathlib.Core.Path.{◌≡◌}
use lib.ListN.{length, drop}
use Rattle.floor.specs.Doors.{doors_among, door_lines}
use Rattle.drawing.specs.Rects.{rects_lent}
use Rattle.texts.proofs.Fitting.{Partly, pairs}
use Rattle.texts.proofs.doors.put_doors.Given as goal

abbrev pub invariant-loop-u : goal.invariant-loop-u
invariant-loop-u l =
    (length l.out ≡ length l.initial.out) × (l.u ≤ l.many)
    × Partly l.initial.out l.at l.out l.next
    (door_lines (doors_among (drop l.u (rects_lent l.plan))))
    (door_lines (doors_among (drop 4 (rects_lent l.plan))))
    (26 * pairs (l.plan.rooms + 4 - l.u))
    46020
