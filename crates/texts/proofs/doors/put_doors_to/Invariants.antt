use Prim.Native.Nat.{◌+◌, ◌-◌, ◌*◌, ◌≤◌}
use mathlib.Core.Path.{◌≡◌}
use lib.ListN.{length, get_or, drop}
use Rattle.floor.specs.Plans.{nowhere}
use Rattle.floor.specs.Doors.{doors_to, door_lines}
use Rattle.drawing.specs.Rects.{rects_lent}
use Rattle.texts.proofs.Fitting.{Partly}
use Rattle.texts.proofs.doors.put_doors_to.Given as goal

abbrev pub invariant-loop-v : goal.invariant-loop-v
invariant-loop-v l =
    (length l.out ≡ length l.initial.out) × (l.v ≤ l.many)
    × Partly l.initial.out l.at l.out l.next
    (door_lines (doors_to (get_or (rects_lent l.plan) l.u nowhere) (drop l.v (rects_lent l.plan))))
    (door_lines (doors_to (get_or (rects_lent l.plan) l.u nowhere) (drop (l.u + 1) (rects_lent l.plan))))
    (26 * (l.plan.rooms + 4 - l.v))
    (26 * (l.plan.rooms + 4 - (l.u + 1)))
