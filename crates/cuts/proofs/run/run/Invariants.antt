use Prim.Native.Nat.{◌-◌, ◌≤◌}
use mathlib.Core.Path.{◌≡◌}
use lib.ListN.{length}
use Rattle.drawing.specs.Rects.{rect_in}
use Rattle.registers.specs.Kept.{walls_in}
use Rattle.cuts.specs.Tasks.{rooms_from}
use Rattle.cuts.proofs.Running.{Sofar}
use Rattle.cuts.proofs.run.run.Given as goal

abbrev pub invariant-loop-waiting : goal.invariant-loop-waiting
invariant-loop-waiting l = (length l.stack ≡ 136) × (length l.buf ≡ 544) × (l.waiting ≤ 136) × (l.at ≤ 544)
    × Sofar (walls_in l.walls.ups l.walls.many 0 l.walls.rows.now) (rooms_from l.rooms.last 4 l.rooms.rects.now) (rect_in l.fn.b) l.buf l.at l.stack l.waiting

abbrev pub decreases-loop-waiting : goal.decreases-loop-waiting
decreases-loop-waiting l = 545 - l.at
