use Prim.Native.Nat.{◌+◌, ◌*◌, ◌-◌}
use mathlib.Core.Path.{◌≡◌}
use mathlib.Core.List.{map}
use lib.ListN.{length}
use lib.Seq.{sets}
use Rattle.floor.specs.Lists.{up_from}
use Rattle.drawing.specs.Rects.{flat}
use Rattle.drawing.specs.Drawn.{walled_by}
use Rattle.drawing.proofs.place.put_rooms.Given as goal

abbrev pub invariant-loop-i : goal.invariant-loop-i
invariant-loop-i l =
    (length l.rects ≡ length l.initial.rects)
    × (sets l.rects (4 * (4 + l.i)) (flat (map (walled_by l.xs l.ys) (up_from (4 + l.i) (l.count - l.i)))) ≡ sets l.initial.rects 16 (flat (map (walled_by l.xs l.ys) (up_from 4 l.count))))
