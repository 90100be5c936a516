use Prim.Native.Nat.{◌+◌, ◌*◌, ◌-◌}
use mathlib.Core.Path.{◌≡◌}
use lib.ListN.{length}
use lib.Seq.{sets}
use Rattle.floor.specs.Plans.{write_rects}
use Rattle.drawing.specs.Rects.{rects_in, rects_lent, in_bytes}
use Rattle.drawing.proofs.put.put_rects.Given as goal

abbrev pub invariant-loop-v : goal.invariant-loop-v
invariant-loop-v l =
    (length l.out ≡ length l.initial.out)
    × (sets l.out (5 + 8 * l.v) (in_bytes (write_rects (rects_in (l.layout.rooms + 4 - l.v) l.v l.layout.rects.now))) ≡ sets l.initial.out 5 (in_bytes (write_rects (rects_lent l.layout))))
