use Prim.Native.Nat.{◌*◌, ◌-◌}
use mathlib.Core.Path.{◌≡◌}
use lib.ListN.{length}
use lib.Seq.{sets}
use Rattle.floor.specs.Registers.{write_register}
use Rattle.drawing.specs.Rects.{in_bytes}
use Rattle.registers.specs.Kept.{walls_in}
use Rattle.registers.proofs.put.put_walls.Given as goal

abbrev pub invariant-loop-i : goal.invariant-loop-i
invariant-loop-i l =
    (length l.out ≡ length l.initial.out)
    × (sets l.out (8 * l.i) (in_bytes (write_register (walls_in l.uprights (l.many - l.i) l.i l.rows))) ≡ sets l.initial.out 0 (in_bytes (write_register (walls_in l.uprights l.many 0 l.rows))))
