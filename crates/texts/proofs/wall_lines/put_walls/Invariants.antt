use Prim.Native.Nat.{◌*◌, ◌≤◌}
use mathlib.Core.Path.{◌≡◌}
use lib.ListN.{length}
use Rattle.floor.specs.Texts.{wall_lines}
use Rattle.registers.specs.Kept.{walls_in}
use Rattle.letters.specs.Puts.{Puts}
use Rattle.texts.proofs.wall_lines.put_walls.Given as goal

abbrev pub invariant-loop-i : goal.invariant-loop-i
invariant-loop-i l =
    (length l.out ≡ length l.initial.out) × (l.i ≤ l.many) × Puts l.initial.out l.at (wall_lines (walls_in l.register.uprights l.i 0 l.register.rows)) l.out l.next × (length (wall_lines (walls_in l.register.uprights l.i 0 l.register.rows)) ≤ 30 * l.i)
