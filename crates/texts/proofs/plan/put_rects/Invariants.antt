use Prim.Native.Nat.{◌*◌, ◌≤◌}
use mathlib.Core.Path.{◌≡◌}
use lib.ListN.{length, take}
use Rattle.floor.specs.Texts.{rect_lines}
use Rattle.drawing.specs.Rects.{rects_lent}
use Rattle.letters.specs.Puts.{Puts}
use Rattle.texts.proofs.plan.put_rects.Given as goal

abbrev pub invariant-loop-v : goal.invariant-loop-v
invariant-loop-v l =
    (length l.out ≡ length l.initial.out) × (l.v ≤ l.many) × Puts l.initial.out l.at (rect_lines (take l.v (rects_lent l.plan))) l.out l.next
    × (length (rect_lines (take l.v (rects_lent l.plan))) ≤ 30 * l.v)
