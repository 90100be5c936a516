use Prim.Native.Nat.{◌≤◌}
use mathlib.Core.Path.{◌≡◌}
use lib.ListN.{length}
use Rattle.cuts.specs.Links.{Linked}
use Rattle.cuts.proofs.links.link_rooms.Given as goal

abbrev pub invariant-loop-v : goal.invariant-loop-v
invariant-loop-v l = (4 ≤ l.v) × (l.v ≤ l.last) × (length l.heads ≡ length l.initial.heads) × (length l.next ≡ length l.initial.next) × Linked l.rects l.last l.v l.heads l.next

abbrev pub decreases-loop-v : goal.decreases-loop-v
decreases-loop-v l = l.v
