use mathlib.Core.Path.{◌≡◌}
use Prim.Native.Nat.{◌-◌, ◌≤◌}
use lib.ListN.{drop}
use Rattle.elsewhere.specs.Placed.{place_of}
use Rattle.elsewhere.specs.Shapes.{rects_shaped}
use Rattle.elsewhere.proofs.Drawn.rects_shaped.Given as goal

abbrev pub invariant-loop-v : goal.invariant-loop-v
invariant-loop-v l = (l.v ≤ l.many) × (rects_shaped l.v (l.many - l.v) (drop (place_of l.v) l.self.bytes.now) ≡ rects_shaped 0 l.many (drop 5 l.self.bytes.now))
