use mathlib.Core.Path.{◌≡◌}
use Prim.Native.Nat.{◌+◌, ◌-◌}
use Rattle.floor.specs.Lists.{all}
use Rattle.floor.specs.Plans.{inside}
use Rattle.elsewhere.specs.Placed.{rects_at, plan_drawn}
use Rattle.elsewhere.proofs.Drawn.all_inside.Given as goal

abbrev pub invariant-loop-v : goal.invariant-loop-v
invariant-loop-v l = all (inside (plan_drawn l.self)) (rects_at (l.many - l.v) l.v l.self.bytes.now) ≡ all (inside (plan_drawn l.self)) (rects_at (l.self.rooms + 4) 0 l.self.bytes.now)
