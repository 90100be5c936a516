use mathlib.Core.Path.{◌≡◌}
use Prim.Native.Nat.{◌-◌}
use Rattle.floor.specs.Lists.{all}
use Rattle.stars.specs.Held.{cells}
use Rattle.elsewhere.specs.Placed.{plan_drawn, stands_at}
use Rattle.elsewhere.proofs.Drawn.part_stands.Given as goal

abbrev pub invariant-loop-k : goal.invariant-loop-k
invariant-loop-k l = all (stands_at (plan_drawn l.self) l.u) (cells (l.end - l.k) l.k l.stars.nbr.now l.stars.kind.now) ≡ all (stands_at (plan_drawn l.self) l.u) (cells (l.end - l.from) l.from l.stars.nbr.now l.stars.kind.now)
