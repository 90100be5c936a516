use mathlib.Core.Path.{◌≡◌}
use Prim.Native.Nat.{◌-◌}
use Rattle.floor.specs.Lists.{all}
use Rattle.floor.specs.Jobs.{links}
use Rattle.floor.specs.Foreign.{step_on}
use Rattle.stars.specs.Held.{cells, links_from}
use Rattle.elsewhere.specs.Placed.{plan_drawn}
use Rattle.elsewhere.proofs.Drawn.part_round.Given as goal

abbrev pub invariant-loop-a : goal.invariant-loop-a
invariant-loop-a l = all (step_on (plan_drawn l.self) l.u) (links_from l.from l.end l.stars.nbr.now l.stars.kind.now l.a) ≡ all (step_on (plan_drawn l.self) l.u) (links (cells (l.end - l.from) l.from l.stars.nbr.now l.stars.kind.now))
