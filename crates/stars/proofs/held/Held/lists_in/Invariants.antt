use Prim.Native.Nat.{◌-◌}
use mathlib.Core.Path.{◌≡◌}
use Rattle.floor.specs.Jobs.{lists}
use Rattle.stars.specs.Held.{cells}
use Rattle.stars.proofs.held.Held.lists_in.Given as goal

abbrev pub invariant-loop-k : goal.invariant-loop-k
invariant-loop-k l = lists (cells (l.end - l.k) l.k l.self.nbr.now l.self.kind.now) l.v l.want ≡ lists (cells (l.end - l.from) l.from l.self.nbr.now l.self.kind.now) l.v l.want
