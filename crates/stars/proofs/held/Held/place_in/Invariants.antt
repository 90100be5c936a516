use Prim.Native.Nat.{◌-◌}
use mathlib.Core.Path.{◌≡◌}
use Rattle.stars.specs.Held.{place_in}
use Rattle.stars.proofs.held.Held.place_in.Given as goal

abbrev pub invariant-loop-k : goal.invariant-loop-k
invariant-loop-k l = place_in (l.end - l.k) l.k l.self.nbr.now l.v ≡ place_in (l.end - l.from) l.from l.self.nbr.now l.v

abbrev pub decreases-loop-k : goal.decreases-loop-k
decreases-loop-k l = l.end - l.k
