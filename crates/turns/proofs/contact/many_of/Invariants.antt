use Prim.Native.Nat.{◌+◌, ◌-◌, ◌≤◌}
use mathlib.Core.Path.{◌≡◌}
use lib.ListN.{length}
use Rattle.floor.specs.Jobs.{list_of}
use Rattle.stars.specs.Held.{cells, held_star}
use Rattle.turns.proofs.contact.many_of.Given as goal

abbrev pub invariant-loop-k : goal.invariant-loop-k
invariant-loop-k l =
    (l.many ≤ l.k) × (l.many + length (list_of (cells (l.k-end - l.k) l.k l.stars.nbr.now l.stars.kind.now) l.want) ≡ length (list_of (held_star l.stars.ends.now l.stars.nbr.now l.stars.kind.now l.i) l.want))
