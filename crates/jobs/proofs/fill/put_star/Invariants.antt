use Prim.Native.Nat.{◌+◌, ◌*◌, ◌≤◌}
use mathlib.Core.Path.{◌≡◌}
use mathlib.Core.List.{map}
use lib.ListN.{length, drop}
use lib.Seq.{sets}
use Rattle.floor.specs.Jobs.{entries}
use Rattle.stars.specs.Held.{to_of, kind_of}
use Rattle.jobs.proofs.fill.put_star.Given as goal

abbrev pub invariant-loop-i : goal.invariant-loop-i
invariant-loop-i l =
    (l.i ≤ l.k) × (length l.nbr ≡ length l.initial.nbr) × (length l.kind ≡ length l.initial.kind)
    × (sets l.nbr (l.m + l.i) (map to_of (entries (drop (2 * l.i) l.star))) ≡ sets l.initial.nbr l.m (map to_of (entries l.star)))
    × (sets l.kind (l.m + l.i) (map kind_of (entries (drop (2 * l.i) l.star))) ≡ sets l.initial.kind l.m (map kind_of (entries l.star)))
