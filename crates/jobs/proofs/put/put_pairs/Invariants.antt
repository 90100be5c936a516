use Prim.Native.Nat.{◌+◌, ◌-◌, ◌*◌, ◌≤◌}
use mathlib.Core.Path.{◌≡◌}
use lib.ListN.{length}
use lib.Seq.{sets}
use Rattle.floor.specs.Jobs.{star_bytes}
use Rattle.stars.specs.Held.{cells}
use Rattle.jobs.proofs.put.put_pairs.Given as goal

abbrev pub invariant-loop-i : goal.invariant-loop-i
invariant-loop-i l =
    (l.i ≤ l.m) × (length l.out ≡ length l.initial.out)
    × (sets l.out (l.at + 2 * l.i) (star_bytes (cells (l.m - l.i) (l.from + l.i) l.stars.nbr.now l.stars.kind.now)) ≡ sets l.initial.out l.at (star_bytes (cells l.m l.from l.stars.nbr.now l.stars.kind.now)))
