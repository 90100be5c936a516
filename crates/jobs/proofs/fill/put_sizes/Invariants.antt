use Prim.Native.Nat.{◌*◌, ◌≤◌}
use mathlib.Core.Path.{◌≡◌}
use lib.ListN.{length, drop}
use lib.Seq.{sets}
use Rattle.floor.specs.Jobs.{size_pairs, size_bytes}
use Rattle.jobs.proofs.fill.put_sizes.Given as goal

abbrev pub invariant-loop-i : goal.invariant-loop-i
invariant-loop-i l =
    (l.i ≤ l.many) × (length l.list ≡ length l.initial.list)
    × (sets l.list (2 * l.i) (size_bytes (size_pairs (drop (2 * l.i) l.bytes))) ≡ sets l.initial.list 0 (size_bytes (size_pairs l.bytes)))
