use Prim.Native.Nat.{◌+◌, ◌-◌, ◌*◌, ◌≤◌}
use mathlib.Core.Path.{◌≡◌}
use lib.ListN.{length}
use lib.Seq.{sets}
use Rattle.floor.specs.Jobs.{size_bytes}
use Rattle.stars.specs.Sized.{sizes_from, sizes_in}
use Rattle.jobs.proofs.put.put_list.Given as goal

abbrev pub invariant-loop-i : goal.invariant-loop-i
invariant-loop-i l =
    (l.i ≤ l.sizes.told) × (length l.out ≡ length l.initial.out)
    × (sets l.out (l.at + 2 * l.i) (size_bytes (sizes_from (l.sizes.told - l.i) l.i l.sizes.list.now)) ≡ sets l.initial.out l.at (size_bytes (sizes_in l.sizes.told l.sizes.list.now)))
