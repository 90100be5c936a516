use Prim.Native.Nat.{◌+◌, ◌-◌, ◌≤◌}
use mathlib.Core.Path.{◌≡◌}
use lib.ListN.{length}
use lib.Seq.{sets}
use Rattle.floor.specs.Jobs.{write_stars}
use Rattle.stars.specs.Held.{stars_in, job_in}
use Rattle.jobs.proofs.put.put_stars.Given as goal

abbrev pub invariant-loop-i : goal.invariant-loop-i
invariant-loop-i l = (length l.out ≡ length l.initial.out) × (l.at + length (write_stars (stars_in (l.stars.count - l.i) l.i l.stars.ends.now l.stars.nbr.now l.stars.kind.now)) ≤ length l.initial.out)
    × (sets l.out l.at (write_stars (stars_in (l.stars.count - l.i) l.i l.stars.ends.now l.stars.nbr.now l.stars.kind.now)) ≡ sets l.initial.out l.from (write_stars (job_in l.stars.count l.stars.ends.now l.stars.nbr.now l.stars.kind.now)))
