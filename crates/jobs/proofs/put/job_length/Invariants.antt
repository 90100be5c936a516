use Prim.Native.Nat.{ℕ, ◌+◌, ◌-◌, ◌*◌, ◌≤◌}
use mathlib.Core.Path.{◌≡◌}
use mathlib.Core.List.{List}
use lib.ListN.{length}
use Rattle.floor.specs.Jobs.{write_stars, write_job}
use Rattle.stars.specs.Held.{stars_in, job_in}
use Rattle.jobs.proofs.put.job_length.Given as goal

abbrev pub invariant-loop-i : goal.invariant-loop-i
invariant-loop-i l = (l.i ≤ l.stars.count) × (l.total ≤ 4 + 723 * l.i)
    × ((kind : List ℕ) → l.total + length (write_stars (stars_in (l.stars.count - l.i) l.i l.stars.ends.now l.stars.nbr.now kind)) ≡ length (write_job (job_in l.stars.count l.stars.ends.now l.stars.nbr.now kind)))
