use Prim.Native.Nat.{◌+◌, ◌-◌}
use mathlib.Core.Path.{◌≡◌}
use lib.ListN.{length}
use Rattle.floor.specs.JobTexts.{rooms_text, job_text}
use Rattle.floor.specs.Jobs.{sized_job}
use Rattle.stars.specs.Held.{stars_in, job_held}
use Rattle.stars.specs.Sized.{sizes_lent}
use Rattle.job_texts.proofs.Put.{Left}
use Rattle.job_texts.proofs.write.put_rooms.Given as goal

abbrev pub invariant-loop-i : goal.invariant-loop-i
invariant-loop-i l =
    (length l.out ≡ length l.initial.out)
    × Left l.initial.out 0 (job_text (sized_job (job_held l.stars) (sizes_lent l.sizes))) l.out l.next
    (rooms_text (4 + l.i) (stars_in (l.i-end - l.i) l.i l.stars.ends.now l.stars.nbr.now l.stars.kind.now) (sizes_lent l.sizes))
