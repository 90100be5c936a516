-- A head tells of fewer bytes than a job's page has.
use Rattle.std.proofs.Common.{◌≡◌, ℕ, ◌<◌}
use Rattle.std.specs.Prelude.{Option, None, Some, Result, Ok}
use Rattle.std.specs.Option.{ok_or}
use Rattle.season.specs.Heads.{fits}
use Rattle.season.proofs.Heading.{job_fits}
use Rattle.totals.proofs.add_next.Goals as goal

-- what is asked of a head is what it says
asked_fits : {E : Type 0} (f : Option ℕ) (y : E) (r : Result ℕ E) (n : ℕ) → r ≡ ok_or f y → r ≡ Ok n → fits f → n < 65536
asked_fits None y r n e o h = absurd (cc)
asked_fits (Some m) y r n e o h = job_fits (Some m) n (cc) h

pub add_job-requires : goal.add_job-requires
add_job-requires g c = asked_fits _ _ _ _ c.ok_or.ensures.value c.in_ok-n.was c.head_of.ensures.1
