-- What reading a job answers. Assumes nothing.
use Rattle.std.specs.Prelude.{◌≡◌, Result, Ok, Err}
use Rattle.floor.specs.Jobs.{SizedJob, sized_job, Reading, fails, reads}
use Rattle.refusals.specs.declared.Refusal.{Refusal}
use Rattle.refusals.specs.Numbers.{number_of}
use Rattle.stars.specs.declared.Stars.{Stars}
use Rattle.stars.specs.declared.Sizes.{Sizes as HeldSizes}
use Rattle.stars.specs.Held.{job_of, no_stars, held_of}
use Rattle.stars.specs.Sized.{sizes_of, no_sizes, held_sizes}
use Rattle.jobs.specs.declared.Job.{Job}

-- the job that is held
abbrev pub held_job : Job → SizedJob
held_job h = sized_job (job_of h.stars) (sizes_of h.sizes)

-- what came of reading a job: that job, or the number of the test that fails
unfoldable pub outcome : Result Job Refusal → Reading SizedJob
outcome (Ok h) = reads (held_job h)
outcome (Err k) = fails (number_of k)

-- the stars that are kept of it: none where it is refused
unfoldable pub kept : Reading SizedJob → Stars
kept (fails k) = no_stars
kept (reads o) = held_of o.stars

-- the sizes that are kept of it: none where it is refused
unfoldable pub kept_sizes : Reading SizedJob → HeldSizes
kept_sizes (fails k) = no_sizes
kept_sizes (reads o) = held_sizes o.sizes

-- the very stars and sizes of a reading are held; where it is refused nothing is
unfoldable pub Keeps : Result Job Refusal → Reading SizedJob → Type 0
Keeps (Ok h) x = (h.stars ≡ kept x) × (h.sizes ≡ kept_sizes x)
Keeps (Err k) x = Unit {0}

-- an answer says what a reading came to, and keeps the stars and the sizes of it
pub record Tells (r : Result Job Refusal) (x : Reading SizedJob) : Type 0 where
  pub says : outcome r ≡ x
  pub keeps : Keeps r x
