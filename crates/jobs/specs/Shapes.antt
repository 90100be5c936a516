-- What the answers on a job's shape mean, and the stars and sizes as they stand in the bytes. Assumes nothing.
use Rattle.std.specs.Prelude.{ℕ, zero, suc, ◌+◌, ◌≤◌, ◌≡◌, Bool, true, List, [], ◌∷◌, length, drop, Option as Answer, Some, None, Result, Ok, Err}
use Rattle.std.proofs.Math.Option.{Option, none, some}
use Rattle.floor.specs.Lists.{all}
use Rattle.floor.specs.Fields.{read_field, value_of, rest_of}
use Rattle.floor.specs.Jobs.{Star, Job, Sizes, SizedJob, sized_job, pairs_in, entry_ok, entries, size_pairs, test2, Reading, fails, reads}
use Rattle.refusals.specs.declared.Refusal.{Refusal}
use Rattle.refusals.specs.Numbers.{number_of}
use Rattle.jobs.specs.declared.outline.Count.{Count}
use Rattle.jobs.specs.declared.outline.Shape.{Shape}

-- the number of pairs that an answer gives
unfoldable pub counted : Answer Count → Option ℕ
counted None = none
counted (Some c) = some c.pairs

-- what stands from the place on that it gives
unfoldable pub behind : Answer Count → List ℕ → List ℕ → Type 0
behind None bs rest = Unit {0}
behind (Some c) bs rest = drop c.end bs ≡ rest

-- the pairs of some stars, with p before them
unfoldable pub pairs_past : ℕ → Option Job → Option ℕ
pairs_past p none = none
pairs_past p (some j) = some (p + pairs_in j)

-- the stars of the n fields that stand first in some bytes; where a field is broken, a star with no entry
unfoldable pub stars_at : ℕ → List ℕ → Job
stars_at zero bs = []
stars_at (suc n) bs = entries (value_of (read_field bs)) ∷ stars_at n (rest_of (read_field bs))

-- the sizes of the field that stands first in some bytes; none where no whole field does
unfoldable pub sizes_at : List ℕ → Sizes
sizes_at bs = size_pairs (value_of (read_field bs))

-- the job whose stars stand at one place of some bytes, and whose sizes at another
abbrev pub job_at : ℕ → ℕ → ℕ → List ℕ → SizedJob
job_at n at end bs = sized_job (stars_at n (drop at bs)) (sizes_at (drop end bs))

-- the job that stands in some bytes of a shape
abbrev pub job_shaped : Shape → List ℕ → SizedJob
job_shaped h bs = job_at h.rooms h.first h.end bs

-- what an answer on the shape of some bytes says of them
unfoldable pub reading : Result Shape Refusal → List ℕ → Reading SizedJob
reading (Err k) bs = fails (number_of k)
reading (Ok h) bs = reads (job_shaped h bs)

-- what a shape tells of some bytes besides: test 2 is passed, how many pairs there are, and that there are no more than 60 sizes
abbrev pub Fits : Shape → List ℕ → Type 0
Fits h bs = (test2 h.rooms ≡ true) × (h.pairs ≡ pairs_in (stars_at h.rooms (drop h.first bs))) × (length (sizes_at (drop h.end bs)) ≤ 60)

-- what an answer on the shape tells besides
unfoldable pub told : Result Shape Refusal → List ℕ → Type 0
told (Err k) bs = Unit {0}
told (Ok h) bs = Fits h bs

-- test 4 of one star, room u's among n rooms
unfoldable pub entries_ok : ℕ → ℕ → Star → Bool
entries_ok n u s = all (entry_ok n u) s
