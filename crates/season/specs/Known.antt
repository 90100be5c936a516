-- What is known after some wrappers were read. Assumes nothing.
use Rattle.std.specs.Prelude.{◌≡◌, ℕ, ◌+◌, List, ◌++◌, length}
use Rattle.floor.specs.Totals.{Jobs, unwrap, figures, season}
use Rattle.floor.specs.Totals.Wrapped.{tell_with}

-- KNOWN AFTER SOME BYTES: the jobs that were read, their figures, and how many more may come; whatever follows, the totals are those of both
pub record Known (left : ℕ) (sums bs : List ℕ) : Type 0 where
  pub past : Jobs
  pub whole : (rest : List ℕ) → season (bs ++ rest) ≡ tell_with past (unwrap left rest)
  pub are : sums ≡ figures past
  pub many : length past + left ≡ 200
