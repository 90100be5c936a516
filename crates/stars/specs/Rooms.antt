-- Tests of every room of a job, star by star. Assumes nothing.
use Rattle.std.specs.Prelude.{ℕ, suc, Bool, true, ◌&&◌, [], ◌∷◌}
use Rattle.floor.specs.Jobs.{Star, Job}

-- every star passes, with the number of its room; the first room's number is given
unfoldable pub all_from : (ℕ → Star → Bool) → ℕ → Job → Bool
all_from p u [] = true
all_from p u (s ∷ j) = p u s && all_from p (suc u) j
