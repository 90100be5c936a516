-- The directions, the jobs that can be numbered, and how large their numbers can be. Assumes nothing.
use Rattle.std.specs.Prelude.{Bool, map, ℕ, ◌+◌, ltb}
use Rattle.floor.specs.Lists.{all, sum, up_from}
use Rattle.floor.specs.Jobs.{Entry, Star, Job, Sizes}
use Rattle.floor.specs.Walls.{Axis, upright, level, high, extra}
use Rattle.walls.specs.declared.Direction.{Direction}
use Rattle.walls.specs.declared.Direction.TheVariants.{Upright, Level}

-- which walls a direction means
abbrev pub axis_of : Direction → Axis
axis_of Upright = upright
axis_of Level = level

-- the entry names a vertex whose sides are among so many
abbrev pub entry_named : ℕ → Entry → Bool
entry_named m e = ltb (high e.to) m

-- so does every entry of the star
unfoldable pub star_named : ℕ → Star → Bool
star_named m s = all (entry_named m) s

-- so does every entry of the job
unfoldable pub named : ℕ → Job → Bool
named m j = all (star_named m) j

-- the largest number that a wall of n rooms can have: 1, and each room's least size, one after the other
unfoldable pub top_of_rooms : Axis → ℕ → Sizes → ℕ
top_of_rooms a n z = 1 + (n + sum (map (extra a z) (up_from 4 n)))
