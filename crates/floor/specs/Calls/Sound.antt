-- Definitions; what is proved of them stands in proofs/ under the same name. Assumes nothing.
use Rattle.std.specs.Prelude.{◌≡◌, true, length}
use Rattle.floor.specs.Jobs.{test2, test3, SizedJob, test17}
use Rattle.floor.specs.Jobs.Facts.{Passes}
use Rattle.floor.specs.Jobs.Written.{Counts}
use Rattle.floor.specs.Plans.{Plan}
use Rattle.floor.specs.Plans.Held.{Drawn}
use Rattle.floor.specs.Calls.{Board, empty, holding}

-- WHAT IS HELD: a job past tests 2 to 6 and 17, with as many sizes as rooms, if any, and its own drawing
pub record Sound (o : SizedJob) (p : Plan) : Type 0 where
  pub pass2 : test2 (length o.stars) ≡ true
  pub counts : Counts (length o.stars) o.sizes
  pub pass3 : test3 o.stars ≡ true
  pub passes : Passes o.stars
  pub pass17 : test17 o.sizes ≡ true
  pub is_drawn : Drawn o p

-- a board that holds nothing, or something sound
abbrev pub SoundBoard : Board → Type 0
SoundBoard empty = Unit {0}
SoundBoard (holding o p) = Sound o p
