-- The bytes of the held stars. Assumes nothing.
use Rattle.std.specs.Prelude.{ℕ, List, ◌<◌, ◌≤◌, length}
use Rattle.floor.specs.Fields.{write_field}
use Rattle.floor.specs.Jobs.{star_bytes}
use Rattle.stars.specs.declared.held.Held.{Held}
use Rattle.stars.specs.declared.least.Least.{Least}
use Rattle.stars.specs.Held.{held_star}

-- the field of star i
unfoldable pub star_field : List ℕ → List ℕ → List ℕ → ℕ → List ℕ
star_field ends nbr kind i = write_field 2 (star_bytes (held_star ends nbr kind i))

-- the field of star i of the stars that are lent
abbrev pub field_lent : Held → ℕ → List ℕ
field_lent h i = star_field h.ends.now h.nbr.now h.kind.now i

-- stars and least sizes that a job's fields can tell: a byte counts the rooms, another those with sizes, and there is room for a job's contacts
abbrev pub InReach : Held → Least → Type 0
InReach h z = (h.count < 256) × (length h.nbr.now ≤ 360) × (z.told < 256)
