-- A plausible slip, computed. Assumes nothing.
use Rattle.std.specs.Prelude.{ℕ, ◌+◌, ◌*◌, ◌≡◌, refl, Bool, true, false, List, eqb, length}
use Rattle.std.proofs.Math.Option.{Option, none, some}
use Rattle.floor.specs.Lists.{keep, sum, up_from}
use Rattle.floor.specs.Fields.{read_field, rest_of, after_fields}
use Rattle.floor.specs.Jobs.{Job, Sizes, SizedJob, size_of, Reading, fails, reads, entries, star_then, read_stars, size_pairs, sizes_in, read_sizes, read_rest}
use Rattle.floor.specs.Jobs.{read_rooms, read_first, read_job, rooms, test2}
use Rattle.floor.specs.Walls.{Rule, same, before, Axis, upright, level, at, extra, rules, top_of, entry_rules, star_rules, rules_from}
use Rattle.floor.specs.Walls.{raise, relax1, relax, meets, over, passes, numbers_of}
use Rattle.floor.specs.Plans.{room_rect, abut, corner}
use Rattle.floor.proofs.Examples.{job_f}

-- a rule of rooms alone: a room's own, or a wall that two share
unfoldable pub from_rooms : Rule → Bool
from_rooms (same a b) = true
from_rooms (before a b x) = eqb b (a + 1)

-- the numbers without the rules of contacts across
unfoldable pub rooms_only : Axis → Job → Sizes → Option (List ℕ)
rooms_only a j z = numbers_of (keep from_rooms (rules a j z)) (2 * (length j + 4)) (top_of a j z)

-- rooms 5 and 6 meet only at a corner point
unfoldable pub at_point : Option (List ℕ) → Option (List ℕ) → Bool
at_point (some f) (some g) = corner (room_rect (at f) (at g) 5) (room_rect (at f) (at g) 6)
at_point (some f) none = false
at_point none b = false

-- of a job that was read
unfoldable pub slips : Reading SizedJob → Bool
slips (fails k) = false
slips (reads o) = at_point (rooms_only upright o.stars o.sizes) (rooms_only level o.stars o.sizes)

-- NUMBERED FROM ROOMS ONLY, without the contact rules, rooms 5 and 6 of F meet at a point
pub rooms_only_lem : slips (read_job job_f) ≡ true
unfolding from_rooms rooms_only at_point slips job_f keep sum up_from read_field rest_of after_fields entries star_then read_stars size_pairs sizes_in read_sizes read_rest
    read_rooms read_first read_job rooms size_of test2 extra top_of entry_rules
    star_rules rules_from raise relax1 relax meets over passes numbers_of room_rect abut corner
rooms_only_lem = refl
