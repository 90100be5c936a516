-- F, and a placing of its rectangles that is smaller because rooms 5 and 6 meet only at a corner: it is none. Assumes nothing.
use Rattle.std.specs.Prelude.{◌≡◌, refl, [], ◌∷◌}
use mathlib.Core.List.Memᴰ
use Rattle.std.proofs.Common.{arith}
use Rattle.floor.specs.Fields.{read_field, rest_of, after_fields}
use Rattle.floor.specs.Jobs.{Job, star_of, entries, sized_job, reads, read_job, read_first, read_rooms, test2, read_rest, read_stars, star_then, read_sizes}
use Rattle.floor.specs.Plans.{Plan, rect_of}
use Rattle.floor.specs.Smallest.{Placing}
use Rattle.floor.proofs.Examples.{job_f}

-- the stars of F
unfoldable pub stars_f : Job
stars_f =
    entries (0 ∷ 0 ∷ 1 ∷ 1 ∷ 6 ∷ 2 ∷ 5 ∷ 3 ∷ [])
    ∷ entries (0 ∷ 0 ∷ 4 ∷ 1 ∷ 6 ∷ 1 ∷ 7 ∷ 2 ∷ 3 ∷ 3 ∷ [])
    ∷ entries (4 ∷ 0 ∷ 1 ∷ 1 ∷ 2 ∷ 2 ∷ 7 ∷ 3 ∷ 5 ∷ 3 ∷ [])
    ∷ entries (5 ∷ 0 ∷ 6 ∷ 1 ∷ 2 ∷ 2 ∷ 3 ∷ 3 ∷ [])
    ∷ []

-- they are those of its bytes
pub read_F : read_job job_f ≡ reads (sized_job stars_f [])
unfolding read_job read_first read_field read_rooms test2 read_rest read_stars star_then rest_of read_sizes after_fields job_f entries stars_f
read_F = refl

-- the four rooms two by two, on a sheet of 4 by 4: F's is 4 by 5
unfoldable pub corner_f : Plan
corner_f = record {
  width = 4;
  height = 4;
  rects = record { vertex = 0; x1 = 1; y1 = 3; x2 = 3; y2 = 4 }
      ∷ record { vertex = 1; x1 = 0; y1 = 0; x2 = 1; y2 = 4 }
      ∷ record { vertex = 2; x1 = 1; y1 = 0; x2 = 3; y2 = 1 }
      ∷ record { vertex = 3; x1 = 3; y1 = 0; x2 = 4; y2 = 4 }
      ∷ record { vertex = 4; x1 = 1; y1 = 2; x2 = 2; y2 = 3 }
      ∷ record { vertex = 5; x1 = 2; y1 = 2; x2 = 3; y2 = 3 }
      ∷ record { vertex = 6; x1 = 1; y1 = 1; x2 = 2; y2 = 2 }
      ∷ record { vertex = 7; x1 = 2; y1 = 1; x2 = 3; y2 = 2 }
      ∷ [];
}

-- IT IS NO PLACING: 6 stands to the left of 5 by the job, and there they meet only at the point (2, 2)
pub corner_is_none : Placing stars_f [] corner_f → ⊥
unfolding star_of rect_of entries stars_f corner_f
corner_is_none g =
    let w = g.met 5 (omega arith, omega arith) (record { to = 6; kind = 1 }) (Memᴰ.tail (Memᴰ.tail (Memᴰ.head refl))) in
    omega (arith, w.ends, w.starts')
