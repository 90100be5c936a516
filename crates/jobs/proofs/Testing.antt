-- Tests 3 to 6 and 17, and the star question, as the code comes by them. Assumes nothing.
use Prim.Native.Nat.{ℕ, zero, suc, ◌+◌, ◌-◌, ◌<◌, ◌≤◌}
use mathlib.Core.Path.{◌≡◌, refl, sym, ◌∙◌, ap}
use mathlib.Core.Bool.{Bool, true, false, cond, not, ◌&&◌}
use mathlib.Core.List.{List, [], ◌∷◌, ◌++◌}
use native.Mathlib.Omega.{arith}
use borrow.Author.Tests.{le-leb, lt-leb, leb-true, lt-ltb, not-true, not-false}
use lib.Dec.{leb}
use lib.ListN.{length, get_or, take, drop, take-append-drop}
use Rattle.floor.specs.Lists.{all}
use Rattle.floor.proofs.Lists.Laws.{and_right}
use Rattle.floor.specs.Fields.{Bytes, Field, broken, field, read_field, value_of, rest_of, after_fields}
use Rattle.floor.proofs.Fields.Laws.{Whole, whole_field, bytes_behind}
use Rattle.floor.specs.Jobs.{Job, SizedJob, Reading, is_vertex, is_room, pairs_in, star_ok, test2, test3, test4, test5, test6, test17, fails, reads, read_job, passing, first_six}
use Rattle.floor.specs.Jobs.{entries, first_three, sizes_pass, raw_from, raw_star}
use Rattle.stars.specs.declared.Stars.{Stars}
use Rattle.stars.specs.declared.Sizes.{Sizes as HeldSizes}
use Rattle.stars.specs.Rooms.{all_from}
use Rattle.stars.specs.Held.{job_in, job_of, held_of}
use Rattle.stars.specs.Sized.{sizes_in, sizes_of, held_sizes}
use Rattle.stars.proofs.Holding.{job_stars}
use Rattle.stars.proofs.EveryRoom.{test4_stars}
use Rattle.stars.proofs.Back.{small, given_back, job_back}
use Rattle.stars.proofs.Sized.{sizes_back}
use Rattle.std.specs.Prelude.{Result, Ok, Err}
use Rattle.refusals.specs.declared.Refusal.{Refusal}
use Rattle.refusals.specs.declared.Refusal.TheVariants.{TooManyPairs, WrongEntry, WrongStar, Unanswered, WrongSizes}
use Rattle.refusals.specs.Numbers.{number_of}
use Rattle.jobs.specs.declared.Job.{Job as Held}
use Rattle.jobs.specs.declared.outline.Shape.{Shape}
use Rattle.jobs.specs.Shapes.{stars_at, sizes_at, job_at, job_shaped, Fits, entries_ok, reading, told}
use Rattle.jobs.specs.Reads.{outcome, kept, kept_sizes, Keeps, Tells}

-- a refusal tells of a reading that fails the test of its number
refuses : (k : Refusal) → Tells (Err k) (fails (number_of k))
unfolding outcome Keeps
refuses k = record { says = refl; keeps = tt }

-- as many stars are read as are asked for
pub stars_length : (n : ℕ) (bs : List ℕ) → length (stars_at n bs) ≡ n
unfolding stars_at
stars_length zero bs = refl
stars_length (suc n) bs = ap suc (stars_length n (rest_of (read_field bs)))

-- the front part of bytes is bytes
bytes_front : (a b : List ℕ) → Bytes (a ++ b) → Bytes a
bytes_front [] b p = tt
bytes_front (x ∷ a) b p = (p.0, bytes_front a b p.1)

-- bytes, and the stars that stand in them, name bytes only
bytes_fit : (s : List ℕ) → ((i : ℕ) → get_or s i 0 < 256) → Bytes s
bytes_fit [] f = tt
bytes_fit (b ∷ s) f = (f 0, bytes_fit s (λ i. f (suc i)))

-- the back part of bytes is bytes
bytes_drop : (k : ℕ) (s : List ℕ) → Bytes s → Bytes (drop k s)
bytes_drop k s b = bytes_behind (take k s) (drop k s) (rw (take-append-drop k s) b)

-- in bytes, the value of the first field is bytes, and so is what follows it
bytes_value : (f : Field) (bs : List ℕ) → read_field bs ≡ f → Bytes bs → Bytes (value_of f) × Bytes (rest_of f)
unfolding value_of rest_of
bytes_value broken bs e b = (tt, tt)
bytes_value (field t v rest) bs e b =
    let w : Whole bs t v rest = whole_field bs t v rest e in
    let all : Bytes (t ∷ w.h ∷ w.l ∷ (v ++ rest)) = rw w.is at b in
    (bytes_front v rest all.1.1.1, bytes_behind v rest all.1.1.1)

-- entries that are read from bytes name bytes only
entries_small : (v : List ℕ) → Bytes v → small (entries v) ≡ true
unfolding all entries
entries_small [] b = refl
entries_small (x ∷ []) b = refl
entries_small (x ∷ k ∷ v) b = rw (lt-ltb x 256 b.0) (entries_small v b.1.1)

-- so do the stars that stand in bytes
stars_small : (n : ℕ) (bs : List ℕ) → Bytes bs → all small (stars_at n bs) ≡ true
unfolding all stars_at
stars_small zero bs b = refl
stars_small (suc n) bs b =
    let both : Bytes (value_of (read_field bs)) × Bytes (rest_of (read_field bs)) = bytes_value (read_field bs) bs refl b in
    rw (entries_small (value_of (read_field bs)) both.0) (stars_small n (rest_of (read_field bs)) both.1)

module _ (s : List ℕ) (n at : ℕ) where
  -- the n stars from a place on
  abbrev job : Job
  job = stars_at n (drop at s)

  -- test 4 asked star by star, with the number of its room, is test 4 of the job
  pub test4_walked : (r : Bool) → r ≡ all_from (entries_ok n) 4 job → r ≡ test4 job
  unfolding entries_ok
  test4_walked r e = e ∙ sym (test4_stars job ∙ rw (stars_length n (drop at s)))

  -- test 5 asked star by star is test 5 of the job
  pub test5_walked : (r : Bool) → r ≡ all star_ok job → r ≡ test5 job
  unfolding test5
  test5_walked r e = e

  module _ (p : ℕ) (count : p ≡ pairs_in job) where
    -- more than 360 pairs fail test 3
    test3_no : 360 < p → test3 job ≡ false
    unfolding test3
    test3_no h = rw (← count, lt-leb p 360 h)

    -- at most 360 pairs pass test 3
    test3_yes : p ≤ 360 → test3 job ≡ true
    unfolding test3
    test3_yes h = rw (← count, le-leb p 360 h)

    module _ (end : ℕ) where
      -- the answers of `tested`, as it comes by them: 3 where there are more than 360 pairs
      pub tells_3 : 360 < p → Tells (Err TooManyPairs) (sizes_pass (first_six (reads (job_at n at end s))))
      unfolding sizes_pass first_six passing number_of
      tells_3 h = rw (test3_no h) (refuses TooManyPairs)

      module _ (a : Bool) (ea : a ≡ all_from (entries_ok n) 4 job) (h : p ≤ 360) where
        -- 4 where an entry may not stand where it does
        pub tells_4 : not a ≡ true → Tells (Err WrongEntry) (sizes_pass (first_six (reads (job_at n at end s))))
        unfolding sizes_pass first_six passing number_of
        tells_4 na = rw (test3_yes h, ← test4_walked a ea, not-true a na) (refuses WrongEntry)

        module _ (na : not a ≡ false) (b : Bool) (eb : b ≡ all star_ok job) where
          -- 5 where a star is not one
          pub tells_5 : not b ≡ true → Tells (Err WrongStar) (sizes_pass (first_six (reads (job_at n at end s))))
          unfolding sizes_pass first_six passing number_of
          tells_5 nb = rw (test3_yes h, ← test4_walked a ea, not-false a na, ← test5_walked b eb, not-true b nb) (refuses WrongStar)

  module _ (p : ℕ) (few : n ≤ 60) (count : p ≡ pairs_in job) (h : p ≤ 360) (a b d : Bool) (ea : a ≡ all_from (entries_ok n) 4 job) (na : not a ≡ false)
      (eb : b ≡ all star_ok job) (nb : not b ≡ false) (g : Stars) (eg : g ≡ held_of job) (y : ℕ) (ey : y ≡ g.count)
      (ed : d ≡ test6 (job_in y g.ends g.nbr g.kind)) where
    -- the held stars give back the job
    same_job : job_of g ≡ job
    same_job = rw eg (job_back job (omega (arith, stars_length n (drop at s))) (omega arith) (sym (test4_walked a ea) ∙ not-false a na))

    -- test 6 asked of the held stars is test 6 of the job
    test6_held : d ≡ test6 job
    test6_held = ed ∙ ap test6 (job_stars g y ey ∙ same_job)

    -- 6 where a room that is listed does not list the other with the opposite kind
    pub tells_6 : (end : ℕ) → not d ≡ true → Tells (Err Unanswered) (sizes_pass (first_six (reads (job_at n at end s))))
    unfolding sizes_pass first_six passing number_of
    tells_6 end nd =
        rw (test3_yes p count h, ← test4_walked a ea, not-false a na, ← test5_walked b eb, not-false b nb, ← test6_held, not-true d nd) (refuses Unanswered)

    module _ (nd : not d ≡ false) (end : ℕ) (most : length (sizes_at (drop end s)) ≤ 60) (z : HeldSizes) (ez : z ≡ held_sizes (sizes_at (drop end s)))
        (m : ℕ) (em : m ≡ z.told) (l : Bool) (el : l ≡ test17 (sizes_in m z.list)) where
      -- the held sizes give back the sizes
      same_sizes : sizes_of z ≡ sizes_at (drop end s)
      same_sizes = rw ez (sizes_back (sizes_at (drop end s)) most)

      -- test 17 asked of the held sizes is test 17 of the job
      test17_held : l ≡ test17 (sizes_at (drop end s))
      unfolding sizes_of
      test17_held = (rw em at el) ∙ ap test17 same_sizes

      -- where tests 3 to 6 are passed, test 17 is left
      six_left : sizes_pass (first_six (reads (job_at n at end s))) ≡ passing l 17 (reads (job_at n at end s))
      unfolding sizes_pass first_six passing
      six_left =
          rw (test3_yes p count h, ← test4_walked a ea, not-false a na, ← test5_walked b eb, not-false b nb, ← test6_held, not-false d nd, ← test17_held)

      -- 17 where a size is not 1 to 15, or all are 1
      pub tells_17 : not l ≡ true → Tells (Err WrongSizes) (sizes_pass (first_six (reads (job_at n at end s))))
      unfolding passing number_of
      tells_17 nl = rw (six_left, not-true l nl) (refuses WrongSizes)

      -- else the tests are passed, and the stars and the sizes held
      pub tells_job : not l ≡ false → Tells (Ok (record { stars = g; sizes = z })) (sizes_pass (first_six (reads (job_at n at end s))))
      unfolding passing outcome kept kept_sizes Keeps
      tells_job nl = rw (six_left, not-false l nl) (record { says = rw (same_job, same_sizes); keeps = (eg, ez) })

-- test 3 alone
module _ (s : List ℕ) (n at p end : ℕ) (count : p ≡ pairs_in (stars_at n (drop at s))) where
  -- 3 where there are more than 360 pairs
  pub three_no : 360 < p → Tells (Err TooManyPairs) (first_three (reads (job_at n at end s)))
  unfolding first_three passing number_of
  three_no h = rw (test3_no s n at p count h) (refuses TooManyPairs)

  -- else test 3 is passed, and the stars and the sizes held
  pub three_held : (g : Stars) (z : HeldSizes) → g ≡ held_of (stars_at n (drop at s)) → z ≡ held_sizes (sizes_at (drop end s)) → n ≤ 60
      → length (sizes_at (drop end s)) ≤ 60 → p ≤ 360 → ((i : ℕ) → get_or s i 0 < 256)
      → Tells (Ok (record { stars = g; sizes = z })) (first_three (reads (job_at n at end s)))
  unfolding first_three passing outcome kept kept_sizes Keeps
  three_held g z eg ez few most h fit =
      let j : Job = stars_at n (drop at s) in
      let b : all small j ≡ true = stars_small n (drop at s) (bytes_drop at s (bytes_fit s fit)) in
      let same : job_of g ≡ j = rw eg (given_back j (omega (arith, stars_length n (drop at s))) (omega arith) b) in
      let sized : sizes_of z ≡ sizes_at (drop end s) = rw ez (sizes_back (sizes_at (drop end s)) most) in
      rw (test3_yes s n at p count h) (record { says = rw (same, sized); keeps = (eg, ez) })

-- what the shape tells
module _ (s : List ℕ) (f : Result Shape Refusal) where
  -- where the shape is refused, its refusal is what tests 1 to 3 come to
  pub three_fails : (k : Refusal) → f ≡ Err k → reading f s ≡ read_job s → Tells (Err k) (first_three (read_job s))
  unfolding reading first_three
  three_fails k e q = rw (← q, e) (refuses k)

  -- and what tests 1 to 6 and 17 come to
  pub read_fails : (k : Refusal) → f ≡ Err k → reading f s ≡ read_job s → Tells (Err k) (sizes_pass (first_six (read_job s)))
  unfolding reading first_six sizes_pass
  read_fails k e q = rw (← q, e) (refuses k)

  module _ (h : Shape) (e : f ≡ Ok h) where
    -- where it is not, tests of the job that is read come to those of the one that stands there
    pub shaped : (g : Reading SizedJob → Reading SizedJob) (x : Result Held Refusal) → reading f s ≡ read_job s → Tells x (g (reads (job_shaped h s)))
        → Tells x (g (read_job s))
    unfolding reading
    shaped g x q t = rw (← q, e) t

    -- and the shape fits the bytes
    pub fits : told f s → Fits h s
    unfolding told
    fits t = rw e at t

-- a shape that fits has at most 60 rooms
pub few_rooms : (n : ℕ) → test2 n ≡ true → n ≤ 60
unfolding test2
few_rooms n t = leb-true n 60 (and_right (leb 1 n) (leb n 60) t)

-- the star question
module _ (s : List ℕ) (f : Result Shape Refusal) (v : ℕ) where
  -- bytes that fail test 1 or 2 have no star to hand back
  pub raw_fails : (k : Refusal) → f ≡ Err k → reading f s ≡ read_job s → [] ≡ raw_star s v
  unfolding reading raw_star raw_from
  raw_fails k e q = rw (← q, e)

  module _ (h : Shape) (e : f ≡ Ok h) (q : reading f s ≡ read_job s) where
    -- for a room, it is the value of the field behind the first field and the stars before; for any other number, nothing
    raw_room : raw_star s v ≡ cond (leb 4 v && leb v (h.rooms + 3)) (value_of (read_field (after_fields (v - 3) s))) []
    unfolding reading raw_star raw_from is_room is_vertex
    raw_room = rw (← q, e, stars_length h.rooms (drop h.first s))

    -- a side of the frame has no star
    pub raw_side : v < 4 → [] ≡ raw_star s v
    raw_side h = rw (raw_room, lt-leb 4 v h)

    -- a number above n + 3 has no star
    pub raw_past : (m : ℕ) → 4 ≤ v → m ≡ h.rooms → m + 3 < v → [] ≡ raw_star s v
    raw_past m g i l = rw (raw_room, le-leb 4 v g, ← i, lt-leb v (m + 3) l)

    -- a room's star is the value of the field at that place
    pub raw_value : (m at : ℕ) (r : List ℕ) → 4 ≤ v → m ≡ h.rooms → v ≤ m + 3 → drop at s ≡ after_fields (v - 3) s → r ≡ value_of (read_field (drop at s))
        → r ≡ raw_star s v
    raw_value m at r g i l d w = rw (raw_room, le-leb 4 v g, ← i, le-leb v (m + 3) l, ← d) w
