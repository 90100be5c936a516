-- Plans drawn elsewhere: where a job has any good plan with rooms of at least their least sizes, its walls run in no circle, and the plan by wall numbers is
-- good. Assumes nothing.
use Rattle.std.specs.Prelude.{◌≡◌, refl, ℕ, ◌+◌, ◌-◌, ◌≤◌, ◌<◌, length, get_or}
use Rattle.std.proofs.Common.{◌∙◌, arith}
use Rattle.std.proofs.Math.Option.{some}
use mathlib.Core.List.{List, [], Memᴰ}
use Rattle.floor.specs.Jobs.{Entry, Job, Sizes, size_of}
use Rattle.floor.specs.Jobs.Facts.{Passes}
use Rattle.floor.specs.Walls.{Respects, Axis, upright, level, low, high, rules, at, job_numbers, Numbers, extra}
use Rattle.floor.proofs.Walls.Rules.{Obeys, obeys_respects, numbered, numbers_are, to_vertex, sided, sided_low, sided_high}
use Rattle.floor.specs.Plans.{Plan, plan_of}
use Rattle.floor.specs.Floor.{GoodPlan, Roomy}
use Rattle.floor.proofs.Floor.Sides.{Side, up, right, opp, round, Piece, room, Place, size, Known, Meets, Good}
use Rattle.floor.proofs.Floor.Cover.{size_opp}
use Rattle.floor.proofs.Floor.Again.{good_again, good_tri}
use Rattle.floor.proofs.Floor.Read.{num, piece, piece_room, stars_of, entry_mem, known_piece, entry_ok, lawful}
use Rattle.floor.proofs.Floor.Placed.{place_of, reach}
use Rattle.floor.proofs.Floor.Bridge.{plan_good, good_plan}
use Rattle.floor.proofs.Floor.Ours.{plan_complete, plan_fits, plan_roomy}

-- the place of a wall's side, read off a plan in direction k
unfoldable measure : Place → Side → ℕ → ℕ
measure p k = sided (λ v. size p k - p.at (opp k) (piece v)) (λ v. p.at k (piece v))

-- the low side of a vertex is placed where the vertex begins in that direction
measure_low : (p : Place) (k : Side) (v : ℕ) → measure p k (low v) ≡ size p k - p.at (opp k) (piece v)
unfolding measure
measure_low p k = sided_low (λ v. size p k - p.at (opp k) (piece v)) (λ v. p.at k (piece v))

-- the high side of a vertex is placed where the vertex ends in that direction
measure_high : (p : Place) (k : Side) (v : ℕ) → measure p k (high v) ≡ p.at k (piece v)
unfolding measure
measure_high p k = sided_high (λ v. size p k - p.at (opp k) (piece v)) (λ v. p.at k (piece v))

-- every room has its least size in direction k
abbrev Large : Job → Sizes → Place → Axis → Side → Type 0
Large j z p a k = (i : ℕ) → i < length j → size p k + a.least (size_of z (4 + i)) ≤ p.at k (room i) + p.at (opp k) (room i)

module _ (j : Job) (z : Sizes) (ok : Passes j) (p : Place) (g : Good (stars_of j) p) where
  -- an entry's neighbour is a vertex of the job, and meets the room on the side of its kind
  meet : (k : Side) (i : ℕ) → i < length j → (e : Entry) → Memᴰ e (get_or j i []) → e.kind ≡ num k
      → Known (stars_of j) (piece e.to) × Meets p k (room i) (piece e.to)
  unfolding stars_of
  meet k i h e m ke =
      let q : Known (stars_of j) (piece e.to) = known_piece j e.to (entry_ok j ok i h e m).below in
      (q, g.meets k (room i) (piece e.to) h q (entry_mem (get_or j i []) (num k) e m ke))

  -- A GOOD PLAN'S PLACES RESPECT THE WALLS: k is where the direction leads, c the side of its cross contacts
  along : (a : Axis) (k c : Side) → a.far ≡ num k → a.near ≡ num (opp k) → a.cross ≡ num c
      → ((u v : Piece) → Meets p c u v → (size p k < p.at k u + p.at (opp k) v) × (size p k < p.at (opp k) u + p.at k v))
      → Large j z p a k → Obeys a (measure p k) j z
  unfolding stars_of extra
  along a k c ef en ec cross roomy = record {
    own = λ i h. rw (measure_low p k (4 + i), measure_high p k (4 + i), piece_room i)
        (omega (arith, roomy i h, g.thick k (room i) h, g.inside (opp k) (room i) h, size_opp p k));
    each = λ i h e m. record {
      if_far = λ ke.
          let (kn, t) = meet k i h e m (ke ∙ ef) in
          rw (measure_low p k e.to, measure_high p k (4 + i), piece_room i) (omega (arith, t.touch));
      if_near = λ ke.
          let (kn, t) = meet (opp k) i h e m (ke ∙ en) in
          let f : p.at (opp k) (room i) + p.at k (piece e.to) ≡ size p (opp k) = rw (round k) at t.touch in
          rw (measure_low p k (4 + i), measure_high p k e.to, piece_room i) (omega (arith, size_opp p k));
      if_cross = λ ke l.
          let (kn, t) = meet c i h e m (ke ∙ ec) in
          let (x, y) = cross (room i) (piece e.to) t in
          let d : p.at (opp k) (piece e.to) ≤ size p (opp k) = g.inside (opp k) (piece e.to) kn in
          let f : p.at (opp k) (room i) ≤ size p (opp k) = g.inside (opp k) (room i) h in
          rw (measure_low p k (4 + i), measure_low p k e.to, measure_high p k (4 + i), measure_high p k e.to, piece_room i)
          (omega (arith, size_opp p k), omega (arith, size_opp p k));
    };
  }

  -- the x places of a good plan respect the rules of the upright walls
  good_upright : Large j z p upright right → Respects (rules upright j z) (measure p right)
  good_upright l = obeys_respects upright (measure p right) j z (along upright right up refl refl refl (λ u v t. (t.behind, omega (arith, t.ahead))) l)

  -- the y places of a good plan respect the rules of the level walls
  good_level : Large j z p level up → Respects (rules level j z) (measure p up)
  good_level l = obeys_respects level (measure p up) j z (along level up right refl refl refl (λ u v t. (t.ahead, omega (arith, t.behind))) l)

-- a plan's rooms, as places: upright,
large_x : (j : Job) (z : Sizes) (p : Plan) → GoodPlan j p → Roomy j z p → Large j z (place_of p) upright right
unfolding place_of reach
large_x j z p gp r i h = omega (arith, r.wide (4 + i) (omega arith, omega arith), (gp.inside (4 + i) (omega arith)).in_width)

-- and level
large_y : (j : Job) (z : Sizes) (p : Plan) → GoodPlan j p → Roomy j z p → Large j z (place_of p) level up
unfolding place_of reach
large_y j z p gp r i h = omega (arith, r.tall (4 + i) (omega arith, omega arith), (gp.inside (4 + i) (omega arith)).in_height)

-- what a job with a good plan has
pub record Ours (j : Job) (z : Sizes) : Type 0 where
  pub xs : List ℕ
  pub ys : List ℕ
  pub is_upright : job_numbers upright j z ≡ some xs
  pub is_level : job_numbers level j z ≡ some ys
  pub good : GoodPlan j (plan_of j (at xs) (at ys))
  pub roomy : Roomy j z (plan_of j (at xs) (at ys))

-- A JOB WITH ANY GOOD PLAN, its rooms of at least their least sizes, HAS ITS NUMBERS, AND OUR PLAN IS GOOD
pub good_ours : (j : Job) (z : Sizes) → Passes j → (p : Plan) → GoodPlan j p → Roomy j z p → Ours j z
unfolding stars_of
good_ours j z ok p gp r =
    let g : Good (stars_of j) (place_of p) = plan_good j ok p gp in
    let (i, b) = (good_tri (stars_of j) (lawful j ok) (place_of p) g).base in
    let (f, ef) = numbered upright j z (to_vertex j ok) (measure (place_of p) right) (good_upright j z ok (place_of p) g (large_x j z p gp r)) in
    let (h, eh) = numbered level j z (to_vertex j ok) (measure (place_of p) up) (good_level j z ok (place_of p) g (large_y j z p gp r)) in
    let nf : Numbers (rules upright j z) (at f) = numbers_are upright j z (to_vertex j ok) f ef in
    let nh : Numbers (rules level j z) (at h) = numbers_are level j z (to_vertex j ok) h eh in
    record {
      xs = f;
      ys = h;
      is_upright = ef;
      is_level = eh;
      good = good_plan j ok (plan_of j (at f) (at h)) (plan_complete j (at f) (at h))
          (good_again (stars_of j) (lawful j ok) (place_of p) (place_of (plan_of j (at f) (at h))) g (plan_fits j z ok (omega (arith, b.0)) (at f) (at h) nf nh));
      roomy = plan_roomy j z ok (omega (arith, b.0)) (at f) (at h) nf nh;
    }
