-- The plan by wall numbers: complete, framed, inside the sheet, and every contact met on its side. Assumes nothing.
use Rattle.std.specs.Prelude.{◌≡◌, ◌⊎◌, length, get_or}
use Rattle.std.proofs.Math.Path.{refl, sym, ap}
use Rattle.std.proofs.Common.{◌∙◌, inl, inr}
use mathlib.Core.List.{[], Memᴰ}
use Prim.Native.Nat.{ℕ, zero, suc, ◌+◌, ◌-◌, ◌≤◌, ◌<◌, max}
use native.Mathlib.Omega.{arith}
use Rattle.std.proofs.lemmas.List.{length-map}
use Rattle.floor.proofs.Lists.Laws.{get_d_up_from, length_up_from}
use Rattle.floor.specs.Jobs.{Entry, Job, Vertex, rooms, Sizes, Room, size_of}
use Rattle.floor.specs.Jobs.Facts.{Passes}
use Rattle.floor.specs.Walls.{Numbers, Axis, upright, level, low, high, rules, extra, top_of}
use Rattle.floor.proofs.Walls.Walk.{numbers_positive, numbers_respects}
use Rattle.floor.proofs.Walls.Rules.{Obeys, obeys_respects, respects_obeys, to_vertex, job_bound, numbers_least}
use Rattle.floor.specs.Plans.{Plan, nowhere, rect_of, room_rect, plan_of}
use Rattle.floor.specs.Floor.{Wall, Stands, Complete, Framed, Inside, Roomy}
use Rattle.floor.proofs.Floor.Sides.{Side, up, left, down, right, opp, Piece, side, room, size, Known, Contact, Meets, Fits}
use Rattle.floor.proofs.Floor.Whole.{flip, frame_meets}
use Rattle.floor.proofs.Floor.Read.{num, number, stars_of, mem_entry, every_kind, leads, lawful}
use Rattle.floor.proofs.Floor.Joins.{contact_back}
use Rattle.floor.proofs.Floor.Placed.{wall_at, reach, place_of, framed_shape, inside_place, thick_place, stands_meets}

-- one direction of a job, where it leads, and its numbers
pub record Way (j : Job) (z : Sizes) : Type 0 where
  pub axis : Axis
  pub to : Side
  pub is_far : axis.far ≡ num to
  pub is_near : axis.near ≡ num (opp to)
  pub number_of : ℕ → ℕ
  pub numbers : Numbers (rules axis j z) number_of

-- ONE DIRECTION
module _ (j : Job) (z : Sizes) (ok : Passes j) (w : Way j z) where
  -- the direction's kinds
  abbrev a : Axis
  a = w.axis

  -- the side to which the direction leads
  abbrev k : Side
  k = w.to

  -- the direction's wall numbers
  abbrev f : ℕ → ℕ
  f = w.number_of

  -- they are the numbers by the text
  abbrev n : Numbers (rules a j z) f
  n = w.numbers

  -- the wall numbers do what the job says
  pub obeyed : Obeys a f j z
  obeyed = respects_obeys a f j z (numbers_respects (rules a j z) f n)

  -- a room has at least one cell
  own_one : (i : ℕ) → i < length j → f (low (4 + i)) + 1 ≤ f (high (4 + i))
  own_one i h = omega (arith, obeyed.own i h)

  -- no room lies before the first frame side, by the walk towards it
  lowest : (m i : ℕ) → f (low (4 + i)) ≤ m → i < length j → f (high (num (opp k))) ≤ f (low (4 + i))
  lowest zero i l h = absurd (omega (arith, numbers_positive (rules a j z) f n (low (4 + i))))
  lowest (suc m) i l h =
      let (e, me, ke) = every_kind j ok (opp k) i h in
      go e ((obeyed.each i h e me).if_near (ke ∙ sym w.is_near)) (λ r. lowest m r) (leads j ok (opp k) i h e me ke)
    where
      go : (e : Entry) → f (high e.to) ≡ f (low (4 + i)) → ((r : ℕ) → f (low (4 + r)) ≤ m → r < length j → f (high (num (opp k))) ≤ f (low (4 + r)))
          → (e.to ≡ num (opp k)) ⊎ ((r : ℕ) × (r < length j) × (e.to ≡ 4 + r)) → f (high (num (opp k))) ≤ f (low (4 + i))
      go e q below (inl x) = omega (arith, ap (λ v. f (high v)) x)
      go e q below (inr (r, hr, x)) =
          let b : f (low (4 + r)) + 1 ≤ f (high (4 + r)) = own_one r hr in
          let c : f (high e.to) ≡ f (high (4 + r)) = ap (λ v. f (high v)) x in
          omega (arith, below r (omega arith) hr)

  -- no room's low wall has a smaller number than the first frame side's wall
  pub from_first : (i : ℕ) → i < length j → f (high (num (opp k))) ≤ f (low (4 + i))
  from_first i h = lowest (f (low (4 + i))) i (omega arith) h

  -- no room reaches past the last frame side, by the walk towards it
  one_ahead : (i : ℕ) → i < length j → ((r : ℕ) → r < length j → f (high (4 + i)) < f (high (4 + r)) → f (high (4 + r)) ≤ f (low (num k)))
      → f (high (4 + i)) ≤ f (low (num k))
  one_ahead i h below =
      let (e, me, ke) = every_kind j ok k i h in
      go e ((obeyed.each i h e me).if_far (ke ∙ sym w.is_far)) (leads j ok k i h e me ke)
    where
      go : (e : Entry) → f (high (4 + i)) ≡ f (low e.to) → (e.to ≡ num k) ⊎ ((r : ℕ) × (r < length j) × (e.to ≡ 4 + r))
          → f (high (4 + i)) ≤ f (low (num k))
      go e q (inl x) = omega (arith, ap (λ v. f (low v)) x)
      go e q (inr (r, hr, x)) =
          let b : f (low (4 + r)) + 1 ≤ f (high (4 + r)) = own_one r hr in
          let c : f (low e.to) ≡ f (low (4 + r)) = ap (λ v. f (low v)) x in
          omega (arith, below r hr (omega arith))

  -- no room whose high wall is at most m below n + 1 reaches past the last frame side
  highest : (m i : ℕ) → top_of a j z ≤ f (high (4 + i)) + m → i < length j → f (high (4 + i)) ≤ f (low (num k))
  highest zero i l h = one_ahead i h (λ r hr q. absurd (omega (arith, job_bound a j z (to_vertex j ok) f n (high (4 + r)))))
  highest (suc m) i l h = one_ahead i h (λ r hr q. highest m r (omega arith) hr)

  -- where a room lies
  pub record Lies (i : ℕ) : Type 0 where
    pub first : 1 ≤ f (low (4 + i))
    pub own : f (low (4 + i)) + 1 ≤ f (high (4 + i))
    pub last : f (high (4 + i)) ≤ f (low (num k))

  -- a room begins at 1 or later, is at least 1 thick, and ends at the last frame side's wall or before
  pub lies : (i : ℕ) → i < length j → Lies i
  lies i h = record { first = numbers_positive (rules a j z) f n (low (4 + i)); own = own_one i h; last = highest (top_of a j z) i (omega arith) h }

  -- THE FIRST FRAME SIDE'S WALL IS NUMBER 1: else all numbers could be less
  pub first_one : f (high (num (opp k))) ≡ 1
  first_one =
      omega (
        arith,
        numbers_positive (rules a j z) f n (high (num (opp k))),
        numbers_least a j z f g n (λ s. omega arith) (obeys_respects a g j z less)
            (high (num (opp k))),
      )
    where
      g : ℕ → ℕ
      g s = max 1 (f s + 1 - f (high (num (opp k))))

      less : Obeys a g j z
      less = record {
        own = λ i h. omega (arith, obeyed.own i h, from_first i h);
        each = λ i h e m. record {
          if_far = λ q. ap (λ v. max 1 (v + 1 - f (high (num (opp k))))) ((obeyed.each i h e m).if_far q);
          if_near = λ q. ap (λ v. max 1 (v + 1 - f (high (num (opp k))))) ((obeyed.each i h e m).if_near q);
          if_cross = λ q l.
              let z : 4 + (e.to - 4) ≡ e.to = omega arith in
              let c : f (high (num (opp k))) ≤ f (low e.to) = rw z at (from_first (e.to - 4) (omega (arith, to_vertex j ok i h e m))) in
              let (x, y) = (obeyed.each i h e m).if_cross q l in
              (omega (arith, from_first i h), omega arith);
        };
      }

  -- what stands in a list of the direction lies on one wall
  pub far_wall : (i : ℕ) (v : Piece) → i < length j → Memᴰ v ((stars_of j).list k i) → f (high (4 + i)) ≡ f (low (number v))
  unfolding stars_of
  far_wall i v h m = let (e, me, ke, te) = mem_entry v (get_or j i []) (num k) m in rw (← te) ((obeyed.each i h e me).if_far (ke ∙ sym w.is_far))

  -- what stands in the list of the opposite side lies on one wall with the room's low side
  pub near_wall : (i : ℕ) (v : Piece) → i < length j → Memᴰ v ((stars_of j).list (opp k) i) → f (high (number v)) ≡ f (low (4 + i))
  unfolding stars_of
  near_wall i v h m = let (e, me, ke, te) = mem_entry v (get_or j i []) (num (opp k)) m in rw (← te) ((obeyed.each i h e me).if_near (ke ∙ sym w.is_near))

  -- and across it, rooms reach over one another
  pub cross_wall : (c : Side) → a.cross ≡ num c → (i r : ℕ) → i < length j → Memᴰ (room r) ((stars_of j).list c i)
      → (f (low (4 + i)) + 1 ≤ f (high (4 + r))) × (f (low (4 + r)) + 1 ≤ f (high (4 + i)))
  unfolding stars_of
  cross_wall c ec i r h m =
      let (e, me, ke, te) = mem_entry (room r) (get_or j i []) (num c) m in
      rw (← te) ((obeyed.each i h e me).if_cross (ke ∙ sym ec) (omega arith))

-- BOTH DIRECTIONS: contacts along w lie on one wall by its numbers, and reach over one another by those of v, the way across;
-- across, the frame sides span from lo to hi, past every room
module _ (j : Job) (z : Sizes) (ok : Passes j) (w v : Way j z) (across : v.axis.cross ≡ num w.to) (lo hi : ℕ) (from : lo ≤ 1)
    (past : v.number_of (low (num v.to)) ≤ hi) where
  -- the wall numbers along the contacts
  abbrev along : ℕ → ℕ
  along = w.number_of

  -- the wall numbers across
  abbrev aside : ℕ → ℕ
  aside = v.number_of

  -- a room and a room in its list stand on one wall, with a unit stretch of it on both
  room_room : (i r : ℕ) → i < length j → r < length j → Memᴰ (room r) ((stars_of j).list w.to i)
      → Wall (along (high (4 + i))) (aside (low (4 + i))) (aside (high (4 + i))) (along (low (4 + r))) (aside (low (4 + r))) (aside (high (4 + r)))
  room_room i r hi hr m =
      let (x, y) = cross_wall j z ok v w.to across i r hi m in
      let a : Lies j z ok v i = lies j z ok v i hi in
      let b : Lies j z ok v r = lies j z ok v r hr in
      wall_at (along (high (4 + i))) (aside (low (4 + i))) (aside (high (4 + i))) (along (low (4 + r))) (aside (low (4 + r))) (aside (high (4 + r)))
      (far_wall j z ok w i (room r) hi m) (omega (arith, a.own)) (omega (arith, b.own)) (omega arith) (omega arith)

  -- a room that lists the last frame side stands on one wall with it, with a unit stretch of it on both
  room_frame : (i e : ℕ) → i < length j → along (low (num w.to)) ≡ e → Memᴰ (side w.to) ((stars_of j).list w.to i)
      → Wall (along (high (4 + i))) (aside (low (4 + i))) (aside (high (4 + i))) e lo hi
  room_frame i e h q m =
      let a : Lies j z ok v i = lies j z ok v i h in
      record {
        line = far_wall j z ok w i (side w.to) h m ∙ q;
        c = aside (low (4 + i));
        starts = omega arith;
        ends = omega (arith, a.own);
        starts' = omega (arith, a.first);
        ends' = omega (arith, a.own, a.last);
      }

  -- a room that lists the first frame side stands on one wall with it, with a unit stretch of it on both
  frame_room : (r : ℕ) → r < length j → Memᴰ (side (opp w.to)) ((stars_of j).list (opp w.to) r)
      → Wall 1 lo hi (along (low (4 + r))) (aside (low (4 + r))) (aside (high (4 + r)))
  frame_room r h m =
      let a : Lies j z ok v r = lies j z ok v r h in
      record {
        line = sym (first_one j z ok w) ∙ near_wall j z ok w r (side (opp w.to)) h m;
        c = aside (low (4 + r));
        starts = omega (arith, a.first);
        ends = omega (arith, a.own, a.last);
        starts' = omega arith;
        ends' = omega (arith, a.own);
      }

-- a room's rectangle in the plan by numbers, and that the plan is complete
pub room_rect_lem : (j : Job) (f g : ℕ → ℕ) (i : ℕ) → i < length j → rect_of (plan_of j f g) (4 + i) ≡ room_rect f g (4 + i)
unfolding rect_of plan_of rooms
room_rect_lem j f g i h =
    let e : 4 + i ≡ suc (suc (suc (suc i))) = omega arith in
    rw e (get_d_up_from (room_rect f g) 4 (length j) i nowhere h ∙ ap (room_rect f g) e)

-- the plan by numbers has a rectangle for each vertex, in vertex order
pub plan_complete : (j : Job) (f g : ℕ → ℕ) → Complete j (plan_of j f g)
unfolding plan_of rect_of room_rect rooms
plan_complete j f g = record { count = omega (arith, length-map (rooms j) (room_rect f g), length_up_from 4 (length j)); vertex = vertex }
  where
    vertex : (v : ℕ) → Vertex j v → (rect_of (plan_of j f g) v).vertex ≡ v
    vertex zero h = refl
    vertex (suc zero) h = refl
    vertex (suc (suc zero)) h = refl
    vertex (suc (suc (suc zero))) h = refl
    vertex (suc (suc (suc (suc i)))) h =
        let e : 4 + i ≡ suc (suc (suc (suc i))) = omega arith in
        let r : (rect_of (plan_of j f g) (4 + i)).vertex ≡ 4 + i = ap (λ r. r.vertex) (room_rect_lem j f g i (omega arith)) in
        rw e at r

-- its frame lies as it should: W and E full height, N and S between
pub plan_framed : (j : Job) (f g : ℕ → ℕ) → Framed (plan_of j f g)
unfolding plan_of rect_of
plan_framed j f g = record {
  w_x1 = refl;
  w_y1 = refl;
  w_y2 = refl;
  e_x2 = refl;
  e_y1 = refl;
  e_y2 = refl;
  n_x1 = refl;
  n_x2 = refl;
  n_y2 = refl;
  s_x1 = refl;
  s_x2 = refl;
  s_y1 = refl;
}

-- THE PLAN BY WALL NUMBERS
module _ (j : Job) (z : Sizes) (ok : Passes j) (some_room : 0 < length j) (f g : ℕ → ℕ) (nf : Numbers (rules upright j z) f)
    (ng : Numbers (rules level j z) g) where
  -- the plan by these wall numbers
  abbrev p : Plan
  p = plan_of j f g

  -- the direction of the upright walls leads to the right
  abbrev along_x : Way j z
  along_x = record { axis = upright; to = right; is_far = refl; is_near = refl; number_of = f; numbers = nf }

  -- the direction of the level walls leads up
  abbrev along_y : Way j z
  along_y = record { axis = level; to = up; is_far = refl; is_near = refl; number_of = g; numbers = ng }

  -- by the upright numbers each room lies between W and E
  x_lies : (i : ℕ) → i < length j → Lies j z ok along_x i
  x_lies i h = lies j z ok along_x i h

  -- by the level numbers each room lies between S and N
  y_lies : (i : ℕ) → i < length j → Lies j z ok along_y i
  y_lies i h = lies j z ok along_y i h

  -- each room's rectangle has at least a cell and lies inside the sheet
  room_inside : (i : ℕ) → i < length j → Inside p (rect_of p (4 + i))
  unfolding plan_of room_rect
  room_inside i h =
      let x : Lies j z ok along_x i = x_lies i h in
      let y : Lies j z ok along_y i = y_lies i h in
      rw (room_rect_lem j f g i h) (record {
        wide = omega (arith, x.own);
        tall = omega (arith, y.own);
        in_width = omega (arith, x.last);
        in_height = omega (arith, y.last);
      })

  -- every rectangle has at least a cell and lies inside the sheet
  pub plan_inside : (v : ℕ) → Vertex j v → Inside p (rect_of p v)
  plan_inside v h = go v h (x_lies 0 some_room) (y_lies 0 some_room)
    where
      go : (v : ℕ) → Vertex j v → Lies j z ok along_x 0 → Lies j z ok along_y 0 → Inside p (rect_of p v)
      go zero h x y = unfold plan_of rect_of in record {
        wide = omega (arith, x.first, x.own, x.last);
        tall = omega arith;
        in_width = omega arith;
        in_height = omega arith;
      }
      go (suc zero) h x y = unfold plan_of rect_of in record { wide = omega arith; tall = omega arith; in_width = omega arith; in_height = omega arith }
      go (suc (suc zero)) h x y = unfold plan_of rect_of in record {
        wide = omega (arith, x.first, x.own, x.last);
        tall = omega arith;
        in_width = omega arith;
        in_height = omega arith;
      }
      go (suc (suc (suc zero))) h x y = unfold plan_of rect_of in record {
        wide = omega arith;
        tall = omega arith;
        in_width = omega arith;
        in_height = omega arith;
      }
      go (suc (suc (suc (suc i)))) h x y =
          let e : 4 + i ≡ suc (suc (suc (suc i))) = omega arith in
          rw e at (room_inside i (omega arith))

  -- no room reaches into the frame, on any side
  within : (k : Side) (i : ℕ) → i < length j → (place_of p).at k (room i) + (place_of p).at (opp k) (side k) ≤ size (place_of p) k
  unfolding place_of reach plan_of rect_of room_rect
  within right i h = omega (arith, (x_lies i h).last, ap (λ r. r.x2) (room_rect_lem j f g i h))
  within left i h = omega (arith, (x_lies i h).first, ap (λ r. r.x1) (room_rect_lem j f g i h))
  within up i h = omega (arith, (y_lies i h).last, ap (λ r. r.y2) (room_rect_lem j f g i h))
  within down i h = omega (arith, (y_lies i h).first, ap (λ r. r.y1) (room_rect_lem j f g i h))

  -- N and S leave room between them
  gap : (place_of p).at up (side down) + (place_of p).at down (side up) < (place_of p).height
  unfolding place_of reach plan_of rect_of
  gap = let y : Lies j z ok along_y 0 = y_lies 0 some_room in omega (arith, y.first, y.own, y.last)

  -- who stands on a side of a piece, with a cell's length of wall, meets it there
  stand : (k : Side) (u v : Piece) → Known (stars_of j) u → Known (stars_of j) v → Stands (num k) (rect_of p (number u)) (rect_of p (number v))
      → Meets (place_of p) k u v
  stand = stands_meets j p plan_inside

  -- neighbouring frame sides meet on the side where they are neighbours
  frames : (k t r : Side) → Contact (stars_of j) k (side t) (side r) → Meets (place_of p) k (side t) (side r)
  frames = frame_meets (stars_of j) (place_of p) (framed_shape p (plan_framed j f g) (plan_inside 1 (omega arith)) (plan_inside 3 (omega arith)))
      (inside_place j p plan_inside) (thick_place j p plan_inside) gap

  -- a contact to the right is met to the right
  meets_right : (u v : Piece) → Known (stars_of j) u → Known (stars_of j) v → Contact (stars_of j) right u v → Meets (place_of p) right u v
  unfolding plan_of rect_of room_rect stars_of
  meets_right (room i) (room r) hu hv m =
      stand right (room i) (room r) hu hv (rw (room_rect_lem j f g i hu, room_rect_lem j f g r hv) (room_room j z ok along_x along_y refl 0 (g (low 0) + 1)
      (omega arith) (omega arith) i r hu hv m))
  meets_right (room i) (side t) hu hv m =
      rw e (stand right (room i) (side right) hu tt (rw (room_rect_lem j f g i hu) (room_frame j z ok along_x along_y refl 0 (g (low 0) + 1) (omega arith)
      (omega arith) i (f (low 3) + 1 - 1) hu (omega arith) (rw e at m))))
    where
      e : t ≡ right
      e = (lawful j ok).known right i (side t) hu m
  meets_right (side t) (room r) hu hv m =
      rw e (stand right (side left) (room r) tt hv (rw (room_rect_lem j f g r hv) (frame_room j z ok along_x along_y refl 0 (g (low 0) + 1) (omega arith)
      (omega arith) r hv (rw e at m))))
    where
      e : t ≡ left
      e = (lawful j ok).known left r (side t) hv m
  meets_right (side t) (side r) hu hv m = frames right t r m

  -- a contact above is met above
  meets_up : (u v : Piece) → Known (stars_of j) u → Known (stars_of j) v → Contact (stars_of j) up u v → Meets (place_of p) up u v
  unfolding plan_of rect_of room_rect stars_of
  meets_up (room i) (room r) hu hv m =
      stand up (room i) (room r) hu hv (rw (room_rect_lem j f g i hu, room_rect_lem j f g r hv) (room_room j z ok along_y along_x refl 1 (f (low 3) + 1 - 1)
      (omega arith) (omega arith) i r hu hv m))
  meets_up (room i) (side t) hu hv m =
      rw e (stand up (room i) (side up) hu tt (rw (room_rect_lem j f g i hu) (room_frame j z ok along_y along_x refl 1 (f (low 3) + 1 - 1) (omega arith)
      (omega arith) i (g (low 0) + 1 - 1) hu (omega arith) (rw e at m))))
    where
      e : t ≡ up
      e = (lawful j ok).known up i (side t) hu m
  meets_up (side t) (room r) hu hv m =
      rw e (stand up (side down) (room r) tt hv (rw (room_rect_lem j f g r hv) (frame_room j z ok along_y along_x refl 1 (f (low 3) + 1 - 1) (omega arith)
      (omega arith) r hv (rw e at m))))
    where
      e : t ≡ down
      e = (lawful j ok).known down r (side t) hv m
  meets_up (side t) (side r) hu hv m = frames up t r m

  -- OURS MEETS EVERY CONTACT
  pub plan_fits : Fits (stars_of j) (place_of p)
  unfolding stars_of
  plan_fits = record {
    shape = framed_shape p (plan_framed j f g) (plan_inside 1 (omega arith)) (plan_inside 3 (omega arith));
    inside = inside_place j p plan_inside;
    thick = thick_place j p plan_inside;
    within = within;
    meets = meets;
  }
    where
      meets : (k : Side) (u v : Piece) → Known (stars_of j) u → Known (stars_of j) v → Contact (stars_of j) k u v → Meets (place_of p) k u v
      meets right u v hu hv m = meets_right u v hu hv m
      meets up u v hu hv m = meets_up u v hu hv m
      meets left u v hu hv m = flip right (meets_right v u hv hu (contact_back j ok right u v hu hv m))
      meets down u v hu hv m = flip up (meets_up v u hv hu (contact_back j ok up u v hu hv m))

  -- a room's least size in either direction
  roomy_at : (i : ℕ) → i < length j
      → ((rect_of p (4 + i)).x1 + (size_of z (4 + i)).wide ≤ (rect_of p (4 + i)).x2) × ((rect_of p (4 + i)).y1 + (size_of z (4 + i)).tall ≤ (rect_of p (4 + i)).y2)
  unfolding room_rect extra
  roomy_at i h = rw (room_rect_lem j f g i h) (omega (arith, (obeyed j z ok along_x).own i h), omega (arith, (obeyed j z ok along_y).own i h))

  -- EVERY ROOM HAS AT LEAST ITS SIZE
  pub plan_roomy : Roomy j z p
  plan_roomy = record { wide = λ u r. (at_room u r).0; tall = λ u r. (at_room u r).1 }
    where
      at_room : (u : ℕ) → Room j u → ((rect_of p u).x1 + (size_of z u).wide ≤ (rect_of p u).x2) × ((rect_of p u).y1 + (size_of z u).tall ≤ (rect_of p u).y2)
      at_room u r = rw (let e : 4 + (u - 4) ≡ u = omega (arith, r.0) in e) at (roomy_at (u - 4) (omega (arith, r.0, r.1)))
