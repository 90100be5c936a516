-- The test of a plan drawn elsewhere says yes exactly where the plan is good for the job. Assumes nothing.
use Rattle.std.specs.Prelude.{ℕ, ◌+◌, ◌-◌, ◌≤◌, ◌<◌, ◌≡◌, ◌↔◌, Bool, ◌&&◌, length, get_or, eqb}
use Rattle.std.proofs.Common.{sym, ◌∙◌, eqb-true, leb-true, eq-eqb, le-leb}
use Rattle.std.proofs.Math.Bool.{true}
use mathlib.Core.List.{[], Memᴰ}
use native.Mathlib.Omega.{arith}
use Rattle.floor.specs.Lists.{all}
use Rattle.floor.proofs.Lists.Laws.{and_parts, and_both, all_mem, mem_all}
use Rattle.floor.specs.Jobs.{Entry, Job, Size, SizedJob, size_of, Vertex, Room, rooms, star_of}
use Rattle.floor.specs.Jobs.Facts.{Passes}
use Rattle.floor.proofs.Jobs.Facts.{star_at, room_mem, mem_room}
use Rattle.floor.specs.Plans.{Rect, Plan, rect_of, inside}
use Rattle.floor.specs.Floor.{Stands, Complete, Framed, Inside, GoodPlan, Roomy}
use Rattle.floor.proofs.Floor.Sides.{Side, up, left, down, right, opp, Piece, side, room, size, Meets, Local}
use Rattle.floor.proofs.Floor.Tiles.{named_known}
use Rattle.floor.proofs.Floor.Whole.{local_good}
use Rattle.floor.proofs.Floor.Parts.{good_local}
use Rattle.floor.proofs.Floor.Read.{num, number, stars_of, mem_entry, lawful}
use Rattle.floor.proofs.Floor.Placed.{reach, place_of, framed_shape, inside_place, thick_place, stands_meets}
use Rattle.floor.proofs.Floor.Draws.{inside_of, of_inside, rect_at, at_rect}
use Rattle.floor.proofs.Floor.Touches.{on_stands, stands_on_lem}
use Rattle.floor.proofs.Floor.Bridge.{plan_good, good_plan}
use Rattle.floor.proofs.Floor.Near.{Rest, near_rest, local_near}
use Rattle.floor.specs.Foreign.{framed, between, large, stands_on, star_stands, star_round, one_in_corner, room_good, good_for}
use Rattle.floor.proofs.Foreign.Ring.{rings, rings_near}

-- three tests in a row
three : (a b c : Bool) → (a && b && c) ≡ true → (a ≡ true) × (b ≡ true) × (c ≡ true)
three a b c e = let (x, z) = and_parts (a && b) c e in let (u, v) = and_parts a b x in (u, v, z)

-- three tests passed are passed in a row
all_three : {a b c : Bool} → a ≡ true → b ≡ true → c ≡ true → (a && b && c) ≡ true
all_three x y z = and_both _ _ (and_both _ _ x y) z

-- a frame that passes lies as ours does
framed_of : (p : Plan) → framed p ≡ true → Framed p
unfolding framed
framed_of p e =
    let (wen, s) = and_parts _ _ e in
    let (we, n) = and_parts _ _ wen in
    let (w, e) = and_parts _ _ we in
    let (w1, w2, w3) = three (eqb (rect_of p 1).x1 0) (eqb (rect_of p 1).y1 0) (eqb (rect_of p 1).y2 p.height) w in
    let (e1, e2, e3) = three (eqb (rect_of p 3).x2 p.width) (eqb (rect_of p 3).y1 0) (eqb (rect_of p 3).y2 p.height) e in
    let (n1, n2, n3) = three (eqb (rect_of p 0).x1 (rect_of p 1).x2) (eqb (rect_of p 0).x2 (rect_of p 3).x1) (eqb (rect_of p 0).y2 p.height) n in
    let (s1, s2, s3) = three (eqb (rect_of p 2).x1 (rect_of p 1).x2) (eqb (rect_of p 2).x2 (rect_of p 3).x1) (eqb (rect_of p 2).y1 0) s in
    record {
      w_x1 = eqb-true (rect_of p 1).x1 0 w1;
      w_y1 = eqb-true (rect_of p 1).y1 0 w2;
      w_y2 = eqb-true (rect_of p 1).y2 p.height w3;
      e_x2 = eqb-true (rect_of p 3).x2 p.width e1;
      e_y1 = eqb-true (rect_of p 3).y1 0 e2;
      e_y2 = eqb-true (rect_of p 3).y2 p.height e3;
      n_x1 = eqb-true (rect_of p 0).x1 (rect_of p 1).x2 n1;
      n_x2 = eqb-true (rect_of p 0).x2 (rect_of p 3).x1 n2;
      n_y2 = eqb-true (rect_of p 0).y2 p.height n3;
      s_x1 = eqb-true (rect_of p 2).x1 (rect_of p 1).x2 s1;
      s_x2 = eqb-true (rect_of p 2).x2 (rect_of p 3).x1 s2;
      s_y1 = eqb-true (rect_of p 2).y1 0 s3;
    }

-- a frame that lies as ours does passes
of_framed : (p : Plan) → Framed p → framed p ≡ true
unfolding framed
of_framed p f =
    and_both _ _
    (and_both _ _
    (and_both _ _
    (all_three (eq-eqb (rect_of p 1).x1 0 f.w_x1) (eq-eqb (rect_of p 1).y1 0 f.w_y1) (eq-eqb (rect_of p 1).y2 p.height f.w_y2))
    (all_three (eq-eqb (rect_of p 3).x2 p.width f.e_x2) (eq-eqb (rect_of p 3).y1 0 f.e_y1) (eq-eqb (rect_of p 3).y2 p.height f.e_y2)))
    (all_three (eq-eqb (rect_of p 0).x1 (rect_of p 1).x2 f.n_x1) (eq-eqb (rect_of p 0).x2 (rect_of p 3).x1 f.n_x2)
    (eq-eqb (rect_of p 0).y2 p.height f.n_y2)))
    (all_three (eq-eqb (rect_of p 2).x1 (rect_of p 1).x2 f.s_x1) (eq-eqb (rect_of p 2).x2 (rect_of p 3).x1 f.s_x2)
    (eq-eqb (rect_of p 2).y1 0 f.s_y1))

-- between the sides of the frame
pub record Between (p : Plan) (r : Rect) : Type 0 where
  pub after_w : (rect_of p 1).x2 ≤ r.x1
  pub before_e : r.x2 ≤ (rect_of p 3).x1
  pub after_s : (rect_of p 2).y2 ≤ r.y1
  pub before_n : r.y2 ≤ (rect_of p 0).y1

-- what passes lies between them
between_of : (p : Plan) (r : Rect) → between p r ≡ true → Between p r
unfolding between
between_of p r e =
    let (x, y) = and_parts _ _ e in
    let (a, b) = and_parts _ _ x in
    let (c, d) = and_parts _ _ y in
    record {
      after_w = leb-true (rect_of p 1).x2 r.x1 a;
      before_e = leb-true r.x2 (rect_of p 3).x1 b;
      after_s = leb-true (rect_of p 2).y2 r.y1 c;
      before_n = leb-true r.y2 (rect_of p 0).y1 d;
    }

-- what lies between them passes
of_between : (p : Plan) (r : Rect) → Between p r → between p r ≡ true
unfolding between
of_between p r b =
    and_both _ _ (and_both _ _ (le-leb (rect_of p 1).x2 r.x1 b.after_w) (le-leb r.x2 (rect_of p 3).x1 b.before_e))
    (and_both _ _ (le-leb (rect_of p 2).y2 r.y1 b.after_s) (le-leb r.y2 (rect_of p 0).y1 b.before_n))

module _ (j : Job) (ok : Passes j) (p : Plan) (c : Complete j p) where
  -- a plan with these, by whatever test, is good
  module _ (ins : (v : ℕ) → Vertex j v → Inside p (rect_of p v)) (fr : Framed p) (bt : (u : ℕ) → Room j u → Between p (rect_of p u))
      (st : (u : ℕ) → Room j u → (e : Entry) → Memᴰ e (star_of j u) → Stands e.kind (rect_of p u) (rect_of p e.to))
      (rs : Rest (stars_of j) (place_of p)) where
    -- no room reaches over a side of the frame
    within : (k : Side) (i : ℕ) → i < length j → (place_of p).at k (room i) + (place_of p).at (opp k) (side k) ≤ size (place_of p) k
    unfolding place_of reach
    within k i h = go k (bt (4 + i) (omega arith, omega arith)) (ins (4 + i) (omega arith))
      where
        go : (k : Side) → Between p (rect_of p (4 + i)) → Inside p (rect_of p (4 + i)) → reach p k (room i) + reach p (opp k) (side k) ≤ size (place_of p) k
        go right b n = omega (arith, b.before_e, (ins 3 (omega arith)).wide, (ins 3 (omega arith)).in_width)
        go left b n = omega (arith, b.after_w, n.wide, n.in_width, (ins 1 (omega arith)).in_width)
        go up b n = omega (arith, b.before_n, (ins 0 (omega arith)).tall, (ins 0 (omega arith)).in_height)
        go down b n = omega (arith, b.after_s, n.tall, n.in_height, (ins 2 (omega arith)).in_height)

    -- each neighbour stands at the room's side
    meets : (k : Side) (i : ℕ) (v : Piece) → i < length j → Memᴰ v ((stars_of j).list k i) → Meets (place_of p) k (room i) v
    unfolding stars_of
    meets k i v h m =
        let (e, me, ke, te) = mem_entry v (get_or j i []) (num k) m in
        stands_meets j p ins k (room i) v h (named_known (stars_of j) k v ((lawful j ok).known k i v h m))
        (go e ke te (st (4 + i) (omega arith, omega arith) e (rw (star_at j i) me)))
      where
        go : (e : Entry) → e.kind ≡ num k → e.to ≡ number v → Stands e.kind (rect_of p (4 + i)) (rect_of p e.to)
            → Stands (num k) (rect_of p (4 + i)) (rect_of p (number v))
        go e ke te s = rw (ke, te) at s

    -- so the plan is good room by room,
    local : Local (stars_of j) (place_of p)
    unfolding stars_of
    local = record {
      shape = framed_shape p fr (ins 1 (omega arith)) (ins 3 (omega arith));
      inside = inside_place j p ins;
      thick = thick_place j p ins;
      within = within;
      meets = meets;
      linked = rs.linked;
      turns = rs.turns;
      base = rs.base;
      base_one = rs.base_one;
    }

    -- and good as a whole
    good : GoodPlan j p
    good = good_plan j ok p c (local_good (stars_of j) (place_of p) (lawful j ok) local)

  module _ (gp : GoodPlan j p) where
    -- a good plan is good room by room
    good_rooms : Local (stars_of j) (place_of p)
    good_rooms = good_local (stars_of j) (place_of p) (lawful j ok) (plan_good j ok p gp)

    -- a room of it lies between the sides of the frame
    lies : (u : ℕ) → Room j u → Between p (rect_of p u)
    lies u r = let e : 4 + (u - 4) ≡ u = omega (arith, r.0) in rw e at (there (u - 4) (omega (arith, r.0, r.1)))
      where
        l : Local (stars_of j) (place_of p)
        l = good_rooms

        there : (i : ℕ) → i < length j → Between p (rect_of p (4 + i))
        there i h = unfold stars_of place_of reach in record {
          after_w = omega (arith, l.within left i h, (gp.inside 1 (omega arith)).in_width, (gp.inside (4 + i) (omega arith)).wide);
          before_e = omega (arith, l.within right i h, (gp.inside 3 (omega arith)).in_width, (gp.inside 3 (omega arith)).wide);
          after_s = omega (arith, l.within down i h, (gp.inside 2 (omega arith)).in_height, (gp.inside (4 + i) (omega arith)).tall);
          before_n = omega (arith, l.within up i h, (gp.inside 0 (omega arith)).in_height, (gp.inside 0 (omega arith)).tall);
        }

-- what passes has at least this size
large_of : (z : Size) (r : Rect) → large z r ≡ true → (r.x1 + z.wide ≤ r.x2) × (r.y1 + z.tall ≤ r.y2)
unfolding large
large_of z r e =
    let (a, b) = and_parts _ _ e in (leb-true (r.x1 + z.wide) r.x2 a, leb-true (r.y1 + z.tall) r.y2 b)

-- one of at least this size passes
of_large : (z : Size) (r : Rect) → r.x1 + z.wide ≤ r.x2 → r.y1 + z.tall ≤ r.y2 → large z r ≡ true
unfolding large
of_large z r a b = and_both _ _ (le-leb (r.x1 + z.wide) r.x2 a) (le-leb (r.y1 + z.tall) r.y2 b)

module _ (o : SizedJob) (ok : Passes o.stars) (p : Plan) (c : Complete o.stars p) where
  abbrev j : Job
  j = o.stars

  -- the four things asked of one room
  record Four (u : ℕ) : Type 0 where
    lies_between : between p (rect_of p u) ≡ true
    is_large : large (size_of o.sizes u) (rect_of p u) ≡ true
    stand : star_stands j p u ≡ true
    close : star_round j p u ≡ true

  -- they hold of a room that passes
  four_of : (u : ℕ) → room_good o p u ≡ true → Four u
  unfolding room_good
  four_of u e =
      let (bls, r) = and_parts (between p (rect_of p u) && large (size_of o.sizes u) (rect_of p u) && star_stands j p u) (star_round j p u) e in
      let (bl, s) = and_parts (between p (rect_of p u) && large (size_of o.sizes u) (rect_of p u)) (star_stands j p u) bls in
      let (b, l) = and_parts (between p (rect_of p u)) (large (size_of o.sizes u) (rect_of p u)) bl in
      record { lies_between = b; is_large = l; stand = s; close = r }

  -- and a room of which they hold passes
  of_four : (u : ℕ) → Four u → room_good o p u ≡ true
  unfolding room_good
  of_four u f = and_both _ _ (and_both _ _ (and_both _ _ f.lies_between f.is_large) f.stand) f.close

  -- WHAT PASSES IS GOOD
  test_good : good_for o p ≡ true → GoodPlan j p × Roomy j o.sizes p
  unfolding good_for rings star_stands stands_on
  test_good e =
      let (ifr, b) = and_parts (all (inside p) p.rects && framed p && all (room_good o p) (rooms j)) (one_in_corner j) e in
      let (if, r) = and_parts (all (inside p) p.rects && framed p) (all (room_good o p) (rooms j)) ifr in
      let (i, f) = and_parts (all (inside p) p.rects) (framed p) if in
      let ins : (v : ℕ) → Vertex j v → Inside p (rect_of p v) = λ v h. inside_of p (rect_of p v) (rect_at j ok p c (inside p) i v h) in
      let each : (u : ℕ) → Memᴰ u (rooms j) → Four u = λ u m. four_of u (all_mem (room_good o p) (rooms j) r u m) in
      let ring : rings j p ≡ true = and_both _ _ (mem_all (star_round j p) (rooms j) (λ u m. (each u m).close)) b in (
        good j ok p c ins (framed_of p f) (λ u h. between_of p (rect_of p u) (each u (room_mem j u h)).lies_between)
            (λ u h d m.
            on_stands d.kind (rect_of p u) (rect_of p d.to)
            (all_mem (λ e. stands_on e.kind (rect_of p u) (rect_of p e.to)) (star_of j u) (each u (room_mem j u h)).stand d m))
            (near_rest j ok p (sym (rings_near j ok p ins) ∙ ring)),
        record {
          wide = λ u h. (large_of (size_of o.sizes u) (rect_of p u) (each u (room_mem j u h)).is_large).0;
          tall = λ u h. (large_of (size_of o.sizes u) (rect_of p u) (each u (room_mem j u h)).is_large).1;
        },
      )

  -- WHAT IS GOOD PASSES
  good_test : GoodPlan j p → Roomy j o.sizes p → good_for o p ≡ true
  unfolding good_for rings star_stands stands_on
  good_test gp ro =
      let (round, one) = and_parts (all (star_round j p) (rooms j)) (one_in_corner j) (rings_near j ok p gp.inside ∙ local_near j ok p (good_rooms j ok p c gp)) in
      and_both _ _
      (and_both _ _ (and_both _ _ (at_rect j ok p c (inside p) (λ v h. of_inside p (rect_of p v) (gp.inside v h))) (of_framed p gp.framed))
      (mem_all (room_good o p) (rooms j) (λ u m. of_four u (record {
        lies_between = of_between p (rect_of p u) (lies j ok p c gp u (mem_room j u m));
        is_large = of_large (size_of o.sizes u) (rect_of p u) (ro.wide u (mem_room j u m)) (ro.tall u (mem_room j u m));
        stand = mem_all (λ e. stands_on e.kind (rect_of p u) (rect_of p e.to)) (star_of j u)
            (λ e n. stands_on_lem e.kind (rect_of p u) (rect_of p e.to) (gp.floor.stands u (mem_room j u m) e n));
        close = all_mem (star_round j p) (rooms j) round u m;
      }))))
      one

  -- YES EXACTLY WHEN ALL HOLD
  pub good_exactly : (good_for o p ≡ true) ↔ (GoodPlan o.stars p × Roomy o.stars o.sizes p)
  good_exactly = (test_good, λ g. good_test g.0 g.1)
