-- The drawing test item by item, as facts about the rectangles; and the way back. Assumes nothing.
use Rattle.std.specs.Prelude.{◌≡◌, ◌⊎◌, Bool, true, ◌||◌, ℕ, ◌+◌, ◌-◌, ◌*◌, ◌<◌, max, eqb}
use Rattle.std.proofs.Common.{sym, ap, ◌∙◌, inl, inr}
use Rattle.std.proofs.Math.Bool.{not}
use mathlib.Core.List.{[], map}
use native.Mathlib.Omega.{arith}
use Rattle.std.proofs.Math.Decide.{dec_lt}
use borrow.Author.Tests.{leb-true, ltb-true, eqb-true, le-leb, lt-ltb, eq-eqb}
use Rattle.floor.specs.Lists.{all, pairwise, sum}
use Rattle.floor.proofs.Lists.Laws.{and_parts, and_both, or_cases, or_left, or_right, not_of, not_and, implies, implied, all_mem, mem_all, mem_get_or}
use Rattle.floor.proofs.Lists.Laws.{get_or_mem, all_at, at_pairwise, pairwise_at}
use Rattle.floor.specs.Jobs.{Job, Vertex, Room, star_of}
use Rattle.floor.specs.Jobs.Facts.{Passes}
use Rattle.floor.proofs.Jobs.Facts.{star_room, star_at}
use Rattle.floor.proofs.Jobs.Straight.{straight}
use Rattle.floor.specs.Plans.{Rect, Plan, nowhere, rect_of, inside, overlap, abut, apart, area, corner, joined, shares_joined, round_in_order, drawable}
use Rattle.floor.specs.Plans.{is_wall, touch_of}
use Rattle.floor.specs.Floor.{Cell, Shares, Joined, Complete, Inside}
use Rattle.floor.proofs.Floor.Joins.{joined_of, of_joined}
use Rattle.floor.proofs.Floor.Order.{InOrder, round_order, order_round}
use Rattle.floor.proofs.Floor.Touches.{shares_of, of_shares}

-- the stretches from a to b and from c to d touch end to end
abbrev pub Abuts : ℕ → ℕ → ℕ → ℕ → Type 0
Abuts a b c d = (b ≡ c) ⊎ (d ≡ a)

-- THE DRAWING TEST AS FACTS
pub record Draws (j : Job) (p : Plan) : Type 0 where
  pub inside : (v : ℕ) → Vertex j v → Inside p (rect_of p v)
  pub apart : (u v : ℕ) → u < v → Vertex j v → (x y : ℕ) → Cell (rect_of p u) x y → Cell (rect_of p v) x y → ⊥
  pub areas : sum (map area p.rects) ≡ p.width * p.height
  pub shares : (u v : ℕ) → u < v → Vertex j v → Shares (rect_of p u) (rect_of p v) → Joined j u v
  pub corners : (u v : ℕ) → u < v → Vertex j v → Abuts (rect_of p u).x1 (rect_of p u).x2 (rect_of p v).x1 (rect_of p v).x2
      → Abuts (rect_of p u).y1 (rect_of p u).y2 (rect_of p v).y1 (rect_of p v).y2 → ⊥
  pub order : (u : ℕ) → Room j u → InOrder p (straight (star_of j u))

-- inside the sheet
pub inside_of : (p : Plan) (r : Rect) → inside p r ≡ true → Inside p r
unfolding inside
inside_of p r h =
    let (abc, d) = and_parts _ _ h in
    let (ab, c) = and_parts _ _ abc in
    let (a, b) = and_parts _ _ ab in
    record {
      wide = ltb-true r.x1 r.x2 a;
      tall = ltb-true r.y1 r.y2 b;
      in_width = leb-true r.x2 p.width c;
      in_height =
          leb-true r.y2 p.height d;
    }

-- a rectangle of at least a cell inside the sheet passes the test
pub of_inside : (p : Plan) (r : Rect) → Inside p r → inside p r ≡ true
unfolding inside
of_inside p r i =
    and_both _ _ (and_both _ _ (and_both _ _ (lt-ltb r.x1 r.x2 i.wide) (lt-ltb r.y1 r.y2 i.tall))
    (le-leb r.x2 p.width i.in_width)) (le-leb r.y2 p.height i.in_height)

-- no cell in both
apart_of : (r s : Rect) → apart r s ≡ true → (x y : ℕ) → Cell r x y → Cell s x y → ⊥
unfolding apart overlap
apart_of r s h x y c d = go (or_cases _ _ h)
  where
    go : (eqb (overlap r.x1 r.x2 s.x1 s.x2) 0 ≡ true) ⊎ (eqb (overlap r.y1 r.y2 s.y1 s.y2) 0 ≡ true) → ⊥
    go (inl e) = omega (arith, eqb-true (overlap r.x1 r.x2 s.x1 s.x2) 0 e, c.left, c.right, d.left, d.right)
    go (inr e) = omega (arith, eqb-true (overlap r.y1 r.y2 s.y1 s.y2) 0 e, c.lower, c.upper, d.lower, d.upper)

-- two rectangles with no cell in both pass the test
of_apart : (r s : Rect) → ((x y : ℕ) → Cell r x y → Cell s x y → ⊥) → apart r s ≡ true
unfolding apart overlap
of_apart r s h = go (dec_lt 0 ox) (dec_lt 0 oy)
  where
    ox : ℕ
    ox = overlap r.x1 r.x2 s.x1 s.x2

    oy : ℕ
    oy = overlap r.y1 r.y2 s.y1 s.y2

    go : Dec (0 < ox) → Dec (0 < oy) → (eqb ox 0 || eqb oy 0) ≡ true
    go (no a) b = or_left _ _ (eq-eqb ox 0 (omega arith))
    go (yes a) (no b) = or_right (eqb ox 0) _ (eq-eqb oy 0 (omega arith))
    go (yes a) (yes b) =
        absurd (h (max r.x1 s.x1) (max r.y1 s.y1)
        (record {
          left = omega arith;
          right = omega arith;
          lower = omega arith;
          upper = omega arith;
        }) (record { left = omega arith; right = omega arith; lower = omega arith; upper = omega arith }))

-- end to end
touch_of_lem : (a b c d : ℕ) → abut a b c d ≡ true → Abuts a b c d
unfolding abut
touch_of_lem a b c d h = go (or_cases (eqb b c) (eqb d a) h)
  where
    go : (eqb b c ≡ true) ⊎ (eqb d a ≡ true) → Abuts a b c d
    go (inl e) = inl (eqb-true b c e)
    go (inr e) = inr (eqb-true d a e)

-- stretches that touch end to end pass the test
of_touch : (a b c d : ℕ) → Abuts a b c d → abut a b c d ≡ true
unfolding abut
of_touch a b c d (inl e) = or_left (eqb b c) (eqb d a) (eq-eqb b c e)
of_touch a b c d (inr e) = or_right (eqb b c) (eqb d a) (eq-eqb d a e)

module _ (j : Job) (ok : Passes j) (p : Plan) (c : Complete j p) where
  -- a test of pairs, at two vertices
  pair_at : (t : Rect → Rect → Bool) → pairwise t p.rects ≡ true → (u v : ℕ) → u < v → Vertex j v → t (rect_of p u) (rect_of p v) ≡ true
  unfolding rect_of
  pair_at t h u v l hv = pairwise_at t p.rects nowhere h u v l (omega (arith, c.count))

  -- a test that every two vertices pass, in their order, all pairs of rectangles pass
  at_pair : (t : Rect → Rect → Bool) → ((u v : ℕ) → u < v → Vertex j v → t (rect_of p u) (rect_of p v) ≡ true) → pairwise t p.rects ≡ true
  unfolding rect_of
  at_pair t h = at_pairwise t p.rects nowhere (λ u v l hv. h u v l (omega (arith, c.count)))

  -- a test that all rectangles pass, the rectangle of each vertex passes
  pub rect_at : (t : Rect → Bool) → all t p.rects ≡ true → (v : ℕ) → Vertex j v → t (rect_of p v) ≡ true
  unfolding rect_of
  rect_at t h v hv = all_mem t p.rects h (rect_of p v) (mem_get_or p.rects v nowhere (omega (arith, c.count)))

  -- a test that the rectangle of each vertex passes, all rectangles pass
  pub at_rect : (t : Rect → Bool) → ((v : ℕ) → Vertex j v → t (rect_of p v) ≡ true) → all t p.rects ≡ true
  unfolding rect_of
  at_rect t h = all_at t p.rects nowhere (λ v hv. h v (omega (arith, c.count)))

  -- the numbers that the rectangles carry are their vertices'
  named : (u v : ℕ) → Vertex j u → Vertex j v → joined j (rect_of p u).vertex (rect_of p v).vertex ≡ joined j u v
  named u v hu hv = ap (λ n. joined j n (rect_of p v).vertex) (c.vertex u hu) ∙ ap (λ n. joined j u n) (c.vertex v hv)

  -- THE TEST SAYS THE FACTS
  pub drawable_draws : drawable j p ≡ true → Draws j p
  unfolding drawable shares_joined corner
  drawable_draws h =
      let (t5, order) = and_parts _ _ h in
      let (t4, corners) = and_parts _ _ t5 in
      let (t3, shared) = and_parts _ _ t4 in
      let (t2, sums) = and_parts _ _ t3 in
      let (insides, aparts) = and_parts _ _ t2 in
      record {
        inside = λ v hv. inside_of p (rect_of p v) (rect_at (inside p) insides v hv);
        apart = λ u v l hv. apart_of (rect_of p u) (rect_of p v) (pair_at apart aparts u v l hv);
        areas = eqb-true (sum (map area p.rects)) (p.width * p.height) sums;
        shares = λ u v l hv s.
            joined_of j u v (sym (named u v (omega arith) hv) ∙ implied (is_wall (touch_of (rect_of p u) (rect_of p v))) _
            (pair_at (shares_joined j) shared u v l hv)
            (of_shares (rect_of p u) (rect_of p v) s));
        corners = λ u v l hv x y.
            not_and (corner (rect_of p u) (rect_of p v)) (pair_at (λ r s. not (corner r s)) corners u v l hv)
            (and_both _ _ (of_touch (rect_of p u).x1 (rect_of p u).x2 (rect_of p v).x1 (rect_of p v).x2 x)
            (of_touch (rect_of p u).y1 (rect_of p u).y2 (rect_of p v).y1 (rect_of p v).y2 y));
        order = λ u r.
            round_order p (star_of j u) (ok.good u r) (all_mem (round_in_order p) j order (star_of j u)
            (rw (star_room j u r.0) (mem_get_or j (u - 4) [] (omega (arith, r.0, r.1)))));
      }

  -- THE FACTS MAKE THE TEST
  pub draws_drawable : Draws j p → drawable j p ≡ true
  unfolding drawable shares_joined corner
  draws_drawable d =
      and_both _ _
      (and_both _ _
      (and_both _ _
      (and_both _ _
      (and_both _ _ (at_rect (inside p) (λ v hv. of_inside p (rect_of p v) (d.inside v hv)))
      (at_pair apart (λ u v l hv. of_apart (rect_of p u) (rect_of p v) (d.apart u v l hv))))
      (eq-eqb (sum (map area p.rects)) (p.width * p.height) d.areas))
      (at_pair (shares_joined j)
      (λ u v l hv.
      implies (is_wall (touch_of (rect_of p u) (rect_of p v))) _ (λ s. named u v (omega arith) hv ∙ of_joined j u v
      (d.shares u v l hv (shares_of (rect_of p u) (rect_of p v) s))))))
      (at_pair (λ r s. not (corner r s))
      (λ u v l hv.
      not_of (corner (rect_of p u) (rect_of p v))
      (λ e.
      let (x, y) = and_parts _ _ e in
      d.corners u v l hv (touch_of_lem (rect_of p u).x1 (rect_of p u).x2 (rect_of p v).x1 (rect_of p v).x2 x)
      (touch_of_lem (rect_of p u).y1 (rect_of p u).y2 (rect_of p v).y1 (rect_of p v).y2 y)))))
      (mem_all (round_in_order p) j
      (λ s m.
      let (i, l, e) = get_or_mem j s [] m in
      order_round p s (rw (star_at j i, e) at (ok.good (4 + i) (omega arith, omega arith)))
      (rw (star_at j i, e) at (d.order (4 + i) (omega arith, omega arith)))))
