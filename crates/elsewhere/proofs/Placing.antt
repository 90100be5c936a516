-- The rectangles that stand in some bytes, and the sheet, as the code comes by them. Assumes nothing.
use Prim.Native.Nat.{ℕ, zero, suc, ◌+◌, ◌-◌, ◌≤◌, ◌<◌}
use mathlib.Core.Path.{◌≡◌, refl, sym, ap, ◌∙◌}
use mathlib.Core.Bool.{Bool, true, false, not, ◌&&◌}
use mathlib.Core.List.{List, [], ◌∷◌}
use native.Mathlib.Omega.{arith}
use borrow.Author.Tests.{not-true, not-false, le-leb, lt-leb}
use lib.Dec.{leb, eqb}
use lib.ListN.{length, get_or, get_or-eq_default}
use Rattle.floor.specs.Lists.{all}
use Rattle.floor.specs.Jobs.{Size}
use Rattle.floor.specs.Plans.{Rect, nowhere, Plan, rect_of, inside}
use Rattle.floor.specs.Foreign.{framed, between, large}
use Rattle.drawing.specs.declared.Rect.{Rect as HeldRect}
use Rattle.drawing.specs.Rects.{rect_in}
use Rattle.drawing.specs.Tests.{inside_sheet}
use Rattle.elsewhere.specs.Placed.{rect_at, rects_at, plan_at, ends_stand, levels_lie, between_sides}

-- the next rectangle, and those behind it
module _ (l : List ℕ) (n v : ℕ) where
  -- where v is one of n vertices, its rectangle stands first, then those from v + 1 on
  rects_more : v < n → rects_at (n - v) v l ≡ rect_at l v ∷ rects_at (n - (v + 1)) (v + 1) l
  unfolding rects_at
  rects_more h =
      let d : n - v ≡ suc (n - (v + 1)) = omega arith in
      let s : v + 1 ≡ suc v = omega arith in
      rw (d, s)

  -- behind the last of n vertices there are none
  rects_done : n ≤ v → rects_at (n - v) v l ≡ []
  unfolding rects_at
  rects_done h =
      let d : n - v ≡ 0 = omega arith in
      rw d

-- the rectangle at place k of those from vertex i on is that of i + k
rect_in_lem : (m i k : ℕ) (l : List ℕ) → k < m → get_or (rects_at m i l) k nowhere ≡ rect_at l (i + k)
unfolding rects_at
rect_in_lem zero i k l h = absurd (omega arith)
rect_in_lem (suc m) i zero l h = let e : i + 0 ≡ i = omega arith in rw e
rect_in_lem (suc m) i (suc k) l h =
    let e : i + suc k ≡ suc i + k = omega arith in
    rw e (rect_in_lem m (suc i) k l (omega arith))

-- there are as many as are asked for
length_rects : (m i : ℕ) (l : List ℕ) → length (rects_at m i l) ≡ m
unfolding rects_at
length_rects zero i l = refl
length_rects (suc m) i l = ap suc (length_rects m (suc i) l)

module _ (l : List ℕ) (n m v : ℕ) (en : m ≡ n) where
  -- a number that is no vertex has no rectangle
  pub rect_none : m + 4 ≤ v → rect_in (record { vertex = 0; x1 = 0; y1 = 0; x2 = 0; y2 = 0 }) ≡ rect_of (plan_at n l) v
  unfolding rect_in rect_of plan_at
  rect_none h =
      let p : length (rects_at (n + 4) 0 l) ≤ v = omega (arith, length_rects (n + 4) 0 l) in
      sym (get_or-eq_default (rects_at (n + 4) 0 l) nowhere p)

  -- what stands in a vertex's place is its rectangle
  pub rect_here : (r : HeldRect) → v < m + 4 → rect_in r ≡ rect_at l v → rect_in r ≡ rect_of (plan_at n l) v
  unfolding rect_of plan_at
  rect_here r h e =
      let z : 0 + v ≡ v = omega arith in
      e ∙ sym (rect_in_lem (n + 4) 0 v l (omega arith) ∙ ap (rect_at l) z)

-- every rectangle inside the sheet, one by one
module _ (l : List ℕ) (n x y : ℕ) (ex : x ≡ get_or l 3 0) (ey : y ≡ get_or l 4 0) (w : Bool) (m v : ℕ) where
  -- the test of the sheet is the test of the plan
  same_inside : (r : Rect) → inside_sheet x y r ≡ inside (plan_at n l) r
  unfolding inside_sheet inside plan_at
  same_inside r = rw (ex, ey)

  module _ (r : HeldRect) (b : Bool) (inv : all (inside (plan_at n l)) (rects_at (m - v) v l) ≡ w) (h : v < m) (e : rect_in r ≡ rect_at l v)
      (g : b ≡ inside_sheet x y (rect_in r)) where
    -- the answer is that of the next rectangle
    next_inside : b ≡ inside (plan_at n l) (rect_at l v)
    next_inside = g ∙ same_inside (rect_in r) ∙ ap (inside (plan_at n l)) e

    -- where the next lies outside, not all lie inside
    pub inside_false : not b ≡ true → false ≡ w
    unfolding all
    inside_false t = rw (rects_more l m v h, ← next_inside, not-true b t) at inv

    -- where it lies inside, all do exactly if those behind it do
    pub inside_next : not b ≡ false → all (inside (plan_at n l)) (rects_at (m - (v + 1)) (v + 1) l) ≡ w
    unfolding all
    inside_next t = rw (rects_more l m v h, ← next_inside, not-false b t) at inv

-- behind the last there is none left
pub inside_all : (l : List ℕ) (n m v : ℕ) (w : Bool) → all (inside (plan_at n l)) (rects_at (m - v) v l) ≡ w → m ≤ v → true ≡ w
unfolding all
inside_all l n m v w inv h = rw (rects_done l m v h) at inv

-- before the first all are left
pub inside_first : (l : List ℕ) (n m : ℕ) → m ≡ n → all (inside (plan_at n l)) (rects_at (m + 4 - 0) 0 l) ≡ all (inside (plan_at n l)) (rects_at (n + 4) 0 l)
inside_first l n m e = let z : m + 4 - 0 ≡ n + 4 = omega arith in rw z

-- two tests and two are four in a row
two_and_two : (a b c : Bool) → (a && b && c) ≡ (a && (b && c))
two_and_two true b c = refl
two_and_two false b c = refl

-- the plan's frame
module _ (l : List ℕ) (m x y : ℕ) (n w s e : HeldRect) where
  -- it lies as in ours where W and E do, and N and S
  frame_is : x ≡ get_or l 3 0 → y ≡ get_or l 4 0 → rect_in n ≡ rect_of (plan_at m l) 0 → rect_in w ≡ rect_of (plan_at m l) 1 → rect_in s ≡ rect_of (plan_at m l) 2
      → rect_in e ≡ rect_of (plan_at m l) 3 → framed (plan_at m l) ≡ (ends_stand x y (rect_in w) (rect_in e) && levels_lie y (rect_in n) (rect_in w) (rect_in s) (rect_in e))
  unfolding framed ends_stand levels_lie plan_at rect_in
  frame_is ex ey en ew es ee =
      rw (← en, ← ew, ← es, ← ee, ← ex, ← ey)
      (two_and_two (ends_stand x y (rect_in w) (rect_in e)) (eqb n.x1 w.x2 && eqb n.x2 e.x1 && eqb n.y2 y)
      (eqb s.x1 w.x2 && eqb s.x2 e.x1 && eqb s.y1 0))

  -- W or E stands otherwise,
  pub frame_ends : (a : Bool) → a ≡ false → a ≡ ends_stand x y (rect_in w) (rect_in e) → x ≡ get_or l 3 0 → y ≡ get_or l 4 0 → rect_in n ≡ rect_of (plan_at m l) 0
      → rect_in w ≡ rect_of (plan_at m l) 1 → rect_in s ≡ rect_of (plan_at m l) 2 → rect_in e ≡ rect_of (plan_at m l) 3 → a ≡ framed (plan_at m l)
  frame_ends a t ea ex ey en ew es ee = rw (frame_is ex ey en ew es ee, ← ea, t)

  -- or else it comes to N and S
  pub frame_levels : (a b : Bool) → b ≡ levels_lie y (rect_in n) (rect_in w) (rect_in s) (rect_in e) → a ≡ true → a ≡ ends_stand x y (rect_in w) (rect_in e)
      → x ≡ get_or l 3 0 → y ≡ get_or l 4 0 → rect_in n ≡ rect_of (plan_at m l) 0 → rect_in w ≡ rect_of (plan_at m l) 1 → rect_in s ≡ rect_of (plan_at m l) 2
      → rect_in e ≡ rect_of (plan_at m l) 3 → b ≡ framed (plan_at m l)
  frame_levels a b eb t ea ex ey en ew es ee = rw (frame_is ex ey en ew es ee, ← ea, t) eb

-- between the sides of the plan's frame
pub lies_is : (p : Plan) (v : ℕ) (n w s e r : HeldRect) (b : Bool) → b ≡ between_sides (rect_in n) (rect_in w) (rect_in s) (rect_in e) (rect_in r) → rect_in n ≡ rect_of p 0
    → rect_in w ≡ rect_of p 1 → rect_in s ≡ rect_of p 2 → rect_in e ≡ rect_of p 3 → rect_in r ≡ rect_of p v → b ≡ between p (rect_of p v)
unfolding between between_sides
lies_is p v n w s e r b q en ew es ee er = rw (← en, ← ew, ← es, ← ee, ← er) q

-- a rectangle of at least a size
module _ (p : Plan) (z : Size) (v : ℕ) (r : HeldRect) (er : rect_in r ≡ rect_of p v) (x1 x2 a w : ℕ) (ea : a ≡ z.wide) (ew : w ≡ a) (e₁ : x1 ≡ r.x1) (e₂ : x2 ≡ r.x2) where
  -- it is not wide enough,
  pub narrow : x2 < x1 + w → leb (x1 + w) x2 ≡ large z (rect_of p v)
  unfolding large rect_in
  narrow h = rw (← er, ← ea, ← ew, ← e₁, ← e₂, lt-leb (x1 + w) x2 h)

  -- or else it comes to its height
  pub wide_enough : (y1 y2 b h : ℕ) → x1 + w ≤ x2 → b ≡ z.tall → h ≡ b → y1 ≡ r.y1 → y2 ≡ r.y2 → leb (y1 + h) y2 ≡ large z (rect_of p v)
  unfolding large rect_in
  wide_enough y1 y2 b h l eb eh e₃ e₄ = rw (← er, ← ea, ← ew, ← eb, ← eh, ← e₁, ← e₂, ← e₃, ← e₄, le-leb (x1 + w) x2 l)
