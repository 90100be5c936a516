-- The held rectangles, entries and stars asked one by one. Assumes nothing.
use Prim.Native.Nat.{ℕ, zero, suc, ◌+◌, ◌-◌, ◌*◌, ◌<◌, ◌≤◌}
use mathlib.Core.Path.{◌≡◌, refl, sym, ap}
use mathlib.Core.Bool.{Bool, true, false, not, ◌&&◌}
use mathlib.Core.List.{List, [], ◌∷◌, map}
use native.Mathlib.Omega.{arith}
use borrow.Author.Tests.{eq-eqb, ne_eqb, not-true, not-false}
use lib.Dec.{eqb}
use lib.ListN.{length, get_or, get_or-eq_default}
use Rattle.floor.specs.Lists.{all, pairwise, sum}
use Rattle.floor.specs.Jobs.{Star, changes, Job}
use Rattle.floor.specs.Plans.{Rect, nowhere, area, rect_of, inside, apart, corner, shares_joined, follows, in_order, round_in_order, drawable}
use Rattle.stars.specs.Held.{to_at, entry_at, cells, place_after, link_at, links_from, start_of, end_of, held_star, stars_in}
use Rattle.stars.proofs.Holding.{held_more, held_done}
use Rattle.stars.proofs.Round.{links_round, links_false, links_next, links_all}
use Rattle.drawing.specs.declared.Rect.{Rect as HeldRect}
use Rattle.drawing.specs.declared.Layout.{Layout}
use Rattle.drawing.specs.Rects.{rect_in, rect_at, rects_in, rects_lent, plan_lent}
use Rattle.drawing.specs.Tests.{inside_sheet, pair_ok, two_at, ordered, star_ordered}

-- in which order tests are asked does not matter
exchange : (a b c d : Bool) → ((a && b) && (c && d)) ≡ ((a && c) && (b && d))
exchange false b c d = refl
exchange true b true d = refl
exchange true true false d = refl
exchange true false false d = refl

-- six tests, the second, fourth and fifth of them asked together after the third: the answer stays
reorder : (a b c d e f : Bool) → (a && b && c && d && e && f) ≡ (a && c && (b && d && e) && f)
reorder false b c d e f = refl
reorder true true true d e f = refl
reorder true true false d e f = refl
reorder true false true d e f = refl
reorder true false false d e f = refl

-- two tests of every member, or of every two, are one
module _ {A : Type 0} where
  -- every member passes both tests exactly if every one passes the first and every one the second
  all_and : (f g : A → Bool) (l : List A) → all (λ x. f x && g x) l ≡ (all f l && all g l)
  unfolding all
  all_and f g [] = refl
  all_and f g (x ∷ xs) = rw (all_and f g xs) (exchange (f x) (g x) (all f xs) (all g xs))

  -- any two members pass both tests exactly if any two pass the first and any two the second
  pairwise_and : (f g : A → A → Bool) (l : List A) → pairwise (λ x y. f x y && g x y) l ≡ (pairwise f l && pairwise g l)
  unfolding pairwise
  pairwise_and f g [] = refl
  pairwise_and f g (x ∷ xs) =
      rw (all_and (f x) (g x) xs, pairwise_and f g xs) (exchange (all (f x) xs) (all (g x) xs) (pairwise f xs) (pairwise g xs))

-- all that is asked of two rectangles, item by item
pairs_is : (j : Job) (rs : List Rect)
    → pairwise (pair_ok j) rs ≡ (pairwise apart rs && pairwise (shares_joined j) rs && pairwise (λ r s. not (corner r s)) rs)
unfolding pair_ok
pairs_is j rs = rw (← pairwise_and apart (shares_joined j) rs) (pairwise_and (λ r s. apart r s && shares_joined j r s) (λ r s. not (corner r s)) rs)

-- the next rectangle, and those behind it
module _ (l : List ℕ) (n v : ℕ) where
  -- where v is one of n vertices, its rectangle stands first, then those from v + 1 on
  pub rects_more : v < n → rects_in (n - v) v l ≡ rect_at l v ∷ rects_in (n - (v + 1)) (v + 1) l
  unfolding rects_in
  rects_more h =
      let d : n - v ≡ suc (n - (v + 1)) = omega arith in
      let s : v + 1 ≡ suc v = omega arith in
      rw (d, s)

  -- behind the last of n vertices there are none
  pub rects_done : n ≤ v → rects_in (n - v) v l ≡ []
  unfolding rects_in
  rects_done h =
      let d : n - v ≡ 0 = omega arith in
      rw d

-- the rectangle of a vertex
rect_in_lem : (m i k : ℕ) (l : List ℕ) → k < m → get_or (rects_in m i l) k nowhere ≡ rect_at l (i + k)
unfolding rects_in
rect_in_lem zero i k l h = absurd (omega arith)
rect_in_lem (suc m) i zero l h = let e : i + 0 ≡ i = omega arith in rw e
rect_in_lem (suc m) i (suc k) l h =
    let e : i + suc k ≡ suc i + k = omega arith in
    rw e (rect_in_lem m (suc i) k l (omega arith))

-- as many rectangles are read as are asked for
pub length_rects : (m i : ℕ) (l : List ℕ) → length (rects_in m i l) ≡ m
unfolding rects_in
length_rects zero i l = refl
length_rects (suc m) i l = ap suc (length_rects m (suc i) l)

module _ (l : List ℕ) (n v m : ℕ) (em : m ≡ n) where
  -- a number that is no vertex has no rectangle
  pub rect_none : m ≤ v → rect_in (record { vertex = 0; x1 = 0; y1 = 0; x2 = 0; y2 = 0 }) ≡ get_or (rects_in n 0 l) v nowhere
  unfolding rect_in
  rect_none h =
      let p : length (rects_in n 0 l) ≤ v = omega (arith, em, length_rects n 0 l) in
      sym (get_or-eq_default (rects_in n 0 l) nowhere p)

  -- what the numbers of vertex v say is its rectangle among all n
  pub rect_here : (r : HeldRect) → v < m → rect_in r ≡ rect_at l v → rect_in r ≡ get_or (rects_in n 0 l) v nowhere
  rect_here r h e =
      let z : 0 + v ≡ v = omega arith in
      rw (rect_in_lem n 0 v l (omega (arith, em)), z) e

-- rectangles asked one by one: r is the next
module _ (l : List ℕ) (n v m : ℕ) (w : Bool) (em : m ≡ n) where
  module _ (q : Rect → Bool) where
    module _ (r : HeldRect) (b : Bool) (inv : all q (rects_in (n - v) v l) ≡ w) (h : v < m) (e : rect_in r ≡ rect_at l v) (g : b ≡ q (rect_in r)) where
      -- where the next fails, not all pass
      pub rects_false : not b ≡ true → false ≡ w
      unfolding all
      rects_false t = rw (rects_more l n v (omega (arith, em)), ← e, ← g, not-true b t) at inv

      -- where it passes, all pass exactly if those behind it do
      pub rects_next : not b ≡ false → all q (rects_in (n - (v + 1)) (v + 1) l) ≡ w
      unfolding all
      rects_next t = rw (rects_more l n v (omega (arith, em)), ← e, ← g, not-false b t) at inv

    -- behind the last there is nothing left that could fail
    pub rects_all : all q (rects_in (n - v) v l) ≡ w → m ≤ v → true ≡ w
    unfolding all
    rects_all inv h = rw (rects_done l n v (omega (arith, em))) at inv

  -- and each with those behind it
  module _ (q : Rect → Rect → Bool) where
    module _ (r : HeldRect) (b : Bool) (inv : pairwise q (rects_in (n - v) v l) ≡ w) (h : v < m) (e : rect_in r ≡ rect_at l v)
        (g : b ≡ all (q (rect_in r)) (rects_in (n - (v + 1)) (v + 1) l)) where
      -- where the next fails with one behind it, not all pairs pass
      pub pairs_false : not b ≡ true → false ≡ w
      unfolding pairwise
      pairs_false t = rw (rects_more l n v (omega (arith, em)), ← e, ← g, not-true b t) at inv

      -- where it passes with each behind it, all pairs pass exactly if the pairs behind it do
      pub pairs_next : not b ≡ false → pairwise q (rects_in (n - (v + 1)) (v + 1) l) ≡ w
      unfolding pairwise
      pairs_next t = rw (rects_more l n v (omega (arith, em)), ← e, ← g, not-false b t) at inv

    -- behind the last there is no pair left that could fail
    pub pairs_all : pairwise q (rects_in (n - v) v l) ≡ w → m ≤ v → true ≡ w
    unfolding pairwise
    pairs_all inv h = rw (rects_done l n v (omega (arith, em))) at inv

-- once round a star, a place at a time: n is the place behind k
module _ (rs : List Rect) (nbr kind : List ℕ) (start end k : ℕ) (w : Bool) where
  module _ (n : ℕ) (b : Bool) (inv : all (ordered rs) (links_from start end nbr kind k) ≡ w) (h : k < end) (en : n ≡ place_after start end k)
      (g : b ≡ ordered rs (two_at nbr kind k n)) where
    -- the answer is whether the entry at k and the one that follows it stand in order
    here : b ≡ ordered rs (link_at start end nbr kind k)
    unfolding link_at
    here = rw (← en) g

    -- where these two do not stand in order, not all do
    pub round_false : not b ≡ true → false ≡ w
    round_false = links_false nbr kind start end k w (ordered rs) b inv h here

    -- where they do, all do exactly if all from the next place on do
    pub round_next : not b ≡ false → all (ordered rs) (links_from start end nbr kind (k + 1)) ≡ w
    round_next = links_next nbr kind start end k w (ordered rs) b inv h here

  -- behind the last place there is nothing left that could fail
  pub round_all : all (ordered rs) (links_from start end nbr kind k) ≡ w → end ≤ k → true ≡ w
  round_all = links_all nbr kind start end k w (ordered rs)

-- the whole star is what is left from its first place on
pub round_first : (rs : List Rect) (nbr kind : List ℕ) (start end : ℕ)
    → all (ordered rs) (links_from start end nbr kind start) ≡ star_ordered rs (cells (end - start) start nbr kind)
unfolding star_ordered
round_first rs nbr kind start end = rw (links_round nbr kind start end)

-- stars asked one by one
module _ (ends nbr kind : List ℕ) (n i : ℕ) (w : Bool) (q : Star → Bool) where
  module _ (b : Bool) (inv : all q (stars_in (n - i) i ends nbr kind) ≡ w) (h : i < n) (g : b ≡ q (held_star ends nbr kind i)) where
    -- where the next fails, not all pass
    pub stars_false : not b ≡ true → false ≡ w
    unfolding all
    stars_false t = rw (held_more ends nbr kind n i h, ← g, not-true b t) at inv

    -- where it passes, all pass exactly if those behind it do
    pub stars_next : not b ≡ false → all q (stars_in (n - (i + 1)) (i + 1) ends nbr kind) ≡ w
    unfolding all
    stars_next t = rw (held_more ends nbr kind n i h, ← g, not-false b t) at inv

  -- behind the last there is nothing left that could fail
  pub stars_all : all q (stars_in (n - i) i ends nbr kind) ≡ w → n ≤ i → true ≡ w
  unfolding all
  stars_all inv h = rw (held_done ends nbr kind n i h) at inv

-- the areas, added up
module _ (l : List ℕ) (n v m w total : ℕ) (em : m ≡ n) where
  -- the next area added to the sum so far: with those behind it, the whole stays
  pub sum_next : (a : ℕ) (r : HeldRect) → total + sum (map area (rects_in (n - v) v l)) ≡ w → v < m → rect_in r ≡ rect_at l v → a ≡ area (rect_in r)
      → total + a + sum (map area (rects_in (n - (v + 1)) (v + 1) l)) ≡ w
  unfolding sum
  sum_next a r inv h e f =
      let i : total + (area (rect_at l v) + sum (map area (rects_in (n - (v + 1)) (v + 1) l))) ≡ w = rw (rects_more l n v (omega (arith, em))) at inv in
      let g : a ≡ area (rect_at l v) = rw (← e) f in
      omega arith

  -- behind the last, the sum so far is the whole
  pub sum_done : total + sum (map area (rects_in (n - v) v l)) ≡ w → m ≤ v → total ≡ w
  unfolding sum
  sum_done inv h = let i : total + 0 ≡ w = rw (rects_done l n v (omega (arith, em))) at inv in omega arith

-- two entries
module _ (rs : List Rect) (nbr kind : List ℕ) (a b : ℕ) (k m : ℕ) (ek : k ≡ get_or kind a 0) (em : m ≡ get_or kind b 0) where
  -- of different kinds: they stand in order, wherever their rectangles lie
  pub order_free : (k ≡ m → ⊥) → true ≡ ordered rs (two_at nbr kind a b)
  unfolding ordered in_order changes entry_at
  order_free h = rw (← ek, ← em, ne_eqb k m h)

  -- of one kind: they stand in order exactly if the second's rectangle follows the first's
  pub order_asked : (t : Bool) (x y : ℕ) (r s : HeldRect) → k ≡ m → x ≡ to_at nbr a → rect_in r ≡ get_or rs x nowhere → y ≡ to_at nbr b
      → rect_in s ≡ get_or rs y nowhere → t ≡ follows k (rect_in r) (rect_in s) → t ≡ ordered rs (two_at nbr kind a b)
  unfolding ordered in_order changes entry_at rect_of
  order_asked t x y r s h ex er ey es f = rw (← ek, ← em, eq-eqb k m h, ← ex, ← er, ← ey, ← es) f

-- a star as a whole
pub star_whole : (rs : List Rect) (ends nbr kind : List ℕ) (i x y : ℕ) (t : Bool) → x ≡ start_of ends (length nbr) i → y ≡ end_of ends (length nbr) i
    → t ≡ star_ordered rs (cells (y - x) x nbr kind) → t ≡ star_ordered rs (held_star ends nbr kind i)
unfolding held_star
star_whole rs ends nbr kind i x y t ex ey e = rw (← ex, ← ey) e

-- the drawing test of a plan as it is lent, with all that is asked of two rectangles in one place
pub drawable_is : (j : Job) (p : Layout) → drawable j (plan_lent p)
    ≡ (all (inside_sheet p.width p.height) (rects_lent p)
    && eqb (sum (map area (rects_lent p))) (p.width * p.height)
    && pairwise (pair_ok j) (rects_lent p)
    && all (star_ordered (rects_lent p)) j)
unfolding drawable round_in_order inside inside_sheet star_ordered ordered in_order rect_of
drawable_is j p =
    rw (pairs_is j (rects_lent p))
    (reorder
    (all (inside_sheet p.width p.height) (rects_lent p))
    (pairwise apart (rects_lent p))
    (eqb (sum (map area (rects_lent p))) (p.width * p.height))
    (pairwise (shares_joined j) (rects_lent p))
    (pairwise (λ r s. not (corner r s)) (rects_lent p))
    (all (star_ordered (rects_lent p)) j))
