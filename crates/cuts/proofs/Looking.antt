-- The rows looked through, and what is found, as the definitions say it. Assumes nothing.
use Prim.Native.Nat.{ℕ, zero, suc, ◌+◌, ◌-◌, ◌*◌, ◌≤◌, ◌<◌}
use mathlib.Core.Path.{◌≡◌, refl, sym, ap, ◌∙◌}
use mathlib.Core.Bool.{Bool, true, false, cond}
use mathlib.Core.Option.{Option, none, some}
use Rattle.std.specs.Prelude.{Option as Answer, Some, None}
use mathlib.Core.List.{List, [], ◌∷◌}
use lib.Dec.{ltb, eqb}
use lib.ListN.{get_or}
use native.Mathlib.Omega.{arith}
use native.Mathlib.Decide.{dec_lt, ℕ_discrete}
use borrow.Author.Tests.{ltb-true, eqb-true, lt-ltb, le-ltb, eq-eqb}
use Rattle.floor.proofs.Lists.Laws.{no_false, and_parts, and_both}
use Rattle.floor.specs.Plans.{Rect}
use Rattle.floor.specs.Registers.{Partition}
use Rattle.floor.specs.Cuts.{upright, level, Tree, leaf, cut, way_byte, Choice, choice}
use Rattle.floor.specs.Cuts.ByWalls.{spans_box, wall_cut, wall_choice, same_box, leaf_of}
use Rattle.drawing.specs.declared.Rect.{Rect as HeldRect}
use Rattle.drawing.specs.Rects.{rect_in}
use Rattle.registers.specs.Kept.{wall_at, walls_in}
use Rattle.cuts.specs.declared.Task.TheVariants.{Leaf, Upright, Level}
use Rattle.cuts.specs.Rows.{row_number, row_reaches, row_cut, Rising}
use Rattle.cuts.specs.Orders.{key_of, row_key, key_at, Arranged, Passed, Over}
use Rattle.cuts.specs.Tasks.{rooms_from, leaf_room, cut_task, task_of}

-- what the tests say
record Reaches (after before low high : ℕ) (l : List ℕ) (k : ℕ) : Type 0 where
  over : after < row_number l k
  under : row_number l k < before
  begins : get_or l (4 * k + 1) 0 ≡ low
  ends : get_or l (4 * k + 2) 0 ≡ high

-- keys between two that differ in the number only
between : (b e x low high y z : ℕ) → e < 65536 → x < 65536 → high < 65536 → y < 65536 → z < 65536 → key_of low high y < key_of b e x → key_of b e x ≤ key_of low high z
    → (b ≡ low) × (e ≡ high) × (y < x) × (x ≤ z)
unfolding key_of
between b e x low high y z he hx hh hy hz h g =
    let p : b * 65536 + e ≡ low * 65536 + high = omega arith in
    let q : b ≡ low = omega arith in
    (q, omega arith, omega arith, omega arith)

-- THE FIRST ROW THAT REACHES ACROSS
module _ (after before low high : ℕ) (l : List ℕ) where
  -- a row reaches
  abbrev Yes : ℕ → Type 0
  Yes k = Reaches after before low high l k

  -- the tests read as facts
  reaches_of : (k : ℕ) → row_reaches after before low high l k ≡ true → Yes k
  unfolding row_reaches row_number
  reaches_of k e =
      let (e₁, h) = and_parts _ (eqb (get_or l (4 * k + 2) 0) high) e in
      let (e₂, g) = and_parts _ (eqb (get_or l (4 * k + 1) 0) low) e₁ in
      let (a, b) = and_parts (ltb after (get_or l (4 * k) 0)) (ltb (get_or l (4 * k) 0) before) e₂ in
      record {
        over = ltb-true after (get_or l (4 * k) 0) a;
        under = ltb-true (get_or l (4 * k) 0) before b;
        begins = eqb-true (get_or l (4 * k + 1) 0) low g;
        ends = eqb-true (get_or l (4 * k + 2) 0) high h;
      }

  -- and the facts as the tests
  of_reaches : (k : ℕ) → Yes k → row_reaches after before low high l k ≡ true
  unfolding row_reaches row_number
  of_reaches k r =
      and_both _ _ (and_both _ _ (and_both _ _ (lt-ltb after (get_or l (4 * k) 0) r.over) (lt-ltb (get_or l (4 * k) 0) before r.under))
      (eq-eqb (get_or l (4 * k + 1) 0) low r.begins)) (eq-eqb (get_or l (4 * k + 2) 0) high r.ends)

  -- none of some rows reaches
  no_cut : (m k : ℕ) → ((j : ℕ) → k ≤ j → j < k + m → Yes j → ⊥) → None ≡ row_cut after before low high m k l
  unfolding row_cut
  no_cut zero k h = refl
  no_cut (suc m) k h = go (row_reaches after before low high l k) refl (no_cut m (suc k) (λ j a b. h j (omega arith) (omega arith)))
    where
      go : (t : Bool) → row_reaches after before low high l k ≡ t → None ≡ row_cut after before low high m (suc k) l
          → None ≡ cond t (Some (get_or l (4 * k) 0)) (row_cut after before low high m (suc k) l)
      go true e below = absurd (h k (omega arith) (omega arith) (reaches_of k e))
      go false e below = below

  -- the number of one that reaches, where none that reaches has a lesser and none behind has
  some_cut : (m k i : ℕ) → k ≤ i → i < k + m → Yes i → ((j : ℕ) → k ≤ j → j < k + m → Yes j → row_number l i ≤ row_number l j)
      → ((j : ℕ) → k ≤ j → j ≤ i → row_number l j ≤ row_number l i) → Some (row_number l i) ≡ row_cut after before low high m k l
  unfolding row_cut row_number
  some_cut zero k i a b r h g = absurd (omega arith)
  some_cut (suc m) k i a b r h g =
      go (row_reaches after before low high l k) refl (λ c. some_cut m (suc k) i c (omega arith) r (λ j x y. h j (omega arith) (omega arith)) (λ j x y. g j (omega arith) y))
    where
      go : (t : Bool) → row_reaches after before low high l k ≡ t → (suc k ≤ i → Some (get_or l (4 * i) 0) ≡ row_cut after before low high m (suc k) l)
          → Some (get_or l (4 * i) 0) ≡ cond t (Some (get_or l (4 * k) 0)) (row_cut after before low high m (suc k) l)
      go true e below = ap Some (omega (arith, h k (omega arith) (omega arith) (reaches_of k e), g k (omega arith) a))
      go false e below = below (later (ℕ_discrete k i))
        where
          later : Dec (k ≡ i) → suc k ≤ i
          later (yes z) = no_false (sym e ∙ of_reaches k (rw z r))
          later (no z) = omega arith

  -- FOUND IN ORDER: the place p is the first with a key over that of the sides and the first number
  module _ (o : List ℕ) (i n p bound : ℕ) (ha : after < 65536) (hh : high < 65536) (le : i ≤ n) (ar : Arranged l o i n) (eb : bound ≡ key_of low high after)
      (pa : Passed l o i p bound) where
    -- a row that reaches does not stand before it
    stands : (k : ℕ) → i ≤ k → k < n → Yes k → (j : ℕ) × (i ≤ j) × (p ≤ j) × (j < n) × (get_or o j 0 ≡ k)
    unfolding key_at row_key row_number
    stands k h g r =
        let (j, x, y, e) = ar.numbered.every k h g in
        let q : key_of (get_or l (4 * k + 1) 0) (get_or l (4 * k + 2) 0) (get_or l (4 * k) 0) ≡ key_of low high (get_or l (4 * k) 0) = rw (r.begins, r.ends) in
        let c : bound < key_at l o j = rw (e, q) (unfold key_of in omega (arith, r.over)) in
        (j, x, behind j x c (dec_lt j p), y, e)
      where
        behind : (j : ℕ) → i ≤ j → bound < key_at l o j → Dec (j < p) → p ≤ j
        behind j x c (yes z) = absurd (omega (arith, pa j x z))
        behind j x c (no z) = omega arith

    -- there is no such place
    pub cut_past : n ≤ p → None ≡ row_cut after before low high (n - i) i l
    cut_past h = no_cut (n - i) i (λ k a b r. let (j, x, c, d, e) = stands k a (omega arith) r in omega arith)

    module _ (hb : before < 65536) (up : Rising l i n) (hp : i ≤ p) (ov : Over l o p n bound) (k : ℕ) (t : Bool) (ek : k ≡ get_or o p 0)
        (et : (t ≡ row_reaches after before low high l k) × (get_or l (4 * k) 0 < 65536) × (get_or l (4 * k + 2) 0 < 65536)) (there : p < n) where
      -- where any row reaches, the row there does, with no greater number
      first_there : (m : ℕ) → i ≤ m → m < n → Yes m → Yes k × (row_number l k ≤ row_number l m)
      unfolding key_at row_key row_number
      first_there m h g r =
          let (j, x, d, y, e) = stands m h g r in
          let q : key_of (get_or l (4 * m + 1) 0) (get_or l (4 * m + 2) 0) (get_or l (4 * m) 0) ≡ key_of low high (get_or l (4 * m) 0) = rw (r.begins, r.ends) in
          let (b₁, b₂, b₃, b₄) = between (get_or l (4 * k + 1) 0) (get_or l (4 * k + 2) 0) (get_or l (4 * k) 0) low high after (get_or l (4 * m) 0)
          et.2 et.1 hh ha (omega (arith, r.under)) (rw (eb, ← ek) at (ov p (omega arith) there)) (rw (e, q, ← ek) at (ar.rises p j hp d y)) in
          (record { over = b₃; under = omega (arith, r.under); begins = b₁; ends = b₂ }, b₄)

      -- the row there reaches
      pub cut_found : (y : ℕ) → t ≡ true → y ≡ get_or l (4 * k) 0 → Some y ≡ row_cut after before low high (n - i) i l
      unfolding row_number
      cut_found y e ey =
          let (a, b) = rw (← ek) at (ar.numbered.each p hp there) in
          ap Some ey ∙ some_cut (n - i) i k (omega arith) (omega arith) (reaches_of k (sym et.0 ∙ e)) (λ j c d r. (first_there j c (omega arith) r).1)
          (λ j c d. up j k c d (omega arith))

      -- it does not
      pub cut_lost : t ≡ false → None ≡ row_cut after before low high (n - i) i l
      cut_lost e = no_cut (n - i) i (λ j a b r. no_false (sym e ∙ et.0 ∙ of_reaches k (first_there j a (omega arith) r).0))

-- a place, as it is answered
place_of : Option ℕ → Answer ℕ
place_of none = None
place_of (some c) = Some c

-- THE WALLS OF A DIRECTION ARE ITS ROWS
module _ (b : Rect) (u : ℕ) (l : List ℕ) where
  -- a row of the first u is upright
  up_row : (k : ℕ) → k < u → spans_box upright b (wall_at u l k) ≡ row_reaches b.x1 b.x2 b.y1 b.y2 l k
  unfolding spans_box wall_at row_reaches way_byte
  up_row k h = rw (lt-ltb k u h)

  -- another is not
  level_up : (k : ℕ) → u ≤ k → spans_box upright b (wall_at u l k) ≡ false
  unfolding spans_box wall_at way_byte
  level_up k h = rw (le-ltb k u h)

  -- and is level
  level_row : (k : ℕ) → u ≤ k → spans_box level b (wall_at u l k) ≡ row_reaches b.y1 b.y2 b.x1 b.x2 l k
  unfolding spans_box wall_at row_reaches way_byte
  level_row k h = rw (le-ltb k u h)

  -- an upright one is not
  up_level : (k : ℕ) → k < u → spans_box level b (wall_at u l k) ≡ false
  unfolding spans_box wall_at way_byte
  up_level k h = rw (lt-ltb k u h)

  -- none upright behind the first u
  no_upright : (n k : ℕ) → u ≤ k → wall_cut upright b (walls_in u n k l) ≡ none
  unfolding wall_cut walls_in
  no_upright zero k h = refl
  no_upright (suc n) k h = rw (level_up k h) (no_upright n (suc k) (omega arith))

  -- upright walls, row by row
  up_place : (j n k : ℕ) → k + j ≡ u → j ≤ n → place_of (wall_cut upright b (walls_in u n k l)) ≡ row_cut b.x1 b.x2 b.y1 b.y2 j k l
  unfolding wall_cut walls_in row_cut place_of
  up_place zero n k e h = rw (no_upright n k (omega arith))
  up_place (suc j) zero k e h = absurd (omega arith)
  up_place (suc j) (suc n) k e h = go (spans_box upright b (wall_at u l k)) refl (up_place j n (suc k) (omega arith) (omega arith))
    where
      go : (t : Bool) → spans_box upright b (wall_at u l k) ≡ t → place_of (wall_cut upright b (walls_in u n (suc k) l)) ≡ row_cut b.x1 b.x2 b.y1 b.y2 j (suc k) l
          → place_of (cond t (some (wall_at u l k).number) (wall_cut upright b (walls_in u n (suc k) l)))
          ≡ cond (row_reaches b.x1 b.x2 b.y1 b.y2 l k) (Some (get_or l (4 * k) 0)) (row_cut b.x1 b.x2 b.y1 b.y2 j (suc k) l)
      go true q below = unfold wall_at in rw (sym (up_row k (omega arith)) ∙ q)
      go false q below = rw (sym (up_row k (omega arith)) ∙ q) below

  -- level walls, row by row
  level_place : (n k : ℕ) → u ≤ k → place_of (wall_cut level b (walls_in u n k l)) ≡ row_cut b.y1 b.y2 b.x1 b.x2 n k l
  unfolding wall_cut walls_in row_cut place_of
  level_place zero k h = refl
  level_place (suc n) k h = go (spans_box level b (wall_at u l k)) refl (level_place n (suc k) (omega arith))
    where
      go : (t : Bool) → spans_box level b (wall_at u l k) ≡ t → place_of (wall_cut level b (walls_in u n (suc k) l)) ≡ row_cut b.y1 b.y2 b.x1 b.x2 n (suc k) l
          → place_of (cond t (some (wall_at u l k).number) (wall_cut level b (walls_in u n (suc k) l)))
          ≡ cond (row_reaches b.y1 b.y2 b.x1 b.x2 l k) (Some (get_or l (4 * k) 0)) (row_cut b.y1 b.y2 b.x1 b.x2 n (suc k) l)
      go true q below = unfold wall_at in rw (sym (level_row k h) ∙ q)
      go false q below = rw (sym (level_row k h) ∙ q) below

  -- the level ones stand behind the first u
  level_behind : (j n k : ℕ) → k + j ≡ u → j ≤ n → wall_cut level b (walls_in u n k l) ≡ wall_cut level b (walls_in u (n - j) u l)
  unfolding wall_cut walls_in
  level_behind zero n k e h = let z : k ≡ u = omega arith in let y : n - 0 ≡ n = omega arith in rw (z, y)
  level_behind (suc j) zero k e h = absurd (omega arith)
  level_behind (suc j) (suc n) k e h =
      let z : suc n - suc j ≡ n - j = omega arith in rw (up_level k (omega arith), z) (level_behind j n (suc k) (omega arith) (omega arith))

  -- THE CUT BY WALLS, by the rows of its direction
  upright_rows : (m : ℕ) → u ≤ m → place_of (wall_cut upright b (walls_in u m 0 l)) ≡ row_cut b.x1 b.x2 b.y1 b.y2 (u - 0) 0 l
  upright_rows m h = let z : u - 0 ≡ u = omega arith in rw z (up_place u m 0 (omega arith) h)

  -- and of the level ones
  level_rows : (m : ℕ) → u ≤ m → place_of (wall_cut level b (walls_in u m 0 l)) ≡ row_cut b.y1 b.y2 b.x1 b.x2 (m - u) u l
  level_rows m h = ap place_of (level_behind u m 0 (omega arith) h) ∙ level_place (m - u) u (omega arith)

-- a place is a cut
place_some : (o : Option ℕ) (x : ℕ) → Some x ≡ place_of o → o ≡ some x
unfolding place_of
place_some none x e = absurd (let z : ◌≡◌ {A = ℕ} 0 1 = cc in omega arith)
place_some (some c) x e = let z : x ≡ c = cc in ap some (sym z)

-- no place is none
place_none : (o : Option ℕ) → None ≡ place_of o → o ≡ none
unfolding place_of
place_none none e = refl
place_none (some c) e = absurd (let z : ◌≡◌ {A = ℕ} 0 1 = cc in omega arith)

-- no room is no leaf
leaf_none : (b : Rect) (rs : List Rect) → None ≡ leaf_room (leaf_of b rs) → leaf_of b rs ≡ none
unfolding leaf_of leaf_room
leaf_none b [] e = refl
leaf_none b (r ∷ rs) e = go (same_box b r) e (leaf_none b rs)
  where
    go : (t : Bool) → None ≡ leaf_room (cond t (some (leaf r.vertex)) (leaf_of b rs)) → (None ≡ leaf_room (leaf_of b rs) → leaf_of b rs ≡ none)
        → cond t (some (leaf r.vertex)) (leaf_of b rs) ≡ none
    go true e below = absurd (let z : ◌≡◌ {A = ℕ} 0 1 = cc in omega arith)
    go false e below = below e

-- WHAT IS TO BE DONE
module _ (b : HeldRect) (n : ℕ) (r : List ℕ) (a : Answer ℕ) (ea : a ≡ leaf_room (leaf_of (rect_in b) (rooms_from n 4 r))) where
  -- a leaf
  pub look_leaf : (k : Choice) (v : ℕ) → a ≡ Some v → Some (Leaf v) ≡ task_of (leaf_of (rect_in b) (rooms_from n 4 r)) k
  look_leaf k v h = go (leaf_of (rect_in b) (rooms_from n 4 r)) (sym h ∙ ea)
    where
      go : (o : Option Tree) → Some v ≡ leaf_room o → Some (Leaf v) ≡ task_of o k
      go none e = absurd (unfold leaf_room in let z : ◌≡◌ {A = ℕ} 0 1 = cc in omega arith)
      go (some (leaf w)) e = unfold leaf_room task_of in let z : v ≡ w = cc in ap (λ u. Some (Leaf u)) z
      go (some (cut a c s t)) e = absurd (unfold leaf_room in let z : ◌≡◌ {A = ℕ} 0 1 = cc in omega arith)

  module _ (no_room : a ≡ None) (u m : ℕ) (l : List ℕ) (le : u ≤ m) (d : Answer ℕ) (ed : d ≡ row_cut b.x1 b.x2 b.y1 b.y2 (u - 0) 0 l) where
    -- the walls of the rows
    abbrev ws : List Partition
    ws = walls_in u m 0 l

    -- no room is b
    no_leaf : leaf_of (rect_in b) (rooms_from n 4 r) ≡ none
    no_leaf = leaf_none (rect_in b) (rooms_from n 4 r) (sym no_room ∙ ea)

    -- what was found among the upright ones
    is_upright : d ≡ place_of (wall_cut upright (rect_in b) ws)
    unfolding rect_in
    is_upright = ed ∙ sym (upright_rows (rect_in b) u l m le)

    -- an upright cut
    pub look_upright : (x : ℕ) → d ≡ Some x → Some (Upright x) ≡ task_of (leaf_of (rect_in b) (rooms_from n 4 r)) (wall_choice (rect_in b) ws)
    unfolding task_of cut_task wall_choice choice
    look_upright x h = rw (no_leaf, place_some (wall_cut upright (rect_in b) ws) x (sym h ∙ is_upright))

    module _ (none_up : d ≡ None) (g : Answer ℕ) (eg : g ≡ row_cut b.y1 b.y2 b.x1 b.x2 (m - u) u l) where
      -- what was found among the level ones
      is_level : g ≡ place_of (wall_cut level (rect_in b) ws)
      unfolding rect_in
      is_level = eg ∙ sym (level_rows (rect_in b) u l m le)

      -- no upright cut
      no_up : wall_cut upright (rect_in b) ws ≡ none
      no_up = place_none (wall_cut upright (rect_in b) ws) (sym none_up ∙ is_upright)

      -- a level cut
      pub look_level : (y : ℕ) → g ≡ Some y → Some (Level y) ≡ task_of (leaf_of (rect_in b) (rooms_from n 4 r)) (wall_choice (rect_in b) ws)
      unfolding task_of cut_task wall_choice choice
      look_level y h = rw (no_leaf, no_up, place_some (wall_cut level (rect_in b) ws) y (sym h ∙ is_level))

      -- no cut
      pub look_stuck : g ≡ None → None ≡ task_of (leaf_of (rect_in b) (rooms_from n 4 r)) (wall_choice (rect_in b) ws)
      unfolding task_of cut_task wall_choice choice
      look_stuck h = rw (no_leaf, no_up, place_none (wall_cut level (rect_in b) ws) (sym h ∙ is_level))
