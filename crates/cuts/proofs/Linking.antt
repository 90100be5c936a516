-- Rooms linked by the marks of their corners, and the room that is a rectangle found by the links. Assumes nothing.
use Prim.Native.Nat.{ℕ, zero, suc, ◌+◌, ◌-◌, ◌*◌, ◌≤◌, ◌<◌}
use mathlib.Core.Path.{◌≡◌, refl, sym, ap, ◌∙◌}
use mathlib.Core.Logic.{◌⊎◌, inl, inr}
use mathlib.Core.Bool.{Bool, true, false}
use Rattle.std.specs.Prelude.{Some, None}
use mathlib.Core.List.{List, ◌∷◌}
use lib.ListN.{length, get_or, set, replicate, length-set}
use lib.Seq.{get_or-set_same, get_or-set_other}
use native.Mathlib.Omega.{arith}
use native.Mathlib.Decide.{ℕ_discrete}
use borrow.Author.Tests.{eq-eqb, ne_eqb}
use Rattle.floor.specs.Plans.{Rect}
use Rattle.floor.specs.Cuts.ByWalls.{same_box, leaf_of}
use Rattle.drawing.specs.declared.Rect.{Rect as HeldRect}
use Rattle.drawing.specs.Rects.{rect_in, rect_at, rects_in}
use Rattle.cuts.specs.Tasks.{rooms_from, leaf_room}
use Rattle.cuts.specs.Links.{mark_of, corner_at, FirstAt, RoomAt, Follows, Linked}

-- A ROOM THAT IS THE RECTANGLE, test by test
module _ (b : HeldRect) (l : List ℕ) (v x : ℕ) (ex : x ≡ get_or l (4 * v) 0) where
  -- it begins elsewhere
  pub box_left : (b.x1 ≡ x → ⊥) → false ≡ same_box (rect_in b) (rect_at l v)
  unfolding same_box rect_in rect_at
  box_left h = rw (← ex, ne_eqb b.x1 x h)

  module _ (y : ℕ) (i : b.x1 ≡ x) (ey : y ≡ get_or l (4 * v + 1) 0) where
    -- it begins higher or lower
    pub box_lower : (b.y1 ≡ y → ⊥) → false ≡ same_box (rect_in b) (rect_at l v)
    unfolding same_box rect_in rect_at
    box_lower h = rw (← ex, eq-eqb b.x1 x i, ← ey, ne_eqb b.y1 y h)

-- THE ROOMS, one by one
module _ (b : Rect) (l : List ℕ) (n v : ℕ) where
  -- the first of them, and the others
  room_next : v < n → rooms_from n v l ≡ rect_at l v ∷ rooms_from n (suc v) l
  unfolding rooms_from rects_in
  room_next h = let z : n - v ≡ suc (n - suc v) = omega arith in rw z

  -- this one is it
  pub leaf_here : (t : Bool) (w : List Rect) → v < n → t ≡ same_box b (rect_at l v) → t ≡ true → leaf_of b (rooms_from n v l) ≡ leaf_of b w
      → Some v ≡ leaf_room (leaf_of b w)
  unfolding leaf_room leaf_of rect_at
  leaf_here t w h et e inv = rw (← inv, room_next h, ← et, e)

  -- it is another
  pub leaf_on : (t : Bool) (w : List Rect) → v < n → t ≡ same_box b (rect_at l v) → t ≡ false → leaf_of b (rooms_from n v l) ≡ leaf_of b w
      → leaf_of b (rooms_from n (v + 1) l) ≡ leaf_of b w
  unfolding leaf_of
  leaf_on t w h et e inv = let s : v + 1 ≡ suc v = omega arith in rw s (rw (room_next h, ← et, e) at inv)

  -- there is none
  pub leaf_none : (w : List Rect) → n ≤ v → leaf_of b (rooms_from n v l) ≡ leaf_of b w → None ≡ leaf_room (leaf_of b w)
  unfolding leaf_room leaf_of rooms_from rects_in
  leaf_none w h inv = let z : n - v ≡ 0 = omega arith in rw (← inv, z)

-- the mark of a vertex's corner
pub corner_is : (l : List ℕ) (v x y r : ℕ) → x ≡ get_or l (4 * v) 0 → y ≡ get_or l (4 * v + 1) 0 → r ≡ mark_of x y → r ≡ corner_at l v
unfolding corner_at
corner_is l v x y r ex ey er = rw (← ex, ← ey) er

-- what one room's link stores
pub link_next : (l heads next next' : List ℕ) (v x old : ℕ) → x ≡ corner_at l v → old ≡ get_or heads x 0 → next' ≡ set next v old
    → next' ≡ set next v (get_or heads (corner_at l v) 0)
link_next l heads next next' v x old ex eo e = rw (← ex, ← eo) e

-- and where
pub link_head : (l heads heads' : List ℕ) (v x : ℕ) → x ≡ corner_at l v → heads' ≡ set heads x v → heads' ≡ set heads (corner_at l v) v
link_head l heads heads' v x ex e = rw (← ex) e

-- THE LINKS, room by room
module _ (l : List ℕ) (last : ℕ) where
  -- no room is linked at first
  pub link_start : (heads next : List ℕ) → heads ≡ replicate 127 0 → Linked l last last heads next
  link_start heads next e = record {
    firsts = λ x h. record {
      none_before = λ u a b i q. absurd (omega arith);
      there = λ i. absurd (i (ap (λ (l : List ℕ). get_or l x 0) e ∙ nought 127 x));
    };
    follows = λ u a b. absurd (omega arith);
  }
    where
      nought : (n x : ℕ) → get_or {A = ℕ} (replicate n 0) x 0 ≡ 0
      nought zero x = refl
      nought (suc n) zero = refl
      nought (suc n) (suc x) = nought n x

  -- one room more
  pub link_on : (v : ℕ) (heads next heads' next' : List ℕ) → 4 < v → v ≤ last → last ≤ length next
      → next' ≡ set next (v - 1) (get_or heads (corner_at l (v - 1)) 0) → heads' ≡ set heads (corner_at l (v - 1)) (v - 1)
      → Linked l last v heads next → Linked l last (v - 1) heads' next'
  link_on v heads next heads' next' h k g en eh d = rw (en, eh) (record {
    firsts = λ x i. first x (omega (arith, length-set heads z (v - 1))) (ℕ_discrete z x);
    follows = λ u a b c. next_of u a b (omega (arith, length-set heads z (v - 1))) (ℕ_discrete (v - 1) u);
  })
    where
      z : ℕ
      z = corner_at l (v - 1)

      first : (x : ℕ) → x < length heads → Dec (z ≡ x) → FirstAt l last (v - 1) x (get_or (set heads z (v - 1)) x 0)
      first x i (yes q) =
          let e : get_or (set heads z (v - 1)) x 0 ≡ v - 1 = rw (← q) (get_or-set_same heads z (v - 1) 0 (omega arith)) in
          rw e (record { none_before = λ u a b i y. before u a i; there = λ i. (omega arith, omega arith, q) })
        where
          before : (u : ℕ) → v - 1 ≤ u → (v - 1 ≡ 0) ⊎ (u < v - 1) → ⊥
          before u a (inl y) = omega arith
          before u a (inr y) = omega arith
      first x i (no q) =
          let e : get_or (set heads z (v - 1)) x 0 ≡ get_or heads x 0 = get_or-set_other heads z x (v - 1) 0 (λ y. q (sym y)) in
          let o : FirstAt l last v x (get_or heads x 0) = d.firsts x i in
          rw e (record {
            none_before = λ u a b j y. before o u a b j y (ℕ_discrete (v - 1) u);
            there = λ j. let (a, b, c) = o.there j in (omega arith, b, c);
          })
        where
          before : FirstAt l last v x (get_or heads x 0) → (u : ℕ) → v - 1 ≤ u → u < last → (get_or heads x 0 ≡ 0) ⊎ (u < get_or heads x 0)
              → corner_at l u ≡ x → Dec (v - 1 ≡ u) → ⊥
          before o u a b j y (yes m) = q (ap (corner_at l) m ∙ y)
          before o u a b j y (no m) = o.none_before u (omega arith) b j y

      next_of : (u : ℕ) → v - 1 ≤ u → u < last → corner_at l u < length heads → Dec (v - 1 ≡ u)
          → FirstAt l last (suc u) (corner_at l u) (get_or (set next (v - 1) (get_or heads z 0)) u 0)
      next_of u a b c (yes m) =
          let e : get_or (set next (v - 1) (get_or heads z 0)) u 0 ≡ get_or heads z 0 = rw (← m) (get_or-set_same next (v - 1) (get_or heads z 0) 0 (omega arith)) in
          let f : z ≡ corner_at l u = ap (corner_at l) m in
          let s : v ≡ suc u = omega arith in
          rw (e, ← f, ← s) (d.firsts z (rw f c))
      next_of u a b c (no m) =
          rw (get_or-set_other next (v - 1) u (get_or heads z 0) 0 (λ y. m (sym y))) (d.follows u (omega arith) b c)

  -- all rooms
  pub link_done : (v : ℕ) (heads next : List ℕ) → 4 ≤ v → v ≤ 4 → Linked l last v heads next → Linked l last 4 heads next
  link_done v heads next h g d = let z : v ≡ 4 = omega arith in rw z at d

-- BY THE LINKS
module _ (b : HeldRect) (l : List ℕ) (last : ℕ) where
  -- a room with another mark is not b
  box_else : (v : ℕ) → (corner_at l v ≡ mark_of b.x1 b.y1 → ⊥) → false ≡ same_box (rect_in b) (rect_at l v)
  unfolding corner_at
  box_else v h = go (ℕ_discrete b.x1 (get_or l (4 * v) 0))
    where
      go : Dec (b.x1 ≡ get_or l (4 * v) 0) → false ≡ same_box (rect_in b) (rect_at l v)
      go (no q) = box_left b l v (get_or l (4 * v) 0) refl q
      go (yes q) = box_lower b l v (get_or l (4 * v) 0) refl (get_or l (4 * v + 1) 0) q refl (λ e. h (rw (q, e)))

  -- rooms with other marks are not b
  skip_to : (d v : ℕ) → v + d ≤ last → ((u : ℕ) → v ≤ u → u < v + d → corner_at l u ≡ mark_of b.x1 b.y1 → ⊥)
      → leaf_of (rect_in b) (rooms_from last (v + d) l) ≡ leaf_of (rect_in b) (rooms_from last v l)
  skip_to zero v h f = let z : v + 0 ≡ v = omega arith in rw z
  skip_to (suc d) v h f =
      let z : v + suc d ≡ (v + 1) + d = omega arith in
      rw z (skip_to d (v + 1) (omega arith) (λ u a c. f u (omega arith) (omega arith))
      ∙ leaf_on (rect_in b) l last v false (rooms_from last v l) (omega arith)
      (box_else v (λ e. f v (omega arith) (omega arith) e)) refl refl)

  -- no room from v on has the mark of b's corner
  pub link_none : (v w : ℕ) (r : List Rect) → v ≤ last → w ≡ 0 → FirstAt l last v (mark_of b.x1 b.y1) w
      → leaf_of (rect_in b) (rooms_from last v l) ≡ leaf_of (rect_in b) r → None ≡ leaf_room (leaf_of (rect_in b) r)
  link_none v w r h z f inv =
      let e : last ≡ v + (last - v) = omega arith in
      leaf_none (rect_in b) l last last r (omega arith)
      ((rw (← e) at (skip_to (last - v) v (omega arith) (λ u a c. f.none_before u a (omega arith) (inl z)))) ∙ inv)

  -- the first that does
  pub link_some : (v w : ℕ) (r : List Rect) → (w ≡ 0 → ⊥) → FirstAt l last v (mark_of b.x1 b.y1) w
      → leaf_of (rect_in b) (rooms_from last v l) ≡ leaf_of (rect_in b) r → leaf_of (rect_in b) (rooms_from last w l) ≡ leaf_of (rect_in b) r
  link_some v w r z f inv =
      let (a, c, q) = f.there z in
      let e : w ≡ v + (w - v) = omega arith in
      (rw (← e) at (skip_to (w - v) v (omega arith) (λ u i j. f.none_before u i (omega arith) (inr (omega arith))))) ∙ inv

  -- from the first
  pub from_there : (w : ℕ) → 0 < w → FirstAt l last 4 (mark_of b.x1 b.y1) w → RoomAt l last (mark_of b.x1 b.y1) w
  from_there w h f = let (a, c, q) = f.there (λ z. omega arith) in record { lower = a; upper = c; corner = q }

  -- the rooms before it are not b
  pub from_start : (w : ℕ) → 0 < w → FirstAt l last 4 (mark_of b.x1 b.y1) w → leaf_of (rect_in b) (rooms_from last w l) ≡ leaf_of (rect_in b) (rooms_from last 4 l)
  from_start w h f = link_some 4 w (rooms_from last 4 l) (λ z. omega arith) f refl

  -- on a link: this room is not b, and the next is n
  module _ (w : ℕ) (r : List Rect) (next : List ℕ) (t : Bool) (et : t ≡ same_box (rect_in b) (rect_at l w)) (e : t ≡ false)
      (at : RoomAt l last (mark_of b.x1 b.y1) w) (g : Follows l last (mark_of b.x1 b.y1) next) (n : ℕ) (en : n ≡ get_or next w 0)
      (inv : leaf_of (rect_in b) (rooms_from last w l) ≡ leaf_of (rect_in b) r) where
    step : leaf_of (rect_in b) (rooms_from last (w + 1) l) ≡ leaf_of (rect_in b) r
    step = leaf_on (rect_in b) l last w t r at.upper et e inv

    follow : FirstAt l last (w + 1) (mark_of b.x1 b.y1) n
    follow = let s : w + 1 ≡ suc w = omega arith in rw (s, en) (g w at.lower at.upper at.corner)

    -- none
    pub follow_none : n ≤ w → None ≡ leaf_room (leaf_of (rect_in b) r)
    follow_none i = go (ℕ_discrete n 0)
      where
        go : Dec (n ≡ 0) → None ≡ leaf_room (leaf_of (rect_in b) r)
        go (yes z) = link_none (w + 1) n r (omega (arith, at.upper)) z follow step
        go (no z) = absurd (omega (arith, (follow.there z).0))

    -- one
    pub follow_on : w < n → leaf_of (rect_in b) (rooms_from last n l) ≡ leaf_of (rect_in b) r
    follow_on i = link_some (w + 1) n r (λ z. omega arith) follow step

    -- it has that mark too
    pub follow_there : w < n → RoomAt l last (mark_of b.x1 b.y1) n
    follow_there i = let (a, c, y) = follow.there (λ z. omega arith) in record { lower = omega (arith, at.lower); upper = c; corner = y }

-- by the links of a mark
module _ (b : HeldRect) (l : List ℕ) (last : ℕ) (heads next : List ℕ) (d : Linked l last 4 heads next) (x : ℕ) (ex : x ≡ mark_of b.x1 b.y1)
    (h : x < length heads) where
  -- the first room with the mark of b's corner
  pub by_first : (f z : ℕ) → f ≡ z → z ≡ get_or heads x 0 → FirstAt l last 4 (mark_of b.x1 b.y1) f
  by_first f z ef ez = rw (ef, ez, ← ex) (d.firsts x h)

  -- and each next
  pub by_follows : Follows l last (mark_of b.x1 b.y1) next
  by_follows u a c q = rw q at (d.follows u a c (omega (arith, q)))

  -- none has it
  pub by_no_room : (f z : ℕ) → f ≡ z → z ≡ get_or heads x 0 → f ≡ 0 → 4 ≤ last → None ≡ leaf_room (leaf_of (rect_in b) (rooms_from last 4 l))
  by_no_room f z ef ez q g = link_none b l last 4 f (rooms_from last 4 l) g q (by_first f z ef ez) refl
