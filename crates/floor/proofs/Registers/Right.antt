-- The register counted afresh from a plan is the register by the job's contacts. Assumes nothing.
use Prim.Native.Nat.{ℕ, zero, suc, ◌+◌, ◌-◌, ◌≤◌, ◌<◌}
use Rattle.std.specs.Prelude.{◌≡◌, ◌⊎◌, cond, ◌&&◌, ◌||◌, get_or, drop, ltb, eqb}
use Rattle.std.proofs.Math.Path.{refl, sym, ap}
use Rattle.std.proofs.Common.{◌∙◌, subst, length-drop, eqb-true, lt-ltb, eq-eqb}
use Rattle.std.proofs.Math.Logic.{inl, inr}
use Rattle.std.proofs.Math.Bool.{Bool, true, false}
use mathlib.Core.List.Memᴰ
use mathlib.Core.List.{List, [], ◌∷◌, ◌++◌, map, Memᴰ}
use native.Mathlib.Omega.{arith}
use Rattle.std.proofs.Math.Decide.{dec_lt, ℕ_discrete}
use Rattle.std.proofs.Math.ListN.{length}
use Rattle.floor.specs.Lists.{any, keep, pairwise, up_from}
use Rattle.floor.specs.Lists.Laws.{bit, count}
use Rattle.floor.proofs.Lists.Laws.{no_false, and_parts, and_both, or_cases, or_left, or_right, same_test, count_cons, any_mem, mem_all}
use Rattle.floor.proofs.Lists.Laws.{mem_any, keep_mem, mem_keep, map_mem, mem_map, up_from_mem, mem_up_from, pairwise_append}
use Rattle.floor.specs.Jobs.{Job, Room, rooms}
use Rattle.floor.specs.Jobs.Facts.{Passes}
use Rattle.floor.specs.Walls.{Rule, OnWall, here, low, high}
use Rattle.floor.specs.Plans.{Rect, Plan, nowhere, rect_of}
use Rattle.floor.specs.Floor.{Complete, GoodPlan}
use Rattle.floor.specs.Registers.{Stretch, low_side, high_side, wide_of, long_of, Partition, earlier, Lies, as_low, as_high, sides_from, WallOf, Register}
use Rattle.floor.specs.Registers.{sides_in, room_sides, built, starts, end_from, between, partition, walls_on, walls_of, register_of, register, joins}
use Rattle.floor.proofs.Registers.Runs.{View, Seen, Edge, Run, Sided, low_sided, high_sided, run_joins, InRun, run_keeps, Held}
use Rattle.floor.proofs.Registers.Lines.{covers, covers_of, of_covers, between_of, of_between, end_least, built_to, starts_of, begin_of}
use Rattle.floor.proofs.Floor.Inner.{Thin}
use Rattle.floor.proofs.Registers.Floors.{view_of, seen_upright, seen_level}

-- both sides of a rectangle go from one place to the other
pub same_span : (d : ℕ) (r : Rect) → ((high_side d r).begins ≡ (low_side d r).begins) × ((high_side d r).ends ≡ (low_side d r).ends)
unfolding low_side high_side
same_span zero r = (refl, refl)
same_span (suc d) r = (refl, refl)

-- a side among those of some rooms
pub sides_mem : (d : ℕ) (rs : List Rect) (t : Stretch) → Memᴰ t (sides_in d rs)
    → (i : ℕ) × (i < length rs) × ((t ≡ low_side d (get_or rs i nowhere)) ⊎ (t ≡ high_side d (get_or rs i nowhere)))
unfolding sides_in
sides_mem d [] t m = absurd (Memᴰ.not-nil m)
sides_mem d (r ∷ rs) t (Memᴰ.head e) = (0, omega arith, inl e)
sides_mem d (r ∷ rs) t (Memᴰ.tail (Memᴰ.head e)) = (0, omega arith, inr e)
sides_mem d (r ∷ rs) t (Memᴰ.tail (Memᴰ.tail m)) = let (i, h, e) = sides_mem d rs t m in (suc i, omega arith, e)

-- the low side of each rectangle is among the sides of all
pub mem_low : (d : ℕ) (rs : List Rect) (i : ℕ) → i < length rs → Memᴰ (low_side d (get_or rs i nowhere)) (sides_in d rs)
unfolding sides_in
mem_low d [] i h = absurd (omega arith)
mem_low d (r ∷ rs) zero h = Memᴰ.head refl
mem_low d (r ∷ rs) (suc i) h = Memᴰ.tail (Memᴰ.tail (mem_low d rs i (omega arith)))

-- the high side of each rectangle is among the sides of all
pub mem_high : (d : ℕ) (rs : List Rect) (i : ℕ) → i < length rs → Memᴰ (high_side d (get_or rs i nowhere)) (sides_in d rs)
unfolding sides_in
mem_high d [] i h = absurd (omega arith)
mem_high d (r ∷ rs) zero h = Memᴰ.tail (Memᴰ.head refl)
mem_high d (r ∷ rs) (suc i) h = Memᴰ.tail (Memᴰ.tail (mem_high d rs i (omega arith)))

-- as many sides of rooms pass as their numbers do
count_sides : (d : ℕ) (h : Stretch → Bool) (g : ℕ → Bool) (rs : List Rect) (u : ℕ)
    → ((i : ℕ) → i < length rs → (h (low_side d (get_or rs i nowhere)) ≡ g (low (u + i))) × (h (high_side d (get_or rs i nowhere)) ≡ g (high (u + i))))
    → count h (sides_in d rs) ≡ count g (sides_from u (length rs))
unfolding sides_in sides_from keep
count_sides d h g [] u e = refl
count_sides d h g (r ∷ rs) u e =
    let (a, b) = e 0 (omega arith) in
    let z : u + 0 ≡ u = omega arith in
    let a' : h (low_side d r) ≡ g (low u) = rw z at a in
    let b' : h (high_side d r) ≡ g (high u) = rw z at b in
    omega (
      arith,
      count_cons h (low_side d r) (high_side d r ∷ sides_in d rs),
      count_cons h (high_side d r) (sides_in d rs),
      count_cons g (low u) (high u ∷ sides_from (suc u) (length rs)),
      count_cons g (high u) (sides_from (suc u) (length rs)),
      ap bit a',
      ap bit b',
      count_sides d h g rs (suc u) (λ i l. let q : u + suc i ≡ suc u + i = omega arith in rw q at (e (suc i) (omega arith))),
    )

-- without its first k members, a list has at place i what it had at place k + i
drop_get_d : {A : Type 0} (k : ℕ) (xs : List A) (i : ℕ) (d : A) → get_or (drop k xs) i d ≡ get_or xs (k + i) d
drop_get_d zero xs i d = ap (λ n. get_or xs n d) (omega arith)
drop_get_d (suc k) [] i d = refl
drop_get_d (suc k) (x ∷ xs) i d = rw (let e : suc k + i ≡ suc (k + i) = omega arith in e) (drop_get_d k xs i d)

-- of two walls the one with the smaller direction comes first: upright before level
pub earlier_direction : (v w : Partition) → v.direction < w.direction → earlier v w ≡ true
unfolding earlier
earlier_direction v w h = or_left _ _ (lt-ltb v.direction w.direction h)

-- of two walls in one direction, the one with the smaller number comes first
pub earlier_number : (v w : Partition) → v.direction ≡ w.direction → v.number < w.number → earlier v w ≡ true
unfolding earlier
earlier_number v w e h =
    or_right (ltb v.direction w.direction) _
    (and_both _ _ (eq-eqb v.direction w.direction e) (or_left _ _ (lt-ltb v.number w.number h)))

-- of two walls with one direction and number, the one with the smaller beginning comes first
pub earlier_begins : (v w : Partition) → v.direction ≡ w.direction → v.number ≡ w.number → v.begins < w.begins → earlier v w ≡ true
unfolding earlier
earlier_begins v w e n h =
    or_right (ltb v.direction w.direction) _
    (and_both _ _ (eq-eqb v.direction w.direction e)
    (or_right (ltb v.number w.number) _ (and_both _ _ (eq-eqb v.number w.number n) (lt-ltb v.begins w.begins h))))

-- THE ORDER of the walls on one line, and on some lines
module _ (d : ℕ) (S : List Stretch) (long : ℕ) where
  -- the walls on one line stand in order of their beginnings
  on_order : (x u n : ℕ) → pairwise earlier (map (partition d S long x) (keep (starts S x) (up_from u n))) ≡ true
  unfolding pairwise keep up_from
  on_order x u zero = refl
  on_order x u (suc n) = go (starts S x u) (on_order x (suc u) n)
    where
      rest : List ℕ
      rest = keep (starts S x) (up_from (suc u) n)

      first : (y : Partition) → Memᴰ y (map (partition d S long x) rest) → earlier (partition d S long x u) y ≡ true
      first y m =
          let (b, i, e) = map_mem (partition d S long x) rest y m in
          let (k, t) = keep_mem (starts S x) (up_from (suc u) n) b i in
          let (l, h) = mem_up_from (suc u) n b k in
          rw e (later b l)
        where
          later : (b : ℕ) → suc u ≤ b → earlier (partition d S long x u) (partition d S long x b) ≡ true
          later b l = unfold partition in earlier_begins (partition d S long x u) (partition d S long x b) refl refl l

      go : (t : Bool) → pairwise earlier (map (partition d S long x) rest) ≡ true
          → pairwise earlier (map (partition d S long x) (cond t (u ∷ rest) rest)) ≡ true
      go false h = h
      go true h = and_both _ _ (mem_all (earlier (partition d S long x u)) (map (partition d S long x) rest) first) h

  -- who stands in the register of some lines
  pub walls_mem : (xs : List ℕ) (y : Partition) → Memᴰ y (walls_of d S long xs)
      → (x : ℕ) × (b : ℕ) × Memᴰ x xs × (starts S x b ≡ true) × (b < long) × (y ≡ partition d S long x b)
  unfolding walls_of walls_on
  walls_mem [] y m = absurd (Memᴰ.not-nil m)
  walls_mem (x ∷ xs) y m = go (Memᴰ.append_cases (map (partition d S long x) (keep (starts S x) (up_from 0 long))) m) (walls_mem xs y)
    where
      go : Memᴰ y (map (partition d S long x) (keep (starts S x) (up_from 0 long))) ⊎ Memᴰ y (walls_of d S long xs)
          → (Memᴰ y (walls_of d S long xs) → (x : ℕ) × (b : ℕ) × Memᴰ x xs × (starts S x b ≡ true) × (b < long) × (y ≡ partition d S long x b))
          → (z : ℕ) × (b : ℕ) × Memᴰ z (x ∷ xs) × (starts S z b ≡ true) × (b < long) × (y ≡ partition d S long z b)
      go (inl i) below =
          let (b, k, e) = map_mem (partition d S long x) (keep (starts S x) (up_from 0 long)) y i in
          let (q, t) = keep_mem (starts S x) (up_from 0 long) b k in
          (x, b, Memᴰ.head refl, t, omega (arith, (mem_up_from 0 long b q).1), e)
      go (inr i) below = let (z, b, k, t, l, e) = below i in (z, b, Memᴰ.tail k, t, l, e)

  -- where a wall begins on one of the lines, the wall from there stands in their register
  pub mem_walls : (xs : List ℕ) (x b : ℕ) → Memᴰ x xs → starts S x b ≡ true → b < long → Memᴰ (partition d S long x b) (walls_of d S long xs)
  unfolding walls_of walls_on
  mem_walls [] x b x5 t l = elim x5 [ ]
  mem_walls (z ∷ xs) x b (Memᴰ.head e) t l =
      rw (← e) (Memᴰ.append_left (walls_of d S long xs) (mem_map (partition d S long x) (keep (starts S x) (up_from 0 long)) b
      (mem_keep (starts S x) (up_from 0 long) b (up_from_mem 0 long b (omega arith) (omega arith)) t)))
  mem_walls (z ∷ xs) x b (Memᴰ.tail m) t l =
      Memᴰ.append_right (map (partition d S long z) (keep (starts S z) (up_from 0 long))) (mem_walls xs x b m t l)

  -- the walls on lines in a row stand in order
  pub lines_order : (u n : ℕ) → pairwise earlier (walls_of d S long (up_from u n)) ≡ true
  unfolding walls_of walls_on up_from
  lines_order u zero = unfold pairwise in refl
  lines_order u (suc n) =
      pairwise_append earlier (map (partition d S long u) (keep (starts S u) (up_from 0 long))) (walls_of d S long (up_from (suc u) n)) (on_order u 0 long)
      (lines_order (suc u) n) later
    where
      later : (v y : Partition) → Memᴰ v (map (partition d S long u) (keep (starts S u) (up_from 0 long)))
          → Memᴰ y (walls_of d S long (up_from (suc u) n)) → earlier v y ≡ true
      later v y m k =
          let (b, i, e) = map_mem (partition d S long u) (keep (starts S u) (up_from 0 long)) v m in
          let (x, c, q, t, l, g) = walls_mem (up_from (suc u) n) y k in
          rw (e, g) (unfold partition in earlier_number (partition d S long u b) (partition d S long x c) refl (omega (arith, (mem_up_from (suc u) n x q).0)))

-- ONE DIRECTION
module _ (d : ℕ) (j : Job) (p : Plan) (cm : Complete j p) (f : Seen (view_of (length j + 4) d p) (joins d j)) where
  -- the plan seen in direction d
  abbrev w : View
  w = view_of (length j + 4) d p

  -- the rules that join walls in direction d
  abbrev E : List Rule
  E = joins d j

  -- the sides of the rooms in direction d
  abbrev S : List Stretch
  S = room_sides d p

  -- the rectangles of the rooms, the frame left out
  abbrev rs : List Rect
  rs = drop 4 p.rects

  -- how long the sheet is along direction d
  abbrev long : ℕ
  long = long_of d p

  -- the plan has as many rectangles of rooms as the job has rooms
  pub rooms_count : length rs ≡ length j
  rooms_count = omega (arith, length-drop 4 p.rects, cm.count)

  -- the rectangle at place i of the rooms is that of room 4 + i
  rect_at : (i : ℕ) → get_or rs i nowhere ≡ rect_of p (4 + i)
  unfolding rect_of
  rect_at i = drop_get_d 4 p.rects i nowhere

  -- a room by its place
  place : (v : ℕ) → Room j v → (v - 4 < length rs) × (get_or rs (v - 4) nowhere ≡ rect_of p v)
  place v r =
      let e : 4 + (v - 4) ≡ v = omega (arith, r.0) in
      (omega (arith, r.0, r.1, rooms_count), rect_at (v - 4) ∙ ap (rect_of p) e)

  -- the low side of every room is among the room sides
  low_mem : (v : ℕ) → Room j v → Memᴰ (low_side d (rect_of p v)) S
  unfolding room_sides
  low_mem v r = let (h, e) = place v r in rw e at (mem_low d rs (v - 4) h)

  -- the high side of every room is among the room sides
  high_mem : (v : ℕ) → Room j v → Memᴰ (high_side d (rect_of p v)) S
  unfolding room_sides
  high_mem v r = let (h, e) = place v r in rw e at (mem_high d rs (v - 4) h)

  -- BUILT, where a room has a side
  pub built_edge : (x c : ℕ) → built S x c ≡ true → Edge w E f x c
  unfolding built room_sides
  built_edge x c e =
      let (t, m, q) = any_mem (covers x c) S e in
      let (i, h, k) = sides_mem d rs t m in
      go i (omega (arith, rooms_count)) t k (covers_of x c t q)
    where
      go : (i : ℕ) → i < length j → (t : Stretch) → (t ≡ low_side d (get_or rs i nowhere)) ⊎ (t ≡ high_side d (get_or rs i nowhere))
          → (t.line ≡ x) × (t.begins ≤ c) × (c < t.ends) → Edge w E f x c
      go i h t (inl e) (a, b, k) =
          let q : t ≡ low_side d (rect_of p (4 + i)) = e ∙ ap (low_side d) (rect_at i) in
          record {
            one = 4 + i;
            is_a_room = omega arith;
            known = omega arith;
            at = inl (ap (λ (t : Stretch). t.line) (sym q) ∙ a);
            unit = record { lower = omega (arith, ap (λ (t : Stretch). t.begins) q); upper = omega (arith, ap (λ (t : Stretch). t.ends) q) };
          }
      go i h t (inr e) (a, b, k) =
          let q : t ≡ high_side d (rect_of p (4 + i)) = e ∙ ap (high_side d) (rect_at i) in
          let (y, z) = same_span d (rect_of p (4 + i)) in
          record {
            one = 4 + i;
            is_a_room = omega arith;
            known = omega arith;
            at = inr (ap (λ (t : Stretch). t.line) (sym q) ∙ a);
            unit = record { lower = omega (arith, ap (λ (t : Stretch). t.begins) q); upper = omega (arith, ap (λ (t : Stretch). t.ends) q) };
          }

  -- the side that an edge lies on
  edge_side : (x c : ℕ) → Edge w E f x c → (s : ℕ) × (q : Stretch) × Lies d j p s q × (q.line ≡ x) × (q.begins ≤ c) × (c < q.ends)
  edge_side x c e = go e.at
    where
      r : Room j e.one
      r = (e.is_a_room, e.known)

      go : (w.lo e.one ≡ x) ⊎ (w.hi e.one ≡ x) → (s : ℕ) × (q : Stretch) × Lies d j p s q × (q.line ≡ x) × (q.begins ≤ c) × (c < q.ends)
      go (inl a) = (low e.one, low_side d (rect_of p e.one), as_low e.one r refl refl, a, e.unit.lower, e.unit.upper)
      go (inr a) =
          let (y, z) = same_span d (rect_of p e.one) in (
            high e.one,
            high_side d (rect_of p e.one),
            as_high e.one r refl refl,
            a,
            omega (arith, e.unit.lower),
            omega (arith, e.unit.upper),
          )

  -- the stretch on which a side of a room lies is among the room sides
  pub lies_mem : (s : ℕ) (q : Stretch) → Lies d j p s q → Memᴰ q S
  lies_mem s q (as_low v r e t) = rw t (low_mem v r)
  lies_mem s q (as_high v r e t) = rw t (high_mem v r)

  -- each of the room sides is the stretch on which some side of a room lies
  pub side_lies : (t : Stretch) → Memᴰ t S → (s : ℕ) × Lies d j p s t
  unfolding room_sides
  side_lies t m = let (i, h, e) = sides_mem d rs t m in go i (omega arith, omega (arith, rooms_count)) e
    where
      go : (i : ℕ) → Room j (4 + i) → (t ≡ low_side d (get_or rs i nowhere)) ⊎ (t ≡ high_side d (get_or rs i nowhere)) → (s : ℕ) × Lies d j p s t
      go i r (inl e) = (low (4 + i), as_low (4 + i) r refl (e ∙ ap (low_side d) (rect_at i)))
      go i r (inr e) = (high (4 + i), as_high (4 + i) r refl (e ∙ ap (high_side d) (rect_at i)))

  -- where a room has a side along a unit, that unit is built
  pub edge_built : (x c : ℕ) → Edge w E f x c → built S x c ≡ true
  unfolding built
  edge_built x c e = let (s, q, l, a, b, k) = edge_side x c e in mem_any (covers x c) S q (lies_mem s q l) (of_covers x c q a b k)

  -- what is known of a room side
  pub lies_inside : (s : ℕ) (q : Stretch) → Lies d j p s q → (1 ≤ q.line) × (q.line < w.wide) × (1 ≤ q.begins) × (q.begins < q.ends) × (q.ends < long)
  lies_inside s q (as_low v r e t) =
      let (a, b) = f.room_across v r.0 r.1 in
      let (k, l) = f.room_along v r.0 r.1 in
      rw t (a, omega (arith, (f.across v r.1).0), k, (f.lengthwise v r.1).0, l)
  lies_inside s q (as_high v r e t) =
      let (a, b) = f.room_across v r.0 r.1 in
      let (k, l) = f.room_along v r.0 r.1 in
      let (y, z) = same_span d (rect_of p v) in
      rw t (omega (arith, (f.across v r.1).0), b, omega arith, omega (arith, (f.lengthwise v r.1).0), omega arith)

  -- along each unit of a room side's stretch, a room has a side on its line
  lies_edge : (s : ℕ) (q : Stretch) → Lies d j p s q → (c : ℕ) → q.begins ≤ c → c < q.ends → Edge w E f q.line c
  lies_edge s q (as_low v r e t) c l h =
      record {
        one = v;
        is_a_room = r.0;
        known = r.1;
        at = inl (ap (λ (t : Stretch). t.line) (sym t));
        unit = record { lower = omega (arith, ap (λ (t : Stretch). t.begins) t); upper = omega (arith, ap (λ (t : Stretch). t.ends) t) };
      }
  lies_edge s q (as_high v r e t) c l h =
      let (y, z) = same_span d (rect_of p v) in
      record {
        one = v;
        is_a_room = r.0;
        known = r.1;
        at = inr (ap (λ (t : Stretch). t.line) (sym t));
        unit = record { lower = omega (arith, ap (λ (t : Stretch). t.begins) t); upper = omega (arith, ap (λ (t : Stretch). t.ends) t) };
      }

  -- a room side lies on its line along each unit of its stretch
  lies_sided : (s : ℕ) (q : Stretch) → Lies d j p s q → (c : ℕ) → q.begins ≤ c → c < q.ends → Sided w E f q.line c s
  lies_sided s q (as_low v r e t) c l h =
      low_sided v r.1 e (ap (λ (t : Stretch). t.line) (sym t))
      (record { lower = omega (arith, ap (λ (t : Stretch). t.begins) t); upper = omega (arith, ap (λ (t : Stretch). t.ends) t) })
  lies_sided s q (as_high v r e t) c l h =
      let (y, z) = same_span d (rect_of p v) in
      high_sided v r.1 e (ap (λ (t : Stretch). t.line) (sym t))
      (record { lower = omega (arith, ap (λ (t : Stretch). t.begins) t); upper = omega (arith, ap (λ (t : Stretch). t.ends) t) })

  -- where a wall that goes on from c ends, the unit from there on is not built, or all m units were followed
  end_open : (x m c : ℕ) → (built S x (end_from S x m c) ≡ false) ⊎ (end_from S x m c ≡ c + m)
  unfolding end_from
  end_open x zero c = inr (omega arith)
  end_open x (suc m) c = go (built S x c) refl (end_open x m (suc c))
    where
      go : (b : Bool) → built S x c ≡ b → (built S x (end_from S x m (suc c)) ≡ false) ⊎ (end_from S x m (suc c) ≡ suc c + m)
          → (built S x (cond b (end_from S x m (suc c)) c) ≡ false) ⊎ (cond b (end_from S x m (suc c)) c ≡ c + suc m)
      go false e h = inl e
      go true e (inl h) = inl h
      go true e (inr h) = inr (omega arith)

  -- a unit along which a room has a side lies on the sheet
  inside_long : (x c : ℕ) → Edge w E f x c → c < long
  inside_long x c e = omega (arith, e.unit.upper, (f.lengthwise e.one e.known).1)

  -- A WALL OF THE REGISTER IS A RUN
  pub run_at : (x b : ℕ) → starts S x b ≡ true → Run w E f x b (end_from S x long b)
  run_at x b e = record {
    some = some (end_open x long b);
    edges = λ c l h. built_edge x c (built_to S x long b c l h);
    before = λ c q n. (starts_of S x b e).1 c q (edge_built x c n);
    after = λ n. after n (end_open x long b);
  }
    where
      here_long : b < long
      here_long = inside_long x b (built_edge x b (starts_of S x b e).0)

      some : (built S x (end_from S x long b) ≡ false) ⊎ (end_from S x long b ≡ b + long) → b < end_from S x long b
      some (inr h) = omega (arith, here_long)
      some (inl h) = go (ℕ_discrete b (end_from S x long b))
        where
          go : Dec (b ≡ end_from S x long b) → b < end_from S x long b
          go (yes q) = no_false (sym (rw (← q) at h) ∙ (starts_of S x b e).0)
          go (no q) = omega (arith, end_least S x long b)

      after : Edge w E f x (end_from S x long b) → (built S x (end_from S x long b) ≡ false) ⊎ (end_from S x long b ≡ b + long) → ⊥
      after n (inl h) = no_false (sym h ∙ edge_built x (end_from S x long b) n)
      after n (inr h) = omega (arith, inside_long x (end_from S x long b) n)

  -- a side that has a unit in a run lies in it
  side_in : {x b e : ℕ} → Run w E f x b e → (c s t : ℕ) (q r : Stretch) → Lies d j p s q → q.line ≡ x → b ≤ c → c < e → q.begins ≤ c → c < q.ends
      → Lies d j p t r → OnWall E s t → (r.line ≡ x) × (b ≤ r.begins) × (r.ends ≤ e)
  side_in {x} {b} {e} run c s t q r l k lo hi below above m o =
      let (a1, a2, a3, a4, a5) = lies_inside s q l in
      go m (run_keeps w E f run c s t lo hi (omega arith) (omega arith) (rw k at (lies_sided s q l c below above)) o)
    where
      ends : (v : ℕ) → Room j v → Held w E f b e v → (b ≤ w.start v) × (w.stop v ≤ e)
      ends v r h =
          let (a, z) = f.room_along v r.0 r.1 in
          let y : w.start v < w.stop v = (f.lengthwise v r.1).0 in
          let lo : b ≤ w.start v = h.lower (w.start v) (record { lower = omega arith; upper = y }) a (omega arith) in
          let hi : w.stop v - 1 < e = h.upper (w.stop v - 1) (record { lower = omega arith; upper = omega arith }) (omega arith) (omega arith) in
          (lo, omega arith)

      go : Lies d j p t r → InRun w E f x b e t → (r.line ≡ x) × (b ≤ r.begins) × (r.ends ≤ e)
      go (as_low v r i z) n = let (y, h) = n.if_low v r.1 i in rw z (y, (ends v r h).0, (ends v r h).1)
      go (as_high v r i z) n =
          let (y, h) = n.if_high v r.1 i in
          let (lo, hi) = ends v r h in
          let (g, k) = same_span d (rect_of p v) in
          rw z (y, omega arith, omega arith)

  -- the same test, asked by a side's number
  is_on : ℕ → ℕ → ℕ → ℕ → Bool
  is_on x b e t =
      any (λ v. (eqb t (low v) && between x b e (low_side d (rect_of p v))) || (eqb t (high v) && between x b e (high_side d (rect_of p v)))) (rooms j)

  -- of a room side, the test by its number and the test by its stretch agree
  on_lies : (x b e t : ℕ) (q : Stretch) → Lies d j p t q → is_on x b e t ≡ between x b e q
  unfolding is_on rooms
  on_lies x b e t q l = same_test (is_on x b e t) (between x b e q) (forth l) (back l)
    where
      side : ℕ → Bool
      side v = (eqb t (low v) && between x b e (low_side d (rect_of p v))) || (eqb t (high v) && between x b e (high_side d (rect_of p v)))

      which : (v : ℕ) → side v ≡ true
          → ((t ≡ low v) × (between x b e (low_side d (rect_of p v)) ≡ true)) ⊎ ((t ≡ high v) × (between x b e (high_side d (rect_of p v)) ≡ true))
      which v h = go (or_cases (eqb t (low v) && between x b e (low_side d (rect_of p v))) (eqb t (high v) && between x b e (high_side d (rect_of p v))) h)
        where
          go : ((eqb t (low v) && between x b e (low_side d (rect_of p v))) ≡ true) ⊎ ((eqb t (high v) && between x b e (high_side d (rect_of p v))) ≡ true)
              → ((t ≡ low v) × (between x b e (low_side d (rect_of p v)) ≡ true)) ⊎ ((t ≡ high v) × (between x b e (high_side d (rect_of p v)) ≡ true))
          go (inl y) = let (a, z) = and_parts (eqb t (low v)) (between x b e (low_side d (rect_of p v))) y in inl (eqb-true t (low v) a, z)
          go (inr y) = let (a, z) = and_parts (eqb t (high v)) (between x b e (high_side d (rect_of p v))) y in inr (eqb-true t (high v) a, z)

      forth : Lies d j p t q → is_on x b e t ≡ true → between x b e q ≡ true
      forth (as_low v r i z) h = let (u, m, y) = any_mem side (up_from 4 (length j)) h in go u (which u y)
        where
          go : (u : ℕ) → ((t ≡ low u) × (between x b e (low_side d (rect_of p u)) ≡ true)) ⊎ ((t ≡ high u) × (between x b e (high_side d (rect_of p u)) ≡ true))
              → between x b e q ≡ true
          go u (inl (a, y)) = let k : u ≡ v = omega arith in rw (z, ← k) y
          go u (inr (a, y)) = absurd (omega arith)
      forth (as_high v r i z) h = let (u, m, y) = any_mem side (up_from 4 (length j)) h in go u (which u y)
        where
          go : (u : ℕ) → ((t ≡ low u) × (between x b e (low_side d (rect_of p u)) ≡ true)) ⊎ ((t ≡ high u) × (between x b e (high_side d (rect_of p u)) ≡ true))
              → between x b e q ≡ true
          go u (inl (a, y)) = absurd (omega arith)
          go u (inr (a, y)) = let k : u ≡ v = omega arith in rw (z, ← k) y

      found : (v : ℕ) → Room j v → side v ≡ true → is_on x b e t ≡ true
      found v r h = mem_any side (up_from 4 (length j)) v (up_from_mem 4 (length j) v r.0 (omega (arith, r.1))) h

      back : Lies d j p t q → between x b e q ≡ true → is_on x b e t ≡ true
      back (as_low v r i z) h = found v r (or_left _ _ (and_both _ _ (eq-eqb t (low v) i) (rw z at h)))
      back (as_high v r i z) h =
          found v r (or_right (eqb t (low v) && between x b e (low_side d (rect_of p v))) _ (and_both _ _ (eq-eqb t (high v) i) (rw z at h)))

  -- as many room sides lie on line x between b and e asked by their stretches as asked by their numbers
  counted : (x b e : ℕ) → length (keep (between x b e) S) ≡ length (keep (is_on x b e) (sides_from 4 (length j)))
  unfolding room_sides
  counted x b e = rw (← rooms_count) (count_sides d (between x b e) (is_on x b e) rs 4 each)
    where
      each : (i : ℕ) → i < length rs
          → (between x b e (low_side d (get_or rs i nowhere)) ≡ is_on x b e (low (4 + i)))
          × (between x b e (high_side d (get_or rs i nowhere)) ≡ is_on x b e (high (4 + i)))
      each i k =
          let r : Room j (4 + i) = (omega arith, omega (arith, rooms_count)) in
          rw (rect_at i) (
            sym (on_lies x b e (low (4 + i)) (low_side d (rect_of p (4 + i))) (as_low (4 + i) r refl refl)),
            sym (on_lies x b e (high (4 + i)) (high_side d (rect_of p (4 + i))) (as_high (4 + i) r refl refl)),
          )

  -- THE WALL OF A SIDE
  pub wall_of : (x b : ℕ) → starts S x b ≡ true → (s : ℕ) (q : Stretch) → Lies d j p s q → between x b (end_from S x long b) q ≡ true
      → WallOf d j p s (partition d S long x b)
  unfolding partition
  wall_of x b h s q l n = record {
    is_direction = refl;
    within = λ t r m o. within t r m o;
    first =
        let (t, r, m, a, lo, hi) = edge_side x b (run.edges b (omega arith) run.some) in
        let o : OnWall E s t = joined t r m a b (omega arith) run.some lo hi in
        let (y, z, g) = within t r m o in
        (t, r, m, o, omega arith);
    last =
        let (t, r, m, a, lo, hi) = edge_side x (e - 1) (run.edges (e - 1) (omega (arith, run.some)) (omega (arith, run.some))) in
        let o : OnWall E s t = joined t r m a (e - 1) (omega (arith, run.some)) (omega (arith, run.some)) lo hi in
        let (y, z, g) = within t r m o in
        (t, r, m, o, omega arith);
    whole = λ c u v.
        let (t, r, m, a, lo, hi) = edge_side x c (run.edges c u v) in
        (t, r, m, joined t r m a c u v lo hi, lo, hi);
    on = is_on x b e;
    on_exactly = λ t r m. (
      λ y.
          let (a, u, v) = between_of x b e r (sym (on_lies x b e t r m) ∙ y) in
          let (a1, a2, a3, a4, a5) = lies_inside t r m in
          joined t r m a r.begins u (omega arith) (omega arith) a4,
      λ o. let (a, u, v) = within t r m o in on_lies x b e t r m ∙ of_between x b e r a u v,
    );
    counted = counted x b (end_from S x long b);
  }
    where
      e : ℕ
      e = end_from S x long b

      run : Run w E f x b e
      run = run_at x b h

      at : (q.line ≡ x) × (b ≤ q.begins) × (q.ends ≤ e)
      at = between_of x b e q n

      inside : (1 ≤ q.line) × (q.line < w.wide) × (1 ≤ q.begins) × (q.begins < q.ends) × (q.ends < long)
      inside = lies_inside s q l

      within : (t : ℕ) (r : Stretch) → Lies d j p t r → OnWall E s t → (r.line ≡ x) × (b ≤ r.begins) × (r.ends ≤ e)
      within t r m o =
          let (a1, a2, a3, a4, a5) = inside in
          let (b1, b2, b3) = at in
          side_in run q.begins s t q r l b1 b2 (omega arith) (omega arith) a4 m o

      joined : (t : ℕ) (r : Stretch) → Lies d j p t r → r.line ≡ x → (c : ℕ) → b ≤ c → c < e → r.begins ≤ c → c < r.ends → OnWall E s t
      joined t r m a c u v lo hi =
          let (a1, a2, a3, a4, a5) = inside in
          let (b1, b2, b3) = at in
          run_joins w E f run q.begins c s t b2 (omega arith) u v (rw b1 at (lies_sided s q l q.begins (omega arith) a4))
          (rw a at (lies_sided t r m c lo hi))

  -- EACH ENTRY IS A WALL
  pub each_of : (y : Partition) → Memᴰ y (register_of d p) → (y.direction ≡ d) × ((s : ℕ) × (q : Stretch) × Lies d j p s q × WallOf d j p s y)
  unfolding register_of
  each_of y m = let (x, b, i, t, l, e) = walls_mem d S long (up_from 0 (wide_of d p)) y m in rw e (unfold partition in refl, of x b t)
    where
      of : (x b : ℕ) → starts S x b ≡ true → (s : ℕ) × (q : Stretch) × Lies d j p s q × WallOf d j p s (partition d S long x b)
      of x b t =
          let run : Run w E f x b (end_from S x long b) = run_at x b t in
          let (s, q, l, a, lo, hi) = edge_side x b (run.edges b (omega arith) run.some) in
          let (y, z, g) = side_in run b s s q q l a (omega arith) run.some lo hi l here in
          (s, q, l, wall_of x b t s q l (of_between x b (end_from S x long b) q a z g))

  -- EVERY WALL IS ENTERED
  pub every_of : (s : ℕ) (q : Stretch) → Lies d j p s q → (y : Partition) × Memᴰ y (register_of d p) × WallOf d j p s y
  unfolding register_of
  every_of s q l =
      let (a1, a2, a3, a4, a5) = lies_inside s q l in
      let (b, h, t, all) = begin_of S q.line q.begins (edge_built q.line q.begins (lies_edge s q l q.begins (omega arith) a4)) in
      let run : Run w E f q.line b (end_from S q.line long b) = run_at q.line b t in
      let (y, z, g) = side_in run q.begins s s q q l refl h (reaches b h t all (dec_lt q.begins (end_from S q.line long b))) (omega arith) a4 l here in (
        partition d S long q.line b,
        mem_walls d S long (up_from 0 (wide_of d p)) q.line b (up_from_mem 0 (wide_of d p) q.line (omega arith) (omega arith)) t (omega arith),
        wall_of q.line b t s q l (of_between q.line b (end_from S q.line long b) q refl z g),
      )
    where
      reaches : (b : ℕ) → b ≤ q.begins → starts S q.line b ≡ true → ((k : ℕ) → b ≤ k → k ≤ q.begins → built S q.line k ≡ true)
          → Dec (q.begins < end_from S q.line long b) → q.begins < end_from S q.line long b
      reaches b h t all (yes k) = k
      reaches b h t all (no k) =
          absurd ((run_at q.line b t).after (built_edge q.line (end_from S q.line long b)
          (all (end_from S q.line long b) (end_least S q.line long b) (omega arith))))

-- THE REGISTER COUNTED AFRESH IS THE REGISTER BY THE CONTACTS, of every plan that is held
module _ (j : Job) (ok : Passes j) (some_room : 0 < length j) (p : Plan) (gp : GoodPlan j p) (thin : Thin p) where
  -- the plan has a rectangle for each vertex, in vertex order
  pub complete : Complete j p
  complete = gp.floor.complete

  -- the plan is seen upright, with the rules that join upright walls
  pub upright_seen : Seen (view_of (length j + 4) 0 p) (joins 0 j)
  upright_seen = seen_upright j ok some_room p gp thin

  -- the plan is seen level, with the rules that join level walls
  pub level_seen : Seen (view_of (length j + 4) 1 p) (joins 1 j)
  level_seen = seen_level j ok some_room p gp thin

  -- what is known of an entry for direction d is known for the direction it names
  entry_of : (y : Partition) (d : ℕ) → d < 2 → (y.direction ≡ d) × ((s : ℕ) × (q : Stretch) × Lies d j p s q × WallOf d j p s y)
      → (y.direction < 2) × ((s : ℕ) × (q : Stretch) × Lies y.direction j p s q × WallOf y.direction j p s y)
  entry_of y d h (e, x) = subst (λ (n : ℕ). (n < 2) × ((s : ℕ) × (q : Stretch) × Lies n j p s q × WallOf n j p s y)) (sym e) (h, x)

  -- the register counted afresh has each wall of the job's contacts once, in order
  pub register_right : Register j p (register p)
  unfolding register
  register_right = record {
    each = λ y m. each y (Memᴰ.append_cases (register_of 0 p) m);
    every = every;
    order = pairwise_append earlier (register_of 0 p) (register_of 1 p) (order 0) (order 1)
        (λ v y m n. earlier_direction v y
        (omega (arith, (each_of 0 j p complete upright_seen v m).0, (each_of 1 j p complete level_seen y n).0)));
  }
    where
      each : (y : Partition) → Memᴰ y (register_of 0 p) ⊎ Memᴰ y (register_of 1 p)
          → (y.direction < 2) × ((s : ℕ) × (q : Stretch) × Lies y.direction j p s q × WallOf y.direction j p s y)
      each y (inl m) = entry_of y 0 (omega arith) (each_of 0 j p complete upright_seen y m)
      each y (inr m) = entry_of y 1 (omega arith) (each_of 1 j p complete level_seen y m)

      every : (d : ℕ) → d < 2 → (s : ℕ) (q : Stretch) → Lies d j p s q → (y : Partition) × Memᴰ y (register_of 0 p ++ register_of 1 p) × WallOf d j p s y
      every zero h s q l = let (y, m, k) = every_of 0 j p complete upright_seen s q l in (y, Memᴰ.append_left (register_of 1 p) m, k)
      every (suc zero) h s q l = let (y, m, k) = every_of 1 j p complete level_seen s q l in (y, Memᴰ.append_right (register_of 0 p) m, k)
      every (suc (suc d)) h s q l = absurd (omega arith)

      order : (d : ℕ) → pairwise earlier (register_of d p) ≡ true
      order d = unfold register_of in lines_order d (room_sides d p) (long_of d p) 0 (wide_of d p)
