-- In a plan whose rooms fill the rectangle inside the frame, no four of them at a point, the straight cuts of a part are the walls of the register that run
-- from side to side of it and no farther, since walls never cross: the tree by walls is the plan's tree. Assumes nothing.
use Prim.Native.Nat.{ℕ, zero, suc, ◌-◌, ◌≤◌, ◌<◌}
use Rattle.std.specs.Prelude.{◌≡◌, ◌⊎◌, Bool, get_or, eqb}
use Rattle.std.proofs.Math.Path.{refl, sym, ap}
use Rattle.std.proofs.Common.{◌∙◌}
use Rattle.std.proofs.Math.Logic.{inl, inr}
use Rattle.std.proofs.Math.Bool.{true, false, cond}
use Rattle.std.proofs.Math.Option.{Option, none, some}
use mathlib.Core.List.Memᴰ
use mathlib.Core.List.{List, [], ◌∷◌, Memᴰ}
use Rattle.std.proofs.Math.ListN.{length}
use native.Mathlib.Omega.{arith}
use Rattle.std.proofs.Math.Decide.{dec_le, dec_lt}
use borrow.Author.Tests.{eqb-true, eq-eqb}
use Rattle.floor.specs.Lists.{keep, pairwise, up_from}
use Rattle.floor.specs.Lists.Laws.{bit, count}
use Rattle.floor.proofs.Lists.Laws.{no_false, and_parts, and_both, count_cons, count_some, mem_keep, mem_get_or, get_or_mem, up_from_mem}
use Rattle.floor.proofs.Lists.Laws.{pairwise_append}
use Rattle.floor.specs.Plans.{Rect, Plan, nowhere}
use Rattle.floor.specs.Floor.{Cell}
use Rattle.floor.specs.Registers.{Stretch, low_side, high_side, wide_of, long_of, Partition, earlier, room_sides, built, starts, end_from, partition}
use Rattle.floor.specs.Registers.{register_of, register}
use Rattle.floor.proofs.Registers.Lines.{end_is, built_to, built_some, some_built, not_built, begin_of}
use Rattle.floor.proofs.Registers.Right.{sides_mem, mem_low, mem_high, walls_mem, mem_walls, lines_order, earlier_direction}
use Rattle.floor.specs.Cuts.{Direction, upright, level, begin, end, holds, Within, Fills, Beside, Cut, low_box, high_box, low_part, high_part, leaf}
use Rattle.floor.specs.Cuts.{first_cut, Choice, no_cut, takes, chosen, divided, span, tree_of, way_byte, rooms_of, inner, plan_tree}
use Rattle.floor.proofs.Cuts.Filled.{holds_cell, cell_holds, within_long, low_mem, high_mem, fills_low, fills_high, fills_some}
use Rattle.floor.proofs.Cuts.Grown.{first_is_cut, no_first, first_cut_least, chosen_cut, low_span, high_span, tree_leaf, tree_cut}
use Rattle.floor.specs.Cuts.ByWalls.{other, wall_cut, wall_choice, same_box, leaf_of, tree_by}
use Rattle.floor.proofs.Cuts.ByWalls.{Spans, cut_wall, no_wall, cut_least, both_same, by_leaf, by_none, by_cut}

-- a list of one member has no other
alone : {A : Type 0} (l : List A) (x y : A) → length l ≡ 1 → Memᴰ x l → Memᴰ y l → x ≡ y
alone [] x y h m n = absurd (Memᴰ.not-nil m)
alone (z ∷ []) x y h (Memᴰ.head e) (Memᴰ.head f) = e ∙ sym f
alone (z ∷ []) x y h (Memᴰ.tail m) n = absurd (Memᴰ.not-nil m)
alone (z ∷ []) x y h (Memᴰ.head e) (Memᴰ.tail n) = absurd (Memᴰ.not-nil n)
alone (z ∷ u ∷ l) x y h m n = absurd (omega arith)

-- the place of the cell at c across a direction and k along it
abbrev at_x : Direction → ℕ → ℕ → ℕ
at_x upright c k = c
at_x level c k = k

-- its other place
abbrev at_y : Direction → ℕ → ℕ → ℕ
at_y upright c k = k
at_y level c k = c

-- r covers that cell
record Covers (a : Direction) (r : Rect) (c k : ℕ) : Type 0 where
  after : begin a r ≤ c
  before : c < end a r
  begins : begin (other a) r ≤ k
  ends : k < end (other a) r

-- said as a cell of the sheet
covers_cell : (a : Direction) (r : Rect) (c k : ℕ) → Covers a r c k → Cell r (at_x a c k) (at_y a c k)
covers_cell upright r c k h = record { left = h.after; right = h.before; lower = h.begins; upper = h.ends }
covers_cell level r c k h = record { left = h.begins; right = h.ends; lower = h.after; upper = h.before }

-- and back
cell_covers : (a : Direction) (r : Rect) (c k : ℕ) → Cell r (at_x a c k) (at_y a c k) → Covers a r c k
cell_covers upright r c k h = record { after = h.left; before = h.right; begins = h.lower; ends = h.upper }
cell_covers level r c k h = record { after = h.lower; before = h.upper; begins = h.left; ends = h.right }

-- the room of a cell
room_there : (a : Direction) (b : Rect) (rs : List Rect) (c k : ℕ) → Fills b rs → Covers a b c k → (r : Rect) × Memᴰ r rs × Covers a r c k
room_there a b rs c k f h =
    let (r, m, e) = count_some (holds (at_x a c k) (at_y a c k)) rs (omega (arith, f.once (at_x a c k) (at_y a c k) (covers_cell a b c k h))) in
    (r, m, cell_covers a r c k (holds_cell (at_x a c k) (at_y a c k) r e))

-- two rooms that cover a cell of the rectangle are one
one_there : (a : Direction) (b : Rect) (rs : List Rect) (c k : ℕ) (q r : Rect) → Fills b rs → Covers a b c k → Memᴰ q rs → Memᴰ r rs
    → Covers a q c k → Covers a r c k → q ≡ r
one_there a b rs c k q r f h m n x y =
    alone (keep (holds (at_x a c k) (at_y a c k)) rs) q r (f.once (at_x a c k) (at_y a c k) (covers_cell a b c k h))
    (mem_keep (holds (at_x a c k) (at_y a c k)) rs q m (cell_holds (at_x a c k) (at_y a c k) q (covers_cell a q c k x)))
    (mem_keep (holds (at_x a c k) (at_y a c k)) rs r n (cell_holds (at_x a c k) (at_y a c k) r (covers_cell a r c k y)))

-- what a room covers, its rectangle covers
covers_within : (a : Direction) (b r : Rect) (c k : ℕ) → Within b r → Covers a r c k → Covers a b c k
covers_within a b r c k w h =
    let (l, m, n) = within_long a b r w in
    let (u, v, x) = within_long (other a) b r w in
    record {
      after = omega (arith, h.after);
      before = omega (arith, h.before);
      begins = omega (arith, h.begins);
      ends = omega (arith, h.ends);
    }

-- the low side of a room, by direction
low_is : (a : Direction) (r : Rect) → ((low_side (way_byte a) r).line ≡ begin a r) × ((low_side (way_byte a) r).begins ≡ begin (other a) r)
    × ((low_side (way_byte a) r).ends ≡ end (other a) r)
unfolding low_side way_byte
low_is upright r = (refl, refl, refl)
low_is level r = (refl, refl, refl)

-- the high side
high_is : (a : Direction) (r : Rect) → ((high_side (way_byte a) r).line ≡ end a r) × ((high_side (way_byte a) r).begins ≡ begin (other a) r)
    × ((high_side (way_byte a) r).ends ≡ end (other a) r)
unfolding high_side way_byte
high_is upright r = (refl, refl, refl)
high_is level r = (refl, refl, refl)

-- a rectangle with a room in each of its cells is some cells long
fills_long : (a : Direction) (b : Rect) (rs : List Rect) → Fills b rs → begin a b < end a b
fills_long upright b rs f = f.wide
fills_long level b rs f = f.tall

-- no four rooms of a plan have a corner at one point
abbrev pub CornersApart : Plan → Type 0
CornersApart p = (x y : ℕ) (q r s t : Rect) → Memᴰ q (rooms_of p) → Memᴰ r (rooms_of p) → Memᴰ s (rooms_of p) → Memᴰ t (rooms_of p)
    → (q.x2 ≡ x) × (q.y2 ≡ y) → (r.x1 ≡ x) × (r.y2 ≡ y) → (s.x2 ≡ x) × (s.y1 ≡ y) → (t.x1 ≡ x) × (t.y1 ≡ y) → ⊥

module _ (p : Plan) (f : Fills (inner p) (rooms_of p)) (apart : CornersApart p) where
  -- the room sides of a direction
  abbrev S : Direction → List Stretch
  S a = room_sides (way_byte a) p

  -- a part: rooms of the plan that fill their rectangle
  record Part (b : Rect) (rs : List Rect) : Type 0 where
    fills : Fills b rs
    ours : (r : Rect) → Memᴰ r rs → Memᴰ r (rooms_of p)

  -- rooms end inside the sheet
  room_ends : (a : Direction) (r : Rect) → Memᴰ r (rooms_of p) → (end a r < wide_of (way_byte a) p) × (end (other a) r < long_of (way_byte a) p)
  unfolding inner wide_of long_of way_byte
  room_ends upright r m =
      let w : Within (inner p) r = f.within r m in (omega (arith, w.right, w.wide), omega (arith, w.upper, w.tall))
  room_ends level r m =
      let w : Within (inner p) r = f.within r m in (omega (arith, w.upper, w.tall), omega (arith, w.right, w.wide))

  -- a room's lower side, built
  low_built : (a : Direction) (r : Rect) (k : ℕ) → Memᴰ r (rooms_of p) → begin (other a) r ≤ k → k < end (other a) r → built (S a) (begin a r) k ≡ true
  unfolding room_sides rooms_of
  low_built a r k m l h =
      let (i, n, q) = get_or_mem (rooms_of p) r nowhere m in
      let (x, y, z) = low_is a r in
      some_built (S a) (begin a r) k (low_side (way_byte a) r) (rw q at (mem_low (way_byte a) (rooms_of p) i n)) x (omega arith) (omega arith)

  -- a room's upper side, built
  high_built : (a : Direction) (r : Rect) (k : ℕ) → Memᴰ r (rooms_of p) → begin (other a) r ≤ k → k < end (other a) r → built (S a) (end a r) k ≡ true
  unfolding room_sides rooms_of
  high_built a r k m l h =
      let (i, n, q) = get_or_mem (rooms_of p) r nowhere m in
      let (x, y, z) = high_is a r in
      some_built (S a) (end a r) k (high_side (way_byte a) r) (rw q at (mem_high (way_byte a) (rooms_of p) i n)) x (omega arith) (omega arith)

  -- what is built is a room's side
  built_room : (a : Direction) (c k : ℕ) → built (S a) c k ≡ true
      → (r : Rect) × Memᴰ r (rooms_of p) × ((begin a r ≡ c) ⊎ (end a r ≡ c)) × (begin (other a) r ≤ k) × (k < end (other a) r)
  unfolding room_sides rooms_of
  built_room a c k e =
      let (t, m, l, n, h) = built_some (S a) c k e in
      let (i, g, w) = sides_mem (way_byte a) (rooms_of p) t m in
      go (get_or (rooms_of p) i nowhere) (mem_get_or (rooms_of p) i nowhere g) t w l n h
    where
      go : (r : Rect) → Memᴰ r (rooms_of p) → (t : Stretch) → (t ≡ low_side (way_byte a) r) ⊎ (t ≡ high_side (way_byte a) r) → t.line ≡ c → t.begins ≤ k
          → k < t.ends → (r : Rect) × Memᴰ r (rooms_of p) × ((begin a r ≡ c) ⊎ (end a r ≡ c)) × (begin (other a) r ≤ k) × (k < end (other a) r)
      go r m t (inl q) l n h =
          let (x, y, z) = low_is a r in (
            r,
            m,
            inl (sym x ∙ ap (λ (t : Stretch). t.line) (sym q) ∙ l),
            omega (arith, ap (λ (t : Stretch). t.begins) q),
            omega (arith, ap (λ (t : Stretch). t.ends) q),
          )
      go r m t (inr q) l n h =
          let (x, y, z) = high_is a r in (
            r,
            m,
            inr (sym x ∙ ap (λ (t : Stretch). t.line) (sym q) ∙ l),
            omega (arith, ap (λ (t : Stretch). t.begins) q),
            omega (arith, ap (λ (t : Stretch). t.ends) q),
          )

  -- built from side to side
  abbrev Across : Direction → ℕ → Rect → Type 0
  Across a c b = (k : ℕ) → begin (other a) b ≤ k → k < end (other a) b → built (S a) c k ≡ true

  -- ALONG A STRAIGHT CUT EVERY UNIT IS BUILT: the room behind the line begins there
  cut_built : (a : Direction) (c : ℕ) (b : Rect) (rs : List Rect) → Part b rs → Cut a c b rs → Across a c b
  cut_built a c b rs t d k l h =
      let (r, m, x) = room_there a b rs c k t.fills (record { after = omega (arith, d.after); before = d.before; begins = l; ends = h }) in
      let e : begin a r ≡ c = at r x (d.clear r m) in
      rw e at (low_built a r k (t.ours r m) x.begins x.ends)
    where
      at : (r : Rect) → Covers a r c k → Beside a c r → begin a r ≡ c
      at r x (inl g) = absurd (omega (arith, x.before))
      at r x (inr g) = omega (arith, x.after)

  -- WHERE A LINE IS BUILT IT PASSES BESIDE EVERY ROOM: one that it passed through would share a cell with the room whose side is built
  built_beside : (a : Direction) (c k : ℕ) (r : Rect) → built (S a) c k ≡ true → Memᴰ r (rooms_of p) → begin (other a) r ≤ k → k < end (other a) r → Beside a c r
  built_beside a c k r e m i j = go (dec_le (end a r) c) (dec_le c (begin a r))
    where
      two : (q : Rect) → Memᴰ q (rooms_of p) → (begin a q ≡ c) ⊎ (end a q ≡ c) → begin (other a) q ≤ k → k < end (other a) q → begin a r < c → c < end a r → ⊥
      two q n (inl w) g h u v =
          let (x, y, z) = within_long a (inner p) q (f.within q n) in
          let d : Covers a r c k = record { after = omega arith; before = v; begins = i; ends = j } in
          let o : q ≡ r = one_there a (inner p) (rooms_of p) c k q r f (covers_within a (inner p) r c k (f.within r m) d) n m
          (record { after = omega arith; before = omega arith; begins = g; ends = h }) d in
          omega (arith, ap (begin a) o)
      two q n (inr w) g h u v =
          let (x, y, z) = within_long a (inner p) q (f.within q n) in
          let d : Covers a r (c - 1) k = record { after = omega arith; before = omega arith; begins = i; ends = j } in
          let o : q ≡ r = one_there a (inner p) (rooms_of p) (c - 1) k q r f (covers_within a (inner p) r (c - 1) k (f.within r m) d) n m
          (record { after = omega arith; before = omega arith; begins = g; ends = h }) d in
          omega (arith, ap (end a) o)

      go : Dec (end a r ≤ c) → Dec (c ≤ begin a r) → Beside a c r
      go (yes u) v = inl u
      go (no u) (yes v) = inr v
      go (no u) (no v) = let (q, n, w, g, h) = built_room a c k e in absurd (two q n w g h (omega arith) (omega arith))

  -- AND THE OTHER WAY: a line built from side to side is a straight cut
  built_cut : (a : Direction) (c : ℕ) (b : Rect) (rs : List Rect) → Part b rs → begin a b < c → c < end a b → Across a c b → Cut a c b rs
  built_cut a c b rs t l h all = record {
    after = l;
    before = h;
    clear = λ r m.
        let (x, y, z) = within_long (other a) b r (t.fills.within r m) in
        built_beside a c (begin (other a) r) r (all (begin (other a) r) y (omega arith)) (t.ours r m) (omega arith) x;
  }

  -- the room before a line that is built ends there
  ends_there : (a : Direction) (c c' k : ℕ) (r : Rect) → c' ≡ suc c → built (S a) c' k ≡ true → Memᴰ r (rooms_of p) → Covers a r c k → end a r ≡ c'
  ends_there a c c' k r e u m h = go (built_beside a c' k r u m h.begins h.ends)
    where
      go : Beside a c' r → end a r ≡ c'
      go (inl g) = omega (arith, h.before)
      go (inr g) = absurd (omega (arith, h.after))

  -- the room behind it begins there
  begins_there : (a : Direction) (c k : ℕ) (r : Rect) → built (S a) c k ≡ true → Memᴰ r (rooms_of p) → Covers a r c k → begin a r ≡ c
  begins_there a c k r u m h = go (built_beside a c k r u m h.begins h.ends)
    where
      go : Beside a c r → begin a r ≡ c
      go (inl g) = absurd (omega (arith, h.before))
      go (inr g) = omega (arith, h.after)

  -- lines are built inside the frame only
  built_inside : (a : Direction) (c k : ℕ) → built (S a) c k ≡ true → (begin (other a) (inner p) ≤ k) × (k < end (other a) (inner p))
  built_inside a c k u =
      let (r, m, w, i, j) = built_room a c k u in
      let (x, y, z) = within_long (other a) (inner p) r (f.within r m) in
      (omega arith, omega arith)

  -- a cell that is covered, seen the other way
  seen : (r : Rect) (x y : ℕ) → Covers upright r x y → Covers level r y x
  seen r x y h = record { after = h.begins; before = h.ends; begins = h.after; ends = h.before }

  -- TWO WALLS NEVER CROSS: the four rooms round the point would have a corner there
  no_cross : (x y x' y' : ℕ) → x' ≡ suc x → y' ≡ suc y → built (S upright) x' y ≡ true → built (S upright) x' y' ≡ true → built (S level) y' x ≡ true
      → built (S level) y' x' ≡ true → ⊥
  no_cross x y x' y' ex ey u u' l l' =
      let (q, mq, cq) = room x y (omega arith) (omega arith) (omega arith) (omega arith) in
      let (r, mr, cr) = room x' y (omega arith) (omega arith) (omega arith) (omega arith) in
      let (s, ms, cs) = room x y' (omega arith) (omega arith) (omega arith) (omega arith) in
      let (t, mt, ct) = room x' y' (omega arith) (omega arith) (omega arith) (omega arith) in
      apart x' y' q r s t mq mr ms mt
      (ends_there upright x x' y q ex u mq cq, ends_there level y y' x q ey l mq (seen q x y cq))
      (begins_there upright x' y r u mr cr, ends_there level y y' x' r ey l' mr (seen r x' y cr))
      (ends_there upright x x' y' s ex u' ms cs, begins_there level y' x s l ms (seen s x y' cs))
      (begins_there upright x' y' t u' mt ct, begins_there level y' x' t l' mt (seen t x' y' ct))
    where
      room : (c k : ℕ) → x ≤ c → c ≤ x' → y ≤ k → k ≤ y' → (r : Rect) × Memᴰ r (rooms_of p) × Covers upright r c k
      room c k g h i j =
          room_there upright (inner p) (rooms_of p) c k f (record {
            after = omega (arith, (built_inside level y' x l).0);
            before = omega (arith, (built_inside level y' x' l').1);
            begins = omega (arith, (built_inside upright x' y u).0);
            ends = omega (arith, (built_inside upright x' y' u').1);
          })

  -- the lower side of a part is built
  low_edge : (a : Direction) (b : Rect) (rs : List Rect) (k : ℕ) → Part b rs → begin (other a) b ≤ k → k < end (other a) b → built (S a) (begin a b) k ≡ true
  low_edge a b rs k t l h =
      let (r, m, x) = room_there a b rs (begin a b) k t.fills (record { after = omega arith; before = fills_long a b rs t.fills; begins = l; ends = h }) in
      let (u, v, w) = within_long a b r (t.fills.within r m) in
      let e : begin a r ≡ begin a b = omega (arith, x.after) in
      rw e at (low_built a r k (t.ours r m) x.begins x.ends)

  -- and its upper side
  high_edge : (a : Direction) (b : Rect) (rs : List Rect) (k : ℕ) → Part b rs → begin (other a) b ≤ k → k < end (other a) b → built (S a) (end a b) k ≡ true
  high_edge a b rs k t l h =
      let g : begin a b < end a b = fills_long a b rs t.fills in
      let (r, m, x) = room_there a b rs (end a b - 1) k t.fills (record { after = omega arith; before = omega arith; begins = l; ends = h }) in
      let (u, v, w) = within_long a b r (t.fills.within r m) in
      let e : end a r ≡ end a b = omega (arith, x.before) in
      rw e at (high_built a r k (t.ours r m) x.begins x.ends)

  -- SO A WALL ALONG A CUT does not come from beyond the part
  not_before : (a : Direction) (c : ℕ) (b : Rect) (rs : List Rect) (k : ℕ) → Part b rs → Cut a c b rs → begin (other a) b ≡ suc k → built (S a) c k ≡ true → ⊥
  not_before upright c b rs k t d e u =
      no_cross (c - 1) k c b.y1 (omega (arith, d.after)) e u (cut_built upright c b rs t d b.y1 (omega arith) t.fills.tall)
      (low_edge level b rs (c - 1) t (omega (arith, d.after)) (omega (arith, d.before))) (low_edge level b rs c t (omega (arith, d.after)) d.before)
  not_before level c b rs k t d e u =
      no_cross k (c - 1) b.x1 c e (omega (arith, d.after)) (low_edge upright b rs (c - 1) t (omega (arith, d.after)) (omega (arith, d.before)))
      (low_edge upright b rs c t (omega (arith, d.after)) d.before) u (cut_built level c b rs t d b.x1 (omega arith) t.fills.wide)

  -- nor go on beyond it
  not_behind : (a : Direction) (c : ℕ) (b : Rect) (rs : List Rect) → Part b rs → Cut a c b rs → built (S a) c (end (other a) b) ≡ true → ⊥
  not_behind upright c b rs t d u =
      let g : b.y1 < b.y2 = t.fills.tall in
      no_cross (c - 1) (b.y2 - 1) c b.y2 (omega (arith, d.after)) (omega arith)
      (cut_built upright c b rs t d (b.y2 - 1) (omega arith) (omega arith)) u
      (high_edge level b rs (c - 1) t (omega (arith, d.after)) (omega (arith, d.before))) (high_edge level b rs c t (omega (arith, d.after)) d.before)
  not_behind level c b rs t d u =
      let g : b.x1 < b.x2 = t.fills.wide in
      no_cross (b.x2 - 1) (c - 1) b.x2 c (omega arith) (omega (arith, d.after))
      (high_edge upright b rs (c - 1) t (omega (arith, d.after)) (omega (arith, d.before)))
      (high_edge upright b rs c t (omega (arith, d.after)) d.before) (cut_built level c b rs t d (b.x2 - 1) (omega arith) (omega arith)) u

  -- the walls of a direction
  way_walls : (a : Direction) (w : Partition) → Memᴰ w (register p) → w.direction ≡ way_byte a
      → (x : ℕ) × (b : ℕ) × (w ≡ partition (way_byte a) (S a) (long_of (way_byte a) p) x b)
  unfolding register register_of way_byte
  way_walls a w m e = go a e (Memᴰ.append_cases (register_of 0 p) m)
    where
      of : (d : ℕ) → Memᴰ w (register_of d p) → (x : ℕ) × (b : ℕ) × (w ≡ partition d (room_sides d p) (long_of d p) x b)
      of d m = let (x, b, i, t, l, q) = walls_mem d (room_sides d p) (long_of d p) (up_from 0 (wide_of d p)) w m in (x, b, q)

      other_way : (d : ℕ) → Memᴰ w (register_of d p) → w.direction ≡ d
      other_way d m = let (x, b, q) = of d m in rw q (unfold partition in refl)

      go : (a : Direction) → w.direction ≡ way_byte a → Memᴰ w (register_of 0 p) ⊎ Memᴰ w (register_of 1 p)
          → (x : ℕ) × (b : ℕ) × (w ≡ partition (way_byte a) (S a) (long_of (way_byte a) p) x b)
      go upright e (inl m) = of 0 m
      go upright e (inr m) = absurd (omega (arith, other_way 1 m))
      go level e (inl m) = absurd (omega (arith, other_way 0 m))
      go level e (inr m) = of 1 m

  -- what stands in the register, by direction
  walls_way : (a : Direction) (x b : ℕ) → x < wide_of (way_byte a) p → starts (S a) x b ≡ true → b < long_of (way_byte a) p
      → Memᴰ (partition (way_byte a) (S a) (long_of (way_byte a) p) x b) (register p)
  unfolding register register_of way_byte
  walls_way upright x b h t l =
      Memᴰ.append_left (register_of 1 p) (mem_walls 0 (room_sides 0 p) (long_of 0 p) (up_from 0 (wide_of 0 p)) x b
      (up_from_mem 0 (wide_of 0 p) x (omega arith) (omega arith)) t l)
  walls_way level x b h t l =
      Memᴰ.append_right (register_of 0 p) (mem_walls 1 (room_sides 1 p) (long_of 1 p) (up_from 0 (wide_of 1 p)) x b
      (up_from_mem 0 (wide_of 1 p) x (omega arith) (omega arith)) t l)

  -- along a wall that spans b every unit is built
  wall_built : (a : Direction) (b : Rect) (w : Partition) → Memᴰ w (register p) → Spans a b w → Across a w.number b
  unfolding partition
  wall_built a b w m s k l h =
      let (x, y, q) = way_walls a w m s.is_way in
      let e : w.number ≡ x = ap (λ (w : Partition). w.number) q in
      rw e (built_to (S a) x (long_of (way_byte a) p) y k (omega (arith, s.is_begin, ap (λ (w : Partition). w.begins) q))
      (omega (arith, s.is_end, ap (λ (w : Partition). w.ends) q)))

  -- AND A STRAIGHT CUT IS ONE WALL, from side to side
  cut_spans : (a : Direction) (c : ℕ) (b : Rect) (rs : List Rect) → Part b rs → Cut a c b rs
      → (w : Partition) × Memᴰ w (register p) × Spans a b w × (w.number ≡ c)
  unfolding partition
  cut_spans a c b rs t d =
      let lo : ℕ = begin (other a) b in
      let hi : ℕ = end (other a) b in
      let g : lo < hi = fills_long (other a) b rs t.fills in
      let all : Across a c b = cut_built a c b rs t d in
      let (y, i, n, below) = begin_of (S a) c lo (all lo (omega arith) g) in
      let e : y ≡ lo = first y i below (dec_lt y lo) in
      let (q, m, w, u, v) = built_room a c (hi - 1) (all (hi - 1) (omega arith) (omega arith)) in
      let (x₁, x₂, x₃) = within_long a (inner p) q (f.within q m) in
      let (z₁, z₂) = room_ends a q m in
      let o : end_from (S a) c (long_of (way_byte a) p) y ≡ hi = end_is (S a) c (long_of (way_byte a) p) y hi (omega arith) (omega arith)
      (λ k j l. all k (omega arith) l) (not_built (S a) c hi (not_behind a c b rs t d)) in (
        partition (way_byte a) (S a) (long_of (way_byte a) p) c y,
        walls_way a c y (line q w x₁ z₁) n (omega arith),
        record { is_way = refl; after = d.after; before = d.before; is_begin = e; is_end = o },
        refl,
      )
    where
      line : (q : Rect) → (begin a q ≡ c) ⊎ (end a q ≡ c) → begin a q < end a q → end a q < wide_of (way_byte a) p → c < wide_of (way_byte a) p
      line q (inl w) x z = omega arith
      line q (inr w) x z = omega arith

      first : (y : ℕ) → y ≤ begin (other a) b → ((k : ℕ) → y ≤ k → k ≤ begin (other a) b → built (S a) c k ≡ true) → Dec (y < begin (other a) b)
          → y ≡ begin (other a) b
      first y i below (yes z) =
          absurd (not_before a c b rs (begin (other a) b - 1) t d (omega arith) (below (begin (other a) b - 1) (omega arith) (omega arith)))
      first y i below (no z) = omega arith

  -- the register stands in order
  register_order : pairwise earlier (register p) ≡ true
  unfolding register register_of
  register_order =
      pairwise_append earlier (register_of 0 p) (register_of 1 p) (order 0) (order 1)
      (λ v y m n. earlier_direction v y (omega (arith, way 0 v m, way 1 y n)))
    where
      order : (d : ℕ) → pairwise earlier (register_of d p) ≡ true
      order d = lines_order d (room_sides d p) (long_of d p) 0 (wide_of d p)

      way : (d : ℕ) (w : Partition) → Memᴰ w (register_of d p) → w.direction ≡ d
      way d w m =
          let (x, b, i, t, l, q) = walls_mem d (room_sides d p) (long_of d p) (up_from 0 (wide_of d p)) w m in
          rw q (unfold partition in refl)

  -- THE FIRST CUT OF A PART IS THE FIRST WALL THAT SPANS IT
  same_cut : (a : Direction) (b : Rect) (rs : List Rect) → Part b rs → wall_cut a b (register p) ≡ first_cut a b rs
  same_cut a b rs t = go (wall_cut a b (register p)) refl (first_cut a b rs) refl
    where
      line : (c : ℕ) → wall_cut a b (register p) ≡ some c → Cut a c b rs
      line c e =
          let (w, m, s, q) = cut_wall a b (register p) c e in
          rw q at (built_cut a w.number b rs t s.after s.before (wall_built a b w m s))

      least : (c d : ℕ) → wall_cut a b (register p) ≡ some c → Cut a d b rs → c ≤ d
      least c d e k =
          let (w, m, s, q) = cut_spans a d b rs t k in omega (arith, cut_least a b (register p) c w register_order e m s)

      go : (o : Option ℕ) → wall_cut a b (register p) ≡ o → (l : Option ℕ) → first_cut a b rs ≡ l → wall_cut a b (register p) ≡ first_cut a b rs
      go none e none g = e ∙ sym g
      go none e (some c) g = let (w, m, s, q) = cut_spans a c b rs t (first_is_cut a b rs c g) in absurd (no_wall a b (register p) w e m s)
      go (some c) e none g = absurd (no_first a b rs g c (line c e))
      go (some c) e (some d) g =
          let i : c ≤ d = least c d e (first_is_cut a b rs d g) in
          let j : d ≤ c = first_cut_least a b rs d g c (line c e) in
          let q : c ≡ d = omega arith in
          e ∙ ap some q ∙ sym g

  -- and so is the choice
  same_choice : (b : Rect) (rs : List Rect) → Part b rs → wall_choice b (register p) ≡ chosen b rs
  unfolding wall_choice chosen
  same_choice b rs t = rw (same_cut upright b rs t, same_cut level b rs t)

  -- a part of one room is that room's own rectangle
  one_box : (b r : Rect) → Fills b (r ∷ []) → same_box b r ≡ true
  unfolding same_box
  one_box b r g =
      let w : Within b r = g.within r (Memᴰ.head refl) in
      let x : Covers upright r b.x1 b.y1 = whole b.x1 b.y1 (record { after = omega arith; before = g.wide; begins = omega arith; ends = g.tall }) in
      let y : Covers upright r (b.x2 - 1) (b.y2 - 1) = whole (b.x2 - 1) (b.y2 - 1)
      (record { after = omega (arith, g.wide); before = omega (arith, g.wide); begins = omega (arith, g.tall); ends = omega (arith, g.tall) }) in
      and_both _ _ (and_both _ _ (and_both _ _ (eq-eqb b.x1 r.x1 (omega (arith, w.left, x.after)))
      (eq-eqb b.y1 r.y1 (omega (arith, w.lower, x.begins)))) (eq-eqb b.x2 r.x2 (omega (arith, w.right, y.before))))
      (eq-eqb b.y2 r.y2 (omega (arith, w.upper, y.ends)))
    where
      whole : (c k : ℕ) → Covers upright b c k → Covers upright r c k
      whole c k h = let (q, m, x) = room_there upright b (r ∷ []) c k g h in rw (alone (r ∷ []) q r refl m (Memᴰ.head refl)) at x

  -- a room that is b covers what b covers
  box_covers : (b r : Rect) (c k : ℕ) → same_box b r ≡ true → Covers upright b c k → Covers upright r c k
  unfolding same_box
  box_covers b r c k e h =
      let (e₁, z) = and_parts _ (eqb b.y2 r.y2) e in
      let (e₂, y) = and_parts _ (eqb b.x2 r.x2) e₁ in
      let (w, x) = and_parts (eqb b.x1 r.x1) (eqb b.y1 r.y1) e₂ in
      record {
        after = omega (arith, h.after, eqb-true b.x1 r.x1 w);
        before = omega (arith, h.before, eqb-true b.x2 r.x2 y);
        begins = omega (arith, h.begins, eqb-true b.y1 r.y1 x);
        ends = omega (arith, h.ends, eqb-true b.y2 r.y2 z);
      }

  -- the plan's room that is b is every room of the part
  box_room : (b : Rect) (rs : List Rect) (q r : Rect) → Part b rs → Memᴰ q (rooms_of p) → same_box b q ≡ true → Memᴰ r rs → q ≡ r
  box_room b rs q r t m e n =
      let w : Within b r = t.fills.within r n in
      let h : Covers upright r r.x1 r.y1 = record { after = omega arith; before = w.wide; begins = omega arith; ends = w.tall } in
      let g : Covers upright b r.x1 r.y1 = covers_within upright b r r.x1 r.y1 w h in
      one_there upright (inner p) (rooms_of p) r.x1 r.y1 q r f
      (covers_within upright (inner p) r r.x1 r.y1 (f.within r (t.ours r n)) h) m (t.ours r n) (box_covers b q r.x1 r.y1 e g) h

  -- THE LEAF
  leaf_found : (b r : Rect) → Part b (r ∷ []) → (l : List Rect) → ((q : Rect) → Memᴰ q l → Memᴰ q (rooms_of p)) → Memᴰ r l
      → leaf_of b l ≡ some (leaf r.vertex)
  unfolding leaf_of
  leaf_found b r t [] h m = absurd (Memᴰ.not-nil m)
  leaf_found b r t (q ∷ l) h m = go (same_box b q) refl m (leaf_found b r t l (λ s n. h s (Memᴰ.tail n)))
    where
      go : (e : Bool) → same_box b q ≡ e → Memᴰ r (q ∷ l) → (Memᴰ r l → leaf_of b l ≡ some (leaf r.vertex))
          → cond e (some (leaf q.vertex)) (leaf_of b l) ≡ some (leaf r.vertex)
      go true e m below =
          ap (λ (r : Rect). some (leaf r.vertex)) (box_room b (r ∷ []) q r t (h q (Memᴰ.head refl)) e (Memᴰ.head refl))
      go false e (Memᴰ.head z) below = no_false (sym e ∙ ap (same_box b) (sym z) ∙ one_box b r t.fills)
      go false e (Memᴰ.tail n) below = below n

  -- none where there are more
  leaf_none : (b : Rect) (rs l : List Rect) → Part b rs → 2 ≤ length rs → ((q : Rect) → Memᴰ q l → Memᴰ q (rooms_of p)) → leaf_of b l ≡ none
  unfolding leaf_of
  leaf_none b rs [] t g h = refl
  leaf_none b rs (q ∷ l) t g h = go (same_box b q) refl (leaf_none b rs l t g (λ s n. h s (Memᴰ.tail n)))
    where
      twice : (rs : List Rect) → Part b rs → 2 ≤ length rs → same_box b q ≡ true → ⊥
      twice [] t g e = omega arith
      twice (r ∷ []) t g e = omega arith
      twice (r ∷ s ∷ rs) t g e =
          let i : q ≡ r = box_room b (r ∷ s ∷ rs) q r t (h q (Memᴰ.head refl)) e (Memᴰ.head refl) in
          let j : q ≡ s = box_room b (r ∷ s ∷ rs) q s t (h q (Memᴰ.head refl)) e (Memᴰ.tail (Memᴰ.head refl)) in
          let w : Within b r = t.fills.within r (Memᴰ.head refl) in
          let c : Cell r r.x1 r.y1 = record { left = omega arith; right = w.wide; lower = omega arith; upper = w.tall } in
          let o : holds r.x1 r.y1 r ≡ true = cell_holds r.x1 r.y1 r c in
          let o' : holds r.x1 r.y1 s ≡ true = ap (holds r.x1 r.y1) (sym j ∙ i) ∙ o in
          let z : count (holds r.x1 r.y1) (r ∷ s ∷ rs) ≡ 1 = t.fills.once r.x1 r.y1
          (covers_cell upright b r.x1 r.y1 (covers_within upright b r r.x1 r.y1 w (cell_covers upright r r.x1 r.y1 c))) in
          omega (
            arith,
            ap bit o,
            ap bit o',
            count_cons (holds r.x1 r.y1) r (s ∷ rs),
            count_cons (holds r.x1 r.y1) s rs,
          )

      go : (e : Bool) → same_box b q ≡ e → leaf_of b l ≡ none → cond e (some (leaf q.vertex)) (leaf_of b l) ≡ none
      go true e below = absurd (twice rs t g e)
      go false e below = below

  -- the left or lower part of a cut is a part
  low_part_lem : (a : Direction) (c : ℕ) (b : Rect) (rs : List Rect) → Part b rs → Cut a c b rs → Part (low_box a c b) (low_part a c rs)
  low_part_lem a c b rs t k = record { fills = fills_low a c b rs t.fills k; ours = λ r m. t.ours r (low_mem a c rs r m).0 }

  -- the other part
  high_part_lem : (a : Direction) (c : ℕ) (b : Rect) (rs : List Rect) → Part b rs → Cut a c b rs → Part (high_box a c b) (high_part a c rs)
  high_part_lem a c b rs t k = record { fills = fills_high a c b rs t.fills k; ours = λ r m. t.ours r (high_mem a c rs r m).0 }

  -- the plan's walls
  abbrev W : List Partition
  W = register p

  -- the plan's rooms
  abbrev R : List Rect
  R = rooms_of p

  -- one room
  of_one : (b r : Rect) → Part b (r ∷ []) → tree_by W R b ≡ tree_of b (r ∷ [])
  of_one b r t = by_leaf W R b (leaf r.vertex) (leaf_found b r t R (λ q m. m) (t.ours r (Memᴰ.head refl))) ∙ sym (tree_leaf b r)

  -- two rooms or more
  of_more : (b : Rect) (rs : List Rect) → Part b rs → 2 ≤ length rs
      → ((b' : Rect) (l : List Rect) → span b' < span b → Part b' l → tree_by W R b' ≡ tree_of b' l) → tree_by W R b ≡ tree_of b rs
  of_more b rs t h below = go (chosen b rs) refl
    where
      empty : leaf_of b R ≡ none
      empty = leaf_none b rs R t h (λ q m. m)

      go : (k : Choice) → chosen b rs ≡ k → tree_by W R b ≡ tree_of b rs
      go no_cut e = by_none W R b empty (same_choice b rs t ∙ e) ∙ sym (tree_cut b rs h ∙ ap (divided tree_of b rs) e ∙ (unfold divided in refl))
      go (takes a c) e =
          let k : Cut a c b rs = chosen_cut b rs a c e in
          by_cut W R b a c empty (same_choice b rs t ∙ e)
          ∙ both_same a c _ _ _ _ (below (low_box a c b) (low_part a c rs) (low_span a c b k.after k.before) (low_part_lem a c b rs t k))
          (below (high_box a c b) (high_part a c rs) (high_span a c b k.after k.before) (high_part_lem a c b rs t k))
          ∙ sym (tree_cut b rs h ∙ ap (divided tree_of b rs) e ∙ (unfold divided in refl))

  -- BY WALLS AND BY ROOMS THE TREE OF A PART IS ONE
  by_walls : (n : ℕ) (b : Rect) (rs : List Rect) → span b ≤ n → Part b rs → tree_by W R b ≡ tree_of b rs
  by_walls zero b [] h t = absurd (fills_some b t.fills)
  by_walls zero b (r ∷ []) h t = of_one b r t
  by_walls zero b (r ∷ s ∷ rs) h t = of_more b (r ∷ s ∷ rs) t (omega arith) (λ b' l k. absurd (omega arith))
  by_walls (suc n) b [] h t = absurd (fills_some b t.fills)
  by_walls (suc n) b (r ∷ []) h t = of_one b r t
  by_walls (suc n) b (r ∷ s ∷ rs) h t = of_more b (r ∷ s ∷ rs) t (omega arith) (λ b' l k t'. by_walls n b' l (omega arith) t')

  -- THE TREE BY WALLS IS THE PLAN'S TREE
  pub tree_by_walls : tree_by (register p) (rooms_of p) (inner p) ≡ plan_tree p
  unfolding plan_tree
  tree_by_walls = by_walls (span (inner p)) (inner p) (rooms_of p) (omega arith) (record { fills = f; ours = λ r m. m })
