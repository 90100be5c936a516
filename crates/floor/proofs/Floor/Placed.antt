-- A plan as a placement: how far each side of each rectangle reaches; and what walls, cells and the order are by it. Assumes nothing.
use Rattle.std.specs.Prelude.{◌≡◌, Bool, cond, ℕ, ◌+◌, ◌-◌, ◌≤◌, ◌<◌, max}
use Rattle.std.proofs.Math.Path.{refl}
use Rattle.std.proofs.Common.{sym, ap, ◌∙◌}
use Rattle.std.proofs.Math.Logic.{inl, inr}
use Rattle.std.proofs.Math.Bool.{true, false}
use mathlib.Core.List.{[], ◌∷◌, map, Memᴰ}
use native.Mathlib.Omega.{arith}
use Rattle.std.proofs.Math.Dec.{eqb}
use borrow.Author.Tests.{eqb-true, eq-eqb}
use Rattle.floor.specs.Lists.{keep}
use Rattle.floor.specs.Jobs.{Entry, Star, Job, Vertex, list_of}
use Rattle.floor.specs.Plans.{Rect, Plan, rect_of}
use Rattle.floor.specs.Floor.{Cell, Point, Wall, Stands, Onward, Earlier, here, there, Framed, Inside}
use Rattle.floor.proofs.Floor.Sides.{Side, up, left, down, right, next, opp, prev, around, Piece, Place, size, Known, Meets, Tile, In, Ordered, Precedes}
use Rattle.floor.proofs.Floor.Sides.{Shape}
use Rattle.floor.proofs.Floor.Cover.{turn, turn_in, turn_out}
use Rattle.floor.proofs.Floor.Four.{Knot, On}
use Rattle.floor.proofs.Floor.Read.{num, number, piece, number_piece, piece_number, kind_side, stars_of, known_vertex, known_piece, number_same}
use Rattle.floor.proofs.Floor.Read.{mem_listed, listed_mem}

-- how far side k of a piece reaches, from the opposite edge of the sheet
unfoldable pub reach : Plan → Side → Piece → ℕ
reach p right v = (rect_of p (number v)).x2
reach p left v = p.width - (rect_of p (number v)).x1
reach p up v = (rect_of p (number v)).y2
reach p down v = p.height - (rect_of p (number v)).y1

-- THE PLACEMENT OF A PLAN
unfoldable pub place_of : Plan → Place
place_of p = record { width = p.width; height = p.height; at = reach p }

-- a cell and a point of the sheet, seen towards the left
unfoldable pub tile_at : (p : Plan) (x y : ℕ) → x < p.width → y < p.height → Tile (place_of p) left
unfolding place_of
tile_at p x y hx hy = record { a = p.width - 1 - x; b = p.height - 1 - y; c = x; d = y; ac = omega arith; bd = omega arith }

-- a point of the sheet, seen towards the left
unfoldable pub knot_at : (p : Plan) (x y : ℕ) → x ≤ p.width → y ≤ p.height → Knot (place_of p) left
unfolding place_of
knot_at p x y hx hy = record { a = p.width - x; b = p.height - y; c = x; d = y; ac = omega arith; bd = omega arith }

-- stretches on one line that reach over one another share a unit of it
pub wall_at : (a from to b from' to' : ℕ) → a ≡ b → from < to → from' < to' → from < to' → from' < to → Wall a from to b from' to'
wall_at a from to b from' to' e f g h i = record {
  line = e;
  c = max from from';
  starts = omega arith;
  ends = omega arith;
  starts' = omega arith;
  ends' = omega arith;
}

-- the frame's shape
pub framed_shape : (p : Plan) → Framed p → Inside p (rect_of p 1) → Inside p (rect_of p 3) → Shape (place_of p)
unfolding place_of reach
framed_shape p r w e = record {
  w_left = omega (arith, r.w_x1);
  w_up = r.w_y2;
  w_down = omega (arith, r.w_y1);
  e_right = r.e_x2;
  e_up = r.e_y2;
  e_down = omega (arith, r.e_y1);
  n_up = r.n_y2;
  n_left = omega (arith, r.n_x1, w.in_width);
  n_right = omega (arith, r.n_x2, r.e_x2, e.wide);
  s_down = omega (arith, r.s_y1);
  s_left = omega (arith, r.s_x1, w.in_width);
  s_right = omega (arith, r.s_x2, r.e_x2, e.wide);
}

module _ (j : Job) (p : Plan) (ins : (v : ℕ) → Vertex j v → Inside p (rect_of p v)) where
  -- the rectangle of each piece has at least a cell and lies inside the sheet
  pub inside_of : (v : Piece) → Known (stars_of j) v → Inside p (rect_of p (number v))
  inside_of v h = ins (number v) (known_vertex j v h)

  -- no side of a piece reaches over the edge of the sheet
  pub inside_place : (k : Side) (v : Piece) → Known (stars_of j) v → (place_of p).at k v ≤ size (place_of p) k
  unfolding place_of reach
  inside_place right v h = (inside_of v h).in_width
  inside_place left v h = omega arith
  inside_place up v h = (inside_of v h).in_height
  inside_place down v h = omega arith

  -- each piece is at least a cell thick, in every direction
  pub thick_place : (k : Side) (v : Piece) → Known (stars_of j) v → size (place_of p) k < (place_of p).at k v + (place_of p).at (opp k) v
  unfolding place_of reach
  thick_place right v h = let i : Inside p (rect_of p (number v)) = inside_of v h in omega (arith, i.wide, i.in_width)
  thick_place left v h = let i : Inside p (rect_of p (number v)) = inside_of v h in omega (arith, i.wide, i.in_width)
  thick_place up v h = let i : Inside p (rect_of p (number v)) = inside_of v h in omega (arith, i.tall, i.in_height)
  thick_place down v h = let i : Inside p (rect_of p (number v)) = inside_of v h in omega (arith, i.tall, i.in_height)

  -- WALLS: who stands on a side meets there, and the other way
  pub stands_meets : (k : Side) (u v : Piece) → Known (stars_of j) u → Known (stars_of j) v → Stands (num k) (rect_of p (number u)) (rect_of p (number v))
      → Meets (place_of p) k u v
  unfolding place_of reach
  stands_meets k u v hu hv = go k (inside_of u hu) (inside_of v hv)
    where
      go : (k : Side) → Inside p (rect_of p (number u)) → Inside p (rect_of p (number v)) → Stands (num k) (rect_of p (number u)) (rect_of p (number v))
          → Meets (place_of p) k u v
      go up i h w = record {
        touch = omega (arith, w.line, h.tall, h.in_height);
        ahead = omega (arith, w.starts, w.ends', i.wide, i.in_width);
        behind = omega (arith, w.ends, w.starts', h.wide, h.in_width);
      }
      go left i h w = record {
        touch = omega (arith, w.line, i.wide, i.in_width);
        ahead = omega (arith, w.starts', w.ends, i.tall, i.in_height);
        behind = omega (arith, w.ends', w.starts, h.tall, h.in_height);
      }
      go down i h w = record {
        touch = omega (arith, w.line, i.tall, i.in_height);
        ahead = omega (arith, w.ends', w.starts, h.wide, h.in_width);
        behind = omega (arith, w.starts', w.ends, i.wide, i.in_width);
      }
      go right i h w = record {
        touch = omega (arith, w.line, h.wide, h.in_width);
        ahead = omega (arith, w.ends, w.starts', h.tall, h.in_height);
        behind = omega (arith, w.starts, w.ends', i.tall, i.in_height);
      }

  -- who meets a piece on a side stands there with a cell's length of wall
  pub meets_stands : (k : Side) (u v : Piece) → Known (stars_of j) u → Known (stars_of j) v → Meets (place_of p) k u v
      → Stands (num k) (rect_of p (number u)) (rect_of p (number v))
  unfolding place_of reach
  meets_stands k u v hu hv = go k (inside_of u hu) (inside_of v hv)
    where
      r : Rect
      r = rect_of p (number u)

      s : Rect
      s = rect_of p (number v)

      go : (k : Side) → Inside p r → Inside p s → Meets (place_of p) k u v → Stands (num k) r s
      go up i h m =
          wall_at r.y2 r.x1 r.x2 s.y1 s.x1 s.x2 (omega (arith, m.touch, h.tall, h.in_height)) i.wide h.wide
          (omega (arith, m.ahead, h.in_width)) (omega (arith, m.behind, i.in_width))
      go down i h m =
          wall_at s.y2 s.x1 s.x2 r.y1 r.x1 r.x2 (omega (arith, m.touch, i.tall, i.in_height)) h.wide i.wide
          (omega (arith, m.ahead, i.in_width)) (omega (arith, m.behind, h.in_width))
      go right i h m =
          wall_at r.x2 r.y1 r.y2 s.x1 s.y1 s.y2 (omega (arith, m.touch, h.wide, h.in_width)) i.tall h.tall
          (omega (arith, m.behind, h.in_height)) (omega (arith, m.ahead, i.in_height))
      go left i h m =
          wall_at s.x2 s.y1 s.y2 r.x1 r.y1 r.y2 (omega (arith, m.touch, i.wide, i.in_width)) h.tall i.tall
          (omega (arith, m.behind, i.in_height)) (omega (arith, m.ahead, h.in_height))

  -- CELLS, seen towards the left
  cell_in : (x : Tile (place_of p) left) (v : Piece) → Known (stars_of j) v → Cell (rect_of p (number v)) x.c x.d → In (place_of p) left x v
  unfolding place_of reach
  cell_in x v h m =
      let i : Inside p (rect_of p (number v)) = inside_of v h in
      record {
        ina = omega (arith, m.left, x.ac, i.wide, i.in_width);
        inb = omega (arith, m.lower, x.bd, i.tall, i.in_height);
        inc =
            m.right;
        ind = m.upper;
      }

  -- a cell that a piece covers lies in its rectangle
  pub in_cell : (x : Tile (place_of p) left) (v : Piece) → In (place_of p) left x v → Cell (rect_of p (number v)) x.c x.d
  unfolding place_of reach
  in_cell x v m = record { left = omega (arith, m.ina, x.ac); right = m.inc; lower = omega (arith, m.inb, x.bd); upper = m.ind }

  -- a cell of the sheet that lies in a vertex's rectangle is covered by its piece
  pub cell_at : (x y n : ℕ) → Vertex j n → (hx : x < p.width) (hy : y < p.height) → Cell (rect_of p n) x y
      → In (place_of p) left (tile_at p x y hx hy) (piece n)
  unfolding tile_at
  cell_at x y n h hx hy m = cell_in (tile_at p x y hx hy) (piece n) (known_piece j n h) (rw (number_piece n) m)

  -- POINTS
  pub point_at : (x y n : ℕ) → (hx : x ≤ p.width) (hy : y ≤ p.height) → Point (rect_of p n) x y → On (place_of p) left (knot_at p x y hx hy) (piece n)
  unfolding knot_at place_of reach
  point_at x y n hx hy m = record {
    ona = rw (number_piece n) (omega (arith, m.left));
    onb = rw (number_piece n) (omega (arith, m.lower));
    onc = rw (number_piece n) m.right;
    ond = rw (number_piece n) m.upper;
  }

  -- a point that a piece holds lies in its rectangle
  pub on_point : (x : Knot (place_of p) left) (v : Piece) → On (place_of p) left x v → Known (stars_of j) v → Point (rect_of p (number v)) x.c x.d
  unfolding place_of reach
  on_point x v m h =
      let i : Inside p (rect_of p (number v)) = inside_of v h in
      record {
        left = omega (arith, m.ona, x.ac, i.wide, i.in_width);
        right = m.onc;
        lower = omega (arith, m.onb, x.bd, i.tall, i.in_height);
        upper = m.ond;
      }

  -- EVERY CELL IN SOME, AND IN NO TWO, in every direction
  pub cover_place : ((x y : ℕ) → x < p.width → y < p.height → (v : ℕ) × Vertex j v × Cell (rect_of p v) x y) → (k : Side) (x : Tile (place_of p) k)
      → (v : Piece) × Known (stars_of j) v × In (place_of p) k x v
  unfolding place_of
  cover_place covered =
      around (λ k. (x : Tile (place_of p) k) → (v : Piece) × Known (stars_of j) v × In (place_of p) k x v)
      (λ k below x. let (v, h, n) = below (turn x) in (v, h, turn_out x n))
      (λ x.
      let (v, h, n) = covered x.c x.d (omega (arith, x.ac)) (omega (arith, x.bd)) in
      (piece v, known_piece j v h, cell_in x (piece v) (known_piece j v h) (rw (number_piece v) n)))

  -- where no cell lies in the rectangles of two vertices, no cell is covered by two pieces, in any direction
  pub alone_place : ((x y u v : ℕ) → Vertex j u → Vertex j v → Cell (rect_of p u) x y → Cell (rect_of p v) x y → u ≡ v)
      → (k : Side) (x : Tile (place_of p) k) (u v : Piece) → Known (stars_of j) u → Known (stars_of j) v → In (place_of p) k x u → In (place_of p) k x v → u ≡ v
  alone_place once =
      around (λ k. (x : Tile (place_of p) k) (u v : Piece) → Known (stars_of j) u → Known (stars_of j) v → In (place_of p) k x u → In (place_of p) k x v → u ≡ v)
      (λ k below x u v hu hv m n. below (turn x) u v hu hv (turn_in x m) (turn_in x n))
      (λ x u v hu hv m n. number_same u v (once x.c x.d (number u) (number v) (known_vertex j u hu) (known_vertex j v hv) (in_cell x u m)
      (in_cell x v n)))

  -- THE ORDER of one list, and of a star
  pub onward_precedes : (k : Side) (a b : ℕ) → Vertex j a → Vertex j b → Onward (num k) (rect_of p a) (rect_of p b) → Precedes (place_of p) k (piece a) (piece b)
  unfolding place_of reach
  onward_precedes up a b ha hb e = inl (rw (number_piece a, number_piece b) (omega (arith, (ins a ha).wide, (ins a ha).in_width)))
  onward_precedes left a b ha hb e = inl (rw (number_piece a, number_piece b) (omega (arith, (ins a ha).tall, (ins a ha).in_height)))
  onward_precedes down a b ha hb e = inr (rw (number_piece a, number_piece b) (omega (arith, (ins b hb).wide, (ins b hb).in_width)))
  onward_precedes right a b ha hb e = inr (rw (number_piece a, number_piece b) (omega (arith, (ins b hb).tall, (ins b hb).in_height)))

  -- where later entries of one kind stand onward, the list of each kind is in order
  pub order_lists : (k : Side) (s : Star) → ((e : Entry) → Memᴰ e s → Vertex j e.to) → ((d e : Entry) → Earlier d e s → d.kind ≡ e.kind
      → Onward d.kind (rect_of p d.to) (rect_of p e.to))
      → Ordered (Precedes (place_of p) k) (map piece (list_of s (num k)))
  unfolding list_of keep
  order_lists k [] h o = tt
  order_lists k (d ∷ s) h o = go (eqb d.kind (num k)) refl (order_lists k s (λ e m. h e (Memᴰ.tail m)) (λ c e x. o c e (there x)))
    where
      go : (b : Bool) → eqb d.kind (num k) ≡ b → Ordered (Precedes (place_of p) k) (map piece (map (λ e. e.to) (keep (λ e. eqb e.kind (num k)) s)))
          → Ordered (Precedes (place_of p) k)
          (map piece (map (λ e. e.to) (cond b (d ∷ keep (λ e. eqb e.kind (num k)) s) (keep (λ e. eqb e.kind (num k)) s))))
      go false e below = below
      go true e below = (λ w m. first w (mem_listed w s (num k) m), below)
        where
          kd : d.kind ≡ num k
          kd = eqb-true d.kind (num k) e

          first : (w : Piece) → (e : Entry) × Memᴰ e s × (e.kind ≡ num k) × (e.to ≡ number w) → Precedes (place_of p) k (piece d.to) w
          first w (e, me, ke, te) =
              let x : Precedes (place_of p) k (piece d.to) (piece e.to) = onward_precedes k d.to e.to (h d (Memᴰ.head refl))
              (h e (Memᴰ.tail me)) (rw kd at (o d e (here me) (kd ∙ sym ke))) in
              rw (ap piece te ∙ piece_number w) at x

-- the order of a list, on both ends of each rectangle
abbrev pub Strict : Plan → Side → Piece → Piece → Type 0
Strict p k v w = ((place_of p).at (next k) v < (place_of p).at (next k) w) × ((place_of p).at (prev k) w < (place_of p).at (prev k) v)

-- of two that are in order on both ends, the second stands onward of the first
strict_onward : (p : Plan) (k : Side) (a b : ℕ) → Strict p k (piece a) (piece b) → Onward (num k) (rect_of p a) (rect_of p b)
unfolding place_of reach
strict_onward p up a b e = let f : p.width - (rect_of p (number (piece a))).x1 < p.width - (rect_of p (number (piece b))).x1 =
    e.0 in omega (arith, rw (number_piece a, number_piece b) at f)
strict_onward p left a b e = let f : p.height - (rect_of p (number (piece a))).y1 < p.height - (rect_of p (number (piece b))).y1 =
    e.0 in omega (arith, rw (number_piece a, number_piece b) at f)
strict_onward p down a b e = let f : p.width - (rect_of p (number (piece b))).x1 < p.width - (rect_of p (number (piece a))).x1 =
    e.1 in omega (arith, rw (number_piece a, number_piece b) at f)
strict_onward p right a b e = let f : p.height - (rect_of p (number (piece b))).y1 < p.height - (rect_of p (number (piece a))).y1 =
    e.1 in omega (arith, rw (number_piece a, number_piece b) at f)

-- where the lists are in order on both ends, later entries of one kind stand onward
pub lists_order : (p : Plan) (s : Star) → ((e : Entry) → Memᴰ e s → e.kind < 4) → ((k : Side) → Ordered (Strict p k) (map piece (list_of s (num k))))
    → (d e : Entry) → Earlier d e s → d.kind ≡ e.kind → Onward d.kind (rect_of p d.to) (rect_of p e.to)
unfolding list_of keep
lists_order p [] n o d' e x4 same = elim x4 [ ]
lists_order p (d ∷ s) n o d' e (there x) same = lists_order p s (λ e m. n e (Memᴰ.tail m)) (λ k. rest k (eqb d.kind (num k)) (o k)) d' e x same
  where
    rest : (k : Side) (b : Bool)
        → Ordered (Strict p k) (map piece (map (λ e. e.to) (cond b (d ∷ keep (λ e. eqb e.kind (num k)) s) (keep (λ e. eqb e.kind (num k)) s))))
        → Ordered (Strict p k) (map piece (map (λ e. e.to) (keep (λ e. eqb e.kind (num k)) s)))
    rest k true x = x.1
    rest k false x = x
lists_order p (d ∷ s) n o d' e (here m) same =
    let (k, w) = kind_side d.kind (n d (Memᴰ.head refl)) in
    rw (← w) (strict_onward p k d.to e.to (first k (eqb d.kind (num k)) (eq-eqb d.kind (num k) (sym w)) (o k) (piece e.to)
    (listed_mem s (num k) e m (sym same ∙ sym w))))
  where
    first : (k : Side) (b : Bool) → b ≡ true
        → Ordered (Strict p k) (map piece (map (λ e. e.to) (cond b (d ∷ keep (λ e. eqb e.kind (num k)) s) (keep (λ e. eqb e.kind (num k)) s))))
        → (w : Piece) → Memᴰ w (map piece (map (λ e. e.to) (keep (λ e. eqb e.kind (num k)) s))) → Strict p k (piece d.to) w
    first k true z x = x.0
    first k false z x = let z : ◌≡◌ {A = ℕ} 0 1 = cc in absurd (omega arith)
