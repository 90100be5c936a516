-- In a local plan every cell lies in exactly one vertex. Assumes nothing.
use Rattle.std.specs.Prelude.{◌≡◌, refl, ◌⊎◌}
use Rattle.std.proofs.Common.{ap, arith}
use Rattle.std.proofs.Math.Logic.{inl, inr}
use mathlib.Core.List.{Memᴰ}
use Prim.Native.Nat.{ℕ, zero, suc, ◌+◌, ◌-◌, ◌≤◌, ◌<◌}
use Rattle.std.proofs.Math.Decide.{dec_le, dec_lt}
use Rattle.floor.proofs.Floor.Sides.{Side, up, left, down, right, next, opp, prev, round, around, Piece, side, room, Place, size, Stars, Known, Named}
use Rattle.floor.proofs.Floor.Sides.{Lawful, Tile, In, Local, Shape}
use Rattle.floor.proofs.Floor.Tiles.{beside, one_entry}

-- the sheet is as large in the direction of the opposite side
pub size_opp : (p : Place) (k : Side) → size p (opp k) ≡ size p k
size_opp p up = refl
size_opp p left = refl
size_opp p down = refl
size_opp p right = refl

-- a cell, seen in the next direction
abbrev pub turn : {p : Place} {k : Side} → Tile p k → Tile p (next k)
turn {p} {k} x = record { a = x.b; b = x.c; c = x.d; d = x.a; ac = x.bd; bd = omega (arith, x.ac, size_opp p k) }

-- a vertex that covers a cell covers it as seen in the next direction
pub turn_in : {p : Place} {k : Side} (x : Tile p k) {v : Piece} → In p k x v → In p (next k) (turn x) v
turn_in {p} {k} x {v} i = record { ina = i.inb; inb = i.inc; inc = i.ind; ind = rw (round k) i.ina }

-- a vertex that covers a cell as seen in the next direction covers it
pub turn_out : {p : Place} {k : Side} (x : Tile p k) {v : Piece} → In p (next k) (turn x) v → In p k x v
turn_out {p} {k} x {v} i = record { ina = rw (round k) at i.ind; inb = i.ina; inc = i.inb; ind = i.inc }

-- y is m cells from x, in direction k
pub record Moved (p : Place) (k : Side) (m : ℕ) (x y : Tile p k) : Type 0 where
  pub ma : y.a ≡ x.a + m
  pub mb : y.b ≡ x.b
  pub mc : y.c + m ≡ x.c
  pub md : y.d ≡ x.d

module _ (s : Stars) (p : Place) (g : Lawful s) (l : Local s p) where
  -- the neighbour that covers the next cell: a room, or the frame side
  Over : (k : Side) → Tile p k → ℕ → Type 0
  Over k y i = ((j : ℕ) × (j < s.count) × Memᴰ (room j) (s.list k i) × In p k y (room j)) ⊎ (Memᴰ (side k) (s.list k i) × In p k y (side k))

  -- the cell next to a room on side k lies in a neighbour of that kind: a room, or the frame side
  over : (k : Side) (i : ℕ) → i < s.count → (y : Tile p k) → y.a ≡ p.at k (room i) → y.b < p.at (next k) (room i) → y.d < p.at (prev k) (room i)
      → Over k y i
  unfolding Over
  over k i h y e hb hd = let (v, m, n) = beside s p g l k i h y e hb hd in go v m n (g.known k i v h m)
    where
      go : (v : Piece) → Memᴰ v (s.list k i) → In p k y v → Named s k v → Over k y i
      go (side t) m n e = inr (rw e at m, rw e at n)
      go (room j) m n e = inl (j, e, m, n)

  -- a frame side and a room have no cell in common
  apart : (k : Side) (x : Tile p k) (i : ℕ) → i < s.count → In p k x (side k) → In p k x (room i) → ⊥
  apart k x i h m n = omega (arith, m.inc, n.ina, x.ac, l.within k i h)

  -- ONE STEP: what the next cell has at most once, this one has, or it stands at the frame
  step : (k : Side) (x y : Tile p k) → Moved p k 1 x y → ((i j : ℕ) → i < s.count → j < s.count → In p k y (room i) → In p k y (room j) → i ≡ j)
      → (i j : ℕ) → i < s.count → j < s.count → In p k x (room i) → In p k x (room j) → (i ≡ j) ⊎ (x.c ≡ p.at (opp k) (side k))
  unfolding Over
  step k x y mv below i j hi hj ni nj = go (dec_lt y.a (p.at k (room i))) (dec_lt y.a (p.at k (room j)))
    where
      to : (t : ℕ) → In p k x (room t) → y.a < p.at k (room t) → In p k y (room t)
      to t n h = record { ina = h; inb = omega (arith, n.inb, mv.mb); inc = omega (arith, n.inc, mv.mc); ind = omega (arith, n.ind, mv.md) }

      off : (t : ℕ) → t < s.count → In p k x (room t) → ¬ (y.a < p.at k (room t)) → Over k y t
      off t ht n h = over k t ht y (omega (arith, n.ina, mv.ma)) (omega (arith, n.inb, mv.mb)) (omega (arith, n.ind, mv.md))

      -- t covers both cells, r only x: what lies over r is t, and reaches too far
      one : (t r : ℕ) → t < s.count → r < s.count → In p k x (room t) → In p k x (room r) → y.a < p.at k (room t) → Over k y r → ⊥
      one t r ht hr nt nr h (inl (q, hq, m, n)) =
          omega (
            arith,
            ap (λ z. p.at (opp k) (room z)) (below q t hq ht n (to t nt h)),
            (l.meets k r (room q) hr m).touch,
            nt.inc,
            nr.ina,
            mv.ma,
            mv.mc,
            x.ac,
          )
      one t r ht hr nt nr h (inr (m, n)) = apart k y t ht n (to t nt h)

      two : Over k y i → Over k y j → (i ≡ j) ⊎ (x.c ≡ p.at (opp k) (side k))
      two (inl (q, hq, m, n)) (inl (r, hr, m', n')) =
          let e : q ≡ r = below q r hq hr n n' in
          let f : room i ≡ room j = one_entry s p g l (opp k) q hq x.d x.b (omega (arith, x.bd, size_opp p (next k)))
          (room i) (room j) (g.back k i q hi m) (rw (← e) at (g.back k j r hj m'))
          ni.ind (rw (round k) ni.inb) nj.ind (rw (round k) nj.inb) in
          inl (cc)
      two (inl (q, hq, m, n)) (inr (m', n')) = absurd (apart k y q hq n' n)
      two (inr (m, n)) (inl (r, hr, m', n')) = absurd (apart k y r hr n n')
      two (inr (m, n)) (inr (m', n')) = inr (omega (arith, n.inc, ni.ina, l.within k i hi, x.ac, mv.mc))

      go : Dec (y.a < p.at k (room i)) → Dec (y.a < p.at k (room j)) → (i ≡ j) ⊎ (x.c ≡ p.at (opp k) (side k))
      go (yes e) (yes f) = inl (below i j hi hj (to i ni e) (to j nj f))
      go (yes e) (no f) = absurd (one i j hi hj ni nj e (off j hj nj f))
      go (no e) (yes f) = absurd (one j i hj hi nj ni f (off i hi ni e))
      go (no e) (no f) = two (off i hi ni e) (off j hj nj f)

  -- the frame is a cell thick
  frame : (k : Side) → size p k < p.at k (side k) + p.at (opp k) (side k)
  frame k = l.thick k (side k) tt

  -- a room whose cell stands at the frame side k lists it
  at_frame : (k : Side) (x : Tile p k) (i : ℕ) → i < s.count → In p k x (room i) → x.c ≡ p.at (opp k) (side k) → Memᴰ (side k) (s.list k i)
  unfolding Over
  at_frame k x i h n e = go (over k i h y (omega (arith, n.ina, l.within k i h, x.ac)) n.inb n.ind)
    where
      y : Tile p k
      y = record { a = x.a + 1; b = x.b; c = x.c - 1; d = x.d; ac = omega (arith, x.ac, e, frame k, l.inside k (side k) tt); bd = x.bd }

      go : Over k y i → Memᴰ (side k) (s.list k i)
      go (inl (j, hj, m, n)) = absurd (omega (arith, n.inc, n.ina, l.within k j hj, e))
      go (inr (m, n)) = m

  -- AT MOST ONE, along W
  column : (c : ℕ) (x : Tile p down) → x.c ≡ c → x.b ≡ p.at right (side left) → (i j : ℕ) → i < s.count → j < s.count → In p down x (room i)
      → In p down x (room j) → i ≡ j
  column zero x e f i j hi hj ni nj = absurd (omega (arith, x.ac, ni.ina, l.within down i hi, frame down, l.shape.s_down))
  column (suc c) x e f i j hi hj ni nj =
      go (step down x y mv (λ i j. column c y refl f i j) i j hi hj ni nj)
    where
      y : Tile p down
      y = record { a = x.a + 1; b = x.b; c = c; d = x.d; ac = omega (arith, x.ac); bd = x.bd }

      mv : Moved p down 1 x y
      mv = record { ma = refl; mb = refl; mc = omega arith; md = refl }

      west : (i : ℕ) → i < s.count → In p down x (room i) → Memᴰ (side left) (s.list left i)
      west i hi ni = at_frame left (turn (turn (turn x))) i hi (turn_in (turn (turn x)) (turn_in (turn x) (turn_in x ni))) f

      go : (i ≡ j) ⊎ (x.c ≡ p.at up (side down)) → i ≡ j
      go (inl q) = q
      go (inr q) = l.base_one i j (hi, west i hi ni, at_frame down x i hi ni q) (hj, west j hj nj, at_frame down x j hj nj q)

  -- no cell lies in two rooms
  rows : (c : ℕ) (x : Tile p left) → x.c ≡ c → (i j : ℕ) → i < s.count → j < s.count → In p left x (room i) → In p left x (room j) → i ≡ j
  rows zero x e i j hi hj ni nj = absurd (omega (arith, x.ac, ni.ina, l.within left i hi, frame left, l.shape.w_left))
  rows (suc c) x e i j hi hj ni nj =
      go (step left x y mv (λ i j. rows c y refl i j) i j hi hj ni nj)
    where
      y : Tile p left
      y = record { a = x.a + 1; b = x.b; c = c; d = x.d; ac = omega (arith, x.ac); bd = x.bd }

      mv : Moved p left 1 x y
      mv = record { ma = refl; mb = refl; mc = omega arith; md = refl }

      go : (i ≡ j) ⊎ (x.c ≡ p.at right (side left)) → i ≡ j
      go (inl q) = q
      go (inr q) = column x.d (turn x) refl q i j hi hj (turn_in x ni) (turn_in x nj)

  -- a room between N and S, so that they do not meet
  pub gap : p.at up (side down) + p.at down (side up) < p.height
  gap =
      let (i, h) = l.base in
      omega (arith, l.within up i h.0, l.within down i h.0, l.thick up (room i) h.0)

  -- no cell lies in a frame side and in a room
  frame_room : (t : Side) (x : Tile p left) (i : ℕ) → i < s.count → In p left x (side t) → In p left x (room i) → ⊥
  frame_room left x i h m n = apart left x i h m n
  frame_room down x i h m n = apart down (turn x) i h (turn_in x m) (turn_in x n)
  frame_room right x i h m n = omega (arith, m.ina, n.inc, x.ac, l.within right i h)
  frame_room up x i h m n = omega (arith, m.inb, n.ind, x.bd, l.within up i h)

  -- no cell lies in two frame sides
  frames : (t r : Side) (x : Tile p left) → In p left x (side t) → In p left x (side r) → t ≡ r
  frames up up x m n = refl
  frames left left x m n = refl
  frames down down x m n = refl
  frames right right x m n = refl
  frames up left x m n = absurd (omega (arith, m.ina, n.inc, x.ac, l.shape.n_left))
  frames left up x m n = absurd (omega (arith, n.ina, m.inc, x.ac, l.shape.n_left))
  frames up right x m n = absurd (omega (arith, m.inc, n.ina, x.ac, l.shape.n_right))
  frames right up x m n = absurd (omega (arith, n.inc, m.ina, x.ac, l.shape.n_right))
  frames down left x m n = absurd (omega (arith, m.ina, n.inc, x.ac, l.shape.s_left))
  frames left down x m n = absurd (omega (arith, n.ina, m.inc, x.ac, l.shape.s_left))
  frames down right x m n = absurd (omega (arith, m.inc, n.ina, x.ac, l.shape.s_right))
  frames right down x m n = absurd (omega (arith, n.inc, m.ina, x.ac, l.shape.s_right))
  frames up down x m n = absurd (omega (arith, m.inb, n.ind, x.bd, gap))
  frames down up x m n = absurd (omega (arith, n.inb, m.ind, x.bd, gap))
  frames left right x m n = absurd (omega (arith, m.inc, n.ina, x.ac, l.shape.n_left, l.shape.n_right, l.thick left (side up) tt))
  frames right left x m n = absurd (omega (arith, n.inc, m.ina, x.ac, l.shape.n_left, l.shape.n_right, l.thick left (side up) tt))

  -- no cell, seen towards the left, lies in two vertices
  alone_left : (x : Tile p left) (u v : Piece) → Known s u → Known s v → In p left x u → In p left x v → u ≡ v
  alone_left x (side t) (side r) hu hv m n = ap side (frames t r x m n)
  alone_left x (side t) (room j) hu hv m n = absurd (frame_room t x j hv m n)
  alone_left x (room i) (side r) hu hv m n = absurd (frame_room r x i hu n m)
  alone_left x (room i) (room j) hu hv m n = ap room (rows x.c x refl i j hu hv m n)

  -- AT MOST ONE
  pub alone : (k : Side) (x : Tile p k) (u v : Piece) → Known s u → Known s v → In p k x u → In p k x v → u ≡ v
  alone =
      around (λ k. (x : Tile p k) (u v : Piece) → Known s u → Known s v → In p k x u → In p k x v → u ≡ v)
      (λ k below x u v hu hv m n. below (turn x) u v hu hv (turn_in x m) (turn_in x n)) alone_left

  -- a walk in direction k from a room's cell, inside the frame, stays in rooms
  walk : (k : Side) (m : ℕ) (x y : Tile p k) → Moved p k m x y → p.at (opp k) (side k) ≤ y.c → (i : ℕ) → i < s.count → In p k x (room i)
      → (j : ℕ) × (j < s.count) × In p k y (room j)
  unfolding Over
  walk k zero x y mv h i hi n = (
    i,
    hi,
    record {
      ina = omega (arith, n.ina, mv.ma);
      inb = omega (arith, n.inb, mv.mb);
      inc = omega (arith, n.inc, mv.mc);
      ind = omega (arith, n.ind, mv.md);
    },
  )
  walk k (suc m) x y mv h i hi n = on (walk k m x z (record { ma = refl; mb = mv.mb; mc = omega (arith, mv.mc); md = mv.md }) (omega arith) i hi n)
    where
      z : Tile p k
      z = record { a = x.a + m; b = y.b; c = y.c + 1; d = y.d; ac = omega (arith, y.ac, mv.ma); bd = y.bd }

      on : (j : ℕ) × (j < s.count) × In p k z (room j) → (j : ℕ) × (j < s.count) × In p k y (room j)
      on (j, hj, q) = go (dec_lt y.a (p.at k (room j)))
        where
          far : Over k y j → (j : ℕ) × (j < s.count) × In p k y (room j)
          far (inl (r, hr, m, n)) = (r, hr, n)
          far (inr (m, n)) = absurd (omega (arith, n.inc))

          go : Dec (y.a < p.at k (room j)) → (j : ℕ) × (j < s.count) × In p k y (room j)
          go (yes e) = (j, hj, record { ina = e; inb = q.inb; inc = omega (arith, q.inc); ind = q.ind })
          go (no e) = far (over k j hj y (omega (arith, q.ina, mv.ma)) q.inb q.ind)

  -- every cell inside the frame lies in a room
  inner : (x : Tile p right) → p.at right (side left) ≤ x.a → p.at left (side right) ≤ x.c → p.at up (side down) ≤ x.b → p.at down (side up) ≤ x.d
      → (j : ℕ) × (j < s.count) × In p right x (room j)
  inner x ha hc hb hd =
      let (i, h) = l.base in
      let hi : i < s.count = h.0 in
      let tw : p.at left (room i) + p.at right (side left) ≡ p.width = (l.meets left i (side left) hi h.1).touch in
      let ts : p.at down (room i) + p.at up (side down) ≡ p.height = (l.meets down i (side down) hi h.2).touch in
      let tl : p.width < p.at left (room i) + p.at right (room i) = l.thick left (room i) hi in
      let td : p.height < p.at down (room i) + p.at up (room i) = l.thick down (room i) hi in
      let corner : Tile p up = record {
        a = p.at up (side down);
        b = x.c + (x.a - p.at right (side left));
        c = x.d + (x.b - p.at up (side down));
        d = p.at right (side left);
        ac = omega (arith, x.bd);
        bd = omega (arith, x.ac);
      } in
      let edge : Tile p up = record {
        a = x.b;
        b = x.c + (x.a - p.at right (side left));
        c = x.d;
        d = p.at right (side left);
        ac = x.bd;
        bd = omega (arith, x.ac);
      } in
      let (j, hj, n) = walk up (x.b - p.at up (side down)) corner edge (record { ma = omega arith; mb = refl; mc = omega arith; md = refl }) hd i hi
      (record { ina = omega (arith); inb = omega (arith, x.ac); inc = omega (arith, x.bd); ind = omega (arith) }) in
      let start : Tile p right = record {
        a = p.at right (side left);
        b = x.b;
        c = x.c + (x.a - p.at right (side left));
        d = x.d;
        ac = omega (arith, x.ac);
        bd = x.bd;
      } in
      walk right (x.a - p.at right (side left)) start x (record { ma = omega arith; mb = refl; mc = omega arith; md = refl }) hc j hj
      (record { ina = n.ind; inb = n.ina; inc = n.inb; ind = n.inc })

  -- every cell, seen towards the right, lies in some vertex
  cover_right : (x : Tile p right) → (v : Piece) × Known s v × In p right x v
  cover_right x = go (dec_le (p.at right (side left)) x.a) (dec_le (p.at left (side right)) x.c) (dec_le (p.at up (side down)) x.b)
      (dec_le (p.at down (side up)) x.d)
    where
      sh : Shape p
      sh = l.shape

      go : Dec (p.at right (side left) ≤ x.a) → Dec (p.at left (side right) ≤ x.c) → Dec (p.at up (side down) ≤ x.b)
          → Dec (p.at down (side up) ≤ x.d) → (v : Piece) × Known s v × In p right x v
      go (yes ha) (yes hc) (yes hb) (yes hd) = let (j, hj, n) = inner x ha hc hb hd in (room j, hj, n)
      go (no ha) hc hb hd = (
        side left,
        tt,
        record {
          ina = omega arith;
          inb = omega (arith, x.bd, sh.w_up);
          inc = omega (arith, x.ac, sh.w_left);
          ind = omega (arith, x.bd, sh.w_down);
        },
      )
      go (yes ha) (no hc) hb hd = (
        side right,
        tt,
        record {
          ina = omega (arith, x.ac, sh.e_right);
          inb = omega (arith, x.bd, sh.e_up);
          inc = omega arith;
          ind = omega (arith, x.bd, sh.e_down);
        },
      )
      go (yes ha) (yes hc) (no hb) hd = (
        side down,
        tt,
        record {
          ina = omega (arith, x.ac, sh.s_right);
          inb = omega arith;
          inc = omega (arith, x.ac, sh.s_left);
          ind = omega (arith, x.bd, sh.s_down);
        },
      )
      go (yes ha) (yes hc) (yes hb) (no hd) = (
        side up,
        tt,
        record {
          ina = omega (arith, x.ac, sh.n_right);
          inb = omega (arith, x.bd, sh.n_up);
          inc = omega (arith, x.ac, sh.n_left);
          ind = omega arith;
        },
      )

  -- AT LEAST ONE
  pub cover : (k : Side) (x : Tile p k) → (v : Piece) × Known s v × In p k x v
  cover =
      around (λ k. (x : Tile p k) → (v : Piece) × Known s v × In p k x v)
      (λ k below x. let (v, h, n) = below (turn x) in (v, h, turn_out x n))
      (λ x. let (v, h, n) = cover_right (turn (turn x)) in (v, h, turn_out x (turn_out (turn x) n)))
