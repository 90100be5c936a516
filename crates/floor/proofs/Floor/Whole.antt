-- A local plan is a good one. Assumes nothing.
use Rattle.std.specs.Prelude.{◌≡◌, refl, ℕ, ◌+◌, ◌-◌, ◌≤◌, ◌<◌, min}
use Rattle.std.proofs.Common.{ap, inl, inr, arith}
use mathlib.Core.List.{List, [], ◌∷◌, Memᴰ}
use Rattle.floor.proofs.Floor.Sides.{Side, up, left, down, right, next, opp, prev, round, Piece, side, room, Place, size, Stars, Known, Lawful, Meets}
use Rattle.floor.proofs.Floor.Sides.{Tile, In, Linked, Ordered, Rounds, Local, Good, Shape, Contact, Beside, wn, ws, ne, se, nw, sw, en, es}
use Rattle.floor.proofs.Floor.Tiles.{beside, linked_map, linked_tail, first_some, last_some, named_known}
use Rattle.floor.proofs.Floor.Cover.{size_opp, alone, cover, gap}

-- seen from the other side
pub flip : {p : Place} (k : Side) {u v : Piece} → Meets p k u v → Meets p (opp k) v u
flip up m = record { touch = omega (arith, m.touch); ahead = omega (arith, m.ahead); behind = omega (arith, m.behind) }
flip left m = record { touch = omega (arith, m.touch); ahead = omega (arith, m.ahead); behind = omega (arith, m.behind) }
flip down m = record { touch = omega (arith, m.touch); ahead = omega (arith, m.ahead); behind = omega (arith, m.behind) }
flip right m = record { touch = omega (arith, m.touch); ahead = omega (arith, m.ahead); behind = omega (arith, m.behind) }

-- a chain of a transitive relation is in order
pub linked_ordered : (R : Piece → Piece → Type 0) → ((a b c : Piece) → R a b → R b c → R a c) → (l : List Piece) → Linked R l → Ordered R l
linked_ordered R t [] k = tt
linked_ordered R t (v ∷ l) k = (λ w m. later v w l k m, linked_ordered R t l (linked_tail R v l k))
  where
    later : (v w : Piece) (l : List Piece) → Linked R (v ∷ l) → Memᴰ w l → R v w
    later v w [] k x3 = elim x3 [ ]
    later v w (x ∷ l) k (Memᴰ.head e) = rw e k.0
    later v w (x ∷ l) k (Memᴰ.tail m) = t v x w k.0 (later x w l k.1 m)

-- where P gives Q between any two of a list, a list in order by P is in order by Q
pub ordered_map : {P Q : Piece → Piece → Type 0} (l : List Piece) → ((v w : Piece) → Memᴰ v l → Memᴰ w l → P v w → Q v w) → Ordered P l
    → Ordered Q l
ordered_map [] f h = tt
ordered_map (v ∷ l) f h =
    (λ w m. f v w (Memᴰ.head refl) (Memᴰ.tail m) (h.0 w m), ordered_map l (λ x y m n. f x y (Memᴰ.tail m) (Memᴰ.tail n)) h.1)

-- neighbouring frame sides, seen from the other one
pub beside_back : (k t r : Side) → Beside (opp k) t r → Beside k r t
beside_back right t r nw = wn
beside_back right t r sw = ws
beside_back right t r en = ne
beside_back right t r es = se
beside_back left t r wn = nw
beside_back left t r ws = sw
beside_back left t r ne = en
beside_back left t r se = es
beside_back up t r m = elim m [ ]
beside_back down t r m = elim m [ ]

-- frame sides that meet, by their shape alone
module _ (s : Stars) (p : Place) (sh : Shape p) (inside : (k : Side) (v : Piece) → Known s v → p.at k v ≤ size p k) (thick : (k : Side) (v : Piece)
    → Known s v → size p k < p.at k v + p.at (opp k) v) (gap : p.at up (side down) + p.at down (side up) < p.height) where
  -- a frame side that is the neighbour of another on its right side meets it there
  pub beside_meets : {t r : Side} → Beside right t r → Meets p right (side t) (side r)
  beside_meets wn = record {
    touch = omega (arith, sh.n_left);
    ahead = omega (arith, sh.w_up, sh.n_up, thick up (side up) tt);
    behind = omega (arith, sh.w_down, sh.n_up, gap);
  }
  beside_meets ws = record {
    touch = omega (arith, sh.s_left);
    ahead = omega (arith, sh.w_up, sh.s_down, gap);
    behind = omega (arith, sh.w_down, sh.s_down, thick up (side down) tt);
  }
  beside_meets ne = record {
    touch = omega (arith, sh.n_right);
    ahead = omega (arith, sh.e_down, sh.n_up, gap);
    behind = omega (arith, sh.e_up, sh.n_up, thick up (side up) tt);
  }
  beside_meets se = record {
    touch = omega (arith, sh.s_right);
    ahead = omega (arith, sh.e_down, sh.s_down, thick up (side down) tt);
    behind = omega (arith, sh.e_up, sh.s_down, gap);
  }

  -- no two frame sides stand upon one another
  pub no_touch : (t r : Side) → p.at up (side t) + p.at down (side r) ≡ p.height → ⊥
  no_touch up r e = omega (arith, sh.n_up, thick up (side r) tt, inside up (side r) tt)
  no_touch left r e = omega (arith, sh.w_up, thick up (side r) tt, inside up (side r) tt)
  no_touch right r e = omega (arith, sh.e_up, thick up (side r) tt, inside up (side r) tt)
  no_touch down up e = omega (arith, gap)
  no_touch down left e = omega (arith, sh.w_down, thick up (side down) tt, inside down (side down) tt)
  no_touch down right e = omega (arith, sh.e_down, thick up (side down) tt, inside down (side down) tt)
  no_touch down down e = omega (arith, thick up (side down) tt)

  -- a frame side that meets another on its right side is its neighbour there
  beside_right : (t r : Side) → Meets p right (side t) (side r) → Beside right t r
  beside_right left up m = wn
  beside_right left down m = ws
  beside_right up right m = ne
  beside_right down right m = se
  beside_right right r m = absurd (omega (arith, m.touch, sh.e_right, inside right (side r) tt, thick right (side r) tt))
  beside_right left left m = absurd (omega (arith, m.touch, thick right (side left) tt))
  beside_right left right m = absurd (omega (arith, m.touch, sh.n_left, sh.n_right, thick left (side up) tt))
  beside_right up left m = absurd (omega (arith, m.touch, sh.w_left, inside left (side up) tt, thick left (side up) tt))
  beside_right up up m = absurd (omega (arith, m.touch, thick right (side up) tt))
  beside_right up down m = absurd (omega (arith, m.touch, sh.n_left, sh.n_right, sh.s_left, thick left (side up) tt))
  beside_right down left m = absurd (omega (arith, m.touch, sh.w_left, inside left (side down) tt, thick left (side down) tt))
  beside_right down up m = absurd (omega (arith, m.touch, sh.n_left, sh.s_right, sh.n_right, thick left (side up) tt))
  beside_right down down m = absurd (omega (arith, m.touch, thick right (side down) tt))

  -- neighbouring frame sides meet on the side where they are neighbours
  pub frame_meets : (k t r : Side) → Beside k t r → Meets p k (side t) (side r)
  frame_meets right t r m = beside_meets m
  frame_meets left t r m = flip right (beside_meets (beside_back right t r m))
  frame_meets up t r m = elim m [ ]
  frame_meets down t r m = elim m [ ]

  -- frame sides that meet on a side are neighbours there
  pub frame_joined : (k t r : Side) → Meets p k (side t) (side r) → Beside k t r
  frame_joined up t r m = absurd (no_touch t r m.touch)
  frame_joined down t r m = absurd (no_touch r t (omega (arith, m.touch)))
  frame_joined right t r m = beside_right t r m
  frame_joined left t r m = beside_back left r t (beside_right r t (flip left m))

module _ (s : Stars) (p : Place) (g : Lawful s) (l : Local s p) where
  -- each neighbour of a room is a vertex of the job
  known : (k : Side) (i : ℕ) (v : Piece) → i < s.count → Memᴰ v (s.list k i) → Known s v
  known k i v h m = named_known s k v (g.known k i v h m)

  -- every side of a vertex reaches at least one cell from the opposite edge of the sheet
  pos : (k : Side) (v : Piece) → Known s v → 1 ≤ p.at k v
  pos k v h = omega (arith, l.thick k v h, l.inside (opp k) v h, size_opp p k)

  -- both forms of the order
  pub strict : (k : Side) (i : ℕ) → i < s.count → Ordered (λ v w. (p.at (next k) v < p.at (next k) w) × (p.at (prev k) w < p.at (prev k) v))
      (s.list k i)
  strict k i h =
      linked_ordered (λ v w. (p.at (next k) v < p.at (next k) w) × (p.at (prev k) w < p.at (prev k) v))
      (λ a b c q r. (omega (arith, q.0, r.0), omega (arith, q.1, r.1)))
      (s.list k i)
      (linked_map (s.list k i)
      (λ v w m n e. (omega (arith, l.thick (next k) w (known k i w h n)), omega (arith, l.thick (next k) v (known k i v h m)))) (l.linked k i h))

  -- no room meets another vertex at a corner only
  room_corner : (k : Side) (i : ℕ) (v : Piece) → i < s.count → Known s v → p.at k (room i) + p.at (opp k) v ≡ size p k
      → p.at (next k) (room i) + p.at (prev k) v ≡ size p (next k) → ⊥
  room_corner k i v h hv e f =
      let (a, ma, q) = last_some (s.list k i) (l.turns k i h) in
      let (b, mb, t) = first_some (s.list (next k) i) q in
      go a b ma mb (l.meets k i a h ma) (l.meets (next k) i b h mb) (l.thick k v hv) (l.thick (next k) v hv) t
    where
      x : Tile p k
      x = record {
        a = p.at k (room i);
        b = p.at (next k) (room i);
        c = p.at (opp k) v - 1;
        d = p.at (prev k) v - 1;
        ac = omega (arith, l.thick k v hv, l.inside k v hv);
        bd = omega (arith, l.thick (next k) v hv, l.inside (next k) v hv);
      }

      here : In p k x v
      here = record {
        ina = omega (arith, l.thick k v hv);
        inb = omega (arith, l.thick (next k) v hv);
        inc = omega (arith, l.thick k v hv, l.inside k v hv);
        ind = omega (arith, l.thick (next k) v hv, l.inside (next k) v hv);
      }

      go : (a b : Piece) → Memᴰ a (s.list k i) → Memᴰ b (s.list (next k) i) → Meets p k (room i) a → Meets p (next k) (room i) b
          → size p k < p.at k v + p.at (opp k) v → size p (next k) < p.at (next k) v + p.at (prev k) v → Rounds p k (room i) a b → ⊥
      go a b ma mb na nb tv tw (inl t) =
          let wide : size p (opp k) < p.at k (room i) + p.at (opp k) b = rw (round k) at nb.behind in
          let same : b ≡ v = alone s p g l k x b v (known (next k) i b h mb) hv
          (record {
            ina = t.1;
            inb = omega (arith, nb.touch, l.thick (next k) b (known (next k) i b h mb));
            inc = omega (arith, size_opp p k);
            ind = omega (arith, nb.touch, pos (prev k) v hv);
          }) here in
          omega (arith, ap (p.at (opp k)) same, size_opp p k)
      go a b ma mb na nb tv tw (inr t) =
          let same : a ≡ v = alone s p g l k x a v (known k i a h ma) hv
          (record {
            ina = omega (arith, na.touch, l.thick k a (known k i a h ma));
            inb = t.0;
            inc = omega (arith, na.touch, l.inside k v hv);
            ind = omega (arith, na.ahead);
          }) here in
          omega (arith, ap (p.at (prev k)) same, na.ahead)

  -- no frame side stands upon another
  upon : (t r : Side) → p.at up (side t) + p.at down (side r) ≡ p.height → ⊥
  upon = no_touch s p l.shape l.inside l.thick (gap s p g l)

  -- no two vertices meet at a corner only
  pub corner : (k : Side) (u v : Piece) → Known s u → Known s v → p.at k u + p.at (opp k) v ≡ size p k
      → p.at (next k) u + p.at (prev k) v ≡ size p (next k) → ⊥
  corner k (room i) v hu hv e f = room_corner k i v hu hv e f
  corner up (side t) (room j) hu hv e f = room_corner down j (side t) hv hu (omega arith) (omega arith)
  corner left (side t) (room j) hu hv e f = room_corner right j (side t) hv hu (omega arith) (omega arith)
  corner down (side t) (room j) hu hv e f = room_corner up j (side t) hv hu (omega arith) (omega arith)
  corner right (side t) (room j) hu hv e f = room_corner left j (side t) hv hu (omega arith) (omega arith)
  corner up (side t) (side r) hu hv e f = upon t r e
  corner left (side t) (side r) hu hv e f = upon r t (omega arith)
  corner down (side t) (side r) hu hv e f = upon r t (omega arith)
  corner right (side t) (side r) hu hv e f = upon t r f

  -- what meets a room stands in its list
  room_joined : (k : Side) (i : ℕ) (v : Piece) → i < s.count → Known s v → Meets p k (room i) v → Memᴰ v (s.list k i)
  room_joined k i v h hv m =
      let (w, n, q) = beside s p g l k i h x refl (omega (arith, pos (next k) v hv, pos (next k) (room i) h))
      (omega (arith, m.behind, tu, pos (prev k) (room i) h)) in
      rw (alone s p g l k x w v (known k i w h n) hv q here) at n
    where
      tu : size p (next k) < p.at (next k) (room i) + p.at (prev k) (room i)
      tu = l.thick (next k) (room i) h

      tv : size p (next k) < p.at (next k) v + p.at (prev k) v
      tv = l.thick (next k) v hv

      x : Tile p k
      x = record {
        a = p.at k (room i);
        b = min (p.at (next k) (room i)) (p.at (next k) v) - 1;
        c = p.at (opp k) v - 1;
        d = size p (next k) - min (p.at (next k) (room i)) (p.at (next k) v);
        ac = omega (arith, m.touch, l.thick k v hv, l.inside k v hv);
        bd = omega (arith, l.inside (next k) v hv, l.inside (prev k) v hv, l.inside (prev k) (room i) h, size_opp p (next k));
      }

      here : In p k x v
      here = record {
        ina = omega (arith, m.touch, l.thick k v hv);
        inb = omega (arith, pos (next k) v hv, pos (next k) (room i) h);
        inc = omega (arith, pos (opp k) v hv);
        ind = omega (arith, m.ahead, tv, pos (prev k) v hv);
      }

  -- vertices that meet on a side are in contact there by the job
  pub joined : (k : Side) (u v : Piece) → Known s u → Known s v → Meets p k u v → Contact s k u v
  joined k (room i) v hu hv m = room_joined k i v hu hv m
  joined k (side t) (room j) hu hv m = room_joined (opp k) j (side t) hv hu (flip k m)
  joined k (side t) (side r) hu hv m = frame_joined s p l.shape l.inside l.thick (gap s p g l) k t r m

  -- vertices in contact by the job meet on that side
  pub meets : (k : Side) (u v : Piece) → Known s u → Known s v → Contact s k u v → Meets p k u v
  meets k (room i) v hu hv m = l.meets k i v hu m
  meets k (side t) (room j) hu hv m = rw (round k) at (flip (opp k) (l.meets (opp k) j (side t) hv m))
  meets k (side t) (side r) hu hv m = frame_meets s p l.shape l.inside l.thick (gap s p g l) k t r m

  -- LOCAL IS GOOD
  pub local_good : Good s p
  local_good = record {
    shape = l.shape;
    inside = l.inside;
    thick = l.thick;
    cover = cover s p g l;
    alone = alone s p g l;
    corner = corner;
    joined = joined;
    meets = meets;
    order = λ k i h. ordered_map (s.list k i) (λ v w m n q. inl q.0) (strict k i h);
  }
