-- A good plan is local: each list tiles its side. Assumes nothing.
use Rattle.std.specs.Prelude.{◌≡◌, refl, ◌⊎◌, ℕ, ◌+◌, ◌-◌, ◌≤◌, ◌<◌, min}
use Rattle.std.proofs.Common.{ap, inl, inr, arith}
use mathlib.Core.List.{List, [], ◌∷◌, Memᴰ}
use Rattle.std.proofs.Math.Decide.{dec_le, dec_lt, ℕ_discrete}
use Rattle.floor.proofs.Floor.Sides.{Side, up, left, down, right, next, opp, prev, round, Piece, side, room, Place, size, Stars, Known, Lawful, Meets}
use Rattle.floor.proofs.Floor.Sides.{Tile, In, AtFirst, AtLast, Linked, Ordered, Precedes, Rounds, Local, Good, Base, Shape, Beside}
use Rattle.floor.proofs.Floor.Tiles.{named_known}
use Rattle.floor.proofs.Floor.Cover.{size_opp}

-- where an entry t stands to two that follow one another
data Where (E : Piece → Piece → Type 0) (a b t : Piece) : Type 0 where
  is_a : t ≡ a → Where E a b t
  is_b : t ≡ b → Where E a b t
  early : E t a → Where E a b t
  late : E b t → Where E a b t

module _ (R E : Piece → Piece → Type 0) (whole : List Piece)
    (give : (a b : Piece) → Memᴰ a whole → Memᴰ b whole → E a b → ((t : Piece) → Memᴰ t whole → Where E a b t) → R a b) where
  -- what holds between two entries with nothing between them holds from each to the next of a list in order that ends the whole
  linked_of : (l : List Piece) → Ordered E l → ((t : Piece) → Memᴰ t l → Memᴰ t whole)
      → ((t : Piece) → Memᴰ t whole → Memᴰ t l ⊎ ((w : Piece) → Memᴰ w l → E t w)) → Linked R l
  linked_of [] o i c = tt
  linked_of (v ∷ []) o i c = tt
  linked_of (v ∷ w ∷ l) o i c = (
    give v w (i v (Memᴰ.head refl)) (i w (Memᴰ.tail (Memᴰ.head refl))) (o.0 w (Memᴰ.head refl)) (λ t m. place t (c t m)),
    linked_of (w ∷ l) o.1 (λ t m. i t (Memᴰ.tail m)) (λ t m. rest t (c t m)),
  )
    where
      place : (t : Piece) → Memᴰ t (v ∷ w ∷ l) ⊎ ((z : Piece) → Memᴰ z (v ∷ w ∷ l) → E t z) → Where E v w t
      place t (inl (Memᴰ.head e)) = is_a e
      place t (inl (Memᴰ.tail (Memᴰ.head e))) = is_b e
      place t (inl (Memᴰ.tail (Memᴰ.tail m))) = late (o.1.0 t m)
      place t (inr f) = early (f v (Memᴰ.head refl))

      rest : (t : Piece) → Memᴰ t (v ∷ w ∷ l) ⊎ ((z : Piece) → Memᴰ z (v ∷ w ∷ l) → E t z)
          → Memᴰ t (w ∷ l) ⊎ ((z : Piece) → Memᴰ z (w ∷ l) → E t z)
      rest t (inl (Memᴰ.head e)) = inr (λ z m. rw e (o.0 z m))
      rest t (inl (Memᴰ.tail m)) = inl m
      rest t (inr f) = inr (λ z m. f z (Memᴰ.tail m))

-- what holds of an entry that all others follow holds of the first of a list in order
first_of : (P : Piece → Type 0) (E : Piece → Piece → Type 0) (l : List Piece) → (l ≡ [] → ⊥) → Ordered E l
    → ((b : Piece) → Memᴰ b l → ((t : Piece) → Memᴰ t l → (t ≡ b) ⊎ E b t) → P b) → AtFirst P l
first_of P E [] z o f = absurd (z refl)
first_of P E (v ∷ l) z o f = f v (Memᴰ.head refl) place
  where
    place : (t : Piece) → Memᴰ t (v ∷ l) → (t ≡ v) ⊎ E v t
    place t (Memᴰ.head e) = inl e
    place t (Memᴰ.tail m) = inr (o.0 t m)

-- what holds of an entry that follows all others holds of the last of a list in order
last_of : (P : Piece → Type 0) (E : Piece → Piece → Type 0) (l : List Piece) → (l ≡ [] → ⊥) → Ordered E l
    → ((a : Piece) → Memᴰ a l → ((t : Piece) → Memᴰ t l → (t ≡ a) ⊎ E t a) → P a) → AtLast P l
last_of P E [] z o f = absurd (z refl)
last_of P E (v ∷ []) z o f = f v (Memᴰ.head refl) place
  where
    place : (t : Piece) → Memᴰ t (v ∷ []) → (t ≡ v) ⊎ E t v
    place t (Memᴰ.tail x8) = elim x8 [ ]
    place t (Memᴰ.head e) = inl e
last_of P E (v ∷ w ∷ l) z o f = last_of P E (w ∷ l) (λ e. let z : ◌≡◌ {A = ℕ} 0 1 = cc in omega arith) o.1 (λ a m k. f a (Memᴰ.tail m) (place a m k))
  where
    place : (a : Piece) → Memᴰ a (w ∷ l) → ((t : Piece) → Memᴰ t (w ∷ l) → (t ≡ a) ⊎ E t a) → (t : Piece) → Memᴰ t (v ∷ w ∷ l)
        → (t ≡ a) ⊎ E t a
    place a m k t (Memᴰ.head e) = inr (rw e (o.0 a m))
    place a m k t (Memᴰ.tail n) = k t n

-- W and E, N and S leave room between them
module _ (s : Stars) (p : Place) (sh : Shape p)
    (inside : (k : Side) (v : Piece) → Known s v → p.at k v ≤ size p k)
    (thick : (k : Side) (v : Piece) → Known s v → size p k < p.at k v + p.at (opp k) v)
    (alone : (k : Side) (x : Tile p k) (u v : Piece) → Known s u → Known s v → In p k x u → In p k x v → u ≡ v) where
  -- every side of a vertex reaches at least one cell from the opposite edge of the sheet
  pos_of : (k : Side) (v : Piece) → Known s v → 1 ≤ p.at k v
  pos_of k v h = omega (arith, thick k v h, inside (opp k) v h, size_opp p k)

  -- W and E leave room between them
  pub wide_gap_of : p.at right (side left) + p.at left (side right) < p.width
  wide_gap_of = omega (arith, sh.n_left, sh.n_right, thick left (side up) tt)

  -- N and S leave room between them, where they do not meet
  pub gap_of : (Meets p up (side down) (side up) → ⊥) → p.at up (side down) + p.at down (side up) < p.height
  gap_of apart = go (dec_lt (p.at up (side down) + p.at down (side up)) p.height) (ℕ_discrete (p.at up (side down) + p.at down (side up)) p.height)
    where
      go : Dec (p.at up (side down) + p.at down (side up) < p.height) → Dec (p.at up (side down) + p.at down (side up) ≡ p.height)
          → p.at up (side down) + p.at down (side up) < p.height
      go (yes e) f = e
      go (no e) (yes f) = absurd (apart (record {
        touch = f;
        ahead = omega (arith, sh.s_left, sh.n_right, wide_gap_of);
        behind = omega (arith, sh.n_left, sh.s_right, wide_gap_of);
      }))
      go (no e) (no f) =
          let x : Tile p left = record {
            a = p.width - 1 - p.at right (side left);
            b = p.height - p.at up (side down);
            c = p.at right (side left);
            d = p.at up (side down) - 1;
            ac = omega (arith, wide_gap_of);
            bd = omega (arith, pos_of up (side down) tt, inside up (side down) tt);
          } in
          let same : side down ≡ side up = alone left x (side down) (side up) tt tt
          (record {
            ina = omega (arith, sh.s_left, wide_gap_of);
            inb = omega (arith, sh.s_down, pos_of up (side down) tt, pos_of down (side down) tt);
            inc = omega (arith, sh.s_right, wide_gap_of);
            ind = omega (arith, pos_of up (side down) tt);
          })
          (record {
            ina = omega (arith, sh.n_left, wide_gap_of);
            inb = omega (arith, pos_of down (side up) tt);
            inc = omega (arith, sh.n_right, wide_gap_of);
            ind = omega (arith, sh.n_up, inside up (side down) tt, pos_of up (side down) tt);
          }) in
          let z : ◌≡◌ {A = ℕ} 0 1 = cc in
          absurd (omega arith)

module _ (s : Stars) (p : Place) (g : Lawful s) (q : Good s p) where
  -- each neighbour of a room is a vertex of the job
  known : (k : Side) (i : ℕ) (v : Piece) → i < s.count → Memᴰ v (s.list k i) → Known s v
  known k i v h m = named_known s k v (g.known k i v h m)

  -- every side of a vertex reaches at least one cell from the opposite edge of the sheet
  pos : (k : Side) (v : Piece) → Known s v → 1 ≤ p.at k v
  pos = pos_of s p q.shape q.inside q.thick q.alone

  -- what covers a cell beside u meets u
  next_to : (k : Side) (u t : Piece) → Known s u → Known s t → (x : Tile p k) → x.a ≡ p.at k u → x.b < p.at (next k) u → x.d < p.at (prev k) u
      → In p k x t → Meets p k u t
  next_to k u t hu ht x e hb hd n = record {
    touch = go (dec_lt (x.c + 1) (p.at (opp k) t));
    ahead = omega (arith, n.ind, x.bd);
    behind = omega (arith, n.inb, x.bd);
  }
    where
      y : Tile p k
      y = record { a = x.a - 1; b = x.b; c = x.c + 1; d = x.d; ac = omega (arith, x.ac, pos k u hu); bd = x.bd }

      go : Dec (x.c + 1 < p.at (opp k) t) → p.at k u + p.at (opp k) t ≡ size p k
      go (yes f) =
          let same : u ≡ t = q.alone k y u t hu ht
          (record { ina = omega (arith, pos k u hu); inb = hb; inc = omega (arith, x.ac, q.thick k u hu); ind = hd })
          (record { ina = omega (arith, n.ina); inb = n.inb; inc = f; ind = n.ind }) in
          absurd (omega (arith, n.ina, ap (p.at k) same))
      go (no f) = omega (arith, n.inc, x.ac)

  -- a cell beside a room lies in an entry of the list
  found : (k : Side) (i : ℕ) → i < s.count → (x : Tile p k) → x.a ≡ p.at k (room i) → x.b < p.at (next k) (room i) → x.d < p.at (prev k) (room i)
      → (t : Piece) × Memᴰ t (s.list k i) × In p k x t
  found k i h x e hb hd =
      let (t, ht, n) = q.cover k x in
      (t, q.joined k (room i) t h ht (next_to k (room i) t h ht x e hb hd n), n)

  -- each neighbour of a room meets it on the side of its list
  meet : (k : Side) (i : ℕ) (v : Piece) → i < s.count → Memᴰ v (s.list k i) → Meets p k (room i) v
  meet k i v h m = q.meets k (room i) v h (known k i v h m) m

  -- of two entries, the earlier ends where the later begins, or before
  pub before_gap : (k : Side) (i : ℕ) → i < s.count → (a b : Piece) → Memᴰ a (s.list k i) → Memᴰ b (s.list k i) → Precedes p k a b
      → p.at (next k) a + p.at (prev k) b ≤ size p (next k)
  before_gap k i h a b ma mb e = go (dec_le (p.at (next k) a + p.at (prev k) b) (size p (next k)))
    where
      ha : Known s a
      ha = known k i a h ma

      hb : Known s b
      hb = known k i b h mb

      other : Precedes p k a b → size p (next k) < p.at (next k) b + p.at (prev k) a
      other (inl f) = omega (arith, q.thick (next k) a ha)
      other (inr f) = omega (arith, q.thick (next k) b hb)

      differ : Precedes p k a b → a ≡ b → ⊥
      differ (inl f) e = omega (arith, ap (p.at (next k)) e)
      differ (inr f) e = omega (arith, ap (p.at (prev k)) e)

      ta : p.at k (room i) + p.at (opp k) a ≡ size p k
      ta = (meet k i a h ma).touch

      tb : p.at k (room i) + p.at (opp k) b ≡ size p k
      tb = (meet k i b h mb).touch

      x : Tile p k
      x = record {
        a = p.at k (room i);
        b = min (p.at (next k) a) (p.at (next k) b) - 1;
        c = p.at (opp k) a - 1;
        d = size p (next k) - min (p.at (next k) a) (p.at (next k) b);
        ac = omega (arith, ta, pos (opp k) a ha);
        bd = omega (arith, pos (next k) a ha, pos (next k) b hb, q.inside (next k) a ha);
      }

      go : Dec (p.at (next k) a + p.at (prev k) b ≤ size p (next k)) → p.at (next k) a + p.at (prev k) b ≤ size p (next k)
      go (yes f) = f
      go (no f) =
          absurd (differ e (q.alone k x a b ha hb
          (record {
            ina = omega (arith, ta, q.thick k a ha);
            inb = omega (arith, pos (next k) a ha, pos (next k) b hb);
            inc = omega (arith, pos (opp k) a ha);
            ind = omega (arith, other e, pos (prev k) a ha, q.thick (next k) a ha);
          })
          (record {
            ina = omega (arith, tb, q.thick k b hb);
            inb = omega (arith, pos (next k) a ha, pos (next k) b hb);
            inc = omega (arith, ta, tb, pos (opp k) a ha);
            ind = omega (arith, other e, pos (prev k) b hb, q.thick (next k) b hb);
          })))

  -- neighbours in a list abut
  abut : (k : Side) (i : ℕ) → i < s.count → Linked (λ a b. p.at (next k) a + p.at (prev k) b ≡ size p (next k)) (s.list k i)
  abut k i h =
      linked_of (λ a b. p.at (next k) a + p.at (prev k) b ≡ size p (next k)) (Precedes p k) (s.list k i) give (s.list k i) (q.order k i h) (λ t m. m)
      (λ t m. inl m)
    where
      give : (a b : Piece) → Memᴰ a (s.list k i) → Memᴰ b (s.list k i) → Precedes p k a b
          → ((t : Piece) → Memᴰ t (s.list k i) → Where (Precedes p k) a b t) → p.at (next k) a + p.at (prev k) b ≡ size p (next k)
      give a b ma mb e place = go (dec_lt (p.at (next k) a + p.at (prev k) b) (size p (next k)))
        where
          no_more : p.at (next k) a + p.at (prev k) b ≤ size p (next k)
          no_more = before_gap k i h a b ma mb e

          ta : size p (next k) < p.at (next k) a + p.at (prev k) a
          ta = q.thick (next k) a (known k i a h ma)

          tb : size p (next k) < p.at (next k) b + p.at (prev k) b
          tb = q.thick (next k) b (known k i b h mb)

          go : Dec (p.at (next k) a + p.at (prev k) b < size p (next k)) → p.at (next k) a + p.at (prev k) b ≡ size p (next k)
          go (no f) = omega (arith, no_more)
          go (yes f) =
              let x : Tile p k = record {
                a = p.at k (room i);
                b = p.at (next k) a;
                c = p.at (opp k) a - 1;
                d = size p (next k) - 1 - p.at (next k) a;
                ac = omega (arith, (meet k i a h ma).touch, pos (opp k) a (known k i a h ma));
                bd = omega arith;
              } in
              let (t, mt, n) = found k i h x refl (omega (arith, (meet k i b h mb).ahead)) (omega (arith, (meet k i a h ma).behind, pos (prev k) (room i) h)) in
              absurd (clash t mt n.inb (omega (arith, n.ind)) (place t mt))
            where
              clash : (t : Piece) → Memᴰ t (s.list k i) → p.at (next k) a < p.at (next k) t
                  → size p (next k) ≤ p.at (next k) a + p.at (prev k) t → Where (Precedes p k) a b t → ⊥
              clash t mt n m (is_a w) = omega (arith, ap (p.at (next k)) w)
              clash t mt n m (is_b w) = omega (arith, ap (p.at (prev k)) w)
              clash t mt n m (early w) = omega (arith, before_gap k i h t a mt ma w, ta)
              clash t mt n m (late w) = omega (arith, before_gap k i h b t mb mt w, tb)

  -- the last of a list reaches the next corner
  reach_last : (k : Side) (i : ℕ) → i < s.count → (a : Piece) → Memᴰ a (s.list k i)
      → ((t : Piece) → Memᴰ t (s.list k i) → (t ≡ a) ⊎ Precedes p k t a) → p.at (next k) (room i) ≤ p.at (next k) a
  reach_last k i h a ma place =
      let na : Meets p k (room i) a = meet k i a h ma in
      let x : Tile p k = record {
        a = p.at k (room i);
        b = p.at (next k) (room i) - 1;
        c = p.at (opp k) a - 1;
        d = size p (next k) - p.at (next k) (room i);
        ac = omega (arith, na.touch, pos (opp k) a (known k i a h ma));
        bd = omega (arith, pos (next k) (room i) h, q.inside (next k) (room i) h);
      } in
      let (t, mt, n) = found k i h x refl (omega (arith, pos (next k) (room i) h)) (omega (arith, q.thick (next k) (room i) h, pos (prev k) (room i) h)) in
      go t mt (omega (arith, n.inb)) na.ahead (place t mt)
    where
      go : (t : Piece) → Memᴰ t (s.list k i) → p.at (next k) (room i) ≤ p.at (next k) t
          → size p (next k) < p.at (next k) (room i) + p.at (prev k) a → (t ≡ a) ⊎ Precedes p k t a → p.at (next k) (room i) ≤ p.at (next k) a
      go t mt n w (inl e) = omega (arith, ap (p.at (next k)) e)
      go t mt n w (inr e) = absurd (omega (arith, before_gap k i h t a mt ma e))

  -- the first of a list reaches the corner before
  reach_first : (k : Side) (i : ℕ) → i < s.count → (b : Piece) → Memᴰ b (s.list k i)
      → ((t : Piece) → Memᴰ t (s.list k i) → (t ≡ b) ⊎ Precedes p k b t) → p.at (prev k) (room i) ≤ p.at (prev k) b
  reach_first k i h b mb place =
      let nb : Meets p k (room i) b = meet k i b h mb in
      let x : Tile p k = record {
        a = p.at k (room i);
        b = size p (next k) - p.at (prev k) (room i);
        c = p.at (opp k) b - 1;
        d = p.at (prev k) (room i) - 1;
        ac = omega (arith, nb.touch, pos (opp k) b (known k i b h mb));
        bd = omega (arith, pos (prev k) (room i) h, q.inside (prev k) (room i) h, size_opp p (next k));
      } in
      let (t, mt, n) = found k i h x refl (omega (arith, q.thick (next k) (room i) h, pos (next k) (room i) h)) (omega (arith, pos (prev k) (room i) h)) in
      go t mt (omega (arith, n.ind)) nb.behind (place t mt)
    where
      go : (t : Piece) → Memᴰ t (s.list k i) → p.at (prev k) (room i) ≤ p.at (prev k) t
          → size p (next k) < p.at (prev k) (room i) + p.at (next k) b → (t ≡ b) ⊎ Precedes p k b t → p.at (prev k) (room i) ≤ p.at (prev k) b
      go t mt n w (inl e) = omega (arith, ap (p.at (prev k)) e)
      go t mt n w (inr e) = absurd (omega (arith, before_gap k i h b t mb mt e))

  -- at a corner one ends flush and the other goes past
  turn_at : (k : Side) (i : ℕ) → i < s.count → (a b : Piece) → Memᴰ a (s.list k i) → Memᴰ b (s.list (next k) i)
      → p.at (next k) (room i) ≤ p.at (next k) a → p.at k (room i) ≤ p.at k b → Rounds p k (room i) a b
  turn_at k i h a b ma mb ra rb = go (dec_lt (p.at (next k) (room i)) (p.at (next k) a)) (dec_lt (p.at k (room i)) (p.at k b))
    where
      ha : Known s a
      ha = known k i a h ma

      hb : Known s b
      hb = known (next k) i b h mb

      na : Meets p k (room i) a
      na = meet k i a h ma

      nb : Meets p (next k) (room i) b
      nb = meet (next k) i b h mb

      -- b lies beside the room
      wide : size p k < p.at k (room i) + p.at (opp k) b
      wide = let f : size p (opp k) < p.at k (room i) + p.at (opp k) b = rw (round k) at nb.behind in omega (arith, size_opp p k)

      ca : p.at k (room i) < p.at k a
      ca = omega (arith, na.touch, q.thick k a ha)

      cb : p.at (next k) (room i) < p.at (next k) b
      cb = omega (arith, nb.touch, q.thick (next k) b hb)

      x : Tile p k
      x = record {
        a = p.at k (room i);
        b = p.at (next k) (room i);
        c = p.at (opp k) a - 1;
        d = p.at (prev k) b - 1;
        ac = omega (arith, na.touch, pos (opp k) a ha);
        bd = omega (arith, nb.touch, pos (prev k) b hb);
      }

      y : Tile p k
      y = record {
        a = p.at k (room i) - 1;
        b = p.at (next k) (room i);
        c = p.at (opp k) a;
        d = p.at (prev k) b - 1;
        ac = omega (arith, na.touch, pos k (room i) h);
        bd = omega (arith, nb.touch, pos (prev k) b hb);
      }

      z : Tile p k
      z = record {
        a = p.at k (room i);
        b = p.at (next k) (room i) - 1;
        c = p.at (opp k) a - 1;
        d = p.at (prev k) b;
        ac = omega (arith, na.touch, pos (opp k) a ha);
        bd = omega (arith, nb.touch, pos (next k) (room i) h);
      }

      both_flush : ¬ (p.at (next k) (room i) < p.at (next k) a) → ¬ (p.at k (room i) < p.at k b) → ⊥
      both_flush e f =
          let (t, ht, n) = q.cover k x in
          over t ht n (dec_lt (p.at (opp k) a) (p.at (opp k) t)) (dec_lt (p.at (prev k) b) (p.at (prev k) t))
        where
          over : (t : Piece) → Known s t → In p k x t → Dec (p.at (opp k) a < p.at (opp k) t) → Dec (p.at (prev k) b < p.at (prev k) t) → ⊥
          over t ht n (yes m) w =
              let same : b ≡ t = q.alone k y b t hb ht
              (record { ina = omega (arith, pos k (room i) h); inb = cb; inc = omega (arith, wide, na.touch); ind = omega (arith, pos (prev k) b hb) })
              (record { ina = omega (arith, n.ina); inb = n.inb; inc = m; ind = n.ind }) in
              omega (arith, n.ina, ap (p.at k) same)
          over t ht n (no m) (yes w) =
              let same : a ≡ t = q.alone k z a t ha ht
              (record {
                ina = ca;
                inb = omega (arith, pos (next k) (room i) h);
                inc = omega (arith, pos (opp k) a ha);
                ind = omega (arith, na.ahead, nb.touch);
              })
              (record { ina = n.ina; inb = omega (arith, n.inb); inc = n.inc; ind = w }) in
              omega (arith, n.inb, ap (p.at (next k)) same)
          over t ht n (no m) (no w) =
              q.corner k (room i) t h ht (omega (arith, n.inc, na.touch)) (omega (arith, n.ind, nb.touch))

      go : Dec (p.at (next k) (room i) < p.at (next k) a) → Dec (p.at k (room i) < p.at k b) → Rounds p k (room i) a b
      go (yes e) (yes f) =
          let same : a ≡ b = q.alone k x a b ha hb
          (record { ina = ca; inb = e; inc = omega (arith, pos (opp k) a ha); ind = omega (arith, na.ahead, nb.touch, pos (prev k) a ha) })
          (record { ina = f; inb = cb; inc = omega (arith, wide, na.touch, pos (opp k) b hb); ind = omega (arith, pos (prev k) b hb) }) in
          absurd (omega (arith, wide, na.touch, ap (p.at (opp k)) same))
      go (yes e) (no f) = inr (e, omega arith)
      go (no e) (yes f) = inl (omega arith, f)
      go (no e) (no f) = absurd (both_flush e f)

  -- at each corner of a room, of the last of one list and the first of the next one ends flush and the other goes past
  corners : (k : Side) (i : ℕ) → i < s.count → AtLast (λ a. AtFirst (λ b. Rounds p k (room i) a b) (s.list (next k) i)) (s.list k i)
  corners k i h =
      last_of (λ a. AtFirst (λ b. Rounds p k (room i) a b) (s.list (next k) i)) (Precedes p k) (s.list k i) (g.some k i h) (q.order k i h)
      (λ a ma place.
      first_of (λ b. Rounds p k (room i) a b) (Precedes p (next k)) (s.list (next k) i) (g.some (next k) i h) (q.order (next k) i h)
      (λ b mb at.
      turn_at k i h a b ma mb (reach_last k i h a ma place) (rw (round k) at (reach_first (next k) i h b mb at))))

  -- a room's own corner cell, towards k and next k
  own : (k : Side) (v : Piece) → Known s v → Tile p k
  own k v h = record {
    a = p.at k v - 1;
    b = p.at (next k) v - 1;
    c = size p k - p.at k v;
    d = size p (next k) - p.at (next k) v;
    ac = omega (arith, pos k v h, q.inside k v h);
    bd = omega (arith, pos (next k) v h, q.inside (next k) v h);
  }

  -- a vertex covers its own corner cell
  in_own : (k : Side) (v : Piece) (h : Known s v) → In p k (own k v h) v
  unfolding own
  in_own k v h = record {
    ina = omega (arith, pos k v h);
    inb = omega (arith, pos (next k) v h);
    inc = omega (arith, q.thick k v h, pos (opp k) v h);
    ind = omega (arith, q.thick (next k) v h, pos (prev k) v h);
  }

  -- a room lies inside the frame
  within_of : (k : Side) (i : ℕ) (h : i < s.count) → (size p k < p.at k (room i) + p.at (opp k) (side k) → In p k (own k (room i) h) (side k))
      → p.at k (room i) + p.at (opp k) (side k) ≤ size p k
  within_of k i h f = go (dec_le (p.at k (room i) + p.at (opp k) (side k)) (size p k))
    where
      go : Dec (p.at k (room i) + p.at (opp k) (side k) ≤ size p k) → p.at k (room i) + p.at (opp k) (side k) ≤ size p k
      go (yes e) = e
      go (no e) =
          let same : room i ≡ side k = q.alone k (own k (room i) h) (room i) (side k) h tt (in_own k (room i) h) (f (omega arith)) in
          let z : ◌≡◌ {A = ℕ} 0 1 = cc in
          absurd (omega arith)

  -- the frame has its shape: W and E full height, N and S between
  sh : Shape p
  sh = q.shape

  -- no room reaches into W
  within_left : (i : ℕ) → i < s.count → p.at left (room i) + p.at right (side left) ≤ p.width
  unfolding own
  within_left i h = within_of left i h (λ e. record {
    ina = omega (arith, sh.w_left, q.inside left (room i) h, pos left (room i) h);
    inb = omega (arith, sh.w_down, q.inside down (room i) h, pos down (room i) h);
    inc = omega (arith, pos right (side left) tt);
    ind = omega (arith, sh.w_up, pos down (room i) h, q.inside down (room i) h);
  })

  -- no room reaches into E
  within_right : (i : ℕ) → i < s.count → p.at right (room i) + p.at left (side right) ≤ p.width
  unfolding own
  within_right i h = within_of right i h (λ e. record {
    ina = omega (arith, sh.e_right, q.inside right (room i) h, pos right (room i) h);
    inb = omega (arith, sh.e_up, q.inside up (room i) h, pos up (room i) h);
    inc = omega (arith, pos left (side right) tt);
    ind = omega (arith, sh.e_down, pos up (room i) h, q.inside up (room i) h);
  })

  -- no room reaches into the frame, on any side
  within : (k : Side) (i : ℕ) → i < s.count → p.at k (room i) + p.at (opp k) (side k) ≤ size p k
  unfolding own
  within left i h = within_left i h
  within right i h = within_right i h
  within up i h = within_of up i h (λ e. record {
    ina = omega (arith, sh.n_up, q.inside up (room i) h, pos up (room i) h);
    inb = omega (arith, sh.n_left, within_left i h, pos left (room i) h);
    inc = omega (arith, pos down (side up) tt);
    ind = omega (arith, sh.n_right, within_right i h, q.thick left (room i) h, pos right (side up) tt);
  })
  within down i h = within_of down i h (λ e. record {
    ina = omega (arith, sh.s_down, q.inside down (room i) h, pos down (room i) h);
    inb = omega (arith, sh.s_right, within_right i h, pos right (room i) h);
    inc = omega (arith, pos up (side down) tt);
    ind = omega (arith, sh.s_left, within_left i h, q.thick right (room i) h, pos left (side down) tt);
  })

  -- W and E, N and S leave room between them
  wide_gap : p.at right (side left) + p.at left (side right) < p.width
  wide_gap = wide_gap_of s p q.shape q.inside q.thick q.alone

  -- N and S leave room between them
  gap : p.at up (side down) + p.at down (side up) < p.height
  gap = gap_of s p q.shape q.inside q.thick q.alone (λ m. none (q.joined up (side down) (side up) tt tt m))
    where
      none : Beside up down up → ⊥
      none b = elim b [ ]

  -- the cell in the corner between W and S
  first_cell : Tile p left
  first_cell = record {
    a = p.width - 1 - p.at right (side left);
    b = p.height - 1 - p.at up (side down);
    c = p.at right (side left);
    d = p.at up (side down);
    ac = omega (arith, wide_gap);
    bd = omega (arith, gap);
  }

  -- some room lists both W and S
  base : (i : ℕ) × Base s i
  unfolding first_cell
  base = let (v, h, n) = q.cover left first_cell in go v h n
    where
      go : (v : Piece) → Known s v → In p left first_cell v → (i : ℕ) × Base s i
      go (side left) h n = absurd (omega (arith, n.inc))
      go (side down) h n = absurd (omega (arith, n.ind))
      go (side right) h n = absurd (omega (arith, n.ina, wide_gap))
      go (side up) h n = absurd (omega (arith, n.inb, gap))
      go (room i) h n = (
        i,
        (
          h,
          q.joined left (room i) (side left) h tt (record {
            touch = omega (arith, n.ina, within left i h, wide_gap);
            ahead = omega (arith, sh.w_up, pos down (room i) h);
            behind = omega (arith, sh.w_down, pos up (room i) h);
          }),
          q.joined down (room i) (side down) h tt (record {
            touch = omega (arith, n.inb, within down i h, gap);
            ahead = omega (arith, sh.s_left, n.inc);
            behind = omega (arith, sh.s_right, n.ina, wide_gap);
          }),
        ),
      )

  -- only one room lists both W and S
  base_one : (i j : ℕ) → Base s i → Base s j → i ≡ j
  unfolding first_cell
  base_one i j bi bj =
      let same : room i ≡ room j = q.alone left first_cell (room i) (room j) bi.0 bj.0 (here i bi) (here j bj) in cc
    where
      here : (i : ℕ) → Base s i → In p left first_cell (room i)
      here i b =
          let mw : Meets p left (room i) (side left) = meet left i (side left) b.0 b.1 in
          let ms : Meets p down (room i) (side down) = meet down i (side down) b.0 b.2 in
          record {
            ina = omega (arith, mw.touch, wide_gap);
            inb = omega (arith, ms.touch, gap);
            inc =
                omega (arith, mw.touch, q.thick left (room i) b.0);
            ind = omega (arith, ms.touch, q.thick down (room i) b.0);
          }

  -- GOOD IS LOCAL
  pub good_local : Local s p
  good_local = record {
    shape = q.shape;
    inside = q.inside;
    thick = q.thick;
    within = within;
    meets = meet;
    linked = abut;
    turns = corners;
    base = base;
    base_one = base_one;
  }
