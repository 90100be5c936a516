-- No point in four, and no two that meet only at a corner, say the same where every cell lies in exactly one. Assumes nothing.
use Rattle.std.specs.Prelude.{◌≡◌, ℕ, zero, suc, ◌+◌, ◌-◌, ◌≤◌, ◌<◌}
use Rattle.std.proofs.Common.{sym, ap, arith}
use Rattle.std.proofs.Math.Decide.{dec_lt, ℕ_discrete}
use Rattle.floor.proofs.Floor.Sides.{Side, next, opp, prev, round, Piece, Place, size, Stars, Known, Tile, In}
use Rattle.floor.proofs.Floor.Cover.{size_opp}

-- a grid point, seen in direction k: how far it lies from the edges
pub record Knot (p : Place) (k : Side) : Type 0 where
  pub a : ℕ
  pub b : ℕ
  pub c : ℕ
  pub d : ℕ
  pub ac : a + c ≡ size p k
  pub bd : b + d ≡ size p (next k)

-- v holds the point, its edge counted in
pub record On (p : Place) (k : Side) (x : Knot p k) (v : Piece) : Type 0 where
  pub ona : x.a ≤ p.at k v
  pub onb : x.b ≤ p.at (next k) v
  pub onc : x.c ≤ p.at (opp k) v
  pub ond : x.d ≤ p.at (prev k) v

-- a point, seen in the next direction
pub turn_knot : {p : Place} {k : Side} → Knot p k → Knot p (next k)
turn_knot {p} {k} x = record { a = x.b; b = x.c; c = x.d; d = x.a; ac = x.bd; bd = omega (arith, x.ac, size_opp p k) }

-- a vertex that holds a point holds it as seen in the next direction
pub turn_on : {p : Place} {k : Side} (x : Knot p k) {v : Piece} → On p k x v → On p (next k) (turn_knot x) v
unfolding turn_knot
turn_on {p} {k} x {v} n = record { ona = n.onb; onb = n.onc; onc = n.ond; ond = rw (round k) n.ona }

-- NO POINT IN FOUR
abbrev pub NoFour : Stars → Place → Side → Type 0
NoFour s p k = (x : Knot p k) (t u v w : Piece) → Known s t → Known s u → Known s v → Known s w → On p k x t → On p k x u → On p k x v → On p k x w
    → (t ≡ u → ⊥) → (t ≡ v → ⊥) → (t ≡ w → ⊥) → (u ≡ v → ⊥) → (u ≡ w → ⊥) → (v ≡ w → ⊥) → ⊥

-- numbers without a: those above it moved down
without : (a v : ℕ) → Dec (v < a) → ℕ
without a v (yes h) = v
without a v (no h) = v - 1

-- a number other than a, both among the first n + 1, is among the first n when a is left out
without_few : (a v n : ℕ) (q : Dec (v < a)) → a < suc n → v < suc n → (a ≡ v → ⊥) → without a v q < n
unfolding without
without_few a v n (yes h) ha hv d = omega arith
without_few a v n (no h) ha hv d = omega arith

-- different numbers other than a stay different when a is left out
without_differ : (a u v : ℕ) (q : Dec (u < a)) (r : Dec (v < a)) → (a ≡ u → ⊥) → (a ≡ v → ⊥) → (u ≡ v → ⊥) → without a u q ≡ without a v r → ⊥
unfolding without
without_differ a u v (yes h) (yes k) x y d e = d e
without_differ a u v (yes h) (no k) x y d e = omega arith
without_differ a u v (no h) (yes k) x y d e = omega arith
without_differ a u v (no h) (no k) x y d e = omega arith

-- four numbers below 3 are not all different, nor five below 4
pigeon4 : (b c d e : ℕ) → b < 3 → c < 3 → d < 3 → e < 3 → (b ≡ c → ⊥) → (b ≡ d → ⊥) → (b ≡ e → ⊥) → (c ≡ d → ⊥) → (c ≡ e → ⊥) → (d ≡ e → ⊥) → ⊥
pigeon4 b c d e hb hc hd he bc bd be cd ce de = omega arith

-- five numbers below 4 are not all different
pub pigeon : (a b c d e : ℕ) → a < 4 → b < 4 → c < 4 → d < 4 → e < 4 → (a ≡ b → ⊥) → (a ≡ c → ⊥) → (a ≡ d → ⊥) → (a ≡ e → ⊥) → (b ≡ c → ⊥) → (b ≡ d → ⊥)
    → (b ≡ e → ⊥) → (c ≡ d → ⊥) → (c ≡ e → ⊥) → (d ≡ e → ⊥) → ⊥
pigeon a b c d e ha hb hc hd he ab ac ad ae bc bd be cd ce de =
    pigeon4 (without a b (dec_lt b a)) (without a c (dec_lt c a)) (without a d (dec_lt d a)) (without a e (dec_lt e a))
    (without_few a b 3 (dec_lt b a) ha hb ab) (without_few a c 3 (dec_lt c a) ha hc ac) (without_few a d 3 (dec_lt d a) ha hd ad)
    (without_few a e 3 (dec_lt e a) ha he ae)
    (without_differ a b c (dec_lt b a) (dec_lt c a) ab ac bc) (without_differ a b d (dec_lt b a) (dec_lt d a) ab ad bd)
    (without_differ a b e (dec_lt b a) (dec_lt e a) ab ae be)
    (without_differ a c d (dec_lt c a) (dec_lt d a) ac ad cd) (without_differ a c e (dec_lt c a) (dec_lt e a) ac ae ce)
    (without_differ a d e (dec_lt d a) (dec_lt e a) ad ae de)

module _ (s : Stars) (p : Place)
    (inside : (k : Side) (v : Piece) → Known s v → p.at k v ≤ size p k)
    (thick : (k : Side) (v : Piece) → Known s v → size p k < p.at k v + p.at (opp k) v)
    (alone : (k : Side) (x : Tile p k) (u v : Piece) → Known s u → Known s v → In p k x u → In p k x v → u ≡ v) where
  -- every side of a vertex reaches at least one cell from the opposite edge of the sheet
  pos : (k : Side) (v : Piece) → Known s v → 1 ≤ p.at k v
  pos k v h = omega (arith, thick k v h, inside (opp k) v h, size_opp p k)

  -- two that meet only at a corner leave two cells there, and so four at the point
  pub four_corner : (cover : (k : Side) (x : Tile p k) → (v : Piece) × Known s v × In p k x v) (k : Side) → NoFour s p k
      → (u v : Piece) → Known s u → Known s v → p.at k u + p.at (opp k) v ≡ size p k → p.at (next k) u + p.at (prev k) v ≡ size p (next k) → ⊥
  four_corner cover k no_four u v hu hv e f =
      let y : Tile p k = record {
        a = p.at k u;
        b = p.at (next k) u - 1;
        c = p.at (opp k) v - 1;
        d = p.at (prev k) v;
        ac = omega (arith, pos (opp k) v hv);
        bd = omega (arith, pos (next k) u hu);
      } in
      let z : Tile p k = record {
        a = p.at k u - 1;
        b = p.at (next k) u;
        c = p.at (opp k) v;
        d = p.at (prev k) v - 1;
        ac = omega (arith, pos k u hu);
        bd = omega (arith, pos (prev k) v hv);
      } in
      let q : Tile p k = record {
        a = p.at k u - 1;
        b = p.at (next k) u - 1;
        c = p.at (opp k) v;
        d = p.at (prev k) v;
        ac = omega (arith, pos k u hu);
        bd = omega (arith, pos (next k) u hu);
      } in
      let x : Knot p k = record { a = p.at k u; b = p.at (next k) u; c = p.at (opp k) v; d = p.at (prev k) v; ac = e; bd = f } in
      let (w, hw, n) = cover k y in
      let (t, ht, m) = cover k z in
      let tu : size p k < p.at k u + p.at (opp k) u = thick k u hu in
      let tu' : size p (next k) < p.at (next k) u + p.at (prev k) u = thick (next k) u hu in
      let tv : size p k < p.at k v + p.at (opp k) v = thick k v hv in
      let tv' : size p (next k) < p.at (next k) v + p.at (prev k) v = thick (next k) v hv in
      no_four x u v w t hu hv hw ht
      (record { ona = omega arith; onb = omega arith; onc = omega arith; ond = omega arith })
      (record { ona = omega arith; onb = omega arith; onc = omega arith; ond = omega arith })
      (record { ona = omega (arith, n.ina); onb = omega (arith, n.inb); onc = omega (arith, n.inc); ond = omega (arith, n.ind) })
      (record { ona = omega (arith, m.ina); onb = omega (arith, m.inb); onc = omega (arith, m.inc); ond = omega (arith, m.ind) })
      (λ same. omega (arith, ap (p.at (opp k)) same))
      (λ same. omega (arith, n.ina, ap (p.at k) same))
      (λ same. omega (arith, m.inb, ap (p.at (next k)) same))
      (λ same. omega (arith, n.ind, ap (p.at (prev k)) same))
      (λ same. omega (arith, m.inc, ap (p.at (opp k)) same))
      (λ same.
      let back : u ≡ w = alone k q u w hu hw
      (record { ina = omega (arith, pos k u hu); inb = omega (arith, pos (next k) u hu); inc = omega arith; ind = omega arith })
      (record { ina = omega (arith, n.ina); inb = omega (arith, n.inb); inc = omega (arith, m.inc, ap (p.at (opp k)) same); ind = n.ind }) in
      omega (arith, n.ina, ap (p.at k) back))

  -- the quarter of the point that v covers: 0 towards k and next k, then counterclockwise
  abbrev Quarter : (k : Side) → Knot p k → Piece → ℕ → Type 0
  Quarter k x v zero = (x.a < p.at k v) × (x.b < p.at (next k) v)
  Quarter k x v (suc zero) = (x.c < p.at (opp k) v) × (x.b < p.at (next k) v)
  Quarter k x v (suc (suc zero)) = (x.c < p.at (opp k) v) × (x.d < p.at (prev k) v)
  Quarter k x v (suc (suc (suc m))) = (x.a < p.at k v) × (x.d < p.at (prev k) v)

  -- one of the four, and a quarter that it covers
  record Held (k : Side) (x : Knot p k) (v : Piece) : Type 0 where
    known : Known s v
    on : On p k x v
    part : ℕ
    few : part < 4
    covers : Quarter k x v part

  -- a vertex that holds a point covers one of the point's quarters
  held : (k : Side) (x : Knot p k) (v : Piece) → Known s v → On p k x v → Held k x v
  held k x v h n = go (dec_lt x.a (p.at k v)) (dec_lt x.b (p.at (next k) v))
    where
      go : Dec (x.a < p.at k v) → Dec (x.b < p.at (next k) v) → Held k x v
      go (yes e) (yes f) = record { known = h; on = n; part = 0; few = omega arith; covers = (e, f) }
      go (no e) (yes f) = record { known = h; on = n; part = 1; few = omega arith; covers = (omega (arith, thick k v h, x.ac), f) }
      go (no e) (no f) = record {
        known = h;
        on = n;
        part = 2;
        few = omega arith;
        covers = (omega (arith, thick k v h, x.ac), omega (arith, thick (next k) v h, x.bd));
      }
      go (yes e) (no f) = record { known = h; on = n; part = 3; few = omega arith; covers = (e, omega (arith, thick (next k) v h, x.bd)) }

  -- a quarter is a cell
  one_quarter : (k : Side) (x : Knot p k) (u v : Piece) → Known s u → Known s v → On p k x u → On p k x v → (m : ℕ) → Quarter k x u m → Quarter k x v m
      → u ≡ v
  one_quarter k x u v hu hv nu nv zero e f =
      alone k (record {
        a = x.a;
        b = x.b;
        c = x.c - 1;
        d = x.d - 1;
        ac = omega (arith, x.ac, inside k u hu, e.0);
        bd = omega (arith, x.bd, inside (next k) u hu, e.1);
      }) u v hu hv
      (record { ina = e.0; inb = e.1; inc = omega (arith, nu.onc, pos (opp k) u hu); ind = omega (arith, nu.ond, pos (prev k) u hu) })
      (record { ina = f.0; inb = f.1; inc = omega (arith, nv.onc, pos (opp k) v hv); ind = omega (arith, nv.ond, pos (prev k) v hv) })
  one_quarter k x u v hu hv nu nv (suc zero) e f =
      alone k (record {
        a = x.a - 1;
        b = x.b;
        c = x.c;
        d = x.d - 1;
        ac = omega (arith, x.ac, inside (opp k) u hu, size_opp p k, e.0);
        bd = omega (arith, x.bd, inside (next k) u hu, e.1);
      }) u v hu hv
      (record { ina = omega (arith, nu.ona, pos k u hu); inb = e.1; inc = e.0; ind = omega (arith, nu.ond, pos (prev k) u hu) })
      (record { ina = omega (arith, nv.ona, pos k v hv); inb = f.1; inc = f.0; ind = omega (arith, nv.ond, pos (prev k) v hv) })
  one_quarter k x u v hu hv nu nv (suc (suc zero)) e f =
      alone k (record {
        a = x.a - 1;
        b = x.b - 1;
        c = x.c;
        d = x.d;
        ac = omega (arith, x.ac, inside (opp k) u hu, size_opp p k, e.0);
        bd = omega (arith, x.bd, inside (prev k) u hu, size_opp p (next k), e.1);
      }) u v hu hv
      (record { ina = omega (arith, nu.ona, pos k u hu); inb = omega (arith, nu.onb, pos (next k) u hu); inc = e.0; ind = e.1 })
      (record { ina = omega (arith, nv.ona, pos k v hv); inb = omega (arith, nv.onb, pos (next k) v hv); inc = f.0; ind = f.1 })
  one_quarter k x u v hu hv nu nv (suc (suc (suc m))) e f =
      alone k (record {
        a = x.a;
        b = x.b - 1;
        c = x.c - 1;
        d = x.d;
        ac = omega (arith, x.ac, inside k u hu, e.0);
        bd = omega (arith, x.bd, inside (prev k) u hu, size_opp p (next k), e.1);
      }) u v hu hv
      (record { ina = e.0; inb = omega (arith, nu.onb, pos (next k) u hu); inc = omega (arith, nu.onc, pos (opp k) u hu); ind = e.1 })
      (record { ina = f.0; inb = omega (arith, nv.onb, pos (next k) v hv); inc = omega (arith, nv.onc, pos (opp k) v hv); ind = f.1 })

  -- different vertices at a point do not cover the same quarter
  differ : (k : Side) (x : Knot p k) (u v : Piece) (hu : Held k x u) (hv : Held k x v) → (u ≡ v → ⊥) → hu.part ≡ hv.part → ⊥
  differ k x u v hu hv d e = d (one_quarter k x u v hu.known hv.known hu.on hv.on hv.part (rw e at hu.covers) hv.covers)

  -- one of four different ones at a point covers a single quarter
  Narrow : (k : Side) → Knot p k → Piece → Type 0
  Narrow k x v = (m n : ℕ) → m < 4 → n < 4 → Quarter k x v m → Quarter k x v n → m ≡ n

  -- of four different vertices at a point, the first covers one quarter only
  narrow : (k : Side) (x : Knot p k) (t u v w : Piece) → Held k x t → Held k x u → Held k x v → Held k x w
      → (t ≡ u → ⊥) → (t ≡ v → ⊥) → (t ≡ w → ⊥) → (u ≡ v → ⊥) → (u ≡ w → ⊥) → (v ≡ w → ⊥) → Narrow k x t
  unfolding Narrow
  narrow k x t u v w ht hu hv hw tu tv tw uv uw vw m n hm hn qm qn = go (ℕ_discrete m n)
    where
      off : (z : Piece) → Held k x z → (t ≡ z → ⊥) → (i : ℕ) → Quarter k x t i → (hz : Held k x z) → i ≡ hz.part → ⊥
      off z _ d i q hz e = d (one_quarter k x t z ht.known hz.known ht.on hz.on hz.part (rw e at q) hz.covers)

      go : Dec (m ≡ n) → m ≡ n
      go (yes e) = e
      go (no e) =
          absurd (pigeon m n hu.part hv.part hw.part hm hn hu.few hv.few hw.few e
          (off u hu tu m qm hu) (off v hv tv m qm hv) (off w hw tw m qm hw) (off u hu tu n qn hu) (off v hv tv n qn hv) (off w hw tw n qn hw)
          (differ k x u v hu hv uv) (differ k x u w hu hw uw) (differ k x v w hv hw vw))

  -- some of the four covers quarter m, and nothing else
  record Holder (k : Side) (x : Knot p k) (m : ℕ) : Type 0 where
    who : Piece
    is_known : Known s who
    is_on : On p k x who
    there : Quarter k x who m
    alone_there : Narrow k x who

  -- of four different vertices at a point, one covers quarter m, and no other quarter
  holder : (k : Side) (x : Knot p k) (m : ℕ) → m < 4 → (t u v w : Piece) → Held k x t → Held k x u → Held k x v → Held k x w
      → (t ≡ u → ⊥) → (t ≡ v → ⊥) → (t ≡ w → ⊥) → (u ≡ v → ⊥) → (u ≡ w → ⊥) → (v ≡ w → ⊥) → Holder k x m
  holder k x m hm t u v w ht hu hv hw tu tv tw uv uw vw = go (ℕ_discrete m ht.part) (ℕ_discrete m hu.part) (ℕ_discrete m hv.part)
      (ℕ_discrete m hw.part)
    where
      make : (z : Piece) (h : Held k x z) → m ≡ h.part → Narrow k x z → Holder k x m
      make z h e n = record { who = z; is_known = h.known; is_on = h.on; there = rw e h.covers; alone_there = n }

      go : Dec (m ≡ ht.part) → Dec (m ≡ hu.part) → Dec (m ≡ hv.part) → Dec (m ≡ hw.part) → Holder k x m
      go (yes e) b c d = make t ht e (narrow k x t u v w ht hu hv hw tu tv tw uv uw vw)
      go (no a) (yes e) c d = make u hu e (narrow k x u t v w hu ht hv hw (λ z. tu (sym z)) uv uw tv tw vw)
      go (no a) (no b) (yes e) d = make v hv e (narrow k x v t u w hv ht hu hw (λ z. tv (sym z)) (λ z. uv (sym z)) vw tu tw uw)
      go (no a) (no b) (no c) (yes e) = make w hw e (narrow k x w t u v hw ht hu hv (λ z. tw (sym z)) (λ z. uw (sym z)) (λ z. vw (sym z)) tu tv uv)
      go (no a) (no b) (no c) (no d) =
          absurd (pigeon m ht.part hu.part hv.part hw.part hm ht.few hu.few hv.few hw.few a b c d
          (differ k x t u ht hu tu) (differ k x t v ht hv tv) (differ k x t w ht hw tw) (differ k x u v hu hv uv) (differ k x u w hu hw uw)
          (differ k x v w hv hw vw))

  -- four at a point: those in opposite quarters meet only there
  pub corner_four : (k : Side) → ((u v : Piece) → Known s u → Known s v → p.at k u + p.at (opp k) v ≡ size p k
      → p.at (next k) u + p.at (prev k) v ≡ size p (next k) → ⊥) → NoFour s p k
  unfolding Narrow
  corner_four k corner x t u v w kt ku kv kw nt nu nv nw tu tv tw uv uw vw =
      let get : (m : ℕ) → m < 4 → Holder k x m = λ m hm. holder k x m hm t u v w (held k x t kt nt) (held k x u ku nu) (held k x v kv nv)
      (held k x w kw nw) tu tv tw uv uw vw in
      meet (get 2 (omega arith)) (get 0 (omega arith))
    where
      meet : Holder k x 2 → Holder k x 0 → ⊥
      meet a b = go (dec_lt x.a (p.at k a.who)) (dec_lt x.b (p.at (next k) a.who)) (dec_lt x.c (p.at (opp k) b.who))
          (dec_lt x.d (p.at (prev k) b.who))
        where
          go : Dec (x.a < p.at k a.who) → Dec (x.b < p.at (next k) a.who) → Dec (x.c < p.at (opp k) b.who)
              → Dec (x.d < p.at (prev k) b.who) → ⊥
          go (yes e) f g h = omega (arith, a.alone_there 2 3 (omega arith) (omega arith) a.there (e, a.there.1))
          go (no e) (yes f) g h = omega (arith, a.alone_there 2 1 (omega arith) (omega arith) a.there (a.there.0, f))
          go (no e) (no f) (yes g) h = omega (arith, b.alone_there 0 1 (omega arith) (omega arith) b.there (g, b.there.1))
          go (no e) (no f) (no g) (yes h) = omega (arith, b.alone_there 0 3 (omega arith) (omega arith) b.there (b.there.0, h))
          go (no e) (no f) (no g) (no h) =
              corner a.who b.who a.is_known b.is_known
              (omega (arith, a.is_on.ona, b.is_on.onc, x.ac)) (omega (arith, a.is_on.onb, b.is_on.ond, x.bd))
