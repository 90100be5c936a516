-- Unbroken lines of a floor, in one direction: room sides that meet along a line are joined by contacts, and contacts never join further. Assumes nothing.
use Rattle.std.specs.Prelude.{ℕ, zero, suc, ◌+◌, ◌-◌, ◌≤◌, ◌<◌, ◌≡◌, ◌⊎◌}
use Rattle.std.proofs.Common.{sym, ap, ◌∙◌, inl, inr, arith}
use mathlib.Core.List.{List, Memᴰ}
use Rattle.std.proofs.Math.Decide.{dec_lt, ℕ_discrete}
use Rattle.floor.specs.Walls.{Rule, same, OnWall, here, along, back, low, high}
use Rattle.floor.proofs.Walls.Walk.{onwall_trans, onwall_sym}
use Rattle.floor.specs.Floor.{Different}

-- a floor seen in one direction: each vertex lies across from lo to hi, along from start to stop
pub record View : Type 0 where
  pub count : ℕ
  pub wide : ℕ
  pub long : ℕ
  pub lo : ℕ → ℕ
  pub hi : ℕ → ℕ
  pub start : ℕ → ℕ
  pub stop : ℕ → ℕ

-- v lies along the unit from c to c + 1
pub record Along (w : View) (v c : ℕ) : Type 0 where
  pub lower : w.start v ≤ c
  pub upper : c < w.stop v

-- v covers the cell at x across and c along
pub record In (w : View) (v x c : ℕ) : Type 0 where
  pub left : w.lo v ≤ x
  pub right : x < w.hi v
  pub unit : Along w v c

-- v holds the point at x across and c along
pub record On (w : View) (v x c : ℕ) : Type 0 where
  pub left : w.lo v ≤ x
  pub right : x ≤ w.hi v
  pub lower : w.start v ≤ c
  pub upper : c ≤ w.stop v

-- sides s and t, the high one of u and the low one of v, lie on one line, with a unit inside the frame along both
pub record Ruled (w : View) (s t : ℕ) : Type 0 where
  pub u : ℕ
  pub v : ℕ
  pub c : ℕ
  pub is_u : s ≡ high u
  pub is_v : t ≡ low v
  pub known_u : u < w.count
  pub known_v : v < w.count
  pub line : w.hi u ≡ w.lo v
  pub along_u : Along w u c
  pub along_v : Along w v c
  pub after_frame : 1 ≤ c
  pub before_frame : suc c < w.long

-- what is seen of a floor and its rules
pub record Seen (w : View) (E : List Rule) : Type 0 where
  pub across : (v : ℕ) → v < w.count → (w.lo v < w.hi v) × (w.hi v ≤ w.wide)
  pub lengthwise : (v : ℕ) → v < w.count → (w.start v < w.stop v) × (w.stop v ≤ w.long)
  pub cover : (x c : ℕ) → x < w.wide → c < w.long → (v : ℕ) × (v < w.count) × In w v x c
  pub once : (x c u v : ℕ) → u < w.count → v < w.count → In w u x c → In w v x c → u ≡ v
  pub no_four : (x y a b c d : ℕ) → a < w.count → b < w.count → c < w.count → d < w.count → Different a b c d → On w a x y → On w b x y → On w c x y
      → On w d x y → ⊥
  pub three : 3 ≤ w.wide
  pub room_across : (v : ℕ) → 4 ≤ v → v < w.count → (1 ≤ w.lo v) × (w.hi v < w.wide)
  pub room_along : (v : ℕ) → 4 ≤ v → v < w.count → (1 ≤ w.start v) × (w.stop v < w.long)
  -- inside, the frame lies only at the first and at the last line
  pub frame : (v : ℕ) → v < 4 → (c : ℕ) → Along w v c → 1 ≤ c → suc c < w.long → (w.hi v ≡ 1) ⊎ (w.lo v + 1 ≡ w.wide)
  pub joins : (u v c : ℕ) → u < w.count → v < w.count → (4 ≤ u) ⊎ (4 ≤ v) → w.hi u ≡ w.lo v → Along w u c → Along w v c
      → Memᴰ (same (high u) (low v)) E
  pub ruled : (s t : ℕ) → Memᴰ (same s t) E → Ruled w s t

-- a property kept by every rule that joins is kept along a wall
pub kept : {E : List Rule} (P : ℕ → Type 0) → ((a b : ℕ) → Memᴰ (same a b) E → (P a → P b) × (P b → P a)) → {s t : ℕ} → OnWall E s t → P s → P t
kept P h here x = x
kept P h (along {a} {b} m r) x = kept P h r ((h a b m).0 x)
kept P h (back {a} {b} m r) x = kept P h r ((h a b m).1 x)

module _ (w : View) (E : List Rule) (f : Seen w E) where
  -- a room has a side on line x along the unit from c to c + 1
  pub record Edge (x c : ℕ) : Type 0 where
    pub one : ℕ
    pub is_a_room : 4 ≤ one
    pub known : one < w.count
    pub at : (w.lo one ≡ x) ⊎ (w.hi one ≡ x)
    pub unit : Along w one c

  -- who lies on both sides of it
  pub record Both (x c : ℕ) : Type 0 where
    pub u : ℕ
    pub v : ℕ
    pub known_u : u < w.count
    pub known_v : v < w.count
    pub line_u : w.hi u ≡ x
    pub line_v : w.lo v ≡ x
    pub along_u : Along w u c
    pub along_v : Along w v c
    pub inside : (1 ≤ x) × (x < w.wide)
    pub rule : Memᴰ (same (high u) (low v)) E

  -- before a vertex that begins at a line lies one that ends there
  ends_at : (x c v : ℕ) → v < w.count → w.lo v ≡ x → Along w v c → 1 ≤ x → (u : ℕ) × (u < w.count) × (w.hi u ≡ x) × Along w u c
  ends_at x c v hv e a h =
      let (l, m) = f.across v hv in
      let (u, hu, n) = f.cover (x - 1) c (omega arith) (omega (arith, a.upper, (f.lengthwise v hv).1)) in
      (u, hu, go u hu n, n.unit)
    where
      go : (u : ℕ) → u < w.count → In w u (x - 1) c → w.hi u ≡ x
      go u hu n = two (dec_lt x (w.hi u))
        where
          two : Dec (x < w.hi u) → w.hi u ≡ x
          two (no k) = omega (arith, n.right)
          two (yes k) =
              let q : u ≡ v = f.once x c u v hu hv (record { left = omega (arith, n.left); right = k; unit = n.unit })
              (record { left = omega arith; right = omega (arith, (f.across v hv).0); unit = a }) in
              absurd (omega (arith, n.left, ap w.lo q))

  -- behind a vertex that ends at a line lies one that begins there
  begins_at : (x c u : ℕ) → u < w.count → w.hi u ≡ x → Along w u c → x < w.wide → (v : ℕ) × (v < w.count) × (w.lo v ≡ x) × Along w v c
  begins_at x c u hu e a h =
      let (v, hv, n) = f.cover x c h (omega (arith, a.upper, (f.lengthwise u hu).1)) in
      (v, hv, go v hv n, n.unit)
    where
      go : (v : ℕ) → v < w.count → In w v x c → w.lo v ≡ x
      go v hv n = two (dec_lt (w.lo v) x)
        where
          two : Dec (w.lo v < x) → w.lo v ≡ x
          two (no k) = omega (arith, n.left)
          two (yes k) =
              let q : v ≡ u = f.once (x - 1) c v u hv hu (record { left = omega arith; right = omega (arith, n.right); unit = n.unit })
              (record { left = omega (arith, (f.across u hu).0); right = omega (arith, (f.across u hu).0); unit = a }) in
              absurd (omega (arith, n.right, ap w.hi q))

  -- where a room has a side on a line, a vertex lies on each side of it, and a rule joins their two sides
  pub both_of : {x c : ℕ} → Edge x c → Both x c
  both_of {x} {c} e = go e.at
    where
      r : (1 ≤ w.lo e.one) × (w.hi e.one < w.wide)
      r = f.room_across e.one e.is_a_room e.known

      a : (w.lo e.one < w.hi e.one) × (w.hi e.one ≤ w.wide)
      a = f.across e.one e.known

      go : (w.lo e.one ≡ x) ⊎ (w.hi e.one ≡ x) → Both x c
      go (inl q) =
          let (u, hu, n, m) = ends_at x c e.one e.known q e.unit (omega (arith, r.0)) in
          record {
            u = u;
            v = e.one;
            known_u = hu;
            known_v = e.known;
            line_u = n;
            line_v = q;
            along_u = m;
            along_v = e.unit;
            inside = (omega (arith, r.0), omega (arith, r.1, a.0));
            rule = f.joins u e.one c hu e.known (inr e.is_a_room) (n ∙ sym q) m e.unit;
          }
      go (inr q) =
          let (v, hv, n, m) = begins_at x c e.one e.known q e.unit (omega (arith, r.1)) in
          record {
            u = e.one;
            v = v;
            known_u = e.known;
            known_v = hv;
            line_u = q;
            line_v = n;
            along_u = e.unit;
            along_v = m;
            inside = (omega (arith, r.0, a.0), omega (arith, r.1));
            rule = f.joins e.one v c e.known hv (inl e.is_a_room) (q ∙ sym n) e.unit m;
          }

  -- inside the frame, a line where vertices end and begin is a room's side
  between_two : (x c u v : ℕ) → u < w.count → v < w.count → w.hi u ≡ x → w.lo v ≡ x → Along w u c → Along w v c → 1 ≤ c → suc c < w.long → Edge x c
  between_two x c u v hu hv eu ev au av l h = go (dec_lt u 4) (dec_lt v 4)
    where
      go : Dec (u < 4) → Dec (v < 4) → Edge x c
      go (no a) b = record { one = u; is_a_room = omega arith; known = hu; at = inr eu; unit = au }
      go (yes a) (no b) = record { one = v; is_a_room = omega arith; known = hv; at = inl ev; unit = av }
      go (yes a) (yes b) = absurd (both (f.frame u a c au l h) (f.frame v b c av l h))
        where
          both : (w.hi u ≡ 1) ⊎ (w.lo u + 1 ≡ w.wide) → (w.hi v ≡ 1) ⊎ (w.lo v + 1 ≡ w.wide) → ⊥
          both (inl i) (inl k) = omega (arith, (f.across v hv).0)
          both (inl i) (inr k) = omega (arith, f.three)
          both (inr i) (inl k) = omega (arith, (f.across v hv).0, (f.across u hu).0)
          both (inr i) (inr k) = omega (arith, (f.across u hu).0, (f.across v hv).0)

  -- inside the frame, where a vertex ends at a line before the sheet's end, a room has a side on it
  pub high_edge : (x c u : ℕ) → u < w.count → w.hi u ≡ x → x < w.wide → Along w u c → 1 ≤ c → suc c < w.long → Edge x c
  high_edge x c u hu e h a l k = let (v, hv, n, m) = begins_at x c u hu e a h in between_two x c u v hu hv e n a m l k

  -- inside the frame, where a vertex begins at a line other than the first of the sheet, a room has a side on it
  pub low_edge : (x c v : ℕ) → v < w.count → w.lo v ≡ x → 1 ≤ x → Along w v c → 1 ≤ c → suc c < w.long → Edge x c
  low_edge x c v hv e h a l k = let (u, hu, n, m) = ends_at x c v hv e a h in between_two x c u v hu hv n e m a l k

  -- ALONG A LINE: units next to one another lie on one wall, since no point lies in four
  next_unit : {x c : ℕ} (a : Both x c) (b : Both x (suc c)) → OnWall E (high a.u) (high b.u)
  next_unit {x} {c} a b = go (ℕ_discrete a.u b.u) (ℕ_discrete a.v b.v)
    where
      apart : (u v : ℕ) → u < w.count → w.hi u ≡ x → w.lo v ≡ x → u ≡ v → ⊥
      apart u v hu eu ev q = omega (arith, (f.across u hu).0, ap w.lo q)

      across : a.v ≡ b.v → OnWall E (low a.v) (high b.u)
      across k = rw k (back b.rule here)

      go : Dec (a.u ≡ b.u) → Dec (a.v ≡ b.v) → OnWall E (high a.u) (high b.u)
      go (yes e) k = rw e here
      go (no e) (yes k) = along a.rule (across k)
      go (no e) (no k) =
          absurd (f.no_four x (suc c) a.u a.v b.u b.v a.known_u a.known_v b.known_u b.known_v
          (record {
            ab = apart a.u a.v a.known_u a.line_u a.line_v;
            ac = e;
            ad = apart a.u b.v a.known_u a.line_u b.line_v;
            bc = λ q. apart b.u a.v b.known_u b.line_u a.line_v (sym q);
            bd = k;
            cd = apart b.u b.v b.known_u b.line_u b.line_v;
          })
          (record {
            left = omega (arith, a.line_u, (f.across a.u a.known_u).0);
            right = omega (arith, a.line_u);
            lower = omega (arith, a.along_u.lower);
            upper = a.along_u.upper;
          })
          (record {
            left = omega (arith, a.line_v);
            right = omega (arith, a.line_v, (f.across a.v a.known_v).0);
            lower = omega (arith, a.along_v.lower);
            upper = a.along_v.upper;
          })
          (record {
            left = omega (arith, b.line_u, (f.across b.u b.known_u).0);
            right = omega (arith, b.line_u);
            lower = b.along_u.lower;
            upper = omega (arith, b.along_u.upper);
          })
          (record {
            left = omega (arith, b.line_v);
            right = omega (arith, b.line_v, (f.across b.v b.known_v).0);
            lower = b.along_v.lower;
            upper = omega (arith, b.along_v.upper);
          }))

  -- who ends at the line along the unit is the one before it
  high_both : {x c : ℕ} (v : ℕ) → v < w.count → w.hi v ≡ x → Along w v c → (b : Both x c) → v ≡ b.u
  high_both {x} {c} v hv e a b =
      f.once (x - 1) c v b.u hv b.known_u
      (record { left = omega (arith, (f.across v hv).0); right = omega (arith, b.inside.0); unit = a })
      (record {
        left = omega (arith, (f.across b.u b.known_u).0, b.line_u);
        right = omega (arith, b.inside.0, b.line_u);
        unit = b.along_u;
      })

  -- who begins at the line along the unit is the one behind it
  low_both : {x c : ℕ} (v : ℕ) → v < w.count → w.lo v ≡ x → Along w v c → (b : Both x c) → v ≡ b.v
  low_both {x} {c} v hv e a b =
      f.once x c v b.v hv b.known_v
      (record { left = omega arith; right = omega (arith, (f.across v hv).0); unit = a })
      (record { left = omega (arith, b.line_v); right = omega (arith, (f.across b.v b.known_v).0, b.line_v); unit = b.along_v })

  -- the vertex before a unit, found twice, has its high side on one wall
  unit_again : {x c : ℕ} (a b : Both x c) → OnWall E (high a.u) (high b.u)
  unit_again a b = rw (high_both a.u a.known_u a.line_u a.along_u b) here

  -- where a room has a side on each unit from c to c + k, the high sides before the first and the last of them lie on one wall
  walk : {x : ℕ} (k c : ℕ) → ((i : ℕ) → c ≤ i → i ≤ c + k → Edge x i) → (a : Both x c) (b : Both x (c + k)) → OnWall E (high a.u) (high b.u)
  walk {x} zero c h a b = unit_again a (rw (let e : c + 0 ≡ c = omega arith in e) at b)
  walk {x} (suc k) c h a b =
      let m : Both x (c + k) = both_of (h (c + k) (omega arith) (omega arith)) in
      onwall_trans (walk k c (λ i l u. h i l (omega arith)) a m) (next_unit m (rw (let e : c + suc k ≡ suc (c + k) = omega arith in e) at b))

  -- A RUN: an unbroken line of room sides from b to e, that goes no further
  pub record Run (x b e : ℕ) : Type 0 where
    pub some : b < e
    pub edges : (c : ℕ) → b ≤ c → c < e → Edge x c
    pub before : (c : ℕ) → suc c ≡ b → Edge x c → ⊥
    pub after : Edge x e → ⊥

  -- side s lies on line x along the unit from c to c + 1
  pub data Sided (x c s : ℕ) : Type 0 where
    low_sided : (v : ℕ) → v < w.count → s ≡ low v → w.lo v ≡ x → Along w v c → Sided x c s
    high_sided : (v : ℕ) → v < w.count → s ≡ high v → w.hi v ≡ x → Along w v c → Sided x c s

  -- a side along a unit lies on one wall with the high side of the vertex before that unit
  to_both : {x c s : ℕ} → Sided x c s → (b : Both x c) → OnWall E s (high b.u)
  to_both (low_sided v hv q e a) b = rw (q, low_both v hv e a b) (back b.rule here)
  to_both (high_sided v hv q e a) b = rw (q, high_both v hv e a b) here

  -- JOINED: sides along units of one run lie on one wall
  pub run_joins : {x b e : ℕ} → Run x b e → (c d s t : ℕ) → b ≤ c → c < e → b ≤ d → d < e → Sided x c s → Sided x d t → OnWall E s t
  run_joins {x} {b} {e} r c d s t lc hc ld hd m n = go (dec_lt d c)
    where
      one : (c k s t : ℕ) → b ≤ c → c + k < e → Sided x c s → Sided x (c + k) t → OnWall E s t
      one c k s t h i m n =
          let y : Both x c = both_of (r.edges c h (omega arith)) in
          let z : Both x (c + k) = both_of (r.edges (c + k) (omega arith) i) in
          onwall_trans (to_both m y)
          (onwall_trans (walk k c (λ g l o. r.edges g (omega arith) (omega arith)) y z) (onwall_sym (to_both n z)))

      two : (c d s t : ℕ) → c ≤ d → b ≤ c → d < e → Sided x c s → Sided x d t → OnWall E s t
      two c d s t l h i m n = let q : c + (d - c) ≡ d = omega arith in one c (d - c) s t h (omega arith) m (rw q n)

      go : Dec (d < c) → OnWall E s t
      go (yes l) = onwall_sym (two d c t s (omega arith) ld hc n m)
      go (no l) = two c d s t (omega arith) lc hd m n

  -- AND NO FURTHER. What lies on the line within the run: inside the frame, from its start to its stop
  pub record Held (b e v : ℕ) : Type 0 where
    pub lower : (c : ℕ) → Along w v c → 1 ≤ c → suc c < w.long → b ≤ c
    pub upper : (c : ℕ) → Along w v c → 1 ≤ c → suc c < w.long → c < e

  -- a stretch of room sides that has a unit in a run lies in it
  held : {x b e : ℕ} → Run x b e → (v c : ℕ) → b ≤ c → c < e → Along w v c → 1 ≤ c → suc c < w.long
      → ((d : ℕ) → Along w v d → 1 ≤ d → suc d < w.long → Edge x d) → Held b e v
  held {x} {b} {e} r v c l h a i k edges = record {
    lower = λ d y m n. low_end d y m n (dec_lt d b);
    upper = λ d y m n. high_end d y m n (dec_lt d e);
  }
    where
      low_end : (d : ℕ) → Along w v d → 1 ≤ d → suc d < w.long → Dec (d < b) → b ≤ d
      low_end d y m n (no q) = omega arith
      low_end d y m n (yes q) =
          absurd (r.before (b - 1) (omega arith) (edges (b - 1) (record { lower = omega (arith, y.lower); upper = omega (arith, a.upper) }) (omega arith)
          (omega arith)))

      high_end : (d : ℕ) → Along w v d → 1 ≤ d → suc d < w.long → Dec (d < e) → d < e
      high_end d y m n (yes q) = q
      high_end d y m n (no q) =
          absurd (r.after (edges e (record { lower = omega (arith, a.lower); upper = omega (arith, y.upper) }) (omega arith) (omega arith)))

  -- side s is in the run
  pub record InRun (x b e s : ℕ) : Type 0 where
    pub if_low : (v : ℕ) → v < w.count → s ≡ low v → (w.lo v ≡ x) × Held b e v
    pub if_high : (v : ℕ) → v < w.count → s ≡ high v → (w.hi v ≡ x) × Held b e v

  -- a low side on the run's line, with a unit of the run inside the frame, is in the run
  low_in : {x b e : ℕ} → Run x b e → (v c : ℕ) → v < w.count → w.lo v ≡ x → 1 ≤ x → b ≤ c → c < e → Along w v c → 1 ≤ c → suc c < w.long
      → InRun x b e (low v)
  low_in {x} {b} {e} r v c hv q o l h a i k = record {
    if_low = λ u hu z.
        let m : v ≡ u = omega arith in
        let n : (w.lo v ≡ x) × Held b e v = (q, held r v c l h a i k (λ d y m n. low_edge x d v hv q o y m n)) in
        rw m at n;
    if_high = λ u hu z. absurd (omega arith);
  }

  -- a high side on the run's line, with a unit of the run inside the frame, is in the run
  high_in : {x b e : ℕ} → Run x b e → (v c : ℕ) → v < w.count → w.hi v ≡ x → x < w.wide → b ≤ c → c < e → Along w v c → 1 ≤ c → suc c < w.long
      → InRun x b e (high v)
  high_in {x} {b} {e} r v c hv q o l h a i k = record {
    if_low = λ u hu z. absurd (omega arith);
    if_high = λ u hu z.
        let m : v ≡ u = omega arith in
        let n : (w.hi v ≡ x) × Held b e v = (q, held r v c l h a i k (λ d y m n. high_edge x d v hv q o y m n)) in
        rw m at n;
  }

  -- a rule does not lead out of the run
  stays : {x b e : ℕ} → Run x b e → (1 ≤ x) × (x < w.wide) → (s t : ℕ) → Memᴰ (same s t) E
      → (InRun x b e s → InRun x b e t) × (InRun x b e t → InRun x b e s)
  stays {x} {b} {e} r (lo, hi) s t m = go (f.ruled s t m)
    where
      go : Ruled w s t → (InRun x b e s → InRun x b e t) × (InRun x b e t → InRun x b e s)
      go k = (
        λ i.
            let (q, h) = i.if_high k.u k.known_u k.is_u in
            rw k.is_v (low_in r k.v k.c k.known_v (sym k.line ∙ q) lo (h.lower k.c k.along_u k.after_frame k.before_frame)
            (h.upper k.c k.along_u k.after_frame k.before_frame) k.along_v k.after_frame k.before_frame),
        λ i.
            let (q, h) = i.if_low k.v k.known_v k.is_v in
            rw k.is_u (high_in r k.u k.c k.known_u (k.line ∙ q) hi (h.lower k.c k.along_v k.after_frame k.before_frame)
            (h.upper k.c k.along_v k.after_frame k.before_frame) k.along_u k.after_frame k.before_frame),
      )

  -- every side on one wall with a side along a unit of the run, inside the frame, is in the run
  pub run_keeps : {x b e : ℕ} → Run x b e → (c s t : ℕ) → b ≤ c → c < e → 1 ≤ c → suc c < w.long → Sided x c s → OnWall E s t → InRun x b e t
  run_keeps {x} {b} {e} r c s t l h i k d p =
      let n : Both x c = both_of (r.edges c l h) in
      kept (InRun x b e) (stays r n.inside) p (first d n)
    where
      first : Sided x c s → Both x c → InRun x b e s
      first (low_sided v hv q m a) n = rw q (low_in r v c hv m n.inside.0 l h a i k)
      first (high_sided v hv q m a) n = rw q (high_in r v c hv m n.inside.1 l h a i k)
