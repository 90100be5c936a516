-- Two rectangles that meet along a line and go past one another at either end: numbers by which the line comes apart between them, and numbers by which
-- the two ends come together. Assumes nothing.
use Rattle.std.specs.Prelude.{ℕ, suc, ◌+◌, ◌-◌, ◌≤◌, ◌<◌, ◌≡◌, ◌⊎◌}
use Rattle.std.proofs.Math.Path.{refl}
use Rattle.std.proofs.Common.{ap}
use Rattle.std.proofs.Math.Logic.{inl, inr}
use native.Mathlib.Omega.{arith}
use Rattle.std.proofs.Math.Decide.{dec_le, dec_lt, ℕ_discrete}

-- rectangles of n vertices, no two with a cell in common, seen in two directions
pub record View (n : ℕ) : Type 0 where
  pub x1 : ℕ → ℕ
  pub x2 : ℕ → ℕ
  pub y1 : ℕ → ℕ
  pub y2 : ℕ → ℕ
  pub width : ℕ
  pub height : ℕ
  pub wide : (r : ℕ) → r < n → x1 r < x2 r
  pub tall : (r : ℕ) → r < n → y1 r < y2 r
  pub in_width : (r : ℕ) → r < n → x2 r ≤ width
  pub in_height : (r : ℕ) → r < n → y2 r ≤ height
  pub apart : (r t : ℕ) → r < n → t < n → (r ≡ t → ⊥) → x1 r < x2 t → x1 t < x2 r → y1 r < y2 t → y1 t < y2 r → ⊥

-- the directions exchanged
unfoldable pub transposed : {n : ℕ} → View n → View n
transposed s = record {
  x1 = s.y1;
  x2 = s.y2;
  y1 = s.x1;
  y2 = s.x2;
  width = s.height;
  height = s.width;
  wide = s.tall;
  tall = s.wide;
  in_width = s.in_height;
  in_height = s.in_width;
  apart = λ r t hr ht ne a b c d. s.apart r t hr ht ne c d a b;
}

-- seen from the far end of the first direction
unfoldable pub mirrored : {n : ℕ} → View n → View n
mirrored s = record {
  x1 = λ r. s.width - s.x2 r;
  x2 = λ r. s.width - s.x1 r;
  y1 = s.y1;
  y2 = s.y2;
  width = s.width;
  height = s.height;
  wide = λ r h. omega (arith, s.wide r h, s.in_width r h);
  tall = s.tall;
  in_width = λ r h. omega arith;
  in_height = s.in_height;
  apart = λ r t hr ht ne a b c d. s.apart r t hr ht ne (omega (arith, s.in_width r hr, s.in_width t ht)) (omega (arith, s.in_width r hr, s.in_width t ht))
      c d;
}

-- t lies beside r, in the first direction; t stands upon r, in the second
abbrev pub Beside : {n : ℕ} → View n → ℕ → ℕ → Type 0
Beside s r t = (s.x2 r ≡ s.x1 t) × (s.y1 r < s.y2 t) × (s.y1 t < s.y2 r)

-- t stands upon r, in the second direction
abbrev pub Upon : {n : ℕ} → View n → ℕ → ℕ → Type 0
Upon s r t = (s.y2 r ≡ s.y1 t) × (s.x1 r < s.x2 t) × (s.x1 t < s.x2 r)

-- v stands upon u, begins before u, and ends before u
pub record Passing {n : ℕ} (s : View n) (u v : ℕ) : Type 0 where
  pub known_u : u < n
  pub known_v : v < n
  pub line : s.y2 u ≡ s.y1 v
  pub before : s.x1 v < s.x1 u
  pub over : s.x1 u < s.x2 v
  pub past : s.x2 v < s.x2 u

-- x is past b, or it has reached a and y is no more than c
abbrev Past : ℕ → ℕ → ℕ → ℕ → ℕ → Type 0
Past b a c x y = (b < x) ⊎ ((a ≤ x) × (y ≤ c))

-- x is past b, or has reached a with y no more than c; or neither is so
unfoldable dec_past : (b a c x y : ℕ) → Dec (Past b a c x y)
dec_past b a c x y = go (dec_lt b x) (dec_le a x) (dec_le y c)
  where
    go : Dec (b < x) → Dec (a ≤ x) → Dec (y ≤ c) → Dec (Past b a c x y)
    go (yes h) q r = yes (inl h)
    go (no h) (yes q) (yes r) = yes (inr (q, r))
    go (no h) (yes q) (no r) = no (λ z. elim z [ inl w ↦ h w | inr w ↦ r w.1 ])
    go (no h) (no q) r = no (λ z. elim z [ inl w ↦ h w | inr w ↦ q w.0 ])

-- d where A holds, else 0
unfoldable extra : {A : Type 0} → Dec A → ℕ → ℕ
extra (yes h) d = d
extra (no h) d = 0

module _ {A : Type 0} (d : ℕ) where
  -- where A holds, d is added
  extra_yes : (q : Dec A) → A → extra q d ≡ d
  unfolding extra
  extra_yes (yes h) a = refl
  extra_yes (no h) a = absurd (h a)

  -- no more than d is added
  extra_most : (q : Dec A) → extra q d ≤ d
  unfolding extra
  extra_most (yes h) = omega arith
  extra_most (no h) = omega arith

  -- where A does not hold, nothing is added
  extra_no : (q : Dec A) → (A → ⊥) → extra q d ≡ 0
  unfolding extra
  extra_no (yes h) a = absurd (a h)
  extra_no (no h) a = refl

module _ {A B : Type 0} (d : ℕ) where
  -- where B holds if A does, no more is added for A than for B
  extra_le : (q : Dec A) (r : Dec B) → (A → B) → extra q d ≤ extra r d
  unfolding extra
  extra_le (yes h) (yes k) f = omega arith
  extra_le (yes h) (no k) f = absurd (k (f h))
  extra_le (no h) r f = omega arith

  -- where B holds exactly if A does, as much is added for A as for B
  extra_same : (q : Dec A) (r : Dec B) → (A → B) → (B → A) → extra q d ≡ extra r d
  unfolding extra
  extra_same (yes h) (yes k) f g = refl
  extra_same (yes h) (no k) f g = absurd (k (f h))
  extra_same (no h) (yes k) f g = absurd (h (g k))
  extra_same (no h) (no k) f g = refl

-- NUMBERS BY WHICH THE LINE COMES APART between u and v, by d at least; all else along it stays. What rises by 1 + g or more, still does
pub record Splits {n : ℕ} (s : View n) (u v d : ℕ) : Type 0 where
  pub lo : ℕ → ℕ
  pub hi : ℕ → ℕ
  pub rises : (r t g : ℕ) → s.y1 r + suc g ≤ s.y2 t → lo r + suc g ≤ hi t
  pub stays : (r t : ℕ) → r < n → t < n → Upon s r t → (r ≡ u → t ≡ v → ⊥) → hi r ≡ lo t
  pub parts : lo v + d ≤ hi u
  pub least : (r : ℕ) → s.y1 r ≤ lo r
  pub most : (r : ℕ) → lo r ≤ s.y1 r + d

-- NUMBERS BY WHICH THE ENDS COME TOGETHER: q then ends where o begins; all other contacts stay
pub record Merges {n : ℕ} (s : View n) (q o : ℕ) : Type 0 where
  pub lo : ℕ → ℕ
  pub hi : ℕ → ℕ
  pub own : (r g : ℕ) → s.x1 r + suc g ≤ s.x2 r → lo r + suc g ≤ hi r
  pub stays : (r t : ℕ) → r < n → t < n → Beside s r t → hi r ≡ lo t
  pub rises : (r t g : ℕ) → r < n → t < n → s.x1 r + suc g ≤ s.x2 t → Upon s r t ⊎ Upon s t r
      → (r ≡ q → t ≡ o → ⊥) → (r ≡ o → t ≡ q → ⊥) → lo r + suc g ≤ hi t
  pub meets : hi q ≡ lo o

module _ {n : ℕ} (s : View n) (u v : ℕ) (c : Passing s u v) where
  -- a vertex is u, or lies clear of it where both reach a row of the sheet
  clear : (w r : ℕ) → w < n → r < n → s.y1 r < s.y2 w → s.y1 w < s.y2 r → (r ≡ w) ⊎ ((s.x2 r ≤ s.x1 w) ⊎ (s.x2 w ≤ s.x1 r))
  clear w r hw hr a b = go (ℕ_discrete r w) (dec_lt (s.x1 r) (s.x2 w)) (dec_lt (s.x1 w) (s.x2 r))
    where
      go : Dec (r ≡ w) → Dec (s.x1 r < s.x2 w) → Dec (s.x1 w < s.x2 r) → (r ≡ w) ⊎ ((s.x2 r ≤ s.x1 w) ⊎ (s.x2 w ≤ s.x1 r))
      go (yes e) p q = inl e
      go (no e) (yes p) (yes q) = absurd (s.apart r w hr hw e p q a b)
      go (no e) (no p) q = inr (inr (omega arith))
      go (no e) (yes p) (no q) = inr (inl (omega arith))

  -- THE LINE COMES APART: what lies above it goes up, and on it the part of u
  module _ (d : ℕ) where
    -- r begins above the line, or on it at the end of v or past that
    abbrev Low : ℕ → Type 0
    Low r = (s.y2 u < s.y1 r) ⊎ ((s.y2 u ≤ s.y1 r) × (s.x2 v ≤ s.x1 r))

    -- r ends above the line, or on it and begins no earlier than u
    abbrev High : ℕ → Type 0
    High r = (s.y2 u < s.y2 r) ⊎ ((s.y2 u ≤ s.y2 r) × (s.x1 u ≤ s.x1 r))

    -- r begins so, or it does not
    abbrev dec_low : (r : ℕ) → Dec (Low r)
    dec_low r = dec_past (s.y2 u) (s.y2 u) (s.x1 r) (s.y1 r) (s.x2 v)

    -- r ends so, or it does not
    abbrev dec_high : (r : ℕ) → Dec (High r)
    dec_high r = dec_past (s.y2 u) (s.y2 u) (s.x1 r) (s.y2 r) (s.x1 u)

    -- the line below and above a contact that stays goes up, or neither
    both : (r t : ℕ) → r < n → t < n → s.y2 r ≡ s.y1 t → s.x1 r < s.x2 t → s.x1 t < s.x2 r → (r ≡ u → t ≡ v → ⊥)
        → s.y2 r ≡ s.y2 u → ((s.x1 u ≤ s.x1 r) × (s.x2 v ≤ s.x1 t)) ⊎ ((s.x1 r < s.x1 u) × (s.x1 t < s.x2 v))
    both r t hr ht e a b ne l =
        go (clear u r c.known_u hr (omega (arith, s.tall r hr)) (omega (arith, s.tall u c.known_u)))
        (clear v t c.known_v ht (omega (arith, s.tall v c.known_v, c.line)) (omega (arith, s.tall t ht, c.line)))
      where
        go : (r ≡ u) ⊎ ((s.x2 r ≤ s.x1 u) ⊎ (s.x2 u ≤ s.x1 r)) → (t ≡ v) ⊎ ((s.x2 t ≤ s.x1 v) ⊎ (s.x2 v ≤ s.x1 t))
            → ((s.x1 u ≤ s.x1 r) × (s.x2 v ≤ s.x1 t)) ⊎ ((s.x1 r < s.x1 u) × (s.x1 t < s.x2 v))
        go (inl p) (inl q) = absurd (ne p q)
        go (inl p) (inr (inl q)) = absurd (omega (arith, ap s.x1 p, c.before))
        go (inl p) (inr (inr q)) = inl (omega (arith, ap s.x1 p), q)
        go (inr (inl p)) q = inr (omega (arith, s.wide r hr), omega (arith, c.over))
        go (inr (inr p)) (inl q) = absurd (omega (arith, ap s.x2 q, c.past))
        go (inr (inr p)) (inr (inl q)) = absurd (omega (arith, c.before, c.over, c.past))
        go (inr (inr p)) (inr (inr q)) = inl (omega (arith, s.wide u c.known_u), q)

    -- where v begins and ends before u, there are numbers by which the line comes apart between them, by d at least
    pub splits : Splits s u v d
    splits = record {
      lo = λ r. s.y1 r + extra (dec_low r) d;
      hi = λ r. s.y2 r + extra (dec_high r) d;
      rises = λ r t g h. omega (arith, extra_le d (dec_low r) (dec_high t) (up r t g h));
      stays = λ r t hr ht (e, a, b) ne.
          omega (arith, e, extra_same d (dec_high r) (dec_low t) (to r t hr ht e a b ne) (of r t hr ht e a b ne));
      parts = omega (
        arith,
        c.line,
        extra_no d (dec_low v) (λ z. elim z [ inl w ↦ omega (arith, c.line) | inr w ↦ omega (arith, w.1, s.wide v c.known_v) ]),
        extra_yes d (dec_high u) (inr (omega arith, omega arith)),
      );
      least = λ r. omega arith;
      most = λ r. omega (arith, extra_most d (dec_low r));
    }
      where
        up : (r t g : ℕ) → s.y1 r + suc g ≤ s.y2 t → Low r → High t
        up r t g h (inl w) = inl (omega arith)
        up r t g h (inr w) = inl (omega (arith, w.0))

        to : (r t : ℕ) → r < n → t < n → s.y2 r ≡ s.y1 t → s.x1 r < s.x2 t → s.x1 t < s.x2 r → (r ≡ u → t ≡ v → ⊥) → High r → Low t
        to r t hr ht e a b ne (inl w) = inl (omega arith)
        to r t hr ht e a b ne (inr w) = go (dec_lt (s.y2 u) (s.y2 r))
          where
            two : ((s.x1 u ≤ s.x1 r) × (s.x2 v ≤ s.x1 t)) ⊎ ((s.x1 r < s.x1 u) × (s.x1 t < s.x2 v)) → Low t
            two (inl q) = inr (omega (arith, w.0), q.1)
            two (inr q) = absurd (omega (arith, w.1, q.0))

            go : Dec (s.y2 u < s.y2 r) → Low t
            go (yes l) = inl (omega arith)
            go (no l) = two (both r t hr ht e a b ne (omega (arith, w.0)))

        of : (r t : ℕ) → r < n → t < n → s.y2 r ≡ s.y1 t → s.x1 r < s.x2 t → s.x1 t < s.x2 r → (r ≡ u → t ≡ v → ⊥) → Low t → High r
        of r t hr ht e a b ne (inl w) = inl (omega arith)
        of r t hr ht e a b ne (inr w) = go (dec_lt (s.y2 u) (s.y2 r))
          where
            two : ((s.x1 u ≤ s.x1 r) × (s.x2 v ≤ s.x1 t)) ⊎ ((s.x1 r < s.x1 u) × (s.x1 t < s.x2 v)) → High r
            two (inl q) = inr (omega (arith, w.0), q.0)
            two (inr q) = absurd (omega (arith, w.1, q.1))

            go : Dec (s.y2 u < s.y2 r) → High r
            go (yes l) = inl l
            go (no l) = two (both r t hr ht e a b ne (omega (arith, w.0)))

  -- THE ENDS COME TOGETHER: what lies past the end of v goes on, and what lies past the beginning of u below the line
  abbrev Goes : ℕ → ℕ → Type 0
  Goes r x = (s.x2 v < x) ⊎ ((s.x1 u ≤ x) × (s.y2 r ≤ s.y2 u))

  -- the side of r at x goes on, or it does not
  abbrev goes : (r x : ℕ) → Dec (Goes r x)
  goes r x = dec_past (s.x2 v) (s.x1 u) (s.y2 u) x (s.y2 r)

  -- nothing crosses the line over u or under v
  under : (t : ℕ) → t < n → s.y1 t < s.y2 u → s.y2 u < s.y2 t → s.x1 t < s.x2 u → s.x2 t ≤ s.x1 u
  under t h a b w = go (clear u t c.known_u h a (omega (arith, s.tall u c.known_u)))
    where
      go : (t ≡ u) ⊎ ((s.x2 t ≤ s.x1 u) ⊎ (s.x2 u ≤ s.x1 t)) → s.x2 t ≤ s.x1 u
      go (inl e) = absurd (omega (arith, ap s.y2 e))
      go (inr (inl e)) = e
      go (inr (inr e)) = absurd (omega arith)

  -- what reaches over the line, from it or from below, and past the beginning of v, is v or begins no earlier than v ends
  upon : (t : ℕ) → t < n → s.y1 t ≤ s.y2 u → s.y2 u < s.y2 t → s.x1 v < s.x2 t → (t ≡ v) ⊎ (s.x2 v ≤ s.x1 t)
  upon t h a b w = go (clear v t c.known_v h (omega (arith, c.line, s.tall v c.known_v)) (omega (arith, c.line)))
    where
      go : (t ≡ v) ⊎ ((s.x2 t ≤ s.x1 v) ⊎ (s.x2 v ≤ s.x1 t)) → (t ≡ v) ⊎ (s.x2 v ≤ s.x1 t)
      go (inl e) = inl e
      go (inr (inl e)) = absurd (omega arith)
      go (inr (inr e)) = inr e

  -- where v begins and ends before u, there are numbers by which v ends where u begins
  pub merges : Merges s v u
  merges = record {
    lo = λ r. s.x1 r + extra (goes r (s.x1 r)) (s.x2 v - s.x1 u);
    hi = λ r. s.x2 r + extra (goes r (s.x2 r)) (s.x2 v - s.x1 u);
    own = λ r g h. omega (arith, extra_le (s.x2 v - s.x1 u) (goes r (s.x1 r)) (goes r (s.x2 r)) (on r g h));
    stays = λ r t hr ht (e, a, b).
        omega (arith, e, extra_same (s.x2 v - s.x1 u) (goes r (s.x2 r)) (goes t (s.x1 t)) (to r t hr ht e a b) (of r t hr ht e a b));
    rises = λ r t g hr ht a l ne ne'.
        omega (arith, extra_le (s.x2 v - s.x1 u) (goes r (s.x1 r)) (goes t (s.x2 t)) (across r t g hr ht a l ne'));
    meets = omega (
      arith,
      c.over,
      extra_no (s.x2 v - s.x1 u) (goes v (s.x2 v))
          (λ z. elim z [ inl w ↦ omega arith | inr w ↦ omega (arith, w.1, c.line, s.tall v c.known_v) ]),
      extra_yes (s.x2 v - s.x1 u) (goes u (s.x1 u)) (inr (omega arith, omega arith)),
    );
  }
    where
      on : (r g : ℕ) → s.x1 r + suc g ≤ s.x2 r → Goes r (s.x1 r) → Goes r (s.x2 r)
      on r g h (inl w) = inl (omega arith)
      on r g h (inr w) = inr (omega (arith, w.0), w.1)

      to : (r t : ℕ) → r < n → t < n → s.x2 r ≡ s.x1 t → s.y1 r < s.y2 t → s.y1 t < s.y2 r → Goes r (s.x2 r) → Goes t (s.x1 t)
      to r t hr ht e a b (inl w) = inl (omega arith)
      to r t hr ht e a b (inr w) = go (dec_lt (s.x2 v) (s.x1 t)) (dec_le (s.y2 t) (s.y2 u))
        where
          go : Dec (s.x2 v < s.x1 t) → Dec (s.y2 t ≤ s.y2 u) → Goes t (s.x1 t)
          go (yes l) m = inl l
          go (no l) (yes m) = inr (omega (arith, w.0), m)
          go (no l) (no m) = absurd (omega (
            arith,
            w.0,
            s.wide t ht,
            under t ht (omega (arith, w.1)) (omega arith) (omega (arith, c.past)),
          ))

      of : (r t : ℕ) → r < n → t < n → s.x2 r ≡ s.x1 t → s.y1 r < s.y2 t → s.y1 t < s.y2 r → Goes t (s.x1 t) → Goes r (s.x2 r)
      of r t hr ht e a b (inl w) = inl (omega arith)
      of r t hr ht e a b (inr w) = go (dec_lt (s.x2 v) (s.x2 r)) (dec_le (s.y2 r) (s.y2 u))
        where
          two : (s.x2 v < s.x2 r → ⊥) → (r ≡ v) ⊎ (s.x2 v ≤ s.x1 r) → s.y1 r < s.y2 u → ⊥
          two l (inl q) m = omega (arith, ap s.y1 q, c.line)
          two l (inr q) m = omega (arith, s.wide r hr, le l)
            where
              le : (s.x2 v < s.x2 r → ⊥) → s.x2 r ≤ s.x2 v
              le l = omega arith

          go : Dec (s.x2 v < s.x2 r) → Dec (s.y2 r ≤ s.y2 u) → Goes r (s.x2 r)
          go (yes l) m = inl l
          go (no l) (yes m) = inr (omega (arith, w.0), m)
          go (no l) (no m) =
              absurd (two l (upon r hr (omega (arith, w.1)) (omega arith) (omega (arith, w.0, c.before))) (omega (arith, w.1)))

      across : (r t g : ℕ) → r < n → t < n → s.x1 r + suc g ≤ s.x2 t → Upon s r t ⊎ Upon s t r → (r ≡ u → t ≡ v → ⊥) → Goes r (s.x1 r)
          → Goes t (s.x2 t)
      across r t g hr ht a touch ne (inl w) = inl (omega arith)
      across r t g hr ht a touch ne (inr w) = go (dec_lt (s.x2 v) (s.x2 t)) (dec_le (s.y2 t) (s.y2 u))
        where
          below : Upon s r t ⊎ Upon s t r → (s.y2 t ≤ s.y2 u → ⊥) → s.y2 r ≡ s.y1 t
          below (inl e) m = e.0
          below (inr e) m = absurd (m (omega (arith, e.0, w.1, s.tall r hr)))

          is_u : (s.x2 t ≤ s.x2 v) → s.y2 r ≡ s.y2 u → (r ≡ u) ⊎ ((s.x2 r ≤ s.x1 u) ⊎ (s.x2 u ≤ s.x1 r)) → r ≡ u
          is_u l e (inl q) = q
          is_u l e (inr (inl q)) = absurd (omega (arith, w.0, s.wide r hr))
          is_u l e (inr (inr q)) = absurd (omega (arith, c.past))

          two : s.x2 t ≤ s.x2 v → s.y2 r ≡ s.y1 t → (t ≡ v) ⊎ (s.x2 v ≤ s.x1 t) → ⊥
          two l e (inr q) = omega (arith, s.wide t ht)
          two l e (inl q) =
              let f : s.y2 r ≡ s.y2 u = omega (arith, ap s.y1 q, c.line) in
              ne (is_u l f (clear u r c.known_u hr (omega (arith, s.tall r hr)) (omega (arith, s.tall u c.known_u)))) q

          go : Dec (s.x2 v < s.x2 t) → Dec (s.y2 t ≤ s.y2 u) → Goes t (s.x2 t)
          go (yes l) m = inl l
          go (no l) (yes m) = inr (omega (arith, w.0), m)
          go (no l) (no m) =
              let e : s.y2 r ≡ s.y1 t = below touch m in
              absurd (two (omega arith) e (upon t ht (omega (arith, w.1)) (omega arith) (omega (arith, w.0, c.before))))

-- THE SAME FROM THE OTHER END: where v ends past u, and begins past u
module _ {n : ℕ} (s : View n) (u v : ℕ) (c : Passing (mirrored s) u v) where
  -- seen from the far end of the second direction, u stands upon v so
  upside : Passing (transposed (mirrored (transposed s))) v u
  unfolding transposed mirrored
  upside =
      let a : s.x2 u ≤ s.width = s.in_width u c.known_u in
      let b : s.x2 v ≤ s.width = s.in_width v c.known_v in
      record {
        known_u = c.known_v;
        known_v = c.known_u;
        line = omega (arith, c.line);
        before = omega (arith, c.past);
        over = omega (arith, c.over);
        past = omega (arith, c.before);
      }

  -- where v begins and ends past u, there are numbers by which the line comes apart between them, by d at least
  pub splits_far : (d : ℕ) → Splits s u v d
  unfolding mirrored
  splits_far d =
      let m : Splits (mirrored s) u v d = splits (mirrored s) u v c d in
      record {
        lo = m.lo;
        hi = m.hi;
        rises = m.rises;
        stays = λ r t hr ht (e, a, b). m.stays r t hr ht
            (e, omega (arith, s.in_width r hr, s.in_width t ht), omega (arith, s.in_width r hr, s.in_width t ht));
        parts = m.parts;
        least = m.least;
        most = m.most;
      }

  -- where v begins and ends past u, there are numbers by which u ends where v begins
  pub merges_far : Merges s u v
  unfolding transposed mirrored
  merges_far =
      let m : Merges (transposed (mirrored (transposed s))) u v = merges (transposed (mirrored (transposed s))) v u upside in
      record {
        lo = m.lo;
        hi = m.hi;
        own = m.own;
        stays = λ r t hr ht (e, a, b). m.stays r t hr ht
            (e, omega (arith, s.in_height r hr, s.in_height t ht), omega (arith, s.in_height r hr, s.in_height t ht));
        rises = λ r t g hr ht a l. m.rises r t g hr ht a (turn r t l);
        meets = m.meets;
      }
    where
      turn : (r t : ℕ) → Upon s r t ⊎ Upon s t r
          → Upon (transposed (mirrored (transposed s))) r t ⊎ Upon (transposed (mirrored (transposed s))) t r
      turn r t (inl (e, a, b)) = inr (omega arith, b, a)
      turn r t (inr (e, a, b)) = inl (omega arith, b, a)
