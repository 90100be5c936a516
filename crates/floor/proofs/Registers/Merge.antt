-- The fast way: room sides taken in order of line and beginning, and merged where they touch, give the register's walls; in whatever order they came before.
-- Assumes nothing.
use Prim.Native.Nat.{ℕ, suc, ◌+◌, ◌-◌, ◌≤◌, ◌<◌, max}
use Rattle.std.specs.Prelude.{◌≡◌, ◌⊎◌, Bool, false, cond, ◌&&◌, leb, ltb, eqb}
use Rattle.std.proofs.Math.Path.{refl, sym, ap}
use Rattle.std.proofs.Common.{◌∙◌}
use Rattle.std.proofs.Math.Logic.{inl, inr}
use Rattle.std.proofs.Math.Bool.{true}
use mathlib.Core.List.Memᴰ
use mathlib.Core.List.{List, [], ◌∷◌, Memᴰ}
use native.Mathlib.Omega.{arith}
use Rattle.std.proofs.Math.Decide.{dec_lt}
use borrow.Author.Tests.{leb-true, ltb-true, eqb-true, le-leb, eq-eqb}
use Rattle.floor.specs.Lists.{all, pairwise, up_from}
use Rattle.floor.specs.Lists.Laws.{bit, count}
use Rattle.floor.proofs.Lists.Laws.{no_false, and_parts, and_both, or_cases, same_test, count_nil, count_cons, count_some, none_count}
use Rattle.floor.proofs.Lists.Laws.{any_count, all_mem, mem_all, count_same, sorted_same, up_from_mem}
use Rattle.floor.specs.Registers.{Stretch, Partition, earlier, built, starts, end_from, between, partition, walls_of}
use Rattle.floor.proofs.Registers.Lines.{covers, covers_of, between_of, of_between, end_is, built_to, built_some, some_built, not_built, starts_is}
use Rattle.floor.proofs.Registers.Lines.{starts_of}
use Rattle.floor.proofs.Registers.Right.{earlier_number, earlier_begins, walls_mem, mem_walls, lines_order}
use Rattle.floor.proofs.Registers.Unique.{never_both}
use Rattle.floor.specs.Registers.Merge.{in_line, opened, extended, goes_on, merge_from, merged}

-- the same sides, in whatever order: any test counts as many
abbrev pub Rearranged : List Stretch → List Stretch → Type 0
Rearranged S M = (h : Stretch → Bool) → count h S ≡ count h M

-- a side lies on a sheet with so many lines, so long
pub record Fit (long wide : ℕ) (s : Stretch) : Type 0 where
  pub some : s.begins < s.ends
  pub in_long : s.ends ≤ long
  pub in_wide : s.line < wide

-- what the order says
pub line_of : (s t : Stretch) → in_line s t ≡ true → (s.line < t.line) ⊎ ((s.line ≡ t.line) × (s.begins ≤ t.begins))
unfolding in_line
line_of s t e = go (or_cases (ltb s.line t.line) (eqb s.line t.line && leb s.begins t.begins) e)
  where
    go : (ltb s.line t.line ≡ true) ⊎ ((eqb s.line t.line && leb s.begins t.begins) ≡ true)
        → (s.line < t.line) ⊎ ((s.line ≡ t.line) × (s.begins ≤ t.begins))
    go (inl h) = inl (ltb-true s.line t.line h)
    go (inr h) =
        let (a, b) = and_parts (eqb s.line t.line) (leb s.begins t.begins) h in
        inr (eqb-true s.line t.line a, leb-true s.begins t.begins b)

-- a side with which the wall goes on lies on its line, and begins no later than where the wall ends
on_of : (w : Partition) (s : Stretch) → goes_on w s ≡ true → (s.line ≡ w.number) × (s.begins ≤ w.ends)
unfolding goes_on
on_of w s e =
    let (a, b) = and_parts (eqb s.line w.number) (leb s.begins w.ends) e in
    (eqb-true s.line w.number a, leb-true s.begins w.ends b)

-- a side on the wall's line with which it does not go on begins after the wall's end
off_of : (w : Partition) (s : Stretch) → goes_on w s ≡ false → s.line ≡ w.number → w.ends < s.begins
unfolding goes_on
off_of w s e q = go (dec_lt w.ends s.begins)
  where
    go : Dec (w.ends < s.begins) → w.ends < s.begins
    go (yes h) = h
    go (no h) = no_false (sym e ∙ and_both _ _ (eq-eqb s.line w.number q) (le-leb s.begins w.ends (omega arith)))

-- a side of which a wall is made, or that is done before it
pub data Done (w : Partition) (s : Stretch) : Type 0 where
  line_before : s.line < w.number → Done w s
  ends_before : s.line ≡ w.number → s.ends < w.begins → Done w s
  inside : s.line ≡ w.number → w.begins ≤ s.begins → s.ends ≤ w.ends → Done w s

-- a side that comes after the beginning of a wall
abbrev Ahead : Partition → Stretch → Type 0
Ahead w s = (w.number < s.line) ⊎ ((s.line ≡ w.number) × (w.begins ≤ s.begins))

-- a side that comes after the end of a wall
abbrev Far : Partition → Stretch → Type 0
Far w s = (w.number < s.line) ⊎ ((s.line ≡ w.number) × (w.ends < s.begins))

module _ (d long wide : ℕ) (M : List Stretch) where
  -- what is known while merging: P is merged, w is the last wall of it, L is left
  pub record Inv (P : List Stretch) (w : Partition) (L : List Stretch) : Type 0 where
    pub is_direction : w.direction ≡ d
    pub split : (h : Stretch → Bool) → count h M ≡ count h P + count h L
    pub some : w.begins < w.ends
    pub in_long : w.ends ≤ long
    pub in_wide : w.number < wide
    pub fit_done : (s : Stretch) → Memᴰ s P → Fit long wide s
    pub fit_left : (s : Stretch) → Memᴰ s L → Fit long wide s
    pub done : (s : Stretch) → Memᴰ s P → Done w s
    pub units : (c : ℕ) → w.begins ≤ c → c < w.ends → built P w.number c ≡ true
    pub counted : w.sides ≡ count (between w.number w.begins w.ends) P
    pub ahead : (s : Stretch) → Memᴰ s L → Ahead w s

  -- who covers a unit in all is done or left
  part : {P L : List Stretch} {w : Partition} → Inv P w L → (x c : ℕ) → built M x c ≡ true
      → (s : Stretch) × (Memᴰ s P ⊎ Memᴰ s L) × (s.line ≡ x) × (s.begins ≤ c) × (c < s.ends)
  unfolding built
  part {P} {L} i x c e =
      let n : 1 ≤ count (covers x c) M = leb-true 1 (count (covers x c) M) (sym (any_count (covers x c) M) ∙ e) in
      go (dec_lt 0 (count (covers x c) P)) n
    where
      go : Dec (0 < count (covers x c) P) → 1 ≤ count (covers x c) M
          → (s : Stretch) × (Memᴰ s P ⊎ Memᴰ s L) × (s.line ≡ x) × (s.begins ≤ c) × (c < s.ends)
      go (yes h) n =
          let (s, m, q) = count_some (covers x c) P h in
          let (a, b, k) = covers_of x c s q in
          (s, inl m, a, b, k)
      go (no h) n =
          let (s, m, q) = count_some (covers x c) L (omega (arith, i.split (covers x c))) in
          let (a, b, k) = covers_of x c s q in
          (s, inr m, a, b, k)

  -- a unit built of the sides merged so far is built of all the sides
  whole : {P L : List Stretch} {w : Partition} → Inv P w L → (x c : ℕ) → built P x c ≡ true → built M x c ≡ true
  unfolding built
  whole {P} {L} i x c e =
      let n : 1 ≤ count (covers x c) P = leb-true 1 (count (covers x c) P) (sym (any_count (covers x c) P) ∙ e) in
      any_count (covers x c) M ∙ le-leb 1 (count (covers x c) M) (omega (arith, i.split (covers x c)))

  -- y is the wall that begins at some place on some line of the sheet, counted from all the sides
  abbrev Entered : Partition → Type 0
  Entered y = (x : ℕ) × (b : ℕ) × (starts M x b ≡ true) × (b < long) × (x < wide) × (y ≡ partition d M long x b)

  -- CLOSED: a wall after whose end every side left comes is the wall counted from all the sides
  closed : (P L : List Stretch) (w : Partition) → Inv P w L → ((s : Stretch) → Memᴰ s L → Far w s)
      → (starts M w.number w.begins ≡ true) × (w ≡ partition d M long w.number w.begins)
  unfolding partition
  closed P L w i far = (begin, equal)
    where
      x : ℕ
      x = w.number

      free : built M x w.ends ≡ false
      free = not_built M x w.ends (λ e. let (s, m, a, b, k) = part i x w.ends e in go s m a b k)
        where
          go : (s : Stretch) → Memᴰ s P ⊎ Memᴰ s L → s.line ≡ x → s.begins ≤ w.ends → w.ends < s.ends → ⊥
          go s (inl m) a b k = two (i.done s m)
            where
              two : Done w s → ⊥
              two (line_before h) = omega arith
              two (ends_before q h) = omega (arith, i.some)
              two (inside q h g) = omega arith
          go s (inr m) a b k = two (far s m)
            where
              two : Far w s → ⊥
              two (inl h) = omega arith
              two (inr (q, h)) = omega arith

      begin : starts M x w.begins ≡ true
      begin = starts_is M x w.begins (whole i x w.begins (i.units w.begins (omega arith) i.some))
          (λ c q e. let (s, m, a, b, k) = part i x c e in go c q s m a b k)
        where
          go : (c : ℕ) → suc c ≡ w.begins → (s : Stretch) → Memᴰ s P ⊎ Memᴰ s L → s.line ≡ x → s.begins ≤ c → c < s.ends → ⊥
          go c q s (inl m) a b k = two (i.done s m)
            where
              two : Done w s → ⊥
              two (line_before h) = omega arith
              two (ends_before z h) = omega arith
              two (inside z h g) = omega arith
          go c q s (inr m) a b k = two (far s m)
            where
              two : Far w s → ⊥
              two (inl h) = omega arith
              two (inr (z, h)) = omega (arith, i.some)

      ends : end_from M x long w.begins ≡ w.ends
      ends = end_is M x long w.begins w.ends (omega (arith, i.some)) (omega (arith, i.in_long)) (λ c l h. whole i x c (i.units c l h)) free

      none : count (between x w.begins w.ends) L ≡ 0
      none = none_count (between x w.begins w.ends) L (λ s m. go s m (between x w.begins w.ends s) refl)
        where
          go : (s : Stretch) → Memᴰ s L → (t : Bool) → between x w.begins w.ends s ≡ t → between x w.begins w.ends s ≡ false
          go s m false e = e
          go s m true e = let (a, b, k) = between_of x w.begins w.ends s e in absurd (two a b k (far s m))
            where
              two : s.line ≡ x → w.begins ≤ s.begins → s.ends ≤ w.ends → Far w s → ⊥
              two a b k (inl h) = omega arith
              two a b k (inr (q, h)) = omega (arith, (i.fit_left s m).some)

      sides : w.sides ≡ count (between x w.begins (end_from M x long w.begins)) M
      sides = rw ends (omega (arith, i.counted, i.split (between x w.begins w.ends), none))

      equal : w ≡ record {
        direction = d;
        number = x;
        begins = w.begins;
        ends = end_from M x long w.begins;
        sides = count (between x w.begins (end_from M x long w.begins)) M;
      }
      equal = λ k. record { direction = i.is_direction k; number = x; begins = w.begins; ends = sym ends k; sides = sides k }

  -- one side more is done: it counts where it was left
  moved : (P L : List Stretch) (s : Stretch) → ((h : Stretch → Bool) → count h M ≡ count h P + count h (s ∷ L))
      → (h : Stretch → Bool) → count h M ≡ count h (s ∷ P) + count h L
  moved P L s e h = omega (arith, e h, count_cons h s P, count_cons h s L)

  -- THE WALL GOES ON
  goes_on_lem : (P L : List Stretch) (w : Partition) (s : Stretch) → Inv P w (s ∷ L) → s.line ≡ w.number → s.begins ≤ w.ends → Inv (s ∷ P) (extended w s) L
  unfolding extended
  goes_on_lem P L w s i q h = record {
    is_direction = i.is_direction;
    split = moved P L s i.split;
    some = omega (arith, i.some);
    in_long = omega (arith, i.in_long, fs.in_long);
    in_wide = i.in_wide;
    fit_done = fit;
    fit_left = λ t m. i.fit_left t (Memᴰ.tail m);
    done = done;
    units = λ c l k. units c l k (dec_lt c w.ends);
    counted = counted;
    ahead = λ t m. i.ahead t (Memᴰ.tail m);
  }
    where
      fs : Fit long wide s
      fs = i.fit_left s (Memᴰ.head refl)

      lo : w.begins ≤ s.begins
      lo = go (i.ahead s (Memᴰ.head refl))
        where
          go : Ahead w s → w.begins ≤ s.begins
          go (inl k) = absurd (omega arith)
          go (inr (a, k)) = k

      fit : (t : Stretch) → Memᴰ t (s ∷ P) → Fit long wide t
      fit t (Memᴰ.head e) = rw e fs
      fit t (Memᴰ.tail m) = i.fit_done t m

      done : (t : Stretch) → Memᴰ t (s ∷ P) → Done (extended w s) t
      done t (Memᴰ.head e) = rw e (inside q lo (omega arith))
      done t (Memᴰ.tail m) = go (i.done t m)
        where
          go : Done w t → Done (extended w s) t
          go (line_before a) = line_before a
          go (ends_before a b) = ends_before a b
          go (inside a b c) = inside a b (omega arith)

      units : (c : ℕ) → w.begins ≤ c → c < max w.ends s.ends → Dec (c < w.ends) → built (s ∷ P) w.number c ≡ true
      units c l k (yes b) =
          let (t, m, a, x, y) = built_some P w.number c (i.units c l b) in
          some_built (s ∷ P) w.number c t (Memᴰ.tail m) a x y
      units c l k (no b) = some_built (s ∷ P) w.number c s (Memᴰ.head refl) q (omega arith) (omega arith)

      same : (t : Stretch) → Memᴰ t P
          → between w.number w.begins (max w.ends s.ends) t ≡ between w.number w.begins w.ends t
      same t m =
          same_test (between w.number w.begins (max w.ends s.ends) t) (between w.number w.begins w.ends t)
          (λ e. let (a, b, k) = between_of w.number w.begins (max w.ends s.ends) t e in go a b (i.done t m))
          (λ e. let (a, b, k) = between_of w.number w.begins w.ends t e in
          of_between w.number w.begins (max w.ends s.ends) t a b (omega arith))
        where
          go : t.line ≡ w.number → w.begins ≤ t.begins → Done w t → between w.number w.begins w.ends t ≡ true
          go a b (line_before x) = absurd (omega arith)
          go a b (ends_before x y) = absurd (omega (arith, (i.fit_done t m).some))
          go a b (inside x y z) = of_between w.number w.begins w.ends t a b z

      counted : suc w.sides ≡ count (between w.number w.begins (max w.ends s.ends)) (s ∷ P)
      counted =
          let e : between w.number w.begins (max w.ends s.ends) s ≡ true = of_between w.number w.begins (max w.ends s.ends) s q lo
          (omega arith) in
          omega (
            arith,
            count_cons (between w.number w.begins (max w.ends s.ends)) s P,
            ap bit e,
            count_same (between w.number w.begins (max w.ends s.ends)) (between w.number w.begins w.ends) P same,
            i.counted,
          )

  -- A NEW WALL BEGINS
  begins_new : (P L : List Stretch) (w : Partition) (s : Stretch) → Inv P w (s ∷ L) → Far w s
      → ((t : Stretch) → Memᴰ t L → in_line s t ≡ true) → Inv (s ∷ P) (opened d s) L
  unfolding opened
  begins_new P L w s i far sorted = record {
    is_direction = refl;
    split = moved P L s i.split;
    some = fs.some;
    in_long = fs.in_long;
    in_wide = fs.in_wide;
    fit_done = fit;
    fit_left = λ t m. i.fit_left t (Memᴰ.tail m);
    done = done;
    units = λ c l k. some_built (s ∷ P) s.line c s (Memᴰ.head refl) refl l k;
    counted = counted;
    ahead = λ t m. ahead t (line_of s t (sorted t m));
  }
    where
      fs : Fit long wide s
      fs = i.fit_left s (Memᴰ.head refl)

      fit : (t : Stretch) → Memᴰ t (s ∷ P) → Fit long wide t
      fit t (Memᴰ.head e) = rw e fs
      fit t (Memᴰ.tail m) = i.fit_done t m

      ahead : (t : Stretch) → (s.line < t.line) ⊎ ((s.line ≡ t.line) × (s.begins ≤ t.begins)) → Ahead (opened d s) t
      ahead t (inl h) = inl h
      ahead t (inr (a, b)) = inr (sym a, b)

      -- what was merged lies behind
      before : (t : Stretch) → Memᴰ t P → (t.line < s.line) ⊎ ((t.line ≡ s.line) × (t.ends < s.begins))
      before t m = go (i.done t m) far
        where
          go : Done w t → Far w s → (t.line < s.line) ⊎ ((t.line ≡ s.line) × (t.ends < s.begins))
          go (line_before a) (inl h) = inl (omega arith)
          go (line_before a) (inr (q, h)) = inl (omega arith)
          go (ends_before a b) (inl h) = inl (omega arith)
          go (ends_before a b) (inr (q, h)) = inr (omega arith, omega (arith, i.some))
          go (inside a b c) (inl h) = inl (omega arith)
          go (inside a b c) (inr (q, h)) = inr (omega arith, omega arith)

      done : (t : Stretch) → Memᴰ t (s ∷ P) → Done (opened d s) t
      done t (Memᴰ.head e) = rw e (inside refl (omega arith) (omega arith))
      done t (Memᴰ.tail m) = go (before t m)
        where
          go : (t.line < s.line) ⊎ ((t.line ≡ s.line) × (t.ends < s.begins)) → Done (opened d s) t
          go (inl a) = line_before a
          go (inr (a, b)) = ends_before a b

      none : count (between s.line s.begins s.ends) P ≡ 0
      none = none_count (between s.line s.begins s.ends) P (λ t m. go t m (between s.line s.begins s.ends t) refl)
        where
          go : (t : Stretch) → Memᴰ t P → (b : Bool) → between s.line s.begins s.ends t ≡ b → between s.line s.begins s.ends t ≡ false
          go t m false e = e
          go t m true e = let (a, b, k) = between_of s.line s.begins s.ends t e in absurd (two a b (before t m))
            where
              two : t.line ≡ s.line → s.begins ≤ t.begins → (t.line < s.line) ⊎ ((t.line ≡ s.line) × (t.ends < s.begins)) → ⊥
              two a b (inl h) = omega arith
              two a b (inr (q, h)) = omega (arith, (i.fit_done t m).some)

      counted : 1 ≡ count (between s.line s.begins s.ends) (s ∷ P)
      counted =
          let e : between s.line s.begins s.ends s ≡ true = of_between s.line s.begins s.ends s refl (omega arith) (omega arith) in
          omega (arith, count_cons (between s.line s.begins s.ends) s P, ap bit e, none)

  -- WHAT MERGING GIVES
  pub record Merged (w : Partition) (L : List Stretch) (R : List Partition) : Type 0 where
    pub each : (y : Partition) → Memᴰ y R → Entered y
    pub later : (y : Partition) → Memᴰ y R → (y.direction ≡ d) × ((w.number < y.number) ⊎ ((y.number ≡ w.number) × (w.begins ≤ y.begins)))
    pub holds : (s : Stretch) → Memᴰ s L ⊎ ((s.line ≡ w.number) × (w.begins ≤ s.begins) × (s.ends ≤ w.ends))
        → (y : Partition) × Memᴰ y R × (s.line ≡ y.number) × (y.begins ≤ s.begins) × (s.ends ≤ y.ends)
    pub order : pairwise earlier R ≡ true

  -- a wall after whose end every side left comes is entered in the register
  entered : (P L : List Stretch) (w : Partition) → Inv P w L → ((s : Stretch) → Memᴰ s L → Far w s) → Entered w
  entered P L w i far =
      let (a, b) = closed P L w i far in
      (w.number, w.begins, a, omega (arith, i.some, i.in_long), i.in_wide, b)

  -- merging the sides left, in order, gives walls of the register, in order, that hold every side
  merge_gives : (P : List Stretch) (w : Partition) (L : List Stretch) → Inv P w L → pairwise in_line L ≡ true → Merged w L (merge_from d w L)
  unfolding merge_from pairwise all
  merge_gives P w [] i sorted = record {
    each = each;
    later = later;
    holds = holds;
    order = refl;
  }
    where
      each : (y : Partition) → Memᴰ y (w ∷ []) → Entered y
      each y (Memᴰ.head e) = rw e (entered P [] w i (λ s m. absurd (Memᴰ.not-nil m)))
      each y (Memᴰ.tail m) = absurd (Memᴰ.not-nil m)

      later : (y : Partition) → Memᴰ y (w ∷ []) → (y.direction ≡ d) × ((w.number < y.number) ⊎ ((y.number ≡ w.number) × (w.begins ≤ y.begins)))
      later y (Memᴰ.head e) = rw e (i.is_direction, inr (refl, omega arith))
      later y (Memᴰ.tail m) = absurd (Memᴰ.not-nil m)

      holds : (s : Stretch) → Memᴰ s [] ⊎ ((s.line ≡ w.number) × (w.begins ≤ s.begins) × (s.ends ≤ w.ends))
          → (y : Partition) × Memᴰ y (w ∷ []) × (s.line ≡ y.number) × (y.begins ≤ s.begins) × (s.ends ≤ y.ends)
      holds s (inl m) = absurd (Memᴰ.not-nil m)
      holds s (inr (a, b, c)) = (w, Memᴰ.head refl, a, b, c)
  merge_gives P w (s ∷ L) i sorted =
      go (goes_on w s) refl (λ k. merge_gives (s ∷ P) (extended w s) L k (and_parts (all (in_line s) L) (pairwise in_line L) sorted).1)
      (λ k. merge_gives (s ∷ P) (opened d s) L k (and_parts (all (in_line s) L) (pairwise in_line L) sorted).1)
    where
      after : (t : Stretch) → Memᴰ t L → in_line s t ≡ true
      after = all_mem (in_line s) L (and_parts (all (in_line s) L) (pairwise in_line L) sorted).0

      on : Inv (s ∷ P) (extended w s) L → s.line ≡ w.number → (R : List Partition) → Merged (extended w s) L R → Merged w (s ∷ L) R
      on k q R r = record { each = r.each; later = later; holds = holds; order = r.order }
        where
          later : (y : Partition) → Memᴰ y R → (y.direction ≡ d) × ((w.number < y.number) ⊎ ((y.number ≡ w.number) × (w.begins ≤ y.begins)))
          later = unfold extended in r.later

          lo : w.begins ≤ s.begins
          lo = two (i.ahead s (Memᴰ.head refl))
            where
              two : Ahead w s → w.begins ≤ s.begins
              two (inl h) = absurd (omega arith)
              two (inr (a, b)) = b

          holds : (t : Stretch) → Memᴰ t (s ∷ L) ⊎ ((t.line ≡ w.number) × (w.begins ≤ t.begins) × (t.ends ≤ w.ends))
              → (y : Partition) × Memᴰ y R × (t.line ≡ y.number) × (y.begins ≤ t.begins) × (t.ends ≤ y.ends)
          holds t (inl (Memᴰ.head e)) = rw e (r.holds s (inr (unfold extended in (q, lo, omega arith))))
          holds t (inl (Memᴰ.tail m)) = r.holds t (inl m)
          holds t (inr (a, b, c)) = r.holds t (inr (unfold extended in (a, b, omega arith)))

      off : Far w s → (R : List Partition) → Merged (opened d s) L R → Merged w (s ∷ L) (w ∷ R)
      off far R r = record { each = each; later = later; holds = holds; order = order }
        where
          all_far : (t : Stretch) → Memᴰ t (s ∷ L) → Far w t
          all_far t (Memᴰ.head e) = rw e far
          all_far t (Memᴰ.tail m) = two far (line_of s t (after t m))
            where
              two : Far w s → (s.line < t.line) ⊎ ((s.line ≡ t.line) × (s.begins ≤ t.begins)) → Far w t
              two (inl h) (inl k) = inl (omega arith)
              two (inl h) (inr (a, k)) = inl (omega arith)
              two (inr (q, h)) (inl k) = inl (omega arith)
              two (inr (q, h)) (inr (a, k)) = inr (omega arith, omega arith)

          each : (y : Partition) → Memᴰ y (w ∷ R) → Entered y
          each y (Memᴰ.head e) = rw e (entered P (s ∷ L) w i all_far)
          each y (Memᴰ.tail m) = r.each y m

          -- everything behind lies later than w
          behind : (y : Partition) → Memᴰ y R → (y.direction ≡ d) × ((w.number < y.number) ⊎ ((y.number ≡ w.number) × (w.begins < y.begins)))
          behind y m = unfold opened in (let (a, b) = r.later y m in (a, two far b))
            where
              two : Far w s → (s.line < y.number) ⊎ ((y.number ≡ s.line) × (s.begins ≤ y.begins))
                  → (w.number < y.number) ⊎ ((y.number ≡ w.number) × (w.begins < y.begins))
              two (inl h) (inl k) = inl (omega arith)
              two (inl h) (inr (a, k)) = inl (omega arith)
              two (inr (q, h)) (inl k) = inl (omega arith)
              two (inr (q, h)) (inr (a, k)) = inr (omega arith, omega (arith, i.some))

          later : (y : Partition) → Memᴰ y (w ∷ R) → (y.direction ≡ d) × ((w.number < y.number) ⊎ ((y.number ≡ w.number) × (w.begins ≤ y.begins)))
          later y (Memᴰ.head e) = rw e (i.is_direction, inr (refl, omega arith))
          later y (Memᴰ.tail m) = let (a, b) = behind y m in (a, two b)
            where
              two : (w.number < y.number) ⊎ ((y.number ≡ w.number) × (w.begins < y.begins))
                  → (w.number < y.number) ⊎ ((y.number ≡ w.number) × (w.begins ≤ y.begins))
              two (inl h) = inl h
              two (inr (q, h)) = inr (q, omega arith)

          holds : (t : Stretch) → Memᴰ t (s ∷ L) ⊎ ((t.line ≡ w.number) × (w.begins ≤ t.begins) × (t.ends ≤ w.ends))
              → (y : Partition) × Memᴰ y (w ∷ R) × (t.line ≡ y.number) × (y.begins ≤ t.begins) × (t.ends ≤ y.ends)
          holds t (inl (Memᴰ.head e)) =
              let (y, m, a, b, c) = r.holds s (inr (unfold opened in (refl, omega arith, omega arith))) in
              rw e (y, Memᴰ.tail m, a, b, c)
          holds t (inl (Memᴰ.tail n)) = let (y, m, a, b, c) = r.holds t (inl n) in (y, Memᴰ.tail m, a, b, c)
          holds t (inr (a, b, c)) = (w, Memᴰ.head refl, a, b, c)

          order : pairwise earlier (w ∷ R) ≡ true
          order = and_both _ _ (mem_all (earlier w) R (λ y m. let (a, b) = behind y m in two y (i.is_direction ∙ sym a) b)) r.order
            where
              two : (y : Partition) → w.direction ≡ y.direction → (w.number < y.number) ⊎ ((y.number ≡ w.number) × (w.begins < y.begins))
                  → earlier w y ≡ true
              two y a (inl h) = earlier_number w y a h
              two y a (inr (q, h)) = earlier_begins w y a (sym q) h

      go : (t : Bool) → goes_on w s ≡ t → (Inv (s ∷ P) (extended w s) L → Merged (extended w s) L (merge_from d (extended w s) L))
          → (Inv (s ∷ P) (opened d s) L → Merged (opened d s) L (merge_from d (opened d s) L))
          → Merged w (s ∷ L) (cond t (merge_from d (extended w s) L) (w ∷ merge_from d (opened d s) L))
      go true e f g =
          let (q, h) = on_of w s e in
          let k : Inv (s ∷ P) (extended w s) L = goes_on_lem P L w s i q h in
          on k q (merge_from d (extended w s) L) (f k)
      go false e f g =
          let far : Far w s = two (i.ahead s (Memᴰ.head refl)) in
          off far (merge_from d (opened d s) L) (g (begins_new P L w s i far after))
        where
          two : Ahead w s → Far w s
          two (inl h) = inl h
          two (inr (q, h)) = inr (q, off_of w s e q)

-- THE WALLS OF SIDES IN ORDER, merged, are the walls counted afresh
pub merged_walls : (d long wide : ℕ) (M : List Stretch) → ((s : Stretch) → Memᴰ s M → Fit long wide s) → pairwise in_line M ≡ true
    → merged d M ≡ walls_of d M long (up_from 0 wide)
merged_walls d long wide [] fit sorted = go (walls_of d [] long (up_from 0 wide)) none
  where
    none : (y : Partition) → Memᴰ y (walls_of d [] long (up_from 0 wide)) → ⊥
    none y m =
        let (x, b, i, t, l, e) = walls_mem d [] long (up_from 0 wide) y m in
        let (s, k, q, g, h) = built_some [] x b (starts_of [] x b t).0 in
        Memᴰ.not-nil k

    go : (R : List Partition) → ((y : Partition) → Memᴰ y R → ⊥) → merged d [] ≡ R
    go [] h = unfold merged in refl
    go (y ∷ R) h = absurd (h y (Memᴰ.head refl))
merged_walls d long wide (s ∷ L) fit sorted =
    sorted_same earlier never_both (merged d (s ∷ L)) (walls_of d M long (up_from 0 wide)) (unfold merged in r.order) (lines_order d M long 0 wide)
    (λ y m. forth y (unfold merged in m)) back
  where
    M : List Stretch
    M = s ∷ L

    fs : Fit long wide s
    fs = fit s (Memᴰ.head refl)

    parts : (all (in_line s) L ≡ true) × (pairwise in_line L ≡ true)
    parts = unfold pairwise in and_parts (all (in_line s) L) (pairwise in_line L) sorted

    first : Inv d long wide M (s ∷ []) (opened d s) L
    first = unfold opened in record {
      is_direction = refl;
      split = λ h. omega (arith, count_cons h s L, count_cons h s [], count_nil h);
      some = fs.some;
      in_long = fs.in_long;
      in_wide = fs.in_wide;
      fit_done = λ t m. one t m fs;
      fit_left = λ t m. fit t (Memᴰ.tail m);
      done = λ t m. own t m;
      units = λ c l k. some_built (s ∷ []) s.line c s (Memᴰ.head refl) refl l k;
      counted =
          let e : between s.line s.begins s.ends s ≡ true = of_between s.line s.begins s.ends s refl (omega arith) (omega arith) in
          omega (
            arith,
            count_cons (between s.line s.begins s.ends) s [],
            count_nil (between s.line s.begins s.ends),
            ap bit e,
          );
      ahead = λ t m. ahead t (line_of s t (all_mem (in_line s) L parts.0 t m));
    }
      where
        one : (t : Stretch) → Memᴰ t (s ∷ []) → Fit long wide s → Fit long wide t
        one t (Memᴰ.head e) f = rw e f
        one t (Memᴰ.tail m) f = absurd (Memᴰ.not-nil m)

        own : (t : Stretch) → Memᴰ t (s ∷ []) → Done (opened d s) t
        own t (Memᴰ.head e) = rw e (unfold opened in inside refl (omega arith) (omega arith))
        own t (Memᴰ.tail m) = absurd (Memᴰ.not-nil m)

        ahead : (t : Stretch) → (s.line < t.line) ⊎ ((s.line ≡ t.line) × (s.begins ≤ t.begins)) → Ahead (opened d s) t
        ahead t (inl h) = unfold opened in inl h
        ahead t (inr (a, b)) = unfold opened in inr (sym a, b)

    r : Merged d long wide M (opened d s) L (merge_from d (opened d s) L)
    r = merge_gives d long wide M (s ∷ []) (opened d s) L first parts.1

    forth : (y : Partition) → Memᴰ y (merge_from d (opened d s) L) → Memᴰ y (walls_of d M long (up_from 0 wide))
    forth y m =
        let (x, b, t, l, h, e) = r.each y m in
        Memᴰ.cast e (mem_walls d M long (up_from 0 wide) x b (up_from_mem 0 wide x (omega arith) (omega arith)) t l)

    -- every side stands in some wall
    some : (t : Stretch) → Memᴰ t M
        → (y : Partition) × Memᴰ y (merge_from d (opened d s) L) × (t.line ≡ y.number) × (y.begins ≤ t.begins) × (t.ends ≤ y.ends)
    some t (Memᴰ.head e) = rw e (r.holds s (inr (unfold opened in (refl, omega arith, omega arith))))
    some t (Memᴰ.tail m) = r.holds t (inl m)

    back : (y : Partition) → Memᴰ y (walls_of d M long (up_from 0 wide)) → Memᴰ y (merged d (s ∷ L))
    back y m =
        let (x, b, i, t, l, e) = walls_mem d M long (up_from 0 wide) y m in
        let (u, k, q, g, h) = built_some M x b (starts_of M x b t).0 in
        let (z, n, a, lo, hi) = some u k in
        let (x', b', t', l', w', e') = r.each z n in
        go x b t y e x' b' t' z e' n (line u x z q a) (omega arith) (omega arith)
      where
        line : (u : Stretch) (x : ℕ) (z : Partition) → u.line ≡ x → u.line ≡ z.number → x ≡ z.number
        line u x z q a = sym q ∙ a

        go : (x b : ℕ) → starts M x b ≡ true → (y : Partition) → y ≡ partition d M long x b → (x' b' : ℕ) → starts M x' b' ≡ true → (z : Partition)
            → z ≡ partition d M long x' b' → Memᴰ z (merge_from d (opened d s) L) → x ≡ z.number → z.begins ≤ b → b < z.ends
            → Memᴰ y (merged d (s ∷ L))
        go x b t y e x' b' t' z e' n q lo hi = unfold merged in Memᴰ.cast (e ∙ same ∙ sym e') n
          where
            number : x ≡ x'
            number = q ∙ (unfold partition in ap (λ (w : Partition). w.number) e')

            start : b' ≤ b
            start = omega (arith, (let z : z.begins ≡ b' = unfold partition in ap (λ (w : Partition). w.begins) e' in z))

            begins : b ≡ b'
            begins = two (dec_lt b' b)
              where
                two : Dec (b' < b) → b ≡ b'
                two (no h) = omega (arith, start)
                two (yes h) =
                    absurd ((starts_of M x b t).1 (b - 1) (omega arith) (rw number (built_to M x' long b' (b - 1) (omega arith)
                    (omega (arith, (let v : z.ends ≡ end_from M x' long b' = unfold partition in ap (λ (w : Partition). w.ends) e' in v))))))

            same : partition d M long x b ≡ partition d M long x' b'
            same = ap (λ (n : ℕ). partition d M long n b) number ∙ ap (λ (n : ℕ). partition d M long x' n) begins
