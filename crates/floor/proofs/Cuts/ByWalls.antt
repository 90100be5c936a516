-- THE TREE BY THE WALLS OF A REGISTER: a straight cut across a rectangle is one wall that runs from side to side of it, no farther. Of any walls and rooms.
-- Assumes nothing.
use Rattle.std.specs.Prelude.{ℕ, zero, suc, ◌≤◌, ◌<◌, ◌≡◌, Bool, true, false, cond, ◌&&◌, ◌||◌, ◌⊎◌, ltb, eqb}
use Rattle.std.proofs.Math.Path.{refl}
use Rattle.std.proofs.Common.{sym, ap, ◌∙◌, inl, inr, arith, ltb-true, eqb-true, lt-ltb, eq-eqb}
use Rattle.std.proofs.Math.Option.{Option, none, some}
use mathlib.Core.List.Memᴰ
use mathlib.Core.List.{List, [], ◌∷◌, Memᴰ}
use Rattle.floor.specs.Lists.{pairwise}
use Rattle.floor.proofs.Lists.Laws.{no_false, and_parts, and_both, or_cases, all_mem}
use Rattle.floor.specs.Plans.{Rect}
use Rattle.floor.specs.Registers.{Partition, earlier}
use Rattle.floor.specs.Cuts.{Direction, upright, level, begin, end, low_box, high_box, Tree, Choice, no_cut, takes, choice, both, span, way_byte}
use Rattle.floor.proofs.Cuts.Grown.{low_span, high_span}
use Rattle.floor.specs.Cuts.ByWalls.{other, spans_box, wall_cut, wall_choice, leaf_of, divided_by, grow_by, tree_by}

-- a wall that spans b, as facts
pub record Spans (a : Direction) (b : Rect) (w : Partition) : Type 0 where
  pub is_way : w.direction ≡ way_byte a
  pub after : begin a b < w.number
  pub before : w.number < end a b
  pub is_begin : w.begins ≡ begin (other a) b
  pub is_end : w.ends ≡ end (other a) b

-- the test read as facts
pub spans_of : (a : Direction) (b : Rect) (w : Partition) → spans_box a b w ≡ true → Spans a b w
unfolding spans_box
spans_of a b w e =
    let (e₁, k) = and_parts _ (eqb w.ends (end (other a) b)) e in
    let (e₂, h) = and_parts _ (eqb w.begins (begin (other a) b)) e₁ in
    let (e₃, g) = and_parts _ (ltb w.number (end a b)) e₂ in
    let (d, f) = and_parts (eqb w.direction (way_byte a)) (ltb (begin a b) w.number) e₃ in
    record {
      is_way = eqb-true w.direction (way_byte a) d;
      after = ltb-true (begin a b) w.number f;
      before = ltb-true w.number (end a b) g;
      is_begin = eqb-true w.begins (begin (other a) b) h;
      is_end = eqb-true w.ends (end (other a) b) k;
    }

-- and the facts as the test
pub of_spans : (a : Direction) (b : Rect) (w : Partition) → Spans a b w → spans_box a b w ≡ true
unfolding spans_box
of_spans a b w s =
    and_both _ _ (and_both _ _ (and_both _ _ (and_both _ _ (eq-eqb w.direction (way_byte a) s.is_way) (lt-ltb (begin a b) w.number s.after))
    (lt-ltb w.number (end a b) s.before)) (eq-eqb w.begins (begin (other a) b) s.is_begin)) (eq-eqb w.ends (end (other a) b) s.is_end)

-- a cut is the number of a wall that spans
pub cut_wall : (a : Direction) (b : Rect) (ws : List Partition) (c : ℕ) → wall_cut a b ws ≡ some c
    → (w : Partition) × Memᴰ w ws × Spans a b w × (w.number ≡ c)
unfolding wall_cut
cut_wall a b [] c e = let z : ◌≡◌ {A = ℕ} 0 1 = cc in absurd (omega arith)
cut_wall a b (v ∷ ws) c e = go (spans_box a b v) refl e (cut_wall a b ws c)
  where
    go : (t : Bool) → spans_box a b v ≡ t → cond t (some v.number) (wall_cut a b ws) ≡ some c
        → (wall_cut a b ws ≡ some c → (w : Partition) × Memᴰ w ws × Spans a b w × (w.number ≡ c))
        → (w : Partition) × Memᴰ w (v ∷ ws) × Spans a b w × (w.number ≡ c)
    go true f e below = (v, Memᴰ.head refl, spans_of a b v f, cc)
    go false f e below = let (w, m, s, q) = below e in (w, Memᴰ.tail m, s, q)

-- where no cut is found, no wall spans
pub no_wall : (a : Direction) (b : Rect) (ws : List Partition) (w : Partition) → wall_cut a b ws ≡ none → Memᴰ w ws → Spans a b w → ⊥
unfolding wall_cut
no_wall a b [] w e m s = Memᴰ.not-nil m
no_wall a b (v ∷ ws) w e m s = go (spans_box a b v) refl e m (no_wall a b ws w)
  where
    go : (t : Bool) → spans_box a b v ≡ t → cond t (some v.number) (wall_cut a b ws) ≡ none → Memᴰ w (v ∷ ws)
        → (wall_cut a b ws ≡ none → Memᴰ w ws → Spans a b w → ⊥) → ⊥
    go true f e m below = let z : ◌≡◌ {A = ℕ} 0 1 = cc in omega arith
    go false f e (Memᴰ.head q) below = no_false (sym f ∙ ap (spans_box a b) (sym q) ∙ of_spans a b w s)
    go false f e (Memᴰ.tail i) below = below e i s

-- of walls of one direction, the earlier has no greater number
pub earlier_least : (v w : Partition) → v.direction ≡ w.direction → earlier v w ≡ true → v.number ≤ w.number
unfolding earlier
earlier_least v w q e = first (or_cases _ _ e)
  where
    second : ((ltb v.number w.number) ≡ true) ⊎ ((eqb v.number w.number && ltb v.begins w.begins) ≡ true) → v.number ≤ w.number
    second (inl h) = omega (arith, ltb-true v.number w.number h)
    second (inr h) = omega (arith, eqb-true v.number w.number (and_parts (eqb v.number w.number) (ltb v.begins w.begins) h).0)

    first : (ltb v.direction w.direction ≡ true)
        ⊎ ((eqb v.direction w.direction && (ltb v.number w.number || (eqb v.number w.number && ltb v.begins w.begins))) ≡ true)
        → v.number ≤ w.number
    first (inl h) = absurd (omega (arith, ltb-true v.direction w.direction h))
    first (inr h) = second (or_cases _ _ (and_parts (eqb v.direction w.direction) _ h).1)

-- THE FIRST IN THE REGISTER'S ORDER HAS THE LEAST NUMBER
pub cut_least : (a : Direction) (b : Rect) (ws : List Partition) (c : ℕ) (w : Partition) → pairwise earlier ws ≡ true → wall_cut a b ws ≡ some c
    → Memᴰ w ws → Spans a b w → c ≤ w.number
unfolding wall_cut pairwise
cut_least a b [] c w o e m s = absurd (Memᴰ.not-nil m)
cut_least a b (v ∷ ws) c w o e m s =
    let (h, l) = and_parts _ (pairwise earlier ws) o in go (spans_box a b v) refl e m (all_mem (earlier v) ws h) (cut_least a b ws c w l)
  where
    go : (t : Bool) → spans_box a b v ≡ t → cond t (some v.number) (wall_cut a b ws) ≡ some c → Memᴰ w (v ∷ ws)
        → ((y : Partition) → Memᴰ y ws → earlier v y ≡ true) → (wall_cut a b ws ≡ some c → Memᴰ w ws → Spans a b w → c ≤ w.number)
        → c ≤ w.number
    go true f e (Memᴰ.head q) h below = let k : v.number ≡ c = cc in omega (arith, ap (λ (w : Partition). w.number) q)
    go true f e (Memᴰ.tail i) h below =
        let k : v.number ≡ c = cc in omega (arith, earlier_least v w ((spans_of a b v f).is_way ∙ sym s.is_way) (h w i))
    go false f e (Memᴰ.head q) h below = no_false (sym f ∙ ap (spans_box a b) (sym q) ∙ of_spans a b w s)
    go false f e (Memᴰ.tail i) h below = below e i s

-- the chosen cut is the first of its direction
pub choice_cut : (b : Rect) (ws : List Partition) (a : Direction) (c : ℕ) → wall_choice b ws ≡ takes a c → wall_cut a b ws ≡ some c
unfolding wall_choice choice
choice_cut b ws a c e = go (wall_cut upright b ws) refl (wall_cut level b ws) refl e
  where
    go : (o : Option ℕ) → wall_cut upright b ws ≡ o → (l : Option ℕ) → wall_cut level b ws ≡ l → choice o l ≡ takes a c → wall_cut a b ws ≡ some c
    go (some d) f l g e = let x : upright ≡ a = cc in let y : d ≡ c = cc in rw (← x, ← y) f
    go none f (some d) g e = let x : level ≡ a = cc in let y : d ≡ c = cc in rw (← x, ← y) g
    go none f none g e = let z : ◌≡◌ {A = ℕ} 0 1 = cc in absurd (omega arith)

-- it lies strictly inside
pub choice_inside : (b : Rect) (ws : List Partition) (a : Direction) (c : ℕ) → wall_choice b ws ≡ takes a c → (begin a b < c) × (c < end a b)
choice_inside b ws a c e =
    let (w, m, s, q) = cut_wall a b ws c (choice_cut b ws a c e) in (omega (arith, s.after), omega (arith, s.before))

-- a cut whose parts have the same trees has the same tree
pub both_same : (a : Direction) (c : ℕ) (o o' q q' : Option Tree) → o ≡ o' → q ≡ q' → both a c o q ≡ both a c o' q'
both_same a c o o' q q' e f = rw (e, f)

-- two ways to make the parts' trees that agree on smaller rectangles
divided_same : (g h : Rect → Option Tree) (ws : List Partition) (o : Option Tree) (b : Rect) → ((b' : Rect) → span b' < span b → g b' ≡ h b')
    → divided_by g o b (wall_choice b ws) ≡ divided_by h o b (wall_choice b ws)
divided_same g h ws (some t) b same = unfold divided_by in refl
divided_same g h ws none b same = go (wall_choice b ws) refl
  where
    go : (k : Choice) → wall_choice b ws ≡ k → divided_by g none b k ≡ divided_by h none b k
    go no_cut e = unfold divided_by in refl
    go (takes a c) e =
        let (l, r) = choice_inside b ws a c e in
        unfold divided_by in both_same a c _ _ _ _ (same (low_box a c b) (low_span a c b l r)) (same (high_box a c b) (high_span a c b l r))

-- a rectangle of no span has no cut
divided_leaf : (g : Rect → Option Tree) (ws : List Partition) (o : Option Tree) (b : Rect) → span b ≤ 0 → divided_by g o b (wall_choice b ws) ≡ o
divided_leaf g ws (some t) b h = unfold divided_by in refl
divided_leaf g ws none b h = go (wall_choice b ws) refl
  where
    go : (k : Choice) → wall_choice b ws ≡ k → divided_by g none b k ≡ none
    go no_cut e = unfold divided_by in refl
    go (takes a c) e = let (l, r) = choice_inside b ws a c e in absurd (omega (arith, low_span a c b l r))

-- depth enough is depth enough
by_deep : (m n : ℕ) (ws : List Partition) (rs : List Rect) (b : Rect) → span b ≤ m → span b ≤ n → grow_by m ws rs b ≡ grow_by n ws rs b
unfolding grow_by
by_deep zero zero ws rs b h k = refl
by_deep zero (suc n) ws rs b h k = sym (divided_leaf (grow_by n ws rs) ws (leaf_of b rs) b h)
by_deep (suc m) zero ws rs b h k = divided_leaf (grow_by m ws rs) ws (leaf_of b rs) b k
by_deep (suc m) (suc n) ws rs b h k =
    divided_same (grow_by m ws rs) (grow_by n ws rs) ws (leaf_of b rs) b (λ b' i. by_deep m n ws rs b' (omega arith) (omega arith))

-- ONE STEP: the leaf, or the parts of the chosen cut
pub by_step : (ws : List Partition) (rs : List Rect) (b : Rect) → tree_by ws rs b ≡ divided_by (tree_by ws rs) (leaf_of b rs) b (wall_choice b ws)
by_step ws rs b =
    unfold tree_by in by_deep (span b) (suc (span b)) ws rs b (omega arith) (omega arith)
    ∙ (unfold grow_by in divided_same (grow_by (span b) ws rs) (tree_by ws rs) ws (leaf_of b rs) b
    (λ b' i. unfold tree_by in by_deep (span b) (span b') ws rs b' (omega arith) (omega arith)))

-- a room that is the rectangle: its leaf
pub by_leaf : (ws : List Partition) (rs : List Rect) (b : Rect) (t : Tree) → leaf_of b rs ≡ some t → tree_by ws rs b ≡ some t
by_leaf ws rs b t e =
    by_step ws rs b ∙ ap (λ (o : Option Tree). divided_by (tree_by ws rs) o b (wall_choice b ws)) e ∙ (unfold divided_by in refl)

-- no such room and no cut: none
pub by_none : (ws : List Partition) (rs : List Rect) (b : Rect) → leaf_of b rs ≡ none → wall_choice b ws ≡ no_cut → tree_by ws rs b ≡ none
by_none ws rs b e f =
    by_step ws rs b ∙ ap (λ (o : Option Tree). divided_by (tree_by ws rs) o b (wall_choice b ws)) e
    ∙ ap (divided_by (tree_by ws rs) none b) f ∙ (unfold divided_by in refl)

-- no such room and a cut: both its parts
pub by_cut : (ws : List Partition) (rs : List Rect) (b : Rect) (a : Direction) (c : ℕ) → leaf_of b rs ≡ none → wall_choice b ws ≡ takes a c
    → tree_by ws rs b ≡ both a c (tree_by ws rs (low_box a c b)) (tree_by ws rs (high_box a c b))
by_cut ws rs b a c e f =
    by_step ws rs b ∙ ap (λ (o : Option Tree). divided_by (tree_by ws rs) o b (wall_choice b ws)) e
    ∙ ap (divided_by (tree_by ws rs) none b) f ∙ (unfold divided_by in refl)
