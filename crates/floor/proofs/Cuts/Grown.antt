-- THE TREE SAYS YES EXACTLY IF THE SET IS SLICEABLE, by whatever cuts. Assumes nothing.
use Rattle.std.specs.Prelude.{ℕ, zero, suc, ◌+◌, ◌-◌, ◌≤◌, ◌<◌, ◌↔◌, Bool, true, false, cond, not, ◌&&◌, length, ltb}
use Rattle.std.proofs.Math.Path.{◌≡◌, refl}
use Rattle.std.proofs.Common.{sym, ap, ◌∙◌, inl, inr, ltb-true, lt-ltb}
use Rattle.std.proofs.Math.Option.{Option, none, some}
use mathlib.Core.List.Memᴰ
use mathlib.Core.List.{List, [], ◌∷◌, Memᴰ}
use native.Mathlib.Omega.{arith}
use Rattle.std.proofs.Math.Decide.{dec_le, ℕ_discrete}
use Rattle.floor.specs.Lists.{up_from}
use Rattle.floor.proofs.Lists.Laws.{no_false, and_parts, not_of, not_and, all_mem, mem_all, up_from_mem, mem_up_from}
use Rattle.floor.specs.Plans.{Rect}
use Rattle.floor.specs.Cuts.{Direction, upright, level, begin, end, Fills, Beside, Cut, low_box, high_box, low_part, high_part, Sliceable, one, sliced, Tree}
use Rattle.floor.specs.Cuts.{leaf, cut, crosses, uncrossed, first_of, first_cut, Choice, no_cut, takes, choice, chosen, both, divided, grow, span, tree_of}
use Rattle.floor.proofs.Cuts.Filled.{fills_low, fills_high, fills_some}
use Rattle.floor.proofs.Cuts.Sliced.{any_cut}

-- the first number that passes does pass, and is one of the list
pub first_passes : (p : ℕ → Bool) (ns : List ℕ) (c : ℕ) → first_of p ns ≡ some c → (p c ≡ true) × Memᴰ c ns
unfolding first_of
first_passes p [] c e = let z : ◌≡◌ {A = ℕ} 0 1 = cc in absurd (omega arith)
first_passes p (n ∷ ns) c e = go (p n) refl (first_passes p ns c) e
  where
    go : (b : Bool) → p n ≡ b → (first_of p ns ≡ some c → (p c ≡ true) × Memᴰ c ns) → cond b (some n) (first_of p ns) ≡ some c
        → (p c ≡ true) × Memᴰ c (n ∷ ns)
    go true f below e = let k : n ≡ c = cc in (rw k at f, Memᴰ.head (sym k))
    go false f below e = let (a, m) = below e in (a, Memᴰ.tail m)

-- where there is no first number that passes, none of the list does
pub first_none : (p : ℕ → Bool) (ns : List ℕ) (c : ℕ) → first_of p ns ≡ none → Memᴰ c ns → p c ≡ true → ⊥
unfolding first_of
first_none p (n ∷ ns) c e m h = go (p n) refl (first_none p ns c) e m
  where
    go : (b : Bool) → p n ≡ b → (first_of p ns ≡ none → Memᴰ c ns → p c ≡ true → ⊥) → cond b (some n) (first_of p ns) ≡ none → Memᴰ c (n ∷ ns) → ⊥
    go true f below e m = let z : ◌≡◌ {A = ℕ} 0 1 = cc in omega arith
    go false f below e (Memᴰ.head q) = no_false (sym f ∙ ap p (sym q) ∙ h)
    go false f below e (Memᴰ.tail i) = below e i h
first_none p [] c e m h = Memᴰ.not-nil m

-- a line that does not pass through a room passes beside it
pub beside_of : (a : Direction) (c : ℕ) (r : Rect) → not (crosses a c r) ≡ true → Beside a c r
unfolding crosses
beside_of a c r e = go (dec_le (end a r) c) (dec_le c (begin a r))
  where
    go : Dec (end a r ≤ c) → Dec (c ≤ begin a r) → Beside a c r
    go (yes h) k = inl h
    go (no h) (yes k) = inr k
    go (no h) (no k) = absurd (not_and (ltb (begin a r) c && ltb c (end a r)) e
        (rw (lt-ltb (begin a r) c (omega arith), lt-ltb c (end a r) (omega arith))))

-- a line that passes beside a room does not pass through it
pub of_beside : (a : Direction) (c : ℕ) (r : Rect) → Beside a c r → not (crosses a c r) ≡ true
unfolding crosses
of_beside a c r (inl h) = not_of _ (λ e. omega (arith, ltb-true c (end a r) (and_parts (ltb (begin a r) c) (ltb c (end a r)) e).1))
of_beside a c r (inr h) = not_of _ (λ e. omega (arith, ltb-true (begin a r) c (and_parts (ltb (begin a r) c) (ltb c (end a r)) e).0))

-- a line that is found to pass through no room passes beside each of them
pub clear_cut : (a : Direction) (c : ℕ) (rs : List Rect) → uncrossed a rs c ≡ true → (r : Rect) → Memᴰ r rs → Beside a c r
unfolding uncrossed
clear_cut a c rs e r m = beside_of a c r (all_mem (λ r. not (crosses a c r)) rs e r m)

-- a line that passes beside each room is found to pass through none
pub cut_clear : (a : Direction) (c : ℕ) (rs : List Rect) → ((r : Rect) → Memᴰ r rs → Beside a c r) → uncrossed a rs c ≡ true
unfolding uncrossed
cut_clear a c rs k = mem_all (λ r. not (crosses a c r)) rs (λ r m. of_beside a c r (k r m))

-- the first cut of a direction is a cut
pub first_is_cut : (a : Direction) (b : Rect) (rs : List Rect) (c : ℕ) → first_cut a b rs ≡ some c → Cut a c b rs
unfolding first_cut
first_is_cut a b rs c e =
    let (p, m) = first_passes (uncrossed a rs) (up_from (suc (begin a b)) (end a b - suc (begin a b))) c e in
    let (l, h) = mem_up_from (suc (begin a b)) (end a b - suc (begin a b)) c m in
    record { after = omega arith; before = omega arith; clear = clear_cut a c rs p }

-- where a direction has no first cut, no line of it is a cut
pub no_first : (a : Direction) (b : Rect) (rs : List Rect) → first_cut a b rs ≡ none → (c : ℕ) → Cut a c b rs → ⊥
unfolding first_cut
no_first a b rs e c k =
    first_none (uncrossed a rs) (up_from (suc (begin a b)) (end a b - suc (begin a b))) c e
    (up_from_mem (suc (begin a b)) (end a b - suc (begin a b)) c (omega (arith, k.after)) (omega (arith, k.after, k.before))) (cut_clear a c rs k.clear)

-- the chosen cut is a cut
pub chosen_cut : (b : Rect) (rs : List Rect) (a : Direction) (c : ℕ) → chosen b rs ≡ takes a c → Cut a c b rs
unfolding chosen choice
chosen_cut b rs a c e = go (first_cut upright b rs) refl (first_cut level b rs) refl e
  where
    go : (o : Option ℕ) → first_cut upright b rs ≡ o → (l : Option ℕ) → first_cut level b rs ≡ l → choice o l ≡ takes a c → Cut a c b rs
    go (some d) f l g e = let x : upright ≡ a = cc in let y : d ≡ c = cc in rw (← x, ← y) (first_is_cut upright b rs d f)
    go none f (some d) g e = let x : level ≡ a = cc in let y : d ≡ c = cc in rw (← x, ← y) (first_is_cut level b rs d g)
    go none f none g e = let z : ◌≡◌ {A = ℕ} 0 1 = cc in absurd (omega arith)

-- where no cut is chosen, no line is a cut
pub none_chosen : (b : Rect) (rs : List Rect) (a : Direction) (c : ℕ) → chosen b rs ≡ no_cut → Cut a c b rs → ⊥
unfolding chosen choice
none_chosen b rs a c e k = go (first_cut upright b rs) refl (first_cut level b rs) refl e
  where
    by : (a : Direction) → first_cut upright b rs ≡ none → first_cut level b rs ≡ none → Cut a c b rs → ⊥
    by upright f g k = no_first upright b rs f c k
    by level f g k = no_first level b rs g c k

    go : (o : Option ℕ) → first_cut upright b rs ≡ o → (l : Option ℕ) → first_cut level b rs ≡ l → choice o l ≡ no_cut → ⊥
    go (some d) f l g e = let z : ◌≡◌ {A = ℕ} 0 1 = cc in omega arith
    go none f (some d) g e = let z : ◌≡◌ {A = ℕ} 0 1 = cc in omega arith
    go none f none g e = by a f g k

-- of the numbers from u on, none that passes is less than the first
first_least : (p : ℕ → Bool) (u n c : ℕ) → first_of p (up_from u n) ≡ some c → (d : ℕ) → u ≤ d → p d ≡ true → c ≤ d
unfolding first_of up_from
first_least p u zero c e d l h = let z : ◌≡◌ {A = ℕ} 0 1 = cc in absurd (omega arith)
first_least p u (suc n) c e d l h = go (p u) refl e (first_least p (suc u) n c)
  where
    go : (b : Bool) → p u ≡ b → cond b (some u) (first_of p (up_from (suc u) n)) ≡ some c
        → (first_of p (up_from (suc u) n) ≡ some c → (d : ℕ) → suc u ≤ d → p d ≡ true → c ≤ d) → c ≤ d
    go true f e below = let k : u ≡ c = cc in omega arith
    go false f e below = below e d (two (ℕ_discrete u d)) h
      where
        two : Dec (u ≡ d) → suc u ≤ d
        two (yes q) = no_false (sym f ∙ ap p q ∙ h)
        two (no q) = omega arith

-- THE FIRST CUT IS THE FIRST: no cut of its direction lies before it
pub first_cut_least : (a : Direction) (b : Rect) (rs : List Rect) (c : ℕ) → first_cut a b rs ≡ some c → (d : ℕ) → Cut a d b rs → c ≤ d
unfolding first_cut
first_cut_least a b rs c e d k =
    first_least (uncrossed a rs) (suc (begin a b)) (end a b - suc (begin a b)) c e d (omega (arith, k.after)) (cut_clear a d rs k.clear)

-- THE STATED CHOICE: the leftmost upright cut if any, else the lowest level cut
pub record Stated (b : Rect) (rs : List Rect) (a : Direction) (c : ℕ) : Type 0 where
  pub is_cut : Cut a c b rs
  pub least : (d : ℕ) → Cut a d b rs → c ≤ d
  pub no_upright : a ≡ level → (d : ℕ) → Cut upright d b rs → ⊥

-- the chosen cut is the one stated
pub chosen_stated : (b : Rect) (rs : List Rect) (a : Direction) (c : ℕ) → chosen b rs ≡ takes a c → Stated b rs a c
unfolding chosen choice
chosen_stated b rs a c e = go (first_cut upright b rs) refl (first_cut level b rs) refl e
  where
    go : (o : Option ℕ) → first_cut upright b rs ≡ o → (l : Option ℕ) → first_cut level b rs ≡ l → choice o l ≡ takes a c → Stated b rs a c
    go (some d) f l g e = let x : upright ≡ a = cc in let y : d ≡ c = cc in rw (← x, ← y) (record {
      is_cut = first_is_cut upright b rs d f;
      least = first_cut_least upright b rs d f;
      no_upright = λ q. let z : ◌≡◌ {A = ℕ} 0 1 = cc in absurd (omega arith);
    })
    go none f (some d) g e = let x : level ≡ a = cc in let y : d ≡ c = cc in rw (← x, ← y) (record {
      is_cut = first_is_cut level b rs d g;
      least = first_cut_least level b rs d g;
      no_upright = λ q m k. no_first upright b rs f m k;
    })
    go none f none g e = let z : ◌≡◌ {A = ℕ} 0 1 = cc in absurd (omega arith)

-- the left or lower part of a cut has a smaller span than the rectangle
pub low_span : (a : Direction) (c : ℕ) (b : Rect) → begin a b < c → c < end a b → span (low_box a c b) < span b
unfolding span
low_span upright c b h k = omega arith
low_span level c b h k = omega arith

-- the right or upper part of a cut has a smaller span than the rectangle
pub high_span : (a : Direction) (c : ℕ) (b : Rect) → begin a b < c → c < end a b → span (high_box a c b) < span b
unfolding span
high_span upright c b h k = omega arith
high_span level c b h k = omega arith

-- a cut is divided as its parts are
both_same : (a : Direction) (c : ℕ) (o o' q q' : Option Tree) → o ≡ o' → q ≡ q' → both a c o q ≡ both a c o' q'
both_same a c o o' q q' e f = rw (e, f)

-- two ways to make the parts' trees that agree on smaller rectangles
divided_same : (g h : Rect → List Rect → Option Tree) (b : Rect) (rs : List Rect) → ((b' : Rect) (l : List Rect) → span b' < span b → g b' l ≡ h b' l)
    → divided g b rs (chosen b rs) ≡ divided h b rs (chosen b rs)
divided_same g h b rs same = go (chosen b rs) refl
  where
    go : (k : Choice) → chosen b rs ≡ k → divided g b rs k ≡ divided h b rs k
    go no_cut e = unfold divided in refl
    go (takes a c) e =
        let k : Cut a c b rs = chosen_cut b rs a c e in
        unfold divided in both_same a c _ _ _ _ (same (low_box a c b) (low_part a c rs) (low_span a c b k.after k.before))
        (same (high_box a c b) (high_part a c rs) (high_span a c b k.after k.before))

-- a rectangle of no span has no cut
divided_none : (g : Rect → List Rect → Option Tree) (b : Rect) (rs : List Rect) → span b ≤ 0 → divided g b rs (chosen b rs) ≡ none
divided_none g b rs h = go (chosen b rs) refl
  where
    go : (k : Choice) → chosen b rs ≡ k → divided g b rs k ≡ none
    go no_cut e = unfold divided in refl
    go (takes a c) e = let k : Cut a c b rs = chosen_cut b rs a c e in absurd (omega (arith, low_span a c b k.after k.before))

-- depth enough is depth enough
pub grow_deep : (m n : ℕ) (b : Rect) (rs : List Rect) → span b ≤ m → span b ≤ n → grow m b rs ≡ grow n b rs
unfolding grow
grow_deep zero zero b rs h k = refl
grow_deep zero (suc n) b [] h k = refl
grow_deep zero (suc n) b (r ∷ []) h k = refl
grow_deep zero (suc n) b (r ∷ s ∷ rs) h k = sym (divided_none (grow n) b (r ∷ s ∷ rs) h)
grow_deep (suc m) zero b [] h k = refl
grow_deep (suc m) zero b (r ∷ []) h k = refl
grow_deep (suc m) zero b (r ∷ s ∷ rs) h k = divided_none (grow m) b (r ∷ s ∷ rs) k
grow_deep (suc m) (suc n) b [] h k = refl
grow_deep (suc m) (suc n) b (r ∷ []) h k = refl
grow_deep (suc m) (suc n) b (r ∷ s ∷ rs) h k =
    divided_same (grow m) (grow n) b (r ∷ s ∷ rs) (λ b' l i. grow_deep m n b' l (omega arith) (omega arith))

-- THE TREE, one step: of no room there is none,
pub tree_none : (b : Rect) → tree_of b [] ≡ none
unfolding tree_of grow
tree_none b = go (span b)
  where
    go : (n : ℕ) → grow n b [] ≡ none
    go zero = refl
    go (suc n) = refl

-- of one room it is a leaf,
pub tree_leaf : (b r : Rect) → tree_of b (r ∷ []) ≡ some (leaf r.vertex)
unfolding tree_of grow
tree_leaf b r = go (span b)
  where
    go : (n : ℕ) → grow n b (r ∷ []) ≡ some (leaf r.vertex)
    go zero = refl
    go (suc n) = refl

-- and of two rooms or more it is made of the parts of the chosen cut
pub tree_cut : (b : Rect) (rs : List Rect) → 2 ≤ length rs → tree_of b rs ≡ divided tree_of b rs (chosen b rs)
tree_cut b [] h = absurd (omega arith)
tree_cut b (r ∷ []) h = absurd (omega arith)
tree_cut b (r ∷ s ∷ rs) h =
    unfold tree_of in grow_deep (span b) (suc (span b)) b (r ∷ s ∷ rs) (omega arith) (omega arith)
    ∙ (unfold grow in divided_same (grow (span b)) tree_of b (r ∷ s ∷ rs)
    (λ b' l i. unfold tree_of in grow_deep (span b) (span b') b' l (omega arith) (omega arith)))

-- a tree of both parts has them
pub both_some : (a : Direction) (c : ℕ) (o q : Option Tree) (t : Tree) → both a c o q ≡ some t
    → (s : Tree) × (u : Tree) × (o ≡ some s) × (q ≡ some u) × (t ≡ cut a c s u)
unfolding both
both_some a c (some s) (some u) t e = (s, u, refl, refl, cc)
both_some a c (some s) none t e = let z : ◌≡◌ {A = ℕ} 0 1 = cc in absurd (omega arith)
both_some a c none q t e = let z : ◌≡◌ {A = ℕ} 0 1 = cc in absurd (omega arith)

-- what a tree of two rooms or more comes from
pub record Divides (b : Rect) (rs : List Rect) (t : Tree) : Type 0 where
  pub way : Direction
  pub place : ℕ
  pub is_chosen : chosen b rs ≡ takes way place
  pub low : Tree
  pub high : Tree
  pub is_low : tree_of (low_box way place b) (low_part way place rs) ≡ some low
  pub is_high : tree_of (high_box way place b) (high_part way place rs) ≡ some high
  pub is : t ≡ cut way place low high

-- a tree of two rooms or more comes from the chosen cut and the trees of its parts
pub tree_divides : (b : Rect) (rs : List Rect) (t : Tree) → 2 ≤ length rs → tree_of b rs ≡ some t → Divides b rs t
tree_divides b rs t h e = go (chosen b rs) refl (sym (tree_cut b rs h) ∙ e)
  where
    go : (k : Choice) → chosen b rs ≡ k → divided tree_of b rs k ≡ some t → Divides b rs t
    go no_cut f e = let e' : none ≡ some t = unfold divided in e in let z : ◌≡◌ {A = ℕ} 0 1 = cc in absurd (omega arith)
    go (takes a c) f e =
        let (s, u, p, q, i) = both_some a c (tree_of (low_box a c b) (low_part a c rs)) (tree_of (high_box a c b) (high_part a c rs)) t (unfold divided in e) in
        record { way = a; place = c; is_chosen = f; low = s; high = u; is_low = p; is_high = q; is = i }

-- YES MEANS SLICEABLE
pub tree_sliceable : (n : ℕ) (b : Rect) (rs : List Rect) → span b ≤ n → Fills b rs → (t : Tree) → tree_of b rs ≡ some t → Sliceable b rs
tree_sliceable zero b [] h f t e = absurd (fills_some b f)
tree_sliceable zero b (r ∷ []) h f t e = one
tree_sliceable zero b (r ∷ s ∷ rs) h f t e =
    let d : Divides b (r ∷ s ∷ rs) t = tree_divides b (r ∷ s ∷ rs) t (omega arith) e in
    let k : Cut d.way d.place b (r ∷ s ∷ rs) = chosen_cut b (r ∷ s ∷ rs) d.way d.place d.is_chosen in
    absurd (omega (arith, low_span d.way d.place b k.after k.before))
tree_sliceable (suc n) b [] h f t e = absurd (fills_some b f)
tree_sliceable (suc n) b (r ∷ []) h f t e = one
tree_sliceable (suc n) b (r ∷ s ∷ rs) h f t e =
    let l : List Rect = r ∷ s ∷ rs in
    let d : Divides b l t = tree_divides b l t (omega arith) e in
    let k : Cut d.way d.place b l = chosen_cut b l d.way d.place d.is_chosen in
    sliced d.way d.place f k
    (tree_sliceable n (low_box d.way d.place b) (low_part d.way d.place l) (omega (arith, low_span d.way d.place b k.after k.before))
    (fills_low d.way d.place b l f k) d.low d.is_low)
    (tree_sliceable n (high_box d.way d.place b) (high_part d.way d.place l) (omega (arith, high_span d.way d.place b k.after k.before))
    (fills_high d.way d.place b l f k) d.high d.is_high)

-- a larger sliceable set has a cut
sliceable_cut : (b : Rect) (rs : List Rect) → Sliceable b rs → 2 ≤ length rs → (a : Direction) × (c : ℕ) × Cut a c b rs
sliceable_cut b _ one h = absurd (omega arith)
sliceable_cut b rs (sliced a c f k s t) h = (a, c, k)

-- SLICEABLE MEANS YES
pub sliceable_tree : (n : ℕ) (b : Rect) (rs : List Rect) → span b ≤ n → Fills b rs → Sliceable b rs → (t : Tree) × (tree_of b rs ≡ some t)
sliceable_tree zero b [] h f s = absurd (fills_some b f)
sliceable_tree zero b (r ∷ []) h f s = (leaf r.vertex, tree_leaf b r)
sliceable_tree zero b (r ∷ q ∷ rs) h f s = absurd (small b f.wide h)
  where
    small : (b : Rect) → b.x1 < b.x2 → span b ≤ 0 → ⊥
    small b w h = let g : (b.x2 - b.x1) + (b.y2 - b.y1) ≤ 0 = unfold span in h in omega arith
sliceable_tree (suc n) b [] h f s = absurd (fills_some b f)
sliceable_tree (suc n) b (r ∷ []) h f s = (leaf r.vertex, tree_leaf b r)
sliceable_tree (suc n) b (r ∷ q ∷ rs) h f s = go (chosen b (r ∷ q ∷ rs)) refl (λ b' l' h' f' s'. sliceable_tree n b' l' h' f' s')
  where
    l : List Rect
    l = r ∷ q ∷ rs

    go : (k : Choice) → chosen b l ≡ k
        → ((b' : Rect) (l' : List Rect) → span b' ≤ n → Fills b' l' → Sliceable b' l' → (t : Tree) × (tree_of b' l' ≡ some t))
        → (t : Tree) × (tree_of b l ≡ some t)
    go no_cut e below = let (a, c, k) = sliceable_cut b l s (omega arith) in absurd (none_chosen b l a c e k)
    go (takes a c) e below =
        let k : Cut a c b l = chosen_cut b l a c e in
        let (u, v) = any_cut b l f s a c k in
        let (t₁, e₁) = below (low_box a c b) (low_part a c l) (omega (arith, low_span a c b k.after k.before)) (fills_low a c b l f k) u in
        let (t₂, e₂) = below (high_box a c b) (high_part a c l) (omega (arith, high_span a c b k.after k.before)) (fills_high a c b l f k) v in
        (cut a c t₁ t₂, tree_cut b l (omega arith) ∙ ap (divided tree_of b l) e ∙ (unfold divided in both_same a c _ _ _ _ e₁ e₂ ∙ (unfold both in refl)))

-- THE YES OR NO: there is a tree by the stated choice exactly if the set is sliceable by any cuts
pub yes_or_no : (b : Rect) (rs : List Rect) → Fills b rs → Sliceable b rs ↔ ((t : Tree) × (tree_of b rs ≡ some t))
yes_or_no b rs f = (λ s. sliceable_tree (span b) b rs (omega arith) f s, λ h. tree_sliceable (span b) b rs (omega arith) f h.0 h.1)
