-- Passes over the rules that raise numbers, as a computation; that they end in the numbers of the definition, or show a circle.
-- Assumes nothing.
use Rattle.std.specs.Prelude.{◌≡◌, Bool, ◌⊎◌, ltb, length, get_or, set, replicate}
use Rattle.std.proofs.Math.Path.{refl}
use Rattle.std.proofs.Common.{sym, ap, ◌∙◌, inl, inr, add-zero, suc-mul, arith, length-set, get_or-set_same, get_or-set_other, ext_get_or, leb-true, leb-false, eqb-true, ltb-true, ltb-false}
use Rattle.std.proofs.Math.Bool.{true, false}
use Rattle.std.proofs.Math.Option.{Option, none, some}
use mathlib.Core.List.{List, [], ◌∷◌, Memᴰ}
use Prim.Native.Nat.{ℕ, zero, suc, ◌+◌, ◌*◌, ◌≤◌, ◌<◌, max}
use Rattle.std.proofs.Math.Decide.{dec_le, dec_lt, ℕ_discrete}
use Rattle.std.proofs.lemmas.List.{length-replicate, get_or-replicate, set-get_or}
use Rattle.std.proofs.Math.ListN.{get_or-eq_default}
use Rattle.std.proofs.Math.Seq.{set_out}
use Rattle.std.proofs.lemmas.Bool.{eqb-false}
use Rattle.floor.proofs.Lists.Laws.{and_left, and_right}
use Rattle.floor.specs.Walls.{Rule, same, before, Numbers, Holds, Respects, Circle, at, raise, relax1, relax, met, meets, over, passes, numbers_of}
use Rattle.floor.specs.Walls.Walk.{Walk, start, on, off, up}
use Rattle.floor.proofs.Walls.Walk.{tight, unique, numbers_respects}
use Rattle.floor.proofs.Walls.Bound.{Head, Heads, all_room, walk_bound}
use Rattle.floor.specs.Walls.Relax.{total, Reached}

-- a raise keeps how many sides there are
pub length_raise : (f : List ℕ) (a b w : ℕ) → length (raise f a b w) ≡ length f
unfolding raise
length_raise f a b w = length-set f b (max (at f b) (at f a + w))

-- the larger of two numbers is one of them
max_is : (u v : ℕ) → (max u v ≡ u) ⊎ (max u v ≡ v)
max_is u v = go (dec_le v u)
  where
    go : Dec (v ≤ u) → (max u v ≡ u) ⊎ (max u v ≡ v)
    go (yes h) = inl (omega arith)
    go (no h) = inr (omega arith)

-- what a raise leaves at each side: the old number, or, at b, the one from a
pub raise_is : (f : List ℕ) (a b w s : ℕ) → (at (raise f a b w) s ≡ at f s) ⊎ ((s ≡ b) × (at (raise f a b w) s ≡ at f a + w))
unfolding raise
raise_is f a b w s = go (ℕ_discrete s b)
  where
    within : s ≡ b → Dec (b < length f) → (max (at f b) (at f a + w) ≡ at f b) ⊎ (max (at f b) (at f a + w) ≡ at f a + w)
        → (at (set f b (max (at f b) (at f a + w))) s ≡ at f s) ⊎ ((s ≡ b) × (at (set f b (max (at f b) (at f a + w))) s ≡ at f a + w))
    within e (yes l) (inl k) = inl (rw e (get_or-set_same f b (max (at f b) (at f a + w)) 1 l ∙ k))
    within e (yes l) (inr k) = inr (e, rw e (get_or-set_same f b (max (at f b) (at f a + w)) 1 l ∙ k))
    within e (no l) k = inl (ap (λ (t : List ℕ). at t s) (set_out f b (max (at f b) (at f a + w)) (omega arith)))

    go : Dec (s ≡ b) → (at (set f b (max (at f b) (at f a + w))) s ≡ at f s) ⊎ ((s ≡ b) × (at (set f b (max (at f b) (at f a + w))) s ≡ at f a + w))
    go (yes e) = within e (dec_lt b (length f)) (max_is (at f b) (at f a + w))
    go (no e) = inl (get_or-set_other f b s (max (at f b) (at f a + w)) 1 e)

-- a raise that has nothing to do
pub raise_rest : (f : List ℕ) (a b w : ℕ) → at f a + w ≤ at f b → raise f a b w ≡ f
unfolding raise
raise_rest f a b w h = ap (λ (v : ℕ). set f b v) (omega arith) ∙ set-get_or f b 1

-- one number set anew: the total changes by as much as that number does
total_set : (f : List ℕ) (b v d : ℕ) → b < length f → total (set f b v) + get_or f b d ≡ total f + v
total_set [] b v d h = absurd (omega arith)
total_set (x ∷ f) zero v d h = omega arith
total_set (x ∷ f) (suc b) v d h = omega (arith, total_set f b v d (omega arith))

-- a raise never makes the total smaller
pub raise_total : (f : List ℕ) (a b w : ℕ) → total f ≤ total (raise f a b w)
unfolding raise
raise_total f a b w = go (dec_lt b (length f))
  where
    go : Dec (b < length f) → total f ≤ total (set f b (max (at f b) (at f a + w)))
    go (yes l) = omega (arith, total_set f b (max (at f b) (at f a + w)) 1 l)
    go (no l) = rw (set_out f b (max (at f b) (at f a + w)) (omega arith)) (omega arith)

-- a raise that has something to do makes the total larger
pub raise_more : (f : List ℕ) (a b w : ℕ) → b < length f → at f b < at f a + w → total f < total (raise f a b w)
unfolding raise
raise_more f a b w l h = omega (arith, total_set f b (max (at f b) (at f a + w)) 1 l)

-- where walks go on from a to b by w, a raise of b to w above a leaves numbers that walks reach
pub raise_reached : (E : List Rule) (f : List ℕ) (a b w : ℕ) → ((v : ℕ) → Walk E a v → Walk E b (v + w)) → Reached E f → Reached E (raise f a b w)
raise_reached E f a b w step k s = go (raise_is f a b w s)
  where
    go : (at (raise f a b w) s ≡ at f s) ⊎ ((s ≡ b) × (at (raise f a b w) s ≡ at f a + w)) → Walk E s (at (raise f a b w) s)
    go (inl e) = rw e (k s)
    go (inr e) = rw (e.1, e.0) (step (at f a) (k a))

-- numbers that walks reach, raised as far as one of the rules asks, are reached again
pub relax1_reached : (E : List Rule) (r : Rule) (f : List ℕ) → Memᴰ r E → Reached E f → Reached E (relax1 r f)
unfolding relax1
relax1_reached E (same a b) f m k =
    raise_reached E (raise f a b 0) b a 0 (λ v w. rw add-zero (off m w)) (raise_reached E f a b 0 (λ v w. rw add-zero (on m w)) k)
relax1_reached E (before a b x) f m k = raise_reached E f a b (suc x) (λ v w. up m w) k

-- so they are after a pass over any of the rules
pub relax_reached : (E D : List Rule) (f : List ℕ) → ((r : Rule) → Memᴰ r D → Memᴰ r E) → Reached E f → Reached E (relax D f)
unfolding relax
relax_reached E [] f i k = k
relax_reached E (r ∷ D) f i k =
    relax_reached E D (relax1 r f) (λ q m. i q (Memᴰ.tail m)) (relax1_reached E r f (i r (Memᴰ.head refl)) k)

-- one rule keeps how many sides there are
pub length_relax1 : (r : Rule) (f : List ℕ) → length (relax1 r f) ≡ length f
unfolding relax1
length_relax1 (same a b) f = length_raise (raise f a b 0) b a 0 ∙ length_raise f a b 0
length_relax1 (before a b x) f = length_raise f a b (suc x)

-- a pass keeps how many sides there are
pub length_relax : (E : List Rule) (f : List ℕ) → length (relax E f) ≡ length f
unfolding relax
length_relax [] f = refl
length_relax (r ∷ E) f = length_relax E (relax1 r f) ∙ length_relax1 r f

-- a rule that the test finds met is respected
met_holds : (f : List ℕ) (r : Rule) → met f r ≡ true → Holds (at f) r
met_holds f (same a b) e = eqb-true (at f a) (at f b) e
met_holds f (before a b x) e = leb-true (at f a + suc x) (at f b) e

-- STABLE: every rule met means respected
pub meets_respects : (E : List Rule) (f : List ℕ) → meets E f ≡ true → Respects E (at f)
unfolding meets
meets_respects [] f e r x'' = elim x'' [ ]
meets_respects (q ∷ E) f e r (Memᴰ.head p) = met_holds f r (rw p (and_left (met f q) (meets E f) e))
meets_respects (q ∷ E) f e r (Memᴰ.tail m) = meets_respects E f (and_right (met f q) (meets E f) e) r m

-- the sides of a rule are below n
abbrev pub Within : ℕ → Rule → Type 0
Within n (same a b) = (a < n) × (b < n)
Within n (before a b x) = (a < n) × (b < n)

-- one rule never makes the total smaller
relax1_total : (r : Rule) (f : List ℕ) → total f ≤ total (relax1 r f)
unfolding relax1
relax1_total (same a b) f = omega (arith, raise_total f a b 0, raise_total (raise f a b 0) b a 0)
relax1_total (before a b x) f = raise_total f a b (suc x)

-- a pass never makes the total smaller
relax_total : (E : List Rule) (f : List ℕ) → total f ≤ total (relax E f)
unfolding relax
relax_total [] f = omega arith
relax_total (r ∷ E) f = omega (arith, relax1_total r f, relax_total E (relax1 r f))

-- a rule that is met changes nothing
relax1_rest : (r : Rule) (f : List ℕ) → met f r ≡ true → relax1 r f ≡ f
unfolding relax1
relax1_rest (same a b) f e =
    let h : at f a ≡ at f b = eqb-true (at f a) (at f b) e in
    let k : raise f a b 0 ≡ f = raise_rest f a b 0 (omega arith) in
    rw k (raise_rest f b a 0 (omega arith))
relax1_rest (before a b x) f e = raise_rest f a b (suc x) (leb-true (at f a + suc x) (at f b) e)

-- a rule that is not met makes the total larger
relax1_more : (r : Rule) (f : List ℕ) → Within (length f) r → met f r ≡ false → total f < total (relax1 r f)
unfolding relax1
relax1_more (same a b) f i e = go (dec_lt (at f b) (at f a))
  where
    differ : at f a ≡ at f b → ⊥
    differ = eqb-false (at f a) (at f b) e

    go : Dec (at f b < at f a) → total f < total (raise (raise f a b 0) b a 0)
    go (yes l) = omega (arith, raise_more f a b 0 i.1 (omega arith), raise_total (raise f a b 0) b a 0)
    go (no l) = rw (raise_rest f a b 0 (omega arith)) (raise_more f b a 0 i.0 (omega (arith, differ)))
relax1_more (before a b x) f i e = raise_more f a b (suc x) i.1 (leb-false (at f a + suc x) (at f b) e)

-- a pass over rules that are not all met raises some number
pub relax_more : (E : List Rule) (f : List ℕ) → ((r : Rule) → Memᴰ r E → Within (length f) r) → meets E f ≡ false → total f < total (relax E f)
unfolding relax meets
relax_more [] f i e = let z : ◌≡◌ {A = ℕ} 0 1 = cc in absurd (omega arith)
relax_more (r ∷ E) f i e = go (met f r) refl (relax_more E f (λ q m. i q (Memᴰ.tail m)))
  where
    go : (t : Bool) → met f r ≡ t → (meets E f ≡ false → total f < total (relax E f)) → total f < total (relax E (relax1 r f))
    go true h below = rw (relax1_rest r f h) (below (rw h at e))
    go false h below = omega (arith, relax1_more r f (i r (Memᴰ.head refl)) h, relax_total E (relax1 r f))

-- where some number is found above top, there is a side with such a number
over_some : (top : ℕ) (f : List ℕ) → over top f ≡ true → (s : ℕ) × (top < at f s)
unfolding over
over_some top [] e = let z : ◌≡◌ {A = ℕ} 0 1 = cc in absurd (omega arith)
over_some top (x ∷ f) e = go (ltb top x) refl (over_some top f)
  where
    go : (t : Bool) → ltb top x ≡ t → (over top f ≡ true → (s : ℕ) × (top < at f s)) → (s : ℕ) × (top < at (x ∷ f) s)
    go true h below = (zero, ltb-true top x h)
    go false h below = let (s, l) = below (rw h at e) in (suc s, l)

-- where no number is above top, the total is at most top times the number of sides
over_none : (top : ℕ) (f : List ℕ) → over top f ≡ false → total f ≤ length f * top
unfolding over
over_none top [] e = omega arith
over_none top (x ∷ f) e = go (ltb top x) refl (over_none top f)
  where
    go : (t : Bool) → ltb top x ≡ t → (over top f ≡ false → total f ≤ length f * top) → x + total f ≤ suc (length f) * top
    go true h below = let z : ◌≡◌ {A = ℕ} 0 1 = cc (rw h at e) in absurd (omega arith)
    go false h below = omega (arith, below (rw h at e), ltb-false top x h, suc-mul (length f) top)

-- THE ANSWER: the numbers of the definition, or that the walls run in a circle
abbrev pub Right : List Rule → ℕ → Option (List ℕ) → Type 0
Right E n (some f) = Numbers E (at f) × (length f ≡ n)
Right E n none = Circle E

-- no walk is below 1
pub walk_positive : {E : List Rule} {s v : ℕ} → Walk E s v → 1 ≤ v
walk_positive start = omega arith
walk_positive (on m w) = walk_positive w
walk_positive (off m w) = walk_positive w
walk_positive (up m w) = omega arith

-- numbers that are reached, and meet every rule, are those of the definition
pub reached_numbers : (E : List Rule) (f : List ℕ) → Reached E f → Respects E (at f) → Numbers E (at f)
reached_numbers E f k r = tight E (at f) r (λ s. walk_positive (k s)) k

-- a number that is reached, and is above the heads' room, shows a circle
pub reached_circle : (E : List Rule) (T : List Head) (f : List ℕ) (s : ℕ) → Heads E T → Reached E f → 1 + all_room T < at f s → Circle E
reached_circle E T f s hs k l g r = omega (arith, walk_bound E T g hs r (k s))

-- all ones are reached
pub ones_reached : (E : List Rule) (n : ℕ) → Reached E (replicate n 1)
ones_reached E n s = go (dec_lt s n)
  where
    go : Dec (s < n) → Walk E s (at (replicate n 1) s)
    go (yes h) = rw (get_or-replicate {A = ℕ} n s 1 1 h) start
    go (no h) = rw (get_or-eq_default {A = ℕ} (replicate n 1) 1 {n = s} (omega (arith, length-replicate {A = ℕ} n 1))) start

module _ (E : List Rule) (T : List Head) (n : ℕ) (hs : Heads E T) (i : (r : Rule) → Memᴰ r E → Within n r) where
  -- passes from numbers that walks reach, with enough of them left, give the numbers of the definition or show a circle
  passes_right : (k : ℕ) (f : List ℕ) (m o : Bool) → meets E f ≡ m → over (1 + all_room T) f ≡ o → length f ≡ n → Reached E f
      → n * (1 + all_room T) < k + total f → Right E n (passes E (1 + all_room T) k m o f)
  unfolding passes
  passes_right zero f true o em eo l w h = (reached_numbers E f w (meets_respects E f em), l)
  passes_right zero f false true em eo l w h = let (s, c) = over_some (1 + all_room T) f eo in reached_circle E T f s hs w c
  passes_right zero f false false em eo l w h = absurd (omega (arith, rw l at (over_none (1 + all_room T) f eo)))
  passes_right (suc k) f true o em eo l w h = (reached_numbers E f w (meets_respects E f em), l)
  passes_right (suc k) f false true em eo l w h = let (s, c) = over_some (1 + all_room T) f eo in reached_circle E T f s hs w c
  passes_right (suc k) f false false em eo l w h =
      passes_right k (relax E f) (meets E (relax E f)) (over (1 + all_room T) (relax E f)) refl refl
      (length_relax E f ∙ l) (relax_reached E E f (λ r m. m) w)
      (omega (arith, relax_more E f (λ r m. rw l (i r m)) em))

  -- EXACT: numbersOf gives the numbers of the definition, or there are none
  pub numbers_of_right : Right E n (numbers_of E n (1 + all_room T))
  unfolding numbers_of
  numbers_of_right =
      passes_right (n * (1 + all_room T) + 1) (replicate n 1) (meets E (replicate n 1)) (over (1 + all_room T) (replicate n 1)) refl refl
      (length-replicate n 1) (ones_reached E n) (omega arith)

-- one answer only
pub right_unique : (E : List Rule) (n : ℕ) (p q : Option (List ℕ)) → Right E n p → Right E n q → p ≡ q
right_unique E n (some f) (some g) a b =
    ap some (ext_get_or 1 f g (a.1 ∙ sym b.1) (λ s h. unique E (at f) (at g) a.0 b.0 s))
right_unique E n (some f) none a b = absurd (b (at f) (numbers_respects E (at f) a.0))
right_unique E n none (some g) a b = absurd (a (at g) (numbers_respects E (at g) b.0))
right_unique E n none none a b = refl
