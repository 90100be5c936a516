-- What the tests over lists say of their members, and how members are counted. Assumes nothing.
use Prim.Native.Nat.{ℕ, zero, suc, ◌+◌, ◌≤◌, ◌<◌}
use Rattle.std.specs.Prelude.{◌≡◌, ◌⊎◌, Bool, cond, not, ◌&&◌, ◌||◌, get_or}
use Rattle.std.proofs.Math.Path.{refl, ap}
use Rattle.std.proofs.Common.{sym, ◌∙◌, inl, inr}
use Rattle.std.proofs.Math.Bool.{true, false}
use mathlib.Core.List.Memᴰ
use mathlib.Core.List.{List, [], ◌∷◌, ◌++◌, map, Memᴰ}
use mathlib.Core.List.{head-eq_of_cons-eq, tail-eq_of_cons-eq}
use Rattle.std.proofs.Math.ListN.{length}
use Rattle.std.proofs.Math.Dec.{leb}
use native.Mathlib.Omega.{arith}
use Rattle.std.proofs.Math.Decide.{ℕ_discrete}
use borrow.Author.Tests.{leb-true, le-leb}
use Rattle.floor.specs.Lists.{all, any, keep, pairwise, up_from}
use Rattle.floor.specs.Lists.Laws.{bit, count}

-- true is not false
pub no_false : {X : Type 0} → ◌≡◌ {A = Bool} false true → X
no_false e = let z : ◌≡◌ {A = ℕ} 0 1 = cc in absurd (omega arith)

-- of a conjunction
pub and_left : (a b : Bool) → (a && b) ≡ true → a ≡ true
and_left true b e = refl
and_left false b e = e

-- where both are true, the second is
pub and_right : (a b : Bool) → (a && b) ≡ true → b ≡ true
and_right true b e = e
and_right false b e = no_false e

-- where both are true, each is
pub and_parts : (a b : Bool) → (a && b) ≡ true → (a ≡ true) × (b ≡ true)
and_parts a b e = (and_left a b e, and_right a b e)

-- where each is true, both are
pub and_both : (a b : Bool) → a ≡ true → b ≡ true → (a && b) ≡ true
and_both a b p q = rw (p, q)

-- of a disjunction
pub or_cases : (a b : Bool) → (a || b) ≡ true → (a ≡ true) ⊎ (b ≡ true)
or_cases true b e = inl refl
or_cases false b e = inr e

-- one of two is true where the first is
pub or_left : (a b : Bool) → a ≡ true → (a || b) ≡ true
or_left a b p = rw p

-- one of two is true where the second is
pub or_right : (a b : Bool) → b ≡ true → (a || b) ≡ true
or_right true b p = refl
or_right false b p = p

-- of a negation, and of an implication
pub not_of : (a : Bool) → (a ≡ true → ⊥) → not a ≡ true
not_of true h = absurd (h refl)
not_of false h = refl

-- a test and its negation are not both true
pub not_and : (a : Bool) → not a ≡ true → a ≡ true → ⊥
not_and true e f = no_false e
not_and false e f = no_false f

-- where the second is true whenever the first is, the first is false or the second true
pub implies : (a b : Bool) → (a ≡ true → b ≡ true) → (not a || b) ≡ true
implies true b h = h refl
implies false b h = refl

-- where the first is false or the second true, the second is true whenever the first is
pub implied : (a b : Bool) → (not a || b) ≡ true → a ≡ true → b ≡ true
implied true b e f = e
implied false b e f = no_false f

-- two tests that pass together are one
pub same_test : (a b : Bool) → (a ≡ true → b ≡ true) → (b ≡ true → a ≡ true) → a ≡ b
same_test true b x y = sym (x refl)
same_test false true x y = y refl
same_test false false x y = refl

-- a test as a number is at most 1
pub bit_most : (b : Bool) → bit b ≤ 1
bit_most true = omega arith
bit_most false = omega arith

module _ {A : Type 0} where
  -- none passes of an empty list
  pub count_nil : (p : A → Bool) → count p [] ≡ 0
  unfolding keep
  count_nil p = refl

  -- the first member counts if it passes, and then those behind it
  pub count_cons : (p : A → Bool) (x : A) (xs : List A) → count p (x ∷ xs) ≡ bit (p x) + count p xs
  unfolding keep
  count_cons p x xs = go (p x)
    where
      go : (b : Bool) → length (cond b (x ∷ keep p xs) (keep p xs)) ≡ bit b + length (keep p xs)
      go true = omega arith
      go false = omega arith

  -- in two lists one behind the other as many pass as in the two together
  pub count_append : (p : A → Bool) (xs ys : List A) → count p (xs ++ ys) ≡ count p xs + count p ys
  count_append p [] ys = omega (arith, count_nil p)
  count_append p (x ∷ xs) ys = omega (arith, count_cons p x (xs ++ ys), count_cons p x xs, count_append p xs ys)

  -- where some member passes, at least one is counted
  pub mem_count : (p : A → Bool) (xs : List A) (x : A) → Memᴰ x xs → p x ≡ true → 1 ≤ count p xs
  mem_count p [] x x4 e = elim x4 [ ]
  mem_count p (y ∷ xs) x (Memᴰ.head q) e =
      let c : count p (y ∷ xs) ≡ 1 + count p xs = rw (ap p (sym q) ∙ e) at (count_cons p y xs) in
      omega arith
  mem_count p (y ∷ xs) x (Memᴰ.tail m) e = omega (arith, count_cons p y xs, mem_count p xs x m e)

  -- where at least one is counted, there is a member that passes
  pub count_some : (p : A → Bool) (xs : List A) → 1 ≤ count p xs → (x : A) × (Memᴰ x xs) × (p x ≡ true)
  count_some p [] h = absurd (omega (arith, count_nil p))
  count_some p (y ∷ xs) h = go (p y) refl (count_some p xs)
    where
      go : (b : Bool) → p y ≡ b → (1 ≤ count p xs → (x : A) × (Memᴰ x xs) × (p x ≡ true)) → (x : A) × (Memᴰ x (y ∷ xs)) × (p x ≡ true)
      go true e below = (y, Memᴰ.head refl, e)
      go false e below =
          let c : count p (y ∷ xs) ≡ 0 + count p xs = rw e at (count_cons p y xs) in
          let (x, m, q) = below (omega arith) in
          (x, Memᴰ.tail m, q)

  -- where none is counted, no member passes
  pub count_none : (p : A → Bool) (xs : List A) (x : A) → Memᴰ x xs → count p xs ≡ 0 → p x ≡ false
  count_none p xs x m h = go (p x) refl
    where
      go : (b : Bool) → p x ≡ b → p x ≡ false
      go true e = absurd (omega (arith, mem_count p xs x m e))
      go false e = e

  -- where no member passes, none is counted
  pub none_count : (p : A → Bool) (xs : List A) → ((x : A) → Memᴰ x xs → p x ≡ false) → count p xs ≡ 0
  none_count p [] h = count_nil p
  none_count p (x ∷ xs) h =
      let c : count p (x ∷ xs) ≡ 0 + count p xs = rw (h x (Memᴰ.head refl)) at (count_cons p x xs) in
      omega (arith, none_count p xs (λ y m. h y (Memᴰ.tail m)))

  -- some member passes exactly if at least one is counted
  pub any_count : (p : A → Bool) (xs : List A) → any p xs ≡ leb 1 (count p xs)
  unfolding any
  any_count p [] = rw (count_nil p)
  any_count p (x ∷ xs) = go (p x) refl (any_count p xs)
    where
      go : (b : Bool) → p x ≡ b → any p xs ≡ leb 1 (count p xs) → (p x || any p xs) ≡ leb 1 (count p (x ∷ xs))
      go true e below =
          let c : count p (x ∷ xs) ≡ 1 + count p xs = rw e at (count_cons p x xs) in
          rw (e, le-leb 1 (count p (x ∷ xs)) (omega arith))
      go false e below =
          let c : count p (x ∷ xs) ≡ 0 + count p xs = rw e at (count_cons p x xs) in
          let d : count p (x ∷ xs) ≡ count p xs = omega arith in
          rw (e, d) below

  -- where some member passes, here is one
  pub any_mem : (p : A → Bool) (xs : List A) → any p xs ≡ true → (x : A) × (Memᴰ x xs) × (p x ≡ true)
  any_mem p xs e = count_some p xs (leb-true 1 (count p xs) (sym (any_count p xs) ∙ e))

  -- a member that passes is enough for some to pass
  pub mem_any : (p : A → Bool) (xs : List A) (x : A) → Memᴰ x xs → p x ≡ true → any p xs ≡ true
  mem_any p xs x m e = any_count p xs ∙ le-leb 1 (count p xs) (mem_count p xs x m e)

  -- where all pass, each member does
  pub all_mem : (p : A → Bool) (xs : List A) → all p xs ≡ true → (x : A) → Memᴰ x xs → p x ≡ true
  unfolding all
  all_mem p [] e x x4 = elim x4 [ ]
  all_mem p (y ∷ xs) e x (Memᴰ.head q) = rw q (and_left (p y) (all p xs) e)
  all_mem p (y ∷ xs) e x (Memᴰ.tail m) = all_mem p xs (and_right (p y) (all p xs) e) x m

  -- where each member passes, all do
  pub mem_all : (p : A → Bool) (xs : List A) → ((x : A) → Memᴰ x xs → p x ≡ true) → all p xs ≡ true
  unfolding all
  mem_all p [] h = refl
  mem_all p (y ∷ xs) h = and_both (p y) (all p xs) (h y (Memᴰ.head refl)) (mem_all p xs (λ x m. h x (Memᴰ.tail m)))

  -- what is asked of all, of some or of how many does not hang on which of two lists stands first
  all_behind : (p : A → Bool) (xs ys : List A) → all p (xs ++ ys) ≡ true → all p (ys ++ xs) ≡ true
  all_behind p xs ys h = mem_all p (ys ++ xs) (λ x m. go x (Memᴰ.append_cases ys m))
    where
      go : (x : A) → Memᴰ x ys ⊎ Memᴰ x xs → p x ≡ true
      go x (inl m) = all_mem p (xs ++ ys) h x (Memᴰ.append_right xs m)
      go x (inr m) = all_mem p (xs ++ ys) h x (Memᴰ.append_left ys m)

  -- whether all pass does not hang on which of two lists stands first
  pub all_exchange : (p : A → Bool) (xs ys : List A) → all p (xs ++ ys) ≡ all p (ys ++ xs)
  all_exchange p xs ys = same_test (all p (xs ++ ys)) (all p (ys ++ xs)) (all_behind p xs ys) (all_behind p ys xs)

  -- how many pass does not hang on which of two lists stands first
  pub count_exchange : (p : A → Bool) (xs ys : List A) → count p (xs ++ ys) ≡ count p (ys ++ xs)
  count_exchange p xs ys = omega (arith, count_append p xs ys, count_append p ys xs)

  -- whether some member passes does not hang on which of two lists stands first
  pub any_exchange : (p : A → Bool) (xs ys : List A) → any p (xs ++ ys) ≡ any p (ys ++ xs)
  any_exchange p xs ys = any_count p (xs ++ ys) ∙ ap (leb 1) (count_exchange p xs ys) ∙ sym (any_count p (ys ++ xs))

  -- two lists put together in two ways: one of the cuts lies behind the other
  pub record Cut (xs ys us vs : List A) : Type 0 where
    pub between : List A
    pub longer : us ≡ xs ++ between
    pub shorter : ys ≡ between ++ vs

  -- of two ways to cut one list in two, one cut lies at or behind the other
  pub cuts : (xs ys us vs : List A) → xs ++ ys ≡ us ++ vs → Cut xs ys us vs ⊎ Cut us vs xs ys
  cuts [] ys us vs e = inl (record { between = us; longer = refl; shorter = e })
  cuts (x ∷ xs) ys [] vs e = inr (record { between = x ∷ xs; longer = refl; shorter = sym e })
  cuts (x ∷ xs) ys (u ∷ us) vs e = go (cuts xs ys us vs (tail-eq_of_cons-eq e))
    where
      same : x ≡ u
      same = head-eq_of_cons-eq e

      go : Cut xs ys us vs ⊎ Cut us vs xs ys → Cut (x ∷ xs) ys (u ∷ us) vs ⊎ Cut (u ∷ us) vs (x ∷ xs) ys
      go (inl c) = inl (record { between = c.between; longer = rw (same, c.longer); shorter = c.shorter })
      go (inr c) = inr (record { between = c.between; longer = rw (same, c.longer); shorter = c.shorter })

  -- members by place
  pub mem_get_or : (xs : List A) (i : ℕ) (d : A) → i < length xs → Memᴰ (get_or xs i d) xs
  mem_get_or [] i d h = absurd (omega arith)
  mem_get_or (x ∷ xs) zero d h = Memᴰ.head refl
  mem_get_or (x ∷ xs) (suc i) d h = Memᴰ.tail (mem_get_or xs i d (omega arith))

  -- a member stands at some place of the list
  pub get_or_mem : (xs : List A) (x d : A) → Memᴰ x xs → (i : ℕ) × (i < length xs) × (get_or xs i d ≡ x)
  get_or_mem [] x d x3 = elim x3 [ ]
  get_or_mem (y ∷ xs) x d (Memᴰ.head q) = (0, omega arith, sym q)
  get_or_mem (y ∷ xs) x d (Memᴰ.tail m) = let (i, l, e) = get_or_mem xs x d m in (suc i, omega arith, e)

  -- where the member at each place passes, all do
  pub all_at : (p : A → Bool) (xs : List A) (d : A) → ((i : ℕ) → i < length xs → p (get_or xs i d) ≡ true) → all p xs ≡ true
  unfolding all
  all_at p [] d h = refl
  all_at p (x ∷ xs) d h = rw (h 0 (omega arith)) (all_at p xs d (λ i k. h (suc i) (omega arith)))

  -- where the members at any two places stand in r, every member stands in r to every later one
  pub at_pairwise : (r : A → A → Bool) (xs : List A) (d : A) → ((i k : ℕ) → i < k → k < length xs → r (get_or xs i d) (get_or xs k d) ≡ true)
      → pairwise r xs ≡ true
  unfolding pairwise
  at_pairwise r [] d h = refl
  at_pairwise r (x ∷ xs) d h =
      rw (all_at (r x) xs d (λ k m. h 0 (suc k) (omega arith) (omega arith))) (at_pairwise r xs d (λ i k m n. h (suc i) (suc k) (omega arith) (omega arith)))

  -- where every member stands in r to every later one, the members at any two places do
  pub pairwise_at : (r : A → A → Bool) (xs : List A) (d : A) → pairwise r xs ≡ true → (i k : ℕ) → i < k → k < length xs → r (get_or xs i d) (get_or xs k d) ≡ true
  unfolding pairwise
  pairwise_at r [] d e i k h l = absurd (omega arith)
  pairwise_at r (x ∷ xs) d e zero zero h l = absurd (omega arith)
  pairwise_at r (x ∷ xs) d e zero (suc k) h l = all_mem (r x) xs (and_left (all (r x) xs) (pairwise r xs) e) (get_or xs k d) (mem_get_or xs k d (omega arith))
  pairwise_at r (x ∷ xs) d e (suc i) zero h l = absurd (omega arith)
  pairwise_at r (x ∷ xs) d e (suc i) (suc k) h l = pairwise_at r xs d (and_right (all (r x) xs) (pairwise r xs) e) i k (omega arith) (omega arith)

  -- a member that is kept is a member of the whole, and passes
  pub keep_mem : (p : A → Bool) (xs : List A) (x : A) → Memᴰ x (keep p xs) → Memᴰ x xs × (p x ≡ true)
  unfolding keep
  keep_mem p [] x m = absurd (Memᴰ.not-nil m)
  keep_mem p (y ∷ xs) x m = go (p y) refl m (keep_mem p xs x)
    where
      go : (b : Bool) → p y ≡ b → Memᴰ x (cond b (y ∷ keep p xs) (keep p xs)) → (Memᴰ x (keep p xs) → Memᴰ x xs × (p x ≡ true))
          → Memᴰ x (y ∷ xs) × (p x ≡ true)
      go true e (Memᴰ.head q) below = (Memᴰ.head q, ap p q ∙ e)
      go true e (Memᴰ.tail m) below = let (i, h) = below m in (Memᴰ.tail i, h)
      go false e m below = let (i, h) = below m in (Memᴰ.tail i, h)

  -- a member that passes is kept
  pub mem_keep : (p : A → Bool) (xs : List A) (x : A) → Memᴰ x xs → p x ≡ true → Memᴰ x (keep p xs)
  unfolding keep
  mem_keep p [] x x4 e = elim x4 [ ]
  mem_keep p (y ∷ xs) x (Memᴰ.head q) e = rw (ap p (sym q) ∙ e) (Memᴰ.head q)
  mem_keep p (y ∷ xs) x (Memᴰ.tail m) e = go (p y) (mem_keep p xs x m e)
    where
      go : (b : Bool) → Memᴰ x (keep p xs) → Memᴰ x (cond b (y ∷ keep p xs) (keep p xs))
      go true i = Memᴰ.tail i
      go false i = i

  -- pairs of a list made of two
  pub pairwise_append : (r : A → A → Bool) (xs ys : List A) → pairwise r xs ≡ true → pairwise r ys ≡ true
      → ((x y : A) → Memᴰ x xs → Memᴰ y ys → r x y ≡ true) → pairwise r (xs ++ ys) ≡ true
  unfolding pairwise
  pairwise_append r [] ys p q h = q
  pairwise_append r (x ∷ xs) ys p q h =
      let (a, b) = and_parts (all (r x) xs) (pairwise r xs) p in
      and_both _ _ (mem_all (r x) (xs ++ ys) (λ y m. go y (Memᴰ.append_cases xs m)))
      (pairwise_append r xs ys b q (λ y z m n. h y z (Memᴰ.tail m) n))
    where
      go : (y : A) → Memᴰ y xs ⊎ Memᴰ y ys → r x y ≡ true
      go y (inl m) = all_mem (r x) xs (and_parts (all (r x) xs) (pairwise r xs) p).0 y m
      go y (inr m) = h x y (Memᴰ.head refl) m

  -- two lists in strict order with the same members are one
  pub sorted_same : (r : A → A → Bool) → ((x y : A) → r x y ≡ true → r y x ≡ true → ⊥) → (xs ys : List A) → pairwise r xs ≡ true → pairwise r ys ≡ true
      → ((x : A) → Memᴰ x xs → Memᴰ x ys) → ((x : A) → Memᴰ x ys → Memᴰ x xs) → xs ≡ ys
  unfolding pairwise
  sorted_same r asym [] [] p q f g = refl
  sorted_same r asym [] (y ∷ ys) p q f g = absurd (Memᴰ.not-nil (g y (Memᴰ.head refl)))
  sorted_same r asym (x ∷ xs) [] p q f g = absurd (Memᴰ.not-nil (f x (Memᴰ.head refl)))
  sorted_same r asym (x ∷ xs) (y ∷ ys) p q f g = go (f x (Memᴰ.head refl)) (g y (Memᴰ.head refl))
      (sorted_same r asym xs ys (and_parts (all (r x) xs) (pairwise r xs) p).1 (and_parts (all (r y) ys) (pairwise r ys) q).1)
    where
      before_x : (z : A) → Memᴰ z xs → r x z ≡ true
      before_x = all_mem (r x) xs (and_parts (all (r x) xs) (pairwise r xs) p).0

      before_y : (z : A) → Memᴰ z ys → r y z ≡ true
      before_y = all_mem (r y) ys (and_parts (all (r y) ys) (pairwise r ys) q).0

      -- the rest of the one is the rest of the other
      rest : (a b : A) (us vs : List A) → a ≡ b → ((z : A) → Memᴰ z us → r a z ≡ true) → ((z : A) → Memᴰ z us → Memᴰ z (b ∷ vs))
          → (z : A) → Memᴰ z us → Memᴰ z vs
      rest a b us vs e h k z m = two (k z m)
        where
          self : z ≡ b → ⊥
          self c = let t : r a a ≡ true = rw (c ∙ sym e) at (h z m) in asym a a t t

          two : Memᴰ z (b ∷ vs) → Memᴰ z vs
          two (Memᴰ.head c) = absurd (self c)
          two (Memᴰ.tail n) = n

      same_first : x ≡ y → (((z : A) → Memᴰ z xs → Memᴰ z ys) → ((z : A) → Memᴰ z ys → Memᴰ z xs) → xs ≡ ys) → x ∷ xs ≡ y ∷ ys
      same_first e below =
          let t : xs ≡ ys = below (rest x y xs ys e before_x (λ z m. f z (Memᴰ.tail m)))
          (rest y x ys xs (sym e) before_y (λ z m. g z (Memᴰ.tail m))) in
          rw (e, t)

      go : Memᴰ x (y ∷ ys) → Memᴰ y (x ∷ xs)
          → (((z : A) → Memᴰ z xs → Memᴰ z ys) → ((z : A) → Memᴰ z ys → Memᴰ z xs) → xs ≡ ys) → x ∷ xs ≡ y ∷ ys
      go (Memᴰ.head e) n below = same_first e below
      go (Memᴰ.tail m) (Memᴰ.head e) below = same_first (sym e) below
      go (Memᴰ.tail m) (Memᴰ.tail n) below = absurd (asym x y (before_x y n) (before_y x m))

  -- tests that agree on the members count alike
  pub count_same : (p q : A → Bool) (xs : List A) → ((x : A) → Memᴰ x xs → p x ≡ q x) → count p xs ≡ count q xs
  count_same p q [] h = count_nil p ∙ sym (count_nil q)
  count_same p q (x ∷ xs) h =
      omega (arith, count_cons p x xs, count_cons q x xs, ap bit (h x (Memᴰ.head refl)), count_same p q xs (λ y m. h y (Memᴰ.tail m)))

  -- a list taken apart at a member
  pub record Apart (x : A) (xs : List A) : Type 0 where
    pub front : List A
    pub rest : List A
    pub whole : xs ≡ front ++ x ∷ rest

  -- a list can be taken apart at any of its members
  pub apart_at : (x : A) (xs : List A) → Memᴰ x xs → Apart x xs
  apart_at x [] x'' = elim x'' [ ]
  apart_at x (y ∷ xs) (Memᴰ.head q) = record { front = []; rest = xs; whole = rw q }
  apart_at x (y ∷ xs) (Memᴰ.tail m) =
      let k : Apart x xs = apart_at x xs m in
      record { front = y ∷ k.front; rest = k.rest; whole = ap (λ (l : List A). y ∷ l) k.whole }

  -- what a function gives along numbers in a row
  pub get_d_up_from : (h : ℕ → A) (u n i : ℕ) (d : A) → i < n → get_or (map h (up_from u n)) i d ≡ h (u + i)
  unfolding up_from
  get_d_up_from h u zero i d l = absurd (omega arith)
  get_d_up_from h u (suc n) zero d l = ap h (omega arith)
  get_d_up_from h u (suc n) (suc i) d l = get_d_up_from h (suc u) n i d (omega arith) ∙ ap h (omega arith)

-- members of a list that a function made
module _ {A B : Type 0} (h : A → B) where
  -- each member of the list made is what the function gives of a member of the other
  pub map_mem : (xs : List A) (y : B) → Memᴰ y (map h xs) → (x : A) × Memᴰ x xs × (y ≡ h x)
  map_mem [] y m = absurd (Memᴰ.not-nil m)
  map_mem (x ∷ xs) y (Memᴰ.head q) = (x, Memᴰ.head refl, q)
  map_mem (x ∷ xs) y (Memᴰ.tail m) = let (z, i, e) = map_mem xs y m in (z, Memᴰ.tail i, e)

  -- what the function gives of a member is a member of the list made
  pub mem_map : (xs : List A) (x : A) → Memᴰ x xs → Memᴰ (h x) (map h xs)
  mem_map [] x x3 = elim x3 [ ]
  mem_map (y ∷ xs) x (Memᴰ.head q) = Memᴰ.head (ap h q)
  mem_map (y ∷ xs) x (Memᴰ.tail m) = Memᴰ.tail (mem_map xs x m)

-- numbers in a row
pub length_up_from : (u n : ℕ) → length (up_from u n) ≡ n
unfolding up_from
length_up_from u zero = refl
length_up_from u (suc n) = ap suc (length_up_from (suc u) n)

-- the n numbers from u on include each from u to below u + n
pub up_from_mem : (u n v : ℕ) → u ≤ v → v < u + n → Memᴰ v (up_from u n)
unfolding up_from
up_from_mem u zero v l h = absurd (omega arith)
up_from_mem u (suc n) v l h = go (ℕ_discrete v u) (up_from_mem (suc u) n v)
  where
    go : Dec (v ≡ u) → (suc u ≤ v → v < suc u + n → Memᴰ v (up_from (suc u) n)) → Memᴰ v (u ∷ up_from (suc u) n)
    go (yes e) below = Memᴰ.head e
    go (no e) below = Memᴰ.tail (below (omega arith) (omega arith))

-- each of the n numbers from u on is at least u and below u + n
pub mem_up_from : (u n v : ℕ) → Memᴰ v (up_from u n) → (u ≤ v) × (v < u + n)
unfolding up_from
mem_up_from u zero v m = absurd (Memᴰ.not-nil m)
mem_up_from u (suc n) v (Memᴰ.head e) = (omega arith, omega arith)
mem_up_from u (suc n) v (Memᴰ.tail m) = let h : (suc u ≤ v) × (v < suc u + n) = mem_up_from (suc u) n v m in (omega arith, omega arith)
