-- Parts of lists by tests: kept in either order, counted, and what is kept of a part. Assumes nothing.
use Rattle.std.specs.Prelude.{ℕ, zero, suc, ◌+◌, ◌<◌, ◌≡◌, Bool, ◌&&◌, length, get_or}
use Rattle.std.proofs.Math.Path.{refl}
use Rattle.std.proofs.Common.{sym, ◌∙◌, arith}
use Rattle.std.proofs.Math.Bool.{true, false, cond}
use mathlib.Core.List.{List, [], ◌∷◌, Memᴰ}
use Rattle.floor.specs.Lists.{keep}
use Rattle.floor.specs.Lists.Laws.{bit, count}
use Rattle.floor.proofs.Lists.Laws.{no_false, count_nil, count_cons}

-- whether both of two tests pass does not hang on which is asked first
and_swap : (a b : Bool) → (a && b) ≡ (b && a)
and_swap true true = refl
and_swap true false = refl
and_swap false true = refl
and_swap false false = refl

module _ {A : Type 0} where
  -- a first member that passes is kept
  pub keep_yes : (p : A → Bool) (x : A) (xs : List A) → p x ≡ true → keep p (x ∷ xs) ≡ x ∷ keep p xs
  unfolding keep
  keep_yes p x xs e = rw e

  -- a first member that does not pass is left out
  pub keep_no : (p : A → Bool) (x : A) (xs : List A) → p x ≡ false → keep p (x ∷ xs) ≡ keep p xs
  unfolding keep
  keep_no p x xs e = rw e

  -- two tests one after the other are one test
  pub keep_keep : (p q : A → Bool) (xs : List A) → keep p (keep q xs) ≡ keep (λ x. q x && p x) xs
  unfolding keep
  keep_keep p q [] = refl
  keep_keep p q (x ∷ xs) = go (q x) (p x) refl (keep_keep p q xs)
    where
      go : (b c : Bool) → p x ≡ c → keep p (keep q xs) ≡ keep (λ x. q x && p x) xs
          → keep p (cond b (x ∷ keep q xs) (keep q xs)) ≡ cond (b && p x) (x ∷ keep (λ x. q x && p x) xs) (keep (λ x. q x && p x) xs)
      go true true f below = rw (f, below)
      go true false f below = rw (f, below)
      go false c f below = below

  -- tests that agree on the members keep the same
  pub keep_same : (p q : A → Bool) (xs : List A) → ((x : A) → Memᴰ x xs → p x ≡ q x) → keep p xs ≡ keep q xs
  unfolding keep
  keep_same p q [] h = refl
  keep_same p q (x ∷ xs) h = rw (h x (Memᴰ.head refl), keep_same p q xs (λ y m. h y (Memᴰ.tail m)))

  -- all pass: all are kept
  pub keep_all : (p : A → Bool) (xs : List A) → ((x : A) → Memᴰ x xs → p x ≡ true) → keep p xs ≡ xs
  unfolding keep
  keep_all p [] h = refl
  keep_all p (x ∷ xs) h = rw (h x (Memᴰ.head refl), keep_all p xs (λ y m. h y (Memᴰ.tail m)))

  -- two tests one after the other keep the same in either order
  pub keep_swap : (p q : A → Bool) (xs : List A) → keep p (keep q xs) ≡ keep q (keep p xs)
  keep_swap p q xs = keep_keep p q xs ∙ keep_same (λ x. q x && p x) (λ x. p x && q x) xs (λ x m. and_swap (q x) (p x)) ∙ sym (keep_keep q p xs)

  -- a stricter test does not see what a wider one left out
  pub keep_under : (p q : A → Bool) (xs : List A) → ((x : A) → Memᴰ x xs → p x ≡ true → q x ≡ true) → keep p (keep q xs) ≡ keep p xs
  keep_under p q xs h = keep_keep p q xs ∙ keep_same (λ x. q x && p x) p xs (λ x m. go (p x) refl (q x) refl (h x m))
    where
      go : {x : A} (b : Bool) → p x ≡ b → (c : Bool) → q x ≡ c → (p x ≡ true → q x ≡ true) → (q x && p x) ≡ p x
      go true e true f k = rw f
      go true e false f k = no_false (sym f ∙ k e)
      go false e true f k = rw f
      go false e false f k = rw (e, f)

  -- each member passes one of two tests and not both: counted in one part and not in the other
  pub count_parts : (p q s : A → Bool) (xs : List A) → ((x : A) → Memᴰ x xs → bit (q x) + bit (s x) ≡ 1)
      → count p xs ≡ count p (keep q xs) + count p (keep s xs)
  unfolding keep
  count_parts p q s [] h = refl
  count_parts p q s (x ∷ xs) h = go (q x) refl (s x) refl (count_parts p q s xs (λ y m. h y (Memᴰ.tail m))) (h x (Memᴰ.head refl))
    where
      go : (b : Bool) → q x ≡ b → (c : Bool) → s x ≡ c → count p xs ≡ count p (keep q xs) + count p (keep s xs) → bit (q x) + bit (s x) ≡ 1
          → count p (x ∷ xs) ≡ count p (keep q (x ∷ xs)) + count p (keep s (x ∷ xs))
      go true e true f i k = absurd (omega (arith, rw (e, f) at k))
      go true e false f i k = rw (keep_yes q x xs e, keep_no s x xs f) (omega (arith, count_cons p x xs, count_cons p x (keep q xs)))
      go false e true f i k = rw (keep_no q x xs e, keep_yes s x xs f) (omega (arith, count_cons p x xs, count_cons p x (keep s xs)))
      go false e false f i k = absurd (omega (arith, rw (e, f) at k))

  -- exactly one place passes: one is counted
  pub count_one : (p : A → Bool) (xs : List A) (d : A) (i : ℕ) → i < length xs → p (get_or xs i d) ≡ true
      → ((k : ℕ) → k < length xs → p (get_or xs k d) ≡ true → k ≡ i) → count p xs ≡ 1
  count_one p [] d i l e h = absurd (omega arith)
  count_one p (x ∷ xs) d zero l e h =
      let c : count p (x ∷ xs) ≡ 1 + count p xs = rw e at (count_cons p x xs) in
      omega (arith, rest xs (λ k m q. absurd (omega (arith, h (suc k) (omega arith) q))))
    where
      rest : (ys : List A) → ((k : ℕ) → k < length ys → p (get_or ys k d) ≡ true → ⊥) → count p ys ≡ 0
      rest [] h = count_nil p
      rest (y ∷ ys) h = at (p y) refl (rest ys (λ k m q. h (suc k) (omega arith) q))
        where
          at : (b : Bool) → p y ≡ b → count p ys ≡ 0 → count p (y ∷ ys) ≡ 0
          at true f i = absurd (h 0 (omega arith) f)
          at false f i = let c : count p (y ∷ ys) ≡ 0 + count p ys = rw f at (count_cons p y ys) in omega arith
  count_one p (x ∷ xs) d (suc i) l e h = at (p x) refl (count_one p xs d i (omega arith) e (λ k m q. omega (arith, h (suc k) (omega arith) q)))
    where
      at : (b : Bool) → p x ≡ b → count p xs ≡ 1 → count p (x ∷ xs) ≡ 1
      at true f i₁ = absurd (omega (arith, h 0 (omega arith) f))
      at false f i₁ = let c : count p (x ∷ xs) ≡ 0 + count p xs = rw f at (count_cons p x xs) in omega arith
