-- Blanks and words, as the code comes by them. Assumes nothing.
use Prim.Native.Nat.{ℕ, suc, ◌+◌, ◌-◌, ◌≤◌}
use mathlib.Core.Path.{◌≡◌, refl, ◌∙◌, ap}
use mathlib.Core.Bool.{Bool, true, false, cond, not, ◌&&◌}
use mathlib.Core.List.{List, [], ◌∷◌}
use native.Mathlib.Omega.{arith}
use borrow.Author.Tests.{ltb-false}
use lib.Dec.{ltb, eqb}
use lib.ListN.{length, take, drop}
use Rattle.std.specs.Char.{is_ascii_alphanumeric}
use Rattle.std.specs.Cmp.Lexicographic.{pointwise}
use Rattle.std.specs.List.{position_or_len}
use Rattle.std.specs.Prelude.{Option, None, Some, unwrap_or}
use Rattle.std.proofs.lemmas.List.{take_rest}
use Rattle.std.proofs.lemmas.List.Sums.{prefix_len-le-length}
use Rattle.floor.specs.Lists.{same_numbers}
use Rattle.floor.specs.JobTexts.{blank, letter, skip, word, behind_word, next, uncommented}

-- the same numbers, as `==` finds them
pub same_found : (xs ys : List ℕ) → pointwise eqb xs ys ≡ same_numbers xs ys
unfolding same_numbers
same_found [] [] = refl
same_found [] (y ∷ ys) = refl
same_found (x ∷ xs) [] = refl
same_found (x ∷ xs) (y ∷ ys) = ap (λ (b : Bool). eqb x y && b) (same_found xs ys)

-- the first place that passes, or else the end, as `position` finds it
pub place_found : {A : Type 0} (p : A → Bool) (s : List A) {r : Option ℕ} {n : ℕ}
    → r ≡ cond (ltb (position_or_len p s) (length s)) (Some (position_or_len p s)) None → n ≡ unwrap_or r (length s) → n ≡ position_or_len p s
place_found p s {r} {n} e u = go (ltb (position_or_len p s) (length s)) refl
  where
    go : (b : Bool) → ltb (position_or_len p s) (length s) ≡ b → n ≡ position_or_len p s
    go true t = u ∙ (rw (e, t))
    go false t =
        let z : length s ≡ position_or_len p s = omega (arith, prefix_len-le-length (λ x. not (p x)) s, ltb-false (position_or_len p s) (length s) t) in
        u ∙ (rw (e, t) z)

-- behind the blanks in front stands what is left without them
skip_from : (t : List ℕ) → drop (position_or_len (λ b. not (blank b)) t) t ≡ skip t
unfolding skip
skip_from [] = refl
skip_from (b ∷ t) = go (blank b) (skip_from t)
  where
    n : ℕ
    n = position_or_len (λ b. not (blank b)) t

    go : (x : Bool) → drop n t ≡ skip t → drop (cond (not (not x)) (1 + n) 0) (b ∷ t) ≡ cond x (skip t) (b ∷ t)
    go true h = let z : 1 + n ≡ suc n = omega arith in rw z h
    go false h = refl

-- up to the first byte that is no letter stands the word
word_to : (t : List ℕ) → take (position_or_len (λ b. not (is_ascii_alphanumeric b)) t) t ≡ word t
unfolding word letter
word_to [] = refl
word_to (b ∷ t) = go (is_ascii_alphanumeric b) (word_to t)
  where
    n : ℕ
    n = position_or_len (λ b. not (is_ascii_alphanumeric b)) t

    go : (x : Bool) → take n t ≡ word t → take (cond (not (not x)) (1 + n) 0) (b ∷ t) ≡ cond x (b ∷ word t) []
    go true h = let z : 1 + n ≡ suc n = omega arith in rw z (ap (λ (l : List ℕ). b ∷ l) h)
    go false h = refl

-- up to the first sign of a comment stands the line without it
comment_to : (t : List ℕ) → take (position_or_len (λ b. eqb b 35) t) t ≡ uncommented t
unfolding uncommented
comment_to [] = refl
comment_to (b ∷ t) = go (eqb b 35) (comment_to t)
  where
    n : ℕ
    n = position_or_len (λ b. eqb b 35) t

    go : (x : Bool) → take n t ≡ uncommented t → take (cond (not x) (1 + n) 0) (b ∷ t) ≡ cond x [] (b ∷ uncommented t)
    go true h = refl
    go false h = let z : 1 + n ≡ suc n = omega arith in rw z (ap (λ (l : List ℕ). b ∷ l) h)

-- what is found of them, by the first place of a byte that ends them
module _ (s : List ℕ) (n : ℕ) where
  pub skip_found : n ≡ position_or_len (λ b. not (blank b)) s → take (length s - n) (drop n s) ≡ skip s
  skip_found e = take_rest s n ∙ rw e (skip_from s)

  pub word_found : n ≡ position_or_len (λ b. not (is_ascii_alphanumeric b)) s → take n s ≡ word s
  word_found e = rw e (word_to s)

  pub comment_found : n ≡ position_or_len (λ b. eqb b 35) s → take n s ≡ uncommented s
  comment_found e = rw e (comment_to s)

-- a word is no longer than the text, and the rest is behind it
word_front : (t : List ℕ) → (drop (length (word t)) t ≡ behind_word t) × (length (word t) ≤ length t)
unfolding word behind_word
word_front [] = (refl, omega arith)
word_front (b ∷ t) = go (letter b) (word_front t)
  where
    go : (x : Bool) → (drop (length (word t)) t ≡ behind_word t) × (length (word t) ≤ length t)
        → (drop (length (cond x (b ∷ word t) [])) (b ∷ t) ≡ cond x (behind_word t) (b ∷ t)) × (length (cond x (b ∷ word t) []) ≤ length (b ∷ t))
    go true p = (p.0, omega (arith, p.1))
    go false p = (refl, omega arith)

module _ (s w : List ℕ) (e : w ≡ word s) where
  -- the word ends within the text
  pub word_within : length w ≤ length s
  word_within = rw e (word_front s).1

  -- behind the word and the blanks after it stands the next thing
  pub next_found : (r : List ℕ) → r ≡ skip (take (length s - length w) (drop (length w) s)) → r ≡ next s
  unfolding next
  next_found r h = h ∙ (rw (take_rest s (length w), e) (ap skip (word_front s).0))
