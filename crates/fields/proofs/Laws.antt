-- The field at a place, as the code comes by it, and what its callers learn. Assumes nothing.
use Prim.Native.Nat.{ℕ, suc, ◌+◌, ◌*◌, ◌-◌, ◌/◌, ◌%◌, ◌<◌, ◌≤◌}
use mathlib.Core.Path.{◌≡◌, refl, sym, ◌∙◌}
use mathlib.Core.Bool.{Bool, true, false, cond}
use mathlib.Core.List.{List, [], ◌∷◌}
use native.Mathlib.Omega.{arith}
use borrow.Author.Tests.{le-leb, lt-leb, leb-true, leb-false}
use lib.Dec.{leb}
use lib.ListN.{length, get_or, set, take, drop, length-drop, drop_of_length-le}
use lib.Seq.{drop-cons, drop-drop, drop-length}
use Rattle.floor.specs.Fields.{broken, field, read_field, value_of, rest_of}
use Rattle.std.specs.Prelude.{Option, Some, None}
use Rattle.fields.specs.declared.Field.{Field}
use Rattle.fields.specs.Found.{found, Stands, with_head}

-- less than three bytes are no whole field
read_short : (l : List ℕ) → length l < 3 → broken ≡ read_field l
unfolding read_field
read_short [] h = refl
read_short (t ∷ []) h = refl
read_short (t ∷ x ∷ []) h = refl
read_short (t ∷ x ∷ y ∷ r) h = absurd (omega arith)

-- no room for a head
pub field_short : (s : List ℕ) (at : ℕ) → length s < at + 3 → (found None s ≡ read_field (drop at s)) × Stands None at (length s)
unfolding found Stands
field_short s at h = (read_short (drop at s) (simp length-drop (omega arith)), tt)

module _ (s : List ℕ) (at : ℕ) where
  -- the length that a head gives
  abbrev word : ℕ
  word = 256 * get_or s (at + 1) 0 + get_or s (at + 1 + 1) 0

  -- the bytes behind a head
  abbrev behind : List ℕ
  behind = drop (at + 3) s

  -- where a head stands at a place, the field there has its tag and as many bytes as it says, or is broken where so many are not left
  read_head : at + 3 ≤ length s
      → read_field (drop at s) ≡ cond (leb word (length behind)) (field (get_or s at 0) (take word behind) (drop word behind)) broken
  unfolding read_field
  read_head h =
      let h₀ : at < length s = omega arith in
      let h₁ : suc at < length s = omega arith in
      let h₂ : suc (suc at) < length s = omega arith in
      let e₁ : at + 1 ≡ suc at = omega arith in
      let e₂ : suc at + 1 ≡ suc (suc at) = omega arith in
      let e₃ : at + 3 ≡ suc (suc (suc at)) = omega arith in
      rw (e₁, e₂, e₃, drop-cons s at 0 h₀, drop-cons s (suc at) 0 h₁, drop-cons s (suc (suc at)) 0 h₂)

  -- the value runs past the end
  pub field_cut : (n : ℕ) → n ≡ word → at + 3 ≤ length s → length s - (at + 3) < n
      → (found None s ≡ read_field (drop at s)) × Stands None at (length s)
  unfolding found Stands
  field_cut n e h k =
      let l : length (drop (at + 3) s) < word = simp length-drop (omega arith) in
      (sym (read_head h ∙ rw (lt-leb word (length (drop (at + 3) s)) l)), tt)

  -- a whole field
  pub field_whole : (n : ℕ) → n ≡ word → at ≤ length s → 3 ≤ length s - at → n ≤ length s - (at + 3)
      → (found (Some (record { tag = get_or s at 0; start = at + 3; end = at + 3 + n })) s ≡ read_field (drop at s))
      × Stands (Some (record { tag = get_or s at 0; start = at + 3; end = at + 3 + n })) at (length s)
  unfolding found Stands
  field_whole n e g m k =
      let h : at + 3 ≤ length s = omega arith in
      let l : word ≤ length (drop (at + 3) s) = simp length-drop (omega arith) in
      let d : at + 3 + n - (at + 3) ≡ n = omega arith in
      (sym (read_head h ∙ rw (le-leb word (length (drop (at + 3) s)) l, ← e, d, drop-drop n (at + 3) s)), (refl, omega arith, omega arith))

-- what is promised of an answer on a place of some bytes; the proofs over the reader carry it as one fact
abbrev pub tells : Option Field → List ℕ → ℕ → Type 0
tells f s at = (found f s ≡ read_field (drop at s)) × Stands f at (length s)

-- what an answer tells of a place of some bytes, it tells of the same bytes and place by other names
pub tells_there : (f : Option Field) (s t : List ℕ) (a b : ℕ) → s ≡ t → a ≡ b → tells f s a → tells f t b
tells_there f s t a b p q e = rw (p, q) at e

-- what an answer tells of the bytes
module _ (s : List ℕ) (at : ℕ) (f : Option Field) where
  -- where the answer is broken, no whole field stands there
  pub no_field : f ≡ None → found f s ≡ read_field (drop at s) → read_field (drop at s) ≡ broken
  unfolding found
  no_field b e = sym e ∙ rw b

  module _ (w : Field) where
    -- where the answer is whole, the field there has this tag, this value and these bytes behind it
    pub the_field : f ≡ Some w → found f s ≡ read_field (drop at s) → read_field (drop at s) ≡ field w.tag (take (w.end - w.start) (drop w.start s)) (drop w.end s)
    unfolding found
    the_field o q = sym q ∙ rw o

    -- the value starts behind the three bytes of the head
    pub starts : f ≡ Some w → Stands f at (length s) → w.start ≡ at + 3
    unfolding Stands
    starts o q = (rw o at q).0

    -- the value does not end before it starts
    pub in_order_lem : f ≡ Some w → Stands f at (length s) → w.start ≤ w.end
    unfolding Stands
    in_order_lem o q = (rw o at q).1

    -- the value ends within the bytes
    pub within : f ≡ Some w → Stands f at (length s) → w.end ≤ length s
    unfolding Stands
    within o q = (rw o at q).2

-- the value and what follows, as the code hands them on
module _ (s : List ℕ) (at : ℕ) (f : Option Field) where
  pub value_none : f ≡ None → found f s ≡ read_field (drop at s) → [] ≡ value_of (read_field (drop at s))
  unfolding value_of
  value_none b e = rw (no_field s at f b e)

  pub after_none : f ≡ None → found f s ≡ read_field (drop at s) → length s ≡ length s - length (rest_of (read_field (drop at s)))
  unfolding rest_of
  after_none b e = rw (no_field s at f b e) (omega arith)

  module _ (w : Field) where
    pub value_whole : f ≡ Some w → found f s ≡ read_field (drop at s) → take (w.end - w.start) (drop w.start s) ≡ value_of (read_field (drop at s))
    unfolding value_of
    value_whole o q = rw (the_field s at f w o q)

    pub after_whole : f ≡ Some w → found f s ≡ read_field (drop at s) → Stands f at (length s)
        → w.end ≡ length s - length (rest_of (read_field (drop at s)))
    unfolding rest_of
    after_whole o q p = rw (the_field s at f w o q) (simp length-drop (omega (arith, within s at f w o p)))

-- what follows the first field is an end of the bytes
rest_cases : (n t h l : ℕ) (v r : List ℕ) (b : Bool) → leb n (length r) ≡ b
    → drop (suc (suc (suc (length r))) - length (rest_of (cond b (field t v (drop n r)) broken))) (t ∷ h ∷ l ∷ r)
    ≡ rest_of (cond b (field t v (drop n r)) broken)
unfolding rest_of
rest_cases n t h l v r true e =
    let k : n ≤ length r = leb-true n (length r) e in
    let d : suc (suc (suc (length r))) - length (drop n r) ≡ suc (suc (suc n)) = simp length-drop (omega arith) in
    rw d
rest_cases n t h l v r false e =
    let d : suc (suc (suc (length r))) - 0 ≡ suc (suc (suc (length r))) = omega arith in
    rw (d, drop-length r)

-- what follows the first field is the end of the bytes that is as long
rest_end : (l : List ℕ) → drop (length l - length (rest_of (read_field l))) l ≡ rest_of (read_field l)
unfolding read_field rest_of
rest_end [] = refl
rest_end (t ∷ []) = refl
rest_end (t ∷ h ∷ []) = refl
rest_end (t ∷ h ∷ l ∷ r) = rest_cases (256 * h + l) t h l (take (256 * h + l) r) r (leb (256 * h + l) (length r)) refl

-- what follows a field is no longer than what stands behind its head
rest_cut : (n t : ℕ) (v r : List ℕ) (b : Bool) → length (rest_of (cond b (field t v (drop n r)) broken)) ≤ length r
unfolding rest_of
rest_cut n t v r true = simp length-drop (omega arith)
rest_cut n t v r false = omega arith

-- what follows the first field is no longer than the bytes
rest_fits : (l : List ℕ) → length (rest_of (read_field l)) ≤ length l
unfolding read_field rest_of
rest_fits [] = omega arith
rest_fits (t ∷ []) = omega arith
rest_fits (t ∷ h ∷ []) = omega arith
rest_fits (t ∷ h ∷ l ∷ r) = omega (arith, rest_cut (256 * h + l) t (take (256 * h + l) r) r (leb (256 * h + l) (length r)))

-- what follows the field at any place is the end of the bytes that is as long
after_cases : (s : List ℕ) (at x : ℕ) (b : Bool) → leb at (length s) ≡ b → x ≡ length s - length (rest_of (read_field (drop at s)))
    → drop x s ≡ rest_of (read_field (drop at s))
unfolding read_field rest_of
after_cases s at x true q e =
    let h : at ≤ length s = leb-true at (length s) q in
    let l : length (drop at s) ≡ length s - at = length-drop at s in
    let p : x ≡ at + (length (drop at s) - length (rest_of (read_field (drop at s)))) = omega (arith, rest_fits (drop at s)) in
    rw p (sym (drop-drop (length (drop at s) - length (rest_of (read_field (drop at s)))) at s) ∙ rest_end (drop at s))
after_cases s at x false q e =
    let h : length s ≤ at = omega (arith, leb-false at (length s) q) in
    let n : drop at s ≡ [] = drop_of_length-le s h in
    let p : x ≡ length s = (rw n at e) ∙ omega arith in
    rw (n, p) (drop-length s)

-- the place that `after_at` answers is where what follows the field starts
pub after_drops : (s : List ℕ) (at x : ℕ) → x ≡ length s - length (rest_of (read_field (drop at s))) → drop x s ≡ rest_of (read_field (drop at s))
after_drops s at x e = after_cases s at x (leb at (length s)) refl e

-- the head of a field, put
module _ (s : List ℕ) (at t n : ℕ) where
  pub head_none : length s < at + 3 → s ≡ with_head s at t n
  unfolding with_head
  head_none h = rw (lt-leb (at + 3) (length s) h)

  pub head_put : at + 3 ≤ length s → set (set (set s at t) (at + 1) (n / 256)) (at + 2) (n % 256) ≡ with_head s at t n
  unfolding with_head
  head_put h =
      let e₁ : at + 1 ≡ suc at = omega arith in
      let e₂ : at + 2 ≡ suc (suc at) = omega arith in
      rw (le-leb (at + 3) (length s) h, e₁, e₂)
