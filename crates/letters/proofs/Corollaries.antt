-- What follows from a promise on a text put at a place, or at the front, of a buffer. Assumes nothing.
use Prim.Native.Nat.{ℕ, ◌≤◌}
use mathlib.Core.Path.{◌≡◌, sym, ap, ◌∙◌}
use mathlib.Core.List.{List}
use native.Mathlib.Omega.{arith}
use lib.ListN.{length, replicate, length-replicate}
use lib.Seq.{sets, length-sets}
use Rattle.letters.specs.Puts.{Puts}

-- A PROMISE ON A TEXT PUT AT A PLACE allows one place behind it and one buffer
pub one_put : (o t : List ℕ) (at r s : ℕ) (x y : List ℕ) → Puts o at t x r → Puts o at t y s → (r ≡ s) × (x ≡ y)
one_put o t at r s x y p q = (p.place ∙ sym q.place, p.buffer ∙ sym q.buffer)

module _ (t o : List ℕ) {n : ℕ} where
  -- A PROMISE ON A TEXT PUT AT THE FRONT allows one length and one buffer
  pub one_text : (r s : ℕ) (x y : List ℕ) → (r ≡ length t) × (x ≡ sets o 0 t) × (r ≤ n) → (s ≡ length t) × (y ≡ sets o 0 t) × (s ≤ n)
      → (r ≡ s) × (x ≡ y)
  one_text r s x y p q = (p.0 ∙ sym q.0, p.1 ∙ sym q.1)

  -- what is put lies within the page
  pub text_fits : (r : ℕ) (x : List ℕ) → (r ≡ length t) × (x ≡ sets o 0 t) × (r ≤ n) → o ≡ replicate n 0 → r ≤ length x
  text_fits r x p e =
      let k : length x ≡ length o = ap (λ (y : List ℕ). length y) p.1 ∙ length-sets o 0 t in
      let l : length o ≡ n = ap (λ (y : List ℕ). length y) e ∙ length-replicate {A = ℕ} n 0 in
      omega (arith, p.2, l, k)
