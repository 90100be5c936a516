-- Two texts put one behind the other lie within the buffer. Assumes nothing.
use Prim.Native.Nat.{ℕ, ◌≤◌}
use mathlib.Core.Path.{◌≡◌, ap, ◌∙◌}
use mathlib.Core.List.{List}
use native.Mathlib.Omega.{arith}
use lib.ListN.{length}
use lib.Seq.{length-sets}
use Rattle.letters.specs.Puts.{behind, Puts}

-- the place behind a text lies within, where its own place does
within : (o t x : List ℕ) (at r : ℕ) → Puts o at t x r → at ≤ length o → r ≤ length x
unfolding behind
within o t x at r p h =
    let l : length x ≡ length o = ap (λ (y : List ℕ). length y) p.buffer ∙ length-sets o at t in
    omega (arith, p.place)

-- and so does the place behind the second
pub both_within : (o vs x ws y : List ℕ) (m r : ℕ) → Puts o 0 vs x m → Puts x m ws y r → r ≤ length y
both_within o vs x ws y m r p q = within x ws y m r q (within o vs x 0 m p (omega arith))
