-- The head of a wrapper, as the code comes by it. Assumes nothing.
use Rattle.std.proofs.Common.{◌≡◌, ℕ, ◌+◌, ◌*◌, ◌<◌, ◌≤◌, List, [], ◌∷◌, length, get_or, refl, arith, eq-eqb, ne_eqb}
use Rattle.std.specs.Prelude.{Option, None, Some}
use Rattle.season.specs.Heads.{head_in, fits}

-- what a head says of a job's length
pub job_fits : (f : Option ℕ) (n : ℕ) → f ≡ Some n → fits f → n < 65536
unfolding fits
job_fits f n e h = rw e at h

-- fewer than three bytes
pub head_short : (s : List ℕ) → length s < 3 → (None ≡ head_in s) × fits None
unfolding head_in fits
head_short [] h = (refl, tt)
head_short (t ∷ []) h = (refl, tt)
head_short (t ∷ x ∷ []) h = (refl, tt)
head_short (t ∷ x ∷ y ∷ s) h = absurd (omega arith)

-- another tag
pub head_other : (s : List ℕ) → 3 ≤ length s → (get_or s 0 0 ≡ 9 → ⊥) → (None ≡ head_in s) × fits None
unfolding head_in fits
head_other [] h n = absurd (omega arith)
head_other (t ∷ []) h n = absurd (omega arith)
head_other (t ∷ x ∷ []) h n = absurd (omega arith)
head_other (t ∷ x ∷ y ∷ s) h n = (rw (ne_eqb t 9 n), tt)

-- a job of so many bytes
pub head_job : (s : List ℕ) (a b : ℕ) → 3 ≤ length s → get_or s 0 0 ≡ 9 → a ≡ get_or s 1 0 → a < 256 → b ≡ get_or s 2 0 → b < 256
    → (Some (256 * a + b) ≡ head_in s) × fits (Some (256 * a + b))
unfolding head_in fits
head_job [] a b h e ea la eb lb = absurd (omega arith)
head_job (t ∷ []) a b h e ea la eb lb = absurd (omega arith)
head_job (t ∷ x ∷ []) a b h e ea la eb lb = absurd (omega arith)
head_job (t ∷ x ∷ y ∷ s) a b h e ea la eb lb = (rw (eq-eqb t 9 e, ← ea, ← eb), omega arith)
