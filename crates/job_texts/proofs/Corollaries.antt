-- What follows from the promises of `text_of` and `job_of`. Assumes nothing.
use Prim.Native.Nat.{ℕ, ◌≤◌}
use mathlib.Core.Path.{◌≡◌}
use mathlib.Core.List.{List}
use lib.ListN.{length}
use lib.Seq.{sets}
use Rattle.floor.specs.JobTexts.{text_of, job_of}
use Rattle.letters.proofs.Corollaries.{one_text}

-- THE PROMISE OF `text_of` ALLOWS ONE LENGTH AND ONE BUFFER
pub one_text_of : (bs o : List ℕ) (r s : ℕ) (x y : List ℕ) → (r ≡ length (text_of bs)) × (x ≡ sets o 0 (text_of bs)) × (r ≤ 8192)
    → (s ≡ length (text_of bs)) × (y ≡ sets o 0 (text_of bs)) × (s ≤ 8192) → (r ≡ s) × (x ≡ y)
one_text_of bs o r s x y p q = one_text (text_of bs) o r s x y p q

-- THE PROMISE OF `job_of` ALLOWS ONE LENGTH AND ONE BUFFER
pub one_job_of : (t o : List ℕ) (r s : ℕ) (x y : List ℕ) → (r ≡ length (job_of t)) × (x ≡ sets o 0 (job_of t)) × (r ≤ 8192)
    → (s ≡ length (job_of t)) × (y ≡ sets o 0 (job_of t)) × (s ≤ 8192) → (r ≡ s) × (x ≡ y)
one_job_of t o r s x y p q = one_text (job_of t) o r s x y p q
