-- The kinds' tables: one computed test over each, and the law that makes of it a rule at every entry. Assumes nothing.
use Prim.Native.Nat.{ℕ, zero, suc, ◌+◌, ◌<◌, ◌≤◌}
use mathlib.Core.Path.{◌≡◌, refl, sym}
use mathlib.Core.Bool.{Bool, true}
use mathlib.Core.List.{[], ◌∷◌}
use native.Mathlib.Omega.{arith}
use borrow.Author.Tests.{eqb-true}
use lib.Dec.{eqb}
use lib.ListN.{get_or, get_or-eq_default}
use Rattle.floor.specs.Lists.{all, up_from}
use Rattle.floor.proofs.Lists.Laws.{and_left, and_right}
use Rattle.floor.specs.Jobs.{opposite, frame_kind}

-- a test that passes at each of n numbers from i on passes at the k-th of them
from : (p : ℕ → Bool) (i n : ℕ) → all p (up_from i n) ≡ true → (k : ℕ) → k < n → p (i + k) ≡ true
unfolding all up_from
from p i zero t k h = absurd (omega arith)
from p i (suc n) t zero h = let e : i + 0 ≡ i = omega arith in rw e (and_left (p i) (all p (up_from (suc i) n)) t)
from p i (suc n) t (suc k) h =
    let e : i + suc k ≡ suc i + k = omega arith in
    rw e (from p (suc i) n (and_right (p i) (all p (up_from (suc i) n)) t) k (omega arith))

-- a test that passes at each of the first n numbers passes at any number below n
pub below : (p : ℕ → Bool) (n : ℕ) → all p (up_from 0 n) ≡ true → (k : ℕ) → k < n → p k ≡ true
below p n t k h = let e : k ≡ 0 + k = omega arith in rw e (from p 0 n t k h)

-- the tables of the code, and what stands for a number past their ends
pub opposite_in : (i k : ℕ) → i ≡ k → get_or (2 ∷ 3 ∷ 0 ∷ 1 ∷ []) i 0 ≡ opposite k
unfolding opposite
opposite_in i k e = rw e

-- a number over 3 has the opposite 0
pub opposite_past : (i k : ℕ) → i ≡ k → 4 ≤ i → 0 ≡ opposite k
unfolding opposite
opposite_past i k e h = rw (← e) (sym (get_or-eq_default (2 ∷ 3 ∷ 0 ∷ 1 ∷ []) 0 h))

-- the table gives each frame side its one kind
pub side_in : (v : ℕ) → get_or (0 ∷ 1 ∷ 2 ∷ 3 ∷ []) v 0 ≡ frame_kind v
unfolding frame_kind
side_in v = refl

-- a number over 3 has the frame kind 0
pub side_past : (v : ℕ) → 4 ≤ v → 0 ≡ frame_kind v
unfolding frame_kind
side_past v h = sym (get_or-eq_default (0 ∷ 1 ∷ 2 ∷ 3 ∷ []) 0 h)

-- the test whether the opposite's opposite is the kind itself
back : ℕ → Bool
back k = eqb (opposite (opposite k)) k

-- THE OPPOSITE'S OPPOSITE IS THE KIND ITSELF: one computed test over the table, and the law above
pub involution : (k : ℕ) → k < 4 → opposite (opposite k) ≡ k
unfolding all up_from opposite back
involution k h = eqb-true (opposite (opposite k)) k (below back 4 refl k h)
