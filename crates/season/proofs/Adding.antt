-- Figures added place by place, as the code comes by them. Assumes nothing.
use Rattle.std.proofs.Common.{◌≡◌, ℕ, suc, ◌+◌, ◌%◌, ◌^◌, ◌<◌, ◌≤◌, List, ◌∷◌, ◌++◌, length, get_or, take, drop, set, sym, ◌∙◌, append_assoc, append-nil, arith, drop_of_length-le, take_all, drop-cons, take-suc-set, drop-set-lt}
use Rattle.season.specs.Counted.{added}

-- the places before i are added, the others are still to be
module _ (a b w : List ℕ) (i : ℕ) (inv : take i a ++ added (drop i a) (drop i b) ≡ w) where
  -- one place more
  pub add_more : (v : ℕ) → i < length a → length a ≡ length b → v ≡ (get_or a i 0 + get_or b i 0) % 2 ^ 64
      → take (i + 1) (set a i v) ++ added (drop (i + 1) (set a i v)) (drop (i + 1) b) ≡ w
  unfolding added
  add_more v h l e =
      let s : i + 1 ≡ suc i = omega arith in
      let q : take i a ++ v ∷ added (drop (suc i) a) (drop (suc i) b) ≡ w
      = rw e (rw (drop-cons a i 0 h, drop-cons b i 0 (omega arith)) at inv) in
      rw (s, take-suc-set a i v h, drop-set-lt (suc i) a i v (omega arith), append_assoc) q

  -- all places
  pub add_done : length a ≤ i → a ≡ w
  unfolding added
  add_done h = sym (append-nil a) ∙ (rw (take_all i a h, drop_of_length-le a h) at inv)

-- what a job counts for, added
pub add_job : (s m w x : List ℕ) → m ≡ w → x ≡ added s m → x ≡ added s w
add_job s m w x e p = rw e at p
