-- The figures put in a lent buffer, and what is told of them, as the code comes by it. Assumes nothing.
use Rattle.std.proofs.Common.{◌≡◌, ℕ, ◌<◌, ◌≤◌, List, ◌++◌, length, drop, refl, arith, le-leb}
use borrow.Author.Tests.{lt-leb}
use Rattle.std.specs.Prelude.{Result, Ok, Err}
use Rattle.floor.specs.Totals.{tells, season, season_in}
use Rattle.refusals.specs.declared.Refusal.{Refusal}
use Rattle.refusals.specs.declared.Refusal.TheVariants.{TooShort}
use Rattle.refusals.specs.Numbers.{number_of}
use Rattle.season.specs.Summed.{told, one_number}

-- what is told in a lent buffer
module _ (bs buf : List ℕ) (r : Result (List ℕ) Refusal) (e : told r ≡ season bs) where
  -- a refusal
  pub total_refused : (k : Refusal) → r ≡ Err k → (t : Result (Unit {0}) Refusal) → t ≡ Err k
      → (one_number t ≡ (season_in (season bs) buf).number) × (buf ≡ (season_in (season bs) buf).figures)
  unfolding told one_number season_in
  total_refused k d t f = rw (← e, d, f) (refl, refl)

  module _ (s : List ℕ) (d : r ≡ Ok s) (l : length s ≡ 16) where
    -- the figures
    so : tells s ≡ season bs
    unfolding told
    so = rw d at e

    -- a buffer too short
    pub total_short : length buf < 16 → (one_number (Err TooShort) ≡ (season_in (season bs) buf).number) × (buf ≡ (season_in (season bs) buf).figures)
    unfolding season_in one_number number_of
    total_short h = rw (← so, lt-leb (length s) (length buf) (omega arith)) (refl, refl)

    -- room enough
    pub total_told : (x : List ℕ) → 16 ≤ length buf → x ≡ s ++ drop (length s) buf
        → (one_number (Ok tt) ≡ (season_in (season bs) buf).number) × (x ≡ (season_in (season bs) buf).figures)
    unfolding season_in one_number
    total_told x h p = rw (← so, le-leb (length s) (length buf) (omega arith)) (omega arith, p)
