-- The stars along a job's bytes, as the walks come by them. Assumes nothing.
use Prim.Native.Nat.{ℕ, suc, ◌+◌, ◌-◌, ◌<◌, ◌≤◌}
use mathlib.Core.Path.{◌≡◌}
use mathlib.Core.Bool.{Bool, true, false, not}
use mathlib.Core.List.{List, [], ◌∷◌}
use native.Mathlib.Omega.{arith}
use borrow.Author.Tests.{not-true, not-false}
use lib.ListN.{length, drop}
use Rattle.floor.specs.Lists.{all}
use Rattle.floor.specs.Fields.{read_field, value_of, rest_of, after_fields}
use Rattle.floor.specs.Jobs.{entry_ok, entries, star_ok}
use Rattle.stars.specs.Rooms.{all_from}
use Rattle.fields.proofs.Laws.{after_drops}
use Rattle.jobs.specs.Shapes.{stars_at, entries_ok}

-- the next star, and those behind it
module _ (s : List ℕ) (n i at : ℕ) where
  -- where stars are left, the next is that of the field here, and the others stand behind it
  pub next_star : i < n → stars_at (n - i) (drop at s) ≡ entries (value_of (read_field (drop at s))) ∷ stars_at (n - (i + 1)) (rest_of (read_field (drop at s)))
  unfolding stars_at
  next_star h =
      let d : n - i ≡ suc (n - (i + 1)) = omega arith in
      rw d

  -- behind the last star there are none
  pub no_star : n ≤ i → stars_at (n - i) (drop at s) ≡ []
  unfolding stars_at
  no_star h =
      let d : n - i ≡ 0 = omega arith in
      rw d

  -- the stars behind a field are those from the place behind it on
  pub behind : (x : ℕ) → x ≡ length s - length (rest_of (read_field (drop at s)))
      → stars_at (n - (i + 1)) (rest_of (read_field (drop at s))) ≡ stars_at (n - (i + 1)) (drop x s)
  behind x e = rw (after_drops s at x e)

-- a test of every star, with the number of its room
module _ (s : List ℕ) (m n i at : ℕ) (w : Bool) (v : List ℕ) where
  -- where the next star has an entry that may not stand there, the test fails
  pub entries_false : (b : Bool) → v ≡ value_of (read_field (drop at s)) → b ≡ all (entry_ok m (4 + i)) (entries v) → not b ≡ true → i < n
      → all_from (entries_ok m) (4 + i) (stars_at (n - i) (drop at s)) ≡ w → false ≡ w
  unfolding all_from entries_ok
  entries_false b q e t h inv = rw (next_star s n i at h, ← q, ← e, not-true b t) at inv

  -- where it has none, the test comes to that of the stars behind it
  pub entries_next : (b : Bool) (x : ℕ) → v ≡ value_of (read_field (drop at s)) → b ≡ all (entry_ok m (4 + i)) (entries v) → not b ≡ false
      → x ≡ length s - length (rest_of (read_field (drop at s))) → i < n → all_from (entries_ok m) (4 + i) (stars_at (n - i) (drop at s)) ≡ w
      → all_from (entries_ok m) (4 + (i + 1)) (stars_at (n - (i + 1)) (drop x s)) ≡ w
  unfolding all_from entries_ok
  entries_next b x q e t p h inv =
      let f : 4 + (i + 1) ≡ suc (4 + i) = omega arith in
      rw f (rw (next_star s n i at h, ← q, ← e, not-false b t, behind s n i at x p) at inv)

  -- where the next star is not one, the test fails
  pub stars_false : (b : Bool) → v ≡ value_of (read_field (drop at s)) → b ≡ star_ok (entries v) → not b ≡ true → i < n
      → all star_ok (stars_at (n - i) (drop at s)) ≡ w → false ≡ w
  unfolding all
  stars_false b q e t h inv = rw (next_star s n i at h, ← q, ← e, not-true b t) at inv

  -- where it is one, the test comes to that of the stars behind it
  pub stars_next : (b : Bool) (x : ℕ) → v ≡ value_of (read_field (drop at s)) → b ≡ star_ok (entries v) → not b ≡ false
      → x ≡ length s - length (rest_of (read_field (drop at s))) → i < n → all star_ok (stars_at (n - i) (drop at s)) ≡ w
      → all star_ok (stars_at (n - (i + 1)) (drop x s)) ≡ w
  unfolding all
  stars_next b x q e t p h inv = rw (next_star s n i at h, ← q, ← e, not-false b t, behind s n i at x p) at inv

module _ (s : List ℕ) (m n i at : ℕ) (w : Bool) where
  -- behind the last star there is no entry left that could fail
  pub entries_done : n ≤ i → all_from (entries_ok m) (4 + i) (stars_at (n - i) (drop at s)) ≡ w → true ≡ w
  unfolding all_from
  entries_done h inv = rw (no_star s n i at h) at inv

module _ (s : List ℕ) (n i at : ℕ) (w : Bool) where
  -- behind the last star there is none left that could fail
  pub stars_done : n ≤ i → all star_ok (stars_at (n - i) (drop at s)) ≡ w → true ≡ w
  unfolding all
  stars_done h inv = rw (no_star s n i at h) at inv

-- the fields passed one by one
module _ (s w : List ℕ) (k i at : ℕ) where
  -- the next field passed, one less is left to pass
  pub place_next : (x : ℕ) → x ≡ length s - length (rest_of (read_field (drop at s))) → i < k → after_fields (k - i) (drop at s) ≡ w
      → after_fields (k - (i + 1)) (drop x s) ≡ w
  unfolding after_fields
  place_next x e h inv =
      let d : k - i ≡ suc (k - (i + 1)) = omega arith in
      rw (after_drops s at x e) (rw d at inv)

  -- with no field left to pass, the place behind them is reached
  pub place_here : k ≤ i → after_fields (k - i) (drop at s) ≡ w → drop at s ≡ w
  unfolding after_fields
  place_here h inv =
      let d : k - i ≡ 0 = omega arith in
      rw d at inv
