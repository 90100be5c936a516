-- Definitions; what is proved of them stands in proofs/ under the same name. Assumes nothing.
use Rattle.std.specs.Prelude.{ℕ, ◌+◌, ◌≤◌, ◌<◌, ◌≡◌, length}
use mathlib.Core.List.{Memᴰ}
use Rattle.floor.specs.Jobs.{Entry, Job, Room, opposite}
use Rattle.floor.specs.Jobs.{star_of}
use Rattle.floor.specs.Jobs.Stars.{entry, GoodStar}

-- TEST 4 of an entry
pub record EntryOk (n u : ℕ) (e : Entry) : Type 0 where
  pub below : e.to < n + 4
  pub other : e.to ≡ u → ⊥
  pub small : e.kind ≤ 3
  pub frame : e.to < 4 → e.kind ≡ e.to

-- TESTS 4 TO 6: entries that may stand there, stars in order, each contact told by both rooms
pub record Passes (j : Job) : Type 0 where
  pub entries : (u : ℕ) → Room j u → (e : Entry) → Memᴰ e (star_of j u) → EntryOk (length j) u e
  pub good : (u : ℕ) → Room j u → GoodStar (star_of j u)
  pub opposed : (u : ℕ) → Room j u → (e : Entry) → Memᴰ e (star_of j u) → 4 ≤ e.to → Memᴰ (entry u (opposite e.kind)) (star_of j e.to)
