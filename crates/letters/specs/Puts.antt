-- A text put at a place of a buffer, as far as the buffer reaches. Assumes nothing.
use Rattle.std.specs.Prelude.{ℕ, ◌+◌, ◌-◌, min, ◌≡◌, List, length}
use Rattle.std.proofs.lemmas.List.Edits.{sets}

-- the place behind k bytes put at a place of a buffer of l bytes: behind the last of them that it has room for
unfoldable pub behind : ℕ → ℕ → ℕ → ℕ
behind l at k = at + min k (l - at)

-- A TEXT IS PUT AT A PLACE: x is the buffer o with t there, as far as it reaches, and r is the place behind
pub record Puts (o : List ℕ) (at : ℕ) (t x : List ℕ) (r : ℕ) : Type 0 where
  pub buffer : x ≡ sets o at t
  pub place : r ≡ behind (length o) at (length t)
