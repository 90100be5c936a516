-- Definitions; what is proved of them stands in proofs/ under the same name. Assumes nothing.
use Rattle.std.specs.Prelude.{ℕ, ◌≡◌, ◌⊎◌, length}
use mathlib.Core.List.{[]}
use Rattle.floor.specs.Jobs.{Sizes}

-- no sizes are told, or one for each of n rooms
abbrev pub Counts : ℕ → Sizes → Type 0
Counts n z = (z ≡ []) ⊎ (length z ≡ n)
