-- Definitions; what is proved of them stands in proofs/ under the same name. Assumes nothing.
use mathlib.Core.List.{List, [], ◌∷◌}
use Prim.Native.Nat.{ℕ, ◌+◌}
use Rattle.floor.specs.Walls.{Rule, at}
use Rattle.floor.specs.Walls.Walk.{Walk}

-- all the numbers together
abbrev pub total : List ℕ → ℕ
total [] = 0
total (x ∷ f) = x + total f

-- the numbers of f are reached by walks
abbrev pub Reached : List Rule → List ℕ → Type 0
Reached E f = (s : ℕ) → Walk E s (at f s)
