-- Definitions; what is proved of them stands in proofs/ under the same name. Assumes nothing.
use Prim.Native.Nat.{ℕ, suc, max}
use Rattle.std.specs.Prelude.{Bool, cond, ◌&&◌, ◌||◌, leb, ltb, eqb}
use mathlib.Core.List.{List, [], ◌∷◌}
use Rattle.floor.specs.Registers.{Stretch, Partition}

-- one side comes no later than another: by line, then by beginning
unfoldable pub in_line : Stretch → Stretch → Bool
in_line s t = ltb s.line t.line || (eqb s.line t.line && leb s.begins t.begins)

-- a wall of one side
unfoldable pub opened : ℕ → Stretch → Partition
opened d s = record { direction = d; number = s.line; begins = s.begins; ends = s.ends; sides = 1 }

-- a wall with one side more
unfoldable pub extended : Partition → Stretch → Partition
extended w s = record { direction = w.direction; number = w.number; begins = w.begins; ends = max w.ends s.ends; sides = suc w.sides }

-- the wall goes on with a side: it lies on its line, and begins no later than where the wall ends
unfoldable pub goes_on : Partition → Stretch → Bool
goes_on w s = eqb s.line w.number && leb s.begins w.ends

-- the walls of sides in order, of which the first is begun
unfoldable pub merge_from : ℕ → Partition → List Stretch → List Partition
merge_from d w [] = w ∷ []
merge_from d w (s ∷ l) = cond (goes_on w s) (merge_from d (extended w s) l) (w ∷ merge_from d (opened d s) l)

-- the walls of sides in order
unfoldable pub merged : ℕ → List Stretch → List Partition
merged d [] = []
merged d (s ∷ l) = merge_from d (opened d s) l
