-- Definitions; what is proved of them stands in proofs/ under the same name. Assumes nothing.
use Rattle.std.specs.Prelude.{ℕ, zero, suc, Bool, cond, ◌&&◌, length, leb, ltb, eqb}
use Rattle.std.proofs.Math.Option.{Option, none, some}
use mathlib.Core.List.{List, [], ◌∷◌}
use Rattle.floor.specs.Plans.{Rect}
use Rattle.floor.specs.Registers.{Partition}
use Rattle.floor.specs.Cuts.{Direction, upright, level, begin, end, low_box, high_box, Tree, leaf, Choice, no_cut, takes, choice, both, span, leaves, way_byte}

-- the other direction
abbrev pub other : Direction → Direction
other upright = level
other level = upright

-- wall w lies strictly inside b, and begins at one side of it and ends at the other
unfoldable pub spans_box : Direction → Rect → Partition → Bool
spans_box a b w =
    eqb w.direction (way_byte a) && ltb (begin a b) w.number && ltb w.number (end a b) && eqb w.begins (begin (other a) b)
    && eqb w.ends (end (other a) b)

-- THE CUT BY WALLS: the number of the first wall that spans b
unfoldable pub wall_cut : Direction → Rect → List Partition → Option ℕ
wall_cut a b [] = none
wall_cut a b (w ∷ ws) = cond (spans_box a b w) (some w.number) (wall_cut a b ws)

-- the stated choice among them: upright if any, else level
unfoldable pub wall_choice : Rect → List Partition → Choice
wall_choice b ws = choice (wall_cut upright b ws) (wall_cut level b ws)

-- two rectangles have the same ends
unfoldable pub same_box : Rect → Rect → Bool
same_box b r = eqb b.x1 r.x1 && eqb b.y1 r.y1 && eqb b.x2 r.x2 && eqb b.y2 r.y2

-- the leaf of the first room that is b
unfoldable pub leaf_of : Rect → List Rect → Option Tree
leaf_of b [] = none
leaf_of b (r ∷ rs) = cond (same_box b r) (some (leaf r.vertex)) (leaf_of b rs)

-- the leaf if there is one; else the parts of the chosen cut, each made into its tree
unfoldable pub divided_by : (Rect → Option Tree) → Option Tree → Rect → Choice → Option Tree
divided_by grown (some t) b k = some t
divided_by grown none b no_cut = none
divided_by grown none b (takes a c) = both a c (grown (low_box a c b)) (grown (high_box a c b))

-- the tree, at most so many cuts deep
unfoldable pub grow_by : ℕ → List Partition → List Rect → Rect → Option Tree
grow_by zero ws rs b = leaf_of b rs
grow_by (suc n) ws rs b = divided_by (grow_by n ws rs) (leaf_of b rs) b (wall_choice b ws)

-- THE TREE BY WALLS of the rooms in a rectangle
unfoldable pub tree_by : List Partition → List Rect → Rect → Option Tree
tree_by ws rs b = grow_by (span b) ws rs b

-- a tree with more leaves than so many counts as none
unfoldable pub capped : ℕ → Option Tree → Option Tree
capped n none = none
capped n (some t) = cond (leb (length (leaves t)) n) (some t) none
