-- The items of the drawing test, as they are asked of held rectangles. Assumes nothing.
use Rattle.std.specs.Prelude.{ℕ, Bool, not, ◌&&◌, List, leb, ltb, eqb}
use Rattle.floor.specs.Lists.{all}
use Rattle.floor.specs.Jobs.{Star, Link, links, Job}
use Rattle.stars.specs.Held.{entry_at}
use Rattle.floor.specs.Plans.{Rect, overlap, abut, apart, corner, shares_joined, in_order}

-- r has at least a cell and lies inside a sheet so wide and so high
unfoldable pub inside_sheet : ℕ → ℕ → Rect → Bool
inside_sheet w h r = ltb r.x1 r.x2 && ltb r.y1 r.y2 && leb r.x2 w && leb r.y2 h

-- the stretches from a to b and from c to d neither reach over one another nor touch
unfoldable pub away : ℕ → ℕ → ℕ → ℕ → Bool
away a b c d = eqb (overlap a b c d) 0 && not (abut a b c d)

-- two rectangles share no cell, share a wall only where they are joined, and do not meet only at a corner
unfoldable pub pair_ok : Job → Rect → Rect → Bool
pair_ok j r s = apart r s && shares_joined j r s && not (corner r s)

-- an entry and the one that follows it stand in order where they are of one kind, among these rectangles
unfoldable pub ordered : List Rect → Link → Bool
ordered rs l = in_order (record { width = 0; height = 0; rects = rs }) l

-- the entries at two places of held stars, one behind the other
abbrev pub two_at : List ℕ → List ℕ → ℕ → ℕ → Link
two_at nbr kind a b = record { this = entry_at nbr kind a; next = entry_at nbr kind b }

-- so they do once round a star
unfoldable pub star_ordered : List Rect → Star → Bool
star_ordered rs s = all (ordered rs) (links s)
