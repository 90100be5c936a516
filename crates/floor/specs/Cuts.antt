-- WHICH FLOORS CAN BE CUT STRAIGHT: rooms that fill a rectangle, straight cuts, what is sliceable, the tree by the stated choice, and its bytes.
-- Assumes nothing.
use Rattle.std.specs.Prelude.{ℕ, zero, suc, ◌+◌, ◌-◌, ◌≤◌, ◌<◌, ◌≡◌, ◌⊎◌, Bool, true, false, cond, not, ◌&&◌, length, drop, leb, ltb}
use Rattle.std.proofs.Math.Option.{Option, none, some}
use mathlib.Core.List.{List, [], ◌∷◌, ◌++◌, Memᴰ}
use Rattle.floor.specs.Lists.{all, keep, up_from}
use Rattle.floor.specs.Fields.{write_field}
use Rattle.floor.specs.Plans.{Rect, Plan}
use Rattle.floor.specs.Floor.{Cell}
pub mod ByWalls

-- the direction of a cut
pub data Direction : Type 0 where
  upright : Direction
  level : Direction

-- where a rectangle begins as one walks across the cuts of a direction: its left side for upright cuts, its lower for level ones
abbrev pub begin : Direction → Rect → ℕ
begin upright r = r.x1
begin level r = r.y1

-- where a rectangle ends as one walks across the cuts of a direction: its right side for upright cuts, its upper for level ones
abbrev pub end : Direction → Rect → ℕ
end upright r = r.x2
end level r = r.y2

-- the cell (x, y) lies in r
unfoldable pub holds : ℕ → ℕ → Rect → Bool
holds x y r = leb r.x1 x && ltb x r.x2 && leb r.y1 y && ltb y r.y2

-- r has at least a cell and lies in the rectangle b
pub record Within (b r : Rect) : Type 0 where
  pub wide : r.x1 < r.x2
  pub tall : r.y1 < r.y2
  pub left : b.x1 ≤ r.x1
  pub right : r.x2 ≤ b.x2
  pub lower : b.y1 ≤ r.y1
  pub upper : r.y2 ≤ b.y2

-- THE ROOMS FILL THE RECTANGLE b: b has a cell, each room lies in b, and each cell of b in exactly one room
pub record Fills (b : Rect) (rs : List Rect) : Type 0 where
  pub wide : b.x1 < b.x2
  pub tall : b.y1 < b.y2
  pub within : (r : Rect) → Memᴰ r rs → Within b r
  pub once : (x y : ℕ) → Cell b x y → length (keep (holds x y) rs) ≡ 1

-- the line at place c passes beside r: r ends before it, or begins behind it
abbrev pub Beside : Direction → ℕ → Rect → Type 0
Beside a c r = (end a r ≤ c) ⊎ (c ≤ begin a r)

-- A STRAIGHT CUT: a line across the rectangle b, at place c, that passes through no room
pub record Cut (a : Direction) (c : ℕ) (b : Rect) (rs : List Rect) : Type 0 where
  pub after : begin a b < c
  pub before : c < end a b
  pub clear : (r : Rect) → Memᴰ r rs → Beside a c r

-- the left or lower part of the rectangle b, up to a cut at place c
abbrev pub low_box : Direction → ℕ → Rect → Rect
low_box upright c b = record { vertex = b.vertex; x1 = b.x1; y1 = b.y1; x2 = c; y2 = b.y2 }
low_box level c b = record { vertex = b.vertex; x1 = b.x1; y1 = b.y1; x2 = b.x2; y2 = c }

-- the right or upper part of the rectangle b, from a cut at place c on
abbrev pub high_box : Direction → ℕ → Rect → Rect
high_box upright c b = record { vertex = b.vertex; x1 = c; y1 = b.y1; x2 = b.x2; y2 = b.y2 }
high_box level c b = record { vertex = b.vertex; x1 = b.x1; y1 = c; x2 = b.x2; y2 = b.y2 }

-- the rooms of the left or lower part: those that end at place c or before it
unfoldable pub low_part : Direction → ℕ → List Rect → List Rect
low_part a c rs = keep (λ r. leb (end a r) c) rs

-- the rooms of the right or upper part: those that begin at place c or behind it
unfoldable pub high_part : Direction → ℕ → List Rect → List Rect
high_part a c rs = keep (λ r. leb c (begin a r)) rs

-- SLICEABLE, by any cuts: one room; or a set filling a rectangle, with a straight cut across it, both parts of which are sliceable
pub data Sliceable : Rect → List Rect → Type 0 where
  one : {b r : Rect} → Sliceable b (r ∷ [])
  sliced : {b : Rect} {rs : List Rect} (a : Direction) (c : ℕ) → Fills b rs → Cut a c b rs → Sliceable (low_box a c b) (low_part a c rs)
      → Sliceable (high_box a c b) (high_part a c rs) → Sliceable b rs

-- a tree of cuts: a leaf with its room; or a cut's direction and place, the left or lower part, and the other
pub data Tree : Type 0 where
  leaf : ℕ → Tree
  cut : Direction → ℕ → Tree → Tree → Tree

-- the line at place c passes through r
unfoldable pub crosses : Direction → ℕ → Rect → Bool
crosses a c r = ltb (begin a r) c && ltb c (end a r)

-- it passes through no room
unfoldable pub uncrossed : Direction → List Rect → ℕ → Bool
uncrossed a rs c = all (λ r. not (crosses a c r)) rs

-- the first number that passes
unfoldable pub first_of : (ℕ → Bool) → List ℕ → Option ℕ
first_of p [] = none
first_of p (n ∷ ns) = cond (p n) (some n) (first_of p ns)

-- THE LEFTMOST UPRIGHT CUT, OR THE LOWEST LEVEL CUT, across the rectangle b: the first place inside it with a line through no room
unfoldable pub first_cut : Direction → Rect → List Rect → Option ℕ
first_cut a b rs = first_of (uncrossed a rs) (up_from (suc (begin a b)) (end a b - suc (begin a b)))

-- the cut that is taken
pub data Choice : Type 0 where
  no_cut : Choice
  takes : Direction → ℕ → Choice

-- THE STATED CHOICE: the leftmost upright cut if any, else the lowest level cut
unfoldable pub choice : Option ℕ → Option ℕ → Choice
choice (some c) l = takes upright c
choice none (some c) = takes level c
choice none none = no_cut

-- the stated choice for the rooms in the rectangle b
unfoldable pub chosen : Rect → List Rect → Choice
chosen b rs = choice (first_cut upright b rs) (first_cut level b rs)

-- a cut with both its parts
unfoldable pub both : Direction → ℕ → Option Tree → Option Tree → Option Tree
both a c (some s) (some t) = some (cut a c s t)
both a c (some s) none = none
both a c none t = none

-- the parts of the chosen cut, each made into its tree
unfoldable pub divided : (Rect → List Rect → Option Tree) → Rect → List Rect → Choice → Option Tree
divided grown b rs no_cut = none
divided grown b rs (takes a c) = both a c (grown (low_box a c b) (low_part a c rs)) (grown (high_box a c b) (high_part a c rs))

-- the tree, at most so many cuts deep
unfoldable pub grow : ℕ → Rect → List Rect → Option Tree
grow zero b [] = none
grow zero b (r ∷ []) = some (leaf r.vertex)
grow zero b (r ∷ s ∷ rs) = none
grow (suc n) b [] = none
grow (suc n) b (r ∷ []) = some (leaf r.vertex)
grow (suc n) b (r ∷ s ∷ rs) = divided (grow n) b (r ∷ s ∷ rs) (chosen b (r ∷ s ∷ rs))

-- how wide and high together: no rectangle is cut deeper than that
unfoldable pub span : Rect → ℕ
span b = (b.x2 - b.x1) + (b.y2 - b.y1)

-- THE TREE of the rooms in a rectangle, by the stated choice; none where it comes to a part with no cut
unfoldable pub tree_of : Rect → List Rect → Option Tree
tree_of b rs = grow (span b) b rs

-- how many cuts a tree has
unfoldable pub cuts : Tree → ℕ
cuts (leaf v) = 0
cuts (cut a c s t) = suc (cuts s + cuts t)

-- the rooms at the leaves of a tree, from first to last
unfoldable pub leaves : Tree → List ℕ
leaves (leaf v) = v ∷ []
leaves (cut a c s t) = leaves s ++ leaves t

-- a direction's number
unfoldable pub way_byte : Direction → ℕ
way_byte upright = 0
way_byte level = 1

-- A TREE, WRITTEN: the cut, then the left or lower part, then the other; a leaf with its room
unfoldable pub write_tree : Tree → List ℕ
write_tree (leaf v) = write_field 6 (v ∷ [])
write_tree (cut a c s t) = write_field 5 (way_byte a ∷ c ∷ []) ++ (write_tree s ++ write_tree t)

-- the rooms of a plan, the frame left out
unfoldable pub rooms_of : Plan → List Rect
rooms_of p = drop 4 p.rects

-- the rectangle inside the frame of a plan
unfoldable pub inner : Plan → Rect
inner p = record { vertex = 0; x1 = 1; y1 = 1; x2 = p.width - 1; y2 = p.height - 1 }

-- THE TREE OF A PLAN, frame left out
unfoldable pub plan_tree : Plan → Option Tree
plan_tree p = tree_of (inner p) (rooms_of p)

-- there is one
unfoldable pub is_tree : Option Tree → Bool
is_tree none = false
is_tree (some t) = true
