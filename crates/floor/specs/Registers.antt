-- The register of a plan's walls, for the joiner: what a wall's entry says by the job's contacts, the register counted afresh from a plan, and its bytes.
-- Assumes nothing.
use Rattle.std.specs.Prelude.{ℕ, zero, suc, ◌+◌, ◌≤◌, ◌<◌, ◌≡◌, ◌↔◌, Bool, true, cond, not, ◌&&◌, ◌||◌, length, drop, leb, ltb, eqb}
use mathlib.Core.List.{List, [], ◌∷◌, ◌++◌, map, Memᴰ}
use Rattle.floor.specs.Lists.{any, keep, pairwise, up_from}
use Rattle.floor.specs.Fields.{write_field}
use Rattle.floor.specs.Jobs.{Job, Room}
use Rattle.floor.specs.Walls.{OnWall, Axis, upright, level, low, high, rules, Rule}
use Rattle.floor.specs.Plans.{Rect, Plan, rect_of}
pub mod Merge

-- a side of a room: the line it lies on, by its wall's number, and where it begins and ends along it
pub record Stretch : Type 0 where
  pub line : ℕ
  pub begins : ℕ
  pub ends : ℕ

-- the left side of a rectangle (direction 0, upright), or the lower one (1, level)
unfoldable pub low_side : ℕ → Rect → Stretch
low_side zero r = record { line = r.x1; begins = r.y1; ends = r.y2 }
low_side (suc d) r = record { line = r.y1; begins = r.x1; ends = r.x2 }

-- the right side of a rectangle, or the upper one
unfoldable pub high_side : ℕ → Rect → Stretch
high_side zero r = record { line = r.x2; begins = r.y1; ends = r.y2 }
high_side (suc d) r = record { line = r.y2; begins = r.x1; ends = r.x2 }

-- how many lines a sheet has across a direction: its width for upright walls, its height for level ones
unfoldable pub wide_of : ℕ → Plan → ℕ
wide_of zero p = p.width
wide_of (suc d) p = p.height

-- how long a sheet is along a direction: its height for upright walls, its width for level ones
unfoldable pub long_of : ℕ → Plan → ℕ
long_of zero p = p.height
long_of (suc d) p = p.width

-- A WALL in the register: its direction (0 upright, 1 level), its number, where it begins and ends along its length, and how many room sides lie on it
pub record Partition : Type 0 where
  pub direction : ℕ
  pub number : ℕ
  pub begins : ℕ
  pub ends : ℕ
  pub sides : ℕ

-- upright walls come first, then by number, then by beginning
unfoldable pub earlier : Partition → Partition → Bool
earlier v w =
    ltb v.direction w.direction
    || (eqb v.direction w.direction && (ltb v.number w.number || (eqb v.number w.number && ltb v.begins w.begins)))

-- BY THE JOB'S CONTACTS. The rules of a direction
abbrev pub axis_of : ℕ → Axis
axis_of zero = upright
axis_of (suc d) = level

-- what joins sides to walls: the rules of a direction; least sizes join nothing (Walls/Rules `walls_any`), and are left out here
abbrev pub joins : ℕ → Job → List Rule
joins d j = rules (axis_of d) j []

-- s is a side of a room, and lies where t says
pub data Lies (d : ℕ) (j : Job) (p : Plan) (s : ℕ) (t : Stretch) : Type 0 where
  as_low : (v : ℕ) → Room j v → s ≡ low v → t ≡ low_side d (rect_of p v) → Lies d j p s t
  as_high : (v : ℕ) → Room j v → s ≡ high v → t ≡ high_side d (rect_of p v) → Lies d j p s t

-- the sides of n rooms, from room u on
unfoldable pub sides_from : ℕ → ℕ → List ℕ
sides_from u zero = []
sides_from u (suc n) = low u ∷ high u ∷ sides_from (suc u) n

-- w is the wall of side s: it runs from the least beginning to the greatest end of the room sides on that wall, and counts them
pub record WallOf (d : ℕ) (j : Job) (p : Plan) (s : ℕ) (w : Partition) : Type 0 where
  pub is_direction : w.direction ≡ d
  -- every room side on the wall lies on its line, and between its beginning and its end
  pub within : (t : ℕ) (q : Stretch) → Lies d j p t q → OnWall (joins d j) s t → (q.line ≡ w.number) × (w.begins ≤ q.begins) × (q.ends ≤ w.ends)
  -- some side of it begins where it begins, and some side ends where it ends
  pub first : (t : ℕ) × (q : Stretch) × Lies d j p t q × OnWall (joins d j) s t × (q.begins ≡ w.begins)
  pub last : (t : ℕ) × (q : Stretch) × Lies d j p t q × OnWall (joins d j) s t × (q.ends ≡ w.ends)
  -- along its whole length some side of it lies: no gap
  pub whole : (c : ℕ) → w.begins ≤ c → c < w.ends
      → (t : ℕ) × (q : Stretch) × Lies d j p t q × OnWall (joins d j) s t × (q.begins ≤ c) × (c < q.ends)
  -- the sides on it, counted
  pub on : ℕ → Bool
  pub on_exactly : (t : ℕ) (q : Stretch) → Lies d j p t q → (on t ≡ true) ↔ OnWall (joins d j) s t
  pub counted : w.sides ≡ length (keep on (sides_from 4 (length j)))

-- THE REGISTER BY THE JOB'S CONTACTS: each entry is some room side's wall, every room side's wall is entered, and the entries stand in order, none twice
pub record Register (j : Job) (p : Plan) (l : List Partition) : Type 0 where
  pub each : (w : Partition) → Memᴰ w l
      → (w.direction < 2) × ((s : ℕ) × (q : Stretch) × Lies w.direction j p s q × WallOf w.direction j p s w)
  pub every : (d : ℕ) → d < 2 → (s : ℕ) (q : Stretch) → Lies d j p s q → (w : Partition) × Memᴰ w l × WallOf d j p s w
  pub order : pairwise earlier l ≡ true

-- COUNTED AFRESH FROM THE PLAN. The sides of some rooms in one direction
unfoldable pub sides_in : ℕ → List Rect → List Stretch
sides_in d [] = []
sides_in d (r ∷ rs) = low_side d r ∷ high_side d r ∷ sides_in d rs

-- the sides of a plan's rooms in one direction, the frame left out
unfoldable pub room_sides : ℕ → Plan → List Stretch
room_sides d p = sides_in d (drop 4 p.rects)

-- some side lies on line x along the unit from c to c + 1
unfoldable pub built : List Stretch → ℕ → ℕ → Bool
built S x c = any (λ s. eqb s.line x && leb s.begins c && ltb c s.ends) S

-- a wall begins at c: there is one from c on, and none up to c
unfoldable pub starts : List Stretch → ℕ → ℕ → Bool
starts S x zero = built S x 0
starts S x (suc c) = built S x (suc c) && not (built S x c)

-- where the wall ends that goes on from c, at most m units away
unfoldable pub end_from : List Stretch → ℕ → ℕ → ℕ → ℕ
end_from S x zero c = c
end_from S x (suc m) c = cond (built S x c) (end_from S x m (suc c)) c

-- a side lies on line x between b and e
unfoldable pub between : ℕ → ℕ → ℕ → Stretch → Bool
between x b e s = eqb s.line x && leb b s.begins && leb s.ends e

-- the wall on line x that begins at b, and the sides on it
unfoldable pub partition : ℕ → List Stretch → ℕ → ℕ → ℕ → Partition
partition d S long x b =
    let e : ℕ = end_from S x long b in
    record { direction = d; number = x; begins = b; ends = e; sides = length (keep (between x b e) S) }

-- the walls on line x, of a sheet that is so long along it: unbroken lines of the drawing
unfoldable pub walls_on : ℕ → List Stretch → ℕ → ℕ → List Partition
walls_on d S long x = map (partition d S long x) (keep (starts S x) (up_from 0 long))

-- the walls on some lines, one line after the other
unfoldable pub walls_of : ℕ → List Stretch → ℕ → List ℕ → List Partition
walls_of d S long [] = []
walls_of d S long (x ∷ xs) = walls_on d S long x ++ walls_of d S long xs

-- the walls of one direction
unfoldable pub register_of : ℕ → Plan → List Partition
register_of d p = walls_of d (room_sides d p) (long_of d p) (up_from 0 (wide_of d p))

-- THE REGISTER of a plan, counted afresh: the upright walls, then the level ones
unfoldable pub register : Plan → List Partition
register p = register_of 0 p ++ register_of 1 p

-- an entry's five numbers
unfoldable pub partition_bytes : Partition → List ℕ
partition_bytes w = w.direction ∷ w.number ∷ w.begins ∷ w.ends ∷ w.sides ∷ []

-- A REGISTER, WRITTEN
unfoldable pub write_register : List Partition → List ℕ
write_register [] = []
write_register (w ∷ ws) = write_field 8 (partition_bytes w) ++ write_register ws
