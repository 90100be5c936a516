-- NOTHING SMALLER WITH THE SAME CONTACTS: any placing of a job's rectangles, where its walls lie, and what it means that it is nowhere smaller. Assumes nothing.
use Rattle.std.specs.Prelude.{ℕ, ◌≤◌, ◌<◌, ◌≡◌}
use mathlib.Core.List.{Memᴰ}
use Rattle.floor.specs.Jobs.{Entry, Job, Vertex, Room, star_of, Sizes}
use Rattle.floor.specs.Walls.{OnWall, upright, level, low, high, rules}
use Rattle.floor.specs.Plans.{Plan, rect_of}
use Rattle.floor.specs.Floor.{Stands, Roomy}

-- A PLACING of all n + 4 rectangles on whole numbers from 0 up, wherever the frame lies and whatever overlaps
pub record Placing (j : Job) (z : Sizes) (q : Plan) : Type 0 where
  -- each is at least one cell wide and high,
  pub wide : (v : ℕ) → Vertex j v → (rect_of q v).x1 < (rect_of q v).x2
  pub tall : (v : ℕ) → Vertex j v → (rect_of q v).y1 < (rect_of q v).y2
  -- each room of at least its least size,
  pub roomy : Roomy j z q
  -- and every contact is met on its labelled side with length at least 1
  pub met : (u : ℕ) → Room j u → (e : Entry) → Memᴰ e (star_of j u) → Stands e.kind (rect_of q u) (rect_of q e.to)

-- WHERE A SIDE LIES, of those that the walls of a direction are made of: the low and the high side of each room, the high side of the first frame side, the low side
-- of the last
pub data LiesAt (j : Job) (first last : ℕ) (from to : ℕ → ℕ) : ℕ → ℕ → Type 0 where
  low_of : (u : ℕ) → Room j u → LiesAt j first last from to (low u) (from u)
  high_of : (u : ℕ) → Room j u → LiesAt j first last from to (high u) (to u)
  of_first : LiesAt j first last from to (high first) (to first)
  of_last : LiesAt j first last from to (low last) (from last)

-- a side of an upright wall lies at x: a room's left or right side, W's right side, E's left side
abbrev pub UprightAt : Job → Plan → ℕ → ℕ → Type 0
UprightAt j q = LiesAt j 1 3 (λ v. (rect_of q v).x1) (λ v. (rect_of q v).x2)

-- a side of a level wall lies at y: a room's lower or upper side, S's top, N's bottom
abbrev pub LevelAt : Job → Plan → ℕ → ℕ → Type 0
LevelAt j q = LiesAt j 2 0 (λ v. (rect_of q v).y1) (λ v. (rect_of q v).y2)

-- A WALL IN q IS ONE LINE: sides that the job's contacts put on one wall lie at one place
pub record OneLine (j : Job) (z : Sizes) (q : Plan) : Type 0 where
  pub upright_line : (s t x y : ℕ) → OnWall (rules upright j z) s t → UprightAt j q s x → UprightAt j q t y → x ≡ y
  pub level_line : (s t x y : ℕ) → OnWall (rules level j z) s t → LevelAt j q s x → LevelAt j q t y → x ≡ y

-- NO WALL IN q HAS A SMALLER NUMBER than in p, whichever of its sides is looked at, and neither the greatest x that q reaches nor the greatest y is smaller
pub record NothingSmaller (j : Job) (z : Sizes) (p q : Plan) : Type 0 where
  pub upright_walls : (s t x y : ℕ) → OnWall (rules upright j z) s t → UprightAt j p s x → UprightAt j q t y → x ≤ y
  pub level_walls : (s t x y : ℕ) → OnWall (rules level j z) s t → LevelAt j p s x → LevelAt j q t y → x ≤ y
  pub width : (x : ℕ) → ((v : ℕ) → Vertex j v → (rect_of q v).x2 ≤ x) → p.width ≤ x
  pub height : (y : ℕ) → ((v : ℕ) → Vertex j v → (rect_of q v).y2 ≤ y) → p.height ≤ y
