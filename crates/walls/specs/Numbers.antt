-- The numbers of both directions, and how they are handed back. Assumes nothing.
use Rattle.std.specs.Prelude.{Option as Held, None, Some, Bool, cond, ◌&&◌, List, ◌++◌, ℕ, ◌+◌, length, get_or, replicate, drop}
use Rattle.std.proofs.Math.Option.{Option, none, some}
use Rattle.floor.specs.Lists.{all}
use Rattle.floor.specs.Jobs.{Entry, Job, Sizes, is_vertex, test2}
use Rattle.floor.specs.Walls.{Axis, upright, level, low, high, at, job_numbers}
use Rattle.walls.specs.declared.Walls.{Walls}
use Rattle.walls.specs.declared.Sides.{Sides}
use Rattle.walls.specs.declared.Sheet.{Sheet}

-- every neighbour is a vertex of the job
unfoldable pub vertices : Job → Bool
vertices j = all (all (λ (e : Entry). is_vertex j e.to)) j

-- THE NUMBERS OF ANY JOB in one direction: those of the definition where it has as many rooms as test 2 allows and its neighbours are vertices, and else none
unfoldable pub numbers_in : Axis → Job → Sizes → Option (List ℕ)
numbers_in a j z = cond (test2 (length j) && vertices j) (job_numbers a j z) none

-- noughts
abbrev pub noughts : List ℕ
noughts = replicate 128 0

-- numbers from the first place on, noughts behind them
abbrev pub placed : List ℕ → List ℕ
placed f = f ++ drop (length f) noughts

-- the numbers of one direction, as they are held: noughts behind them
unfoldable pub numbers_held : Option (List ℕ) → Held (List ℕ)
numbers_held none = None
numbers_held (some f) = Some (placed f)

-- the width of the sheet by the upright numbers: that of E's left wall plus 1; none: none
unfoldable pub width_in : Option (List ℕ) → Held ℕ
width_in none = None
width_in (some f) = Some (at f (low 3) + 1)

-- the refusal that an answer is, if it is one: 7 where there are no walls, which is where they run in a circle
unfoldable pub refusal_of : Held Walls → Option ℕ
refusal_of (Some w) = none
refusal_of None = some 7

-- the numbers of both directions
unfoldable pub walls_from : Option (List ℕ) → Option (List ℕ) → Held Walls
walls_from (some f) (some g) = Some (record { uprights = record { 0 = placed f }; levels = record { 0 = placed g } })
walls_from (some f) none = None
walls_from none b = None

-- THE WALLS OF ANY JOB, with any sizes; none where a direction has no numbers
unfoldable pub walls_of : Job → Sizes → Held Walls
walls_of j z = walls_from (numbers_in upright j z) (numbers_in level j z)

-- the walls on the four sides of a vertex, by the upright numbers and the level ones
abbrev pub sides_at : List ℕ → List ℕ → ℕ → Sides
sides_at xs ys v =
    record {
      left = record { 0 = get_or xs (low v) 0 };
      right = record { 0 = get_or xs (high v) 0 };
      lower = record { 0 = get_or ys (low v) 0 };
      upper = record { 0 = get_or ys (high v) 0 };
    }

-- THE WALLS ON THE FOUR SIDES of a vertex
abbrev pub sides_of : Walls → ℕ → Sides
sides_of w v = sides_at w.uprights.0 w.levels.0 v

-- the sheet by the upright numbers and the level ones: the number of E's left wall plus 1, and that of N's bottom wall plus 1
abbrev pub sheet_at : List ℕ → List ℕ → Sheet
sheet_at xs ys = record { width = (sides_at xs ys 3).left.0 + 1; height = (sides_at xs ys 0).lower.0 + 1 }

-- THE SHEET of walls
abbrev pub sheet_of : Walls → Sheet
sheet_of w = sheet_at w.uprights.0 w.levels.0
