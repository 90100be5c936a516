-- What numbering and drawing any stars answers. Assumes nothing.
use Rattle.std.specs.Prelude.{ℕ, ◌-◌, ◌≡◌, List, [], ◌∷◌, ◌++◌, map, get_or, Result, Ok, Err}
use Rattle.std.proofs.Math.Option.{Option, none, some}
use Rattle.floor.specs.Lists.{up_from}
use Rattle.floor.specs.Jobs.{SizedJob}
use Rattle.floor.specs.Walls.{upright, level, at}
use Rattle.floor.specs.Plans.{Rect, Plan, room_rect, plan_of, Answer, refused, held, past, test18, planned}
use Rattle.refusals.specs.declared.Refusal.{Refusal}
use Rattle.refusals.specs.Numbers.{number_of}
use Rattle.walls.specs.declared.Walls.{Walls}
use Rattle.walls.specs.declared.Sheet.{Sheet}
use Rattle.walls.specs.Numbers.{numbers_in}
use Rattle.drawing.specs.declared.Plan.{Plan as HeldPlan}
use Rattle.drawing.specs.Rects.{plan_in, no_plan, held_plan}

-- TEST 18 ALONE of a plan by wall numbers
unfoldable pub fitted : SizedJob → Plan → Answer
fitted o p = past (test18 p) 18 (λ _. held o p)

-- the plan by the numbers, where both directions have some and its sheet passes test 18
unfoldable pub by_numbers : SizedJob → Option (List ℕ) → Option (List ℕ) → Answer
by_numbers o (some f) (some g) = fitted o (plan_of o.stars (at f) (at g))
by_numbers o (some f) none = refused 7
by_numbers o none (some g) = refused 7
by_numbers o none none = refused 7

-- TESTS 7 AND 18 OF ANY JOB, with the numbers that the walls promise of any job
unfoldable pub numbered_any : SizedJob → Answer
numbered_any o = by_numbers o (numbers_in upright o.stars o.sizes) (numbers_in level o.stars o.sizes)

-- TESTS 7, 18 AND 9 OF ANY JOB, with the same numbers
unfoldable pub drawn_any : SizedJob → Answer
drawn_any o = planned o (numbers_in upright o.stars o.sizes) (numbers_in level o.stars o.sizes)

-- the rectangle of vertex v by the upright numbers and the level ones
unfoldable pub walled_by : List ℕ → List ℕ → ℕ → Rect
walled_by xs ys v = room_rect (λ s. get_or xs s 0) (λ s. get_or ys s 0) v

-- the rectangle of vertex v by the numbers of the walls on its sides
abbrev pub walled : Walls → ℕ → Rect
walled w v = walled_by w.uprights.0 w.levels.0 v

-- the sides of the frame on a sheet so wide and so high: N, W, S and E, one cell thick
unfoldable pub frame : ℕ → ℕ → List Rect
frame w h =
    record { vertex = 0; x1 = 1; y1 = h - 1; x2 = w - 1; y2 = h }
    ∷ record { vertex = 1; x1 = 0; y1 = 0; x2 = 1; y2 = h }
    ∷ record { vertex = 2; x1 = 1; y1 = 0; x2 = w - 1; y2 = 1 }
    ∷ record { vertex = 3; x1 = w - 1; y1 = 0; x2 = w; y2 = h }
    ∷ []

-- the plan of n rooms by the upright numbers and the level ones, on a sheet
unfoldable pub plan_by : List ℕ → List ℕ → Sheet → ℕ → Plan
plan_by xs ys s n = record { width = s.width; height = s.height; rects = frame s.width s.height ++ map (walled_by xs ys) (up_from 4 n) }

-- the plan of n rooms by the numbers of walls, on a sheet
abbrev pub plan_on : Walls → Sheet → ℕ → Plan
plan_on w s n = plan_by w.uprights.0 w.levels.0 s n

-- what a drawing says, beside the job: its plan, held, or the number of the test that fails
unfoldable pub said : Result HeldPlan Refusal → SizedJob → Answer
said (Ok p) o = held o (plan_in p)
said (Err k) o = refused (number_of k)

-- the plan that is kept of an answer: none where it is refused
unfoldable pub kept : Answer → HeldPlan
kept (refused k) = no_plan
kept (held o p) = held_plan p

-- a drawing tells what drawing the job came to, and gives the very plan that is kept of it
pub record Draws (r : Result HeldPlan Refusal) (o : SizedJob) (x : Answer) : Type 0 where
  pub says : said r o ≡ x
  pub keeps : (p : HeldPlan) → r ≡ Ok p → p ≡ kept x
