-- The rectangles as they are held, four numbers to each. Assumes nothing.
use Rattle.std.specs.Prelude.{ℕ, zero, suc, ◌+◌, ◌-◌, ◌*◌, ◌%◌, List, [], ◌∷◌, length, get_or, replicate}
use Rattle.std.proofs.lemmas.List.Edits.{sets}
use Rattle.floor.specs.Plans.{Rect, Plan, Touch, clear, wall}
use Rattle.drawing.specs.declared.Rect.{Rect as HeldRect}
use Rattle.drawing.specs.declared.Plan.{Plan as HeldPlan}
use Rattle.drawing.specs.declared.Layout.{Layout}
use Rattle.drawing.specs.declared.Touch.{Touch as Touching}
use Rattle.drawing.specs.declared.Touch.TheVariants.{Clear, Wall}

-- a rectangle in the words of the plan
unfoldable pub rect_in : HeldRect → Rect
rect_in r = record { vertex = r.vertex; x1 = r.x1; y1 = r.y1; x2 = r.x2; y2 = r.y2 }

-- a touch in the words of the plan
unfoldable pub touch_in : Touching → Touch
touch_in Clear = clear
touch_in (Wall k n) = wall k n

-- the rectangle of vertex v
unfoldable pub rect_at : List ℕ → ℕ → Rect
rect_at l v = record { vertex = v; x1 = get_or l (4 * v) 0; y1 = get_or l (4 * v + 1) 0; x2 = get_or l (4 * v + 2) 0; y2 = get_or l (4 * v + 3) 0 }

-- the m rectangles from vertex v on
unfoldable pub rects_in : ℕ → ℕ → List ℕ → List Rect
rects_in zero v l = []
rects_in (suc m) v l = rect_at l v ∷ rects_in m (suc v) l

-- the plan of so many rectangles on a sheet so wide and so high
abbrev pub plan_from : ℕ → ℕ → ℕ → List ℕ → Plan
plan_from w h many l = record { width = w; height = h; rects = rects_in many 0 l }

-- THE PLAN THAT IS HELD, whatever stands in it
unfoldable pub plan_in : HeldPlan → Plan
plan_in p = plan_from p.width p.height (p.rooms + 4) p.rects

-- the rectangles of a plan as it is lent
abbrev pub rects_lent : Layout → List Rect
rects_lent l = rects_in (l.rooms + 4) 0 l.rects.now

-- a plan as it is lent
abbrev pub plan_lent : Layout → Plan
plan_lent l = plan_from l.width l.height (l.rooms + 4) l.rects.now

-- the numbers of some rectangles
unfoldable pub flat : List Rect → List ℕ
flat [] = []
flat (r ∷ rs) = r.x1 ∷ r.y1 ∷ r.x2 ∷ r.y2 ∷ flat rs

-- one byte of each number counts
unfoldable pub in_bytes : List ℕ → List ℕ
in_bytes [] = []
in_bytes (x ∷ xs) = x % 256 ∷ in_bytes xs

-- noughts, four for each of 64 vertices
abbrev pub noughts : List ℕ
noughts = replicate 256 0

-- no plan
unfoldable pub no_plan : HeldPlan
no_plan = record { rooms = 0; width = 0; height = 0; rects = noughts }

-- THE PLAN AS IT IS HELD, noughts behind its rectangles
unfoldable pub held_plan : Plan → HeldPlan
held_plan p = record { rooms = length p.rects - 4; width = p.width; height = p.height; rects = sets noughts 0 (flat p.rects) }
