-- The plan that stands at fixed places of some bytes: five for the sheet, then eight for each vertex. Assumes nothing.
use Rattle.std.specs.Prelude.{ℕ, zero, suc, ◌+◌, ◌*◌, Bool, ◌&&◌, List, [], ◌∷◌, get_or, leb, eqb}
use Rattle.floor.specs.Jobs.{Entry}
use Rattle.floor.specs.Plans.{Rect, Plan, rect_of}
use Rattle.floor.specs.Foreign.{stands_on}
use Rattle.elsewhere.specs.declared.Drawn.{Drawn}

-- where the field of a vertex starts
abbrev pub place_of : ℕ → ℕ
place_of v = 5 + 8 * v

-- the rectangle in a vertex's place
unfoldable pub rect_at : List ℕ → ℕ → Rect
rect_at b v =
    record {
      vertex = v;
      x1 = get_or b (place_of v + 4) 0;
      y1 = get_or b (place_of v + 5) 0;
      x2 = get_or b (place_of v + 6) 0;
      y2 = get_or b (place_of v + 7) 0;
    }

-- the rectangles of m vertices, from v on
unfoldable pub rects_at : ℕ → ℕ → List ℕ → List Rect
rects_at zero v b = []
rects_at (suc m) v b = rect_at b v ∷ rects_at m (suc v) b

-- THE PLAN OF n ROOMS, whatever stands in the bytes
unfoldable pub plan_at : ℕ → List ℕ → Plan
plan_at n b = record { width = get_or b 3 0; height = get_or b 4 0; rects = rects_at (n + 4) 0 b }

-- the plan that is asked
abbrev pub plan_drawn : Drawn → Plan
plan_drawn d = plan_at d.rooms d.bytes.now

-- an entry of u's star stands on its labelled side
unfoldable pub stands_at : Plan → ℕ → Entry → Bool
stands_at p u e = stands_on e.kind (rect_of p u) (rect_of p e.to)

-- W and E stand at the ends of a sheet so wide and so high, full height
unfoldable pub ends_stand : ℕ → ℕ → Rect → Rect → Bool
ends_stand x y w e = (eqb w.x1 0 && eqb w.y1 0 && eqb w.y2 y) && (eqb e.x2 x && eqb e.y1 0 && eqb e.y2 y)

-- N and S lie between them, at the top and at the bottom
unfoldable pub levels_lie : ℕ → Rect → Rect → Rect → Rect → Bool
levels_lie y n w s e =
    (eqb n.x1 w.x2 && eqb n.x2 e.x1 && eqb n.y2 y) && (eqb s.x1 w.x2 && eqb s.x2 e.x1 && eqb s.y1 0)

-- r lies between these four sides
unfoldable pub between_sides : Rect → Rect → Rect → Rect → Rect → Bool
between_sides n w s e r = (leb w.x2 r.x1 && leb r.x2 e.x1) && (leb s.y2 r.y1 && leb r.y2 n.y1)
