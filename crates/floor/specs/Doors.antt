-- Where doors can be fitted: the contacts of two rooms, and what the doors program prints of them. Assumes nothing.
use Rattle.std.specs.Prelude.{ℕ, zero, suc, max, min, cond, List, [], ◌∷◌, ◌++◌, length, drop, leb}
use Rattle.floor.specs.Plans.{Rect, Touch, clear, wall, touch_of, Plan, Answer, refused, held}
use Rattle.floor.specs.Calls.{load}
use Rattle.floor.specs.Texts.{line, too_long, answer_text}

-- a stretch of wall between two rooms: the side on which the second stands, seen from the first, from where to where it runs along that side, and its length
pub record Door : Type 0 where
  pub first : ℕ
  pub second : ℕ
  pub side : ℕ
  pub start : ℕ
  pub stop : ℕ
  pub long : ℕ

-- where the stretch starts that r and s share along side k
unfoldable pub start_on : ℕ → Rect → Rect → ℕ
start_on zero r s = max r.x1 s.x1
start_on (suc zero) r s = max r.y1 s.y1
start_on (suc (suc zero)) r s = max r.x1 s.x1
start_on (suc (suc (suc k))) r s = max r.y1 s.y1

-- where it stops
unfoldable pub stop_on : ℕ → Rect → Rect → ℕ
stop_on zero r s = min r.x2 s.x2
stop_on (suc zero) r s = min r.y2 s.y2
stop_on (suc (suc zero)) r s = min r.x2 s.x2
stop_on (suc (suc (suc k))) r s = min r.y2 s.y2

-- the door from r to s, which touch so; none where there is no wall between them
unfoldable pub door_at : Rect → Rect → Touch → List Door
door_at r s clear = []
door_at r s (wall k n) =
    record { first = r.vertex; second = s.vertex; side = k; start = start_on k r s; stop = stop_on k r s; long = n } ∷ []

-- the doors from r to each of some rectangles, in their order
unfoldable pub doors_to : Rect → List Rect → List Door
doors_to r [] = []
doors_to r (s ∷ ss) = door_at r s (touch_of r s) ++ doors_to r ss

-- the doors between any two of some rectangles, from the earlier to the later
unfoldable pub doors_among : List Rect → List Door
doors_among [] = []
doors_among (r ∷ rs) = doors_to r rs ++ doors_among rs

-- THE DOORS OF A PLAN: every contact of two rooms once, the frame left out, by the first room and then by the second
unfoldable pub doors : Plan → List Door
doors p = doors_among (drop 4 p.rects)

-- a line for each door: the two rooms, the side, from where, to where, the length
unfoldable pub door_lines : List Door → List ℕ
door_lines [] = []
door_lines (d ∷ ds) = line (d.first ∷ d.second ∷ d.side ∷ d.start ∷ d.stop ∷ d.long ∷ []) ++ door_lines ds

-- what a load answers: the doors of the plan, or the number of the refusal
unfoldable pub doors_text : Answer → List ℕ
doors_text (refused k) = answer_text (refused k)
doors_text (held j p) = door_lines (doors p)

-- WHAT THE DOORS PROGRAM PRINTS for some input
unfoldable pub doors_listing : List ℕ → List ℕ
doors_listing bs = cond (leb (length bs) 8192) (doors_text (load bs)) too_long
