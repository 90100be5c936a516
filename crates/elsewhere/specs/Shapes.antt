-- Whether some bytes are shaped as a plan, asked field by field. Assumes nothing.
use Rattle.std.specs.Prelude.{ℕ, zero, suc, ◌+◌, Bool, false, ◌&&◌, List, length, get_or, drop, eqb}
use Rattle.floor.specs.Fields.{Field, broken, field, read_field}

-- a field of this tag and this length
unfoldable pub has_shape : ℕ → ℕ → Field → Bool
has_shape t n broken = false
has_shape t n (field s b rest) = eqb s t && eqb (length b) n

-- a rectangle's field that names v
unfoldable pub rect_shaped : ℕ → List ℕ → Bool
rect_shaped v bs = has_shape 4 5 (read_field bs) && eqb (get_or bs 3 0) v

-- the rectangles of n vertices in order, from v on, then nothing
unfoldable pub rects_shaped : ℕ → ℕ → List ℕ → Bool
rects_shaped v zero bs = eqb (length bs) 0
rects_shaped v (suc n) bs = rect_shaped v bs && rects_shaped (suc v) n (drop 8 bs)

-- A SHEET AND THE RECTANGLES of n rooms and the frame
unfoldable pub plan_shaped : ℕ → List ℕ → Bool
plan_shaped n bs = has_shape 3 2 (read_field bs) && rects_shaped 0 (n + 4) (drop 5 bs)
