-- A plan as text, rectangle by rectangle, as the code comes by it. Assumes nothing.
use Prim.Native.Nat.{ℕ, zero, suc, ◌+◌, ◌*◌, ◌<◌, ◌≤◌}
use mathlib.Core.Path.{◌≡◌, refl, sym, ◌∙◌, ap}
use mathlib.Core.List.{List, [], ◌∷◌, ◌++◌, append_assoc, append-nil}
use native.Mathlib.Omega.{arith}
use lib.ListN.{length, get_or, take, length-append}
use lib.Seq.{sets, take-suc, take_all}
use Rattle.floor.specs.Plans.{Rect, nowhere, Plan, rect_bytes}
use Rattle.floor.specs.Quoted.{plain}
use Rattle.floor.specs.Texts.{line, sheet_word, rect_lines, plan_text}
use Rattle.drawing.specs.declared.Rect.{Rect as HeldRect}
use Rattle.drawing.specs.Rects.{rect_in, rect_at, rects_in, plan_from}
use Rattle.drawing.proofs.Corollaries.{many_rects}
use Rattle.letters.specs.Puts.{Puts}
use Rattle.letters.proofs.Rows.{both_puts, named, none_put, front_put}

-- how large the vertices of the rectangles that are held are
pub vertex_at : (m k i : ℕ) (l : List ℕ) → (get_or (rects_in m k l) i nowhere).vertex ≤ k + i
unfolding rects_in rect_at
vertex_at zero k i l = omega arith
vertex_at (suc m) k zero l = omega arith
vertex_at (suc m) k (suc i) l = omega (arith, vertex_at m (suc k) i l)

-- the lines of some rectangles and one behind them
lines_snoc : (rs : List Rect) (r : Rect) → rect_lines rs ++ line (rect_bytes r) ≡ rect_lines (rs ++ (r ∷ []))
unfolding rect_lines
lines_snoc [] r = sym (append-nil (line (rect_bytes r)))
lines_snoc (q ∷ rs) r = rw (append_assoc (line (rect_bytes q)) (rect_lines rs) (line (rect_bytes r)), lines_snoc rs r)

-- no lines yet
pub lines_none : (o : List ℕ) (at : ℕ) → Puts o at (rect_lines []) o at
unfolding rect_lines
lines_none o at = none_put o at

-- no lines have no bytes
pub none_short : length (rect_lines []) ≤ 30 * 0
unfolding rect_lines
none_short = omega arith

module _ (l : List ℕ) (rooms : ℕ) where
  -- the rectangles
  abbrev rects : List Rect
  rects = rects_in (rooms + 4) 0 l

  -- the rectangle of vertex v
  abbrev rect_on : ℕ → Rect
  rect_on v = get_or rects v nowhere

  -- the line of one rectangle
  module _ (r : HeldRect) (v : ℕ) (e : rect_in r ≡ rect_on v) where
    -- the vertex and the four numbers on a line are the line of v's rectangle
    rect_line : line (r.vertex ∷ r.x1 ∷ r.y1 ∷ r.x2 ∷ r.y2 ∷ []) ≡ line (rect_bytes (rect_on v))
    unfolding rect_bytes rect_in
    rect_line = rw (← e)

    -- the rectangle's vertex is below 100,000, where v is
    vertex_small : v < 100000 → r.vertex < 100000
    unfolding rect_in
    vertex_small h =
        let ev : r.vertex ≡ (rect_on v).vertex = ap (λ (q : Rect). q.vertex) e in
        omega (arith, vertex_at (rooms + 4) 0 v l)

    -- where they are put on a line, the line of v's rectangle is put, of at most 30 bytes
    pub rect_put : v < 100000 → (o x : List ℕ) (at k : ℕ)
        → Puts o at (line (r.vertex ∷ r.x1 ∷ r.y1 ∷ r.x2 ∷ r.y2 ∷ [])) x k
        × (r.vertex < 100000 → length (line (r.vertex ∷ r.x1 ∷ r.y1 ∷ r.x2 ∷ r.y2 ∷ [])) ≤ 30)
        → Puts o at (line (rect_bytes (rect_on v))) x k × (length (line (rect_bytes (rect_on v))) ≤ 30)
    rect_put h o x at k (p, q) = (rw rect_line at p, rw rect_line at (q (vertex_small h)))

  -- the lines put one by one
  module _ (many v : ℕ) (em : many ≡ rooms + 4) where
    -- the lines of the first v rectangles, then that of v, are those of the first v + 1
    lines_next : v < many → rect_lines (take v rects) ++ line (rect_bytes (rect_on v)) ≡ rect_lines (take (v + 1) rects)
    lines_next h =
        let s : v + 1 ≡ suc v = omega arith in
        let k : v < length rects = omega (arith, many_rects (rooms + 4) l) in
        lines_snoc (take v rects) (rect_on v) ∙ rw (s, take-suc rects v nowhere k)

    -- the next line put behind those before it, one more is put
    pub rects_more : (o x y : List ℕ) (at m k : ℕ) → v < many → Puts o at (rect_lines (take v rects)) x m → Puts x m (line (rect_bytes (rect_on v))) y k
        → Puts o at (rect_lines (take (v + 1) rects)) y k
    rects_more o x y at m k h a b = rw (lines_next h) at (both_puts o x y (rect_lines (take v rects)) (line (rect_bytes (rect_on v))) at m k a b)

    -- one line more is at most 30 bytes more
    pub more_short : v < many → length (line (rect_bytes (rect_on v))) ≤ 30 → length (rect_lines (take v rects)) ≤ 30 * v
        → length (rect_lines (take (v + 1) rects)) ≤ 30 * (v + 1)
    more_short h a b = omega (arith, ap length (lines_next h), length-append (rect_lines (take v rects)) (line (rect_bytes (rect_on v))))

    -- behind the last vertex all the rectangles are taken
    all_lines : many ≤ v → take v rects ≡ rects
    all_lines h = take_all v rects (omega (arith, many_rects (rooms + 4) l))

    -- behind the last vertex all the lines are put
    pub rects_done : (o x : List ℕ) (at k : ℕ) → many ≤ v → Puts o at (rect_lines (take v rects)) x k → Puts o at (rect_lines rects) x k
    rects_done o x at k h q = rw (all_lines h) at q

    -- all the lines have at most 7,770 bytes, for fewer than 256 rooms
    pub rects_short : many < 260 → v ≤ many → many ≤ v → length (rect_lines (take v rects)) ≤ 30 * v → length (rect_lines rects) ≤ 7770
    rects_short m k h s = omega (arith, rw (all_lines h) at s)

  -- the whole plan: the word, the sheet, the rectangles
  module _ (width height : ℕ) where
    -- it
    abbrev whole : Plan
    whole = plan_from width height (rooms + 4) l

    -- the word, the line of the sheet and those of the rectangles are the text of the plan
    plan_text_lem : sheet_word ++ (line (width ∷ height ∷ []) ++ rect_lines rects) ≡ plan_text whole
    unfolding plan_text
    plan_text_lem = refl

    -- it fits a page, where the line of the sheet has at most 12 bytes and those of the rectangles have at most 7,770
    plan_short : length (line (width ∷ height ∷ [])) ≤ 12 → length (rect_lines rects) ≤ 7770 → length (plan_text whole) ≤ 8192
    unfolding sheet_word plain
    plan_short t s = omega (arith, ap length plan_text_lem, length-append (line (width ∷ height ∷ [])) (rect_lines rects))

    -- the three put one behind the other, from the front of a page on, are its text there, and fit
    pub plan_put : (o x y z : List ℕ) (m k r : ℕ) → Puts o 0 sheet_word x m
        → Puts x m (line (width ∷ height ∷ [])) y k × (length (line (width ∷ height ∷ [])) ≤ 12)
        → Puts y k (rect_lines rects) z r × (length (rect_lines rects) ≤ 7770) → length o ≡ 8192
        → (r ≡ length (plan_text whole)) × (z ≡ sets o 0 (plan_text whole)) × (r ≤ 8192)
    plan_put o x y z m k r a (b, t) (c, s) e =
        let rest : List ℕ = line (width ∷ height ∷ []) ++ rect_lines rects in
        let q : Puts o 0 (sheet_word ++ rest) z r = both_puts o x z sheet_word rest 0 m r a (both_puts x y z (line (width ∷ height ∷ [])) (rect_lines rects) m k r b c) in
        front_put o (plan_text whole) z r (named o (sheet_word ++ rest) (plan_text whole) z 0 r plan_text_lem q) e (plan_short t s)
