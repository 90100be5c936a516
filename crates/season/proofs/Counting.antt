-- What one job counts for, as the code comes by it. Assumes nothing.
use Rattle.std.proofs.Common.{◌≡◌, ℕ, suc, ◌+◌, ◌-◌, ◌*◌, ◌<◌, ◌≤◌, cond, eqb, List, [], ◌∷◌, map, get_or, take, sym, ap, ◌∙◌, lt_of_le_of_lt, mul-le-mul, arith, lit<, w64, Fits}
use Rattle.std.specs.Prelude.{Bool, true, false, Result, Ok, Err}
use Rattle.floor.specs.Lists.{sum}
use Rattle.floor.specs.Lists.Laws.{bit}
use Rattle.floor.specs.Plans.{nowhere, area, refused, held}
use Rattle.floor.specs.Totals.{accepts, fell_to, of_plan, room_cells, frame_cells, sheet_cells, refusals, measures}
use Rattle.floor.proofs.Totals.Figures.{plan_cells}
use Rattle.floor.specs.Calls.{load}
use Rattle.floor.specs.Calls.Sound.{Sound}
use Rattle.floor.proofs.Calls.Sound.{sound_good, load_held}
use Rattle.drawing.specs.declared.Layout.{Layout}
use Rattle.drawing.specs.declared.Rect.{Rect as HeldRect}
use Rattle.drawing.specs.Rects.{rect_in, rects_in, rects_lent, plan_lent, plan_in}
use Rattle.refusals.specs.declared.Refusal.{Refusal}
use Rattle.refusals.specs.Numbers.{number_of}
use Rattle.board.specs.declared.Board.{Board as HeldBoard}
use Rattle.board.specs.Boards.{held_job, said, Plans}
use Rattle.season.specs.Counted.{counted, listed}

-- one for two numbers that are the same, nothing for others
pub same_bit : (b : Bool) (x y n : ℕ) → n ≡ bit b → b ≡ eqb x y → n ≡ cond {A = ℕ} (eqb x y) 1 0
same_bit true x y n e q = rw (← q, e)
same_bit false x y n e q = rw (← q, e)

-- one where a job fell to it
abbrev Is : ℕ → ℕ → ℕ → Type 0
Is x k n = x ≡ cond (eqb k n) 1 0

-- the first four of at least four rectangles
four_rects : (m : ℕ) (l : List ℕ) → take 4 (rects_in (m + 4) 0 l)
    ≡ get_or (rects_in (m + 4) 0 l) 0 nowhere ∷ get_or (rects_in (m + 4) 0 l) 1 nowhere ∷ get_or (rects_in (m + 4) 0 l) 2 nowhere ∷ get_or (rects_in (m + 4) 0 l) 3 nowhere ∷ []
unfolding rects_in
four_rects m l = let e : m + 4 ≡ suc (suc (suc (suc m))) = omega arith in rw e

-- THE CELLS OF THE FRAME
pub frame_sum : (m : ℕ) (l : List ℕ) (n w s e : HeldRect) (a b c d : ℕ) → rect_in n ≡ get_or (rects_in (m + 4) 0 l) 0 nowhere → a ≡ area (rect_in n)
    → rect_in w ≡ get_or (rects_in (m + 4) 0 l) 1 nowhere → b ≡ area (rect_in w) → rect_in s ≡ get_or (rects_in (m + 4) 0 l) 2 nowhere → c ≡ area (rect_in s)
    → rect_in e ≡ get_or (rects_in (m + 4) 0 l) 3 nowhere → d ≡ area (rect_in e) → a + b + c + d ≡ sum (map area (take 4 (rects_in (m + 4) 0 l)))
unfolding sum
frame_sum m l n w s e a b c d pn pa pw pb ps pc pe pd = rw (four_rects m l, ← pn, ← pw, ← ps, ← pe, ← pa, ← pb, ← pc, ← pd) (omega arith)

-- the cells of a sheet fit a word
pub sheet_fits : (m n : ℕ) → m < 65536 → n < 65536 → Fits w64 (m * n)
sheet_fits m n h k =
    let l : m * n < 4294967296 = lt_of_le_of_lt (mul-le-mul {n₂ = 65535} {m₂ = 65535} (omega arith) (omega arith)) (lit< tt) in
    omega arith

-- no more than the sheet has
pub within_sheet : (w h f x y : ℕ) → f ≤ w * h → x ≡ w → y ≡ h → f ≤ x * y
within_sheet w h f x y l ex ey = rw (ex, ey) l

-- the figures, one by one
pub list_is : (n k w h f x y a b c d e g i j l m : ℕ) → x ≡ w → y ≡ h → Is a k 1 → Is b k 2 → Is c k 3 → Is d k 4 → Is e k 5 → Is g k 6 → Is i k 7 → Is j k 9 → Is l k 17
    → Is m k 18 → n ∷ a ∷ b ∷ c ∷ d ∷ e ∷ g ∷ i ∷ j ∷ l ∷ m ∷ x ∷ y ∷ (x * y - f) ∷ f ∷ (x * y) ∷ [] ≡ listed n k w h f
unfolding listed refusals
list_is n k w h f x y a b c d e g i j l m ex ey pa pb pc pd pe pg pi pj pl pm = rw (ex, ey, pa, pb, pc, pd, pe, pg, pi, pj, pl, pm)

-- a job planned
module _ (bs : List ℕ) (q : Result HeldBoard Refusal) (p : Plans q (load bs)) where
  -- it is refused,
  pub counts_refused : (k : Refusal) (n : ℕ) (r : List ℕ) → q ≡ Err k → n ≡ number_of k → r ≡ listed 0 n 0 0 0 → r ≡ counted (load bs)
  unfolding said counted measures refusals accepts fell_to of_plan listed
  counts_refused k n r d i e =
      let h : load bs ≡ refused (number_of k) = sym (rw d at p.says) in
      rw h (rw i at e)

  -- or drawn
  module _ (b : HeldBoard) (d : q ≡ Ok b) (l : Layout) (el : plan_lent l ≡ plan_in b.plan) (f : ℕ) (e : f ≡ sum (map area (take 4 (rects_lent l)))) where
    -- loading it holds its plan,
    loads_so : load bs ≡ held (held_job b) (plan_in b.plan)
    unfolding said
    loads_so = sym (rw d at p.says)

    -- whose frame has so many cells,
    frame_so : f ≡ frame_cells (plan_in b.plan)
    unfolding frame_cells
    frame_so = rw (← el) e

    -- and its rooms all others
    cells_so : room_cells (plan_in b.plan) + f ≡ sheet_cells (plan_in b.plan)
    cells_so =
        let s : Sound (held_job b) (plan_in b.plan) = (load_held bs _ _ loads_so).1 in
        ap (λ (n : ℕ). room_cells (plan_in b.plan) + n) frame_so ∙ plan_cells _ _ s.passes (sound_good _ _ s)

    -- its sheet, by its numbers
    sheet_so : sheet_cells (plan_in b.plan) ≡ l.width * l.height
    unfolding sheet_cells
    sheet_so = rw (← el)

    -- the frame lies on the sheet
    pub frame_within : f ≤ l.width * l.height
    frame_within = omega (arith, cells_so, sheet_so)

    -- AN ACCEPTED JOB
    pub counts_drawn : (r : List ℕ) → r ≡ listed 1 0 l.width l.height f → r ≡ counted (load bs)
    unfolding counted measures refusals accepts fell_to of_plan listed
    counts_drawn r er =
        let rooms : l.width * l.height - f ≡ room_cells (plan_in b.plan) = omega (arith, cells_so, sheet_so) in
        er ∙ rw (loads_so, rooms, ← sheet_so, ← frame_so, ← el)
