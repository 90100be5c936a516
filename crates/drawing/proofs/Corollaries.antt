-- What follows from the promises of `plan_stars`, `draw`, `drawable`, `rectangle`, `rects::touch` and `write_plan`. Assumes nothing.
use Prim.Native.Nat.{ℕ, ◌+◌, ◌%◌, ◌≤◌, ◌<◌}
use mathlib.Core.Path.{◌≡◌, refl, sym, ap, ◌∙◌}
use mathlib.Core.Logic.{◌↔◌}
use mathlib.Core.Bool.{Bool, true}
use mathlib.Core.Option.{some}
use mathlib.Core.List.{List, [], ◌∷◌}
use native.Mathlib.Omega.{arith}
use borrow.Author.Tests.{leb-true}
use lib.Dec.{leb}
use lib.ListN.{length, get_or}
use Rattle.floor.proofs.Lists.Laws.{and_left}
use Rattle.floor.specs.Fields.{Bytes}
use Rattle.floor.specs.Jobs.{Job, SizedJob, test2}
use Rattle.floor.specs.Jobs.Facts.{Passes}
use Rattle.floor.specs.Walls.{Axis, Numbers, upright, level, rules, at, job_numbers}
use Rattle.floor.specs.Plans.{Rect, nowhere, Plan, rect_of, Touch, plan_of, drawable, Answer, refused, held, past, test18, drawn, Over, write_plan}
use Rattle.floor.specs.Plans.Held.{Drawn as Came}
use Rattle.floor.proofs.Plans.Held.{one_number, not_held, drawn_held, drawable_is_floor, held_good, held_roomy, eighteen, nine}
use Rattle.floor.specs.Floor.{Complete, Floor, Roomy}
use Rattle.floor.proofs.Floor.Touches.{one_side, one_length, not_clear}
use Rattle.std.specs.Prelude.{Result, Ok, Err}
use Rattle.refusals.specs.declared.Refusal.{Refusal}
use Rattle.refusals.specs.declared.Refusal.TheVariants.{NoFloor, TooLarge}
use Rattle.refusals.specs.Numbers.{number_of}
use Rattle.refusals.proofs.Same.{same_refusal}
use Rattle.fields.specs.Writes.{replied, writing}
use Rattle.fields.proofs.Corollaries.{one_answer, one_written}
use Rattle.walls.specs.Numbers.{numbers_in}
use Rattle.walls.proofs.Corollaries.{by_definition}
use Rattle.drawing.specs.declared.Rect.{Rect as HeldRect}
use Rattle.drawing.specs.declared.Touch.{Touch as Touching}
use Rattle.drawing.specs.declared.Touch.TheVariants.{Clear, Wall}
use Rattle.drawing.specs.declared.Plan.{Plan as HeldPlan}
use Rattle.drawing.specs.Rects.{rect_in, touch_in, rects_in, plan_from, plan_in, in_bytes, held_plan}
use Rattle.drawing.specs.Drawn.{fitted, by_numbers, numbered_any, drawn_any, said, Draws}
use Rattle.drawing.proofs.Asking.{length_rects}
use Rattle.drawing.proofs.Judging.{held_back}

-- results of equal plans are equal
same_plan : {p q : HeldPlan} → p ≡ q → ◌≡◌ {A = Result HeldPlan Refusal} (Ok p) (Ok q)
same_plan e = ap Ok e

-- results of refusals of one number are equal
same_error : {k l : Refusal} → number_of k ≡ number_of l → ◌≡◌ {A = Result HeldPlan Refusal} (Err k) (Err l)
same_error {k} {l} e = ap Err (same_refusal k l e)

-- THE PROMISES OF `plan_stars` AND `draw` ALLOW ONE RESULT: one refusal, or one plan
pub one_drawing : (o : SizedJob) (x : Answer) (r t : Result HeldPlan Refusal) → Draws r o x → Draws t o x → r ≡ t
unfolding said
one_drawing o x (Ok p) (Ok q) d e = same_plan (d.keeps p refl ∙ sym (e.keeps q refl))
one_drawing o x (Ok p) (Err l) d e = not_held (e.says ∙ sym d.says)
one_drawing o x (Err k) (Ok q) d e = not_held (d.says ∙ sym e.says)
one_drawing o x (Err k) (Err l) d e = same_error (one_number (d.says ∙ sym e.says))

-- THE PROMISE OF `write_plan` ALLOWS ONE ANSWER AND ONE BUFFER
pub one_plan_writing : (p : Plan) (o : List ℕ) (a b : Result ℕ Refusal) (x y : List ℕ)
    → (replied a ≡ (writing (in_bytes (write_plan p)) o).reply) × (x ≡ (writing (in_bytes (write_plan p)) o).buffer)
    → (replied b ≡ (writing (in_bytes (write_plan p)) o).reply) × (y ≡ (writing (in_bytes (write_plan p)) o).buffer) → (a ≡ b) × (x ≡ y)
one_plan_writing p o a b x y v w = one_written (in_bytes (write_plan p)) o a b x y v w

-- THE PROMISE OF `drawable` ALLOWS ONE ANSWER
pub one_test : (j : Job) (p : Plan) (a b : Bool) → a ≡ drawable j p → b ≡ drawable j p → a ≡ b
one_test j p a b v w = one_answer a b (drawable j p) v w

-- THE PROMISE OF `rectangle` ALLOWS ONE ANSWER
pub one_rectangle : (q : Rect) (r t : HeldRect) → rect_in r ≡ q → rect_in t ≡ q → r ≡ t
unfolding rect_in
one_rectangle q r t d e =
    let f : rect_in r ≡ rect_in t = one_answer (rect_in r) (rect_in t) q d e in
    same_rect t _ _ _ _ _
    (ap (λ (s : Rect). s.vertex) f)
    (ap (λ (s : Rect). s.x1) f)
    (ap (λ (s : Rect). s.y1) f)
    (ap (λ (s : Rect). s.x2) f)
    (ap (λ (s : Rect). s.y2) f)
  where
    same_rect : (t : HeldRect) (v a b c d : ℕ) → v ≡ t.vertex → a ≡ t.x1 → b ≡ t.y1 → c ≡ t.x2 → d ≡ t.y2
        → record { vertex = v; x1 = a; y1 = b; x2 = c; y2 = d } ≡ t
    same_rect t v a b c d ev ea eb ec ed = rw (ev, ea, eb, ec, ed)

-- THE PROMISE OF `rects::touch` ALLOWS ONE ANSWER
pub one_touch : (x : Touch) (a b : Touching) → touch_in a ≡ x → touch_in b ≡ x → a ≡ b
unfolding touch_in
one_touch x Clear Clear e f = refl
one_touch x Clear (Wall k n) e f = not_clear (e ∙ sym f)
one_touch x (Wall k n) Clear e f = not_clear (f ∙ sym e)
one_touch x (Wall k n) (Wall l m) e f =
    let s : k ≡ l = one_side (e ∙ sym f) in
    let d : n ≡ m = one_length (e ∙ sym f) in
    rw (s, d)

-- numbers that are bytes are written as they are
pub bytes_kept : (bs : List ℕ) → Bytes bs → in_bytes bs ≡ bs
unfolding in_bytes
bytes_kept [] h = refl
bytes_kept (b ∷ bs) h = let e : b % 256 ≡ b = omega (arith, h.0) in rw (e, bytes_kept bs h.1)

-- the plan that is held, by its numbers
pub plan_held : (p : HeldPlan) → plan_from p.width p.height (p.rooms + 4) p.rects ≡ plan_in p
unfolding plan_in
plan_held p = refl

-- its rectangle of a vertex is that of a held plan
pub rect_held : (p : HeldPlan) (v : ℕ) → get_or (rects_in (p.rooms + 4) 0 p.rects) v nowhere ≡ rect_of (plan_in p) v
unfolding plan_in rect_of
rect_held p v = refl

-- as many rectangles as are asked for
pub many_rects : (m : ℕ) (l : List ℕ) → length (rects_in m 0 l) ≡ m
many_rects m l = length_rects m 0 l

-- A PLAN IS HELD WITHOUT LOSS: one with a rectangle for each vertex, in vertex order, and for no more than 60 rooms
pub plan_back : (j : Job) (p : Plan) → Complete j p → length j ≤ 60 → plan_in (held_plan p) ≡ p
plan_back = held_back

-- THE DRAWING TEST, at a plan by wall numbers, holds exactly when the plan is a floor plan
pub test_is_floor : (o : SizedJob) → Passes o.stars → 0 < length o.stars → (f g : ℕ → ℕ) → Numbers (rules upright o.stars o.sizes) f
    → Numbers (rules level o.stars o.sizes) g → (drawable o.stars (plan_of o.stars f g) ≡ true) ↔ Floor o.stars (plan_of o.stars f g)
test_is_floor o ok some_room f g nf ng = drawable_is_floor o ok f g nf ng some_room

module _ (o : SizedJob) (rooms : test2 (length o.stars) ≡ true) (ok : Passes o.stars) where
  -- test 2 wants a room
  some_room : 0 < length o.stars
  unfolding test2
  some_room = omega (arith, leb-true 1 (length o.stars) (and_left (leb 1 (length o.stars)) (leb (length o.stars) 60) rooms))

  -- the numbers of a job past tests 1 to 6 are those of the definition
  defined : (a : Axis) → numbers_in a o.stars o.sizes ≡ job_numbers a o.stars o.sizes
  defined a = by_definition o.stars o.sizes rooms ok a

  -- DRAWING ANY STARS IS DRAWING THE JOB, past tests 1 to 6
  pub drawn_any_lem : drawn_any o ≡ drawn o
  unfolding drawn_any drawn
  drawn_any_lem = rw (defined upright, defined level)

  -- NUMBERING ANY STARS, where the job has its numbers, gives its plan by them, past test 18
  pub numbered_any_lem : (f g : List ℕ) → job_numbers upright o.stars o.sizes ≡ some f → job_numbers level o.stars o.sizes ≡ some g
      → numbered_any o ≡ past (test18 (plan_of o.stars (at f) (at g))) 18 (λ _. held o (plan_of o.stars (at f) (at g)))
  unfolding numbered_any by_numbers fitted
  numbered_any_lem f g ef eg = rw (defined upright, defined level, ef, eg)

  module _ (r : Result HeldPlan Refusal) (d : Draws r o (drawn_any o)) where
    -- what is answered is what drawing the job comes to
    says_drawn : said r o ≡ drawn o
    says_drawn = d.says ∙ drawn_any_lem

    module _ (p : HeldPlan) (e : r ≡ Ok p) where
      -- what is drawn came from the job's numbers, past tests 18 and 9
      from_numbers : Came o (plan_in p)
      unfolding said
      from_numbers = (drawn_held o o (plan_in p) (sym says_drawn ∙ rw e)).1

      -- WHAT IS DRAWN IS A FLOOR PLAN
      pub drawn_floor : Floor o.stars (plan_in p)
      drawn_floor = (held_good o ok some_room (plan_in p) from_numbers).floor

      -- in which every room has at least its size
      pub drawn_roomy : Roomy o.stars o.sizes (plan_in p)
      drawn_roomy = held_roomy o ok some_room (plan_in p) from_numbers

    -- a refusal of number k is answered where drawing the job is refused by it
    refused_by : (t : Result HeldPlan Refusal) (k : ℕ) → said t o ≡ refused k → (l : Refusal) × (t ≡ Err l) × (number_of l ≡ k)
    unfolding said
    refused_by (Ok p) k e = not_held (sym e)
    refused_by (Err l) k e = (l, refl, one_number e)

    -- THE ANSWER IS THE REFUSAL OF NUMBER k exactly when drawing the job is
    pub refused_exactly : (k : ℕ) → ((l : Refusal) × (r ≡ Err l) × (number_of l ≡ k)) ↔ (drawn o ≡ refused k)
    unfolding said
    refused_exactly k = (λ (l, e, n). sym says_drawn ∙ rw (e, n), λ e. refused_by r k (says_drawn ∙ e))

    -- so of a refusal by its name
    pub refused_named : (l : Refusal) → (r ≡ Err l) ↔ (drawn o ≡ refused (number_of l))
    refused_named l = (
      λ e. (refused_exactly (number_of l)).0 (l, e, refl),
      λ e. let (t, f, n) = (refused_exactly (number_of l)).1 e in f ∙ same_error n,
    )

    module _ (f g : List ℕ) (ef : job_numbers upright o.stars o.sizes ≡ some f) (eg : job_numbers level o.stars o.sizes ≡ some g) where
      -- THE ANSWER IS REFUSAL 18, for a numbered job, exactly when the sheet of the plan by its wall numbers is over the limit
      pub refused_eighteen : (r ≡ Err TooLarge) ↔ Over (plan_of o.stars (at f) (at g))
      unfolding number_of
      refused_eighteen =
          let n : (drawn o ≡ refused 18) ↔ Over (plan_of o.stars (at f) (at g)) = eighteen o f g ef eg in
          (λ e. n.0 ((refused_named TooLarge).0 e), λ h. (refused_named TooLarge).1 (n.1 h))

      -- THE ANSWER IS REFUSAL 9, for a numbered job on a sheet within the limit, exactly when the plan by its wall numbers is no floor plan
      pub refused_nine : test18 (plan_of o.stars (at f) (at g)) ≡ true → (r ≡ Err NoFloor) ↔ (Floor o.stars (plan_of o.stars (at f) (at g)) → ⊥)
      unfolding number_of
      refused_nine t =
          let n : (drawn o ≡ refused 9) ↔ (Floor o.stars (plan_of o.stars (at f) (at g)) → ⊥) = nine o ok some_room f g ef eg t in
          (λ e. n.0 ((refused_named NoFloor).0 e), λ h. (refused_named NoFloor).1 (n.1 h))
