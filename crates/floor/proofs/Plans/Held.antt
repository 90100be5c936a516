-- Tests 7, 18 and 9 of a labelling: what a held plan came from, how large its sheet is, and what each of the refusals means. Assumes nothing.
use Rattle.std.specs.Prelude.{◌≡◌, ◌⊎◌, ◌↔◌, Bool, true, false, ◌&&◌, ℕ, ◌+◌, ◌≤◌, ◌<◌, leb, length}
use Rattle.std.proofs.Math.Path.{refl}
use Rattle.std.proofs.Common.{sym, ap, ◌∙◌, inl, inr, arith, le-leb}
use Rattle.std.proofs.Math.Option.{Option, none, some}
use mathlib.Core.List.{List, []}
use Rattle.std.proofs.Math.Decide.{dec_lt}
use Rattle.std.proofs.lemmas.Bool.{lt-leb}
use Rattle.floor.proofs.Lists.Laws.{and_both}
use Rattle.floor.specs.Jobs.{SizedJob}
use Rattle.floor.specs.Jobs.Facts.{Passes}
use Rattle.floor.specs.Walls.{Numbers, Circle, upright, level, low, rules, at, job_numbers, Respects, Axis, top_of}
use Rattle.floor.proofs.Walls.Walk.{numbers_respects}
use Rattle.floor.proofs.Walls.Rules.{job_bound, numbers_are, circle_are, to_vertex, top_plain}
use Rattle.floor.specs.Plans.{Plan, plan_of, drawable, Answer, refused, held, past, tested, planned, drawn, test18, Fits, Over}
use Rattle.floor.specs.Floor.{Floor, GoodPlan, Roomy}
use Rattle.floor.proofs.Floor.Tested.{good_drawable, drawable_plan}
use Rattle.floor.proofs.Floor.Ours.{plan_complete, plan_framed, plan_inside, plan_fits, plan_roomy}
use Rattle.floor.specs.Plans.Held.{Drawn}

-- a refusal is not a plan, and says one number
pub not_held : {X : Type 0} {k : ℕ} {o : SizedJob} {p : Plan} → refused k ≡ held o p → X
not_held {X} {k} {o} {p} e = let z : ◌≡◌ {A = ℕ} 0 1 = cc in absurd (omega arith)

-- two refusals that are the same have the same number
pub one_number : {k l : ℕ} → refused k ≡ refused l → k ≡ l
one_number e = cc

-- a test passed, or not
pub past_true : (b : Bool) (k : ℕ) (next : Unit {0} → Answer) → b ≡ true → past b k next ≡ next tt
unfolding past
past_true b k next e = rw e

-- a test not passed: its number
pub past_false : (b : Bool) (k : ℕ) (next : Unit {0} → Answer) → b ≡ false → past b k next ≡ refused k
unfolding past
past_false b k next e = rw e

-- where a plan is held behind a test, the test was passed, and what follows it gave that plan
pub past_held : (b : Bool) (k : ℕ) (next : Unit {0} → Answer) {o : SizedJob} {p : Plan} → past b k next ≡ held o p → (b ≡ true) × (next tt ≡ held o p)
unfolding past
past_held true k next e = (refl, e)
past_held false k next e = not_held e

-- what tests 18 and 9 let pass is the very job and plan, and both were passed
tested_held : (o : SizedJob) (p : Plan) (i : SizedJob) (q : Plan) → tested o p ≡ held i q
    → (i ≡ o) × (q ≡ p) × (test18 p ≡ true) × (drawable o.stars p ≡ true)
unfolding tested
tested_held o p i q e =
    let (a, f) = past_held (test18 p) 18 _ e in
    let (b, g) = past_held (drawable o.stars p) 9 _ f in
    (same_job g, same_plan g, a, b)
  where
    same_job : held o p ≡ held i q → i ≡ o
    same_job e = cc

    same_plan : held o p ≡ held i q → q ≡ p
    same_plan e = cc

-- a plan that is held of a job is held with that job, by its computed numbers, past tests 18 and 9
pub drawn_held : (o i : SizedJob) (p : Plan) → drawn o ≡ held i p → (i ≡ o) × Drawn o p
unfolding drawn planned
drawn_held o i p e = go (job_numbers upright o.stars o.sizes) refl (job_numbers level o.stars o.sizes) refl e
  where
    go : (a : Option (List ℕ)) → job_numbers upright o.stars o.sizes ≡ a → (b : Option (List ℕ)) → job_numbers level o.stars o.sizes ≡ b
        → planned o a b ≡ held i p → (i ≡ o) × Drawn o p
    go none x none y e = not_held e
    go none x (some g) y e = not_held e
    go (some f) x none y e = not_held e
    go (some f) x (some g) y e =
        let (a, b, c, d) = tested_held o (plan_of o.stars (at f) (at g)) i p e in
        (a, record { xs = f; ys = g; is_upright = x; is_level = y; is_plan = b; sheet = rw b c; draws = rw b d })

-- a job with its numbers is drawn as they say
pub drawn_is : (o : SizedJob) (f g : List ℕ) → job_numbers upright o.stars o.sizes ≡ some f → job_numbers level o.stars o.sizes ≡ some g
    → drawn o ≡ tested o (plan_of o.stars (at f) (at g))
unfolding drawn planned
drawn_is o f g ef eg = rw (ef, eg)

-- what came from a job's numbers past tests 18 and 9 is held
pub drawn_again : (o : SizedJob) (p : Plan) → Drawn o p → drawn o ≡ held o p
unfolding tested
drawn_again o p d =
    drawn_is o d.xs d.ys d.is_upright d.is_level
    ∙ ap (tested o) (sym d.is_plan)
    ∙ past_true (test18 p) 18 _ d.sheet
    ∙ past_true (drawable o.stars p) 9 _ d.draws

-- a sheet is within the limit or over it
pub fits_or : (q : Plan) → Fits q ⊎ Over q
fits_or q = go (dec_lt 250 q.width) (dec_lt 250 q.height)
  where
    go : Dec (250 < q.width) → Dec (250 < q.height) → Fits q ⊎ Over q
    go (yes l) d = inr (inl l)
    go (no l) (yes r) = inr (inr r)
    go (no l) (no r) = inl (omega arith, omega arith)

-- within the limit test 18 is passed,
pub fits_passes : (q : Plan) → Fits q → test18 q ≡ true
unfolding test18
fits_passes q f = and_both _ _ (le-leb q.width 250 f.0) (le-leb q.height 250 f.1)

-- both are not so where the second is not
and_no : (a b : Bool) → b ≡ false → (a && b) ≡ false
and_no true b e = e
and_no false b e = refl

-- over it, it is not
pub over_fails : (q : Plan) → Over q → test18 q ≡ false
unfolding test18
over_fails q (inl l) = rw (lt-leb q.width 250 l)
over_fails q (inr l) = and_no (leb q.width 250) (leb q.height 250) (lt-leb q.height 250 l)

-- EIGHTEEN: a numbered labelling is refused as too large exactly when its sheet is over the limit
pub eighteen : (o : SizedJob) (f g : List ℕ) → job_numbers upright o.stars o.sizes ≡ some f → job_numbers level o.stars o.sizes ≡ some g
    → (drawn o ≡ refused 18) ↔ Over (plan_of o.stars (at f) (at g))
unfolding tested
eighteen o f g ef eg = (λ e. forth (fits_or q) (drawable o.stars q) refl e, λ h. is ∙ past_false (test18 q) 18 _ (over_fails q h))
  where
    q : Plan
    q = plan_of o.stars (at f) (at g)

    is : drawn o ≡ past (test18 q) 18 (λ _. past (drawable o.stars q) 9 (λ _. held o q))
    is = drawn_is o f g ef eg

    fits : Fits q → drawn o ≡ past (drawable o.stars q) 9 (λ _. held o q)
    fits x = is ∙ past_true (test18 q) 18 _ (fits_passes q x)

    forth : Fits q ⊎ Over q → (c : Bool) → drawable o.stars q ≡ c → drawn o ≡ refused 18 → Over q
    forth (inr x) c y e = x
    forth (inl x) false y e = absurd (omega (arith, one_number (sym (fits x ∙ past_false (drawable o.stars q) 9 _ y) ∙ e)))
    forth (inl x) true y e = not_held (sym (sym (fits x ∙ past_true (drawable o.stars q) 9 _ y) ∙ e))

module _ (o : SizedJob) (ok : Passes o.stars) where
  -- SEVEN: no whole numbers respect every `before`, in one direction or the other
  pub seven : (drawn o ≡ refused 7) ↔ (Circle (rules upright o.stars o.sizes) ⊎ Circle (rules level o.stars o.sizes))
  unfolding drawn planned tested
  seven = (
    λ e. forth (job_numbers upright o.stars o.sizes) refl (job_numbers level o.stars o.sizes) refl e,
    λ c. back (job_numbers upright o.stars o.sizes) refl (job_numbers level o.stars o.sizes) refl c,
  )
    where
      respected : (a : Axis) (f : List ℕ) → job_numbers a o.stars o.sizes ≡ some f → Respects (rules a o.stars o.sizes) (at f)
      respected a f x =
          numbers_respects (rules a o.stars o.sizes) (at f) (numbers_are a o.stars o.sizes (to_vertex o.stars ok) f x)

      not_seven : (p : Plan) → tested o p ≡ refused 7 → ⊥
      not_seven p e = go (test18 p) refl (drawable o.stars p) refl
        where
          go : (b : Bool) → test18 p ≡ b → (c : Bool) → drawable o.stars p ≡ c → ⊥
          go false y c w = omega (arith, one_number (sym (past_false (test18 p) 18 _ y) ∙ e))
          go true y false w = omega (arith, one_number (sym (past_true (test18 p) 18 _ y ∙ past_false (drawable o.stars p) 9 _ w) ∙ e))
          go true y true w = not_held (sym (sym (past_true (test18 p) 18 _ y ∙ past_true (drawable o.stars p) 9 _ w) ∙ e))

      forth : (a : Option (List ℕ)) → job_numbers upright o.stars o.sizes ≡ a → (b : Option (List ℕ)) → job_numbers level o.stars o.sizes ≡ b
          → planned o a b ≡ refused 7 → Circle (rules upright o.stars o.sizes) ⊎ Circle (rules level o.stars o.sizes)
      forth none x b y e = inl (circle_are upright o.stars o.sizes (to_vertex o.stars ok) x)
      forth (some f) x none y e = inr (circle_are level o.stars o.sizes (to_vertex o.stars ok) y)
      forth (some f) x (some g) y e = absurd (not_seven (plan_of o.stars (at f) (at g)) e)

      back : (a : Option (List ℕ)) → job_numbers upright o.stars o.sizes ≡ a → (b : Option (List ℕ)) → job_numbers level o.stars o.sizes ≡ b
          → Circle (rules upright o.stars o.sizes) ⊎ Circle (rules level o.stars o.sizes) → planned o a b ≡ refused 7
      back none x none y c = refl
      back none x (some g) y c = refl
      back (some f) x none y c = refl
      back (some f) x (some g) y (inl c) = absurd (c (at f) (respected upright f x))
      back (some f) x (some g) y (inr c) = absurd (c (at g) (respected level g y))

  module _ (f g : ℕ → ℕ) (nf : Numbers (rules upright o.stars o.sizes) f) (ng : Numbers (rules level o.stars o.sizes) g) where
    -- THE SHEET is never wider than 1 and the largest number that an upright wall can have,
    pub width_most : (plan_of o.stars f g).width ≤ 1 + top_of upright o.stars o.sizes
    unfolding plan_of
    width_most = omega (arith, job_bound upright o.stars o.sizes (to_vertex o.stars ok) f nf (low 3))

    -- nor higher than 1 and the largest number that a level wall can have
    pub height_most : (plan_of o.stars f g).height ≤ 1 + top_of level o.stars o.sizes
    unfolding plan_of
    height_most = omega (arith, job_bound level o.stars o.sizes (to_vertex o.stars ok) g ng (low 0))

    -- without sizes the width is at most the number of rooms plus 2
    pub width_bound : o.sizes ≡ [] → (plan_of o.stars f g).width ≤ length o.stars + 2
    width_bound e = omega (arith, width_most, ap (top_of upright o.stars) e, (top_plain o.stars).0)

    -- without sizes the height is at most the number of rooms plus 2
    pub height_bound : o.sizes ≡ [] → (plan_of o.stars f g).height ≤ length o.stars + 2
    height_bound e = omega (arith, height_most, ap (top_of level o.stars) e, (top_plain o.stars).1)

    -- THE DRAWING TEST HOLDS EXACTLY WHEN the plan by wall numbers is a floor plan
    pub drawable_good_plan : 0 < length o.stars → drawable o.stars (plan_of o.stars f g) ≡ true → GoodPlan o.stars (plan_of o.stars f g)
    drawable_good_plan some_room d =
        drawable_plan o.stars ok (plan_of o.stars f g) (plan_complete o.stars f g) some_room (plan_fits o.stars o.sizes ok some_room f g nf ng) d

    -- with at least one room, the drawing test is passed exactly if the plan by wall numbers is a floor plan
    pub drawable_is_floor : 0 < length o.stars → (drawable o.stars (plan_of o.stars f g) ≡ true) ↔ Floor o.stars (plan_of o.stars f g)
    drawable_is_floor some_room = (
      λ d. (drawable_good_plan some_room d).floor,
      λ h. good_drawable o.stars ok (plan_of o.stars f g) (plan_complete o.stars f g) (record {
        framed = plan_framed o.stars f g;
        inside = plan_inside o.stars o.sizes ok some_room f g nf ng;
        floor = h;
      }),
    )

  -- WHAT IS HELD IS A FLOOR PLAN, as a good plan of anybody's
  pub held_good : 0 < length o.stars → (p : Plan) → Drawn o p → GoodPlan o.stars p
  held_good some_room p d =
      go p d.is_plan d.draws
    where
      nf : Numbers (rules upright o.stars o.sizes) (at d.xs)
      nf = numbers_are upright o.stars o.sizes (to_vertex o.stars ok) d.xs d.is_upright

      ng : Numbers (rules level o.stars o.sizes) (at d.ys)
      ng = numbers_are level o.stars o.sizes (to_vertex o.stars ok) d.ys d.is_level

      go : (p : Plan) → p ≡ plan_of o.stars (at d.xs) (at d.ys) → drawable o.stars p ≡ true → GoodPlan o.stars p
      go p e h = rw e (drawable_good_plan (at d.xs) (at d.ys) nf ng some_room (rw e at h))

  -- and every room of it has at least its size
  pub held_roomy : 0 < length o.stars → (p : Plan) → Drawn o p → Roomy o.stars o.sizes p
  held_roomy some_room p d =
      rw d.is_plan (plan_roomy o.stars o.sizes ok some_room (at d.xs) (at d.ys)
      (numbers_are upright o.stars o.sizes (to_vertex o.stars ok) d.xs d.is_upright)
      (numbers_are level o.stars o.sizes (to_vertex o.stars ok) d.ys d.is_level))

  module _ (p : Plan) (d : Drawn o p) where
    -- its upright numbers are those of the text
    xs_are : Numbers (rules upright o.stars o.sizes) (at d.xs)
    xs_are = numbers_are upright o.stars o.sizes (to_vertex o.stars ok) d.xs d.is_upright

    -- and so are its level numbers
    ys_are : Numbers (rules level o.stars o.sizes) (at d.ys)
    ys_are = numbers_are level o.stars o.sizes (to_vertex o.stars ok) d.ys d.is_level

    -- THE BOUND: no held plan is wider or higher than the rooms one after the other, and the frame;
    pub held_most : (p.width ≤ 1 + top_of upright o.stars o.sizes) × (p.height ≤ 1 + top_of level o.stars o.sizes)
    held_most = rw d.is_plan (width_most (at d.xs) (at d.ys) xs_are ys_are, height_most (at d.xs) (at d.ys) xs_are ys_are)

    -- without sizes, than the number of rooms plus 2
    pub held_bound : o.sizes ≡ [] → (p.width ≤ length o.stars + 2) × (p.height ≤ length o.stars + 2)
    held_bound e = rw d.is_plan (width_bound (at d.xs) (at d.ys) xs_are ys_are e, height_bound (at d.xs) (at d.ys) xs_are ys_are e)

  -- NINE: a numbered labelling on a sheet that passes test 18 is refused as undrawable exactly when its rectangles are no floor plan
  pub nine : 0 < length o.stars → (f g : List ℕ) → job_numbers upright o.stars o.sizes ≡ some f → job_numbers level o.stars o.sizes ≡ some g
      → test18 (plan_of o.stars (at f) (at g)) ≡ true
      → (drawn o ≡ refused 9) ↔ (Floor o.stars (plan_of o.stars (at f) (at g)) → ⊥)
  unfolding tested
  nine some_room f g ef eg t18 = (λ e h. not_held (sym e ∙ is (floor_draws h)), λ h. go h (drawable o.stars q) refl)
    where
      q : Plan
      q = plan_of o.stars (at f) (at g)

      same : (drawable o.stars q ≡ true) ↔ Floor o.stars q
      same =
          drawable_is_floor (at f) (at g) (numbers_are upright o.stars o.sizes (to_vertex o.stars ok) f ef)
          (numbers_are level o.stars o.sizes (to_vertex o.stars ok) g eg) some_room

      floor_draws : Floor o.stars q → drawable o.stars q ≡ true
      floor_draws = same.1

      is : drawable o.stars q ≡ true → drawn o ≡ held o q
      is d = drawn_is o f g ef eg ∙ past_true (test18 q) 18 _ t18 ∙ past_true (drawable o.stars q) 9 _ d

      go : (Floor o.stars q → ⊥) → (b : Bool) → drawable o.stars q ≡ b → drawn o ≡ refused 9
      go h true e = absurd (h (same.0 e))
      go h false e = drawn_is o f g ef eg ∙ past_true (test18 q) 18 _ t18 ∙ past_false (drawable o.stars q) 9 _ e
