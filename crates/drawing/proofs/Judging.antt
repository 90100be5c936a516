-- Tests 7, 18 and 9 of any held stars, as the code comes by them. Assumes nothing.
use Prim.Native.Nat.{ℕ, zero, suc, ◌+◌, ◌*◌, ◌-◌, ◌≤◌, ◌<◌}
use mathlib.Core.Path.{◌≡◌, refl, sym, ap, ◌∙◌}
use mathlib.Core.Logic.{◌⊎◌, inl, inr}
use mathlib.Core.Bool.{Bool, true, false, not, ◌&&◌}
use mathlib.Core.Option.{Option, none, some}
use mathlib.Core.List.{List, [], ◌∷◌, ◌++◌, map, append_assoc}
use native.Mathlib.Omega.{arith}
use borrow.Author.Tests.{leb-true, not-true, not-false}
use lib.Dec.{leb}
use lib.ListN.{length, get_or, drop, length-append, length-replicate}
use lib.Seq.{sets, sets-eq, get_or-append-add}
use Rattle.floor.specs.Lists.{up_from}
use Rattle.floor.proofs.Lists.Laws.{and_right, and_parts}
use Rattle.floor.specs.Jobs.{Job, SizedJob, test2, rooms}
use Rattle.floor.specs.Walls.{upright, level, low, high, at}
use Rattle.floor.specs.Plans.{Rect, nowhere, Plan, rect_of, room_rect, plan_of, drawable, Answer, refused, held, past, test18, tested, planned}
use Rattle.floor.proofs.Plans.Held.{past_true, past_false}
use Rattle.floor.specs.Floor.{Complete}
use Rattle.floor.proofs.Floor.Ours.{plan_complete}
use Rattle.stars.specs.Held.{job_in}
use Rattle.stars.proofs.Holding.{length_stars}
use Rattle.std.specs.Prelude.{Result, Ok, Err, Option as Optional, Some, None}
use Rattle.refusals.specs.declared.Refusal.{Refusal}
use Rattle.refusals.specs.declared.Refusal.TheVariants.{Circle, NoFloor, TooLarge}
use Rattle.refusals.specs.Numbers.{number_of}
use Rattle.walls.specs.declared.Walls.{Walls}
use Rattle.walls.specs.declared.Sides.{Sides}
use Rattle.walls.specs.declared.Sheet.{Sheet}
use Rattle.walls.specs.Numbers.{numbers_in, walls_of, sheet_of}
use Rattle.walls.proofs.Corollaries.{Reads, Counted, counted, circled}
use Rattle.drawing.specs.declared.Plan.{Plan as HeldPlan}
use Rattle.drawing.specs.Rects.{rect_at, rects_in, plan_in, flat, noughts, held_plan}
use Rattle.drawing.specs.Drawn.{fitted, by_numbers, numbered_any, drawn_any, walled_by, walled, frame, plan_by, plan_on, said, kept, Draws}

-- ---- what is held of a plan gives it back

-- a rectangle with the vertex and the four numbers of r is r
same_rect : (r : Rect) (v a b c d : ℕ) → v ≡ r.vertex → a ≡ r.x1 → b ≡ r.y1 → c ≡ r.x2 → d ≡ r.y2
    → record { vertex = v; x1 = a; y1 = b; x2 = c; y2 = d } ≡ r
same_rect r v a b c d ev ea eb ec ed = rw (ev, ea, eb, ec, ed)

-- the four numbers of a rectangle
abbrev four_of : Rect → List ℕ
four_of r = r.x1 ∷ r.y1 ∷ r.x2 ∷ r.y2 ∷ []

-- the four numbers of v's rectangle, behind four for each vertex before v, are read back as that rectangle
first_back : (r : Rect) (a t : List ℕ) (v : ℕ) → length a ≡ 4 * v → r.vertex ≡ v → rect_at (a ++ (four_of r ++ t)) v ≡ r
unfolding rect_at
first_back r a t v l e =
    let e₀ : 4 * v ≡ length a + 0 = omega arith in
    let e₁ : 4 * v + 1 ≡ length a + 1 = omega arith in
    let e₂ : 4 * v + 2 ≡ length a + 2 = omega arith in
    let e₃ : 4 * v + 3 ≡ length a + 3 = omega arith in
    same_rect r v _ _ _ _ (sym e)
    (rw e₀ (get_or-append-add a (four_of r ++ t) 0 0))
    (rw e₁ (get_or-append-add a (four_of r ++ t) 1 0))
    (rw e₂ (get_or-append-add a (four_of r ++ t) 2 0))
    (rw e₃ (get_or-append-add a (four_of r ++ t) 3 0))

-- so are the numbers of rectangles that stand in vertex order from v on
rects_back : (rs : List Rect) (a t : List ℕ) (v : ℕ) → length a ≡ 4 * v → ((i : ℕ) → i < length rs → (get_or rs i nowhere).vertex ≡ v + i)
    → rects_in (length rs) v (a ++ (flat rs ++ t)) ≡ rs
unfolding rects_in flat
rects_back [] a t v l o = refl
rects_back (r ∷ rs) a t v l o =
    let here : rect_at (a ++ (four_of r ++ (flat rs ++ t))) v ≡ r = first_back r a (flat rs ++ t) v l (o 0 (omega arith) ∙ omega arith) in
    let move : a ++ (four_of r ++ (flat rs ++ t)) ≡ (a ++ four_of r) ++ (flat rs ++ t) = sym (append_assoc a (four_of r) (flat rs ++ t)) in
    let m : length (a ++ four_of r) ≡ 4 * suc v = omega (arith, length-append a (four_of r)) in
    let later : rects_in (length rs) (suc v) ((a ++ four_of r) ++ (flat rs ++ t)) ≡ rs
    = rects_back rs (a ++ four_of r) t (suc v) m (λ i h. o (suc i) (omega arith) ∙ omega arith) in
    ap (λ (x : Rect). x ∷ rects_in (length rs) (suc v) (a ++ (four_of r ++ (flat rs ++ t)))) here
    ∙ ap (λ (x : List ℕ). r ∷ rects_in (length rs) (suc v) x) move
    ∙ ap (λ (x : List Rect). r ∷ x) later

-- four numbers for each rectangle
length_flat : (rs : List Rect) → length (flat rs) ≡ 4 * length rs
unfolding flat
length_flat [] = refl
length_flat (r ∷ rs) = omega (arith, length_flat rs)

-- the rectangle of v names the vertex that the rectangle at place v names
of_vertex : (p : Plan) (v : ℕ) → (rect_of p v).vertex ≡ (get_or p.rects v nowhere).vertex
unfolding rect_of
of_vertex p v = refl

-- a plan with a rectangle for each vertex, in vertex order, and for no more than 60 rooms
pub held_back : (j : Job) (p : Plan) → Complete j p → length j ≤ 60 → plan_in (held_plan p) ≡ p
unfolding plan_in held_plan
held_back j p c h =
    let n : length p.rects - 4 + 4 ≡ length p.rects = omega (arith, c.count) in
    let k : 0 + length (flat p.rects) ≤ length noughts = omega (arith, length_flat p.rects, c.count, length-replicate {A = ℕ} 256 0) in
    let s : rects_in (length p.rects) 0 (sets noughts 0 (flat p.rects)) ≡ p.rects
    = rw (sets-eq (flat p.rects) noughts 0 k) (rects_back p.rects [] (drop (0 + length (flat p.rects)) noughts) 0 refl vertex) in
    rw (n, s)
  where
    vertex : (i : ℕ) → i < length p.rects → (get_or p.rects i nowhere).vertex ≡ 0 + i
    vertex i l = sym (of_vertex p i) ∙ c.vertex i (omega (arith, c.count)) ∙ omega arith

-- ---- the plan by the numbers of walls is the plan by wall numbers

-- two ways to a rectangle that agree on every vertex below u + n give the same n rectangles from u on
map_same : (f g : ℕ → Rect) (u n : ℕ) → ((v : ℕ) → v < u + n → f v ≡ g v) → map f (up_from u n) ≡ map g (up_from u n)
unfolding up_from
map_same f g u zero h = refl
map_same f g u (suc n) h = rw (h u (omega arith), map_same f g (suc u) n (λ v l. h v (omega arith)))

module _ (j : Job) (w : Walls) (f g : ℕ → ℕ) (r : Reads w (length j + 4) f g) where
  -- a vertex's rectangle by the numbers of the walls on its sides is the one by the wall numbers f and g
  room_same : (v : ℕ) → v < 4 + length j → walled w v ≡ room_rect f g v
  unfolding walled_by room_rect
  room_same v h =
      let e = r.sides v (omega arith) in
      let e₁ : get_or w.uprights.0 (low v) 0 ≡ f (low v) = ap (λ (s : Sides). s.left.0) e in
      let e₂ : get_or w.uprights.0 (high v) 0 ≡ f (high v) = ap (λ (s : Sides). s.right.0) e in
      let e₃ : get_or w.levels.0 (low v) 0 ≡ g (low v) = ap (λ (s : Sides). s.lower.0) e in
      let e₄ : get_or w.levels.0 (high v) 0 ≡ g (high v) = ap (λ (s : Sides). s.upper.0) e in
      rw (e₁, e₂, e₃, e₄)

  -- walls that read as f and g give, on their own sheet, the plan by f and g
  pub plan_same : plan_on w (sheet_of w) (length j) ≡ plan_of j f g
  unfolding plan_by plan_of frame rooms
  plan_same =
      let e₁ : get_or w.uprights.0 (low 3) 0 + 1 ≡ f (low 3) + 1 = ap (λ (s : Sheet). s.width) r.sheet in
      let e₂ : get_or w.levels.0 (low 0) 0 + 1 ≡ g (low 0) + 1 = ap (λ (s : Sheet). s.height) r.sheet in
      rw (e₁, e₂, map_same (walled w) (room_rect f g) 4 (length j) room_same)

-- ---- the answers

-- results that give plans give one plan where they are equal
ok_same : {p q : HeldPlan} → ◌≡◌ {A = Result HeldPlan Refusal} (Ok p) (Ok q) → p ≡ q
ok_same e = cc

-- a refusal gives none
no_plan_given : {k : Refusal} {p : HeldPlan} → ◌≡◌ {A = Result HeldPlan Refusal} (Err k) (Ok p) → ⊥
no_plan_given e = let z : ◌≡◌ {A = ℕ} 0 1 = cc in omega arith

-- a refusal tells of an answer that is refused by its number
refuses : (k : Refusal) (o : SizedJob) (x : Answer) → x ≡ refused (number_of k) → Draws (Err k) o x
unfolding said
refuses k o x e = record { says = sym e; keeps = λ p f. absurd (no_plan_given f) }

-- a plan tells of an answer that holds it
gives : (h : HeldPlan) (o : SizedJob) (x : Answer) → x ≡ held o (plan_in h) → h ≡ kept x → Draws (Ok h) o x
unfolding said
gives h o x e f = record { says = sym e; keeps = λ p g. sym (ok_same g) ∙ f }

-- numbers that are there are not missing
not_some : {f : List ℕ} → some f ≡ none → ⊥
not_some e = let z : ◌≡◌ {A = ℕ} 0 1 = cc in omega arith

-- 7 where a direction has no numbers
none_seven : (o : SizedJob) (a b : Option (List ℕ)) → (a ≡ none) ⊎ (b ≡ none) → by_numbers o a b ≡ refused 7
unfolding by_numbers
none_seven o none none h = refl
none_seven o none (some g) h = refl
none_seven o (some f) none h = refl
none_seven o (some f) (some g) (inl e) = absurd (not_some e)
none_seven o (some f) (some g) (inr e) = absurd (not_some e)

module _ (o : SizedJob) (r : Optional Walls) (er : r ≡ walls_of o.stars o.sizes) where
  -- 7: the walls run in a circle
  pub seven_numbered : r ≡ None → Draws (Err Circle) o (numbered_any o)
  unfolding numbered_any number_of
  seven_numbered n =
      refuses Circle o (numbered_any o) (none_seven o (numbers_in upright o.stars o.sizes) (numbers_in level o.stars o.sizes)
      (circled o.stars o.sizes (sym er ∙ n)))

  module _ (w : Walls) (some_walls : r ≡ Some w) where
    -- both directions have numbers, and the walls hold them
    c : Counted o.stars o.sizes w
    c = counted o.stars o.sizes w (sym er ∙ some_walls)

    -- the plan by wall numbers
    abbrev p : Plan
    p = plan_of o.stars (at c.xs) (at c.ys)

    -- numbering comes to test 18 of that plan
    numbered_fitted : numbered_any o ≡ fitted o p
    unfolding numbered_any by_numbers
    numbered_fitted = rw (c.is_upright, c.is_level)

    -- the job has at most 60 rooms
    few_rooms : length o.stars ≤ 60
    unfolding test2
    few_rooms = leb-true (length o.stars) 60 (and_right (leb 1 (length o.stars)) (leb (length o.stars) 60) c.rooms)

    module _ (s : Sheet) (es : s ≡ sheet_of w) (b : Bool) (eb : b ≡ (leb s.width 250 && leb s.height 250)) where
      -- the sheet is that of the plan
      sheet_is : (s.width ≡ p.width) × (s.height ≡ p.height)
      unfolding plan_of
      sheet_is =
          let e : s ≡ record { width = at c.xs (low 3) + 1; height = at c.ys (low 0) + 1 } = es ∙ c.reads.sheet in
          (ap (λ (q : Sheet). q.width) e, ap (λ (q : Sheet). q.height) e)

      -- what is answered is test 18 of the plan
      sheet_tested : b ≡ test18 p
      unfolding test18
      sheet_tested = eb ∙ rw (sheet_is.0, sheet_is.1)

      -- 18: the sheet is over the limit
      pub eighteen_numbered : not b ≡ true → Draws (Err TooLarge) o (numbered_any o)
      unfolding fitted number_of
      eighteen_numbered f = refuses TooLarge o (numbered_any o) (numbered_fitted ∙ past_false (test18 p) 18 _ (sym sheet_tested ∙ not-true b f))

      module _ (f : not b ≡ false) where
        -- the sheet is within the limit
        within : (s.width ≤ 250) × (s.height ≤ 250)
        within =
            let (x, y) = and_parts (leb s.width 250) (leb s.height 250) (sym eb ∙ not-false b f) in
            (leb-true s.width 250 x, leb-true s.height 250 y)

        -- what placing the rooms asks
        pub placed_asks : (n : ℕ) → n ≡ length o.stars → (s.width ≤ 250) × (1 ≤ s.width) × (s.height ≤ 250) × (1 ≤ s.height) × (n ≤ 60)
        placed_asks n en =
            let x : s.width ≡ (sheet_of w).width = ap (λ (q : Sheet). q.width) es in
            let y : s.height ≡ (sheet_of w).height = ap (λ (q : Sheet). q.height) es in
            (within.0, omega (arith, x), within.1, omega (arith, y), omega (arith, few_rooms))

        -- the plan by wall numbers is held
        pub all_numbered : (h : HeldPlan) (n : ℕ) → n ≡ length o.stars → h ≡ held_plan (plan_on w s n) → Draws (Ok h) o (numbered_any o)
        unfolding kept fitted
        all_numbered h n en eh =
            let e : numbered_any o ≡ held o p = numbered_fitted ∙ past_true (test18 p) 18 _ (sym sheet_tested ∙ not-false b f) in
            gives h o (numbered_any o)
            (e ∙ sym (ap (held o) (ap plan_in held_is ∙ held_back o.stars p (plan_complete o.stars (at c.xs) (at c.ys)) few_rooms)))
            (held_is ∙ sym (ap kept e))
          where
            held_is : h ≡ held_plan p
            held_is =
                eh
                ∙ ap held_plan (ap (λ (m : ℕ). plan_on w s m) en
                ∙ ap (λ (q : Sheet). plan_on w q (length o.stars)) es
                ∙ plan_same o.stars w (at c.xs) (at c.ys) c.reads)

-- ---- test 9 of what is numbered

-- a plan by wall numbers on a sheet within the limit, tested
then_tested : Answer → Answer
then_tested (refused k) = refused k
then_tested (held o p) = past (drawable o.stars p) 9 (λ _. held o p)

-- tests 18 and 9 are test 18, then test 9
fitted_tested : (o : SizedJob) (p : Plan) → tested o p ≡ then_tested (fitted o p)
unfolding tested fitted
fitted_tested o p = go (test18 p)
  where
    go : (b : Bool) → past b 18 (λ _. past (drawable o.stars p) 9 (λ _. held o p)) ≡ then_tested (past b 18 (λ _. held o p))
    go true = unfold past then_tested in refl
    go false = unfold past then_tested in refl

-- DRAWING IS NUMBERING, THEN TEST 9
numbered_tested : (o : SizedJob) → drawn_any o ≡ then_tested (numbered_any o)
unfolding drawn_any numbered_any
numbered_tested o = go (numbers_in upright o.stars o.sizes) (numbers_in level o.stars o.sizes)
  where
    go : (a b : Option (List ℕ)) → planned o a b ≡ then_tested (by_numbers o a b)
    go none none = unfold planned by_numbers then_tested in refl
    go none (some g) = unfold planned by_numbers then_tested in refl
    go (some f) none = unfold planned by_numbers then_tested in refl
    go (some f) (some g) = unfold planned by_numbers in fitted_tested o (plan_of o.stars (at f) (at g))

-- 7 and 18 stay
pub undrawn : (o : SizedJob) (k : Refusal) → Draws (Err k) o (numbered_any o) → Draws (Err k) o (drawn_any o)
unfolding said then_tested
undrawn o k d = refuses k o (drawn_any o) (numbered_tested o ∙ ap then_tested (sym d.says))

module _ (o : SizedJob) (p : HeldPlan) (d : Draws (Ok p) o (numbered_any o)) (q : Plan) (eq : q ≡ plan_in p) (b : Bool) (eb : b ≡ drawable o.stars q) where
  -- numbering the job comes to the plan that is kept
  numbered_is : numbered_any o ≡ held o (plan_in p)
  unfolding said
  numbered_is = sym d.says

  -- drawing the job comes to test 9 of that plan
  drawn_tested : drawn_any o ≡ past (drawable o.stars (plan_in p)) 9 (λ _. held o (plan_in p))
  unfolding then_tested
  drawn_tested = numbered_tested o ∙ ap then_tested numbered_is

  -- what is answered is the drawing test of that plan
  tested_is : b ≡ drawable o.stars (plan_in p)
  tested_is = eb ∙ ap (drawable o.stars) eq

  -- 9: the drawing test fails
  pub nine_drawn : not b ≡ true → Draws (Err NoFloor) o (drawn_any o)
  unfolding number_of
  nine_drawn f = refuses NoFloor o (drawn_any o) (drawn_tested ∙ past_false (drawable o.stars (plan_in p)) 9 _ (sym tested_is ∙ not-true b f))

  -- what is numbered is drawn
  pub all_drawn : not b ≡ false → Draws (Ok p) o (drawn_any o)
  all_drawn f =
      let g : drawn_any o ≡ held o (plan_in p) = drawn_tested ∙ past_true (drawable o.stars (plan_in p)) 9 _ (sym tested_is ∙ not-false b f) in
      gives p o (drawn_any o) g (d.keeps p refl ∙ ap kept (numbered_is ∙ sym g))

-- held stars are as many as the job has
pub stars_many : (n : ℕ) (ends nbr kind : List ℕ) → n ≡ length (job_in n ends nbr kind)
stars_many n ends nbr kind = sym (length_stars n 0 ends nbr kind)
