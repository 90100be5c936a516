-- What follows from the promise of `walls_of`. Assumes nothing.
use mathlib.Core.Path.{◌≡◌, refl, sym, ap, ◌∙◌, subst}
use mathlib.Core.Logic.{◌⊎◌, inl, inr, ◌↔◌}
use mathlib.Core.Bool.{Bool, true, false, cond, ◌&&◌}
use mathlib.Core.Option.{Option, none, some}
use mathlib.Core.List.{List, []}
use Rattle.std.specs.Prelude.{Option as Held, None, Some}
use Prim.Native.Nat.{ℕ, ◌+◌, ◌*◌, ◌≤◌, ◌<◌}
use native.Mathlib.Omega.{arith}
use borrow.Author.Tests.{le-leb, leb-true}
use lib.Dec.{leb}
use lib.ListN.{length, get_or, drop, get_or-append}
use Rattle.floor.specs.Lists.{all}
use Rattle.floor.proofs.Lists.Laws.{all_at, all_mem, mem_all, mem_get_or}
use Rattle.floor.specs.Jobs.{Entry, Job, Sizes, sized_job, is_vertex, test2}
use Rattle.floor.specs.Jobs.Facts.{Passes}
use Rattle.floor.specs.Walls.{Axis, upright, level, low, high, at, Respects, Circle, rules, top_of, job_numbers, Numbers as TheNumbers}
use Rattle.floor.proofs.Walls.Walk.{Positive, numbers_respects}
use Rattle.floor.proofs.Walls.Relax.{Right}
use Rattle.floor.proofs.Walls.Rules.{Named, to_vertex, job_numbers_right, job_bound, numbers_are, numbers_least}
use Rattle.floor.specs.Plans.{drawn, refused}
use Rattle.floor.proofs.Plans.Held.{seven}
use Rattle.walls.specs.declared.Walls.{Walls}
use Rattle.walls.specs.declared.Sides.{Sides}
use Rattle.walls.specs.declared.Sheet.{Sheet}
use Rattle.walls.specs.Numbers.{vertices, numbers_in, noughts, placed, walls_from, walls_of, sides_of, sheet_of, refusal_of}
use Rattle.walls.proofs.Grow.{at_get_d}

-- THE PROMISE OF `walls_of` ALLOWS ONE ANSWER
pub one_answer : (j : Job) (z : Sizes) (r t : Held Walls) → r ≡ walls_of j z → t ≡ walls_of j z → r ≡ t
one_answer j z r t p q = p ∙ sym q

-- the numbers of walls are those of two lists of numbers, side by side
pub record Reads (w : Walls) (n : ℕ) (f g : ℕ → ℕ) : Type 0 where
  pub sides : (v : ℕ) → v < n → ◌≡◌ {A = Sides} (sides_of w v)
      (record { left = record { 0 = f (low v) }; right = record { 0 = f (high v) }; lower = record { 0 = g (low v) }; upper = record { 0 = g (high v) } })
  pub sheet : ◌≡◌ {A = Sheet} (sheet_of w) (record { width = f (low 3) + 1; height = g (low 0) + 1 })

-- THE WALLS OF A JOB ARE NUMBERED: by the text; least among all numbers that respect every `before`; none above the top
pub record TextNumbers (j : Job) (z : Sizes) (w : Walls) : Type 0 where
  pub f : ℕ → ℕ
  pub g : ℕ → ℕ
  pub reads : Reads w (length j + 4) f g
  pub are_upright : TheNumbers (rules upright j z) f
  pub are_level : TheNumbers (rules level j z) g
  pub least_upright : (h : ℕ → ℕ) → Positive h → Respects (rules upright j z) h → (s : ℕ) → f s ≤ h s
  pub least_level : (h : ℕ → ℕ) → Positive h → Respects (rules level j z) h → (s : ℕ) → g s ≤ h s
  pub most_upright : (s : ℕ) → f s ≤ top_of upright j z
  pub most_level : (s : ℕ) → g s ≤ top_of level j z

-- the numbers that any walls with numbers have, whatever the stars
pub record Counted (j : Job) (z : Sizes) (w : Walls) : Type 0 where
  pub xs : List ℕ
  pub ys : List ℕ
  pub is_upright : numbers_in upright j z ≡ some xs
  pub is_level : numbers_in level j z ≡ some ys
  pub rooms : test2 (length j) ≡ true
  pub named : Named j
  pub reads : Reads w (length j + 4) (at xs) (at ys)

-- nothing is not something
pub nothing : {A : Type 0} {x : A} → none ≡ some x → ⊥
nothing e = let z : ◌≡◌ {A = ℕ} 0 1 = cc in omega arith

-- so it is of what is held
pub not_held : {A : Type 0} {x : A} → None ≡ Some x → ⊥
not_held e = let z : ◌≡◌ {A = ℕ} 0 1 = cc in omega arith

-- what is held twice is the same
pub held_same : {A : Type 0} {x y : A} → Some x ≡ Some y → x ≡ y
held_same e = cc

module _ (j : Job) (z : Sizes) where
  -- where the test says that every neighbour is a vertex of the job, every neighbour is
  vertices_named : vertices j ≡ true → Named j
  unfolding vertices is_vertex
  vertices_named h i l e m =
      let s = all_mem (all (λ (e : Entry). leb e.to (length j + 3))) j h (get_or j i []) (mem_get_or j i [] l) in
      let b = leb-true e.to (length j + 3) (all_mem (λ (e : Entry). leb e.to (length j + 3)) (get_or j i []) s e m) in
      omega (arith, b)

  -- a direction has numbers only where the job can be numbered, and there are as many as sides
  pub sides_numbered : (a : Axis) (f : List ℕ) → numbers_in a j z ≡ some f
      → (test2 (length j) ≡ true) × (vertices j ≡ true) × (length f ≡ 2 * (length j + 4))
  unfolding numbers_in
  sides_numbered a f e = go (test2 (length j)) refl (vertices j) refl e
    where
      go : (b : Bool) → test2 (length j) ≡ b → (c : Bool) → vertices j ≡ c → cond (b && c) (job_numbers a j z) none ≡ some f
          → (test2 (length j) ≡ true) × (vertices j ≡ true) × (length f ≡ 2 * (length j + 4))
      go false x c y q = absurd (nothing q)
      go true x false y q = absurd (nothing q)
      go true x true y q = (x, y, (subst (Right (rules a j z) (2 * (length j + 4))) q (job_numbers_right a j z (vertices_named y))).1)

  -- none of them is above the top
  most_numbered : (a : Axis) (f : List ℕ) → numbers_in a j z ≡ some f → (s : ℕ) → at f s ≤ top_of a j z
  unfolding numbers_in
  most_numbered a f e s = go (test2 (length j)) (vertices j) refl e
    where
      go : (b c : Bool) → vertices j ≡ c → cond (b && c) (job_numbers a j z) none ≡ some f → at f s ≤ top_of a j z
      go false c y q = absurd (nothing q)
      go true false y q = absurd (nothing q)
      go true true y q = job_bound a j z (vertices_named y) (at f) (numbers_are a j z (vertices_named y) f q) s

  -- numbers of every side, with noughts behind them, are read at each side as they are
  pub at_place : (u : List ℕ) → length u ≡ 2 * (length j + 4) → (s : ℕ) → s < 2 * (length j + 4) → get_or (placed u) s 0 ≡ at u s
  at_place u l s h = get_or-append u (drop (length u) noughts) 0 s (omega arith) ∙ at_get_d u s (omega arith)

  -- WALLS WITH NUMBERS: both directions have them, and the sides read them
  pub counted : (w : Walls) → walls_of j z ≡ Some w → Counted j z w
  unfolding walls_of walls_from
  counted w e = go (numbers_in upright j z) refl (numbers_in level j z) refl e
    where
      go : (a : Option (List ℕ)) → numbers_in upright j z ≡ a → (b : Option (List ℕ)) → numbers_in level j z ≡ b → walls_from a b ≡ Some w
          → Counted j z w
      go none p b q e = absurd (not_held e)
      go (some u) p none q e = absurd (not_held e)
      go (some u) p (some v) q e =
          let (r, vs, x) = sides_numbered upright u p in
          let (r', vs', y) = sides_numbered level v q in
          rw (← held_same e) (record {
            xs = u;
            ys = v;
            is_upright = p;
            is_level = q;
            rooms = r;
            named = vertices_named vs;
            reads = record {
              sides = λ w h. rw (
                at_place u x (low w) (omega arith),
                at_place u x (high w) (omega arith),
                at_place v y (low w) (omega arith),
                at_place v y (high w) (omega arith),
              );
              sheet = rw (at_place u x (low 3) (omega arith), at_place v y (low 0) (omega arith));
            };
          })

  -- A SHEET IS NEVER WIDER OR HIGHER than the rooms one after the other, and the frame, whatever the stars
  pub sheet_most : (w : Walls) → (c : Counted j z w) → ((sheet_of w).width ≤ 1 + top_of upright j z) × ((sheet_of w).height ≤ 1 + top_of level j z)
  sheet_most w c =
      let x : (sheet_of w).width ≡ at c.xs (low 3) + 1 = ap (λ (s : Sheet). s.width) c.reads.sheet in
      let y : (sheet_of w).height ≡ at c.ys (low 0) + 1 = ap (λ (s : Sheet). s.height) c.reads.sheet in
      (omega (arith, most_numbered upright c.xs c.is_upright (low 3)), omega (arith, most_numbered level c.ys c.is_level (low 0)))

  -- WALLS IN A CIRCLE: a direction has no numbers
  pub circled : walls_of j z ≡ None → (numbers_in upright j z ≡ none) ⊎ (numbers_in level j z ≡ none)
  unfolding walls_of walls_from
  circled e = go (numbers_in upright j z) refl (numbers_in level j z) refl e
    where
      go : (a : Option (List ℕ)) → numbers_in upright j z ≡ a → (b : Option (List ℕ)) → numbers_in level j z ≡ b → walls_from a b ≡ None
          → (numbers_in upright j z ≡ none) ⊎ (numbers_in level j z ≡ none)
      go none p b q e = inl p
      go (some u) p none q e = inr q
      go (some u) p (some v) q e = absurd (not_held (sym e))

module _ (j : Job) (z : Sizes) (rooms : test2 (length j) ≡ true) (ok : Passes j) where
  -- every neighbour of a job past tests 1 to 6 is a vertex
  all_vertices : vertices j ≡ true
  unfolding vertices is_vertex
  all_vertices = all_at (all (λ (e : Entry). leb e.to (length j + 3))) j []
      (λ i h. mem_all (λ (e : Entry). leb e.to (length j + 3)) (get_or j i [])
      (λ e m. le-leb e.to (length j + 3) (omega (arith, to_vertex j ok i h e m))))

  -- the numbers of a job past tests 1 to 6 are those of the definition
  pub by_definition : (a : Axis) → numbers_in a j z ≡ job_numbers a j z
  unfolding numbers_in
  by_definition a = rw (rooms, all_vertices)

  -- the walls of a job past tests 1 to 6 are those by the numbers of the definition
  pub walls_are : walls_of j z ≡ walls_from (job_numbers upright j z) (job_numbers level j z)
  unfolding walls_of
  walls_are = rw (by_definition upright, by_definition level)

  -- these are right: the numbers by the text, one for each side, or none where the walls run in a circle
  right : (a : Axis) → Right (rules a j z) (2 * (length j + 4)) (job_numbers a j z)
  right a = job_numbers_right a j z (to_vertex j ok)

  -- THE ANSWER IS A CIRCLE, refusal 7, exactly when no whole numbers can be put in one direction or the other
  pub circle_exactly : (walls_of j z ≡ None) ↔ (Circle (rules upright j z) ⊎ Circle (rules level j z))
  unfolding walls_from
  circle_exactly = (
    λ e. forth (job_numbers upright j z) (job_numbers level j z) (right upright) (right level) (rw walls_are at e),
    λ c. rw walls_are (back (job_numbers upright j z) (job_numbers level j z) (right upright) (right level) c),
  )
    where
      forth : (a b : Option (List ℕ)) → Right (rules upright j z) (2 * (length j + 4)) a → Right (rules level j z) (2 * (length j + 4)) b
          → walls_from a b ≡ None → Circle (rules upright j z) ⊎ Circle (rules level j z)
      forth none b x y e = inl x
      forth (some u) none x y e = inr y
      forth (some u) (some v) x y e = absurd (not_held (sym e))

      back : (a b : Option (List ℕ)) → Right (rules upright j z) (2 * (length j + 4)) a → Right (rules level j z) (2 * (length j + 4)) b
          → Circle (rules upright j z) ⊎ Circle (rules level j z) → walls_from a b ≡ None
      back none b x y c = refl
      back (some u) none x y c = refl
      back (some u) (some v) x y (inl c) = absurd (c (at u) (numbers_respects (rules upright j z) (at u) x.0))
      back (some u) (some v) x y (inr c) = absurd (c (at v) (numbers_respects (rules level j z) (at v) y.0))

  -- an answer is refusal 7 exactly if it says that the walls run in a circle
  refused_round : (a : Held Walls) → (refusal_of a ≡ some 7) ↔ (a ≡ None)
  unfolding refusal_of
  refused_round (Some w) = (λ e. absurd (nothing e), λ e. absurd (not_held (sym e)))
  refused_round None = (λ e. refl, λ e. refl)

  -- THE ANSWER IS REFUSAL 7 exactly when drawing the job is
  pub refused_exactly : (refusal_of (walls_of j z) ≡ some 7) ↔ (drawn (sized_job j z) ≡ refused 7)
  refused_exactly = (
    λ e. (seven (sized_job j z) ok).1 (circle_exactly.0 ((refused_round (walls_of j z)).0 e)),
    λ e. (refused_round (walls_of j z)).1 (circle_exactly.1 ((seven (sized_job j z) ok).0 e)),
  )

  -- NUMBERED: by the text, least, and not above the top
  pub numbered : (w : Walls) → walls_of j z ≡ Some w → TextNumbers j z w
  numbered w e =
      let c = counted j z w e in
      let x = subst (Right (rules upright j z) (2 * (length j + 4))) (sym (by_definition upright) ∙ c.is_upright) (right upright) in
      let y = subst (Right (rules level j z) (2 * (length j + 4))) (sym (by_definition level) ∙ c.is_level) (right level) in
      record {
        f = at c.xs;
        g = at c.ys;
        reads = c.reads;
        are_upright = x.0;
        are_level = y.0;
        least_upright = λ h p r. numbers_least upright j z (at c.xs) h x.0 p r;
        least_level = λ h p r. numbers_least level j z (at c.ys) h y.0 p r;
        most_upright = job_bound upright j z (to_vertex j ok) (at c.xs) x.0;
        most_level = job_bound level j z (to_vertex j ok) (at c.ys) y.0;
      }
