-- The numbers of any held stars. Assumes not_held.
use mathlib.Core.Path.{◌≡◌, refl, sym, ◌∙◌}
use mathlib.Core.Bool.{Bool, true, false, not, ◌&&◌}
use mathlib.Core.Option.{Option, none, some}
use mathlib.Core.List.{List, [], ◌∷◌, ◌++◌}
use Rattle.std.specs.Prelude.{None, Some}
use Prim.Native.Nat.{ℕ, ◌+◌, ◌*◌, ◌≤◌, ◌<◌}
use native.Mathlib.Omega.{arith}
use borrow.Author.Tests.{le-leb, lt-leb, leb-true, ltb-true, lt-ltb, not-true, not-false}
use lib.Dec.{leb, ltb}
use lib.ListN.{length, replicate, take, drop, length-replicate}
use lib.Seq.{length-take-le}
use Rattle.floor.specs.Lists.{all}
use Rattle.floor.proofs.Lists.Laws.{same_test, and_left, and_right}
use Rattle.floor.specs.Jobs.{Entry, Job, Sizes, is_vertex, test2}
use Rattle.floor.specs.Walls.{Rule, Axis, upright, level, high, rules, job_numbers}
use Rattle.floor.proofs.Walls.Relax.{Right, right_unique}
use Rattle.floor.proofs.Walls.Rules.{job_numbers_right}
use Rattle.stars.specs.Held.{job_in}
use Rattle.stars.proofs.Holding.{length_stars}
use Rattle.walls.specs.Steps.{Answers, Fronts}
use Rattle.walls.specs.Jobs.{entry_named, star_named, named}
use Rattle.walls.specs.Numbers.{vertices, numbers_in, numbers_held, width_in, walls_from}
use Rattle.walls.proofs.Visiting.{all_named}
use Rattle.walls.proofs.Corollaries.{not_held, held_same}

module _ {A : Type 0} where
  -- tests that agree on every member agree on whether all pass
  all_same : (p q : A → Bool) (xs : List A) → ((x : A) → p x ≡ q x) → all p xs ≡ all q xs
  unfolding all
  all_same p q [] h = refl
  all_same p q (x ∷ xs) h = rw (h x, all_same p q xs h)

-- a neighbour is a vertex exactly if its sides are among those of the vertices
vertices_named : (j : Job) → vertices j ≡ named (2 * (length j + 4)) j
unfolding vertices named star_named is_vertex
vertices_named j = all_same (all (λ (e : Entry). is_vertex j e.to)) (all (entry_named (2 * (length j + 4)))) j
    (λ s. all_same (λ (e : Entry). is_vertex j e.to) (entry_named (2 * (length j + 4))) s one)
  where
    one : (e : Entry) → is_vertex j e.to ≡ entry_named (2 * (length j + 4)) e
    one e = same_test (leb e.to (length j + 3)) (ltb (high e.to) (2 * (length j + 4)))
        (λ h. lt-ltb (high e.to) (2 * (length j + 4)) (omega (arith, leb-true e.to (length j + 3) h)))
        (λ h. le-leb e.to (length j + 3) (omega (arith, ltb-true (high e.to) (2 * (length j + 4)) h)))

module _ (ends nbr kind : List ℕ) (n : ℕ) where
  -- the job of the held stars
  abbrev job : Job
  job = job_in n ends nbr kind

  -- whether it can be numbered: as many rooms as test 2 allows, and every neighbour a vertex
  abbrev good : Bool
  good = test2 (length job) && vertices job

  -- a job that cannot be numbered has no walls with numbers
  pub none_good : (z : Sizes) (b : Bool) → b ≡ good → not b ≡ true → None ≡ walls_from (numbers_in upright job z) (numbers_in level job z)
  unfolding walls_from numbers_in
  none_good z b q f = let g : good ≡ false = sym q ∙ not-true b f in rw g

  -- so it has no width by its upright numbers
  pub no_width : (z : Sizes) (b : Bool) → b ≡ good → not b ≡ true → None ≡ width_in (numbers_in upright job z)
  unfolding width_in numbers_in
  no_width z b q f = let g : good ≡ false = sym q ∙ not-true b f in rw g

  -- one that was asked can be numbered
  pub is_good : (b : Bool) → b ≡ good → not b ≡ false → good ≡ true
  is_good b q f = sym q ∙ not-false b f

  -- the job has as many rooms as stars are held
  held_rooms : length job ≡ n
  held_rooms = length_stars n 0 ends nbr kind

  -- without rooms it cannot be numbered
  pub no_room : n < 1 → false ≡ good
  unfolding test2
  no_room z = rw (held_rooms, lt-leb 1 n z)

  -- with more than 60 rooms it cannot be numbered
  pub many_rooms : 60 < n → false ≡ good
  unfolding test2
  many_rooms z = rw (held_rooms, le-leb 1 n (omega arith), lt-leb n 60 z)

  -- with 1 to 60 rooms it can be numbered exactly if every neighbour has its sides among those of the vertices
  pub some_rooms : (r : Bool) → 1 ≤ n → n ≤ 60 → r ≡ named (2 * (n + 4)) job → r ≡ good
  unfolding test2
  some_rooms r x y q =
      rw (vertices_named job, held_rooms, le-leb 1 n x, le-leb n 60 y) q

  module _ (both_good : good ≡ true) where
    -- it has at most 60 rooms
    pub rooms_fit : n ≤ 60
    unfolding test2
    rooms_fit =
        let t : test2 (length job) ≡ true = and_left (test2 (length job)) (vertices job) both_good in
        omega (arith, held_rooms, leb-true (length job) 60 (and_right (leb 1 (length job)) (leb (length job) 60) t))

    -- 128 places are enough for all its sides
    pub rooms_hold : (l : List ℕ) → l ≡ replicate 128 0 → 2 * (n + 4) ≤ length l
    rooms_hold l e' = rw e' (omega (arith, rooms_fit, length-replicate {A = ℕ} 128 0))

    -- every neighbour has its sides among those of the vertices
    pub all_vertices : named (2 * (n + 4)) job ≡ true
    all_vertices =
        let v : vertices job ≡ true = and_right (test2 (length job)) (vertices job) both_good in
        rw held_rooms at (sym (vertices_named job) ∙ v)

    -- the job's numbers are those of the definition
    one_way : (a : Axis) (z : Sizes) → numbers_in a job z ≡ job_numbers a job z
    unfolding numbers_in
    one_way a z = rw both_good

    -- these are right: the numbers by the text, one for each side, or none where the walls run in a circle
    right : (a : Axis) (z : Sizes) → Right (rules a job z) (2 * (n + 4)) (job_numbers a job z)
    right a z = rw held_rooms at (job_numbers_right a job z (all_named (2 * (n + 4)) job all_vertices (omega (arith, held_rooms))))

    -- the numbers, left in front of noughts, are those of that direction as they are held
    pub numbers_some : (a : Axis) (z : Sizes) (r : Bool) (l l' : List ℕ) → l ≡ replicate 128 0 → Fronts r (rules a job z) (2 * (n + 4)) l l' → r ≡ true
        → Some l' ≡ numbers_held (numbers_in a job z)
    unfolding numbers_held
    numbers_some a z r l l' e x t =
        let y : Answers true (rules a job z) x.front (2 * (n + 4)) = rw t at x.answers in
        let u : job_numbers a job z ≡ some x.front
        = right_unique (rules a job z) (2 * (n + 4)) (job_numbers a job z) (some x.front) (right a z) y in
        let i : l' ≡ x.front ++ drop (2 * (n + 4)) (replicate 128 0) = rw e at x.is in
        rw (one_way a z, u, i, y.1)

    -- where there are none, that direction has none
    pub numbers_none : (a : Axis) (z : Sizes) (r : Bool) (l l' : List ℕ) → Fronts r (rules a job z) (2 * (n + 4)) l l' → r ≡ false
        → None ≡ numbers_held (numbers_in a job z)
    unfolding numbers_held
    numbers_none a z r l l' x t =
        let y : Answers false (rules a job z) x.front (2 * (n + 4)) = rw t at x.answers in
        let u : job_numbers a job z ≡ none = right_unique (rules a job z) (2 * (n + 4)) (job_numbers a job z) none (right a z) y in
        rw (one_way a z, u)

-- the first numbers of a list
pub front_length : (n : ℕ) (l : List ℕ) → n ≤ length l → n ≡ length (take n l)
front_length n l h = sym (length-take-le n l h)

-- neighbours that have their sides among n have them among the first n numbers of a list
pub front_named : (n : ℕ) (l : List ℕ) (j : Job) → n ≤ length l → named n j ≡ true → named (length (take n l)) j ≡ true
front_named n l j h e = rw (length-take-le n l h) e

-- the answer of the first n numbers, before what stands behind them, is the answer in front of the list
pub front_answers : (b : Bool) (E : List Rule) (n : ℕ) (l f : List ℕ) → n ≤ length l → Answers b E f (length (take n l)) → Fronts b E n l (f ++ drop n l)
front_answers b E n l f h a = record { front = f; answers = rw (length-take-le n l h) at a; is = refl }

-- both directions have their numbers
pub both_numbered : (a b : Option (List ℕ)) (x y : List ℕ) → Some x ≡ numbers_held a → Some y ≡ numbers_held b
    → Some (record { uprights = record { 0 = x }; levels = record { 0 = y } }) ≡ walls_from a b
unfolding numbers_held walls_from
both_numbered none b x y p q = absurd (not_held (sym p))
both_numbered (some u) none x y p q = absurd (not_held (sym q))
both_numbered (some u) (some v) x y p q = rw (held_same p, held_same q)

-- one has none
pub first_none : (a b : Option (List ℕ)) → None ≡ numbers_held a → None ≡ walls_from a b
unfolding numbers_held walls_from
first_none none b p = refl
first_none (some u) b p = absurd (not_held p)

-- the second has none
pub second_none : (a b : Option (List ℕ)) → None ≡ numbers_held b → None ≡ walls_from a b
unfolding numbers_held walls_from
second_none none b q = refl
second_none (some u) none q = refl
second_none (some u) (some v) q = absurd (not_held q)
