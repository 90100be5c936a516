-- Nothing smaller than a plan that is held. Assumes nothing.
use Rattle.std.specs.Prelude.{ℕ, ◌+◌, ◌-◌, ◌<◌, ◌≡◌, length}
use Rattle.std.proofs.Math.Path.{sym, ap}
use native.Mathlib.Omega.{arith}
use Rattle.floor.specs.Jobs.{Job, Room, Sizes, SizedJob}
use Rattle.floor.specs.Jobs.Facts.{Passes}
use Rattle.floor.specs.Walls.{Numbers, upright, level, rules, at}
use Rattle.floor.proofs.Walls.Rules.{numbers_are, to_vertex}
use Rattle.floor.specs.Plans.{Rect, Plan, rect_of, plan_of, room_rect}
use Rattle.floor.specs.Floor.{GoodPlan}
use Rattle.floor.proofs.Floor.Ours.{room_rect_lem, first_one}
use Rattle.floor.specs.Smallest.{Placing, low_of, high_of, of_first, of_last, UprightAt, LevelAt, OneLine, NothingSmaller}
use Rattle.floor.proofs.Smallest.Least.{NoLarger, across, upward, nothing_narrower, nothing_lower}
use Rattle.floor.specs.Calls.Sound.{Sound}
use Rattle.floor.proofs.Calls.Sound.{some_room, sound_good, sound_roomy}

-- in the plan by numbers a side lies at its number
module _ (j : Job) (z : Sizes) (ok : Passes j) (f g : ℕ → ℕ) (nf : Numbers (rules upright j z) f) (ng : Numbers (rules level j z) g) where
  -- a room's rectangle
  rect : (u : ℕ) → Room j u → rect_of (plan_of j f g) u ≡ room_rect f g u
  rect u r = rw (let e : 4 + (u - 4) ≡ u = omega (arith, r.0) in e) at (room_rect_lem j f g (u - 4) (omega (arith, r.0, r.1)))

  -- upright,
  x_number : (s x : ℕ) → UprightAt j (plan_of j f g) s x → x ≡ f s
  unfolding plan_of rect_of room_rect
  x_number s x (low_of u r) = ap (λ (c : Rect). c.x1) (rect u r)
  x_number s x (high_of u r) = ap (λ (c : Rect). c.x2) (rect u r)
  x_number s x of_first = sym (first_one j z ok (across f nf))
  x_number s x of_last = omega arith

  -- and level
  y_number : (s y : ℕ) → LevelAt j (plan_of j f g) s y → y ≡ g s
  unfolding plan_of rect_of room_rect
  y_number s y (low_of u r) = ap (λ (c : Rect). c.y1) (rect u r)
  y_number s y (high_of u r) = ap (λ (c : Rect). c.y2) (rect u r)
  y_number s y of_first = sym (first_one j z ok (upward g ng))
  y_number s y of_last = omega arith

-- any placing, beside the plan by numbers
module _ (j : Job) (z : Sizes) (ok : Passes j) (some_room : 0 < length j) (f g : ℕ → ℕ) (nf : Numbers (rules upright j z) f)
    (ng : Numbers (rules level j z) g) (q : Plan) (s : Placing j z q) where
  along_x : NoLarger j z (across f nf) (λ v. (rect_of q v).x1) (λ v. (rect_of q v).x2)
  along_x = nothing_narrower j z ok some_room q s f nf

  along_y : NoLarger j z (upward g ng) (λ v. (rect_of q v).y1) (λ v. (rect_of q v).y2)
  along_y = nothing_lower j z ok some_room q s g ng

  -- its walls are lines,
  pub lines : OneLine j z q
  lines = record { upright_line = along_x.one_line; level_line = along_y.one_line }

  -- and none of them lies before ours
  pub plan_smallest : NothingSmaller j z (plan_of j f g) q
  unfolding plan_of
  plan_smallest = record {
    upright_walls = λ a b x y o k l. omega (arith, x_number j z ok f g nf ng a x k, nf.wall a b o, along_x.further b y l);
    level_walls = λ a b x y o k l. omega (arith, y_number j z ok f g nf ng a x k, ng.wall a b o, along_y.further b y l);
    width = λ x h. omega (arith, along_x.further _ _ of_last, s.wide 3 (omega arith), h 3 (omega arith));
    height = λ y h. omega (arith, along_y.further _ _ of_last, s.tall 0 (omega arith), h 0 (omega arith));
  }

module _ (o : SizedJob) (p : Plan) (s : Sound o p) where
  -- the numbers of a held plan are those of the definition
  uprights : Numbers (rules upright o.stars o.sizes) (at s.is_drawn.xs)
  uprights = numbers_are upright o.stars o.sizes (to_vertex o.stars s.passes) s.is_drawn.xs s.is_drawn.is_upright

  levels : Numbers (rules level o.stars o.sizes) (at s.is_drawn.ys)
  levels = numbers_are level o.stars o.sizes (to_vertex o.stars s.passes) s.is_drawn.ys s.is_drawn.is_level

  -- THE HELD PLAN IS SUCH A PLACING,
  pub held_placing : Placing o.stars o.sizes p
  held_placing =
      let g : GoodPlan o.stars p = sound_good o p s in
      record { wide = λ v h. (g.inside v h).wide; tall = λ v h. (g.inside v h).tall; roomy = sound_roomy o p s; met = g.floor.stands }

  -- the walls of any are lines,
  pub held_lines : (q : Plan) → Placing o.stars o.sizes q → OneLine o.stars o.sizes q
  held_lines = lines o.stars o.sizes s.passes (some_room o p s) (at s.is_drawn.xs) (at s.is_drawn.ys) uprights levels

  -- AND NONE IS SMALLER
  pub held_smallest : (q : Plan) → Placing o.stars o.sizes q → NothingSmaller o.stars o.sizes p q
  held_smallest q g =
      rw s.is_drawn.is_plan (plan_smallest o.stars o.sizes s.passes (some_room o p s) (at s.is_drawn.xs) (at s.is_drawn.ys) uprights levels q g)
