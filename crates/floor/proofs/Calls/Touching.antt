-- How two vertices of a held plan touch: a wall exactly where they are joined, on the labelled side, of the length that they share. Assumes nothing.
use Rattle.std.specs.Prelude.{ℕ, ◌+◌, ◌-◌, ◌≡◌, refl, ◌↔◌, false, length}
use Rattle.std.proofs.Common.{sym, ap, ◌∙◌, arith, eq-eqb, ne_eqb}
use mathlib.Core.List.{Memᴰ}
use Rattle.floor.specs.Lists.{any}
use Rattle.floor.proofs.Lists.Laws.{no_false, same_test}
use Rattle.floor.specs.Jobs.{Entry, Job, Vertex, Room, opposite, star_of, names, SizedJob}
use Rattle.floor.specs.Jobs.Facts.{EntryOk}
use Rattle.floor.proofs.Jobs.Facts.{star_frame}
use Rattle.floor.specs.Walls.{low, at}
use Rattle.floor.specs.Plans.{Plan, rect_of, Touch, clear, wall, is_wall, touch_of, plan_of, next_side, joined}
use Rattle.floor.specs.Floor.{GoodPlan, Solid, Borders, Shares, Joined}
use Rattle.floor.proofs.Floor.Sides.{Side, up, left, down, right, opp, Beside, wn, ws, ne, se}
use Rattle.floor.proofs.Floor.Whole.{beside_back}
use Rattle.floor.proofs.Floor.Read.{num, few_sides}
use Rattle.floor.proofs.Floor.Joins.{joined_of, of_joined}
use Rattle.floor.proofs.Floor.Touches.{not_clear, shares_of, of_shares, touch_exactly, touch_stands, touch_back}
use Rattle.floor.specs.Calls.{touching}
use Rattle.floor.specs.Calls.Sound.{Sound}
use Rattle.floor.proofs.Calls.Sound.{sound_good}

-- one vertex asked twice: no wall
pub touch_twice : (p : Plan) (v : ℕ) → touching p v v ≡ clear
unfolding touching
touch_twice p v = rw (eq-eqb v v refl)

-- two vertices touch as their rectangles do
touch_two : (p : Plan) (u v : ℕ) → (u ≡ v → ⊥) → touching p u v ≡ touch_of (rect_of p u) (rect_of p v)
unfolding touching
touch_two p u v d = rw (ne_eqb u v d)

-- only two different vertices have a wall between them
touch_other : (p : Plan) (u v k n : ℕ) → touching p u v ≡ wall k n → u ≡ v → ⊥
touch_other p u v k n e q = not_clear (sym (touch_twice p v) ∙ ap (λ (w : ℕ). touching p w v) (sym q) ∙ e)

-- a touch without a wall is clear
no_wall : (t : Touch) → is_wall t ≡ false → t ≡ clear
unfolding is_wall
no_wall clear e = refl
no_wall (wall k n) e = no_false (sym e)

-- a frame side is a vertex
side_vertex : (j : Job) (t : Side) → Vertex j (num t)
side_vertex j t = omega (arith, few_sides t)

-- the frame of the plan by wall numbers
frame_borders : (j : Job) (f g : ℕ → ℕ) (t r : Side) → Beside right t r → Borders 3 1 (rect_of (plan_of j f g) (num t)) (rect_of (plan_of j f g) (num r))
unfolding plan_of rect_of
frame_borders j f g t r b = go b
  where
    h : ℕ
    h = g (low 0) + 1 - 1

    go : {t r : Side} → Beside right t r → Borders 3 1 (rect_of (plan_of j f g) (num t)) (rect_of (plan_of j f g) (num r))
    go wn = record {
      few = omega arith;
      stands = record { line = refl; c = h; starts = omega arith; ends = omega arith; starts' = omega arith; ends' = omega arith };
      start = h;
      exactly = λ c. (λ x. (x.1.0, omega (arith, x.1.1)), λ x. ((omega arith, omega (arith, x.1)), (x.0, omega (arith, x.1))));
    }
    go ws = record {
      few = omega arith;
      stands = record { line = refl; c = 0; starts = omega arith; ends = omega arith; starts' = omega arith; ends' = omega arith };
      start = 0;
      exactly = λ c. (λ x. (omega arith, omega (arith, x.1.1)), λ x. ((omega arith, omega (arith, x.1)), (omega arith, omega (arith, x.1))));
    }
    go ne = record {
      few = omega arith;
      stands = record { line = refl; c = h; starts = omega arith; ends = omega arith; starts' = omega arith; ends' = omega arith };
      start = h;
      exactly = λ c. (λ x. (x.0.0, omega (arith, x.0.1)), λ x. ((x.0, omega (arith, x.1)), (omega arith, omega (arith, x.1))));
    }
    go se = record {
      few = omega arith;
      stands = record { line = refl; c = 0; starts = omega arith; ends = omega arith; starts' = omega arith; ends' = omega arith };
      start = 0;
      exactly = λ c. (λ x. (omega arith, omega (arith, x.0.1)), λ x. ((omega arith, omega (arith, x.1)), (omega arith, omega (arith, x.1))));
    }

-- opposite frame sides are not joined
unjoined : (j : Job) (t : Side) → joined j (num t) (num (opp t)) ≡ false
unfolding joined names any next_side
unjoined j up = rw (star_frame j 0 (omega arith), star_frame j 2 (omega arith)) refl
unjoined j left = rw (star_frame j 1 (omega arith), star_frame j 3 (omega arith)) refl
unjoined j down = rw (star_frame j 2 (omega arith), star_frame j 0 (omega arith)) refl
unjoined j right = rw (star_frame j 3 (omega arith), star_frame j 1 (omega arith)) refl

module _ (o : SizedJob) (p : Plan) (s : Sound o p) where
  -- the plan is good for the job
  gp : GoodPlan o.stars p
  gp = sound_good o p s

  -- the rectangle of every vertex has a cell
  solid : (v : ℕ) → Vertex o.stars v → Solid (rect_of p v)
  solid v h = record { wide = (gp.inside v h).wide; tall = (gp.inside v h).tall }

  -- A WALL EXACTLY WHERE THEY ARE JOINED
  pub touch_joined : (u v : ℕ) → Vertex o.stars u → Vertex o.stars v → (u ≡ v → ⊥) → is_wall (touching p u v) ≡ joined o.stars u v
  touch_joined u v hu hv d =
      ap is_wall (touch_two p u v d)
      ∙ same_test (is_wall (touch_of (rect_of p u) (rect_of p v))) (joined o.stars u v)
      (λ e. of_joined o.stars u v (same.0 (shares_of (rect_of p u) (rect_of p v) e)))
      (λ e. of_shares (rect_of p u) (rect_of p v) (same.1 (joined_of o.stars u v e)))
    where
      same : Shares (rect_of p u) (rect_of p v) ↔ Joined o.stars u v
      same = gp.floor.contacts u v hu hv d

  -- THE SIDE AND THE LENGTH as the rectangles stand
  pub touch_borders : (u v : ℕ) → Vertex o.stars u → Vertex o.stars v → (u ≡ v → ⊥) → (k n : ℕ)
      → (touching p u v ≡ wall k n) ↔ Borders k n (rect_of p u) (rect_of p v)
  touch_borders u v hu hv d k n = rw (touch_two p u v d) (touch_exactly (rect_of p u) (rect_of p v) (solid u hu) (solid v hv) k n)

  -- THE OTHER WAY ROUND
  pub touching_back : (u v : ℕ) → Vertex o.stars u → Vertex o.stars v → (k n : ℕ) → touching p u v ≡ wall k n → touching p v u ≡ wall (opposite k) n
  touching_back u v hu hv k n e =
      let d : u ≡ v → ⊥ = touch_other p u v k n e in
      touch_two p v u (λ q. d (sym q)) ∙ touch_back (rect_of p u) (rect_of p v) (solid u hu) (solid v hv) k n (sym (touch_two p u v d) ∙ e)

  -- THE LABELLED SIDE of a room and whom its star names
  pub touch_label : (u : ℕ) → Room o.stars u → (e : Entry) → Memᴰ e (star_of o.stars u) → (n : ℕ) × (touching p u e.to ≡ wall e.kind n)
  touch_label u r e m =
      let ok : EntryOk (length o.stars) u e = s.passes.entries u r e m in
      let (n, q) = touch_stands (rect_of p u) (rect_of p e.to) (solid u r.1) (solid e.to ok.below) e.kind (omega (arith, ok.small))
      (gp.floor.stands u r e m) in
      (n, touch_two p u e.to (λ x. ok.other (sym x)) ∙ q)

  -- of two neighbouring sides of the frame, the one to the right stands there with one cell's length of wall
  rightward : (t r : Side) → Beside right t r → touching p (num t) (num r) ≡ wall 3 1
  rightward t r b = (touch_borders (num t) (num r) (side_vertex o.stars t) (side_vertex o.stars r) (two b) 3 1).1
      (rw s.is_drawn.is_plan (frame_borders o.stars (at s.is_drawn.xs) (at s.is_drawn.ys) t r b))
    where
      two : {t r : Side} → Beside right t r → num t ≡ num r → ⊥
      two wn e = omega arith
      two ws e = omega arith
      two ne e = omega arith
      two se e = omega arith

  -- FRAME SIDES answer as they lie: neighbouring ones share one cell's length,
  pub frame_touch : (k t r : Side) → Beside k t r → touching p (num t) (num r) ≡ wall (num k) 1
  unfolding opposite
  frame_touch right t r b = rightward t r b
  frame_touch left t r b = touching_back (num r) (num t) (side_vertex o.stars r) (side_vertex o.stars t) 3 1 (rightward r t (beside_back right t r b))
  frame_touch up t r b = elim b [ ]
  frame_touch down t r b = elim b [ ]

  -- and opposite ones none
  pub frame_clear : (t : Side) → touching p (num t) (num (opp t)) ≡ clear
  frame_clear t =
      no_wall (touching p (num t) (num (opp t)))
      (touch_joined (num t) (num (opp t)) (side_vertex o.stars t) (side_vertex o.stars (opp t)) (across t).0 ∙ (across t).1)
    where
      across : (t : Side) → (num t ≡ num (opp t) → ⊥) × (joined o.stars (num t) (num (opp t)) ≡ false)
      across up = (λ e. omega arith, unjoined o.stars up)
      across left = (λ e. omega arith, unjoined o.stars left)
      across down = (λ e. omega arith, unjoined o.stars down)
      across right = (λ e. omega arith, unjoined o.stars right)
