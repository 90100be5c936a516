-- Inside the frame of a plan by wall numbers, one cell thick: where its rooms lie. Assumes nothing.
use Rattle.std.specs.Prelude.{ℕ, ◌+◌, ◌-◌, ◌≤◌, ◌<◌, ◌≡◌, refl}
use Rattle.std.proofs.Common.{arith}
use Rattle.std.proofs.Math.Decide.{dec_lt}
use Rattle.floor.specs.Jobs.{Job, Room}
use Rattle.floor.specs.Jobs.Facts.{Passes}
use Rattle.floor.specs.Plans.{Plan, rect_of, plan_of}
use Rattle.floor.specs.Floor.{Cell, Inside, GoodPlan}
use Rattle.floor.proofs.Floor.Bridge.{once}

-- the frame is one cell thick
pub record Thin (p : Plan) : Type 0 where
  pub w_x2 : (rect_of p 1).x2 ≡ 1
  pub e_x1 : (rect_of p 3).x1 + 1 ≡ p.width
  pub s_y2 : (rect_of p 2).y2 ≡ 1
  pub n_y1 : (rect_of p 0).y1 + 1 ≡ p.height

-- a plan drawn from wall numbers has a frame one cell thick
pub plan_thin : (j : Job) (f g : ℕ → ℕ) → Thin (plan_of j f g)
unfolding plan_of rect_of
plan_thin j f g = record { w_x2 = refl; e_x1 = omega arith; s_y2 = refl; n_y1 = omega arith }

-- where a room lies, inside the frame
pub record Inner (p : Plan) (v : ℕ) : Type 0 where
  pub left : 1 ≤ (rect_of p v).x1
  pub right : (rect_of p v).x2 < p.width
  pub lower : 1 ≤ (rect_of p v).y1
  pub upper : (rect_of p v).y2 < p.height

module _ (j : Job) (ok : Passes j) (p : Plan) (gp : GoodPlan j p) (thin : Thin p) where
  -- no cell lies both in a frame side and in a room
  meet : (x y u v : ℕ) → u < 4 → Room j v → Cell (rect_of p u) x y → Cell (rect_of p v) x y → ⊥
  meet x y u v h r a b = omega (arith, r.0, once j ok p gp x y u v (omega arith) r.1 a b)

  -- every room lies inside the frame
  pub inner_room : (v : ℕ) → Room j v → Inner p v
  inner_room v r = record { left = l; right = m; lower = low_end; upper = high_end }
    where
      i : Inside p (rect_of p v)
      i = gp.inside v r.1

      cell : (x y : ℕ) → (rect_of p v).x1 ≤ x → x < (rect_of p v).x2 → (rect_of p v).y1 ≤ y → y < (rect_of p v).y2 → Cell (rect_of p v) x y
      cell x y a b c d = record { left = a; right = b; lower = c; upper = d }

      l : 1 ≤ (rect_of p v).x1
      l = go (dec_lt 0 (rect_of p v).x1)
        where
          go : Dec (0 < (rect_of p v).x1) → 1 ≤ (rect_of p v).x1
          go (yes h) = h
          go (no h) =
              absurd (meet 0 (rect_of p v).y1 1 v (omega arith) r
              (record {
                left = omega (arith, gp.framed.w_x1);
                right = omega (arith, thin.w_x2);
                lower = omega (arith, gp.framed.w_y1);
                upper = omega (arith, gp.framed.w_y2, i.tall, i.in_height);
              })
              (cell 0 (rect_of p v).y1 (omega arith) (omega (arith, i.wide)) (omega arith) i.tall))

      m : (rect_of p v).x2 < p.width
      m = go (dec_lt (rect_of p v).x2 p.width)
        where
          go : Dec ((rect_of p v).x2 < p.width) → (rect_of p v).x2 < p.width
          go (yes h) = h
          go (no h) =
              absurd (meet (p.width - 1) (rect_of p v).y1 3 v (omega arith) r
              (record {
                left = omega (arith, thin.e_x1);
                right = omega (arith, thin.e_x1, gp.framed.e_x2);
                lower = omega (arith, gp.framed.e_y1);
                upper = omega (arith, gp.framed.e_y2, i.tall, i.in_height);
              })
              (cell (p.width - 1) (rect_of p v).y1 (omega (arith, i.wide, i.in_width)) (omega (arith, i.wide, i.in_width)) (omega arith) i.tall))

      low_end : 1 ≤ (rect_of p v).y1
      low_end = go (dec_lt 0 (rect_of p v).y1)
        where
          go : Dec (0 < (rect_of p v).y1) → 1 ≤ (rect_of p v).y1
          go (yes h) = h
          go (no h) =
              absurd (meet (rect_of p v).x1 0 2 v (omega arith) r
              (record {
                left = omega (arith, gp.framed.s_x1, thin.w_x2, l);
                right = omega (arith, gp.framed.s_x2, thin.e_x1, m, i.wide);
                lower = omega (arith, gp.framed.s_y1);
                upper = omega (arith, thin.s_y2);
              })
              (cell (rect_of p v).x1 0 (omega arith) i.wide (omega arith) (omega (arith, i.tall))))

      high_end : (rect_of p v).y2 < p.height
      high_end = go (dec_lt (rect_of p v).y2 p.height)
        where
          go : Dec ((rect_of p v).y2 < p.height) → (rect_of p v).y2 < p.height
          go (yes h) = h
          go (no h) =
              absurd (meet (rect_of p v).x1 (p.height - 1) 0 v (omega arith) r
              (record {
                left = omega (arith, gp.framed.n_x1, thin.w_x2, l);
                right = omega (arith, gp.framed.n_x2, thin.e_x1, m, i.wide);
                lower = omega (arith, thin.n_y1);
                upper = omega (arith, thin.n_y1, gp.framed.n_y2);
              })
              (cell (rect_of p v).x1 (p.height - 1) (omega arith) i.wide (omega (arith, i.tall, i.in_height)) (omega (arith, i.tall, i.in_height))))
