-- The drawing test and good placements: a good plan passes it, and a plan that meets its contacts and passes it is good. Assumes nothing.
use Rattle.std.specs.Prelude.{◌≡◌, ◌⊎◌, true, [], ℕ, ◌+◌, ◌-◌, ◌≤◌, ◌<◌, length, get_or}
use Rattle.std.proofs.Common.{ap, inl, inr}
use native.Mathlib.Omega.{arith}
use Rattle.std.proofs.Math.Decide.{dec_lt}
use Rattle.floor.specs.Jobs.{Job, Vertex, star_of}
use Rattle.floor.proofs.Jobs.Round.{restart_back, restart_mem}
use Rattle.floor.proofs.Jobs.Straight.{straight, straight_restarts}
use Rattle.floor.specs.Jobs.Facts.{Passes}
use Rattle.floor.proofs.Jobs.Facts.{star_at}
use Rattle.floor.specs.Plans.{Plan, rect_of, drawable}
use Rattle.floor.specs.Floor.{Cell, Shares, Joined, Complete, Inside, GoodPlan}
use Rattle.floor.proofs.Floor.Sides.{Side, up, left, down, right, next, opp, prev, Piece, size, Known, Meets, Contact, Fits, Good}
use Rattle.floor.proofs.Floor.Whole.{flip}
use Rattle.floor.proofs.Floor.Read.{num, number, piece, number_piece, few_sides, stars_of, known_vertex, known_piece, entry_ok}
use Rattle.floor.proofs.Floor.Joins.{joined_back, joined_contact, side_of}
use Rattle.floor.proofs.Floor.Placed.{reach, place_of, inside_of, meets_stands, cover_place, alone_place, order_lists}
use Rattle.floor.proofs.Floor.Bridge.{meets_two, covered, once, plan_good, good_plan, shares_joined}
use Rattle.floor.proofs.Floor.Order.{counterclockwise_order}
use Rattle.floor.proofs.Floor.Draws.{Draws, drawable_draws, draws_drawable, Abuts}
use Rattle.floor.proofs.Floor.Area.{cells_areas, areas_cells}

-- one of two, told in the other order
swap : {X Y : Type 0} → X ⊎ Y → Y ⊎ X
swap (inl x) = inr x
swap (inr y) = inl y

-- either of two different numbers is less
either_less : (u v : ℕ) → (u ≡ v → ⊥) → (u < v) ⊎ (v < u)
either_less u v ne = go (dec_lt u v)
  where
    go : Dec (u < v) → (u < v) ⊎ (v < u)
    go (yes l) = inl l
    go (no l) = inr (omega (arith, ne))

module _ (j : Job) (ok : Passes j) (p : Plan) (c : Complete j p) where
  -- A GOOD PLAN PASSES
  module _ (gp : GoodPlan j p) where
    -- the placement of a good plan is good
    g : Good (stars_of j) (place_of p)
    g = plan_good j ok p gp

    -- the placement's corner, by rectangles
    no_corner : (u v : ℕ) → Vertex j u → Vertex j v → Abuts (rect_of p u).x1 (rect_of p u).x2 (rect_of p v).x1 (rect_of p v).x2
        → Abuts (rect_of p u).y1 (rect_of p u).y2 (rect_of p v).y1 (rect_of p v).y2 → ⊥
    unfolding place_of reach
    no_corner u v hu hv = go
      where
        ku : Known (stars_of j) (piece u)
        ku = known_piece j u hu

        kv : Known (stars_of j) (piece v)
        kv = known_piece j v hv

        iu : Inside p (rect_of p u)
        iu = gp.inside u hu

        iv : Inside p (rect_of p v)
        iv = gp.inside v hv

        fit : (n a b : ℕ) → a ≡ b → b ≤ n → a + (n - b) ≡ n
        fit n a b e l = omega arith

        tif : (n a b : ℕ) → a ≡ b → b ≤ n → (n - b) + a ≡ n
        tif n a b e l = omega arith

        go : Abuts (rect_of p u).x1 (rect_of p u).x2 (rect_of p v).x1 (rect_of p v).x2
            → Abuts (rect_of p u).y1 (rect_of p u).y2 (rect_of p v).y1 (rect_of p v).y2 → ⊥
        go (inl e) (inl f) =
            g.corner right (piece u) (piece v) ku kv
            (rw (number_piece u, number_piece v) (fit p.width (rect_of p u).x2 (rect_of p v).x1 e (omega (arith, iv.wide, iv.in_width))))
            (rw (number_piece u, number_piece v) (fit p.height (rect_of p u).y2 (rect_of p v).y1 f (omega (arith, iv.tall, iv.in_height))))
        go (inl e) (inr f) =
            g.corner down (piece u) (piece v) ku kv
            (rw (number_piece u, number_piece v) (tif p.height (rect_of p v).y2 (rect_of p u).y1 f (omega (arith, iu.tall, iu.in_height))))
            (rw (number_piece u, number_piece v) (fit p.width (rect_of p u).x2 (rect_of p v).x1 e (omega (arith, iv.wide, iv.in_width))))
        go (inr e) (inl f) =
            g.corner up (piece u) (piece v) ku kv
            (rw (number_piece u, number_piece v) (fit p.height (rect_of p u).y2 (rect_of p v).y1 f (omega (arith, iv.tall, iv.in_height))))
            (rw (number_piece u, number_piece v) (tif p.width (rect_of p v).x2 (rect_of p u).x1 e (omega (arith, iu.wide, iu.in_width))))
        go (inr e) (inr f) =
            g.corner left (piece u) (piece v) ku kv
            (rw (number_piece u, number_piece v) (tif p.width (rect_of p v).x2 (rect_of p u).x1 e (omega (arith, iu.wide, iu.in_width))))
            (rw (number_piece u, number_piece v) (tif p.height (rect_of p v).y2 (rect_of p u).y1 f (omega (arith, iu.tall, iu.in_height))))

    -- a good plan passes the drawing test
    pub good_drawable : drawable j p ≡ true
    good_drawable = draws_drawable j ok p c (record {
      inside = gp.inside;
      apart = λ u v l hv x y a b. omega (arith, once j ok p gp x y u v (omega arith) hv a b);
      areas = cells_areas (length j + 4) p c.count gp.inside (covered j ok p gp) (once j ok p gp);
      shares = λ u v l hv. shares_joined j ok p c g u v (omega arith) hv;
      corners = λ u v l hv. no_corner u v (omega arith) hv;
      order = λ u r. counterclockwise_order p (star_of j u) (ok.good u r) (gp.floor.counterclockwise u r);
    })

  -- A PLAN THAT MEETS ITS CONTACTS AND PASSES IS GOOD
  module _ (some_room : 0 < length j) (ft : Fits (stars_of j) (place_of p)) (dr : drawable j p ≡ true) where
    -- the facts that the drawing test tells of the plan
    d : Draws j p
    d = drawable_draws j ok p c dr

    -- no cell lies in the rectangles of two vertices
    alone_cell : (x y u v : ℕ) → Vertex j u → Vertex j v → Cell (rect_of p u) x y → Cell (rect_of p v) x y → u ≡ v
    alone_cell x y u v hu hv a b = go (dec_lt u v) (dec_lt v u)
      where
        go : Dec (u < v) → Dec (v < u) → u ≡ v
        go (yes l) m = absurd (d.apart u v l hv x y a b)
        go (no l) (yes m) = absurd (d.apart v u m hu x y b a)
        go (no l) (no m) = omega arith

    -- no two rectangles touch end to end both in x and in y
    crossed : (u v : Piece) → Known (stars_of j) u → Known (stars_of j) v
        → Abuts (rect_of p (number u)).x1 (rect_of p (number u)).x2 (rect_of p (number v)).x1 (rect_of p (number v)).x2
        → Abuts (rect_of p (number u)).y1 (rect_of p (number u)).y2 (rect_of p (number v)).y1 (rect_of p (number v)).y2 → ⊥
    crossed u v hu hv e f = go (either_less (number u) (number v) (λ q. self q e))
      where
        self : number u ≡ number v → Abuts (rect_of p (number u)).x1 (rect_of p (number u)).x2 (rect_of p (number v)).x1 (rect_of p (number v)).x2 → ⊥
        self q (inl w) = omega (arith, (inside_of j p d.inside u hu).wide, ap (λ z. (rect_of p z).x1) q)
        self q (inr w) = omega (arith, (inside_of j p d.inside u hu).wide, ap (λ z. (rect_of p z).x2) q)

        go : (number u < number v) ⊎ (number v < number u) → ⊥
        go (inl l) = d.corners (number u) (number v) l (known_vertex j v hv) e f
        go (inr l) = d.corners (number v) (number u) l (known_vertex j u hu) (swap e) (swap f)

    -- no two pieces meet at a corner only
    corners : (k : Side) (u v : Piece) → Known (stars_of j) u → Known (stars_of j) v → (place_of p).at k u + (place_of p).at (opp k) v ≡ size (place_of p) k
        → (place_of p).at (next k) u + (place_of p).at (prev k) v ≡ size (place_of p) (next k) → ⊥
    unfolding place_of reach
    corners k u v hu hv = go k (inside_of j p d.inside u hu) (inside_of j p d.inside v hv)
      where
        go : (k : Side) → Inside p (rect_of p (number u)) → Inside p (rect_of p (number v)) → (place_of p).at k u + (place_of p).at (opp k) v ≡ size (place_of p) k
            → (place_of p).at (next k) u + (place_of p).at (prev k) v ≡ size (place_of p) (next k) → ⊥
        go up i h e f = crossed u v hu hv (inr (omega (arith, i.wide, i.in_width))) (inl (omega (arith, h.tall, h.in_height)))
        go left i h e f = crossed u v hu hv (inr (omega (arith, i.wide, i.in_width))) (inr (omega (arith, i.tall, i.in_height)))
        go down i h e f = crossed u v hu hv (inl (omega (arith, h.wide, h.in_width))) (inr (omega (arith, i.tall, i.in_height)))
        go right i h e f = crossed u v hu hv (inl (omega (arith, h.wide, h.in_width))) (inl (omega (arith, h.tall, h.in_height)))

    -- who meets is joined, and so in contact on some side
    some : (k : Side) (u v : Piece) → Known (stars_of j) u → Known (stars_of j) v → Meets (place_of p) k u v → (c : Side) × Contact (stars_of j) c u v
    some k u v hu hv m =
        joined_contact j ok u v hu hv (go (either_less (number u) (number v) (meets_two j ok p ft.thick k u v hu m)))
      where
        share : Shares (rect_of p (number u)) (rect_of p (number v))
        share = record { side = num k; few = few_sides k; stands = meets_stands j p d.inside k u v hu hv m }

        back : Shares (rect_of p (number v)) (rect_of p (number u))
        back = record { side = num (opp k); few = few_sides (opp k); stands = meets_stands j p d.inside (opp k) v u hv hu (flip k m) }

        go : (number u < number v) ⊎ (number v < number u) → Joined j (number u) (number v)
        go (inl l) = d.shares (number u) (number v) l (known_vertex j v hv) share
        go (inr l) = joined_back (d.shares (number v) (number u) l (known_vertex j u hu) back)

    -- the placement of such a plan is good
    pub drawable_good : Good (stars_of j) (place_of p)
    unfolding stars_of
    drawable_good = record {
      shape = ft.shape;
      inside = ft.inside;
      thick = ft.thick;
      cover = cover_place j p d.inside (areas_cells (length j + 4) p c.count d.inside alone_cell d.areas);
      alone = alone_place j p d.inside alone_cell;
      corner = corners;
      joined = λ k u v hu hv m. side_of (stars_of j) (place_of p) ft.thick ft.meets k u v hu hv (some k u v hu hv m) m;
      meets = ft.meets;
      order = λ k i h.
          order_lists j p d.inside k (straight (get_or j i []))
          (λ e m. (entry_ok j ok i h e (restart_mem (restart_back (straight_restarts (get_or j i []))) m)).below)
          (rw (star_at j i) at (d.order (4 + i) (omega arith, omega arith)));
    }

    -- such a plan is good for the job, in the customer's words
    pub drawable_plan : GoodPlan j p
    drawable_plan = good_plan j ok p c drawable_good
