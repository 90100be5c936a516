-- A good plan in the customer's words and a good placement in the theory's are one. Assumes nothing.
use Rattle.std.specs.Prelude.{◌≡◌, ℕ, ◌+◌, ◌-◌, ◌≤◌, ◌<◌, length, get_or}
use Rattle.std.proofs.Math.Path.{sym, ap}
use Rattle.std.proofs.Common.{◌∙◌}
use mathlib.Core.List.{[], Memᴰ}
use native.Mathlib.Omega.{arith}
use Rattle.floor.specs.Jobs.{Entry, Star, Job, Vertex, Room, star_of}
use Rattle.floor.proofs.Jobs.Round.{restart_back, restart_mem}
use Rattle.floor.proofs.Jobs.Straight.{straight, straight_restarts}
use Rattle.floor.specs.Jobs.Facts.{Passes}
use Rattle.floor.proofs.Jobs.Facts.{star_at, star_room}
use Rattle.floor.specs.Plans.{Plan, rect_of}
use Rattle.floor.specs.Floor.{Cell, Point, Stands, Shares, Joined, Different, ExactlyOne, Complete, Floor, Framed, Inside, GoodPlan}
use Rattle.floor.proofs.Floor.Sides.{Side, up, left, down, right, opp, round, around as each_side, Piece, side, room, size, Known, Meets, Contact, Shape}
use Rattle.floor.proofs.Floor.Sides.{Good}
use Rattle.floor.proofs.Floor.Whole.{flip, frame_meets, strict}
use Rattle.floor.proofs.Floor.Parts.{gap_of, good_local}
use Rattle.floor.proofs.Floor.Four.{NoFour, turn_knot, turn_on, four_corner, corner_four}
use Rattle.floor.proofs.Floor.Read.{num, number, piece, number_piece, number_same, piece_same, few_sides, kind_side, stars_of, mem_entry, entry_mem}
use Rattle.floor.proofs.Floor.Read.{known_vertex, known_piece, entry_ok, lawful}
use Rattle.floor.proofs.Floor.Joins.{joined_contact, contact_joined, side_of}
use Rattle.floor.proofs.Floor.Placed.{reach, place_of, tile_at, knot_at, framed_shape, inside_place, thick_place, stands_meets, meets_stands, in_cell}
use Rattle.floor.proofs.Floor.Order.{InOrder, order_counterclockwise, counterclockwise_order}
use Rattle.floor.proofs.Floor.Placed.{cell_at, point_at, on_point, cover_place, alone_place, order_lists, lists_order}

module _ (j : Job) (ok : Passes j) (p : Plan) where
  -- who meets is two
  pub meets_two : ((k : Side) (v : Piece) → Known (stars_of j) v → size (place_of p) k < (place_of p).at k v + (place_of p).at (opp k) v)
      → (k : Side) (u v : Piece) → Known (stars_of j) u → Meets (place_of p) k u v → number u ≡ number v → ⊥
  meets_two thick k u v hu m e = omega (arith, m.touch, thick k u hu, ap ((place_of p).at (opp k)) (number_same u v e))

  -- THE CUSTOMER'S GOOD PLAN IS GOOD
  module _ (gp : GoodPlan j p) where
    -- the plan is a floor plan for the job
    f : Floor j p
    f = gp.floor

    -- no side of a piece reaches over the edge of the sheet
    inside : (k : Side) (v : Piece) → Known (stars_of j) v → (place_of p).at k v ≤ size (place_of p) k
    inside = inside_place j p gp.inside

    -- each piece is at least a cell thick, in every direction
    thick : (k : Side) (v : Piece) → Known (stars_of j) v → size (place_of p) k < (place_of p).at k v + (place_of p).at (opp k) v
    thick = thick_place j p gp.inside

    -- the frame has its shape: W and E full height, N and S between
    shape : Shape (place_of p)
    shape = framed_shape p gp.framed (gp.inside 1 (omega arith)) (gp.inside 3 (omega arith))

    -- each cell of the sheet lies in the rectangle of some vertex
    pub covered : (x y : ℕ) → x < p.width → y < p.height → (v : ℕ) × Vertex j v × Cell (rect_of p v) x y
    covered x y hx hy = let o : ExactlyOne j p x y = f.cover x y hx hy in (o.one, o.vertex, o.holds)

    -- no cell lies in the rectangles of two vertices
    pub once : (x y u v : ℕ) → Vertex j u → Vertex j v → Cell (rect_of p u) x y → Cell (rect_of p v) x y → u ≡ v
    once x y u v hu hv c d =
        let o : ExactlyOne j p x y = f.cover x y (omega (arith, c.right, (gp.inside u hu).in_width))
        (omega (arith, c.upper, (gp.inside u hu).in_height)) in
        o.only u hu c ∙ sym (o.only v hv d)

    -- no point lies in four pieces, in any direction
    no_four : (k : Side) → NoFour (stars_of j) (place_of p) k
    no_four =
        each_side (λ k. NoFour (stars_of j) (place_of p) k)
        (λ k below x t u v w ht hu hv hw nt nu nv nw. below (turn_knot x) t u v w ht hu hv hw (turn_on x nt) (turn_on x nu) (turn_on x nv) (turn_on x nw))
        (λ x t u v w ht hu hv hw nt nu nv nw tu tv tw uv uw vw.
        f.no_four x.c x.d (number t) (number u) (number v) (number w) (known_vertex j t ht) (known_vertex j u hu) (known_vertex j v hv)
        (known_vertex j w hw)
        (record {
          ab = λ e. tu (number_same t u e);
          ac = λ e. tv (number_same t v e);
          ad = λ e. tw (number_same t w e);
          bc = λ e. uv (number_same u v e);
          bd = λ e. uw (number_same u w e);
          cd = λ e. vw (number_same v w e);
        })
        (on_point j p gp.inside x t nt ht) (on_point j p gp.inside x u nu hu) (on_point j p gp.inside x v nv hv)
        (on_point j p gp.inside x w nw hw))

    -- who meets is joined, and so in contact on some side
    some : (k : Side) (u v : Piece) → Known (stars_of j) u → Known (stars_of j) v → Meets (place_of p) k u v → (c : Side) × Contact (stars_of j) c u v
    some k u v hu hv m =
        joined_contact j ok u v hu hv
        ((f.contacts (number u) (number v) (known_vertex j u hu) (known_vertex j v hv) (meets_two thick k u v hu m)).0
        (record { side = num k; few = few_sides k; stands = meets_stands j p gp.inside k u v hu hv m }))

    -- N and S do not meet
    gap : (place_of p).at up (side down) + (place_of p).at down (side up) < (place_of p).height
    gap = gap_of (stars_of j) (place_of p) shape inside thick (alone_place j p gp.inside once) (λ m. apart (some up (side down) (side up) tt tt m))
      where
        apart : (c : Side) × Contact (stars_of j) c (side down) (side up) → ⊥
        apart (c, m) = elim m [ ]

    -- each neighbour of a room meets it on the side of its list
    room_meets : (k : Side) (i : ℕ) (v : Piece) → i < length j → Known (stars_of j) v → Memᴰ v ((stars_of j).list k i) → Meets (place_of p) k (room i) v
    unfolding stars_of
    room_meets k i v h hv m =
        let (e, me, ke, te) = mem_entry v (get_or j i []) (num k) m in
        stands_meets j p gp.inside k (room i) v h hv (go e ke te (f.stands (4 + i) (omega arith, omega arith) e (rw (star_at j i) me)))
      where
        go : (e : Entry) → e.kind ≡ num k → e.to ≡ number v → Stands e.kind (rect_of p (4 + i)) (rect_of p e.to)
            → Stands (num k) (rect_of p (4 + i)) (rect_of p (number v))
        go e ke te s = rw (ke, te) at s

    -- pieces in contact by the job meet on that side
    meets : (k : Side) (u v : Piece) → Known (stars_of j) u → Known (stars_of j) v → Contact (stars_of j) k u v → Meets (place_of p) k u v
    unfolding stars_of
    meets k (room i) v hu hv m = room_meets k i v hu hv m
    meets k (side t) (room r) hu hv m = rw (round k) at (flip (opp k) (room_meets (opp k) r (side t) hv hu m))
    meets k (side t) (side r) hu hv m = frame_meets (stars_of j) (place_of p) shape inside thick gap k t r m

    -- the placement of a good plan is good for the job's stars
    pub plan_good : Good (stars_of j) (place_of p)
    unfolding stars_of
    plan_good = record {
      shape = shape;
      inside = inside;
      thick = thick;
      cover = cover_place j p gp.inside covered;
      alone = alone_place j p gp.inside once;
      corner = λ k. four_corner (stars_of j) (place_of p) inside thick (alone_place j p gp.inside once) (cover_place j p gp.inside covered) k (no_four k);
      joined = λ k u v hu hv m. side_of (stars_of j) (place_of p) thick meets k u v hu hv (some k u v hu hv m) m;
      meets = meets;
      order = λ k i h.
          order_lists j p gp.inside k (straight (get_or j i []))
          (λ e m. (entry_ok j ok i h e (restart_mem (restart_back (straight_restarts (get_or j i []))) m)).below)
          (rw (star_at j i) at (counterclockwise_order p (star_of j (4 + i)) (ok.good (4 + i) (omega arith, omega arith))
          (f.counterclockwise (4 + i) (omega arith, omega arith))));
    }

  -- GOOD IS THE CUSTOMER'S GOOD PLAN
  module _ (c : Complete j p) (g : Good (stars_of j) (place_of p)) where
    -- each vertex's rectangle has at least a cell and lies inside the sheet
    ins : (v : ℕ) → Vertex j v → Inside p (rect_of p v)
    unfolding place_of reach
    ins v h =
        let k : Known (stars_of j) (piece v) = known_piece j v h in
        let i : Inside p (rect_of p (number (piece v))) = record {
          wide = omega (arith, g.inside right (piece v) k, g.thick right (piece v) k);
          tall = omega (arith, g.inside up (piece v) k, g.thick up (piece v) k);
          in_width = g.inside right (piece v) k;
          in_height = g.inside up (piece v) k;
        } in
        rw (number_piece v) at i

    -- the frame lies as in ours
    framed : Framed p
    unfolding place_of reach
    framed =
        let s : Shape (place_of p) = g.shape in
        record {
          w_x1 = omega (arith, s.w_left, (ins 1 (omega arith)).wide, (ins 1 (omega arith)).in_width);
          w_y1 = omega (arith, s.w_down, (ins 1 (omega arith)).tall, (ins 1 (omega arith)).in_height);
          w_y2 = s.w_up;
          e_x2 = s.e_right;
          e_y1 = omega (arith, s.e_down, (ins 3 (omega arith)).tall, (ins 3 (omega arith)).in_height);
          e_y2 = s.e_up;
          n_x1 = omega (arith, s.n_left, (ins 0 (omega arith)).wide, (ins 0 (omega arith)).in_width);
          n_x2 = omega (arith, s.n_right, (ins 3 (omega arith)).wide, (ins 3 (omega arith)).in_width);
          n_y2 = s.n_up;
          s_x1 = omega (arith, s.s_left, (ins 2 (omega arith)).wide, (ins 2 (omega arith)).in_width);
          s_x2 = omega (arith, s.s_right, (ins 3 (omega arith)).wide, (ins 3 (omega arith)).in_width);
          s_y1 = omega (arith, s.s_down, (ins 2 (omega arith)).tall, (ins 2 (omega arith)).in_height);
        }

    -- each cell of the sheet lies in the rectangle of exactly one vertex
    one_cell_lem : (x y : ℕ) → x < p.width → y < p.height → ExactlyOne j p x y
    unfolding tile_at
    one_cell_lem x y hx hy =
        let (v, h, n) = g.cover left (tile_at p x y hx hy) in
        record {
          one = number v;
          vertex = known_vertex j v h;
          holds = in_cell j p ins (tile_at p x y hx hy) v n;
          only = λ w hw m. sym (number_piece w) ∙ ap number (g.alone left (tile_at p x y hx hy) (piece w) v (known_piece j w hw) h
              (cell_at j p ins x y w hw hx hy m) n);
        }

    -- no point lies in the rectangles of four different vertices
    none_four : (x y t u v w : ℕ) → Vertex j t → Vertex j u → Vertex j v → Vertex j w → Different t u v w
        → Point (rect_of p t) x y → Point (rect_of p u) x y → Point (rect_of p v) x y → Point (rect_of p w) x y → ⊥
    none_four x y t u v w ht hu hv hw d nt nu nv nw =
        let hx : x ≤ p.width = omega (arith, nt.right, (ins t ht).in_width) in
        let hy : y ≤ p.height = omega (arith, nt.upper, (ins t ht).in_height) in
        corner_four (stars_of j) (place_of p) g.inside g.thick g.alone left (g.corner left) (knot_at p x y hx hy) (piece t) (piece u) (piece v)
        (piece w)
        (known_piece j t ht) (known_piece j u hu) (known_piece j v hv) (known_piece j w hw)
        (point_at j p ins x y t hx hy nt) (point_at j p ins x y u hx hy nu) (point_at j p ins x y v hx hy nv) (point_at j p ins x y w hx hy nw)
        (λ e. d.ab (piece_same t u e)) (λ e. d.ac (piece_same t v e)) (λ e. d.ad (piece_same t w e))
        (λ e. d.bc (piece_same u v e)) (λ e. d.bd (piece_same u w e)) (λ e. d.cd (piece_same v w e))

    -- sharing, and who is joined
    pub shares_joined : (u v : ℕ) → Vertex j u → Vertex j v → Shares (rect_of p u) (rect_of p v) → Joined j u v
    shares_joined u v hu hv s =
        let (k, e) = kind_side s.side s.few in
        rw (number_piece u, number_piece v) at
        (contact_joined j ok k (piece u) (piece v)
        (g.joined k (piece u) (piece v) (known_piece j u hu) (known_piece j v hv)
        (stands_meets j p ins k (piece u) (piece v) (known_piece j u hu) (known_piece j v hv) (rw (e, number_piece u, number_piece v) s.stands))))

    -- who is joined shares at least one cell's length of wall
    joined_shares : (u v : ℕ) → Vertex j u → Vertex j v → Joined j u v → Shares (rect_of p u) (rect_of p v)
    joined_shares u v hu hv n = let (k, m) = joined_contact j ok (piece u) (piece v) (known_piece j u hu) (known_piece j v hv)
        (rw (number_piece u, number_piece v) n) in go k m
      where
        go : (k : Side) → Contact (stars_of j) k (piece u) (piece v) → Shares (rect_of p u) (rect_of p v)
        go k m =
            let s : Stands (num k) (rect_of p (number (piece u))) (rect_of p (number (piece v))) =
            meets_stands j p ins k (piece u) (piece v) (known_piece j u hu) (known_piece j v hv) (g.meets k (piece u) (piece v) (known_piece j u hu)
            (known_piece j v hv) m) in
            record { side = num k; few = few_sides k; stands = rw (number_piece u, number_piece v) at s }

    -- each entry on the side of its kind
    entry_stands : (i : ℕ) → i < length j → (e : Entry) → Memᴰ e (get_or j i []) → Stands e.kind (rect_of p (4 + i)) (rect_of p e.to)
    unfolding stars_of
    entry_stands i h e m =
        let (k, q) = kind_side e.kind (omega (arith, (entry_ok j ok i h e m).small)) in
        let hv : Known (stars_of j) (piece e.to) = known_piece j e.to (entry_ok j ok i h e m).below in
        rw (number_piece e.to, q) at
        (meets_stands j p ins k (room i) (piece e.to) h hv
        (g.meets k (room i) (piece e.to) h hv (entry_mem (get_or j i []) (num k) e m (sym {a = num k} q))))

    -- a room by its place
    at_place : (u : ℕ) → Room j u → (Q : ℕ → Star → Type 0) → ((i : ℕ) → i < length j → Q (4 + i) (get_or j i [])) → Q u (star_of j u)
    at_place u r Q h =
        let e : 4 + (u - 4) ≡ u = omega (arith, r.0) in
        rw (star_room j u r.0) (rw e at (h (u - 4) (omega (arith, r.0, r.1))))

    -- the plan is good for the job, in the customer's words
    pub good_plan : GoodPlan j p
    unfolding stars_of
    good_plan = record {
      framed = framed;
      inside = ins;
      floor = record {
        complete = c;
        cover = one_cell_lem;
        no_four = none_four;
        contacts = λ u v hu hv ne. (shares_joined u v hu hv, joined_shares u v hu hv);
        stands = λ u r. at_place u r (λ u s. (e : Entry) → Memᴰ e s → Stands e.kind (rect_of p u) (rect_of p e.to)) entry_stands;
        counterclockwise = λ u r. order_counterclockwise p (star_of j u) (ok.good u r) (at_place u r (λ u s. InOrder p (straight s))
            (λ i h.
            lists_order p (straight (get_or j i []))
            (λ e m. omega (arith, (entry_ok j ok i h e (restart_mem (restart_back (straight_restarts (get_or j i []))) m)).small))
            (λ k. strict (stars_of j) (place_of p) (lawful j ok) (good_local (stars_of j) (place_of p) (lawful j ok) g) k i h)));
      };
    }
