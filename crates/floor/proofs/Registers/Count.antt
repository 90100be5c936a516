-- There are n + 3 walls: each begins at the lower left corner of one room, but for the last of each direction; and each room's lower left corner is the
-- beginning of one wall, but for the room in the corner, where two begin. Assumes nothing.
use Prim.Native.Nat.{ℕ, zero, suc, ◌+◌, ◌-◌, ◌≤◌, ◌<◌}
use Rattle.std.specs.Prelude.{◌≡◌, ◌⊎◌, Bool, false, not, ◌&&◌}
use Rattle.std.proofs.Math.Path.{refl, sym, ap}
use Rattle.std.proofs.Common.{◌∙◌, inr}
use Rattle.std.proofs.Math.Logic.{inl}
use Rattle.std.proofs.Math.Bool.{true}
use mathlib.Core.List.{List, [], ◌∷◌, map, Memᴰ}
use native.Mathlib.Omega.{arith}
use Rattle.std.proofs.Math.Decide.{dec_lt, ℕ_discrete}
use Rattle.std.proofs.Math.ListN.{length, length-append}
use Rattle.std.proofs.Math.Dec.{ltb, eqb}
use borrow.Author.Tests.{eqb-true, eq-eqb, ne_eqb, lt-ltb, ltb-true}
use Rattle.floor.specs.Lists.{pairwise, sum, up_from}
use Rattle.floor.specs.Lists.Laws.{bit, count}
use Rattle.floor.proofs.Lists.Laws.{no_false, and_parts, and_both, count_nil, count_cons, none_count, mem_all, up_from_mem, mem_up_from}
use Rattle.floor.proofs.Lists.Laws.{length_up_from}
use Rattle.floor.specs.Jobs.{Job, rooms}
use Rattle.floor.specs.Jobs.Facts.{Passes}
use Rattle.floor.specs.Walls.{Rule}
use Rattle.floor.specs.Plans.{Plan, rect_of}
use Rattle.floor.specs.Floor.{Complete, GoodPlan}
use Rattle.floor.proofs.Floor.Inner.{Thin}
use Rattle.floor.specs.Registers.{joins, Stretch, low_side, high_side, wide_of, long_of, Partition, earlier, room_sides, built, starts, end_from, partition}
use Rattle.floor.specs.Registers.{register_of, register}
use Rattle.floor.proofs.Registers.Runs.{View, In, Seen, Edge, Both, both_of, high_edge, low_edge, Run}
use Rattle.floor.proofs.Registers.Floors.{view_of}
use Rattle.floor.proofs.Registers.Right.{walls_mem, mem_walls, lines_order, run_at, built_edge, edge_built, upright_seen, level_seen}
use Rattle.floor.proofs.Registers.Lines.{starts_is, starts_of}
use Rattle.floor.proofs.Registers.Unique.{never_both}
use Rattle.floor.proofs.Registers.Totals.{counted_twice, sum_same, sum_ones, count_one}

-- the sum of two numbers at each member is the sum of the one and the sum of the other
sum_plus : {A : Type 0} (f g : A → ℕ) (xs : List A) → sum (map (λ x. f x + g x) xs) ≡ sum (map f xs) + sum (map g xs)
unfolding sum
sum_plus f g [] = refl
sum_plus f g (x ∷ xs) = omega (arith, sum_plus f g xs)

-- the sum of a test as a number at each member is how many pass
sum_bits : {A : Type 0} (p : A → Bool) (xs : List A) → sum (map (λ x. bit (p x)) xs) ≡ count p xs
unfolding sum
sum_bits p [] = sym (count_nil p)
sum_bits p (x ∷ xs) = omega (arith, count_cons p x xs, sum_bits p xs)

-- numbers in a row stand in strict order
row_order : (u n : ℕ) → pairwise ltb (up_from u n) ≡ true
unfolding pairwise up_from
row_order u zero = refl
row_order u (suc n) =
    and_both _ _ (mem_all (ltb u) (up_from (suc u) n) (λ v m. lt-ltb u v (omega (arith, (mem_up_from (suc u) n v m).0)))) (row_order (suc u) n)

-- of two numbers, not each is less than the other
row_both : (u v : ℕ) → ltb u v ≡ true → ltb v u ≡ true → ⊥
row_both u v a b = omega (arith, ltb-true u v a, ltb-true v u b)

-- ONE DIRECTION
module _ (d : ℕ) (j : Job) (some_room : 0 < length j) (p : Plan) (cm : Complete j p) (f : Seen (view_of (length j + 4) d p) (joins d j)) where
  -- the plan seen in direction d
  abbrev w : View
  w = view_of (length j + 4) d p

  -- the rules that join walls in direction d
  abbrev E : List Rule
  E = joins d j

  -- the sides of the rooms in direction d
  abbrev S : List Stretch
  S = room_sides d p

  -- the register in direction d
  abbrev R : List Partition
  R = register_of d p

  -- the rooms of the job
  abbrev Rooms : List ℕ
  Rooms = rooms j

  -- the walls of the register stand in order
  in_order_lem : pairwise earlier R ≡ true
  unfolding register_of
  in_order_lem = lines_order d S (long_of d p) 0 (wide_of d p)

  -- each wall of the register lies on some line x, and begins at a place b where a wall begins there
  entry : (y : Partition) → Memᴰ y R → (x : ℕ) × (b : ℕ) × (starts S x b ≡ true) × (y ≡ partition d S (long_of d p) x b)
  unfolding register_of
  entry y m = let (x, b, i, t, l, e) = walls_mem d S (long_of d p) (up_from 0 (wide_of d p)) y m in (x, b, t, e)

  -- where a wall begins on a line of the sheet, the wall from there is in the register
  enter : (x b : ℕ) → x < wide_of d p → b < long_of d p → starts S x b ≡ true → Memᴰ (partition d S (long_of d p) x b) R
  unfolding register_of
  enter x b h l t = mem_walls d S (long_of d p) (up_from 0 (wide_of d p)) x b (up_from_mem 0 (wide_of d p) x (omega arith) (omega arith)) t l

  -- the wall begins at the low corner of v
  corner_at : Partition → ℕ → Bool
  corner_at y v = eqb y.number (w.lo v) && eqb y.begins (w.start v)

  -- a wall that begins at the low corner of v lies on the line of v's low side, and begins where v begins
  corner_of : (y : Partition) (v : ℕ) → corner_at y v ≡ true → (y.number ≡ w.lo v) × (y.begins ≡ w.start v)
  unfolding corner_at
  corner_of y v e =
      let (a, b) = and_parts (eqb y.number (w.lo v)) (eqb y.begins (w.start v)) e in
      (eqb-true y.number (w.lo v) a, eqb-true y.begins (w.start v) b)

  -- a wall on the line of v's low side that begins where v begins, begins at the low corner of v
  of_corner : (y : Partition) (v : ℕ) → y.number ≡ w.lo v → y.begins ≡ w.start v → corner_at y v ≡ true
  unfolding corner_at
  of_corner y v a b = and_both _ _ (eq-eqb y.number (w.lo v) a) (eq-eqb y.begins (w.start v) b)

  -- the wall lies on the last line
  is_last : Partition → Bool
  is_last y = eqb (suc y.number) w.wide

  -- each number from 4 to n + 3 is a room
  room_mem : (v : ℕ) → 4 ≤ v → v < length j + 4 → Memᴰ v Rooms
  unfolding rooms
  room_mem v l h = up_from_mem 4 (length j) v l (omega arith)

  -- each room is a number from 4 to n + 3
  mem_room : (v : ℕ) → Memᴰ v Rooms → (4 ≤ v) × (v < length j + 4)
  unfolding rooms
  mem_room v m = let (a, b) = mem_up_from 4 (length j) v m in (a, omega arith)

  -- where no room passes, none is counted
  no_room : (p : ℕ → Bool) → ((v : ℕ) → (4 ≤ v) × (v < length j + 4) → p v ≡ true → ⊥) → count p Rooms ≡ 0
  no_room p h = none_count p Rooms (λ v m. go v m (p v) refl)
    where
      go : (v : ℕ) → Memᴰ v Rooms → (b : Bool) → p v ≡ b → p v ≡ false
      go v m true e = absurd (h v (mem_room v m) e)
      go v m false e = e

  -- where one room passes and no other, one is counted
  one_room : (p : ℕ → Bool) (v : ℕ) → 4 ≤ v → v < length j + 4 → p v ≡ true → ((u : ℕ) → (4 ≤ u) × (u < length j + 4) → p u ≡ true → u ≡ v) → count p Rooms ≡ 1
  unfolding rooms
  one_room p v l h e one = count_one ltb row_both p Rooms (row_order 4 (length j)) v (room_mem v l h) e (λ u m k. one u (mem_room u m) k)

  -- EACH WALL begins at one room's low corner, or lies on the last line
  each_wall : (y : Partition) → Memᴰ y R → count (corner_at y) Rooms + bit (is_last y) ≡ 1
  unfolding is_last
  each_wall y m =
      let (x, b, t, e) = entry y m in
      go x b t (unfold partition in ap (λ (z : Partition). z.number) e) (unfold partition in ap (λ (z : Partition). z.begins) e)
    where
      go : (x b : ℕ) → starts S x b ≡ true → y.number ≡ x → y.begins ≡ b → count (corner_at y) Rooms + bit (eqb (suc y.number) w.wide) ≡ 1
      go x b t ex eb = two (ℕ_discrete (suc y.number) w.wide)
        where
          run : Run w E f x b (end_from S x (long_of d p) b)
          run = run_at d j p cm f x b t

          edge : Edge w E f x b
          edge = run.edges b (omega arith) run.some

          both : Both w E f x b
          both = both_of w E f edge

          lo : 1 ≤ b
          lo = omega (arith, edge.unit.lower, (f.room_along edge.one edge.is_a_room edge.known).0)

          hi : suc b < w.long
          hi = omega (arith, edge.unit.upper, (f.room_along edge.one edge.is_a_room edge.known).1)

          two : Dec (suc y.number ≡ w.wide) → count (corner_at y) Rooms + bit (eqb (suc y.number) w.wide) ≡ 1
          two (yes q) =
              omega (
                arith,
                ap bit (eq-eqb (suc y.number) w.wide q),
                no_room (corner_at y) (λ v r e. let (a, c) = corner_of y v e in
                    omega (arith, (f.room_across v r.0 r.1).1, (f.across v r.1).0)),
              )
          two (no q) =
              omega (
                arith,
                ap bit (ne_eqb (suc y.number) w.wide q),
                one_room (corner_at y) both.v room both.known_v (of_corner y both.v (ex ∙ sym both.line_v) (eb ∙ sym begins))
                    (λ u r e. let (a, c) = corner_of y u e in same u r (sym a ∙ ex) (sym c ∙ eb)),
              )
            where
              room : 4 ≤ both.v
              room = three (dec_lt both.v 4)
                where
                  three : Dec (both.v < 4) → 4 ≤ both.v
                  three (no k) = omega arith
                  three (yes k) = four (f.frame both.v k b both.along_v lo hi)
                    where
                      four : (w.hi both.v ≡ 1) ⊎ (w.lo both.v + 1 ≡ w.wide) → 4 ≤ both.v
                      four (inl z) = absurd (omega (arith, (f.across both.v both.known_v).0, both.line_v, both.inside.0))
                      four (inr z) = absurd (q (omega (arith, both.line_v)))

              begins : w.start both.v ≡ b
              begins = three (dec_lt (w.start both.v) b)
                where
                  three : Dec (w.start both.v < b) → w.start both.v ≡ b
                  three (no k) = omega (arith, both.along_v.lower)
                  three (yes k) =
                      absurd (run.before (b - 1) (omega arith) (record {
                        one = both.v;
                        is_a_room = room;
                        known = both.known_v;
                        at = inl both.line_v;
                        unit = record { lower = omega arith; upper = omega (arith, both.along_v.upper) };
                      }))

              same : (u : ℕ) → (4 ≤ u) × (u < length j + 4) → w.lo u ≡ x → w.start u ≡ b → u ≡ both.v
              same u r a c =
                  f.once x b u both.v r.1 both.known_v
                  (record {
                    left = omega arith;
                    right = omega (arith, (f.across u r.1).0);
                    unit = record { lower = omega arith; upper = omega (arith, (f.lengthwise u r.1).0) };
                  })
                  (record {
                    left = omega (arith, both.line_v);
                    right = omega (arith, both.line_v, (f.across both.v both.known_v).0);
                    unit = both.along_v;
                  })

  -- EACH ROOM's low corner is the beginning of one wall, or of none
  each_room : (v : ℕ) → (4 ≤ v) × (v < length j + 4) → count (λ y. corner_at y v) R ≡ bit (starts S (w.lo v) (w.start v))
  each_room v r = go (starts S (w.lo v) (w.start v)) refl
    where
      across : (1 ≤ w.lo v) × (w.hi v < w.wide)
      across = f.room_across v r.0 r.1

      go : (t : Bool) → starts S (w.lo v) (w.start v) ≡ t → count (λ y. corner_at y v) R ≡ bit (starts S (w.lo v) (w.start v))
      go false e = none_count (λ y. corner_at y v) R (λ y m. three y m (corner_at y v) refl) ∙ sym (ap bit e)
        where
          three : (y : Partition) → Memᴰ y R → (b : Bool) → corner_at y v ≡ b → corner_at y v ≡ false
          three y m false h = h
          three y m true h =
              let (x, b, t, g) = entry y m in
              let (a, c) = corner_of y v h in
              absurd (four x b t (unfold partition in (sym (ap (λ (z : Partition). z.number) g) ∙ a))
              (unfold partition in (sym (ap (λ (z : Partition). z.begins) g) ∙ c)))
            where
              four : (x b : ℕ) → starts S x b ≡ true → x ≡ w.lo v → b ≡ w.start v → ⊥
              four x b t a c = no_false (sym e ∙ rw (a, c) at t)
      go true e =
          count_one earlier never_both (λ y. corner_at y v) R in_order_lem (partition d S (long_of d p) (w.lo v) (w.start v))
          (enter (w.lo v) (w.start v) (omega (arith, across.1, (f.across v r.1).0))
          (omega (arith, (f.lengthwise v r.1).0, (f.lengthwise v r.1).1)) e)
          (unfold partition in of_corner (partition d S (long_of d p) (w.lo v) (w.start v)) v refl refl)
          (λ y m h. let (x, b, t, g) = entry y m in let (a, c) = corner_of y v h in same y x b g a c)
          ∙ sym (ap bit e)
        where
          same : (y : Partition) (x b : ℕ) → y ≡ partition d S (long_of d p) x b → y.number ≡ w.lo v → y.begins ≡ w.start v
              → y ≡ partition d S (long_of d p) (w.lo v) (w.start v)
          same y x b g a c =
              let ex : x ≡ w.lo v = unfold partition in (sym (ap (λ (z : Partition). z.number) g) ∙ a) in
              let eb : b ≡ w.start v = unfold partition in (sym (ap (λ (z : Partition). z.begins) g) ∙ c) in
              g ∙ ap (λ (n : ℕ). partition d S (long_of d p) n b) ex ∙ ap (λ (n : ℕ). partition d S (long_of d p) (w.lo v) n) eb

  -- on the last line, a room has a side along each unit inside the frame
  last_edge : (x c : ℕ) → suc x ≡ w.wide → 1 ≤ c → suc c < w.long → Edge w E f x c
  last_edge x c e l h =
      let (v, hv, n) = f.cover x c (omega arith) (omega arith) in
      low_edge w E f x c v hv (line v hv n) (omega (arith, f.three)) n.unit l h
    where
      line : (v : ℕ) → v < w.count → In w v x c → w.lo v ≡ x
      line v hv n = go (dec_lt v 4)
        where
          go : Dec (v < 4) → w.lo v ≡ x
          go (no k) = absurd (omega (arith, n.right, (f.room_across v (omega arith) hv).1))
          go (yes k) = three (f.frame v k c n.unit l h)
            where
              three : (w.hi v ≡ 1) ⊎ (w.lo v + 1 ≡ w.wide) → w.lo v ≡ x
              three (inl z) = absurd (omega (arith, n.right, f.three))
              three (inr z) = omega arith

  -- no room has a side along the first unit of a line
  nothing_first : (x : ℕ) → Edge w E f x 0 → ⊥
  nothing_first x e = omega (arith, e.unit.lower, (f.room_along e.one e.is_a_room e.known).0)

  -- along direction d the sheet is at least three cells long
  pub long_three : 3 ≤ w.long
  long_three = let (a, b) = f.room_along 4 (omega arith) (omega arith) in omega (arith, (f.lengthwise 4 (omega arith)).0)

  -- ON THE LAST LINE there is one wall
  last_one : count is_last R ≡ 1
  unfolding is_last
  last_one = go (w.wide - 1) (omega (arith, f.three))
    where
      go : (x : ℕ) → suc x ≡ w.wide → count (λ y. eqb (suc y.number) w.wide) R ≡ 1
      go x e =
          count_one earlier never_both (λ y. eqb (suc y.number) w.wide) R in_order_lem (partition d S (long_of d p) x 1)
          (enter x 1 (omega arith) (omega (arith, long_three)) begin)
          (unfold partition in eq-eqb (suc x) w.wide e)
          (λ y m h. let (z, b, t, g) = entry y m in same y z b t g (eqb-true (suc y.number) w.wide h))
        where
          begin : starts S x 1 ≡ true
          begin = starts_is S x 1 (edge_built d j p cm f x 1 (last_edge x 1 e (omega arith) (omega (arith, long_three))))
              (λ c q h. nothing_first x (rw (let z : c ≡ 0 = omega arith in z) at (built_edge d j p cm f x c h)))

          same : (y : Partition) (z b : ℕ) → starts S z b ≡ true → y ≡ partition d S (long_of d p) z b → suc y.number ≡ w.wide
              → y ≡ partition d S (long_of d p) x 1
          same y z b t g h =
              let q : y.number ≡ z = unfold partition in ap (λ (z : Partition). z.number) g in
              let ez : z ≡ x = omega arith in
              g ∙ ap (λ (n : ℕ). partition d S (long_of d p) n b) ez ∙ ap (λ (n : ℕ). partition d S (long_of d p) x n) (one z b t ez)
            where
              one : (z b : ℕ) → starts S z b ≡ true → z ≡ x → b ≡ 1
              one z b t ez = three (ℕ_discrete b 1)
                where
                  at : (built S z b ≡ true) × ((c : ℕ) → suc c ≡ b → built S z c ≡ true → ⊥)
                  at = starts_of S z b t

                  edge : Edge w E f z b
                  edge = built_edge d j p cm f z b at.0

                  three : Dec (b ≡ 1) → b ≡ 1
                  three (yes k) = k
                  three (no k) =
                      let (lo, hi) = f.room_along edge.one edge.is_a_room edge.known in
                      absurd (at.1 (b - 1) (omega (arith, edge.unit.lower)) (edge_built d j p cm f z (b - 1)
                      (last_edge z (b - 1) (omega arith) (omega (arith, edge.unit.lower)) (omega (arith, edge.unit.upper)))))

  -- AS MANY WALLS as rooms at whose low corner one begins, and one more
  pub walls_count : length R ≡ sum (map (λ v. bit (starts S (w.lo v) (w.start v))) Rooms) + 1
  walls_count =
      omega (
        arith,
        sum_ones (λ y. count (corner_at y) Rooms + bit (is_last y)) R each_wall,
        sum_plus (λ y. count (corner_at y) Rooms) (λ y. bit (is_last y)) R,
        sum_bits is_last R,
        last_one,
        counted_twice corner_at R Rooms,
        sum_same (λ v. count (λ y. corner_at y v) R) (λ v. bit (starts S (w.lo v) (w.start v))) Rooms (λ v m. each_room v (mem_room v m)),
      )

-- TWO DIRECTIONS of one floor: across in the one is along in the other
pub record Crossed (w z : View) : Type 0 where
  pub count : z.count ≡ w.count
  pub wide : z.wide ≡ w.long
  pub long : z.long ≡ w.wide
  pub lo : (v : ℕ) → z.lo v ≡ w.start v
  pub hi : (v : ℕ) → z.hi v ≡ w.stop v
  pub start : (v : ℕ) → z.start v ≡ w.lo v
  pub stop : (v : ℕ) → z.stop v ≡ w.hi v

module _ (w z : View) (D E : List Rule) (f : Seen w D) (g : Seen z E) (k : Crossed w z) where
  -- at the low corner of a room not both walls go on beyond: else four would meet
  not_both : (v : ℕ) → 4 ≤ v → v < w.count → Edge w D f (w.lo v) (w.start v - 1) → Edge z E g (w.start v) (w.lo v - 1) → ⊥
  not_both v l h a b =
      f.no_four (w.lo v) (w.start v) v s.v s.u t.v h s.known_v s.known_u (omega (arith, t.known_v, k.count))
      (record {
        ab = λ e. omega (arith, s.along_v.lower, ap w.start e, r.0);
        ac = λ e. omega (arith, s.line_u, (f.across v h).0, ap w.hi e);
        ad = λ e. omega (arith, t.along_v.lower, k.start t.v, ap w.lo e, q.0);
        bc = λ e. omega (arith, s.line_v, s.line_u, (f.across s.u s.known_u).0, ap w.lo e);
        bd = λ e. omega (arith, s.line_v, t.along_v.lower, k.start t.v, ap w.lo e, q.0);
        cd = λ e. omega (arith, s.along_u.lower, t.line_v, k.lo t.v, ap w.start e, r.0);
      })
      (record { left = omega arith; right = omega (arith, (f.across v h).0); lower = omega arith; upper = omega (arith, (f.lengthwise v h).0) })
      (record {
        left = omega (arith, s.line_v);
        right = omega (arith, s.line_v, (f.across s.v s.known_v).0);
        lower = omega (arith, s.along_v.lower);
        upper = omega (arith, s.along_v.upper);
      })
      (record {
        left = omega (arith, s.line_u, (f.across s.u s.known_u).0);
        right = omega (arith, s.line_u);
        lower = omega (arith, s.along_u.lower);
        upper = omega (arith, s.along_u.upper);
      })
      (record {
        left = omega (arith, t.along_v.lower, k.start t.v);
        right = omega (arith, t.along_v.upper, k.stop t.v);
        lower = omega (arith, t.line_v, k.lo t.v);
        upper = omega (arith, t.line_v, k.lo t.v, k.hi t.v, (g.across t.v t.known_v).0);
      })
    where
      q : (1 ≤ w.lo v) × (w.hi v < w.wide)
      q = f.room_across v l h

      r : (1 ≤ w.start v) × (w.stop v < w.long)
      r = f.room_along v l h

      s : Both w D f (w.lo v) (w.start v - 1)
      s = both_of w D f a

      t : Both z E g (w.start v) (w.lo v - 1)
      t = both_of z E g b

  -- and where neither does, the room lies at the first line
  not_neither : (v : ℕ) → 4 ≤ v → v < w.count → 2 ≤ w.start v → (Edge w D f (w.lo v) (w.start v - 1) → ⊥)
      → (Edge z E g (w.start v) (w.lo v - 1) → ⊥) → ⊥
  not_neither v l h two a b =
      let (u, hu, n) = f.cover (w.lo v) (w.start v - 1) (omega (arith, q.1, (f.across v h).0)) (omega (arith, r.1, (f.lengthwise v h).0)) in
      go u hu n (ℕ_discrete (w.lo u) (w.lo v))
    where
      q : (1 ≤ w.lo v) × (w.hi v < w.wide)
      q = f.room_across v l h

      r : (1 ≤ w.start v) × (w.stop v < w.long)
      r = f.room_along v l h

      inner : suc (w.start v - 1) < w.long
      inner = omega (arith, r.1, (f.lengthwise v h).0)

      go : (u : ℕ) → u < w.count → In w u (w.lo v) (w.start v - 1) → Dec (w.lo u ≡ w.lo v) → ⊥
      go u hu n (yes e) = a (low_edge w D f (w.lo v) (w.start v - 1) u hu e q.0 n.unit (omega arith) inner)
      go u hu n (no e) = three (dec_lt 1 (w.lo v))
        where
          -- it ends where v begins
          top : w.stop u ≡ w.start v
          top = four (dec_lt (w.start v) (w.stop u))
            where
              four : Dec (w.start v < w.stop u) → w.stop u ≡ w.start v
              four (no i) = omega (arith, n.unit.upper)
              four (yes i) =
                  let x : u ≡ v = f.once (w.lo v) (w.start v) u v hu h
                  (record { left = n.left; right = n.right; unit = record { lower = omega (arith, n.unit.lower); upper = i } })
                  (record { left = omega arith; right = (f.across v h).0; unit = record { lower = omega arith; upper = (f.lengthwise v h).0 } }) in
                  absurd (e (ap w.lo x))

          three : Dec (1 < w.lo v) → ⊥
          three (yes i) =
              b (high_edge z E g (w.start v) (w.lo v - 1) u (omega (arith, k.count)) (k.hi u ∙ top) (omega (arith, k.wide, r.1, (f.lengthwise v h).0))
              (record { lower = omega (arith, k.start u, n.left); upper = omega (arith, k.stop u, n.right) }) (omega arith)
              (omega (arith, k.long, q.1, (f.across v h).0)))
          three (no i) = four (dec_lt u 4)
            where
              four : Dec (u < 4) → ⊥
              four (no c) = omega (arith, (f.room_across u (omega arith) hu).0, n.left)
              four (yes c) = five (f.frame u c (w.start v - 1) n.unit (omega arith) inner)
                where
                  five : (w.hi u ≡ 1) ⊎ (w.lo u + 1 ≡ w.wide) → ⊥
                  five (inl x) = omega (arith, n.right, q.0)
                  five (inr x) = omega (arith, n.left, f.three)

-- a wall begins at a room's low corner, unless it goes on beyond
module _ (d : ℕ) (j : Job) (some_room : 0 < length j) (p : Plan) (cm : Complete j p) (f : Seen (view_of (length j + 4) d p) (joins d j)) where
  -- the line of v's low side
  abbrev view_lo : ℕ → ℕ
  view_lo v = (low_side d (rect_of p v)).line

  -- where v's low side begins
  abbrev view_start : ℕ → ℕ
  view_start v = (low_side d (rect_of p v)).begins

  -- at a room's low corner a wall begins on the line of its low side exactly if the unit up to the corner is not built
  starts_low : (v : ℕ) → 4 ≤ v → v < length j + 4
      → starts (room_sides d p) (view_lo v) (view_start v) ≡ not (built (room_sides d p) (view_lo v) (view_start v - 1))
  starts_low v l h = go (view_start v - 1) (omega (arith, (f.room_along v l h).0))
    where
      go : (c : ℕ) → view_start v ≡ suc c → starts (room_sides d p) (view_lo v) (view_start v) ≡ not (built (room_sides d p) (view_lo v) c)
      go c e = rw e (unfold starts in (rw here refl))
        where
          here : built (room_sides d p) (view_lo v) (suc c) ≡ true
          here = edge_built d j p cm f (view_lo v) (suc c) (record {
            one = v;
            is_a_room = l;
            known = h;
            at = inl refl;
            unit = record { lower = omega arith; upper = omega (arith, (f.lengthwise v h).0) };
          })

-- OF A HELD PLAN
module _ (j : Job) (ok : Passes j) (some_room : 0 < length j) (p : Plan) (gp : GoodPlan j p) (thin : Thin p) where
  -- the plan seen upright
  abbrev uprights : View
  uprights = view_of (length j + 4) 0 p

  -- the plan seen level
  abbrev levels : View
  levels = view_of (length j + 4) 1 p

  -- the plan is seen upright, with the rules that join upright walls
  f : Seen uprights (joins 0 j)
  f = upright_seen j ok some_room p gp thin

  -- the plan is seen level, with the rules that join level walls
  g : Seen levels (joins 1 j)
  g = level_seen j ok some_room p gp thin

  -- what is across upright is along level, and what is along upright is across level
  forth : Crossed uprights levels
  unfolding low_side high_side wide_of long_of
  forth = record { count = refl; wide = refl; long = refl; lo = λ v. refl; hi = λ v. refl; start = λ v. refl; stop = λ v. refl }

  -- what is across level is along upright, and what is along level is across upright
  back : Crossed levels uprights
  unfolding low_side high_side wide_of long_of
  back = record { count = refl; wide = refl; long = refl; lo = λ v. refl; hi = λ v. refl; start = λ v. refl; stop = λ v. refl }

  -- v is in the lower left corner inside the frame: it begins at 1 in both directions
  in_corner : ℕ → Bool
  in_corner v = eqb (uprights.lo v) 1 && eqb (uprights.start v) 1

  -- a vertex found in the corner begins at 1 in both directions
  corner_is : (v : ℕ) → in_corner v ≡ true → (uprights.lo v ≡ 1) × (uprights.start v ≡ 1)
  unfolding in_corner
  corner_is v e =
      let (a, b) = and_parts (eqb (uprights.lo v) 1) (eqb (uprights.start v) 1) e in
      (eqb-true (uprights.lo v) 1 a, eqb-true (uprights.start v) 1 b)

  -- a vertex that begins at 1 in both directions is found in the corner
  is_corner : (v : ℕ) → uprights.lo v ≡ 1 → uprights.start v ≡ 1 → in_corner v ≡ true
  unfolding in_corner
  is_corner v a b = and_both _ _ (eq-eqb (uprights.lo v) 1 a) (eq-eqb (uprights.start v) 1 b)

  -- the upright line of v's left side is built just below v's lower left corner
  abbrev goes_down : ℕ → Bool
  goes_down v = built (room_sides 0 p) (uprights.lo v) (uprights.start v - 1)

  -- the level line of v's lower side is built just left of v's lower left corner
  abbrev goes_left : ℕ → Bool
  goes_left v = built (room_sides 1 p) (levels.lo v) (levels.start v - 1)

  -- AT EACH ROOM's lower left corner one wall begins; two at the room in the corner
  one_begins : (v : ℕ) → (4 ≤ v) × (v < length j + 4)
      → bit (starts (room_sides 0 p) (uprights.lo v) (uprights.start v)) + bit (starts (room_sides 1 p) (levels.lo v) (levels.start v)) ≡ 1 + bit (in_corner v)
  one_begins v r =
      rw (starts_low 0 j some_room p gp.floor.complete f v r.0 r.1, starts_low 1 j some_room p gp.floor.complete g v r.0 r.1)
      (go (goes_down v) refl (goes_left v) refl)
    where
      down : goes_down v ≡ true → Edge uprights (joins 0 j) f (uprights.lo v) (uprights.start v - 1)
      down e = built_edge 0 j p gp.floor.complete f (uprights.lo v) (uprights.start v - 1) e

      left : goes_left v ≡ true → Edge levels (joins 1 j) g (levels.lo v) (levels.start v - 1)
      left e = built_edge 1 j p gp.floor.complete g (levels.lo v) (levels.start v - 1) e

      no_down : goes_down v ≡ false → Edge uprights (joins 0 j) f (uprights.lo v) (uprights.start v - 1) → ⊥
      no_down e k = no_false (sym e ∙ edge_built 0 j p gp.floor.complete f (uprights.lo v) (uprights.start v - 1) k)

      no_left : goes_left v ≡ false → Edge levels (joins 1 j) g (levels.lo v) (levels.start v - 1) → ⊥
      no_left e k = no_false (sym e ∙ edge_built 1 j p gp.floor.complete g (levels.lo v) (levels.start v - 1) k)

      not_corner : ((uprights.lo v ≡ 1) × (uprights.start v ≡ 1) → ⊥) → in_corner v ≡ false
      not_corner h = two (in_corner v) refl
        where
          two : (b : Bool) → in_corner v ≡ b → in_corner v ≡ false
          two true e = absurd (h (corner_is v e))
          two false e = e

      go : (a : Bool) → goes_down v ≡ a → (b : Bool) → goes_left v ≡ b → bit (not (goes_down v)) + bit (not (goes_left v)) ≡ 1 + bit (in_corner v)
      go true e true h = absurd (not_both uprights levels (joins 0 j) (joins 1 j) f g forth v r.0 r.1 (down e) (cross (left h)))
        where
          cross : Edge levels (joins 1 j) g (levels.lo v) (levels.start v - 1)
              → Edge levels (joins 1 j) g (uprights.start v) (uprights.lo v - 1)
          cross k = rw (forth.lo v, forth.start v) at k
      go true e false h =
          omega (arith, ap (λ b. bit (not b)) e, ap (λ b. bit (not b)) h, ap bit (not_corner (λ c. first (down e) c)))
        where
          first : Edge uprights (joins 0 j) f (uprights.lo v) (uprights.start v - 1) → (uprights.lo v ≡ 1) × (uprights.start v ≡ 1) → ⊥
          first k c = omega (arith, k.unit.lower, c.1, (f.room_along k.one k.is_a_room k.known).0)
      go false e true h =
          omega (arith, ap (λ b. bit (not b)) e, ap (λ b. bit (not b)) h, ap bit (not_corner (λ c. first (left h) c)))
        where
          first : Edge levels (joins 1 j) g (levels.lo v) (levels.start v - 1) → (uprights.lo v ≡ 1) × (uprights.start v ≡ 1) → ⊥
          first k c = omega (arith, k.unit.lower, c.0, forth.start v, (g.room_along k.one k.is_a_room k.known).0)
      go false e false h =
          omega (arith, ap (λ b. bit (not b)) e, ap (λ b. bit (not b)) h, ap bit (is_corner v lo_one start_one))
        where
          start_one : uprights.start v ≡ 1
          start_one = two (dec_lt 1 (uprights.start v))
            where
              two : Dec (1 < uprights.start v) → uprights.start v ≡ 1
              two (no k) = omega (arith, (f.room_along v r.0 r.1).0)
              two (yes k) =
                  absurd (not_neither uprights levels (joins 0 j) (joins 1 j) f g forth v r.0 r.1 k (no_down e)
                  (λ x. no_left h (rw (forth.lo v, forth.start v) x)))

          lo_one : uprights.lo v ≡ 1
          lo_one = two (dec_lt 1 (uprights.lo v))
            where
              two : Dec (1 < uprights.lo v) → uprights.lo v ≡ 1
              two (no k) = omega (arith, (f.room_across v r.0 r.1).0)
              two (yes k) =
                  absurd (not_neither levels uprights (joins 1 j) (joins 0 j) g f back v r.0 r.1
                  (omega (arith, forth.start v)) (no_left h)
                  (λ x. no_down e (rw (back.lo v, back.start v) x)))

  -- one room lies in the corner
  corner_one : count in_corner (rooms j) ≡ 1
  corner_one =
      let (v, hv, n) = f.cover 1 1 (omega (arith, f.three)) (omega (arith, long_three 0 j some_room p gp.floor.complete f)) in
      go v hv n (dec_lt v 4)
    where
      go : (v : ℕ) → v < length j + 4 → In uprights v 1 1 → Dec (v < 4) → count in_corner (rooms j) ≡ 1
      go v hv n (yes l) =
          two (f.frame v l 1 n.unit (omega arith) (omega (arith, long_three 0 j some_room p gp.floor.complete f)))
        where
          two : (uprights.hi v ≡ 1) ⊎ (uprights.lo v + 1 ≡ uprights.wide) → count in_corner (rooms j) ≡ 1
          two (inl e) = absurd (omega (arith, n.right))
          two (inr e) = absurd (omega (arith, n.left, f.three))
      go v hv n (no l) =
          one_room 0 j some_room p gp.floor.complete f in_corner v (omega arith) hv
          (is_corner v (omega (arith, n.left, (f.room_across v (omega arith) hv).0)) (omega (arith, n.unit.lower, (f.room_along v (omega arith) hv).0)))
          (λ u r e. let (a, b) = corner_is u e in f.once 1 1 u v r.1 hv
          (record {
            left = omega arith;
            right = omega (arith, (f.across u r.1).0);
            unit = record { lower = omega arith; upper = omega (arith, (f.lengthwise u r.1).0) };
          }) n)

  -- N + 3 WALLS
  pub walls_exactly : length (register p) ≡ length j + 3
  unfolding register
  walls_exactly =
      omega (
        arith,
        length-append (register_of 0 p) (register_of 1 p),
        walls_count 0 j some_room p gp.floor.complete f,
        walls_count 1 j some_room p gp.floor.complete g,
        sum_plus (λ v. bit (starts (room_sides 0 p) (uprights.lo v) (uprights.start v)))
            (λ v. bit (starts (room_sides 1 p) (levels.lo v) (levels.start v))) (rooms j),
        sum_same (λ v. bit (starts (room_sides 0 p) (uprights.lo v) (uprights.start v)) + bit (starts (room_sides 1 p) (levels.lo v) (levels.start v)))
            (λ v. 1 + bit (in_corner v)) (rooms j) (λ v m. one_begins v (mem_room 0 j some_room p gp.floor.complete f v m)),
        sum_plus (λ (v : ℕ). 1) (λ v. bit (in_corner v)) (rooms j),
        sum_ones (λ (v : ℕ). 1) (rooms j) (λ v m. refl),
        sum_bits in_corner (rooms j),
        corner_one,
        many,
      )
    where
      many : length (rooms j) ≡ length j
      many = unfold rooms in length_up_from 4 (length j)
