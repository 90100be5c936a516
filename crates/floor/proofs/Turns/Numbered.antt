-- A contact turned in a good plan: the turned labelling has its numbers, for whole numbers can be put on its walls. Assumes nothing.
use Rattle.std.specs.Prelude.{ℕ, ◌+◌, ◌≤◌, ◌<◌, max, suc, ◌≡◌, length, get_or}
use Rattle.std.proofs.Common.{sym, ◌∙◌, inl, inr}
use mathlib.Core.List.{[], Memᴰ}
use native.Mathlib.Omega.{arith}
use Rattle.floor.specs.Jobs.{Entry, Job, Room, Vertex, star_of, Size, Sizes}
use Rattle.floor.specs.Jobs.Facts.{Passes}
use Rattle.floor.proofs.Jobs.Facts.{star_at}
use Rattle.floor.specs.Walls.{Holds, Axis, low, extra}
use Rattle.floor.proofs.Walls.Rules.{Asks, Obeys, sided, sided_low, sided_same, sided_before}
use Rattle.floor.specs.Plans.{Plan, rect_of}
use Rattle.floor.specs.Floor.{Stands, GoodPlan, Roomy}
use Rattle.floor.proofs.Floor.Bridge.{once}
use Rattle.floor.proofs.Turns.Turned.{Entered, new_a, new_b, old, entered_swap}
use Rattle.floor.proofs.Turns.Shift.{View, transposed, mirrored, Beside, Upon, Passing, Splits, Merges, splits, merges, splits_far, merges_far}

-- A PLAN AS A VIEW: to the right, and up
module _ (j : Job) (ok : Passes j) (p : Plan) (gp : GoodPlan j p) where
  -- a good plan's rectangles, seen first to the right and then up
  unfoldable pub view_of : View (length j + 4)
  view_of = record {
    x1 = λ r. (rect_of p r).x1;
    x2 = λ r. (rect_of p r).x2;
    y1 = λ r. (rect_of p r).y1;
    y2 = λ r. (rect_of p r).y2;
    width = p.width;
    height = p.height;
    wide = λ r h. (gp.inside r h).wide;
    tall = λ r h. (gp.inside r h).tall;
    in_width = λ r h. (gp.inside r h).in_width;
    in_height = λ r h. (gp.inside r h).in_height;
    apart = λ r t hr ht ne a b c d. ne (once j ok p gp (max (rect_of p r).x1 (rect_of p t).x1) (max (rect_of p r).y1 (rect_of p t).y1) r t hr ht
        (record {
          left = omega arith;
          right = omega (arith, (gp.inside r hr).wide);
          lower = omega arith;
          upper = omega (arith, (gp.inside r hr).tall);
        })
        (record {
          left = omega arith;
          right = omega (arith, (gp.inside t ht).wide);
          lower = omega arith;
          upper = omega (arith, (gp.inside t ht).tall);
        }));
  }

-- the kinds of a view's four sides: ahead and back in its first direction, ahead and back in its second; and which least size is told in which
pub record Kinds : Type 0 where
  pub ahead : ℕ
  pub back : ℕ
  pub over : ℕ
  pub under : ℕ
  pub ahead_back : ahead ≡ back → ⊥
  pub ahead_over : ahead ≡ over → ⊥
  pub ahead_under : ahead ≡ under → ⊥
  pub back_over : back ≡ over → ⊥
  pub back_under : back ≡ under → ⊥
  pub least_first : Size → ℕ
  pub least_second : Size → ℕ

-- the walls across its first direction, and across its second
abbrev pub first_axis : Kinds → Axis
first_axis k = record { far = k.ahead; near = k.back; cross = k.over; least = k.least_first }

-- the walls across a view's second direction: over and under join, ahead orders
abbrev pub second_axis : Kinds → Axis
second_axis k = record { far = k.over; near = k.under; cross = k.ahead; least = k.least_second }

-- every contact of the job is met on its side
pub record Sees (j : Job) (s : View (length j + 4)) (k : Kinds) : Type 0 where
  pub is_ahead : (w : ℕ) → Room j w → (e : Entry) → Memᴰ e (star_of j w) → e.kind ≡ k.ahead → Beside s w e.to
  pub is_back : (w : ℕ) → Room j w → (e : Entry) → Memᴰ e (star_of j w) → e.kind ≡ k.back → Beside s e.to w
  pub is_over : (w : ℕ) → Room j w → (e : Entry) → Memᴰ e (star_of j w) → e.kind ≡ k.over → Upon s w e.to
  pub is_under : (w : ℕ) → Room j w → (e : Entry) → Memᴰ e (star_of j w) → e.kind ≡ k.under → Upon s e.to w

-- every room has its least size
pub record Fitted (n : ℕ) (z : Sizes) (s : View (n + 4)) (k : Kinds) : Type 0 where
  pub in_first : (r : ℕ) → r < n → s.x1 (4 + r) + suc (extra (first_axis k) z (4 + r)) ≤ s.x2 (4 + r)
  pub in_second : (r : ℕ) → r < n → s.y1 (4 + r) + suc (extra (second_axis k) z (4 + r)) ≤ s.y2 (4 + r)

-- THE TURNED LABELLING i, where the contact of q and o now lies in the first direction, q before o
module _ (j : Job) (z : Sizes) (ok : Passes j) (i : Job) (long : length i ≡ length j) (s : View (length j + 4)) (k : Kinds) (sees : Sees j s k)
    (large : Fitted (length j) z s k) (q o : ℕ) (room_q : Room j q) (room_o : Room j o)
    (entered : (w : ℕ) (e : Entry) → Memᴰ e (star_of i w) → Entered j q o k.ahead k.back w e) where
  -- what every entry asks
  asks_of : (P : Entry → ℕ → Type 0) → ((w : ℕ) → Room j w → (e : Entry) → Vertex j e.to → Entered j q o k.ahead k.back w e → P e w)
      → (r : ℕ) → r < length i → (e : Entry) → Memᴰ e (get_or i r []) → P e (4 + r)
  asks_of P f r h e m = f (4 + r) (omega arith, omega arith) e (known x) x
    where
      x : Entered j q o k.ahead k.back (4 + r) e
      x = entered (4 + r) e (rw (star_at i r) m)

      known : Entered j q o k.ahead k.back (4 + r) e → Vertex j e.to
      known (new_a a b c) = rw b room_o.1
      known (new_b a b c) = rw b room_q.1
      known (old m a b) = (ok.entries (4 + r) (omega arith, omega arith) e m).below

  -- walls across the first direction: the two ends come together
  merge_obeys : (g : Merges s q o) → Obeys (first_axis k) (sided g.lo g.hi) i z
  merge_obeys g = record {
    own = λ r h.
        sided_before g.lo g.hi (4 + r) (4 + r) (extra (first_axis k) z (4 + r))
        (g.own (4 + r) (extra (first_axis k) z (4 + r)) (large.in_first r (omega arith)));
    each = asks_of (λ e w. Asks (Holds (sided g.lo g.hi)) (first_axis k) w e) each;
  }
    where
      each : (w : ℕ) → Room j w → (e : Entry) → Vertex j e.to → Entered j q o k.ahead k.back w e
          → Asks (Holds (sided g.lo g.hi)) (first_axis k) w e
      each w room_w e h (new_a a b c) = record {
        if_far = λ z. rw (a, b) (sided_same g.lo g.hi q o g.meets);
        if_near = λ z. absurd (k.ahead_back (sym c ∙ z));
        if_cross = λ z l. absurd (k.ahead_over (sym c ∙ z));
      }
      each w room_w e h (new_b a b c) = record {
        if_far = λ z. absurd (k.ahead_back (sym z ∙ c));
        if_near = λ z. rw (a, b) (sided_same g.lo g.hi q o g.meets);
        if_cross = λ z l. absurd (k.back_over (sym c ∙ z));
      }
      each w room_w e h (old m a b) = record {
        if_far = λ z. sided_same g.lo g.hi w e.to (g.stays w e.to room_w.1 h (sees.is_ahead w room_w e m z));
        if_near = λ z. sided_same g.lo g.hi e.to w (g.stays e.to w h room_w.1 (sees.is_back w room_w e m z));
        if_cross = λ z l.
            let x : Upon s w e.to = sees.is_over w room_w e m z in (
              sided_before g.lo g.hi w e.to 0 (g.rises w e.to 0 room_w.1 h (omega (arith, x.1)) (inl x) a b),
              sided_before g.lo g.hi e.to w 0
                  (g.rises e.to w 0 h room_w.1 (omega (arith, x.2)) (inr x) (λ c d. b d c) (λ c d. a d c)),
            );
      }

  -- walls across the second: the line comes apart
  split_obeys : (u v : ℕ) (g : Splits s u v 1) → ((r t : ℕ) → (r ≡ q → t ≡ o → ⊥) → (r ≡ o → t ≡ q → ⊥) → r ≡ u → t ≡ v → ⊥)
      → g.lo q + 1 ≤ g.hi o → g.lo o + 1 ≤ g.hi q → Obeys (second_axis k) (sided g.lo g.hi) i z
  split_obeys u v g other one two = record {
    own = λ r h.
        sided_before g.lo g.hi (4 + r) (4 + r) (extra (second_axis k) z (4 + r))
        (g.rises (4 + r) (4 + r) (extra (second_axis k) z (4 + r)) (large.in_second r (omega arith)));
    each = asks_of (λ e w. Asks (Holds (sided g.lo g.hi)) (second_axis k) w e) each;
  }
    where
      each : (w : ℕ) → Room j w → (e : Entry) → Vertex j e.to → Entered j q o k.ahead k.back w e
          → Asks (Holds (sided g.lo g.hi)) (second_axis k) w e
      each w room_w e h (new_a a b c) = record {
        if_far = λ z. absurd (k.ahead_over (sym c ∙ z));
        if_near = λ z. absurd (k.ahead_under (sym c ∙ z));
        if_cross = λ z l. rw (a, b) (sided_before g.lo g.hi q o 0 one, sided_before g.lo g.hi o q 0 two);
      }
      each w room_w e h (new_b a b c) = record {
        if_far = λ z. absurd (k.back_over (sym c ∙ z));
        if_near = λ z. absurd (k.back_under (sym c ∙ z));
        if_cross = λ z l. absurd (k.ahead_back (sym z ∙ c));
      }
      each w room_w e h (old m a b) = record {
        if_far = λ z. sided_same g.lo g.hi w e.to (g.stays w e.to room_w.1 h (sees.is_over w room_w e m z) (other w e.to a b));
        if_near = λ z.
            sided_same g.lo g.hi e.to w
            (g.stays e.to w h room_w.1 (sees.is_under w room_w e m z) (other e.to w (λ c d. b d c) (λ c d. a d c)));
        if_cross = λ z l.
            let x : Beside s w e.to = sees.is_ahead w room_w e m z in (
              sided_before g.lo g.hi w e.to 0 (g.rises w e.to 0 (omega (arith, x.1))),
              sided_before g.lo g.hi e.to w 0 (g.rises e.to w 0 (omega (arith, x.2))),
            );
      }

-- numbers that obey, in both directions; in the second nothing goes further than 1
pub record Both {n : ℕ} (i : Job) (z : Sizes) (s : View n) (first second : Axis) : Type 0 where
  pub xs : ℕ → ℕ
  pub ys : ℕ → ℕ
  pub obeys_first : Obeys first xs i z
  pub obeys_second : Obeys second ys i z
  pub least : (r : ℕ) → s.y1 r ≤ ys (low r)
  pub most : (r : ℕ) → ys (low r) ≤ s.y1 r + 1

-- b stood upon a and went past it at one end: it turns to the side there
pub data Swings {n : ℕ} (s : View n) (k : Kinds) (a b t o : ℕ) : Type 0 where
  back : t ≡ k.back → o ≡ k.ahead → s.x1 b < s.x1 a → s.x2 b < s.x2 a → Swings s k a b t o
  ahead : t ≡ k.ahead → o ≡ k.back → s.x1 a < s.x1 b → s.x2 a < s.x2 b → Swings s k a b t o

-- NUMBERS CAN BE PUT ON THE WALLS OF THE TURNED LABELLING
pub swung_obeys : (j : Job) (z : Sizes) (ok : Passes j) (i : Job) (long : length i ≡ length j) (s : View (length j + 4)) (k : Kinds) (sees : Sees j s k)
    (large : Fitted (length j) z s k) (a b t o : ℕ)
    → Room j a → Room j b → Upon s a b → ((w : ℕ) (e : Entry) → Memᴰ e (star_of i w) → Entered j a b t o w e) → Swings s k a b t o
    → Both i z s (first_axis k) (second_axis k)
swung_obeys j z ok i long s k sees large a b t o ra rb on entered (back et eo lo hi) =
    let c : Passing s a b = record { known_u = ra.1; known_v = rb.1; line = on.0; before = lo; over = on.1; past = hi } in
    let into : (w : ℕ) (e : Entry) → Memᴰ e (star_of i w) → Entered j b a k.ahead k.back w e =
    λ w e m. entered_swap (rw (et, eo) at (entered w e m)) in
    let x : Merges s b a = merges s a b c in
    let y : Splits s a b 1 = splits s a b c 1 in
    record {
      xs = sided x.lo x.hi;
      ys = sided y.lo y.hi;
      obeys_first = merge_obeys j z ok i long s k sees large b a rb ra into x;
      obeys_second =
          split_obeys j z ok i long s k sees large b a rb ra into a b y (λ r t n m. m) y.parts
          (y.rises a b 0 (omega (arith, on.0, s.tall a ra.1, s.tall b rb.1)));
      least = λ r. rw (sided_low y.lo y.hi r) (y.least r);
      most = λ r. rw (sided_low y.lo y.hi r) (y.most r);
    }
swung_obeys j z ok i long s k sees large a b t o ra rb on entered (ahead et eo lo hi) =
    let c : Passing (mirrored s) a b = far in
    let into : (w : ℕ) (e : Entry) → Memᴰ e (star_of i w) → Entered j a b k.ahead k.back w e = λ w e m. rw (et, eo) at (entered w e m) in
    let x : Merges s a b = merges_far s a b c in
    let y : Splits s a b 1 = splits_far s a b c 1 in
    record {
      xs = sided x.lo x.hi;
      ys = sided y.lo y.hi;
      obeys_first = merge_obeys j z ok i long s k sees large a b ra rb into x;
      obeys_second =
          split_obeys j z ok i long s k sees large a b ra rb into a b y (λ r t n m. n)
          (y.rises a b 0 (omega (arith, on.0, s.tall a ra.1, s.tall b rb.1)))
          y.parts;
      least = λ r. rw (sided_low y.lo y.hi r) (y.least r);
      most = λ r. rw (sided_low y.lo y.hi r) (y.most r);
    }
  where
    far : Passing (mirrored s) a b
    far = unfold mirrored in record {
      known_u = ra.1;
      known_v = rb.1;
      line = on.0;
      before = omega (arith, s.in_width b rb.1);
      over = omega (arith, on.2, s.in_width a ra.1);
      past = omega (arith, s.wide b rb.1, s.in_width b rb.1);
    }

-- A PLAN SEEN to the right and up, and seen up and to the right
abbrev pub right_up : Kinds
right_up = record {
  ahead = 3;
  back = 1;
  over = 0;
  under = 2;
  least_first = λ n. n.wide;
  least_second = λ n. n.tall;
  ahead_back = λ e. omega arith;
  ahead_over = λ e. omega arith;
  ahead_under = λ e. omega arith;
  back_over = λ e. omega arith;
  back_under = λ e. omega arith;
}

-- the kinds of a plan seen first up and then to the right: above, below, to the right, to the left
abbrev pub up_right : Kinds
up_right = record {
  ahead = 0;
  back = 2;
  over = 3;
  under = 1;
  least_first = λ n. n.tall;
  least_second = λ n. n.wide;
  ahead_back = λ e. omega arith;
  ahead_over = λ e. omega arith;
  ahead_under = λ e. omega arith;
  back_over = λ e. omega arith;
  back_under = λ e. omega arith;
}

module _ (j : Job) (ok : Passes j) (p : Plan) (gp : GoodPlan j p) where
  -- in a good plan seen first to the right and then up, every contact is met on its side
  pub sees_right_up : Sees j (view_of j ok p gp) right_up
  unfolding view_of
  sees_right_up = record {
    is_ahead = λ w r e m q. let z : Stands 3 (rect_of p w) (rect_of p e.to) = rw q at (gp.floor.stands w r e m) in
        (z.line, omega (arith, z.starts, z.ends'), omega (arith, z.starts', z.ends));
    is_back = λ w r e m q. let z : Stands 1 (rect_of p w) (rect_of p e.to) = rw q at (gp.floor.stands w r e m) in
        (z.line, omega (arith, z.starts, z.ends'), omega (arith, z.starts', z.ends));
    is_over = λ w r e m q. let z : Stands 0 (rect_of p w) (rect_of p e.to) = rw q at (gp.floor.stands w r e m) in
        (z.line, omega (arith, z.starts, z.ends'), omega (arith, z.starts', z.ends));
    is_under = λ w r e m q. let z : Stands 2 (rect_of p w) (rect_of p e.to) = rw q at (gp.floor.stands w r e m) in
        (z.line, omega (arith, z.starts, z.ends'), omega (arith, z.starts', z.ends));
  }

  -- in a good plan seen first up and then to the right, every contact is met on its side
  pub sees_up_right : Sees j (transposed (view_of j ok p gp)) up_right
  unfolding transposed
  sees_up_right =
      let s : Sees j (view_of j ok p gp) right_up = sees_right_up in
      record { is_ahead = s.is_over; is_back = s.is_under; is_over = s.is_ahead; is_under = s.is_back }

  -- seen first to the right and then up, every room of it has its least size;
  pub fitted_right_up : (z : Sizes) → Roomy j z p → Fitted (length j) z (view_of j ok p gp) right_up
  unfolding view_of extra
  fitted_right_up z r = record {
    in_first = λ i h. omega (arith, r.wide (4 + i) (omega arith, omega arith), (gp.inside (4 + i) (omega arith)).wide);
    in_second = λ i h. omega (arith, r.tall (4 + i) (omega arith, omega arith), (gp.inside (4 + i) (omega arith)).tall);
  }

  -- and seen first up and then to the right
  pub fitted_up_right : (z : Sizes) → Roomy j z p → Fitted (length j) z (transposed (view_of j ok p gp)) up_right
  unfolding transposed
  fitted_up_right z r =
      let s : Fitted (length j) z (view_of j ok p gp) right_up = fitted_right_up z r in
      record { in_first = s.in_second; in_second = s.in_first }
