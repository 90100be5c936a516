-- The rooms of a good plan with a thin frame fill the rectangle inside the frame, and each stands once among them. Assumes nothing.
use Prim.Native.Nat.{ℕ, zero, suc, ◌+◌, ◌-◌, ◌≤◌, ◌<◌}
use Rattle.std.specs.Prelude.{◌≡◌, length, get_or, eqb}
use Rattle.std.proofs.Common.{sym, ◌∙◌, eq-eqb, eqb-true}
use Rattle.std.proofs.Math.Path.{ap}
use mathlib.Core.List.{Memᴰ}
use Rattle.std.proofs.Math.ListN.{length-drop}
use Rattle.std.proofs.Math.Seq.{get_or-drop}
use native.Mathlib.Omega.{arith}
use Rattle.floor.specs.Lists.Laws.{count}
use Rattle.floor.proofs.Lists.Laws.{get_or_mem}
use Rattle.floor.specs.Jobs.{Job, Room}
use Rattle.floor.specs.Jobs.Facts.{Passes}
use Rattle.floor.specs.Plans.{Rect, Plan, nowhere, rect_of}
use Rattle.floor.specs.Floor.{Cell, ExactlyOne, Inside, GoodPlan}
use Rattle.floor.proofs.Floor.Inner.{Thin, Inner, inner_room}
use Rattle.floor.specs.Cuts.{holds, Within, Fills, rooms_of, inner}
use Rattle.floor.proofs.Cuts.Keeping.{count_one}
use Rattle.floor.proofs.Cuts.Filled.{holds_cell, cell_holds}
use Rattle.floor.proofs.Cuts.Spanned.{CornersApart}

module _ (j : Job) (ok : Passes j) (p : Plan) (good : GoodPlan j p) (thin : Thin p) where
  -- the room at place i has at least a cell, and lies inside the frame
  room_within : (i : ℕ) → i < length j → Within (inner p) (rect_of p (4 + i))
  unfolding inner
  room_within i h =
      let k : Inside p (rect_of p (4 + i)) = good.inside (4 + i) (omega arith) in
      let m : Inner p (4 + i) = inner_room j ok p good thin (4 + i) (omega arith, omega arith) in
      record {
        wide = k.wide;
        tall = k.tall;
        left = m.left;
        right = omega (arith, m.right);
        lower = m.lower;
        upper = omega (arith, m.upper);
      }

  -- there are as many rooms in the plan as in the job
  pub rooms_count : length (rooms_of p) ≡ length j
  unfolding rooms_of
  rooms_count = omega (arith, length-drop 4 p.rects, good.floor.complete.count)

  -- the room at place i is the rectangle of vertex 4 + i
  room_at : (i : ℕ) → get_or (rooms_of p) i nowhere ≡ rect_of p (4 + i)
  unfolding rooms_of rect_of
  room_at i = get_or-drop 4 p.rects i nowhere

  -- a cell inside the frame lies in no side of it
  no_side : (x y v : ℕ) → Cell (inner p) x y → Cell (rect_of p v) x y → 4 ≤ v
  unfolding inner
  no_side x y zero c d = absurd (omega (arith, c.upper, d.lower, thin.n_y1))
  no_side x y (suc zero) c d = absurd (omega (arith, c.left, d.right, thin.w_x2))
  no_side x y (suc (suc zero)) c d = absurd (omega (arith, c.lower, d.upper, thin.s_y2))
  no_side x y (suc (suc (suc zero))) c d = absurd (omega (arith, c.right, d.left, thin.e_x1))
  no_side x y (suc (suc (suc (suc v)))) c d = omega arith

  -- each cell inside the frame lies in exactly one room
  once : (x y : ℕ) → Cell (inner p) x y → count (holds x y) (rooms_of p) ≡ 1
  once x y c =
      let hx : x < p.width = unfold inner in omega (arith, c.right) in
      let hy : y < p.height = unfold inner in omega (arith, c.upper) in
      let o : ExactlyOne j p x y = good.floor.cover x y hx hy in
      let k : 4 ≤ o.one = no_side x y o.one c o.holds in
      let e : 4 + (o.one - 4) ≡ o.one = omega arith in
      count_one (holds x y) (rooms_of p) nowhere (o.one - 4) (omega (arith, o.vertex, rooms_count))
      (ap (holds x y) (room_at (o.one - 4) ∙ ap (rect_of p) e) ∙ cell_holds x y (rect_of p o.one) o.holds)
      (λ i l h. omega (arith, o.only (4 + i) (omega (arith, rooms_count)) (holds_cell x y (rect_of p (4 + i)) (ap (holds x y) (sym (room_at i)) ∙ h))))

  -- THE ROOMS FILL THE RECTANGLE INSIDE THE FRAME
  pub rooms_fill : 0 < length j → Fills (inner p) (rooms_of p)
  rooms_fill h =
      let w : Within (inner p) (rect_of p 4) = room_within 0 h in
      record {
        wide = omega (arith, w.wide, w.left, w.right);
        tall = omega (arith, w.tall, w.lower, w.upper);
        within = λ r m. let (i, l, q) = get_or_mem (rooms_of p) r nowhere m in rw (sym q ∙ room_at i) (room_within i (omega (arith, rooms_count)));
        once = once;
      }

  -- a room by its vertex, solid
  room_of : (r : Rect) → Memᴰ r (rooms_of p) → (i : ℕ) × (i < length j) × (rect_of p (4 + i) ≡ r) × Within (inner p) r
  room_of r m =
      let (i, l, q) = get_or_mem (rooms_of p) r nowhere m in
      let e : rect_of p (4 + i) ≡ r = sym (room_at i) ∙ q in
      (i, omega (arith, rooms_count), e, rw e at (room_within i (omega (arith, rooms_count))))

  -- NO FOUR ROOMS HAVE A CORNER AT ONE POINT
  pub corners_apart : CornersApart p
  corners_apart x y q r s t mq mr ms mt eq er es et =
      let (a, ha, qa, wa) = room_of q mq in
      let (b, hb, qb, wb) = room_of r mr in
      let (c, hc, qc, wc) = room_of s ms in
      let (d, hd, qd, wd) = room_of t mt in
      let no : (u v : ℕ) (g : Rect → ℕ) (m n : Rect) → rect_of p (4 + u) ≡ m → rect_of p (4 + v) ≡ n → (g m ≡ g n → ⊥) → 4 + u ≡ 4 + v → ⊥
      = λ u v g m n e f h k. h (ap g (sym e ∙ ap (rect_of p) k ∙ f)) in
      good.floor.no_four x y (4 + a) (4 + b) (4 + c) (4 + d) (omega arith) (omega arith) (omega arith) (omega arith)
      (record {
        ab = no a b (λ m. m.x2) q r qa qb (λ k. omega (arith, eq.0, er.0, wb.wide));
        ac = no a c (λ m. m.y2) q s qa qc (λ k. omega (arith, eq.1, es.1, wc.tall));
        ad = no a d (λ m. m.x2) q t qa qd (λ k. omega (arith, eq.0, et.0, wd.wide));
        bc = no b c (λ m. m.x1) r s qb qc (λ k. omega (arith, er.0, es.0, wc.wide));
        bd = no b d (λ m. m.y2) r t qb qd (λ k. omega (arith, er.1, et.1, wd.tall));
        cd = no c d (λ m. m.x2) s t qc qd (λ k. omega (arith, es.0, et.0, wd.wide));
      })
      (rw qa (record { left = omega (arith, eq.0, wa.wide); right = omega (arith, eq.0); lower = omega (arith, eq.1, wa.tall); upper = omega (arith, eq.1) }))
      (rw qb (record { left = omega (arith, er.0); right = omega (arith, er.0, wb.wide); lower = omega (arith, er.1, wb.tall); upper = omega (arith, er.1) }))
      (rw qc (record { left = omega (arith, es.0, wc.wide); right = omega (arith, es.0); lower = omega (arith, es.1); upper = omega (arith, es.1, wc.tall) }))
      (rw qd (record { left = omega (arith, et.0); right = omega (arith, et.0, wd.wide); lower = omega (arith, et.1); upper = omega (arith, et.1, wd.tall) }))

  -- no room's number is over n + 3
  pub room_number : (r : Rect) → Memᴰ r (rooms_of p) → r.vertex < length j + 4
  room_number r m =
      let (i, l, q) = get_or_mem (rooms_of p) r nowhere m in
      let e : r.vertex ≡ 4 + i = ap (λ (r : Rect). r.vertex) (sym q ∙ room_at i) ∙ good.floor.complete.vertex (4 + i) (omega (arith, rooms_count)) in
      omega (arith, rooms_count)

  -- each room stands once among them
  pub room_once : (v : ℕ) → Room j v → count (λ r. eqb v r.vertex) (rooms_of p) ≡ 1
  room_once v h =
      let e : 4 + (v - 4) ≡ v = omega (arith, h.0) in
      count_one (λ r. eqb v r.vertex) (rooms_of p) nowhere (v - 4) (omega (arith, h.0, h.1, rooms_count))
      (eq-eqb v _ (sym (ap (λ (r : Rect). r.vertex) (room_at (v - 4) ∙ ap (rect_of p) e) ∙ good.floor.complete.vertex v h.1)))
      (λ i l q.
      let a : v ≡ 4 + i = eqb-true v _ q ∙ ap (λ (r : Rect). r.vertex) (room_at i) ∙ good.floor.complete.vertex (4 + i) (omega (arith, rooms_count)) in
      omega (arith, h.0))
