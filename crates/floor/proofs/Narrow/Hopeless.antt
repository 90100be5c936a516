-- Which contacts cannot narrow the sheet: those that are longer than one cell. Where both rooms reach two cells or more over one another, nothing that makes the
-- sheet as wide as it is goes by their contact, and all of it stays after the turn. Assumes nothing.
use Rattle.std.specs.Prelude.{ℕ, ◌+◌, ◌-◌, ◌≤◌, ◌<◌, ◌≡◌, refl, ◌⊎◌, Bool, true, false, length}
use Rattle.std.proofs.Common.{sym, ◌∙◌, inl, inr}
use Rattle.std.proofs.Math.Path.{ap}
use mathlib.Core.List.{Memᴰ}
use native.Mathlib.Omega.{arith}
use Rattle.floor.specs.Jobs.{Entry, SizedJob, Room, star_of, opposite}
use Rattle.floor.proofs.Jobs.Facts.{star_at}
use Rattle.floor.specs.Walls.{Rule, Holds, Numbers, upright, low, high, extra, rules, at}
use Rattle.floor.proofs.Walls.Walk.{numbers_positive, numbers_respects}
use Rattle.floor.proofs.Walls.Tight.{Tight, tight_least}
use Rattle.floor.proofs.Walls.Rules.{Asks, Told, Obeys, told_every, respects_obeys, numbers_are, to_vertex}
use Rattle.floor.specs.Plans.{Rect, Plan, rect_of, plan_of, room_rect, overlap, held}
use Rattle.floor.proofs.Plans.Held.{drawn_held, drawn_again}
use Rattle.floor.proofs.Floor.Ours.{room_rect_lem}
use Rattle.floor.specs.Turns.{turned_kind, turn, Turnable, turned_by, turned_with}
use Rattle.floor.proofs.Turns.Turned.{Turn, Entered, new_a, new_b, old, turn_entered}
use Rattle.floor.proofs.Turns.Restore.{asked, turned_restores, turned_keeps, past_at}
use Rattle.floor.specs.Calls.Sound.{Sound}
use Rattle.floor.proofs.Calls.Sound.{sound_good, turn_held}
use Rattle.floor.proofs.Calls.Narrows.{back_kind}
use Rattle.floor.specs.Narrow.{turn_narrows}
use Rattle.floor.proofs.Narrow.Found.{narrows_of}
use Rattle.floor.proofs.Narrow.Result.{by, above}

-- a contact that lies to the right lies above or below after the turn
beside_turned : (m n : ℕ) (l : Bool) → m ≡ 3 → (n ≡ turned_kind m l) ⊎ (n ≡ turned_kind (opposite m) l) → (n ≡ 0) ⊎ (n ≡ 2)
unfolding turned_kind opposite
beside_turned m n true e (inl x) = inl (rw e at x)
beside_turned m n false e (inl x) = inr (rw e at x)
beside_turned m n true e (inr x) = inr (rw e at x)
beside_turned m n false e (inr x) = inl (rw e at x)

module _ (o : SizedJob) (p : Plan) (s : Sound o p) (u v : ℕ) (t : Turnable o.stars u v) (above : t.m ≡ 0) (q : Plan)
    (h : turn o u v ≡ held (turned_with t o.sizes) q) where
  -- the numbers before the turn
  abbrev f : ℕ → ℕ
  f = at s.is_drawn.xs

  -- what is held after it is sound
  i : Sound (turned_with t o.sizes) q
  i = turn_held o p u v (turned_with t o.sizes) q s h

  -- the numbers after it
  abbrev g : ℕ → ℕ
  g = at i.is_drawn.xs

  nf : Numbers (rules upright o.stars o.sizes) f
  nf = numbers_are upright o.stars o.sizes (to_vertex o.stars s.passes) s.is_drawn.xs s.is_drawn.is_upright

  ng : Numbers (rules upright (turned_by t) o.sizes) g
  ng = numbers_are upright (turned_by t) o.sizes (to_vertex (turned_by t) i.passes) i.is_drawn.xs i.is_drawn.is_upright

  -- they do what the turned job says
  og : Obeys upright g (turned_by t) o.sizes
  og = respects_obeys upright g (turned_by t) o.sizes (numbers_respects (rules upright (turned_by t) o.sizes) g ng)

  -- the job before the turn is this one turned again
  module _ (r : Turnable (turned_by t) u v) (back : turned_by r ≡ o.stars) (apart : (f (low u) + 2 ≤ f (high v)) × (f (low v) + 2 ≤ f (high u))) where
    -- the contact lies to the right then
    beside : r.m ≡ 3
    beside = (back_kind o p s u v t r).0 above

    -- what is turned back
    T : Turn (turned_by t) r.a r.b r.m
    T = (past_at (turned_by t) i.passes q (sound_good (turned_with t o.sizes) q i) r).turn

    -- every entry of the job before is that contact, or an entry of the turned job
    entered : (w : ℕ) (e : Entry) → Memᴰ e (star_of o.stars w)
        → Entered (turned_by t) r.a r.b (turned_kind r.m T.last) (turned_kind (opposite r.m) T.last) w e
    entered w e m = turn_entered (turned_by t) r.a r.b r.m T w e (rw back m)

    -- the two rooms of the contact are more than one cell apart, both ways
    far_apart : (w x : ℕ) → ((w ≡ r.a) × (x ≡ r.b)) ⊎ ((w ≡ r.b) × (x ≡ r.a)) → (f (low w) + 2 ≤ f (high x)) × (f (low x) + 2 ≤ f (high w))
    far_apart w x y = go r.who y
      where
        go : ((r.a ≡ u) × (r.b ≡ v)) ⊎ ((r.a ≡ v) × (r.b ≡ u)) → ((w ≡ r.a) × (x ≡ r.b)) ⊎ ((w ≡ r.b) × (x ≡ r.a))
            → (f (low w) + 2 ≤ f (high x)) × (f (low x) + 2 ≤ f (high w))
        go (inl (a, b)) (inl (c, d)) = rw (c ∙ a, d ∙ b) apart
        go (inl (a, b)) (inr (c, d)) = rw (c ∙ b, d ∙ a) (apart.1, apart.0)
        go (inr (a, b)) (inl (c, d)) = rw (c ∙ a, d ∙ b) (apart.1, apart.0)
        go (inr (a, b)) (inr (c, d)) = rw (c ∙ b, d ∙ a) apart

    -- what a rule that f meets with nothing to spare asks, g does
    abbrev P : Rule → Type 0
    P c = Tight f c → Holds g c

    -- what the contact itself says has something to spare
    contact_asks : (w : ℕ) (e : Entry) → ((w ≡ r.a) × (e.to ≡ r.b)) ⊎ ((w ≡ r.b) × (e.to ≡ r.a)) → (e.kind ≡ 0) ⊎ (e.kind ≡ 2) → Asks P upright w e
    contact_asks w e x k = record {
      if_far = λ y. absurd (no k (λ z. omega arith) (λ z. omega arith));
      if_near = λ y. absurd (no k (λ z. omega arith) (λ z. omega arith));
      if_cross = λ y l. let (a, b) = far_apart w e.to x in (λ z. absurd (omega arith), λ z. absurd (omega arith));
    }
      where
        no : (e.kind ≡ 0) ⊎ (e.kind ≡ 2) → (e.kind ≡ 0 → ⊥) → (e.kind ≡ 2 → ⊥) → ⊥
        no (inl z) a b = a z
        no (inr z) a b = b z

    -- every rule of the job before
    told : Told P upright (extra upright o.sizes) 4 o.stars
    told = record { own = λ k h _. og.own k (rw same_rooms h); each = λ k h e m. each k h e (entered (4 + k) e (rw (star_at o.stars k) m)) }
      where
        same_rooms : length (turned_by t) ≡ length o.stars
        same_rooms = (turned_keeps o.stars s.passes p (sound_good o p s) t).rooms

        each : (k : ℕ) → k < length o.stars → (e : Entry)
            → Entered (turned_by t) r.a r.b (turned_kind r.m T.last) (turned_kind (opposite r.m) T.last) (4 + k) e → Asks P upright (4 + k) e
        each k h e (new_a a b c) = contact_asks (4 + k) e (inl (a, b)) (beside_turned r.m e.kind T.last beside (inl c))
        each k h e (new_b a b c) = contact_asks (4 + k) e (inr (a, b)) (beside_turned r.m e.kind T.last beside (inr c))
        each k h e (old m a b) =
            let x : Asks (Holds g) upright (4 + k) e = og.each k (rw same_rooms h) e (rw (star_at (turned_by t) k) at m) in
            record {
              if_far = λ y _. x.if_far y;
              if_near = λ y _. x.if_near y;
              if_cross = λ y l. let (c, d) = x.if_cross y l in (λ _. c, λ _. d);
            }

    -- so no wall has a smaller number after the turn
    no_smaller : (n : ℕ) → f n ≤ g n
    no_smaller = tight_least (rules upright o.stars o.sizes) f g nf (numbers_positive (rules upright (turned_by t) o.sizes) g ng)
        (told_every P upright (extra upright o.sizes) 4 o.stars told)

  -- A CONTACT OF MORE THAN ONE CELL DOES NOT NARROW: the sheet is as wide as it was, or wider
  pub no_narrower : (f (low u) + 2 ≤ f (high v)) × (f (low v) + 2 ≤ f (high u)) → p.width ≤ q.width
  unfolding plan_of
  no_narrower apart =
      let e : turn (turned_with t o.sizes) u v ≡ held o p =
      (turned_restores o.stars s.passes p (sound_good o p s) o.sizes t).0 ∙ drawn_again o p s.is_drawn in
      let (r, d) = asked (turned_with t o.sizes) u v o p i.passes e in
      let back : turned_by r ≡ o.stars = ap (λ (x : SizedJob). x.stars) (sym (drawn_held (turned_with r o.sizes) o p d).0) in
      omega (
        arith,
        no_smaller r back apart (low 3),
        ap (λ (x : Plan). x.width) s.is_drawn.is_plan,
        ap (λ (x : Plan). x.width) i.is_drawn.is_plan,
      )

  -- a room's sides lie at their numbers
  place : (w : ℕ) → Room o.stars w → ((rect_of p w).x1 ≡ f (low w)) × ((rect_of p w).x2 ≡ f (high w))
  unfolding room_rect
  place w r =
      let e : 4 + (w - 4) ≡ w = omega (arith, r.0) in
      let c : rect_of p w ≡ room_rect f (at s.is_drawn.ys) w
      = rw s.is_drawn.is_plan (rw e at (room_rect_lem o.stars f (at s.is_drawn.ys) (w - 4) (omega (arith, r.0, r.1)))) in
      (ap (λ (x : Rect). x.x1) c, ap (λ (x : Rect). x.x2) c)

  -- the two are rooms
  rooms : Room o.stars u × Room o.stars v
  rooms = go t.who
    where
      go : ((t.a ≡ u) × (t.b ≡ v)) ⊎ ((t.a ≡ v) × (t.b ≡ u)) → Room o.stars u × Room o.stars v
      go (inl (x, y)) = (rw x at t.room_a, rw y at t.room_b)
      go (inr (x, y)) = (rw y at t.room_b, rw x at t.room_a)

  -- told by the plan: where the two rooms share two cells' length or more
  pub long_contact : 2 ≤ overlap (rect_of p u).x1 (rect_of p u).x2 (rect_of p v).x1 (rect_of p v).x2 → p.width ≤ q.width
  unfolding overlap
  long_contact l =
      let (a, b) = place u rooms.0 in
      let (c, d) = place v rooms.1 in
      no_narrower (omega (arith, l, a, b, c, d), omega (arith, l, a, b, c, d))

-- A PAIR THAT SHARES TWO CELLS' LENGTH OR MORE IS PASSED OVER
pub over_long : (o : SizedJob) (p : Plan) → Sound o p → (u v : ℕ) → Room o.stars u → Room o.stars v → u < v
    → 2 ≤ overlap (rect_of p u).x1 (rect_of p u).x2 (rect_of p v).x1 (rect_of p v).x2 → turn_narrows o p.width u v ≡ false
over_long o p s u v ru rv l k = go (turn_narrows o p.width u v) refl
  where
    go : (b : Bool) → turn_narrows o p.width u v ≡ b → b ≡ false
    go false e = refl
    go true e =
        let (i, q, n) = narrows_of o s.passes p u v ru rv l e in
        let (t, is) = by o p s u v i q n in
        let x : p.width ≤ q.width
        = long_contact o p s u v t (above o p s u v i q n t) q (rw is at n.accepted) k in
        absurd (omega (arith, n.narrower))
