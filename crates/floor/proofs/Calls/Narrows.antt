-- What a turn does to the sheet: in the direction in which the contact lay it grows by at most 1, and across it it shrinks by at most 1; so a turn that makes
-- the sheet narrower makes it narrower by exactly 1. Assumes nothing.
use Rattle.std.specs.Prelude.{ℕ, ◌+◌, ◌≤◌, ◌<◌, ◌≡◌, ◌⊎◌, Bool, true, false}
use Rattle.std.proofs.Common.{sym, ◌∙◌, subst, inl, inr, arith}
use Rattle.floor.specs.Jobs.{opposite, SizedJob}
use Rattle.floor.specs.Jobs.Stars.{entry}
use Rattle.floor.specs.Jobs.Facts.{Passes}
use Rattle.floor.specs.Walls.{upright, level, at}
use Rattle.floor.proofs.Walls.Rules.{numbers_are, to_vertex}
use Rattle.floor.specs.Plans.{Plan, plan_of, held}
use Rattle.floor.specs.Plans.Held.{Drawn}
use Rattle.floor.proofs.Plans.Held.{drawn_held, drawn_again}
use Rattle.floor.specs.Floor.{GoodPlan}
use Rattle.floor.specs.Turns.{turned_kind, turn, Turnable, turned_by, turned_with}
use Rattle.floor.proofs.Turns.Turned.{Turn, Entered, new_a, new_b, old, turn_entered}
use Rattle.floor.proofs.Turns.Restore.{asked, turned_restores, past_at}
use Rattle.floor.proofs.Turns.Grows.{turned_grows}
use Rattle.floor.specs.Calls.Sound.{Sound}
use Rattle.floor.proofs.Calls.Sound.{sound_good, turn_held, sound_roomy}

-- A PLAN q AFTER A TURN of one p, where the contact lay in direction m (0 above, 3 to the right)
pub record Resized (p q : Plan) (m : ℕ) : Type 0 where
  -- in that direction it grows by at most 1,
  pub higher : m ≡ 0 → q.height ≤ p.height + 1
  pub wider : m ≡ 3 → q.width ≤ p.width + 1
  -- and across it it shrinks by at most 1
  pub narrower : m ≡ 0 → p.width ≤ q.width + 1
  pub lower : m ≡ 3 → p.height ≤ q.height + 1

-- a plan by numbers is as wide as E's left wall says, and 1 more; likewise upward
grown : (o : SizedJob) (p : Plan) → Sound o p → {u v : ℕ} (t : Turnable o.stars u v) (q : Plan) → Drawn (turned_with t o.sizes) q → Passes (turned_by t)
    → (t.m ≡ 0 → q.height ≤ p.height + 1) × (t.m ≡ 3 → q.width ≤ p.width + 1)
unfolding plan_of
grown o p s t q d oki = rw d.is_plan (
  λ e. omega (
    arith,
    (turned_grows o.stars o.sizes s.passes p gp (sound_roomy o p s) t).0 e (at d.ys)
        (numbers_are level (turned_by t) o.sizes (to_vertex (turned_by t) oki) d.ys d.is_level) 0,
    (gp.inside 0 (omega arith)).tall,
    (gp.inside 0 (omega arith)).in_height,
  ),
  λ e. omega (
    arith,
    (turned_grows o.stars o.sizes s.passes p gp (sound_roomy o p s) t).1 e (at d.xs)
        (numbers_are upright (turned_by t) o.sizes (to_vertex (turned_by t) oki) d.xs d.is_upright) 3,
    (gp.inside 3 (omega arith)).wide,
    (gp.inside 3 (omega arith)).in_width,
  ),
)
  where
    gp : GoodPlan o.stars p
    gp = sound_good o p s

-- a contact that lay above lies to the right after the turn, seen from one of the two, and the other way
crossed : (m n : ℕ) (l : Bool) → (n ≡ turned_kind m l) ⊎ (n ≡ turned_kind (opposite m) l) → (n ≡ 0) ⊎ (n ≡ 3) → (m ≡ 0 → n ≡ 3) × (m ≡ 3 → n ≡ 0)
unfolding turned_kind opposite
crossed m n l x y = (λ e. above e l (rw e at x) y, λ e. beside e l (rw e at x) y)
  where
    above : m ≡ 0 → (l : Bool) → (n ≡ turned_kind 0 l) ⊎ (n ≡ turned_kind (opposite 0) l) → (n ≡ 0) ⊎ (n ≡ 3) → n ≡ 3
    above e l x (inr y) = y
    above e true (inl x) (inl y) = absurd (omega arith)
    above e true (inr x) (inl y) = absurd (omega arith)
    above e false (inl x) (inl y) = absurd (omega arith)
    above e false (inr x) (inl y) = absurd (omega arith)

    beside : m ≡ 3 → (l : Bool) → (n ≡ turned_kind 3 l) ⊎ (n ≡ turned_kind (opposite 3) l) → (n ≡ 0) ⊎ (n ≡ 3) → n ≡ 0
    beside e l x (inl y) = y
    beside e true (inl x) (inr y) = absurd (omega arith)
    beside e true (inr x) (inr y) = absurd (omega arith)
    beside e false (inl x) (inr y) = absurd (omega arith)
    beside e false (inr x) (inr y) = absurd (omega arith)

module _ (o : SizedJob) (p : Plan) (s : Sound o p) (u v : ℕ) (t : Turnable o.stars u v) where
  -- turned again, the contact lies the other way
  pub back_kind : (r : Turnable (turned_by t) u v) → (t.m ≡ 0 → r.m ≡ 3) × (t.m ≡ 3 → r.m ≡ 0)
  back_kind r = go (turn_entered o.stars t.a t.b t.m T r.a (entry r.b r.m) r.contact)
    where
      T : Turn o.stars t.a t.b t.m
      T = (past_at o.stars s.passes p (sound_good o p s) t).turn

      same : ((t.a ≡ u) × (t.b ≡ v)) ⊎ ((t.a ≡ v) × (t.b ≡ u)) → ((r.a ≡ u) × (r.b ≡ v)) ⊎ ((r.a ≡ v) × (r.b ≡ u))
          → (r.a ≡ t.a → r.b ≡ t.b → ⊥) → (r.a ≡ t.b → r.b ≡ t.a → ⊥) → ⊥
      same (inl (x, y)) (inl (z, w)) n m = n (z ∙ sym x) (w ∙ sym y)
      same (inl (x, y)) (inr (z, w)) n m = m (z ∙ sym y) (w ∙ sym x)
      same (inr (x, y)) (inl (z, w)) n m = m (z ∙ sym y) (w ∙ sym x)
      same (inr (x, y)) (inr (z, w)) n m = n (z ∙ sym x) (w ∙ sym y)

      go : Entered o.stars t.a t.b (turned_kind t.m T.last) (turned_kind (opposite t.m) T.last) r.a (entry r.b r.m)
          → (t.m ≡ 0 → r.m ≡ 3) × (t.m ≡ 3 → r.m ≡ 0)
      go (new_a x y z) = crossed t.m r.m T.last (inl z) r.above_or_right
      go (new_b x y z) = crossed t.m r.m T.last (inr z) r.above_or_right
      go (old i x y) = absurd (same t.who r.who x y)

  -- WHAT A TURN DOES TO THE SHEET
  pub turn_resizes : (q : Plan) → turn o u v ≡ held (turned_with t o.sizes) q → Resized p q t.m
  turn_resizes q h =
      let i : Sound (turned_with t o.sizes) q = turn_held o p u v (turned_with t o.sizes) q s h in
      let e : turn (turned_with t o.sizes) u v ≡ held o p =
      (turned_restores o.stars s.passes p (sound_good o p s) o.sizes t).0 ∙ drawn_again o p s.is_drawn in
      let (r, d) = asked (turned_with t o.sizes) u v o p i.passes e in
      let (x, y) = drawn_held (turned_with r o.sizes) o p d in
      let (up, wide) = grown o p s t q i.is_drawn i.passes in
      let (up', wide') = grown (turned_with t o.sizes) q i r p y (subst (λ (h : SizedJob). Passes h.stars) x s.passes) in
      let (a, b) = back_kind r in
      record { higher = up; wider = wide; narrower = λ z. wide' (a z); lower = λ z. up' (b z) }

  -- NARROWER BY EXACTLY ONE, where the contact lay above and the sheet gets narrower
  pub narrows_by_one : (q : Plan) → turn o u v ≡ held (turned_with t o.sizes) q → t.m ≡ 0 → q.width < p.width → q.width + 1 ≡ p.width
  narrows_by_one q h e l = omega (arith, (turn_resizes q h).narrower e)
