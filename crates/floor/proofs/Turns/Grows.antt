-- A contact turned: in its old direction no number grows by more than 1. Assumes nothing.
use Rattle.std.specs.Prelude.{ℕ, ◌+◌, ◌≤◌, ◌<◌, ◌≡◌, ◌⊎◌, length}
use Rattle.std.proofs.Math.Path.{refl}
use Rattle.std.proofs.Common.{sym, ◌∙◌, subst, inl, inr, arith}
use mathlib.Core.List.{Memᴰ}
use Rattle.floor.specs.Jobs.{Job, star_of, Sizes}
use Rattle.floor.specs.Jobs.Stars.{entry}
use Rattle.floor.specs.Jobs.Facts.{Passes}
use Rattle.floor.proofs.Jobs.Facts.{star_at, labelling_passes}
use Rattle.floor.specs.Walls.{Numbers, Axis, upright, level, low, rules}
use Rattle.floor.proofs.Walls.Rules.{to_vertex, least_below}
use Rattle.floor.specs.Plans.{Plan, rect_of}
use Rattle.floor.specs.Floor.{GoodPlan, Roomy}
use Rattle.floor.proofs.Floor.Sides.{Side, up, left, down, right}
use Rattle.floor.proofs.Floor.Read.{num, every_kind, entry_ok}
use Rattle.floor.specs.Turns.{turned, Turnable}
use Rattle.floor.proofs.Turns.Turned.{turn_keeps}
use Rattle.floor.proofs.Turns.Restore.{Past, past_at}
use Rattle.floor.proofs.Turns.Shift.{View, transposed, Upon}
use Rattle.floor.proofs.Turns.Numbered.{view_of, Kinds, second_axis, Sees, Both, right_up, up_right, sees_right_up, sees_up_right}
use Rattle.floor.proofs.Turns.Always.{both_above, both_right}

module _ (j : Job) (ok : Passes j) (s : View (length j + 4)) (k : Kinds) (sees : Sees j s k) (c : Side) (is_under : k.under ≡ num c) where
  -- a room stands upon something at least one cell high
  first_row : (i : ℕ) → i < length j → 1 ≤ s.y1 (4 + i)
  first_row i h =
      let (e, m, q) = every_kind j ok c i h in
      let x : Upon s e.to (4 + i) = sees.is_under (4 + i) (omega arith, omega arith) e (rw (star_at j i) m) (q ∙ sym is_under) in
      omega (arith, x.0, s.tall e.to (entry_ok j ok i h e m).below)

  -- NO NUMBER GROWS BY MORE THAN 1
  grow_one : (i : Job) (z : Sizes) → Passes i → length i ≡ length j → {first : Axis} → Both i z s first (second_axis k)
      → (f : ℕ → ℕ) → Numbers (rules (second_axis k) i z) f → (v : ℕ) → f (low v) ≤ s.y1 v + 1
  grow_one i z oki long w f n v =
      omega (
        arith,
        least_below (second_axis k) i z (to_vertex i oki) f w.ys n w.obeys_second
            (λ r h. omega (arith, w.least (4 + r), first_row r (omega arith))) (low v),
        w.most v,
      )

module _ (j : Job) (z : Sizes) (ok : Passes j) (p : Plan) (gp : GoodPlan j p) (large : Roomy j z p) (a b : ℕ) where
  -- where the contact was above: level numbers; where it was to the right: upright numbers
  abbrev pub Grows : ℕ → Type 0
  Grows m =
      (m ≡ 0 → (f : ℕ → ℕ) → Numbers (rules level (turned j a b m) z) f → (v : ℕ) → f (low v) ≤ (rect_of p v).y1 + 1)
      × (m ≡ 3 → (f : ℕ → ℕ) → Numbers (rules upright (turned j a b m) z) f → (v : ℕ) → f (low v) ≤ (rect_of p v).x1 + 1)

  -- where the contact lay above, no vertex begins more than 1 higher by the turned job's level numbers
  grows_above : Past j p a b 0 → Memᴰ (entry b 0) (star_of j a) → Grows 0
  grows_above x m = (
    λ e f n v. unfold view_of in
        (grow_one j ok (view_of j ok p gp) right_up (sees_right_up j ok p gp) down refl (turned j a b 0) z (labelling_passes _ (turn_keeps j a b 0 x.turn ok).labelling)
        (turn_keeps j a b 0 x.turn ok).rooms (both_above j z ok p gp large a b x.turn (x.beyond up refl) m) f n v),
    λ e. absurd (omega arith),
  )

  -- where the contact lay to the right, no vertex begins more than 1 further right by the turned job's upright numbers
  grows_right : Past j p a b 3 → Memᴰ (entry b 3) (star_of j a) → Grows 3
  grows_right x m = (
    λ e. absurd (omega arith),
    λ e f n v. unfold view_of transposed in
        (grow_one j ok (transposed (view_of j ok p gp)) up_right (sees_up_right j ok p gp) left refl (turned j a b 3) z
        (labelling_passes _ (turn_keeps j a b 3 x.turn ok).labelling) (turn_keeps j a b 3 x.turn ok).rooms
        (both_right j z ok p gp large a b x.turn (x.beyond right refl) m) f n v),
  )

  -- above or to the right, no vertex begins more than 1 further in the direction in which the contact lay
  grows_of : (m : ℕ) → (m ≡ 0) ⊎ (m ≡ 3) → Past j p a b m → Memᴰ (entry b m) (star_of j a) → Grows m
  grows_of m (inl e) = subst (λ m. Past j p a b m → Memᴰ (entry b m) (star_of j a) → Grows m) (sym e) grows_above
  grows_of m (inr e) = subst (λ m. Past j p a b m → Memᴰ (entry b m) (star_of j a) → Grows m) (sym e) grows_right

-- IN ITS OLD DIRECTION a turned contact lets no side begin more than 1 further than it did
pub turned_grows : (j : Job) (z : Sizes) (ok : Passes j) (p : Plan) (gp : GoodPlan j p) (large : Roomy j z p) {u v : ℕ} (t : Turnable j u v)
    → Grows j z ok p gp large t.a t.b t.m
turned_grows j z ok p gp large t = grows_of j z ok p gp large t.a t.b t.m t.above_or_right (past_at j ok p gp t) t.contact
