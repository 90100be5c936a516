-- A contact that can be turned, in the text's words; in a held plan its turned labelling keeps tests 4 to 6, and turned again at once gives back the job.
-- Assumes nothing.
use Rattle.std.specs.Prelude.{ℕ, ◌≤◌, ◌≡◌, ◌⊎◌, Bool, true, false, ◌&&◌, ◌||◌, length}
use Rattle.std.proofs.Math.Path.{refl}
use Rattle.std.proofs.Common.{sym, ap, ◌∙◌}
use Rattle.std.proofs.Math.Logic.{inl, inr}
use mathlib.Core.List.{◌∷◌, ◌++◌, Memᴰ}
use Rattle.std.proofs.Math.Dec.{leb, eqb}
use borrow.Author.Tests.{eqb-true, leb-true}
use Rattle.floor.proofs.Lists.Laws.{no_false, or_cases, and_parts, Apart, apart_at}
use Rattle.floor.specs.Jobs.{Star, Job, Room, opposite, is_room, star_of, names, kind_of, list_of, Reading, fails, reads, Sizes, SizedJob, sized_job}
use Rattle.floor.specs.Jobs.{with_sizes}
use Rattle.floor.specs.Jobs.Stars.{entry, of_kind}
use Rattle.floor.proofs.Jobs.Stars.{kind_of_mem}
use Rattle.floor.proofs.Jobs.Round.{restart_mem}
use Rattle.floor.proofs.Jobs.Straight.{straight, straight_restarts}
use Rattle.floor.specs.Jobs.Facts.{Passes}
use Rattle.floor.proofs.Jobs.Facts.{is_a_room, passing_reads}
use Rattle.floor.specs.Plans.{Plan, held, drawn, draw_read}
use Rattle.floor.proofs.Plans.Held.{not_held}
use Rattle.floor.specs.Floor.{GoodPlan}
use Rattle.floor.proofs.Floor.Sides.{Side}
use Rattle.floor.proofs.Floor.Read.{num, piece}
use Rattle.floor.proofs.Floor.Placed.{place_of}
use Rattle.floor.specs.Turns.{turned, turning_at, turning_from, in_contact, turning, turn, Kept, Turnable, turned_by, turned_with}
use Rattle.floor.proofs.Turns.Swing.{swing, length_list_of, is_the_last}
use Rattle.floor.proofs.Turns.Turned.{Turn, turn_again, turn_keeps}
use Rattle.floor.proofs.Turns.Ends.{each_kind, opposite_small, at_ends, Beyond, go_past}

-- kinds 1 and 2 are asked for from the other side
from_other : (k : ℕ) → k ≤ 3 → (eqb k 0 || eqb k 3) ≡ false → (opposite k ≡ 0) ⊎ (opposite k ≡ 3)
unfolding opposite
from_other =
    each_kind (λ k. (eqb k 0 || eqb k 3) ≡ false → (opposite k ≡ 0) ⊎ (opposite k ≡ 3)) (λ e. no_false (sym e)) (λ e. inr refl) (λ e. inl refl)
    (λ e. no_false (sym e))

module _ (j : Job) (u v : ℕ) (ok : Passes j) where
  -- the kind with which u's star names v
  abbrev kind : ℕ
  kind = kind_of (star_of j u) v

  -- where the lists are long enough
  long_lists : (a b m : ℕ) (i : Job) → turning_at j a b m ≡ reads i
      → (2 ≤ length (list_of (star_of j a) m)) × (2 ≤ length (list_of (star_of j b) (opposite m))) × (turned j a b m ≡ i)
  unfolding turning_at
  long_lists a b m i h =
      let (t, d) = passing_reads (leb 2 (length (list_of (star_of j a) m)) && leb 2 (length (list_of (star_of j b) (opposite m)))) 12 _ i h in
      let (x, y) = and_parts (leb 2 (length (list_of (star_of j a) m))) (leb 2 (length (list_of (star_of j b) (opposite m)))) t in
      (leb-true 2 (length (list_of (star_of j a) m)) x, leb-true 2 (length (list_of (star_of j b) (opposite m))) y, same_job d)
    where
      same_job : {k l : Job} → reads k ≡ reads l → k ≡ l
      same_job e = cc

  -- A TURNED JOB is that of a contact with at least two on both lists
  pub turnable : (i : Job) → turning j u v ≡ reads i → (t : Turnable j u v) × (turned_by t ≡ i)
  unfolding turning turning_from in_contact
  turnable i h =
      let (c, d) = passing_reads (is_room j u && is_room j v && names (star_of j u) v) 11 _ i h in
      let (xy, n) = and_parts (is_room j u && is_room j v) (names (star_of j u) v) c in
      let (x, y) = and_parts (is_room j u) (is_room j v) xy in
      go (eqb kind 0 || eqb kind 3) refl (is_a_room j u x) (is_a_room j v y) (kind_of_mem (star_of j u) v n) d
    where
      either : (eqb kind 0 ≡ true) ⊎ (eqb kind 3 ≡ true) → (kind ≡ 0) ⊎ (kind ≡ 3)
      either (inl e) = inl (eqb-true kind 0 e)
      either (inr e) = inr (eqb-true kind 3 e)

      contact_of : (a b m : ℕ) → ((a ≡ u) × (b ≡ v)) ⊎ ((a ≡ v) × (b ≡ u)) → (m ≡ 0) ⊎ (m ≡ 3) → Room j a → Room j b
          → Memᴰ (entry b m) (star_of j a) → turning_at j a b m ≡ reads i → (t : Turnable j u v) × (turned_by t ≡ i)
      contact_of a b m who up ra rb c g =
          let (x, y, z) = long_lists a b m i g in
          (record { a = a; b = b; m = m; who = who; above_or_right = up; room_a = ra; room_b = rb; contact = c; many_a = x; many_b = y }, z)

      go : (c : Bool) → (eqb kind 0 || eqb kind 3) ≡ c → Room j u → Room j v → Memᴰ (entry v kind) (star_of j u)
          → turning_from c j u v kind ≡ reads i → (t : Turnable j u v) × (turned_by t ≡ i)
      go true e ru rv m g = contact_of u v kind (inl (refl, refl)) (either (or_cases (eqb kind 0) (eqb kind 3) e)) ru rv m g
      go false e ru rv m g =
          contact_of v u (opposite kind) (inr (refl, refl)) (from_other kind (ok.entries u ru (entry v kind) m).small e) rv ru
          (ok.opposed u ru (entry v kind) m rv.0) g

-- A TURN THAT HOLDS was of such a contact, and its turned job, with the same sizes, was drawn
pub asked : (o : SizedJob) (u v : ℕ) (i : SizedJob) (q : Plan) → Passes o.stars → turn o u v ≡ held i q
    → (t : Turnable o.stars u v) × (drawn (turned_with t o.sizes) ≡ held i q)
unfolding turn draw_read with_sizes
asked o u v i q ok h = go (turning o.stars u v) refl h
  where
    go : (r : Reading Job) → turning o.stars u v ≡ r → draw_read (with_sizes o.sizes r) ≡ held i q
        → (t : Turnable o.stars u v) × (drawn (turned_with t o.sizes) ≡ held i q)
    go (fails k) e h = not_held h
    go (reads l) e h = let (t, f) = turnable o.stars u v ok l e in (t, ap (λ (l : Job). drawn (sized_job l o.sizes)) f ∙ h)

-- how a contact turns, and that each of the two rooms goes past the other at one end
pub record Past (j : Job) (p : Plan) (a b m : ℕ) : Type 0 where
  pub turn : Turn j a b m
  pub beyond : (k : Side) → num k ≡ m → Beyond (place_of p) turn.last k (piece a) (piece b)

-- A CONTACT OF A GOOD PLAN with at least two on both lists turns so
turn_of : (j : Job) (ok : Passes j) (p : Plan) (gp : GoodPlan j p) (a b m : ℕ) → Room j a → Room j b → Memᴰ (entry b m) (star_of j a)
    → 2 ≤ of_kind m (star_of j a) → 2 ≤ of_kind (opposite m) (star_of j b) → Past j p a b m
turn_of j ok p gp a b m ra rb i ha hb = go A.front A.rest B.front B.rest A.whole B.whole
  where
    small : m ≤ 3
    small = (ok.entries a ra (entry b m) i).small

    A : Apart (entry b m) (straight (star_of j a))
    A = apart_at (entry b m) (straight (star_of j a)) (restart_mem (straight_restarts (star_of j a)) i)

    B : Apart (entry a (opposite m)) (straight (star_of j b))
    B = apart_at (entry a (opposite m)) (straight (star_of j b)) (restart_mem (straight_restarts (star_of j b)) (ok.opposed a ra (entry b m) i rb.0))

    go : (P Q P' Q' : Star) → straight (star_of j a) ≡ P ++ entry b m ∷ Q → straight (star_of j b) ≡ P' ++ entry a (opposite m) ∷ Q' → Past j p a b m
    go P Q P' Q' s s' =
        let (l, x, y) = at_ends j ok p gp a b m ra rb small P Q P' Q' s s' ha hb in
        record {
          turn = record {
            last = l;
            room_a = ra;
            room_b = rb;
            differ = λ e. (ok.entries a ra (entry b m) i).other (sym e);
            small = small;
            swing_a = swing l (star_of j a) P Q b m small (ok.good a ra) s x;
            swing_b = swing l (star_of j b) P' Q' a (opposite m) (opposite_small m small) (ok.good b rb) s' y;
            is_the_last = is_the_last l (star_of j a) P Q b m small (ok.good a ra) s x;
          };
          beyond = go_past j ok p gp a b m ra rb small P Q P' Q' s s' l x y;
        }

module _ (j : Job) (ok : Passes j) (p : Plan) (gp : GoodPlan j p) where
  -- of a contact of a good plan that can be turned: how it turns, and that each of the two rooms goes past the other at one end
  pub past_at : {u v : ℕ} (t : Turnable j u v) → Past j p t.a t.b t.m
  past_at t =
      turn_of j ok p gp t.a t.b t.m t.room_a t.room_b t.contact (rw (length_list_of (star_of j t.a) t.m) at t.many_a)
      (rw (length_list_of (star_of j t.b) (opposite t.m)) at t.many_b)

  -- THE TURNED LABELLING, drawn or not, keeps tests 4 to 6, rooms, pairs, and who is joined
  pub turned_keeps : {u v : ℕ} (t : Turnable j u v) → Kept j (turned_by t)
  turned_keeps t = turn_keeps j t.a t.b t.m (past_at t).turn ok

  -- TURNED AGAIN AT ONCE, whichever of the two numbers is named first: the job, drawn again
  pub turned_restores : (z : Sizes) {u v : ℕ} (t : Turnable j u v)
      → (turn (turned_with t z) u v ≡ drawn (sized_job j z)) × (turn (turned_with t z) v u ≡ drawn (sized_job j z))
  turned_restores z {u} {v} t = go t.a t.b t.who (turn_again j z t.a t.b t.m (past_at t).turn)
    where
      go : (a b : ℕ) → ((a ≡ u) × (b ≡ v)) ⊎ ((a ≡ v) × (b ≡ u))
          → (turn (turned_with t z) a b ≡ drawn (sized_job j z)) × (turn (turned_with t z) b a ≡ drawn (sized_job j z))
          → (turn (turned_with t z) u v ≡ drawn (sized_job j z)) × (turn (turned_with t z) v u ≡ drawn (sized_job j z))
      go a b (inl (x, y)) s = (rw (← x, ← y) s.0, rw (← x, ← y) s.1)
      go a b (inr (x, y)) s = (rw (← x, ← y) s.1, rw (← x, ← y) s.0)
