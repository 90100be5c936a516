-- A turn of a good plan that gets past 11 and 12 is drawn: its turned labelling has its numbers, and the plan by them is good. Assumes nothing.
use Rattle.std.specs.Prelude.{ℕ, ◌+◌, ◌-◌, ◌≤◌, ◌<◌, ◌≡◌, ◌⊎◌, Bool, true, not, get_or, length}
use Rattle.std.proofs.Math.Path.{refl, ap, fun_ext}
use Rattle.std.proofs.Common.{sym, ◌∙◌, subst, inl, inr, arith}
use Rattle.std.proofs.Math.Bool.{false}
use mathlib.Core.List.{List, [], ◌∷◌, ◌++◌, map, Memᴰ}
use Rattle.floor.specs.Jobs.{Entry, Star, Job, Room, opposite, star_of, Sizes}
use Rattle.floor.specs.Jobs.Stars.{entry}
use Rattle.floor.specs.Jobs.Facts.{Passes}
use Rattle.floor.proofs.Jobs.Facts.{star_at, star_room, labelling_passes}
use Rattle.floor.specs.Walls.{Numbers, upright, level, rules, at}
use Rattle.floor.proofs.Walls.Walk.{unique}
use Rattle.floor.proofs.Walls.Rules.{Obeys, obeys_respects, numbered, numbers_are, to_vertex}
use Rattle.floor.specs.Plans.{Plan, plan_of, drawable}
use Rattle.floor.specs.Floor.{GoodPlan, Roomy}
use Rattle.floor.proofs.Floor.Sides.{Side, up, left, down, right, next, opp, prev, Piece, side, room, Stars, Good, Tri}
use Rattle.floor.proofs.Floor.Whole.{local_good}
use Rattle.floor.proofs.Floor.Again.{good_tri, fits_local}
use Rattle.floor.proofs.Floor.Read.{num, number, piece, piece_room, number_piece, piece_number, few_sides, opposite_num, standing, stars_of, mem_entry}
use Rattle.floor.proofs.Floor.Read.{entry_mem, lawful}
use Rattle.floor.proofs.Floor.Placed.{reach, place_of}
use Rattle.floor.proofs.Floor.Bridge.{plan_good, good_plan}
use Rattle.floor.proofs.Floor.Ours.{plan_complete, plan_fits, plan_roomy}
use Rattle.floor.proofs.Floor.Tested.{good_drawable}
use Rattle.floor.proofs.Floor.Elsewhere.{Ours}
use Rattle.floor.specs.Turns.{turned_kind, turned, Kept, Turnable, turned_by}
use Rattle.floor.proofs.Turns.Swing.{Swing}
use Rattle.floor.proofs.Turns.Ends.{Beyond}
use Rattle.floor.proofs.Turns.Turned.{Turn, Entered, new_a, new_b, old, turn_entered, turn_kept, turn_star_a, turn_star_b, turn_else, turn_keeps}
use Rattle.floor.proofs.Turns.Restore.{Past, past_at, turned_keeps}
use Rattle.floor.proofs.Turns.Shift.{transposed}
use Rattle.floor.proofs.Turns.Numbered.{view_of, Both, Swings, back, ahead, swung_obeys, right_up, up_right, sees_right_up, sees_up_right, fitted_right_up}
use Rattle.floor.proofs.Turns.Numbered.{fitted_up_right}
use Rattle.floor.proofs.Turns.Around.{turn_to, Moves, Turns, turned_tri}

-- the kind that a contact of side k takes
kind_to : (l : Bool) (k : Side) → turned_kind (num k) l ≡ num (turn_to l k)
unfolding turned_kind
kind_to true up = refl
kind_to true left = refl
kind_to true down = refl
kind_to true right = refl
kind_to false up = refl
kind_to false left = refl
kind_to false down = refl
kind_to false right = refl

-- the kinds of different sides differ
next_kind : (k : Side) → num k ≡ num (next k) → ⊥
next_kind up e = omega arith
next_kind left e = omega arith
next_kind down e = omega arith
next_kind right e = omega arith

-- the kind of a side is not that of the opposite side
opp_kind : (k : Side) → num k ≡ num (opp k) → ⊥
opp_kind up e = omega arith
opp_kind left e = omega arith
opp_kind down e = omega arith
opp_kind right e = omega arith

-- the kind of a side is not that of the side before
prev_kind : (k : Side) → num k ≡ num (prev k) → ⊥
prev_kind up e = omega arith
prev_kind left e = omega arith
prev_kind down e = omega arith
prev_kind right e = omega arith

-- the pieces of a list with one more at its end are those of the list, and then that one's
map_end : (l : List ℕ) (v : ℕ) → map piece (l ++ v ∷ []) ≡ map piece l ++ piece v ∷ []
map_end [] v = refl
map_end (x ∷ l) v = ap (λ (m : List Piece). piece x ∷ m) (map_end l v)

-- what a star that swings does to its room's lists
moves_of : (l : Bool) (k : Side) (s : Star) (v : ℕ) (w : Swing s v (num k) (turned_kind (num k) l) (not l)) (S T : Stars) (r : ℕ)
    → ((c : Side) → S.list c r ≡ map piece (standing s (num c))) → ((c : Side) → T.list c r ≡ map piece (standing w.star (num c)))
    → Moves l S T k r (piece v)
moves_of true k s v w S T r f g = (
  f k ∙ ap (map piece) w.gives ∙ map_end (standing w.star (num k)) v ∙ ap (λ (m : List Piece). m ++ piece v ∷ []) (sym (g k)),
  g (next k) ∙ ap (map piece) (rw (kind_to true k) at w.takes) ∙ ap (λ (m : List Piece). piece v ∷ m) (sym (f (next k))),
  g (opp k) ∙ ap (map piece) (w.others (num (opp k)) (opp_kind k) (λ e. next_kind (next k) (sym (kind_to true k) ∙ e))) ∙ sym (f (opp k)),
  g (prev k) ∙ ap (map piece) (w.others (num (prev k)) (prev_kind k) (λ e. opp_kind (next k) (sym (kind_to true k) ∙ e))) ∙ sym (f (prev k)),
)
moves_of false k s v w S T r f g = (
  f k ∙ ap (map piece) w.gives ∙ ap (λ (m : List Piece). piece v ∷ m) (sym (g k)),
  g (prev k) ∙ ap (map piece) (rw (kind_to false k) at w.takes) ∙ map_end (standing s (num (prev k))) v
      ∙ ap (λ (m : List Piece). m ++ piece v ∷ []) (sym (f (prev k))),
  g (opp k) ∙ ap (map piece) (w.others (num (opp k)) (opp_kind k) (λ e. next_kind (opp k) (sym e ∙ kind_to false k))) ∙ sym (f (opp k)),
  g (next k) ∙ ap (map piece) (w.others (num (next k)) (next_kind k) (λ e. opp_kind (next k) (sym e ∙ kind_to false k))) ∙ sym (f (next k)),
)

-- the same, where the kind is given as a number, that of side k
moves_at : (l : Bool) (k : Side) (n : ℕ) → num k ≡ n → (s : Star) (v : ℕ) (w : Swing s v n (turned_kind n l) (not l)) (S T : Stars) (r : ℕ)
    → ((c : Side) → S.list c r ≡ map piece (standing s (num c))) → ((c : Side) → T.list c r ≡ map piece (standing w.star (num c)))
    → Moves l S T k r (piece v)
moves_at l k n e s v w S T r f g =
    subst (λ n. (w : Swing s v n (turned_kind n l) (not l)) → ((c : Side) → T.list c r ≡ map piece (standing w.star (num c))) → Moves l S T k r (piece v))
    e (λ w g. moves_of l k s v w S T r f g) w g

-- the piece of a room
room_piece : (j : Job) (u : ℕ) → Room j u → piece u ≡ room (u - 4)
room_piece j u r = let e : 4 + (u - 4) ≡ u = omega (arith, r.0) in rw e at (piece_room (u - 4))

module _ (j : Job) (ok : Passes j) (p : Plan) (gp : GoodPlan j p) (a b : ℕ) (k : Side) (T : Turn j a b (num k))
    (beyond : Beyond (place_of p) T.last k (piece a) (piece b)) (contact : Memᴰ (entry b (num k)) (star_of j a)) where
  -- the turned job
  abbrev i : Job
  i = turned j a b (num k)

  -- the turned job keeps tests 4 to 6, rooms, pairs, and who is joined
  kept_job : Kept j i
  kept_job = turn_keeps j a b (num k) T ok

  -- the piece of a is the room at its place in the job
  a_is : piece a ≡ room (a - 4)
  a_is = room_piece j a T.room_a

  -- the piece of b is the room at its place in the job
  b_is : piece b ≡ room (b - 4)
  b_is = room_piece j b T.room_b

  -- who stands in a list
  listed : (h : Job) (w : ℕ) → 4 ≤ w → (e : Entry) → Memᴰ e (star_of h w) → (c : Side) → e.kind ≡ num c
      → Memᴰ (piece e.to) ((stars_of h).list c (w - 4))
  unfolding stars_of
  listed h w l e m c q = entry_mem (get_or h (w - 4) []) (num c) e (rw (star_room h w l) at m) q

  -- the lists of a room are those of its star
  list_is : (h : Job) (w : ℕ) → 4 ≤ w → (s : Star) → star_of h w ≡ s → (c : Side) → (stars_of h).list c (w - 4) ≡ map piece (standing s (num c))
  unfolding stars_of
  list_is h w l s q c = ap (λ (z : Star). map piece (standing z (num c))) (sym (star_room h w l) ∙ q)

  -- the stars of the turned job are those of the job, the contact of a and b turned
  turns : Turns (stars_of j) (stars_of i) (place_of p) T.last k (a - 4) (b - 4)
  unfolding stars_of
  turns = record {
    count = kept_job.rooms;
    in_a = omega (arith, T.room_a.0, T.room_a.1);
    in_b = omega (arith, T.room_b.0, T.room_b.1);
    contact = rw b_is at (listed j a T.room_a.0 (entry b (num k)) contact k refl);
    contact' = rw a_is at (listed j b T.room_b.0 (entry a (opposite (num k)))
        (ok.opposed a T.room_a (entry b (num k)) contact T.room_b.0) (opp k) (opposite_num k));
    made = rw b_is at (listed i a T.room_a.0 (entry b (turned_kind (num k) T.last)) (rw (turn_star_a j a b (num k) T) T.swing_a.here)
        (turn_to T.last k) (kind_to T.last k));
    made' = rw a_is at (listed i b T.room_b.0 (entry a (turned_kind (opposite (num k)) T.last))
        (rw (turn_star_b j a b (num k) T) T.swing_b.here)
        (turn_to T.last (opp k)) (ap (λ n. turned_kind n T.last) (opposite_num k) ∙ kind_to T.last (opp k)));
    beyond = rw (a_is, b_is) at beyond;
    moves = rw b_is at (moves_at T.last k (num k) refl (star_of j a) b T.swing_a (stars_of j) (stars_of i) (a - 4)
        (list_is j a T.room_a.0 (star_of j a) refl) (list_is i a T.room_a.0 T.swing_a.star (turn_star_a j a b (num k) T)));
    moves' = rw a_is at (moves_at T.last (opp k) (opposite (num k)) (sym (opposite_num k)) (star_of j b) a T.swing_b (stars_of j) (stars_of i) (b - 4)
        (list_is j b T.room_b.0 (star_of j b) refl) (list_is i b T.room_b.0 T.swing_b.star (turn_star_b j a b (num k) T)));
    others = λ c r na nb. others c r na nb;
    kept = λ c r v m na nb. keeps c r v m na nb;
    frame = λ c r f m. was c r f m;
  }
    where
      others : (c : Side) (r : ℕ) → (r ≡ a - 4 → ⊥) → (r ≡ b - 4 → ⊥)
          → map piece (standing (get_or i r []) (num c)) ≡ map piece (standing (get_or j r []) (num c))
      others c r na nb =
          ap (λ (z : Star). map piece (standing z (num c)))
          (sym (star_at i r) ∙ turn_else j a b (num k) T (4 + r) (λ e. na (omega arith)) (λ e. nb (omega arith)) ∙ star_at j r)

      keeps : (c : Side) (r : ℕ) (v : Piece) → Memᴰ v (map piece (standing (get_or j r []) (num c)))
          → (r ≡ a - 4 → v ≡ room (b - 4) → ⊥) → (r ≡ b - 4 → v ≡ room (a - 4) → ⊥) → Memᴰ v (map piece (standing (get_or i r []) (num c)))
      keeps c r v m na nb = let (e, me, ke, te) = mem_entry v (get_or j r []) (num c) m in go e me ke te
        where
          go : (e : Entry) → Memᴰ e (get_or j r []) → e.kind ≡ num c → e.to ≡ number v → Memᴰ v (map piece (standing (get_or i r []) (num c)))
          go e me ke te =
              let is : piece e.to ≡ v = ap piece te ∙ piece_number v in
              let n : Memᴰ e (star_of i (4 + r)) = turn_kept j a b (num k) T (4 + r) e (rw (star_at j r) me)
              (λ x y. na (omega arith) (sym is ∙ ap piece y ∙ b_is)) (λ x y. nb (omega arith) (sym is ∙ ap piece y ∙ a_is)) in
              rw is at (entry_mem (get_or i r []) (num c) e (rw (star_at i r) at n) ke)

      was : (c : Side) (r : ℕ) (f : Side) → Memᴰ (side f) (map piece (standing (get_or i r []) (num c)))
          → Memᴰ (side f) (map piece (standing (get_or j r []) (num c)))
      was c r f m =
          let (e, me, ke, te) = mem_entry (side f) (get_or i r []) (num c) m in
          go e ke te (turn_entered j a b (num k) T (4 + r) e (rw (star_at i r) me))
        where
          go : (e : Entry) → e.kind ≡ num c → e.to ≡ num f
              → Entered j a b (turned_kind (num k) T.last) (turned_kind (opposite (num k)) T.last) (4 + r) e
              → Memᴰ (side f) (map piece (standing (get_or j r []) (num c)))
          go e ke te (new_a x y z) = absurd (omega (arith, few_sides f, T.room_b.0))
          go e ke te (new_b x y z) = absurd (omega (arith, few_sides f, T.room_a.0))
          go e ke te (old n x y) = rw (ap piece te ∙ piece_number (side f)) at (entry_mem (get_or j r []) (num c) e (rw (star_at j r) at n) ke)

  -- THE TURNED STARS CLOSE
  tri : Tri (stars_of i)
  tri =
      let g : Good (stars_of j) (place_of p) = plan_good j ok p gp in
      turned_tri (stars_of j) (stars_of i) (lawful j ok) (lawful i (labelling_passes i kept_job.labelling)) (place_of p) g (good_tri (stars_of j) (lawful j ok) (place_of p) g)
      T.last k (a - 4) (b - 4) turns

  -- THE PLAN BY THE TURNED LABELLING'S NUMBERS IS GOOD, where numbers can be put
  ours : (z : Sizes) (x y : ℕ → ℕ) → Obeys upright x i z → Obeys level y i z → Ours i z
  ours z x y ox oy =
      let oki : Passes i = labelling_passes i kept_job.labelling in
      let (f, ef) = numbered upright i z (to_vertex i oki) x (obeys_respects upright x i z ox) in
      let (h, eh) = numbered level i z (to_vertex i oki) y (obeys_respects level y i z oy) in
      let nf : Numbers (rules upright i z) (at f) = numbers_are upright i z (to_vertex i oki) f ef in
      let nh : Numbers (rules level i z) (at h) = numbers_are level i z (to_vertex i oki) h eh in
      let some_room : 0 < length i = omega (arith, kept_job.rooms, T.room_a.0, T.room_a.1) in
      record {
        xs = f;
        ys = h;
        is_upright = ef;
        is_level = eh;
        good = good_plan i oki (plan_of i (at f) (at h)) (plan_complete i (at f) (at h))
            (local_good (stars_of i) (place_of (plan_of i (at f) (at h))) (lawful i oki)
            (fits_local (stars_of i) (lawful i oki) tri (place_of (plan_of i (at f) (at h)))
            (plan_fits i z oki some_room (at f) (at h) nf nh)));
        roomy = plan_roomy i z oki some_room (at f) (at h) nf nh;
      }

module _ (j : Job) (z : Sizes) (ok : Passes j) (p : Plan) (gp : GoodPlan j p) (large : Roomy j z p) (a b : ℕ) where
  -- above, b goes past a to the left and turns there, or to the right
  pub both_above : (T : Turn j a b 0) → Beyond (place_of p) T.last up (piece a) (piece b) → Memᴰ (entry b 0) (star_of j a)
      → Both (turned j a b 0) z (view_of j ok p gp) upright level
  both_above T by m =
      swung_obeys j z ok (turned j a b 0) (turn_keeps j a b 0 T ok).rooms (view_of j ok p gp) right_up (sees_right_up j ok p gp)
      (fitted_right_up j ok p gp z large) a b
      (turned_kind 0 T.last) (turned_kind (opposite 0) T.last) T.room_a T.room_b
      ((sees_right_up j ok p gp).is_over a T.room_a (entry b 0) m refl) (turn_entered j a b 0 T) (swings T.last by)
    where
      swings : (l : Bool) → Beyond (place_of p) l up (piece a) (piece b)
          → Swings (view_of j ok p gp) right_up a b (turned_kind 0 l) (turned_kind (opposite 0) l)
      swings true x = unfold view_of turned_kind opposite place_of reach in
          (back refl refl (let y = rw (number_piece a, number_piece b) at x.0 in omega arith) (rw (number_piece a, number_piece b) at x.1))
      swings false x = unfold view_of turned_kind opposite place_of reach in
          (ahead refl refl (let y = rw (number_piece a, number_piece b) at x.1 in omega arith) (rw (number_piece a, number_piece b) at x.0))

  -- to the right, b goes past a upwards and turns there, or downwards
  pub both_right : (T : Turn j a b 3) → Beyond (place_of p) T.last right (piece a) (piece b) → Memᴰ (entry b 3) (star_of j a)
      → Both (turned j a b 3) z (transposed (view_of j ok p gp)) level upright
  both_right T by m =
      swung_obeys j z ok (turned j a b 3) (turn_keeps j a b 3 T ok).rooms (transposed (view_of j ok p gp)) up_right (sees_up_right j ok p gp)
      (fitted_up_right j ok p gp z large) a b
      (turned_kind 3 T.last) (turned_kind (opposite 3) T.last) T.room_a T.room_b
      ((sees_up_right j ok p gp).is_over a T.room_a (entry b 3) m refl) (turn_entered j a b 3 T) (swings T.last by)
    where
      swings : (l : Bool) → Beyond (place_of p) l right (piece a) (piece b)
          → Swings (transposed (view_of j ok p gp)) up_right a b (turned_kind 3 l) (turned_kind (opposite 3) l)
      swings true x = unfold view_of transposed turned_kind opposite place_of reach in
          (ahead refl refl (let y = rw (number_piece a, number_piece b) at x.1 in omega arith) (rw (number_piece a, number_piece b) at x.0))
      swings false x = unfold view_of transposed turned_kind opposite place_of reach in
          (back refl refl (let y = rw (number_piece a, number_piece b) at x.0 in omega arith) (rw (number_piece a, number_piece b) at x.1))

  -- a contact above, turned: the turned job has its numbers, in both directions, and the plan by them is good
  ours_above : (T : Turn j a b 0) → Beyond (place_of p) T.last up (piece a) (piece b) → Memᴰ (entry b 0) (star_of j a) → Ours (turned j a b 0) z
  ours_above T by m =
      let w : Both (turned j a b 0) z (view_of j ok p gp) upright level = both_above T by m in
      ours j ok p gp a b up T by m z w.xs w.ys w.obeys_first w.obeys_second

  -- a contact to the right, turned: the turned job has its numbers, in both directions, and the plan by them is good
  ours_right : (T : Turn j a b 3) → Beyond (place_of p) T.last right (piece a) (piece b) → Memᴰ (entry b 3) (star_of j a) → Ours (turned j a b 3) z
  ours_right T by m =
      let w : Both (turned j a b 3) z (transposed (view_of j ok p gp)) level upright = both_right T by m in
      ours j ok p gp a b right T by m z w.ys w.xs w.obeys_second w.obeys_first

  -- a contact above or to the right, turned: the turned job has its numbers, in both directions, and the plan by them is good
  ours_of : (m : ℕ) → (m ≡ 0) ⊎ (m ≡ 3) → Past j p a b m → Memᴰ (entry b m) (star_of j a) → Ours (turned j a b m) z
  ours_of m (inl e) =
      subst (λ m. Past j p a b m → Memᴰ (entry b m) (star_of j a) → Ours (turned j a b m) z) (sym e) (λ x i. ours_above x.turn (x.beyond up refl) i)
  ours_of m (inr e) =
      subst (λ m. Past j p a b m → Memᴰ (entry b m) (star_of j a) → Ours (turned j a b m) z) (sym e) (λ x i. ours_right x.turn (x.beyond right refl) i)

-- EVERY CONTACT OF A GOOD PLAN THAT CAN BE TURNED, its rooms of at least their least sizes: the turned labelling has its numbers, in both directions, and
-- the plan by them is good
pub turned_ours : (j : Job) (z : Sizes) (ok : Passes j) (p : Plan) (gp : GoodPlan j p) → Roomy j z p → {u v : ℕ} (t : Turnable j u v) → Ours (turned_by t) z
turned_ours j z ok p gp large t = ours_of j z ok p gp large t.a t.b t.m t.above_or_right (past_at j ok p gp t) t.contact

-- IT PASSES THE DRAWING TEST
pub turned_draws : (j : Job) (z : Sizes) (ok : Passes j) (p : Plan) (gp : GoodPlan j p) → Roomy j z p → {u v : ℕ} (t : Turnable j u v) (f g : ℕ → ℕ)
    → Numbers (rules upright (turned_by t) z) f → Numbers (rules level (turned_by t) z) g → drawable (turned_by t) (plan_of (turned_by t) f g) ≡ true
turned_draws j z ok p gp large t f g nf ng =
    let o : Ours (turned_by t) z = turned_ours j z ok p gp large t in
    let k : Passes (turned_by t) = labelling_passes (turned_by t) (turned_keeps j ok p gp t).labelling in
    let ef : f ≡ at o.xs = fun_ext (λ s. unique (rules upright (turned_by t) z) f (at o.xs) nf
    (numbers_are upright (turned_by t) z (to_vertex (turned_by t) k) o.xs o.is_upright) s) in
    let eg : g ≡ at o.ys = fun_ext (λ s. unique (rules level (turned_by t) z) g (at o.ys) ng
    (numbers_are level (turned_by t) z (to_vertex (turned_by t) k) o.ys o.is_level) s) in
    rw (ef, eg) (good_drawable (turned_by t) k (plan_of (turned_by t) (at o.xs) (at o.ys)) (plan_complete (turned_by t) (at o.xs) (at o.ys)) o.good)
