-- Where a board holds a job and plan as the rules leave them, narrowing the held stars comes to what the rules say. Assumes nothing.
use Prim.Native.Nat.{ℕ, zero, suc, ◌+◌, ◌≤◌, ◌<◌}
use mathlib.Core.Path.{◌≡◌, refl, sym, ap, ◌∙◌}
use mathlib.Core.Bool.{Bool, true, false, cond, ◌&&◌}
use mathlib.Core.List.{[]}
use native.Mathlib.Omega.{arith}
use borrow.Author.Tests.{ne_eqb, ltb-false}
use lib.Dec.{eqb, ltb}
use lib.ListN.{length}
use Rattle.floor.specs.Jobs.{Job, SizedJob, Reading, with_sizes}
use Rattle.floor.specs.Plans.{Plan, rect_of, overlap, held, test18, draw_read}
use Rattle.floor.proofs.Plans.Held.{not_held, past_held}
use Rattle.floor.specs.Turns.{turn}
use Rattle.floor.specs.Calls.{made, slims}
use Rattle.floor.specs.Calls.Sound.{Sound}
use Rattle.floor.specs.Narrow.{Described, Search, nothing, pair, first_with, first_pair, stacked, narrower, turn_narrows, Narrows, turn_found, narrow_once, Slim, onward, rounds, narrowed}
use Rattle.floor.proofs.Narrow.Found.{Pairs, pairs, narrows_of}
use Rattle.floor.proofs.Narrow.Result.{Slimmed, narrows_sound, narrows_sizes, narrowed_slim}
use Rattle.floor.proofs.Narrow.Hopeless.{over_long}
use Rattle.stars.specs.declared.Stars.{Stars}
use Rattle.stars.specs.Held.{job_of, held_of}
use Rattle.stars.specs.Sized.{sizes_of}
use Rattle.stars.proofs.Holding.{length_stars}
use Rattle.drawing.specs.Rects.{held_plan}
use Rattle.drawing.specs.Drawn.{kept}
use Rattle.turns.specs.InPlace.{Swing, stops, swings, swing_of, two_turned, turned_job, swung_in, turned_in, two_put}
use Rattle.turns.proofs.Placing.{turning_swings}
use Rattle.narrowing.specs.Slims.{turned_stars, brief, swung_to, tried, slims_by, first_slims, Slimmer, once_more, onward_from, rounds_from, slimmed}
use Rattle.board.specs.declared.Board.{Board as HeldBoard}
use Rattle.board.specs.Boards.{board_for, handed, as_rules, slim_board, slimmed_to}
use Rattle.board.proofs.Given.{stars_back, plan_back, turned_held, two_held, sizes_given}

-- ---- a search goes by its tests alone

-- of one row
rows_alike : (f g : ℕ → ℕ → Bool) (u v k : ℕ) → ((b : ℕ) → v ≤ b → b < v + k → f u b ≡ g u b) → first_with f u v k ≡ first_with g u v k
unfolding first_with
rows_alike f g u v zero h = refl
rows_alike f g u v (suc k) h =
    rw (h v (omega arith) (omega arith), rows_alike f g u (suc v) k (λ b l m. h b (omega arith) (omega arith)))

-- of all pairs
pub pairs_alike : (f g : ℕ → ℕ → Bool) (u k : ℕ) → ((a b : ℕ) → u ≤ a → a < b → b < u + k → f a b ≡ g a b) → first_pair f u k ≡ first_pair g u k
unfolding first_pair
pairs_alike f g u zero h = refl
pairs_alike f g u (suc k) h =
    rw (
      rows_alike f g u (suc u) k (λ b l m. h u b (omega arith) (omega arith) (omega arith)),
      pairs_alike f g (suc u) k (λ a b l m n. h a b (omega arith) m (omega arith)),
    )

-- ---- a pair tried

module _ (o : SizedJob) (p : Plan) (s : Sound o p) where
  -- the stars that hold the job
  abbrev h : Stars
  h = held_of o.stars

  -- the contact turned in them: the stars that hold the turned job
  swung_held : (u v a b t : ℕ) → swing_of o.stars u v ≡ swings a b t → turned_stars h u v ≡ held_of (two_turned o.stars a b t)
  unfolding turned_stars turned_in board_for
  swung_held u v a b t f = put ∙ two_held o p s u v a b t f
    where
      so : swing_of (job_of h) u v ≡ swings a b t
      so = rw (stars_back o p s) f

      put : turned_stars h u v ≡ two_put h a b t
      put = unfold two_put job_of swung_in in
          ap (λ (x : Swing). record { count = h.count; ends = h.ends; nbr = h.nbr; kind = swung_in h.ends h.nbr h.kind x }) so

  -- TRYING A PAIR COMES TO THE TURN
  tried_turn : (u v : ℕ) → tried h o.sizes u v ≡ turn o u v
  unfolding tried swung_to turn draw_read with_sizes turned_job
  tried_turn u v = rw (stars_back o p s) (go (swing_of o.stars u v) refl)
    where
      go : (x : Swing) → swing_of o.stars u v ≡ x → swung_to h o.sizes u v x ≡ turn o u v
      go (stops k) f = sym (ap (λ (r : Reading Job). draw_read (with_sizes o.sizes r)) (turning_swings o.stars u v ∙ ap (turned_job o.stars) f))
      go (swings a b t) f =
          let (back, q, is, so) = turned_held o p s u v (two_turned o.stars a b t) (turning_swings o.stars u v ∙ ap (turned_job o.stars) f) in
          rw (swung_held u v a b t f, back, is, so)

  -- THE TEST OF A PAIR OF ROOMS is that of the rules: of a pair that shares two cells' length or more the turn need not be tried
  slims_so : (u v : ℕ) → 4 ≤ u → u < v → v < 4 + length o.stars → slims_by h o.sizes (held_plan p) u v ≡ turn_narrows o p.width u v
  unfolding slims_by turn_narrows brief held_plan
  slims_so u v l m n =
      rw (stars_back o p s, plan_back o p s, tried_turn u v) (go (ltb (overlap (rect_of p u).x1 (rect_of p u).x2 (rect_of p v).x1 (rect_of p v).x2) 2) refl)
    where
      none : (b : Bool) → (b && false) ≡ false
      none true = refl
      none false = refl

      go : (b : Bool) → ltb (overlap (rect_of p u).x1 (rect_of p u).x2 (rect_of p v).x1 (rect_of p v).x2) 2 ≡ b
          → (stacked o.stars u v && (b && narrower p.width (turn o u v))) ≡ (stacked o.stars u v && narrower p.width (turn o u v))
      go true e = refl
      go false e =
          let k : 2 ≤ overlap (rect_of p u).x1 (rect_of p u).x2 (rect_of p v).x1 (rect_of p v).x2 = omega (arith, ltb-false (overlap (rect_of p u).x1 (rect_of p u).x2 (rect_of p v).x1 (rect_of p v).x2) 2 e) in
          none (stacked o.stars u v) ∙ sym (over_long o p s u v (l, omega arith) (omega arith, omega arith) m k)

  -- as many stars are held as the job has rooms
  count_so : h.count ≡ length o.stars
  count_so =
      let l : length (job_of h) ≡ h.count = unfold job_of in length_stars h.count 0 h.ends h.nbr h.kind in
      sym l ∙ ap length (stars_back o p s)

  -- THE SAME PAIR IS FOUND
  found_so : first_slims h o.sizes (held_plan p) ≡ first_pair (turn_narrows o p.width) 4 (length o.stars)
  unfolding first_slims
  found_so =
      ap (first_pair (slims_by h o.sizes (held_plan p)) 4) count_so
      ∙ pairs_alike (slims_by h o.sizes (held_plan p)) (turn_narrows o p.width) 4 (length o.stars) slims_so

  -- what is held after a turn that is accepted
  turned_so : (u v : ℕ) (i : SizedJob) (q : Plan) → turn o u v ≡ held i q → turned_stars h u v ≡ held_of i.stars
  unfolding turn draw_read with_sizes turned_job
  turned_so u v i q e = go (swing_of o.stars u v) refl
    where
      stars_of : {a c : SizedJob} {b d : Plan} → held a b ≡ held c d → a.stars ≡ c.stars
      stars_of e = cc

      go : (x : Swing) → swing_of o.stars u v ≡ x → turned_stars h u v ≡ held_of i.stars
      go (stops k) f =
          not_held (sym (ap (λ (r : Reading Job). draw_read (with_sizes o.sizes r)) (turning_swings o.stars u v ∙ ap (turned_job o.stars) f)) ∙ e)
      go (swings a b t) f =
          let (back, r, is, so) = turned_held o p s u v (two_turned o.stars a b t) (turning_swings o.stars u v ∙ ap (turned_job o.stars) f) in
          swung_held u v a b t f ∙ ap held_of (stars_of (past_held (test18 r) 18 _ (sym so ∙ e)).1)

-- ---- rounds

-- what the rules hold after some turns, as stars and a plan are held
unfoldable held_slim : Slim → Slimmer
held_slim r = record { stars = held_of r.job.stars; plan = held_plan r.plan; turns = r.turns }

-- one turn, and the rounds that follow it
one_round : (f : ℕ) (o : SizedJob) (p : Plan) → Sound o p → (u v : ℕ) (i : SizedJob) (q : Plan) → Narrows o p u v i q → narrow_once o p ≡ held i q
    → rounds_from f (held_of i.stars) i.sizes (held_plan q) ≡ held_slim (rounds f i q)
    → onward_from (held_of o.stars) o.sizes (held_plan p) (pair u v) (λ i q. rounds_from f i o.sizes q)
    ≡ held_slim (onward o p (narrow_once o p) (λ i q. rounds f i q))
unfolding onward_from onward kept held_slim
one_round f o p s u v i q n once below =
    let sizes : rounds_from f (held_of i.stars) o.sizes (held_plan q) ≡ held_slim (rounds f i q)
    = ap (λ z. rounds_from f (held_of i.stars) z (held_plan q)) (sym (narrows_sizes o p s u v i q n)) ∙ below in
    rw (once, tried_turn o p s u v, n.accepted, turned_so o p s u v i q n.accepted) (ap once_more sizes)

-- NO MORE THAN SO MANY ROUNDS, of the stars as of the job
rounds_so : (f : ℕ) (o : SizedJob) (p : Plan) → Sound o p → rounds_from f (held_of o.stars) o.sizes (held_plan p) ≡ held_slim (rounds f o p)
unfolding rounds_from rounds
rounds_so zero o p s = unfold held_slim in refl
rounds_so (suc f) o p s = rw (found_so o p s) (go (first_pair (turn_narrows o p.width) 4 (length o.stars)) refl (pairs (turn_narrows o p.width) 4 (length o.stars)) (rounds_so f))
  where
    go : (x : Search) → first_pair (turn_narrows o p.width) 4 (length o.stars) ≡ x → Pairs (turn_narrows o p.width) 4 (length o.stars) x
        → ((i : SizedJob) (q : Plan) → Sound i q → rounds_from f (held_of i.stars) i.sizes (held_plan q) ≡ held_slim (rounds f i q))
        → onward_from (held_of o.stars) o.sizes (held_plan p) x (λ i q. rounds_from f i o.sizes q) ≡ held_slim (onward o p (narrow_once o p) (λ i q. rounds f i q))
    go nothing e x below = unfold narrow_once onward_from onward turn_found held_slim in rw e
    go (pair u v) e x below =
        let (i, q, n) = narrows_of o s.passes p u v (x.0, omega (arith, x.1, x.2)) (omega (arith, x.0, x.1), omega (arith, x.2)) x.1 x.3 in
        one_round f o p s u v i q n (unfold narrow_once turn_found in ap (turn_found o) e ∙ n.accepted) (below i q (narrows_sound o p s u v i q n))

-- THE HELD STARS NARROWED
slimmed_so : (o : SizedJob) (p : Plan) → Sound o p → slimmed (held_of o.stars) o.sizes (held_plan p) ≡ held_slim (narrowed o p)
unfolding slimmed narrowed held_plan
slimmed_so o p s = rounds_so p.width o p s

-- what is held of it is the board of what the rules hold, with no turn made the very board
board_so : (o : SizedJob) (p : Plan) (n : ℕ) (i : SizedJob) (q : Plan) → Sound i q → i.sizes ≡ o.sizes → Described n o p i q
    → cond (eqb n 0) (board_for o p) (slim_board (board_for o p) (held_slim (record { job = i; plan = q; turns = n }))) ≡ board_for i q
unfolding slim_board held_slim board_for
board_so o p zero i q s e d = rw (d.0, d.1)
board_so o p (suc n) i q s e d = rw (ne_eqb (suc n) 0 (λ z. omega arith), plan_back i q s, e)

-- NARROWING WHERE A BOARD STANDS does what the rules say
pub narrow_rules : (o : SizedJob) (p : Plan) → Sound o p
    → slimmed_to (board_for o p) (slimmed (board_for o p).stars (sizes_of (board_for o p).sizes) (board_for o p).plan) ≡ as_rules (board_for o p) (slims (narrowed o p))
unfolding held_slim
narrow_rules o p s = ap (slimmed_to (board_for o p)) held_slim_lem ∙ whole (narrowed o p) (narrowed_slim o p s)
  where
    held_slim_lem : slimmed (board_for o p).stars (sizes_of (board_for o p).sizes) (board_for o p).plan ≡ held_slim (narrowed o p)
    held_slim_lem = unfold board_for in rw (sizes_given o p s) (slimmed_so o p s)

    whole : (r : Slim) → Slimmed o p r → slimmed_to (board_for o p) (held_slim r) ≡ as_rules (board_for o p) (slims r)
    whole r x = unfold slimmed_to as_rules slims handed in ap (λ (b : HeldBoard). record { board = b; reply = made r.turns; buffer = [] }) (board_so o p r.turns r.job r.plan x.sound x.sizes x.described)
