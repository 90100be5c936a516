-- What a board as a load leaves it holds is given back, and what its stars come to where a contact is turned. Assumes nothing.
use Prim.Native.Nat.{ℕ, ◌≤◌}
use mathlib.Core.Path.{◌≡◌, refl, ap}
use mathlib.Core.Bool.{true}
use mathlib.Core.Logic.{inl, inr}
use mathlib.Core.List.{List}
use native.Mathlib.Omega.{arith}
use borrow.Author.Tests.{ne_eqb, leb-true}
use lib.Dec.{leb}
use lib.ListN.{length}
use Rattle.floor.proofs.Lists.Laws.{and_parts}
use Rattle.floor.specs.Jobs.{Job, SizedJob, sized_job, pairs_in, test2, test3, reads}
use Rattle.floor.specs.Jobs.Written.{Counts}
use Rattle.floor.specs.Jobs.Facts.{Passes}
use Rattle.floor.proofs.Jobs.Facts.{labelling_passes, of_passes}
use Rattle.floor.specs.Walls.{at}
use Rattle.floor.specs.Plans.{Plan, plan_of, held, past, test18}
use Rattle.floor.proofs.Floor.Elsewhere.{Ours}
use Rattle.floor.specs.Turns.{turning, turn, Kept}
use Rattle.floor.proofs.Turns.Restore.{turnable, turned_keeps}
use Rattle.floor.specs.Registers.{Partition, register, write_register}
use Rattle.floor.specs.Calls.{empty, holding}
use Rattle.floor.specs.Calls.Sound.{Sound}
use Rattle.floor.proofs.Calls.Sound.{sound_good, some_room}
use Rattle.floor.proofs.Calls.Always.{reads_numbered, reads_held}
use Rattle.stars.specs.Held.{job_of, no_stars, held_of}
use Rattle.stars.specs.Sized.{sizes_of, held_sizes}
use Rattle.stars.proofs.Holding.{length_stars}
use Rattle.stars.proofs.Back.{job_back}
use Rattle.stars.proofs.Sized.{sizes_back}
use Rattle.drawing.specs.Rects.{plan_in, held_plan, in_bytes}
use Rattle.drawing.specs.Drawn.{numbered_any}
use Rattle.drawing.proofs.Corollaries.{numbered_any_lem, plan_back as drawn_back}
use Rattle.registers.specs.Kept.{kept_register, register_in}
use Rattle.registers.proofs.Corollaries.{kept_right, held_back, held_written}
use Rattle.turns.specs.InPlace.{swings, swing_of, two_turned, two_put}
use Rattle.turns.proofs.TurnedStars.{held_turned}
use Rattle.board.specs.Boards.{board_for, no_board, held_job, board_of}

-- tests 2 and 3 leave at most 60 rooms and at most 360 pairs
pub few_of : (j : Job) → test2 (length j) ≡ true → test3 j ≡ true → (length j ≤ 60) × (pairs_in j ≤ 360)
unfolding test2 test3
few_of j t2 t3 = (leb-true (length j) 60 (and_parts (leb 1 (length j)) _ t2).1, leb-true (pairs_in j) 360 t3)

module _ (o : SizedJob) (p : Plan) (s : Sound o p) where
  -- a sound job has at most 60 rooms and at most 360 pairs
  pub few : (length o.stars ≤ 60) × (pairs_in o.stars ≤ 360)
  few = few_of o.stars s.pass2 s.pass3

  -- its stars, held, give back the job
  pub stars_back : job_of (held_of o.stars) ≡ o.stars
  stars_back = job_back o.stars few.0 few.1 (of_passes o.stars s.passes).0

  -- its sizes, held, are given back
  pub sizes_given : sizes_of (held_sizes o.sizes) ≡ o.sizes
  sizes_given = sizes_back o.sizes (most s.counts)
    where
      most : Counts (length o.stars) o.sizes → length o.sizes ≤ 60
      most (inl e) = rw e (omega arith)
      most (inr e) = omega (arith, few.0)

  -- its plan, held, is given back
  pub plan_back : plan_in (held_plan p) ≡ p
  plan_back = drawn_back o.stars p (sound_good o p s).floor.complete few.0

  -- at least one star is held
  pub some_star : (held_of o.stars).count ≡ 0 → ⊥
  some_star e =
      let h = held_of o.stars in
      let l : length (job_of h) ≡ h.count = unfold job_of in length_stars h.count 0 h.ends h.nbr h.kind in
      let k : length (job_of h) ≡ length o.stars = ap length stars_back in
      omega (arith, some_room o p s)

  -- the board as a load leaves it holds the job and the plan
  pub board_holds : board_of (board_for o p) ≡ holding o p
  unfolding board_of board_for held_job
  board_holds = rw (ne_eqb (held_of o.stars).count 0 some_star, stars_back, sizes_given, plan_back)

  -- on the board
  pub some_held : (board_for o p).stars.count ≡ 0 → ⊥
  unfolding board_for
  some_held = some_star

  -- its stars give back the job
  pub job_is : job_of (board_for o p).stars ≡ o.stars
  unfolding board_for
  job_is = stars_back

  -- the board's sizes are those of the job
  pub sizes_are : (board_for o p).sizes ≡ held_sizes o.sizes
  unfolding board_for
  sizes_are = refl

  -- and give them back
  pub sizes_is : sizes_of (board_for o p).sizes ≡ o.sizes
  sizes_is = rw sizes_are sizes_given

  -- its rectangles give back the plan
  pub plan_is : plan_in (board_for o p).plan ≡ p
  unfolding board_for
  plan_is = plan_back

  -- its register is kept of the plan's walls, counted afresh
  pub walls_are : (board_for o p).register ≡ kept_register (register p)
  unfolding board_for
  walls_are = ap (λ (ws : List Partition). kept_register ws) (kept_right o p s)

  -- and gives them back
  pub register_is : register_in (board_for o p).register ≡ register p
  register_is = rw walls_are (held_back o p s)

  -- written, they are the register's bytes
  pub walls_written : in_bytes (write_register (register_in (board_for o p).register)) ≡ write_register (register p)
  walls_written = rw walls_are (held_written o p s)

-- the board at first holds nothing
pub at_first : board_of no_board ≡ empty
unfolding board_of no_board no_stars
at_first = refl

-- ---- a turn

module _ (o : SizedJob) (p : Plan) (s : Sound o p) (u v : ℕ) where
  -- a turned job is given back by its stars, and numbering it, with test 18, comes to what the rules say of the turn
  pub turned_held : (i : Job) → turning o.stars u v ≡ reads i
      → (job_of (held_of i) ≡ i) × (q : Plan) × (numbered_any (sized_job i o.sizes) ≡ past (test18 q) 18 (λ _. held (sized_job i o.sizes) q))
      × (turn o u v ≡ past (test18 q) 18 (λ _. held (sized_job i o.sizes) q))
  unfolding test3
  turned_held i h =
      let (t, e) = turnable o.stars u v s.passes i h in
      let k : Kept o.stars i = rw e at (turned_keeps o.stars s.passes p (sound_good o p s) t) in
      let t2 : test2 (length i) ≡ true = rw k.rooms s.pass2 in
      let t3 : test3 i ≡ true = rw k.pairs s.pass3 in
      let (a, c) = few_of i t2 t3 in
      let ok : Passes i = labelling_passes i k.labelling in
      let n : Ours i o.sizes = reads_numbered o p s u v i h in (
        job_back i a c (of_passes i ok).0,
        plan_of i (at n.xs) (at n.ys),
        numbered_any_lem (sized_job i o.sizes) t2 ok n.xs n.ys n.is_upright n.is_level,
        reads_held o p s u v i h n.xs n.ys n.is_upright n.is_level,
      )

  -- both stars of the contact put where they stand are the turned job, held
  pub two_held : (a b t : ℕ) → swing_of o.stars u v ≡ swings a b t → two_put (board_for o p).stars a b t ≡ held_of (two_turned o.stars a b t)
  unfolding board_for
  two_held a b t f = held_turned o.stars (few o p s).0 (few o p s).1 (stars_back o p s) s.passes u v a b t f
