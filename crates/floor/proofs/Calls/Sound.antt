-- What a board holds after any calls: a job past tests 2 to 6 and 17, drawn. And what one call does to the board and to the lent buffer. Assumes nothing.
use Rattle.std.specs.Prelude.{ℕ, zero, suc, ◌<◌, ◌≡◌, refl, Bool, true, false, List, [], ◌∷◌, length}
use Rattle.std.proofs.Common.{sym, ap, ◌∙◌, subst, arith}
use Rattle.std.proofs.Math.Option.{Option, none, some}
use borrow.Author.Tests.{leb-true}
use Rattle.floor.proofs.Lists.Laws.{and_parts}
use Rattle.floor.specs.Jobs.{first_six, test2, test3, Reading, fails, reads, read_job, SixPassed, SizesPassed, sizes_pass, SizedJob, test17, write_sized}
use Rattle.floor.specs.Jobs.Facts.{Passes}
use Rattle.floor.proofs.Jobs.Facts.{labelling_passes, passes_of, of_passes, six_passed, passed_six, sizes_passed, passed_sizes}
use Rattle.floor.specs.Jobs.Written.{Counts}
use Rattle.floor.proofs.Jobs.Written.{read_test2, read_write_job, read_counts}
use Rattle.floor.specs.Walls.{at}
use Rattle.floor.specs.Plans.{Plan, Answer, refused, held, draw_read, write_plan, drawn}
use Rattle.floor.specs.Plans.Held.{Drawn}
use Rattle.floor.proofs.Plans.Held.{not_held, drawn_held, drawn_again, held_good, held_roomy}
use Rattle.floor.specs.Floor.{GoodPlan, Roomy}
use Rattle.floor.proofs.Floor.Inner.{Thin, plan_thin}
use Rattle.floor.specs.Cuts.{Tree, write_tree, plan_tree}
use Rattle.floor.specs.Registers.{register, write_register}
use Rattle.floor.specs.Turns.{turn, Kept, turned_by, turned_with}
use Rattle.floor.proofs.Turns.Restore.{asked, turned_keeps}
use Rattle.floor.specs.Narrow.{turn_narrows, first_pair, Search, nothing, pair, turn_found, narrow_once, onward, rounds, narrowed}
use Rattle.floor.specs.Calls.{load, Board, empty, holding, Call, loads, turns, narrows, rectangle, writes_job, writes_plan, Reply, refuse, after, asks, writes, step}
use Rattle.floor.specs.Calls.{slims, run, touches, writes_register, slices, writes_cuts, writes_tree}
use Rattle.floor.specs.Calls.Sound.{Sound, SoundBoard}

module _ (o : SizedJob) (p : Plan) (s : Sound o p) where
  -- a held job has at least one room
  pub some_room : 0 < length o.stars
  unfolding test2
  some_room = omega (arith, leb-true 1 (length o.stars) (and_parts _ _ s.pass2).0)

  -- the held plan is good for its job
  pub sound_good : GoodPlan o.stars p
  sound_good = held_good o s.passes some_room p s.is_drawn

  -- and every room has at least its size
  pub sound_roomy : Roomy o.stars o.sizes p
  sound_roomy = held_roomy o s.passes some_room p s.is_drawn

  -- with a frame one cell thick
  pub sound_thin : Thin p
  sound_thin = rw s.is_drawn.is_plan (plan_thin o.stars (at s.is_drawn.xs) (at s.is_drawn.ys))

-- A LOAD that holds read a job past tests 2 to 6 and 17, and drew it
draw_held : (r : Reading SizedJob) (o : SizedJob) (p : Plan) → draw_read r ≡ held o p → (r ≡ reads o) × Drawn o p
unfolding draw_read
draw_held (fails k) o p h = not_held h
draw_held (reads i) o p h = let (q, d) = drawn_held i o p h in (ap reads (sym q), rw q d)

-- what a load holds was read past tests 3 to 6 and 17, and is sound
pub load_held : (bs : List ℕ) (o : SizedJob) (p : Plan) → load bs ≡ held o p → SizesPassed (read_job bs) o × Sound o p
unfolding load
load_held bs o p h =
    let (e, d) = draw_held (sizes_pass (first_six (read_job bs))) o p h in
    let (e6, t) = sizes_passed (first_six (read_job bs)) o e in
    let s : SixPassed (read_job bs) o = six_passed (read_job bs) o e6 in (
      record { six = s; pass17 = t },
      record {
        pass2 = read_test2 bs o s.reading;
        counts = read_counts bs o s.reading;
        pass3 = s.pass3;
        passes = passes_of o.stars s.pass4 s.pass5 s.pass6;
        pass17 = t;
        is_drawn = d;
      },
    )

-- and such a job is loaded as it is drawn
pub load_drawn : (bs : List ℕ) (o : SizedJob) → SizesPassed (read_job bs) o → load bs ≡ drawn o
unfolding load draw_read
load_drawn bs o s = ap draw_read (passed_sizes (first_six (read_job bs)) o (passed_six (read_job bs) o s.six) s.pass17)

-- and such a job is loaded
pub load_six : (bs : List ℕ) (o : SizedJob) (p : Plan) → SizesPassed (read_job bs) o → Drawn o p → load bs ≡ held o p
load_six bs o p s d = load_drawn bs o s ∙ drawn_again o p d

-- a job past every test before the walls, written, is loaded as it is drawn
pub load_written : (o : SizedJob) → test2 (length o.stars) ≡ true → Counts (length o.stars) o.sizes → test3 o.stars ≡ true
    → Passes o.stars → test17 o.sizes ≡ true → load (write_sized o) ≡ drawn o
load_written o t2 c t3 ok t17 =
    let (t4, t5, t6) = of_passes o.stars ok in
    load_drawn (write_sized o) o (record {
      six = record { reading = read_write_job o t2 c; pass3 = t3; pass4 = t4; pass5 = t5; pass6 = t6 };
      pass17 = t17;
    })

-- bytes that are read as the job of a sound board are loaded, with the same plan
pub load_reads : (bs : List ℕ) (o : SizedJob) (p : Plan) → read_job bs ≡ reads o → Sound o p → load bs ≡ held o p
load_reads bs o p r s =
    let (t4, t5, t6) = of_passes o.stars s.passes in
    load_six bs o p (record { six = record { reading = r; pass3 = s.pass3; pass4 = t4; pass5 = t5; pass6 = t6 }; pass17 = s.pass17 }) s.is_drawn

-- A TURN that holds keeps what is held sound
pub turn_held : (o : SizedJob) (p : Plan) (u v : ℕ) (i : SizedJob) (q : Plan) → Sound o p → turn o u v ≡ held i q → Sound i q
unfolding test3
turn_held o p u v i q s h =
    let (t, d) = asked o u v i q s.passes h in
    let w : Kept o.stars (turned_by t) = turned_keeps o.stars s.passes p (sound_good o p s) t in
    let (e, r) = drawn_held (turned_with t o.sizes) i q d in
    rw e (record {
      pass2 = rw w.rooms s.pass2;
      counts = rw w.rooms s.counts;
      pass3 = rw w.pairs s.pass3;
      passes = labelling_passes _ w.labelling;
      pass17 = s.pass17;
      is_drawn = r;
    })

-- NARROWING keeps what is held sound: it makes nothing but turns
pub once_sound : (o : SizedJob) (p : Plan) → Sound o p → (i : SizedJob) (q : Plan) → narrow_once o p ≡ held i q → Sound i q
unfolding narrow_once
once_sound o p s i q e = found (first_pair (turn_narrows o p.width) 4 (length o.stars)) e
  where
    found : (x : Search) → turn_found o x ≡ held i q → Sound i q
    found nothing e = unfold turn_found in not_held e
    found (pair u v) e = unfold turn_found in turn_held o p u v i q s e

rounds_sound : (f : ℕ) (o : SizedJob) (p : Plan) → Sound o p → Sound (rounds f o p).job (rounds f o p).plan
unfolding rounds
rounds_sound zero o p s = s
rounds_sound (suc f) o p s = go (narrow_once o p) refl (rounds_sound f)
  where
    go : (a : Answer) → narrow_once o p ≡ a → ((i : SizedJob) (q : Plan) → Sound i q → Sound (rounds f i q).job (rounds f i q).plan)
        → Sound (onward o p a (λ i q. rounds f i q)).job (onward o p a (λ i q. rounds f i q)).plan
    go (refused k) e below = unfold onward in s
    go (held i q) e below = unfold onward in below i q (once_sound o p s i q e)

-- ONE CALL leaves a sound board sound
after_sound : (b : Board) (r : Answer) → SoundBoard b → ((o : SizedJob) (p : Plan) → r ≡ held o p → Sound o p) → SoundBoard (after b r).board
unfolding after refuse
after_sound b (refused k) s h = s
after_sound b (held o p) s h = h o p refl

-- a question leaves the board
asks_board : (b : Board) (t : Bool) (r : Reply) → (asks b t r).board ≡ b
unfolding asks refuse
asks_board b true r = refl
asks_board b false r = refl

-- a writing leaves the board
writes_board : (b : Board) (t : Bool) (bs buf : List ℕ) → (writes b t bs buf).board ≡ b
unfolding writes refuse
writes_board b true bs buf = refl
writes_board b false bs buf = refl

-- a writing of a tree of cuts leaves the board
tree_board : (b : Board) (o : Option Tree) (buf : List ℕ) → (writes_tree b o buf).board ≡ b
unfolding writes_tree refuse
tree_board b none buf = refl
tree_board b (some t) buf = writes_board b _ (write_tree t) buf

-- any one call leaves a sound board sound
pub step_sound : (b : Board) (c : Call) → SoundBoard b → SoundBoard (step b c).board
unfolding step refuse slims narrowed
step_sound b (loads bs) s = load_sound b s
  where
    load_sound : (b : Board) → SoundBoard b → SoundBoard (after b (load bs)).board
    load_sound b s = after_sound b (load bs) s (λ j p e. (load_held bs j p e).1)
step_sound empty (turns u v) s = s
step_sound empty narrows s = s
step_sound empty (rectangle v) s = s
step_sound empty (touches u v) s = s
step_sound empty (writes_job buf) s = s
step_sound empty (writes_plan buf) s = s
step_sound empty (writes_register buf) s = s
step_sound empty slices s = s
step_sound empty (writes_cuts buf) s = s
step_sound (holding i q) (turns u v) s = after_sound (holding i q) (turn i u v) s (λ j p e. turn_held i q u v j p s e)
step_sound (holding i q) narrows s = rounds_sound q.width i q s
step_sound (holding i q) (rectangle v) s = rw (asks_board (holding i q) _ _) s
step_sound (holding i q) (touches u v) s = rw (asks_board (holding i q) _ _) s
step_sound (holding i q) (writes_job buf) s = rw (writes_board (holding i q) _ (write_sized i) buf) s
step_sound (holding i q) (writes_plan buf) s = rw (writes_board (holding i q) _ (write_plan q) buf) s
step_sound (holding i q) (writes_register buf) s = rw (writes_board (holding i q) _ (write_register (register q)) buf) s
step_sound (holding i q) slices s = rw (asks_board (holding i q) _ _) s
step_sound (holding i q) (writes_cuts buf) s = rw (tree_board (holding i q) (plan_tree q) buf) s

-- ANY CALLS
pub run_sound : (b : Board) (cs : List Call) → SoundBoard b → SoundBoard (run b cs)
unfolding run
run_sound b [] s = s
run_sound b (c ∷ cs) s = run_sound (step b c).board cs (step_sound b c s)

-- what is held after any calls from an empty board is sound
pub any_calls_sound : (cs : List Call) (o : SizedJob) (p : Plan) → run empty cs ≡ holding o p → Sound o p
any_calls_sound cs o p e = subst SoundBoard e (run_sound empty cs tt)
