-- The boards that hold a job and plan as the rules leave them: there the outcome of a call is that of the rules. Assumes nothing.
use Prim.Native.Nat.{ℕ}
use mathlib.Core.Path.{◌≡◌, refl, sym, ap, ◌∙◌}
use mathlib.Core.Bool.{Bool, true, false}
use mathlib.Core.Option.{Option, none, some}
use mathlib.Core.List.{List}
use native.Mathlib.Omega.{arith}
use borrow.Author.Tests.{ne_eqb}
use lib.Dec.{leb}
use lib.ListN.{length}
use Rattle.floor.specs.Jobs.{Job, SizedJob, sized_job, Reading, with_sizes, write_sized}
use Rattle.floor.specs.Plans.{Plan, Answer, refused, held, past, test18, draw_read, write_plan}
use Rattle.floor.specs.Turns.{turn}
use Rattle.floor.specs.Registers.{register, write_register}
use Rattle.floor.specs.Cuts.{Tree, write_tree, plan_tree, is_tree}
use Rattle.floor.specs.Calls.{load, Board, empty, holding, Call, loads, turns, narrows, rectangle, touches, writes_job, writes_plan, writes_register, slices, writes_cuts, Reply}
use Rattle.floor.specs.Calls.{says, refuse, after, slims, asks, writes, writes_tree, step}
use Rattle.floor.specs.Calls.Sound.{Sound}
use Rattle.floor.proofs.Calls.Sound.{load_held, turn_held}
use Rattle.floor.proofs.Calls.Bytes.{plan_bytes}
use Rattle.floor.proofs.Calls.Sliced.{cuts_bytes}
use Rattle.floor.specs.Narrow.{Slim, narrowed}
use Rattle.floor.proofs.Narrow.Result.{narrowed_slim}
use Rattle.fields.specs.Writes.{writing}
use Rattle.stars.specs.Held.{no_stars, held_of}
use Rattle.stars.specs.Sized.{held_sizes}
use Rattle.drawing.proofs.Corollaries.{bytes_kept}
use Rattle.cuts.specs.Runs.{tree_bytes, writing as writing_cuts}
use Rattle.cuts.proofs.Corollaries.{held_tree}
use Rattle.turns.specs.InPlace.{Swing, stops, swings, swing_of, two_turned, turned_job}
use Rattle.turns.proofs.Placing.{turning_swings}
use Rattle.board.specs.declared.Board.{Board as HeldBoard}
use Rattle.board.specs.Boards.{board_for, no_board, board_of, handed, as_rules, staying, newly, turned_to, outcome}
use Rattle.board.proofs.Given.{board_holds, some_held, job_is, plan_is, walls_written, at_first, turned_held, two_held, sizes_are, sizes_is}
use Rattle.board.proofs.Slimming.{narrow_rules}

-- A BOARD STANDS: nothing is held, or a job and its plan as a load leaves them
pub data Stands : HeldBoard → Type 0 where
  holds_none : Stands no_board
  holds_both : (o : SizedJob) (p : Plan) → Sound o p → Stands (board_for o p)

-- ---- a turn

-- the very board and a refusal are what the rules hand back of a refusal
stopped : (b : HeldBoard) (a : Board) (k : ℕ) → staying b k ≡ as_rules b (after a (refused k))
unfolding staying as_rules after refuse handed
stopped b a k = refl

-- stars that hold a job, held with the sizes of the board and a plan: as the rules say of it
held_rules : (b : HeldBoard) (a : Board) (i : SizedJob) (q : Plan) → b.sizes ≡ held_sizes i.sizes
    → newly b (held_of i.stars) (held i q) ≡ as_rules b (after a (held i q))
unfolding newly as_rules after handed board_for
held_rules b a i q e = rw e

module _ (o : SizedJob) (p : Plan) (s : Sound o p) (u v : ℕ) where
  -- past test 18 the turned job is held, and else all stays
  tested_rules : (i : Job) (q : Plan) (t : Bool) → newly (board_for o p) (held_of i) (past t 18 (λ _. held (sized_job i o.sizes) q))
      ≡ as_rules (board_for o p) (after (holding o p) (past t 18 (λ _. held (sized_job i o.sizes) q)))
  unfolding past
  tested_rules i q true = held_rules (board_for o p) (holding o p) (sized_job i o.sizes) q (sizes_are o p s)
  tested_rules i q false = unfold newly in stopped (board_for o p) (holding o p) 18

  -- turning the contact where it stands does what the rules say of the turn
  turn_rules : turned_to (board_for o p) (swing_of o.stars u v) ≡ as_rules (board_for o p) (after (holding o p) (turn o u v))
  unfolding turned_to turned_job
  turn_rules = go (swing_of o.stars u v) refl
    where
      go : (x : Swing) → swing_of o.stars u v ≡ x → turned_to (board_for o p) x ≡ as_rules (board_for o p) (after (holding o p) (turn o u v))
      go (stops k) f =
          let e : turn o u v ≡ refused k =
          unfold turn draw_read with_sizes in
          ap (λ (r : Reading Job). draw_read (with_sizes o.sizes r)) (turning_swings o.stars u v ∙ ap (turned_job o.stars) f) in
          rw e (stopped (board_for o p) (holding o p) k)
      go (swings a b t) f =
          let (back, q, is, so) = turned_held o p s u v (two_turned o.stars a b t) (turning_swings o.stars u v ∙ ap (turned_job o.stars) f) in
          rw (so, two_held o p s u v a b t f, back, sizes_is o p s, is) (tested_rules (two_turned o.stars a b t) q (test18 q))

-- ---- a plan and its walls written

-- what a writing hands back does not go by what the board holds
writes_same : (b : HeldBoard) (a c : Board) (t : Bool) (bs buf : List ℕ) → as_rules b (writes a t bs buf) ≡ as_rules b (writes c t bs buf)
unfolding as_rules writes refuse handed
writes_same b a c true bs buf = refl
writes_same b a c false bs buf = refl

-- on the board at first a turn is as the rules say
none_turns : (u v : ℕ) → outcome no_board (turns u v) ≡ as_rules no_board (step (board_of no_board) (turns u v))
unfolding outcome board_of no_board no_stars staying step as_rules refuse handed
none_turns u v = refl

-- and so is a narrowing
none_narrows : outcome no_board narrows ≡ as_rules no_board (step (board_of no_board) narrows)
unfolding outcome board_of no_board no_stars staying step as_rules refuse handed
none_narrows = refl

-- on the board at first the writing of a plan is as the rules say
none_writes : (buf : List ℕ) → outcome no_board (writes_plan buf) ≡ as_rules no_board (step (board_of no_board) (writes_plan buf))
unfolding outcome board_of no_board no_stars step
none_writes buf = refl

-- and so is the writing of the walls
none_walls : (buf : List ℕ) → outcome no_board (writes_register buf) ≡ as_rules no_board (step (board_of no_board) (writes_register buf))
unfolding outcome board_of no_board no_stars step
none_walls buf = refl

-- and the question whether the floor can be cut straight
none_slices : outcome no_board slices ≡ as_rules no_board (step (board_of no_board) slices)
unfolding outcome board_of no_board no_stars step
none_slices = refl

-- and the writing of the cuts
none_cuts : (buf : List ℕ) → outcome no_board (writes_cuts buf) ≡ as_rules no_board (step (board_of no_board) (writes_cuts buf))
unfolding outcome board_of no_board no_stars step
none_cuts buf = refl

-- a question answered hands back the very board, whatever the rules hold
asks_same : (b : HeldBoard) (a c : Board) (t : Bool) → as_rules b (asks a true (says t)) ≡ as_rules b (asks c true (says t))
unfolding as_rules asks handed
asks_same b a c t = refl

-- the tree of a held plan, written, is as the rules say
cuts_rules : (b : HeldBoard) (o : SizedJob) (p : Plan) → Sound o p → (buf : List ℕ)
    → as_rules b (writing_cuts (tree_bytes (plan_tree p)) buf) ≡ as_rules b (writes_tree (holding o p) (plan_tree p) buf)
cuts_rules b o p s buf = go (plan_tree p) refl
  where
    go : (x : Option Tree) → plan_tree p ≡ x → as_rules b (writing_cuts (tree_bytes x) buf) ≡ as_rules b (writes_tree (holding o p) x buf)
    go none e = unfold writing_cuts tree_bytes writes_tree as_rules refuse handed in refl
    go (some t) e =
        unfold writing_cuts tree_bytes writes_tree writing in
        rw (bytes_kept (write_tree t) (cuts_bytes o p s t e)) (writes_same b empty (holding o p) (leb (length (write_tree t)) (length buf)) (write_tree t) buf)

-- WHERE A BOARD STANDS, THE OUTCOME OF ANY CALL IS THAT OF THE RULES
pub by_rules : (b : HeldBoard) → Stands b → (c : Call) → outcome b c ≡ as_rules b (step (board_of b) c)
unfolding outcome step writing
by_rules b s (loads bs) = refl
by_rules b s (rectangle v) = refl
by_rules b s (touches u v) = refl
by_rules b s (writes_job buf) = refl
by_rules b holds_none (turns u v) = none_turns u v
by_rules b holds_none narrows = none_narrows
by_rules b holds_none (writes_plan buf) = none_writes buf
by_rules b holds_none (writes_register buf) = none_walls buf
by_rules b holds_none slices = none_slices
by_rules b holds_none (writes_cuts buf) = none_cuts buf
by_rules b (holds_both o p s) (turns u v) =
    rw (board_holds o p s, ne_eqb (board_for o p).stars.count 0 (some_held o p s), job_is o p s) (turn_rules o p s u v)
by_rules b (holds_both o p s) narrows =
    rw (board_holds o p s, ne_eqb (board_for o p).stars.count 0 (some_held o p s)) (narrow_rules o p s)
by_rules b (holds_both o p s) (writes_plan buf) =
    rw (board_holds o p s, ne_eqb (board_for o p).stars.count 0 (some_held o p s), plan_is o p s, bytes_kept (write_plan p) (plan_bytes o p s))
    (writes_same (board_for o p) empty (holding o p) (leb (length (write_plan p)) (length buf)) (write_plan p) buf)
by_rules b (holds_both o p s) (writes_register buf) =
    rw (board_holds o p s, ne_eqb (board_for o p).stars.count 0 (some_held o p s), walls_written o p s)
    (writes_same (board_for o p) empty (holding o p) (leb (length (write_register (register p))) (length buf)) (write_register (register p)) buf)
by_rules b (holds_both o p s) slices =
    rw (board_holds o p s, ne_eqb (board_for o p).stars.count 0 (some_held o p s), plan_is o p s, held_tree o p s)
    (asks_same (board_for o p) empty (holding o p) (is_tree (plan_tree p)))
by_rules b (holds_both o p s) (writes_cuts buf) =
    rw (board_holds o p s, ne_eqb (board_for o p).stars.count 0 (some_held o p s), plan_is o p s, held_tree o p s) (cuts_rules (board_for o p) o p s buf)

-- ---- what a call leaves

-- a board stands and holds this
abbrev pub Holds : HeldBoard → Board → Type 0
Holds b a = Stands b × (board_of b ≡ a)

module _ (b : HeldBoard) (a : Board) (h : Holds b a) where
  -- after a load or a turn, sound in what it holds, the board that comes back stands and holds what the rules say
  left_after : (x : Answer) → ((o : SizedJob) (p : Plan) → x ≡ held o p → Sound o p) → Holds (handed b (after a x).reply (after a x).board) (after a x).board
  unfolding handed after refuse
  left_after (refused k) f = h
  left_after (held o p) f = (holds_both o p (f o p refl), board_holds o p (f o p refl))

  -- so does the board that comes back from a narrowing
  left_slims : (r : Slim) → Sound r.job r.plan → Holds (handed b (slims r).reply (slims r).board) (slims r).board
  unfolding handed slims
  left_slims r s = (holds_both r.job r.plan s, board_holds r.job r.plan s)

  -- so does the board that comes back from a question
  left_asks : (t : Bool) (r : Reply) → handed b r a ≡ b → Holds (handed b (asks a t r).reply (asks a t r).board) (asks a t r).board
  unfolding handed asks refuse
  left_asks true r e = rw e h
  left_asks false r e = h

  -- so does the board that comes back from a writing
  left_writes : (t : Bool) (bs buf : List ℕ) → Holds (handed b (writes a t bs buf).reply (writes a t bs buf).board) (writes a t bs buf).board
  unfolding handed writes refuse
  left_writes true bs buf = h
  left_writes false bs buf = h

  -- so does the board that comes back from the writing of the cuts
  left_tree : (o : Option Tree) (buf : List ℕ) → Holds (handed b (writes_tree a o buf).reply (writes_tree a o buf).board) (writes_tree a o buf).board
  unfolding writes_tree
  left_tree none buf = unfold handed refuse in h
  left_tree (some t) buf = left_writes _ (write_tree t) buf

-- what a board that stands holds is sound
sound_of : (b : HeldBoard) → Stands b → (o : SizedJob) (p : Plan) → board_of b ≡ holding o p → Sound o p
sound_of b holds_none o p e = let f : empty ≡ holding o p = sym at_first ∙ e in let z : ◌≡◌ {A = ℕ} 0 1 = cc in absurd (omega arith)
sound_of b (holds_both i q s) o p e =
    let f : holding i q ≡ holding o p = sym (board_holds i q s) ∙ e in
    let x : i ≡ o = cc in
    let y : q ≡ p = cc in
    rw (← x, ← y) s

-- the job and plan that a board holds are sound, where it stands
pub board_sound : (b : HeldBoard) → Stands b → (o : SizedJob) (p : Plan) → board_of b ≡ holding o p → Sound o p
board_sound = sound_of

-- the board that any call hands back by the rules, on one that stands, stands and holds what they say
left_step : (b : HeldBoard) (a : Board) → Holds b a → (c : Call) → Holds (handed b (step a c).reply (step a c).board) (step a c).board
unfolding step handed refuse
left_step b a h (loads bs) = loaded a h
  where
    loaded : (a : Board) → Holds b a → Holds (handed b (after a (load bs)).reply (after a (load bs)).board) (after a (load bs)).board
    loaded a h = left_after b a h (load bs) (λ o p e. (load_held bs o p e).1)
left_step b empty h (turns u v) = h
left_step b empty h narrows = h
left_step b empty h (rectangle v) = h
left_step b empty h (touches u v) = h
left_step b empty h (writes_job buf) = h
left_step b empty h (writes_plan buf) = h
left_step b empty h (writes_register buf) = h
left_step b empty h slices = h
left_step b empty h (writes_cuts buf) = h
left_step b (holding i q) h (turns u v) = left_after b (holding i q) h (turn i u v) (λ o p e. turn_held i q u v o p (sound_of b h.0 i q h.1) e)
left_step b (holding i q) h narrows = left_slims b (holding i q) h (narrowed i q) (narrowed_slim i q (sound_of b h.0 i q h.1)).sound
left_step b (holding i q) h (rectangle v) = left_asks b (holding i q) h _ _ refl
left_step b (holding i q) h (touches u v) = left_asks b (holding i q) h _ _ refl
left_step b (holding i q) h (writes_job buf) = left_writes b (holding i q) h _ (write_sized i) buf
left_step b (holding i q) h (writes_plan buf) = left_writes b (holding i q) h _ (write_plan q) buf
left_step b (holding i q) h (writes_register buf) = left_writes b (holding i q) h _ (write_register (register q)) buf
left_step b (holding i q) h slices = left_asks b (holding i q) h _ _ refl
left_step b (holding i q) h (writes_cuts buf) = left_tree b (holding i q) h (plan_tree q) buf

-- WHERE A BOARD STANDS, the board that a call hands back stands and holds what the rules say
pub stands_on_lem : (b : HeldBoard) → Stands b → (c : Call) → Holds (outcome b c).board (step (board_of b) c).board
unfolding as_rules
stands_on_lem b s c = rw (by_rules b s c) (left_step b (board_of b) (s, refl) c)
