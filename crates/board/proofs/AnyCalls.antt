-- ANY CALLS AT ALL: what holds of every board that the public calls reach. Assumes nothing.
use Prim.Native.Nat.{ℕ}
use mathlib.Core.Path.{◌≡◌, refl, sym, ap, ◌∙◌}
use mathlib.Core.List.{List, [], ◌∷◌, ◌++◌}
use native.Mathlib.Omega.{arith}
use lib.ListN.{take}
use Rattle.floor.specs.Jobs.{SizedJob, write_sized}
use Rattle.floor.proofs.Jobs.Written.{read_write_job}
use Rattle.floor.specs.Plans.{Plan, Answer, held}
use Rattle.floor.specs.Floor.{Floor}
use Rattle.floor.specs.Registers.{register}
use Rattle.floor.specs.Calls.{load, Board, empty, holding, Call, loads, turns, writes_job, Reply, refusal, done, wrote, lent, Step, refuse, after, step, run, Restored}
use Rattle.floor.specs.Calls.Sound.{Sound}
use Rattle.floor.proofs.Calls.Sound.{sound_good, load_reads}
use Rattle.floor.proofs.Calls.Effects.{refused_leaves, wrote_job, turn_turn}
use Rattle.registers.specs.Kept.{register_in}
use Rattle.board.specs.declared.Board.{Board as HeldBoard}
use Rattle.std.specs.Prelude.{Result, Ok, Err}
use Rattle.refusals.specs.declared.Refusal.{Refusal}
use Rattle.refusals.specs.Numbers.{number_of}
use Rattle.board.specs.declared.Reply.{Reply as Said}
use Rattle.board.specs.declared.Reply.TheVariants.{Done, Wrote}
use Rattle.board.specs.declared.Step.{Step as Handed}
use Rattle.board.specs.Boards.{board_for, board_of, reply_of, handed, as_rules, Outcome, outcome, Tells}
use Rattle.board.specs.Reach.{Reached, at_first, called}
use Rattle.board.proofs.Corollaries.{saying, saying_back}
use Rattle.board.proofs.Given.{at_first as holds_nothing, board_holds, register_is}
use Rattle.board.proofs.Standing.{Stands, holds_none, holds_both, by_rules, stands_on_lem, board_sound}

-- a reached board stands
pub reached_stands : (b : HeldBoard) → Reached b → Stands b
reached_stands b at_first = holds_none
reached_stands b (called {b = a} c r buf h t) = rw t.board (stands_on_lem a (reached_stands a h) c).0

-- ON A REACHED BOARD A CALL'S PROMISE IS THAT OF THE RULES: the reply, the buffer, and what the board then holds
pub record AsRules (b : HeldBoard) (c : Call) (r : Handed) (buf : List ℕ) : Type 0 where
  pub reply : reply_of r.reply ≡ (step (board_of b) c).reply
  pub buffer : buf ≡ (step (board_of b) c).buffer
  pub board : r.board ≡ handed b (step (board_of b) c).reply (step (board_of b) c).board
  pub holds : board_of r.board ≡ (step (board_of b) c).board

-- a call on a board that stands does as the rules say
pub as_rules_lem : (b : HeldBoard) → Stands b → (c : Call) (r : Handed) (buf : List ℕ) → Tells r buf (outcome b c) → AsRules b c r buf
unfolding as_rules
as_rules_lem b s c r buf t =
    let e : outcome b c ≡ as_rules b (step (board_of b) c) = by_rules b s c in
    record {
      reply = t.reply ∙ ap (λ (o : Outcome). o.reply) e;
      buffer = t.buffer ∙ ap (λ (o : Outcome). o.buffer) e;
      board = t.board ∙ ap (λ (o : Outcome). o.board) e;
      holds = ap board_of t.board ∙ (stands_on_lem b s c).1;
    }

-- a call on a reached board does as the rules say
pub reached_step : (b : HeldBoard) → Reached b → (c : Call) (r : Handed) (buf : List ℕ) → Tells r buf (outcome b c) → AsRules b c r buf
reached_step b h = as_rules_lem b (reached_stands b h)

-- calls one after the other, and one more
run_more : (b : Board) (cs : List Call) (c : Call) → run b (cs ++ (c ∷ [])) ≡ (step (run b cs) c).board
unfolding run
run_more b [] c = refl
run_more b (d ∷ cs) c = run_more (step b d).board cs c

-- A REACHED BOARD holds what the rules say of the calls made
pub reached_runs : (b : HeldBoard) → Reached b → (cs : List Call) × (board_of b ≡ run empty cs)
unfolding run
reached_runs b at_first = ([], holds_nothing)
reached_runs b (called {b = a} c r buf h t) =
    let (cs, e) = reached_runs a h in
    (cs ++ (c ∷ []), (reached_step a h c r buf t).holds ∙ ap (λ (x : Board). (step x c).board) e ∙ sym (run_more empty cs c))

-- what a reached board holds is sound
pub reached_sound : (b : HeldBoard) → Reached b → (o : SizedJob) (p : Plan) → board_of b ≡ holding o p → Sound o p
reached_sound b h = board_sound b (reached_stands b h)

-- DEMAND 3: whenever a reached board holds a plan, that is a floor plan for the job that it holds
pub reached_floor : (b : HeldBoard) → Reached b → (o : SizedJob) (p : Plan) → board_of b ≡ holding o p → Floor o.stars p
reached_floor b h o p e = (sound_good o p (board_sound b (reached_stands b h) o p e)).floor

-- DEMAND 1: A REFUSED CALL on a reached board hands back the very board, and every byte of the lent buffer
pub refused_call : (b : HeldBoard) → Reached b → (c : Call) (r : Handed) (buf : List ℕ) (k : Refusal) → Tells r buf (outcome b c) → r.reply ≡ Err k
    → (r.board ≡ b) × (buf ≡ lent c)
unfolding reply_of handed
refused_call b h c r buf k t e =
    let a = reached_step b h c r buf t in
    let s : (step (board_of b) c).reply ≡ refusal (number_of k) = sym a.reply ∙ ap reply_of e in
    let f : handed b (step (board_of b) c).reply (step (board_of b) c).board ≡ b = rw s in
    (a.board ∙ f, a.buffer ∙ (refused_leaves (board_of b) c (number_of k) s).same_buffer)

-- a reply by what it says
says_done : (x : Result Said Refusal) → reply_of x ≡ done → x ≡ Ok Done
says_done x e = sym (saying_back x) ∙ ap saying e

-- the board of what is held is the very board
the_board : (b : HeldBoard) → Stands b → (o : SizedJob) (p : Plan) → board_of b ≡ holding o p → board_for o p ≡ b
the_board b holds_none o p e = let f : empty ≡ holding o p = sym holds_nothing ∙ e in let z : ◌≡◌ {A = ℕ} 0 1 = cc in absurd (omega arith)
the_board b (holds_both i q s) o p e =
    let f : holding i q ≡ holding o p = sym (board_holds i q s) ∙ e in
    let x : i ≡ o = cc in
    let y : q ≡ p = cc in
    rw (x, y)

-- W3: THE REGISTER that a reached board keeps is, whenever it holds a plan, what a fresh count from that plan gives
pub reached_register : (b : HeldBoard) → Reached b → (o : SizedJob) (p : Plan) → board_of b ≡ holding o p → register_in b.register ≡ register p
reached_register b h o p e =
    let s = reached_stands b h in
    ap (λ (a : HeldBoard). register_in a.register) (sym (the_board b s o p e)) ∙ register_is o p (board_sound b s o p e)

-- where a call is done and a job and plan are then held, the board of these is handed back
done_hands : (b : HeldBoard) (o : SizedJob) (p : Plan) (x : Reply) (a : Board) → x ≡ done → a ≡ holding o p → handed b x a ≡ board_for o p
unfolding handed
done_hands b o p x a e f = rw (e, f)

-- DEMAND 3: AN ACCEPTED TURN MADE AGAIN AT ONCE, its rooms in either order, is accepted and gives back the very board before it
module _ (b : HeldBoard) (h : Reached b) (u v : ℕ) (r : Handed) (x : List ℕ) (t : Tells r x (outcome b (turns u v))) (d : r.reply ≡ Ok Done) where
  -- the rules say that the turn is done
  turn_done : (step (board_of b) (turns u v)).reply ≡ done
  unfolding reply_of
  turn_done = sym (reached_step b h (turns u v) r x t).reply ∙ ap reply_of d

  -- where the rules then give the board back for a turn of m and n, that call is done and hands back the very board
  restored : (m n : ℕ) → ((o : SizedJob) (p : Plan) → board_of b ≡ holding o p → Restored (holding o p) (step (step (holding o p) (turns u v)).board (turns m n)))
      → (s : Handed) (y : List ℕ) → Tells s y (outcome r.board (turns m n)) → (s.reply ≡ Ok Done) × (s.board ≡ b)
  restored m n back s y q = go (board_of b) refl
    where
      no_turn : {X : Type 0} → (step empty (turns u v)).reply ≡ done → X
      no_turn e = let z : ◌≡◌ {A = ℕ} 0 1 = unfold step refuse in cc in absurd (omega arith)

      a : AsRules r.board (turns m n) s y
      a = reached_step r.board (called (turns u v) r x h t) (turns m n) s y q

      go : (c : Board) → board_of b ≡ c → (s.reply ≡ Ok Done) × (s.board ≡ b)
      go empty e = no_turn (ap (λ (c : Board). (step c (turns u v)).reply) (sym e) ∙ turn_done)
      go (holding o p) e =
          let k : board_of r.board ≡ (step (holding o p) (turns u v)).board
          = (reached_step b h (turns u v) r x t).holds ∙ ap (λ (c : Board). (step c (turns u v)).board) e in
          let f : step (board_of r.board) (turns m n) ≡ step (step (holding o p) (turns u v)).board (turns m n) = ap (λ (c : Board). step c (turns m n)) k in
          let w = back o p e in
          let accepted : (step (board_of r.board) (turns m n)).reply ≡ done = ap (λ (z : Step). z.reply) f ∙ w.accepted in
          let same : (step (board_of r.board) (turns m n)).board ≡ holding o p = ap (λ (z : Step). z.board) f ∙ w.same_board in
          (says_done s.reply (a.reply ∙ accepted), a.board ∙ done_hands r.board o p _ _ accepted same ∙ the_board b (reached_stands b h) o p e)

  -- the rules say so of the job and plan that are held
  done_of : (o : SizedJob) (p : Plan) → board_of b ≡ holding o p → (step (holding o p) (turns u v)).reply ≡ done
  done_of o p e = ap (λ (c : Board). (step c (turns u v)).reply) (sym e) ∙ turn_done

  -- made again with the rooms in the same order
  pub turned_again : (s : Handed) (y : List ℕ) → Tells s y (outcome r.board (turns u v)) → (s.reply ≡ Ok Done) × (s.board ≡ b)
  turned_again = restored u v (λ o p e. (turn_turn o p u v (board_sound b (reached_stands b h) o p e) (done_of o p e)).0)

  -- made again with the rooms in the other order
  pub turned_back : (s : Handed) (y : List ℕ) → Tells s y (outcome r.board (turns v u)) → (s.reply ≡ Ok Done) × (s.board ≡ b)
  turned_back = restored v u (λ o p e. (turn_turn o p u v (board_sound b (reached_stands b h) o p e) (done_of o p e)).1)

-- a sound job, written and loaded into any board, is held again with its plan
loads_so : (a : Board) (o : SizedJob) (p : Plan) → Sound o p → ((step a (loads (write_sized o))).reply ≡ done) × ((step a (loads (write_sized o))).board ≡ holding o p)
unfolding step after
loads_so a o p s =
    let e : load (write_sized o) ≡ held o p = load_reads (write_sized o) o p (read_write_job o s.pass2 s.counts) s in
    (ap (λ (x : Answer). (after a x).reply) e, ap (λ (x : Answer). (after a x).board) e)

-- a load, on any board, is as the rules say
load_reply : (c : HeldBoard) (bs : List ℕ) (s : Handed) (y : List ℕ) → Tells s y (outcome c (loads bs))
    → (reply_of s.reply ≡ (step (board_of c) (loads bs)).reply) × (s.board ≡ handed c (step (board_of c) (loads bs)).reply (step (board_of c) (loads bs)).board)
unfolding outcome as_rules
load_reply c bs s y q = (q.reply, q.board)

-- DEMAND 2: WHAT IS WRITTEN OUT AND LOADED, into any board, gives the very board that it was written from
pub written_loaded : (b : HeldBoard) → Reached b → (buf : List ℕ) (r : Handed) (x : List ℕ) (n : ℕ) → Tells r x (outcome b (writes_job buf)) → r.reply ≡ Ok (Wrote n)
    → (c : HeldBoard) (s : Handed) (y : List ℕ) → Tells s y (outcome c (loads (take n x))) → (s.reply ≡ Ok Done) × (s.board ≡ b)
written_loaded b h buf r x n t d c s y q = go (board_of b) refl
  where
    a : AsRules b (writes_job buf) r x
    a = reached_step b h (writes_job buf) r x t

    wrote_so : (step (board_of b) (writes_job buf)).reply ≡ wrote n
    wrote_so = sym a.reply ∙ ap reply_of d ∙ unfold reply_of in refl

    no_write : {X : Type 0} → (step empty (writes_job buf)).reply ≡ wrote n → X
    no_write e = let z : ◌≡◌ {A = ℕ} 0 1 = unfold step refuse in cc in absurd (omega arith)

    go : (k : Board) → board_of b ≡ k → (s.reply ≡ Ok Done) × (s.board ≡ b)
    go empty e = no_write (ap (λ (k : Board). (step k (writes_job buf)).reply) (sym e) ∙ wrote_so)
    go (holding o p) e =
        let w = wrote_job o p buf n (ap (λ (k : Board). (step k (writes_job buf)).reply) (sym e) ∙ wrote_so) in
        let f : take n x ≡ write_sized o = ap (take n) (a.buffer ∙ ap (λ (k : Board). (step k (writes_job buf)).buffer) e) ∙ w.front in
        let (accepted, same) = loads_so (board_of c) o p (board_sound b (reached_stands b h) o p e) in
        let k : step (board_of c) (loads (take n x)) ≡ step (board_of c) (loads (write_sized o)) = ap (λ (bs : List ℕ). step (board_of c) (loads bs)) f in
        let (l, m) = load_reply c (take n x) s y q in (
          says_done s.reply (l ∙ ap (λ (z : Step). z.reply) k ∙ accepted),
          m ∙ done_hands c o p _ _ (ap (λ (z : Step). z.reply) k ∙ accepted) (ap (λ (z : Step). z.board) k ∙ same)
              ∙ the_board b (reached_stands b h) o p e,
        )
