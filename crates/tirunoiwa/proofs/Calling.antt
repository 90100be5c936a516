-- One call made behind another, as the code comes by it. Assumes nothing.
use Prim.Native.Nat.{ℕ, ◌*◌, ◌^◌, ◌≤◌, ◌<◌}
use mathlib.Core.Path.{◌≡◌, refl, sym, ap, ◌∙◌}
use mathlib.Core.List.{List, []}
use native.Mathlib.Omega.{arith}
use lib.ListN.{length}
use Rattle.floor.specs.Plans.{held}
use Rattle.floor.specs.Calls.{load, Board, empty, holding, Call, loads, narrows, writes_job, Reply, refusal, done, spans, touch, says, wrote, made, Step, lent, refuse, after, slims, step}
use Rattle.floor.proofs.Calls.Bytes.{limits}
use Rattle.floor.specs.Narrow.{narrowed}
use Rattle.floor.specs.Tracker.{behind, then, instead, told_written, code}
use Rattle.std.specs.Prelude.{Result, Ok, Err}
use Rattle.refusals.specs.declared.Refusal.{Refusal}
use Rattle.refusals.specs.Numbers.{number_of}
use Rattle.board.specs.declared.Board.{Board as HeldBoard}
use Rattle.board.specs.declared.Reply.{Reply as Said}
use Rattle.board.specs.declared.Reply.TheVariants.{Done, Spans, Touched, Says, Wrote, Made}
use Rattle.board.specs.declared.Step.{Step as Handed}
use Rattle.stars.specs.Held.{no_stars}
use Rattle.board.specs.Boards.{board_for, no_board, held_job, board_of, kept, said, Plans, reply_of, handed, as_rules, outcome, Tells}
use Rattle.drawing.specs.Rects.{plan_in}
use Rattle.board.specs.Reach.{Reached, at_first, called}
use Rattle.board.proofs.AnyCalls.{AsRules, reached_step, reached_sound}
use Rattle.tirunoiwa.specs.Answers.{Fitting, Gives}
use Rattle.tirunoiwa.proofs.Numbers.{Numbered, wide, step_numbered, step_most, step_makes}

-- ---- behind a call

-- what any answer of the call has, and the refusal before it, the answer behind has
behind_any : (c : Call) (P : Reply → Type 0) → ((b : Board) → P (step b c).reply) → (r : Reply) (b : Board) → ((k : ℕ) → r ≡ refusal k → P (refusal k))
    → P (behind r b c).reply
unfolding behind refuse
behind_any c P f (refusal k) b h = h k refl
behind_any c P f done b h = f b
behind_any c P f (spans r) b h = f b
behind_any c P f (touch t) b h = f b
behind_any c P f (says t) b h = f b
behind_any c P f (wrote n) b h = f b
behind_any c P f (made n) b h = f b

-- what any answer of a call has, and the refusal of the step before it, the answer of both together has
pub then_any : (s : Step) (c : Call) (P : Reply → Type 0) → ((b : Board) → P (step b c).reply) → ((k : ℕ) → s.reply ≡ refusal k → P (refusal k))
    → P (then s c).reply
unfolding then
then_any s c P f h = behind_any c P f s.reply s.board h

-- where a refusal of the first is one of 1 to 18, so is that of both together
pub then_numbered : (s : Step) (c : Call) → Numbered s.reply → Numbered (then s c).reply
then_numbered s c n = then_any s c Numbered (λ b. step_numbered b c) (λ k e. rw e at n)

-- behind a refusal none is made: it stands, and the buffer is as it was
pub then_refused : (s : Step) (c : Call) {k : Refusal} → s.reply ≡ refusal (number_of k) → Gives (Err k) (lent c) (then s c)
unfolding then behind refuse reply_of
then_refused s c e = record { reply = rw e; buffer = rw e; fits = rw e tt }

-- what a refusal says
err_says : (k : Refusal) → reply_of (Err k) ≡ refusal (number_of k)
unfolding reply_of
err_says k = refl

-- behind any other reply the call is made
ok_goes : (y : Said) (s : Step) (c : Call) → s.reply ≡ reply_of (Ok y) → then s c ≡ step s.board c
unfolding then behind reply_of
ok_goes Done s c e = rw e
ok_goes (Spans r) s c e = rw e
ok_goes (Touched t) s c e = rw e
ok_goes (Says t) s c e = rw e
ok_goes (Wrote n) s c e = rw e
ok_goes (Made n) s c e = rw e

-- ---- a call on a reached board

-- a sheet that is held is at most 250 wide
reached_wide : {b : HeldBoard} → Reached b → wide (board_of b) ≤ 250
reached_wide {b} h = go (board_of b) refl
  where
    go : (x : Board) → board_of b ≡ x → wide x ≤ 250
    go empty e = omega arith
    go (holding o p) e = (limits o p (reached_sound b h o p e)).2

-- a length that is told fits, for a buffer takes less than half of all addresses, and so does a number of turns
step_fits : (b : Board) (c : Call) → wide b ≤ 250 → length (lent c) * 1 < 2 ^ 63 → Fitting (step b c).reply
step_fits b c w m = go (step b c).reply refl
  where
    go : (r : Reply) → (step b c).reply ≡ r → Fitting r
    go (refusal k) e = tt
    go done e = tt
    go (spans r) e = tt
    go (touch t) e = tt
    go (says t) e = tt
    go (wrote n) e = let k : n ≤ length (lent c) = step_most b c n e in omega arith
    go (made n) e = let k : n ≤ wide b = step_makes b c n e in omega arith

-- A STEP OF THE RULES, AS IT IS LEFT: a board that calls reach and that holds what the step says, and any call is made behind it
pub record Left (b : HeldBoard) (s : Step) : Type 0 where
  pub reached : Reached b
  pub holds : board_of b ≡ s.board
  pub goes : (c : Call) → then s c ≡ step s.board c

module _ {b : HeldBoard} {s : Step} (l : Left b s) (c : Call) {r : Handed} {x : List ℕ} (t : Tells r x (outcome b c)) where
  -- the call does as the rules say
  told : AsRules b c r x
  told = reached_step b l.reached c r x t

  -- behind the step it is made on what is held
  made_on : then s c ≡ step (board_of b) c
  made_on = l.goes c ∙ ap (λ (o : Board). step o c) (sym l.holds)

  -- so its answer is that of the rules behind the step,
  pub then_told : length (lent c) * 1 < 2 ^ 63 → Gives r.reply x (then s c)
  then_told m = rw made_on (record { reply = told.reply; buffer = told.buffer; fits = step_fits (board_of b) c (reached_wide l.reached) m })

  -- a call behind it is not made where it is refused,
  pub call_refused : {k : Refusal} → r.reply ≡ Err k → (d : Call) {q : Result Said Refusal} → q ≡ Err k → Gives q (lent d) (then (then s c) d)
  call_refused e d f = rw f (then_refused (then s c) d (ap (λ (q : Step). q.reply) made_on ∙ sym told.reply ∙ ap reply_of e ∙ err_says _))

  -- and else on what it leaves
  pub then_left : (y : Said) → reply_of r.reply ≡ reply_of (Ok y) → Left r.board (then s c)
  then_left y e = record {
    reached = called c r x l.reached t;
    holds = told.holds ∙ ap (λ (q : Step). q.board) (sym made_on);
    goes = λ d. ok_goes y (then s c) d (ap (λ (q : Step). q.reply) made_on ∙ sym told.reply ∙ e);
  }

-- the same of a call that makes turns
made_left : {b : HeldBoard} {s : Step} → Left b s → {h : Handed} {x : List ℕ} → Tells h x (outcome b narrows) → (n : ℕ) → (step s.board narrows).reply ≡ made n
    → Left h.board (then s narrows)
unfolding reply_of
made_left {b} {s} l {h} {x} m n f =
    let e : (step (board_of b) narrows).reply ≡ made n = rw l.holds f in
    then_left l narrows m (Made n) ((reached_step b l.reached narrows h x m).reply ∙ e)

-- ---- a job planned

module _ (bs : List ℕ) where
  -- its refusal is that of a load
  load_refused : {k : Refusal} → Plans (Err k) (load bs) → (step empty (loads bs)).reply ≡ refusal (number_of k)
  unfolding said step after refuse
  load_refused t = rw (← t.says)

  module _ {b : HeldBoard} (t : Plans (Ok b) (load bs)) where
    -- a load holds what its board holds
    load_holds : load bs ≡ held (held_job b) (plan_in b.plan)
    unfolding said
    load_holds = sym t.says

    -- its board is as the load leaves it
    load_keeps : b ≡ board_for (held_job b) (plan_in b.plan)
    unfolding kept
    load_keeps = rw load_holds at (t.keeps b refl)

    -- a load onto the empty board that hands it back keeps its promise
    loads_tells : Tells (record { board = b; reply = Ok Done }) [] (outcome no_board (loads bs))
    unfolding outcome as_rules step after handed reply_of
    loads_tells = rw load_holds (record { reply = refl; board = load_keeps; buffer = refl })

    -- the load, made
    load_made : step empty (loads bs) ≡ record { board = holding (held_job b) (plan_in b.plan); reply = done; buffer = [] }
    unfolding step after
    load_made = rw load_holds

    -- it is done
    load_done : (step empty (loads bs)).reply ≡ reply_of (Ok Done)
    unfolding reply_of
    load_done = ap (λ (s : Step). s.reply) load_made

    -- so it is left
    load_left : Left b (step empty (loads bs))
    unfolding board_of no_board no_stars
    load_left = record {
      reached = called (loads bs) _ [] at_first loads_tells;
      holds = (reached_step no_board at_first (loads bs) _ [] loads_tells).holds;
      goes = λ c. ok_goes Done _ c load_done;
    }

    -- a narrowing behind it is not refused
    load_narrows : (n : ℕ) × ((step (step empty (loads bs)).board narrows).reply ≡ made n)
    load_narrows = ((narrowed (held_job b) (plan_in b.plan)).turns, ap (λ (s : Step). (step s.board narrows).reply) load_made ∙ unfold step slims in refl)

-- ---- what the functions answer

-- an answer that is given has a number,
pub given_fits : (r : Result Said Refusal) (x : List ℕ) (s : Step) → Gives r x s → Fitting (reply_of r)
given_fits r x s g = rw g.reply g.fits

-- and it is that of the step's reply
pub given_told : (r : Result Said Refusal) (x : List ℕ) (s : Step) (n : ℕ) → Gives r x s → n ≡ code (reply_of r) → (n ≡ code s.reply) × (x ≡ s.buffer)
given_told r x s n g e = (e ∙ ap code g.reply, g.buffer)

module _ (bs : List ℕ) {r : Result HeldBoard Refusal} (t : Plans r (load bs)) where
  -- a job that is refused: no call is made behind,
  pub job_refused : {k : Refusal} → r ≡ Err k → (c : Call) {q : Result Said Refusal} → q ≡ Err k → Gives q (lent c) (then (step empty (loads bs)) c)
  job_refused e c f = rw f (then_refused _ c (load_refused bs (rw e at t)))

  -- nor is one behind that
  pub two_refused : {k : Refusal} → r ≡ Err k → (c d : Call) {q : Result Said Refusal} → q ≡ Err k → Gives q (lent d) (then (then (step empty (loads bs)) c) d)
  two_refused e c d f = rw f (then_refused _ d (sym (job_refused e c refl).reply ∙ err_says _))

  -- a job that is planned is left as a load leaves it,
  pub job_left : {b : HeldBoard} → r ≡ Ok b → Left b (step empty (loads bs))
  job_left e = load_left bs (rw e at t)

  -- and so it is by a narrowing, which is not refused
  pub narrow_left : {b : HeldBoard} → r ≡ Ok b → {h : Handed} {x : List ℕ} → Tells h x (outcome b narrows) → Left h.board (then (step empty (loads bs)) narrows)
  narrow_left e m = let (n, f) = load_narrows bs (rw e at t) in made_left (job_left e) m n f

-- ---- what is told in the stead of a length

-- a refused writing is told
instead_stands : (k : Refusal) (r t : Reply) → reply_of (Err k) ≡ r → instead r t ≡ r
unfolding instead reply_of
instead_stands k r t e = rw (← e)

-- behind what was written the other answer is told
instead_goes : (y : Said) (r t : Reply) → reply_of (Ok y) ≡ r → instead r t ≡ t
unfolding instead reply_of
instead_goes Done r t e = rw (← e)
instead_goes (Spans x) r t e = rw (← e)
instead_goes (Touched x) r t e = rw (← e)
instead_goes (Says x) r t e = rw (← e)
instead_goes (Wrote n) r t e = rw (← e)
instead_goes (Made n) r t e = rw (← e)

module _ (s : Step) (buf : List ℕ) where
  -- where a writing is refused its refusal stands
  pub told_refused : {k : Refusal} {p q : Result Said Refusal} {x : List ℕ} → p ≡ Err k → Gives p x (then s (writes_job buf)) → q ≡ Err k → Gives q x (told_written s buf)
  unfolding told_written
  told_refused {k} {p} e g f =
      let h : instead (then s (writes_job buf)).reply s.reply ≡ (then s (writes_job buf)).reply
      = instead_stands k (then s (writes_job buf)).reply s.reply (sym (ap reply_of e) ∙ g.reply) in
      record { reply = ap reply_of f ∙ sym (ap reply_of e) ∙ g.reply ∙ sym h; buffer = g.buffer; fits = rw h g.fits }

  -- and else the answer of the call before it
  pub told_goes : {y : Said} {q r : Result Said Refusal} {x z : List ℕ} → q ≡ Ok y → Gives q x (then s (writes_job buf)) → Gives r z s → Gives r x (told_written s buf)
  unfolding told_written
  told_goes {y} e g h =
      let f : instead (then s (writes_job buf)).reply s.reply ≡ s.reply
      = instead_goes y (then s (writes_job buf)).reply s.reply (sym (ap reply_of e) ∙ g.reply) in
      record { reply = h.reply ∙ sym f; buffer = g.buffer; fits = rw f h.fits }
