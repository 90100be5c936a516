-- What follows from the promises of the calls. Assumes nothing.
use Prim.Native.Nat.{ℕ, ◌≤◌}
use mathlib.Core.Path.{◌≡◌, refl, sym, ap, ◌∙◌}
use mathlib.Core.List.{List}
use Rattle.floor.specs.Plans.{Answer, held, clear, wall}
use Rattle.floor.proofs.Plans.Held.{not_held, one_number}
use Rattle.floor.specs.Registers.{register}
use Rattle.floor.specs.Calls.{load, Reply, refusal, done, spans, touch, says, wrote, made}
use Rattle.floor.proofs.Calls.Sound.{load_held}
use Rattle.drawing.specs.Rects.{rect_in, touch_in, plan_in}
use Rattle.drawing.specs.declared.Touch.TheVariants.{Clear, Wall}
use Rattle.std.specs.Prelude.{Result, Ok, Err}
use Rattle.refusals.specs.declared.Refusal.{Refusal}
use Rattle.refusals.proofs.Same.{refusal_of, back, same_refusal}
use Rattle.registers.specs.Kept.{register_in}
use Rattle.registers.proofs.Corollaries.{few_kept}
use Rattle.board.specs.declared.Board.{Board as HeldBoard}
use Rattle.board.specs.declared.Reply.{Reply as Said}
use Rattle.board.specs.declared.Reply.TheVariants.{Done, Spans, Touched, Says, Wrote, Made}
use Rattle.board.specs.declared.Step.{Step as Handed}
use Rattle.board.specs.Boards.{board_for, held_job, kept, said, Plans, reply_of, Outcome, Tells}
use Rattle.board.proofs.Given.{register_is}

-- ---- one answer

-- the reply that says this
abbrev pub saying : Reply → Result Said Refusal
saying (refusal k) = Err (refusal_of k)
saying done = Ok Done
saying (spans r) = Ok (Spans (record { vertex = r.vertex; x1 = r.x1; y1 = r.y1; x2 = r.x2; y2 = r.y2 }))
saying (touch clear) = Ok (Touched Clear)
saying (touch (wall k n)) = Ok (Touched (Wall k n))
saying (says t) = Ok (Says t)
saying (wrote n) = Ok (Wrote n)
saying (made n) = Ok (Made n)

-- the reply that says what a reply says is that reply
pub saying_back : (a : Result Said Refusal) → saying (reply_of a) ≡ a
unfolding reply_of rect_in touch_in
saying_back (Err k) = ap Err (back k)
saying_back (Ok Done) = refl
saying_back (Ok (Spans r)) = refl
saying_back (Ok (Touched Clear)) = refl
saying_back (Ok (Touched (Wall k n))) = refl
saying_back (Ok (Says t)) = refl
saying_back (Ok (Wrote n)) = refl
saying_back (Ok (Made n)) = refl

-- two calls that hand back the same board and the same reply hand back the same
same_step : (b c : HeldBoard) (x y : Result Said Refusal) → b ≡ c → x ≡ y → ◌≡◌ {A = Handed} (record { board = b; reply = x }) (record { board = c; reply = y })
same_step b c x y e f = rw (e, f)

-- A CALL'S PROMISE ALLOWS ONE ANSWER, ONE BOARD AND ONE BUFFER
pub one_step : (s : Outcome) (r t : Handed) (x y : List ℕ) → Tells r x s → Tells t y s → (r ≡ t) × (x ≡ y)
one_step s r t x y p q =
    let e : r.reply ≡ t.reply = sym (saying_back r.reply) ∙ ap saying (p.reply ∙ sym q.reply) ∙ saying_back t.reply in
    (same_step r.board t.board r.reply t.reply (p.board ∙ sym q.board) e, p.buffer ∙ sym q.buffer)

-- THE PROMISE OF `plan_job` ALLOWS ONE ANSWER AND ONE BOARD
pub one_planned : (x : Answer) (r t : Result HeldBoard Refusal) → Plans r x → Plans t x → r ≡ t
unfolding said
one_planned x (Ok b) (Ok c) p q = ap Ok (p.keeps b refl ∙ sym (q.keeps c refl))
one_planned x (Ok b) (Err k) p q = not_held (q.says ∙ sym p.says)
one_planned x (Err k) (Ok c) p q = not_held (p.says ∙ sym q.says)
one_planned x (Err k) (Err l) p q = ap Err (same_refusal k l (one_number (p.says ∙ sym q.says)))

-- ---- the walls of a job planned

module _ (bs : List ℕ) (b : HeldBoard) (t : Plans (Ok b) (load bs)) where
  -- loading it comes to the job and plan that its board holds
  loads_so : load bs ≡ held (held_job b) (plan_in b.plan)
  unfolding said
  loads_so = sym t.says

  -- the board is as a load of these leaves it
  board_so : b ≡ board_for (held_job b) (plan_in b.plan)
  unfolding kept
  board_so = rw loads_so at (t.keeps b refl)

  -- THE REGISTER OF A JOB PLANNED is what a fresh count from its plan gives
  pub planned_register : register_in b.register ≡ register (plan_in b.plan)
  planned_register = ap (λ (c : HeldBoard). register_in c.register) board_so ∙ register_is _ _ (load_held bs _ _ loads_so).1

  -- and has at most 64 walls
  pub planned_few : b.register.many ≤ 64
  unfolding board_for
  planned_few = rw (ap (λ (c : HeldBoard). c.register.many) board_so) (few_kept _)
