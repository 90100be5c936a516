-- What follows from the promises of the library's functions. Assumes nothing.
use Prim.Native.Nat.{ℕ, ◌+◌, ◌-◌, ◌/◌, ◌%◌, ◌≤◌, ◌<◌}
use mathlib.Core.Path.{◌≡◌, refl, sym, ap, ◌∙◌}
use mathlib.Core.Logic.{◌↔◌}
use mathlib.Core.Bool.{Bool, true, false}
use mathlib.Core.Option.{Option, none, some}
use mathlib.Core.List.{List}
use native.Mathlib.Omega.{arith}
use borrow.Author.Tests.{leb-true}
use lib.ListN.{length}
use Rattle.floor.specs.Jobs.{write_sized, raw_star}
use Rattle.floor.specs.Plans.{Touch, clear, wall, write_plan}
use Rattle.floor.specs.Registers.{register, write_register}
use Rattle.floor.specs.Cuts.{Tree, write_tree, plan_tree}
use Rattle.floor.specs.Calls.{Board, empty, holding, Call, loads, turns, narrows, touches, writes_job, writes_plan, writes_register, writes_cuts, Reply, refusal, done, spans}
use Rattle.floor.specs.Calls.{touch, says, wrote, made, Step, lent, refuse, asks, slims, writes, writes_tree, touching, step}
use Rattle.floor.proofs.Calls.Effects.{refused_leaves}
use Rattle.floor.specs.Tracker.{behind, then, plan_of_job, walls_of_job, cuts_of_job, turned_of_job, instead, told_written, narrowed_of_job, touch_of_job, star_of_job, touch_code, code}
use Rattle.floor.proofs.Tracker.Codes.{Fair, touch_code_lem, touching_fair}
use Rattle.tirunoiwa.proofs.Numbers.{same_refusal, Numbered, step_numbered, writes_told}
use Rattle.tirunoiwa.proofs.Calling.{then_any, then_numbered}

-- ---- one answer

-- what a function promises that writes to a buffer: the answer, and every byte
abbrev pub Promised : Step → ℕ → List ℕ → Type 0
Promised s r x = (r ≡ code s.reply) × (x ≡ s.buffer)

-- such a promise allows one answer and one buffer
one : (s : Step) (r t : ℕ) (x y : List ℕ) → Promised s r x → Promised s t y → (r ≡ t) × (x ≡ y)
one s r t x y p q = (p.0 ∙ sym q.0, p.1 ∙ sym q.1)

module _ (bs buf : List ℕ) (r t : ℕ) (x y : List ℕ) where
  -- THE PROMISE OF `tirunoiwa_plan` ALLOWS ONE ANSWER AND ONE BUFFER
  pub one_plan : Promised (plan_of_job bs buf) r x → Promised (plan_of_job bs buf) t y → (r ≡ t) × (x ≡ y)
  one_plan = one (plan_of_job bs buf) r t x y

  -- THE PROMISE OF `tirunoiwa_walls` ALLOWS ONE ANSWER AND ONE BUFFER
  pub one_walls : Promised (walls_of_job bs buf) r x → Promised (walls_of_job bs buf) t y → (r ≡ t) × (x ≡ y)
  one_walls = one (walls_of_job bs buf) r t x y

  -- THE PROMISE OF `tirunoiwa_cuts` ALLOWS ONE ANSWER AND ONE BUFFER
  pub one_cuts : Promised (cuts_of_job bs buf) r x → Promised (cuts_of_job bs buf) t y → (r ≡ t) × (x ≡ y)
  one_cuts = one (cuts_of_job bs buf) r t x y

  -- THE PROMISE OF `tirunoiwa_turned` ALLOWS ONE ANSWER AND ONE BUFFER
  pub one_turned : (u v : ℕ) → Promised (turned_of_job bs u v buf) r x → Promised (turned_of_job bs u v buf) t y → (r ≡ t) × (x ≡ y)
  one_turned u v = one (turned_of_job bs u v buf) r t x y

  -- THE PROMISE OF `tirunoiwa_narrow` ALLOWS ONE ANSWER AND ONE BUFFER
  pub one_narrow : Promised (narrowed_of_job bs buf) r x → Promised (narrowed_of_job bs buf) t y → (r ≡ t) × (x ≡ y)
  one_narrow = one (narrowed_of_job bs buf) r t x y

  -- THE PROMISE OF `tirunoiwa_star` ALLOWS ONE ANSWER AND ONE BUFFER
  pub one_star : (room : ℕ) → Promised (star_of_job bs room buf) r x → Promised (star_of_job bs room buf) t y → (r ≡ t) × (x ≡ y)
  one_star room = one (star_of_job bs room buf) r t x y

-- THE PROMISE OF `tirunoiwa_touch` ALLOWS ONE ANSWER
pub one_touch : (bs : List ℕ) (u v r t : ℕ) → r ≡ code (touch_of_job bs u v).reply → t ≡ code (touch_of_job bs u v).reply → r ≡ t
one_touch bs u v r t p q = p ∙ sym q

-- ---- how an answer is read

-- below 256 an answer is the refusal's number, one of 1 to 18; no other answer is below
pub record Refusals (a : ℕ) (r : Reply) : Type 0 where
  pub refused : (k : ℕ) → (r ≡ refusal k) ↔ ((a ≡ k) × (a < 256))
  pub number : a < 256 → (1 ≤ a) × (a ≤ 18)

-- from 256 on an answer tells the length that was written
pub record TellsLength (a : ℕ) (r : Reply) : Type 0 where
  pub refusals : Refusals a r
  pub length : (n : ℕ) → (r ≡ wrote n) ↔ (a ≡ 256 + n)

-- from 256 on an answer tells the number of turns made
pub record TellsTurns (a : ℕ) (r : Reply) : Type 0 where
  pub refusals : Refusals a r
  pub turns : (n : ℕ) → (r ≡ made n) ↔ (a ≡ 256 + n)

-- from 256 on an answer tells a touch: one number, one touch, and its side and length are read off the number
pub record TellsTouch (a : ℕ) (r : Reply) : Type 0 where
  pub refusals : Refusals a r
  pub touched : (t : Touch) → Fair t → (r ≡ touch t) ↔ (a ≡ 256 + touch_code t)
  pub none : (r ≡ touch clear) ↔ (a ≡ 256)
  pub side : (k n : ℕ) → r ≡ touch (wall k n) → (a - 256) % 4 ≡ k
  pub length : (k n : ℕ) → r ≡ touch (wall k n) → (a - 256) / 4 ≡ n

-- a refusal, or a length
abbrev Lengths : Reply → Type 0
Lengths (refusal k) = Unit {0}
Lengths done = ⊥
Lengths (spans r) = ⊥
Lengths (touch t) = ⊥
Lengths (says t) = ⊥
Lengths (wrote n) = Unit {0}
Lengths (made n) = ⊥

-- a refusal, or a number of turns
abbrev Turning : Reply → Type 0
Turning (refusal k) = Unit {0}
Turning done = ⊥
Turning (spans r) = ⊥
Turning (touch t) = ⊥
Turning (says t) = ⊥
Turning (wrote n) = ⊥
Turning (made n) = Unit {0}

-- a refusal, or a touch that can be
abbrev Fairly : Reply → Type 0
Fairly (refusal k) = Unit {0}
Fairly done = ⊥
Fairly (spans r) = ⊥
Fairly (touch t) = Fair t
Fairly (says t) = ⊥
Fairly (wrote n) = ⊥
Fairly (made n) = ⊥

-- a refusal is no length
no_wrote : {X : Type 0} {k n : ℕ} → refusal k ≡ wrote n → X
no_wrote e = let z : ◌≡◌ {A = ℕ} 0 1 = cc in absurd (omega arith)

-- a refusal is no number of turns
no_made : {X : Type 0} {k n : ℕ} → refusal k ≡ made n → X
no_made e = let z : ◌≡◌ {A = ℕ} 0 1 = cc in absurd (omega arith)

-- a refusal is no touch
no_touch : {X : Type 0} {k : ℕ} {t : Touch} → refusal k ≡ touch t → X
no_touch e = let z : ◌≡◌ {A = ℕ} 0 1 = cc in absurd (omega arith)

-- replies of a length that are equal tell one length
same_wrote : {k l : ℕ} → wrote k ≡ wrote l → k ≡ l
same_wrote e = cc

-- replies of a number of turns that are equal tell one number
same_made : {k l : ℕ} → made k ≡ made l → k ≡ l
same_made e = cc

-- replies of a touch that are equal tell one touch
same_touch : {t s : Touch} → touch t ≡ touch s → t ≡ s
same_touch e = cc

module _ (k : ℕ) (n : Numbered (refusal k)) where
  -- a refusal with a number from 1 to 18 is read as that refusal
  a_refusal : Refusals (code (refusal k)) (refusal k)
  unfolding code
  a_refusal = record { refused = λ l. ((λ e. (same_refusal e, omega (arith, n.1))), λ e. ap refusal e.0); number = λ h. n }

-- what is no refusal is from 256 on
not_refused : (r : Reply) → 256 ≤ code r → ((k : ℕ) → refusal k ≡ r → ⊥) → Refusals (code r) r
not_refused r h f = record { refused = λ k. ((λ e. absurd (f k (sym e))), λ e. absurd (omega (arith, h, e.1))); number = λ l. absurd (omega (arith, h, l)) }

-- a refusal or a length is read as what it is
tells_length : (r : Reply) → Numbered r → Lengths r → TellsLength (code r) r
unfolding code
tells_length (refusal k) n w = record { refusals = a_refusal k n; length = λ m. ((λ e. no_wrote e), λ e. absurd (omega (arith, n.1, e))) }
tells_length done n w = absurd w
tells_length (spans r) n w = absurd w
tells_length (touch t) n w = absurd w
tells_length (says t) n w = absurd w
tells_length (wrote l) n w = record {
  refusals = not_refused (wrote l) (omega arith) (λ k e. no_wrote e);
  length = λ m. ((λ e. ap (λ (k : ℕ). 256 + k) (same_wrote e)), λ e. ap wrote (omega (arith, e)));
}
tells_length (made l) n w = absurd w

-- a refusal or a number of turns is read as what it is
tells_turns : (r : Reply) → Numbered r → Turning r → TellsTurns (code r) r
unfolding code
tells_turns (refusal k) n w = record { refusals = a_refusal k n; turns = λ m. ((λ e. no_made e), λ e. absurd (omega (arith, n.1, e))) }
tells_turns done n w = absurd w
tells_turns (spans r) n w = absurd w
tells_turns (touch t) n w = absurd w
tells_turns (says t) n w = absurd w
tells_turns (wrote l) n w = absurd w
tells_turns (made l) n w = record {
  refusals = not_refused (made l) (omega arith) (λ k e. no_made e);
  turns = λ m. ((λ e. ap (λ (k : ℕ). 256 + k) (same_made e)), λ e. ap made (omega (arith, e)));
}

-- a refusal, or a touch, is read as what it is
tells_touch : (r : Reply) → Numbered r → Fairly r → TellsTouch (code r) r
unfolding code touch_code
tells_touch (refusal k) n w = record {
  refusals = a_refusal k n;
  touched = λ t f. ((λ e. no_touch e), λ e. absurd (omega (arith, n.1, e)));
  none = ((λ e. no_touch e), λ e. absurd (omega (arith, n.1, e)));
  side = λ k n e. no_touch e;
  length = λ k n e. no_touch e;
}
tells_touch done n w = absurd w
tells_touch (spans r) n w = absurd w
tells_touch (touch t) n w = record {
  refusals = not_refused (touch t) (omega arith) (λ k e. no_touch e);
  touched = read;
  none = read clear tt;
  side = λ k n e. (parts k n (same_touch e) w).0;
  length = λ k n e. (parts k n (same_touch e) w).1;
}
  where
    read : (s : Touch) → Fair s → (touch t ≡ touch s) ↔ (256 + touch_code t ≡ 256 + touch_code s)
    read s f = ((λ e. ap (λ (x : Touch). 256 + touch_code x) (same_touch e)), λ e. ap touch (touch_code_lem t s w f (omega (arith, e))))

    parts : (k n : ℕ) → t ≡ wall k n → Fair t → ((256 + touch_code t - 256) % 4 ≡ k) × ((256 + touch_code t - 256) / 4 ≡ n)
    parts k n e f =
        let (l, h) : Fair (wall k n) = rw e at f in
        rw e (omega (arith, l), omega (arith, l))
tells_touch (says t) n w = absurd w
tells_touch (wrote l) n w = absurd w
tells_touch (made l) n w = absurd w

-- a writing is answered by a refusal or a length
writes_lengths : (b : Board) (t : Bool) (bs buf : List ℕ) → Lengths (writes b t bs buf).reply
unfolding writes refuse
writes_lengths b true bs buf = tt
writes_lengths b false bs buf = tt

-- so is the writing of the cuts
tree_lengths : (b : Board) (o : Option Tree) (buf : List ℕ) → Lengths (writes_tree b o buf).reply
unfolding writes_tree
tree_lengths b none buf = unfold refuse in tt
tree_lengths b (some t) buf = writes_lengths b _ (write_tree t) buf

-- a writing behind a step is read as what it is
written_tells : (s : Step) (c : Call) → Numbered s.reply → ((b : Board) → Lengths (step b c).reply) → TellsLength (code (then s c).reply) (then s c).reply
written_tells s c n f = tells_length _ (then_numbered s c n) (then_any s c Lengths f (λ k e. tt))

-- what both answers have, the one told in the stead of the other has
instead_any : (P : Reply → Type 0) (r t : Reply) → P r → P t → P (instead r t)
unfolding instead
instead_any P (refusal k) t x y = x
instead_any P done t x y = y
instead_any P (spans r) t x y = y
instead_any P (touch w) t x y = y
instead_any P (says w) t x y = y
instead_any P (wrote n) t x y = y
instead_any P (made n) t x y = y

-- a number of turns, told in the stead of a length
instead_turning : (r t : Reply) → Turning t → Turning (instead r t)
unfolding instead
instead_turning (refusal k) t y = tt
instead_turning done t y = y
instead_turning (spans r) t y = y
instead_turning (touch w) t y = y
instead_turning (says w) t y = y
instead_turning (wrote n) t y = y
instead_turning (made n) t y = y

-- a refusal told is one of the writing or of the call before it
instead_refused : (r t : Reply) (k : ℕ) → ((l : ℕ) → t ≡ refusal l → r ≡ refusal l) → instead r t ≡ refusal k → r ≡ refusal k
unfolding instead
instead_refused (refusal l) t k f e = e
instead_refused done t k f e = f k e
instead_refused (spans r) t k f e = f k e
instead_refused (touch w) t k f e = f k e
instead_refused (says w) t k f e = f k e
instead_refused (wrote n) t k f e = f k e
instead_refused (made n) t k f e = f k e

module _ (bs : List ℕ) where
  -- where the load is refused, its number is one of 1 to 18
  loaded : Numbered (step empty (loads bs)).reply
  loaded = step_numbered empty (loads bs)

  module _ (buf : List ℕ) where
    -- THE ANSWER OF `tirunoiwa_plan`, READ
    pub plan_tells : TellsLength (code (plan_of_job bs buf).reply) (plan_of_job bs buf).reply
    unfolding plan_of_job
    plan_tells = written_tells (step empty (loads bs)) (writes_plan buf) loaded lengths
      where
        lengths : (b : Board) → Lengths (step b (writes_plan buf)).reply
        lengths empty = unfold step refuse in tt
        lengths (holding j p) = unfold step in writes_lengths (holding j p) _ (write_plan p) buf

    -- THE ANSWER OF `tirunoiwa_walls`, READ
    pub walls_tells : TellsLength (code (walls_of_job bs buf).reply) (walls_of_job bs buf).reply
    unfolding walls_of_job
    walls_tells = written_tells (step empty (loads bs)) (writes_register buf) loaded lengths
      where
        lengths : (b : Board) → Lengths (step b (writes_register buf)).reply
        lengths empty = unfold step refuse in tt
        lengths (holding j p) = unfold step in writes_lengths (holding j p) _ (write_register (register p)) buf

    -- THE ANSWER OF `tirunoiwa_cuts`, READ
    pub cuts_tells : TellsLength (code (cuts_of_job bs buf).reply) (cuts_of_job bs buf).reply
    unfolding cuts_of_job
    cuts_tells = written_tells (step empty (loads bs)) (writes_cuts buf) loaded lengths
      where
        lengths : (b : Board) → Lengths (step b (writes_cuts buf)).reply
        lengths empty = unfold step refuse in tt
        lengths (holding j p) = unfold step in tree_lengths (holding j p) (plan_tree p) buf

    -- THE ANSWER OF `tirunoiwa_turned`, READ
    pub turned_tells : (u v : ℕ) → TellsLength (code (turned_of_job bs u v buf).reply) (turned_of_job bs u v buf).reply
    unfolding turned_of_job
    turned_tells u v =
        written_tells (then (step empty (loads bs)) (turns u v)) (writes_job buf) (then_numbered (step empty (loads bs)) (turns u v) loaded) lengths
      where
        lengths : (b : Board) → Lengths (step b (writes_job buf)).reply
        lengths empty = unfold step refuse in tt
        lengths (holding j p) = unfold step in writes_lengths (holding j p) _ (write_sized j) buf

    -- THE ANSWER OF `tirunoiwa_narrow`, READ
    pub narrow_tells : TellsTurns (code (narrowed_of_job bs buf).reply) (narrowed_of_job bs buf).reply
    unfolding narrowed_of_job told_written
    narrow_tells =
        tells_turns _ (instead_any Numbered _ _ (then_numbered _ (writes_job buf) (then_numbered _ narrows loaded)) (then_numbered _ narrows loaded))
        (instead_turning _ _ (then_any (step empty (loads bs)) narrows Turning turning (λ k e. tt)))
      where
        turning : (b : Board) → Turning (step b narrows).reply
        turning empty = unfold step refuse in tt
        turning (holding j p) = unfold step slims in tt

    -- THE ANSWER OF `tirunoiwa_star`, READ
    pub star_tells : (room : ℕ) → TellsLength (code (star_of_job bs room buf).reply) (star_of_job bs room buf).reply
    unfolding star_of_job
    star_tells room = tells_length _ (writes_told 0 empty _ (raw_star bs room) buf (leb-true (length (raw_star bs room)) (length buf))).0 (writes_lengths empty _ (raw_star bs room) buf)

  -- THE ANSWER OF `tirunoiwa_touch`, READ
  pub touch_tells : (u v : ℕ) → TellsTouch (code (touch_of_job bs u v).reply) (touch_of_job bs u v).reply
  unfolding touch_of_job
  touch_tells u v = tells_touch _ (then_numbered (step empty (loads bs)) (touches u v) loaded)
      (then_any (step empty (loads bs)) (touches u v) Fairly answers (λ k e. tt))
    where
      asked : (b : Board) (q : Bool) (t : Touch) → Fair t → Fairly (asks b q (touch t)).reply
      asked b true t f = unfold asks in f
      asked b false t f = unfold asks refuse in tt

      answers : (b : Board) → Fairly (step b (touches u v)).reply
      answers empty = unfold step refuse in tt
      answers (holding j p) = unfold step in asked (holding j p) _ (touching p u v) (touching_fair p u v)

-- ---- a refusal leaves every byte of the buffer

-- where a call behind another is refused, or none is made, the buffer that it lends is as it was
behind_leaves : (r : Reply) (b : Board) (c : Call) (k : ℕ) → (behind r b c).reply ≡ refusal k → (behind r b c).buffer ≡ lent c
unfolding behind refuse
behind_leaves (refusal l) b c k e = refl
behind_leaves done b c k e = (refused_leaves b c k e).same_buffer
behind_leaves (spans r) b c k e = (refused_leaves b c k e).same_buffer
behind_leaves (touch t) b c k e = (refused_leaves b c k e).same_buffer
behind_leaves (says t) b c k e = (refused_leaves b c k e).same_buffer
behind_leaves (wrote n) b c k e = (refused_leaves b c k e).same_buffer
behind_leaves (made n) b c k e = (refused_leaves b c k e).same_buffer

-- behind a refusal its number stands
behind_stands : (r : Reply) (b : Board) (c : Call) (k : ℕ) → r ≡ refusal k → (behind r b c).reply ≡ refusal k
unfolding behind refuse
behind_stands r b c k e = rw e

-- where a call is refused whose answer is told in the stead of a length, or the writing behind it, the buffer is as it was
told_leaves : (s : Step) (buf : List ℕ) (k : ℕ) → (told_written s buf).reply ≡ refusal k → (told_written s buf).buffer ≡ buf
unfolding told_written then lent
told_leaves s buf k e =
    behind_leaves s.reply s.board (writes_job buf) k
    (instead_refused _ s.reply k (λ l q. behind_stands s.reply s.board (writes_job buf) l q) e)

module _ (bs buf : List ℕ) (k : ℕ) where
  -- a plan that is refused leaves the buffer as it was
  pub plan_leaves : (plan_of_job bs buf).reply ≡ refusal k → (plan_of_job bs buf).buffer ≡ buf
  unfolding plan_of_job then lent
  plan_leaves e = behind_leaves _ _ (writes_plan buf) k e

  -- walls that are refused leave the buffer as it was
  pub walls_leaves : (walls_of_job bs buf).reply ≡ refusal k → (walls_of_job bs buf).buffer ≡ buf
  unfolding walls_of_job then lent
  walls_leaves e = behind_leaves _ _ (writes_register buf) k e

  -- cuts that are refused leave the buffer as it was
  pub cuts_leaves : (cuts_of_job bs buf).reply ≡ refusal k → (cuts_of_job bs buf).buffer ≡ buf
  unfolding cuts_of_job then lent
  cuts_leaves e = behind_leaves _ _ (writes_cuts buf) k e

  -- a turned job that is refused leaves the buffer as it was
  pub turned_leaves : (u v : ℕ) → (turned_of_job bs u v buf).reply ≡ refusal k → (turned_of_job bs u v buf).buffer ≡ buf
  unfolding turned_of_job then lent
  turned_leaves u v e = behind_leaves _ _ (writes_job buf) k e

  -- a narrowed job that is refused leaves the buffer as it was
  pub narrow_leaves : (narrowed_of_job bs buf).reply ≡ refusal k → (narrowed_of_job bs buf).buffer ≡ buf
  unfolding narrowed_of_job
  narrow_leaves e = told_leaves _ buf k e

  -- a star that is refused leaves the buffer as it was
  pub star_leaves : (room : ℕ) → (star_of_job bs room buf).reply ≡ refusal k → (star_of_job bs room buf).buffer ≡ buf
  unfolding star_of_job
  star_leaves room e = go _ e
    where
      go : (t : Bool) → (writes empty t (raw_star bs room) buf).reply ≡ refusal k → (writes empty t (raw_star bs room) buf).buffer ≡ buf
      go true e = unfold writes in no_wrote (sym e)
      go false e = unfold writes refuse in refl
