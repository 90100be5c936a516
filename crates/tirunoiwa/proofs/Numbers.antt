-- Which numbers answers have: a refusal 1 to 18, no length is greater than the lent buffer's, and no number of turns than the sheet is wide. Assumes nothing.
use Prim.Native.Nat.{ℕ, zero, suc, ◌≤◌}
use mathlib.Core.Path.{◌≡◌, refl}
use mathlib.Core.Bool.{Bool, true, false, ◌&&◌}
use mathlib.Core.Option.{Option, none, some}
use mathlib.Core.List.{List}
use native.Mathlib.Omega.{arith}
use borrow.Author.Tests.{leb-true, eqb-true}
use lib.Dec.{leb, eqb}
use lib.ListN.{length}
use Rattle.floor.specs.Lists.{all}
use Rattle.floor.proofs.Lists.Laws.{and_parts, any_mem, all_mem}
use Rattle.floor.specs.Jobs.{SizedJob, write_sized}
use Rattle.floor.specs.Plans.{Plan, Answer, refused, held, write_plan}
use Rattle.floor.specs.Registers.{register, write_register}
use Rattle.floor.specs.Cuts.{Tree, write_tree, plan_tree}
use Rattle.floor.specs.Turns.{turn}
use Rattle.floor.specs.Calls.{load, Board, empty, holding, Call, loads, turns, narrows, rectangle, touches, writes_job, writes_plan, writes_register, slices, writes_cuts, Reply, refusal, done, spans, touch}
use Rattle.floor.specs.Calls.{says, wrote, made, Answers, OneOf, of_load, of_turn, lent, refuse, after, slims, asks, writes, writes_tree, step}
use Rattle.floor.proofs.Calls.Exact.{load_answers, turn_answers}
use Rattle.floor.specs.Narrow.{narrow_once, onward, rounds, narrowed}

-- equal refusals have one number
pub same_refusal : {k l : ℕ} → refusal k ≡ refusal l → k ≡ l
same_refusal e = cc

-- a refusal is one of 1 to 18
abbrev pub Numbered : Reply → Type 0
Numbered (refusal k) = (1 ≤ k) × (k ≤ 18)
Numbered done = Unit {0}
Numbered (spans r) = Unit {0}
Numbered (touch t) = Unit {0}
Numbered (says t) = Unit {0}
Numbered (wrote n) = Unit {0}
Numbered (made n) = Unit {0}

-- a length is at most the one, and a number of turns at most the other
abbrev pub Within : ℕ → ℕ → Reply → Type 0
Within m w (refusal k) = Unit {0}
Within m w done = Unit {0}
Within m w (spans r) = Unit {0}
Within m w (touch t) = Unit {0}
Within m w (says t) = Unit {0}
Within m w (wrote n) = n ≤ m
Within m w (made n) = n ≤ w

-- how wide a board's sheet is
abbrev pub wide : Board → ℕ
wide empty = 0
wide (holding j p) = p.width

-- what a call answers, with a lent buffer so long, on a sheet so wide
abbrev pub Told : ℕ → ℕ → Reply → Type 0
Told m w r = Numbered r × Within m w r

-- a number from 1 on, and no greater than this
abbrev pub up_to : ℕ → ℕ → Bool
up_to m k = leb 1 k && leb k m

-- where all of some numbers are, any one of them is
pub among : (m : ℕ) (ks : List ℕ) (k : ℕ) → all (up_to m) ks ≡ true → OneOf ks k → (1 ≤ k) × (k ≤ m)
among m ks k a o =
    let (x, i, e) = any_mem (eqb k) ks o in
    let (l, h) = and_parts (leb 1 x) (leb x m) (all_mem (up_to m) ks a x i) in
    let q : k ≡ x = eqb-true k x e in
    rw q (leb-true 1 x l, leb-true x m h)

-- the reply of a load or a turn, whose refusals are these
after_told : (w : ℕ) (b : Board) (x : Answer) (ks : List ℕ) → all (up_to 18) ks ≡ true → Answers ks x → Told 0 w (after b x).reply
unfolding after refuse
after_told w b (refused k) ks a n = (among 18 ks k a n, tt)
after_told w b (held j p) ks a n = (tt, tt)

-- no more turns are made than rounds
rounds_few : (f : ℕ) (j : SizedJob) (p : Plan) → (rounds f j p).turns ≤ f
unfolding rounds
rounds_few zero j p = omega arith
rounds_few (suc f) j p = go (narrow_once j p) (rounds_few f)
  where
    go : (x : Answer) → ((i : SizedJob) (q : Plan) → (rounds f i q).turns ≤ f) → (onward j p x (λ i q. rounds f i q)).turns ≤ suc f
    go (refused k) below = unfold onward in omega arith
    go (held i q) below = unfold onward in omega (arith, below i q)

-- a question is answered within these bounds, where the answer that it asks for is
asks_told : (w : ℕ) (b : Board) (t : Bool) (r : Reply) → Told 0 w r → Told 0 w (asks b t r).reply
unfolding asks refuse
asks_told w b true r n = n
asks_told w b false r n = ((omega arith, omega arith), tt)

-- a writing is answered within these bounds, by the buffer's length, where what it writes fits
pub writes_told : (w : ℕ) (b : Board) (t : Bool) (bs buf : List ℕ) → (t ≡ true → length bs ≤ length buf) → Told (length buf) w (writes b t bs buf).reply
unfolding writes refuse
writes_told w b true bs buf h = (tt, h refl)
writes_told w b false bs buf h = ((omega arith, omega arith), tt)

-- so is the writing of the cuts
tree_told : (w : ℕ) (b : Board) (o : Option Tree) (buf : List ℕ) → Told (length buf) w (writes_tree b o buf).reply
unfolding writes_tree
tree_told w b none buf = unfold refuse in ((omega arith, omega arith), tt)
tree_told w b (some t) buf = writes_told w b _ (write_tree t) buf (leb-true (length (write_tree t)) (length buf))

-- the same of any call
step_told : (b : Board) (c : Call) → Told (length (lent c)) (wide b) (step b c).reply
unfolding step refuse lent
step_told b (loads bs) = after_told (wide b) b (load bs) of_load (unfold all in refl) (load_answers bs)
step_told empty (turns u v) = ((omega arith, omega arith), tt)
step_told empty narrows = ((omega arith, omega arith), tt)
step_told empty (rectangle v) = ((omega arith, omega arith), tt)
step_told empty (touches u v) = ((omega arith, omega arith), tt)
step_told empty (writes_job buf) = ((omega arith, omega arith), tt)
step_told empty (writes_plan buf) = ((omega arith, omega arith), tt)
step_told empty (writes_register buf) = ((omega arith, omega arith), tt)
step_told empty slices = ((omega arith, omega arith), tt)
step_told empty (writes_cuts buf) = ((omega arith, omega arith), tt)
step_told (holding j p) (turns u v) = after_told p.width (holding j p) (turn j u v) of_turn (unfold all in refl) (turn_answers j u v)
step_told (holding j p) narrows = unfold slims narrowed in (tt, rounds_few p.width j p)
step_told (holding j p) (rectangle v) = asks_told p.width (holding j p) _ _ (tt, tt)
step_told (holding j p) (touches u v) = asks_told p.width (holding j p) _ _ (tt, tt)
step_told (holding j p) (writes_job buf) = writes_told p.width (holding j p) _ (write_sized j) buf (leb-true (length (write_sized j)) (length buf))
step_told (holding j p) (writes_plan buf) = writes_told p.width (holding j p) _ (write_plan p) buf (leb-true (length (write_plan p)) (length buf))
step_told (holding j p) (writes_register buf) =
    writes_told p.width (holding j p) _ (write_register (register p)) buf (leb-true (length (write_register (register p))) (length buf))
step_told (holding j p) slices = asks_told p.width (holding j p) _ _ (tt, tt)
step_told (holding j p) (writes_cuts buf) = tree_told p.width (holding j p) (plan_tree p) buf

-- a refusal of any call is one of 1 to 18
pub step_numbered : (b : Board) (c : Call) → Numbered (step b c).reply
step_numbered b c = (step_told b c).0

-- a length that any call tells is at most that of the lent buffer
pub step_most : (b : Board) (c : Call) (n : ℕ) → (step b c).reply ≡ wrote n → n ≤ length (lent c)
step_most b c n e = rw e at (step_told b c).1

-- a number of turns is at most the width of the sheet
pub step_makes : (b : Board) (c : Call) (n : ℕ) → (step b c).reply ≡ made n → n ≤ wide b
step_makes b c n e = rw e at (step_told b c).1
