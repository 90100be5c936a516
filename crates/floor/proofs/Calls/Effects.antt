-- What one call does: a refusal leaves all as it was, a writing fills the front of the buffer, what is written loads as the same board, and a turn made again
-- restores it.
-- Assumes nothing.
use Rattle.std.specs.Prelude.{ℕ, ◌≤◌, ◌+◌, ◌-◌, ◌<◌, Bool, true, false, List, [], ◌∷◌, length, take, drop, get_or}
use Rattle.std.proofs.Math.Path.{◌≡◌, refl}
use Rattle.std.proofs.Common.{sym, ap, ◌∙◌, inl, inr, length-append, length-drop, take_at, drop_at, ext_get_or, arith, leb-true}
use Rattle.std.proofs.Math.Option.{Option, none, some}
use Rattle.floor.specs.Fields.{Bytes}
use Rattle.floor.specs.Lists.{all, any}
use Rattle.floor.proofs.Lists.Laws.{no_false, and_right, any_mem, get_or_mem}
use Rattle.floor.specs.Jobs.{Sizes, SizedJob, one_cell, Room, size_of, size_ok, larger, test17, write_sized}
use Rattle.floor.specs.Jobs.Written.{Counts}
use Rattle.floor.proofs.Jobs.Written.{read_write_job, write_read_job}
use Rattle.floor.specs.Plans.{Plan, Answer, refused, held, drawn, write_plan}
use Rattle.floor.proofs.Plans.Held.{drawn_held, drawn_again}
use Rattle.floor.specs.Cuts.{Tree, write_tree, plan_tree}
use Rattle.floor.specs.Registers.{register, write_register}
use Rattle.floor.specs.Turns.{turn, turned_with}
use Rattle.floor.proofs.Turns.Restore.{asked, turned_restores}
use Rattle.floor.specs.Calls.{load, Board, empty, holding, Call, loads, turns, narrows, rectangle, writes_job, writes_plan, Reply, refusal, done, wrote, Left}
use Rattle.floor.specs.Calls.{Restored, Step, lent, refuse, after, slims, asks, writes, step, touches, writes_register, slices, writes_cuts, writes_tree}
use Rattle.floor.specs.Calls.Sound.{Sound}
use Rattle.floor.proofs.Calls.Sound.{sound_good, load_held, load_reads, some_room}

-- what is done is not refused
no_refusal : {X : Type 0} {k : ℕ} → done ≡ refusal k → X
no_refusal e = let z : ◌≡◌ {A = ℕ} 0 1 = cc in absurd (omega arith)

-- a load or turn that is refused leaves the board
after_refused : (b : Board) (r : Answer) (k : ℕ) → (after b r).reply ≡ refusal k → Left b [] (after b r)
unfolding after refuse
after_refused b (refused n) k e = record { same_board = refl; same_buffer = refl }
after_refused b (held o p) k e = no_refusal e

-- a question leaves the board, whatever it answers
asks_left : (b : Board) (t : Bool) (r : Reply) → Left b [] (asks b t r)
unfolding asks refuse
asks_left b true r = record { same_board = refl; same_buffer = refl }
asks_left b false r = record { same_board = refl; same_buffer = refl }

-- a writing that is refused leaves the board and every byte of the buffer
writes_refused : (b : Board) (t : Bool) (bs buf : List ℕ) (k : ℕ) → (writes b t bs buf).reply ≡ refusal k → Left b buf (writes b t bs buf)
unfolding writes refuse
writes_refused b true bs buf k e = let z : ◌≡◌ {A = ℕ} 0 1 = cc in absurd (omega arith)
writes_refused b false bs buf k e = record { same_board = refl; same_buffer = refl }

-- a writing of a tree of cuts that is refused leaves the board and every byte of the buffer
tree_refused : (b : Board) (o : Option Tree) (buf : List ℕ) (k : ℕ) → (writes_tree b o buf).reply ≡ refusal k → Left b buf (writes_tree b o buf)
unfolding writes_tree refuse
tree_refused b none buf k e = record { same_board = refl; same_buffer = refl }
tree_refused b (some t) buf k e = writes_refused b _ (write_tree t) buf k e

-- A REFUSED CALL leaves the board, and every byte of the buffer
pub refused_leaves : (b : Board) (c : Call) (k : ℕ) → (step b c).reply ≡ refusal k → Left b (lent c) (step b c)
unfolding step lent refuse
refused_leaves b (loads bs) k e = load_leaves b e
  where
    load_leaves : (b : Board) → (after b (load bs)).reply ≡ refusal k → Left b [] (after b (load bs))
    load_leaves b e = after_refused b (load bs) k e
refused_leaves empty (turns u v) k e = record { same_board = refl; same_buffer = refl }
refused_leaves empty narrows k e = record { same_board = refl; same_buffer = refl }
refused_leaves empty (rectangle v) k e = record { same_board = refl; same_buffer = refl }
refused_leaves empty (touches u v) k e = record { same_board = refl; same_buffer = refl }
refused_leaves empty (writes_job buf) k e = record { same_board = refl; same_buffer = refl }
refused_leaves empty (writes_plan buf) k e = record { same_board = refl; same_buffer = refl }
refused_leaves empty (writes_register buf) k e = record { same_board = refl; same_buffer = refl }
refused_leaves empty slices k e = record { same_board = refl; same_buffer = refl }
refused_leaves empty (writes_cuts buf) k e = record { same_board = refl; same_buffer = refl }
refused_leaves (holding i q) (turns u v) k e = after_refused (holding i q) (turn i u v) k e
refused_leaves (holding i q) narrows k e = unfold slims in (let z : ◌≡◌ {A = ℕ} 0 1 = cc in absurd (omega arith))
refused_leaves (holding i q) (rectangle v) k e = asks_left (holding i q) _ _
refused_leaves (holding i q) (touches u v) k e = asks_left (holding i q) _ _
refused_leaves (holding i q) (writes_job buf) k e = writes_refused (holding i q) _ (write_sized i) buf k e
refused_leaves (holding i q) (writes_plan buf) k e = writes_refused (holding i q) _ (write_plan q) buf k e
refused_leaves (holding i q) (writes_register buf) k e = writes_refused (holding i q) _ (write_register (register q)) buf k e
refused_leaves (holding i q) slices k e = asks_left (holding i q) _ _
refused_leaves (holding i q) (writes_cuts buf) k e = tree_refused (holding i q) (plan_tree q) buf k e

-- WHAT A WRITING DOES: the front is filled, the length told, nothing behind it touched, and the board left
pub record Written (b : Board) (bs buf : List ℕ) (n : ℕ) (s : Step) : Type 0 where
  pub same_board : s.board ≡ b
  pub is_length : n ≡ length bs
  pub front : take n s.buffer ≡ bs
  pub behind : drop n s.buffer ≡ drop n buf
  pub same_length : length s.buffer ≡ length buf

-- a writing that reports a length, where its bytes fit the buffer, fills the front, touches nothing behind it and leaves the board
writes_wrote : (b : Board) (t : Bool) (bs buf : List ℕ) (n : ℕ) → (t ≡ true → length bs ≤ length buf) → (writes b t bs buf).reply ≡ wrote n
    → Written b bs buf n (writes b t bs buf)
unfolding writes refuse
writes_wrote b true bs buf n h e =
    let q : n ≡ length bs = cc in
    record {
      same_board = refl;
      is_length = q;
      front = take_at bs (drop (length bs) buf) n (sym q);
      behind = drop_at bs (drop (length bs) buf) n (sym q) ∙ ap (λ (k : ℕ). drop k buf) (sym q);
      same_length = omega (arith, h refl, length-append bs (drop (length bs) buf), length-drop (length bs) buf);
    }
writes_wrote b false bs buf n h e = let z : ◌≡◌ {A = ℕ} 0 1 = cc in absurd (omega arith)

-- so does the writing of the held job
pub wrote_job : (o : SizedJob) (p : Plan) (buf : List ℕ) (n : ℕ) → (step (holding o p) (writes_job buf)).reply ≡ wrote n
    → Written (holding o p) (write_sized o) buf n (step (holding o p) (writes_job buf))
unfolding step
wrote_job o p buf n e = writes_wrote (holding o p) _ (write_sized o) buf n (leb-true (length (write_sized o)) (length buf)) e

-- so does the writing of the held plan
pub wrote_plan : (o : SizedJob) (p : Plan) (buf : List ℕ) (n : ℕ) → (step (holding o p) (writes_plan buf)).reply ≡ wrote n
    → Written (holding o p) (write_plan p) buf n (step (holding o p) (writes_plan buf))
unfolding step
wrote_plan o p buf n e = writes_wrote (holding o p) _ (write_plan p) buf n (leb-true (length (write_plan p)) (length buf)) e

-- so does the writing of the register
pub wrote_register : (o : SizedJob) (p : Plan) (buf : List ℕ) (n : ℕ) → (step (holding o p) (writes_register buf)).reply ≡ wrote n
    → Written (holding o p) (write_register (register p)) buf n (step (holding o p) (writes_register buf))
unfolding step
wrote_register o p buf n e = writes_wrote (holding o p) _ (write_register (register p)) buf n (leb-true (length (write_register (register p))) (length buf)) e

-- so does the writing of the tree of cuts, and there is one
pub wrote_cuts : (o : SizedJob) (p : Plan) (buf : List ℕ) (n : ℕ) → (step (holding o p) (writes_cuts buf)).reply ≡ wrote n
    → (t : Tree) × (plan_tree p ≡ some t) × Written (holding o p) (write_tree t) buf n (step (holding o p) (writes_cuts buf))
unfolding step
wrote_cuts o p buf n e = go (plan_tree p) e
  where
    go : (x : Option Tree) → (writes_tree (holding o p) x buf).reply ≡ wrote n
        → (t : Tree) × (x ≡ some t) × Written (holding o p) (write_tree t) buf n (writes_tree (holding o p) x buf)
    go none e = unfold writes_tree refuse in let z : ◌≡◌ {A = ℕ} 0 1 = cc in absurd (omega arith)
    go (some t) e = unfold writes_tree in (t, refl, writes_wrote (holding o p) _ (write_tree t) buf n (leb-true (length (write_tree t)) (length buf)) e)

-- a load that holds, on whatever board
after_held : (b : Board) (r : Answer) (o : SizedJob) (p : Plan) → r ≡ held o p → (after b r).board ≡ holding o p
unfolding after
after_held b r o p e = ap (λ (r : Answer). (after b r).board) e

-- WRITTEN AND LOADED, the same job and plan are held, whatever board the load is asked of
pub write_load : (b : Board) (o : SizedJob) (p : Plan) → Sound o p → (step b (loads (write_sized o))).board ≡ holding o p
unfolding step
write_load b o p s = after_held b (load (write_sized o)) o p (load_reads (write_sized o) o p (read_write_job o s.pass2 s.counts) s)

-- LOADED AND WRITTEN, the same bytes
pub load_write : (bs : List ℕ) (o : SizedJob) (p : Plan) → Bytes bs → load bs ≡ held o p → write_sized o ≡ bs
load_write bs o p ok e = write_read_job bs o ok (load_held bs o p e).0.six.reading

-- a turn that is held restores
after_restored : (b : Board) (r : Answer) (o : SizedJob) (p : Plan) → r ≡ held o p → Restored (holding o p) (after b r)
unfolding after
after_restored b r o p e = rw e (record { accepted = refl; same_board = refl })

-- TURNED AND TURNED AGAIN, in either order of the two numbers: accepted, and the same board
pub turn_turn : (o : SizedJob) (p : Plan) (u v : ℕ) → Sound o p → (step (holding o p) (turns u v)).reply ≡ done
    → Restored (holding o p) (step (step (holding o p) (turns u v)).board (turns u v)) × Restored (holding o p)
    (step (step (holding o p) (turns u v)).board (turns v u))
unfolding step
turn_turn o p u v s e = go (turn o u v) refl e
  where
    go : (r : Answer) → turn o u v ≡ r → (after (holding o p) r).reply ≡ done
        → Restored (holding o p) (step (after (holding o p) (turn o u v)).board (turns u v)) × Restored (holding o p)
        (step (after (holding o p) (turn o u v)).board (turns v u))
    go (refused k) q e = no_refusal {k = k} (sym (unfold after refuse in e))
    go (held i r) q e =
        let (t, c) = asked o u v i r s.passes q in
        let x : i ≡ turned_with t o.sizes = (drawn_held (turned_with t o.sizes) i r c).0 in
        let (y, z) = turned_restores o.stars s.passes p (sound_good o p s) o.sizes t in
        let d : drawn o ≡ held o p = drawn_again o p s.is_drawn in
        rw (after_held (holding o p) (turn o u v) i r q) (
          after_restored (holding i r) (turn i u v) o p (ap (λ (h : SizedJob). turn h u v) x ∙ y ∙ d),
          after_restored (holding i r) (turn i v u) o p
              (ap (λ (h : SizedJob). turn h v u) x ∙ z ∙ d),
        )

-- sizes past test 17 are not one cell for every room
plain_sized : (n : ℕ) (z : Sizes) → 0 < n → length z ≡ n → test17 z ≡ true → ((i : ℕ) → i < n → get_or z i one_cell ≡ one_cell) → ⊥
unfolding test17 larger
plain_sized n [] l e t h = absurd (omega arith)
plain_sized n (r ∷ z) l e t h =
    let (s, m, q) = any_mem larger (r ∷ z) (and_right (all size_ok (r ∷ z)) (any larger (r ∷ z)) t) in
    let (i, k, x) = get_or_mem (r ∷ z) s one_cell m in
    no_false (ap larger (sym (h i (omega arith)) ∙ x) ∙ q)

-- ONE JOB, ONE WRITING: sizes past test 17 that are the same for every room are the same, told or not
same_sizes : (n : ℕ) (y z : Sizes) → 0 < n → Counts n y → Counts n z → test17 y ≡ true → test17 z ≡ true
    → ((i : ℕ) → i < n → get_or y i one_cell ≡ get_or z i one_cell) → y ≡ z
same_sizes n y z l (inl a) (inl b) ty tz h = a ∙ sym b
same_sizes n y z l (inr a) (inr b) ty tz h = ext_get_or one_cell y z (a ∙ sym b) (λ i k. h i (omega arith))
same_sizes n y z l (inl a) (inr b) ty tz h = absurd (plain_sized n z l b tz (λ i k. sym (h i k) ∙ ap (λ (y : Sizes). get_or y i one_cell) a))
same_sizes n y z l (inr a) (inl b) ty tz h = absurd (plain_sized n y l a ty (λ i k. h i k ∙ ap (λ (z : Sizes). get_or z i one_cell) b))

-- the same stars, and for each room the same least size: the same job, so the same bytes
pub one_job : (o i : SizedJob) (p q : Plan) → Sound o p → Sound i q → o.stars ≡ i.stars
    → ((u : ℕ) → Room o.stars u → size_of o.sizes u ≡ size_of i.sizes u) → o ≡ i
unfolding size_of
one_job o i p q s t e h =
    let z : o.sizes ≡ i.sizes = same_sizes (length o.stars) o.sizes i.sizes (some_room o p s) s.counts (rw e t.counts) s.pass17 t.pass17
    (λ k l. rw (let x : 4 + k - 4 ≡ k = omega arith in x) at (h (4 + k) (omega arith, omega arith))) in
    λ n. record { stars = e n; sizes = z n }
