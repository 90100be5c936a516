-- What the calls answer, as the code comes by it. Assumes nothing.
use Prim.Native.Nat.{ℕ, ◌+◌}
use mathlib.Core.Path.{◌≡◌, refl, sym, ap, ◌∙◌}
use mathlib.Core.Bool.{Bool, true, false, not, ◌&&◌}
use mathlib.Core.Option.{Option, none, some}
use mathlib.Core.List.{List, []}
use native.Mathlib.Omega.{arith}
use borrow.Author.Tests.{ne_eqb, eq-eqb, not-true, not-false}
use lib.Dec.{leb}
use lib.ListN.{length, get_or}
use Rattle.floor.specs.Jobs.{Job, Sizes, SizedJob, sized_job, is_vertex, fails, reads, read_job, first_six, sizes_pass, write_sized}
use Rattle.floor.proofs.Jobs.Facts.{six_passed, sizes_passed, passes_of}
use Rattle.floor.proofs.Jobs.Written.{read_test2}
use Rattle.floor.specs.Plans.{Plan, Answer, refused, held, nowhere, rect_of, touch_of, write_plan, draw_read}
use Rattle.floor.specs.Registers.{Partition, write_register}
use Rattle.floor.specs.Cuts.{is_tree}
use Rattle.floor.specs.Calls.{load, Board, empty, holding, loads, turns, narrows, rectangle, touches, writes_job, writes_plan, writes_register, slices, writes_cuts}
use Rattle.floor.specs.Calls.{refuse, after, asks, writes, touching, step}
use Rattle.std.specs.Prelude.{Result, Ok, Err}
use Rattle.refusals.specs.declared.Refusal.{Refusal}
use Rattle.refusals.specs.declared.Refusal.TheVariants.{NothingHeld, NoVertex}
use Rattle.refusals.specs.Numbers.{number_of}
use Rattle.fields.specs.Writes.{replied, writing}
use Rattle.stars.specs.declared.Stars.{Stars}
use Rattle.stars.specs.declared.Sizes.{Sizes as HeldSizes}
use Rattle.stars.specs.Held.{job_in, job_of, no_stars, held_of}
use Rattle.stars.specs.Sized.{sizes_of, no_sizes, held_sizes}
use Rattle.stars.proofs.Holding.{length_stars, job_stars}
use Rattle.jobs.specs.declared.Job.{Job as ReadJob}
use Rattle.jobs.specs.Reads.{kept as read_kept, kept_sizes as read_kept_sizes, outcome as read_outcome, Keeps, Tells as ReadTells}
use Rattle.drawing.specs.declared.Rect.{Rect as HeldRect}
use Rattle.drawing.specs.declared.Touch.{Touch}
use Rattle.drawing.specs.declared.Touch.TheVariants.{Clear}
use Rattle.drawing.specs.declared.Plan.{Plan as HeldPlan}
use Rattle.drawing.specs.Rects.{rect_in, touch_in, rects_in, plan_from, plan_in, no_plan, held_plan, in_bytes}
use Rattle.drawing.specs.Drawn.{numbered_any, drawn_any, said as drawn_says, kept as plan_kept, Draws}
use Rattle.drawing.proofs.Corollaries.{drawn_any_lem, plan_held, rect_held}
use Rattle.registers.specs.declared.Register.{Register}
use Rattle.registers.specs.Sorting.{kept_walls}
use Rattle.registers.specs.Kept.{no_register, kept_register, walls_in, register_in}
use Rattle.registers.proofs.Corollaries.{walls_held}
use Rattle.cuts.specs.Runs.{tree_bytes, cut_tree, writing as writing_cuts}
use Rattle.turns.specs.declared.Swing.{Swing}
use Rattle.turns.specs.InPlace.{swings, swing_of, two_set, swung_in, turned_in, two_put, swing_said}
use Rattle.board.specs.declared.Board.{Board as HeldBoard}
use Rattle.board.specs.declared.Reply.{Reply as Said}
use Rattle.board.specs.declared.Reply.TheVariants.{Done, Spans, Touched, Says, Wrote}
use Rattle.board.specs.declared.Step.{Step as Handed}
use Rattle.board.specs.Boards.{board_for, no_board, held_job, board_of, kept, said, Plans, reply_of, handed, Outcome, as_rules, staying, stayed, newly, turned_to, outcome, Tells}

-- nothing is held
pub none_held : (s : Stars) (z : HeldSizes) (p : HeldPlan) (g : Register) → s ≡ no_stars → z ≡ no_sizes → p ≡ no_plan → g ≡ no_register
    → record { stars = s; sizes = z; plan = p; register = g } ≡ no_board
unfolding no_board
none_held s z p g e d f h = rw (e, d, f, h)

-- the walls of a held plan
abbrev Counted : Register → HeldPlan → Type 0
Counted g p = g ≡ kept_register (kept_walls (plan_in p))

-- one of each makes one board
same_board : {s s' : Stars} {z z' : HeldSizes} {p p' : HeldPlan} {g g' : Register} → s ≡ s' → z ≡ z' → p ≡ p' → g ≡ g'
    → ◌≡◌ {A = HeldBoard} (record { stars = s; sizes = z; plan = p; register = g }) (record { stars = s'; sizes = z'; plan = p'; register = g' })
same_board e d f h = rw (e, d, f, h)

-- ---- a job planned

-- boards that are given are one board where the results are equal
ok_same : {b c : HeldBoard} → ◌≡◌ {A = Result HeldBoard Refusal} (Ok b) (Ok c) → b ≡ c
ok_same e = cc

-- a refusal gives none
no_board_given : {k : Refusal} {b : HeldBoard} → ◌≡◌ {A = Result HeldBoard Refusal} (Err k) (Ok b) → ⊥
no_board_given e = let z : ◌≡◌ {A = ℕ} 0 1 = cc in omega arith

-- a refusal tells of an answer that is refused by its number
refuses : (q : Result HeldBoard Refusal) (x : Answer) (k : Refusal) → x ≡ refused (number_of k) → q ≡ Err k → Plans q x
unfolding said
refuses q x k e p = rw p (record { says = sym e; keeps = λ b f. absurd (no_board_given f) })

module _ (bs : List ℕ) (r : Result ReadJob Refusal) (t : ReadTells r (sizes_pass (first_six (read_job bs)))) where
  -- tests 1 to 6 and 17
  pub plan_unread : (q : Result HeldBoard Refusal) (k : Refusal) → r ≡ Err k → q ≡ Err k → Plans q (load bs)
  unfolding load draw_read read_outcome
  plan_unread q k e p =
      let f : sizes_pass (first_six (read_job bs)) ≡ fails (number_of k) = sym (rw e at t.says) in
      refuses q (load bs) k (ap draw_read f) p

  module _ (h : ReadJob) (e : r ≡ Ok h) where
    -- the job that was read
    abbrev o : SizedJob
    o = sized_job (job_of h.stars) (sizes_of h.sizes)

    -- tests 1 to 6 and 17 come to that job
    passed : sizes_pass (first_six (read_job bs)) ≡ reads o
    unfolding read_outcome
    passed = sym (rw e at t.says)

    -- loading the bytes comes to drawing that job
    loads_drawn : load bs ≡ drawn_any o
    unfolding load draw_read
    loads_drawn =
        let s = six_passed (read_job bs) o (sizes_passed (first_six (read_job bs)) o passed).0 in
        ap draw_read passed ∙ sym (drawn_any_lem o (read_test2 bs o s.reading) (passes_of o.stars s.pass4 s.pass5 s.pass6))

    -- the stars that were read are those of that job, held, and so are its sizes
    are_held : (h.stars ≡ held_of o.stars) × (h.sizes ≡ held_sizes o.sizes)
    unfolding Keeps read_kept read_kept_sizes
    are_held = rw (e, passed) at t.keeps

    module _ (j : Job) (z : Sizes) (ej : j ≡ job_of h.stars) (ez : z ≡ sizes_of h.sizes) (d : Result HeldPlan Refusal)
        (u : Draws d (sized_job j z) (drawn_any (sized_job j z))) where
      -- the stars and the sizes that were drawn are those that were read
      drew : Draws d o (drawn_any o)
      drew = rw (ej, ez) at u

      -- tests 7, 18 and 9
      pub plan_undrawn : (q : Result HeldBoard Refusal) (k : Refusal) → d ≡ Err k → q ≡ Err k → Plans q (load bs)
      unfolding drawn_says
      plan_undrawn q k f p =
          let g : drawn_any o ≡ refused (number_of k) = sym (rw f at drew.says) in
          refuses q (load bs) k (loads_drawn ∙ g) p

      -- past all of them: drawn, and the stars, the plan and its walls are kept
      pub plan_drawn : (p : HeldPlan) → d ≡ Ok p → (g : Register) → Counted g p
          → Plans (Ok (record { stars = h.stars; sizes = h.sizes; plan = p; register = g })) (load bs)
      unfolding drawn_says said kept plan_kept board_for held_job
      plan_drawn p f g c =
          let k : drawn_any o ≡ held o (plan_in p) = sym (rw f at drew.says) in
          let m : p ≡ held_plan (plan_in p) = rw k at (drew.keeps p f) in
          record {
            says = sym (loads_drawn ∙ k);
            keeps = λ b e. sym (ok_same e) ∙ rw (loads_drawn ∙ k) (same_board are_held.0 are_held.1 m c);
          }

-- ---- refusals

-- what the very board and a refusal tell, the step that is handed back tells
pub stays_tells : (r : Handed) (b : HeldBoard) (k : Refusal) (buf : List ℕ) (o : Outcome) → r ≡ stayed b k → Tells (stayed b k) buf o → Tells r buf o
stays_tells r b k buf o e t = rw e t

-- ---- stars numbered and held

module _ (b : HeldBoard) (s : Stars) (j : Job) (z : Sizes) (ej : j ≡ job_of s) (ez : z ≡ sizes_of b.sizes) (d : Result HeldPlan Refusal)
    (u : Draws d (sized_job j z) (numbered_any (sized_job j z))) where
  -- the job of the stars with the sizes held
  abbrev fresh : SizedJob
  fresh = sized_job (job_of s) (sizes_of b.sizes)

  -- it is what was numbered
  numbered : Draws d fresh (numbered_any fresh)
  numbered = rw (ej, ez) at u

  -- stars that are refused leave the very board, with the number of the test
  pub drawn_not : (k : Refusal) → d ≡ Err k → Tells (stayed b k) [] (newly b s (numbered_any fresh))
  unfolding drawn_says newly staying reply_of
  drawn_not k f =
      let g : numbered_any fresh ≡ refused (number_of k) = sym (rw f at numbered.says) in
      rw g (record { reply = refl; board = refl; buffer = refl })

  -- stars that have their plan are held with it and its walls, and the answer is done
  pub drawn_so : (p : HeldPlan) → d ≡ Ok p → (g : Register) → Counted g p
      → Tells (record { board = record { stars = s; sizes = b.sizes; plan = p; register = g }; reply = Ok Done }) [] (newly b s (numbered_any fresh))
  unfolding drawn_says plan_kept newly reply_of
  drawn_so p f g c =
      let k : numbered_any fresh ≡ held fresh (plan_in p) = sym (rw f at numbered.says) in
      let h : p ≡ held_plan (plan_in p) = rw k at (numbered.keeps p f) in
      rw k (record { reply = refl; board = same_board refl refl h c; buffer = refl })

-- ---- load

module _ (b : HeldBoard) (bs : List ℕ) (r : Result HeldBoard Refusal) (t : Plans r (load bs)) where
  -- a job that is drawn is held, and the answer is done
  pub load_held : (c : HeldBoard) → r ≡ Ok c → Tells (record { board = c; reply = Ok Done }) [] (outcome b (loads bs))
  unfolding outcome as_rules step after reply_of handed said kept
  load_held c d =
      let h : load bs ≡ held (held_job c) (plan_in c.plan) = sym (rw d at t.says) in
      let k : c ≡ board_for (held_job c) (plan_in c.plan) = rw h at (t.keeps c d) in
      rw h (record { reply = refl; board = k; buffer = refl })

  -- a job that is refused leaves the very board, with the number of the test
  pub load_refused : (k : Refusal) → r ≡ Err k → Tells (stayed b k) [] (outcome b (loads bs))
  unfolding outcome as_rules step after refuse reply_of handed said
  load_refused k d =
      let h : load bs ≡ refused (number_of k) = sym (rw d at t.says) in
      rw h (record { reply = refl; board = refl; buffer = refl })

-- ---- 10: nothing is held

module _ (b : HeldBoard) (e : b.stars.count ≡ 0) where
  -- a board without stars holds nothing
  is_empty : board_of b ≡ empty
  unfolding board_of
  is_empty = rw (eq-eqb b.stars.count 0 e)

  -- a turn is refused with 10, and the very board comes back
  pub ten_turn : (u v : ℕ) → Tells (stayed b NothingHeld) [] (outcome b (turns u v))
  unfolding outcome staying reply_of number_of
  ten_turn u v = rw (eq-eqb b.stars.count 0 e) (record { reply = refl; board = refl; buffer = refl })

  -- so is a narrowing
  pub ten_narrow : Tells (stayed b NothingHeld) [] (outcome b narrows)
  unfolding outcome staying reply_of number_of
  ten_narrow = rw (eq-eqb b.stars.count 0 e) (record { reply = refl; board = refl; buffer = refl })

  -- the question for a rectangle is refused with 10
  pub ten_rectangle : (v : ℕ) → Tells (stayed b NothingHeld) [] (outcome b (rectangle v))
  unfolding outcome as_rules handed step refuse reply_of number_of
  ten_rectangle v = rw is_empty (record { reply = refl; board = refl; buffer = refl })

  -- the question how two touch is refused with 10
  pub ten_touches : (u v : ℕ) → Tells (stayed b NothingHeld) [] (outcome b (touches u v))
  unfolding outcome as_rules handed step refuse reply_of number_of
  ten_touches u v = rw is_empty (record { reply = refl; board = refl; buffer = refl })

  -- the writing of the job is refused with 10, and the buffer stays
  pub ten_job : (buf : List ℕ) → Tells (stayed b NothingHeld) buf (outcome b (writes_job buf))
  unfolding outcome as_rules handed step refuse reply_of number_of
  ten_job buf = rw is_empty (record { reply = refl; board = refl; buffer = refl })

  -- the writing of the plan is refused with 10, and the buffer stays
  pub ten_plan : (buf : List ℕ) → Tells (stayed b NothingHeld) buf (outcome b (writes_plan buf))
  unfolding outcome as_rules handed refuse reply_of number_of
  ten_plan buf = rw (eq-eqb b.stars.count 0 e) (record { reply = refl; board = refl; buffer = refl })

  -- the writing of the walls is refused with 10, and the buffer stays
  pub ten_walls : (buf : List ℕ) → Tells (stayed b NothingHeld) buf (outcome b (writes_register buf))
  unfolding outcome as_rules handed refuse reply_of number_of
  ten_walls buf = rw (eq-eqb b.stars.count 0 e) (record { reply = refl; board = refl; buffer = refl })

  -- the question whether the floor can be cut straight is refused with 10
  pub ten_slices : Tells (stayed b NothingHeld) [] (outcome b slices)
  unfolding outcome as_rules handed refuse reply_of number_of
  ten_slices = rw (eq-eqb b.stars.count 0 e) (record { reply = refl; board = refl; buffer = refl })

  -- the writing of the cuts is refused with 10, and the buffer stays
  pub ten_cuts : (buf : List ℕ) → Tells (stayed b NothingHeld) buf (outcome b (writes_cuts buf))
  unfolding outcome as_rules handed refuse reply_of number_of
  ten_cuts buf = rw (eq-eqb b.stars.count 0 e) (record { reply = refl; board = refl; buffer = refl })

-- ---- a job and a plan are held

-- the held job has as many rooms as the stars count
count_is : (b : HeldBoard) → b.stars.count ≡ length (job_of b.stars)
unfolding job_of
count_is b = sym (length_stars b.stars.count 0 b.stars.ends b.stars.nbr b.stars.kind)

-- v is a vertex of the held job exactly if it is at most the count plus 3
vertex_is : (b : HeldBoard) (v : ℕ) → leb v (b.stars.count + 3) ≡ is_vertex (job_of b.stars) v
unfolding is_vertex
vertex_is b v = ap (λ (n : ℕ). leb v (n + 3)) (count_is b)

module _ (b : HeldBoard) (n : b.stars.count ≡ 0 → ⊥) where
  -- what is held
  abbrev job : Job
  job = job_of b.stars

  -- the plan that is held
  abbrev plan : Plan
  plan = plan_in b.plan

  -- a board with stars holds that job and that plan
  is_holding : board_of b ≡ holding (sized_job job (sizes_of b.sizes)) plan
  unfolding board_of held_job
  is_holding = rw (ne_eqb b.stars.count 0 n)

  -- a contact of the held stars turned in a copy of their kinds
  module _ (u v m : ℕ) (em : m ≡ b.stars.count) (r : Result Swing Refusal) (x : List ℕ)
      (t : (swing_said r ≡ swing_of (job_in m b.stars.ends b.stars.nbr b.stars.kind) u v)
      × (x ≡ turned_in m b.stars.ends b.stars.nbr b.stars.kind u v)) where
    -- which contact of the held job turns is what was answered
    so : swing_of job u v ≡ swing_said r
    so = rw (← job_stars b.stars m em) (sym t.0)

    -- a turn that is refused leaves the very board, with its number
    pub turn_stops : (k : Refusal) → r ≡ Err k → Tells (stayed b k) [] (outcome b (turns u v))
    unfolding outcome turned_to staying reply_of swing_said
    turn_stops k e = rw (ne_eqb b.stars.count 0 n, so, e) (record { reply = refl; board = refl; buffer = refl })

    -- the stars with it turned
    abbrev next : Stars
    next = record { count = b.stars.count; ends = b.stars.ends; nbr = b.stars.nbr; kind = x }

    -- they are the held stars with both stars of the contact put where they stand
    are : (w : Swing) → r ≡ Ok w → two_put b.stars w.first w.second w.kind ≡ next
    unfolding two_put turned_in swung_in swing_said
    are w e =
        let f : swing_of (job_in m b.stars.ends b.stars.nbr b.stars.kind) u v ≡ swings w.first w.second w.kind = rw e at (sym t.0) in
        let q : x ≡ two_set b.stars.ends b.stars.nbr b.stars.kind w.first w.second w.kind = rw f at t.1 in
        rw q

    -- where the contact turns, what numbering and holding the turned stars tells is what the call tells
    pub turn_swings : (w : Swing) → r ≡ Ok w → (h : Handed) → Tells h [] (newly b next (numbered_any (sized_job (job_of next) (sizes_of b.sizes)))) → Tells h [] (outcome b (turns u v))
    unfolding outcome turned_to swing_said
    turn_swings w e h q =
        let f : swing_of job u v ≡ swings w.first w.second w.kind = rw e at so in
        rw (ne_eqb b.stars.count 0 n, f, are w e) q

  module _ (v : ℕ) (w : Bool) (ew : w ≡ leb v (b.stars.count + 3)) where
    -- 13 where v is no vertex
    pub thirteen_rectangle : not w ≡ true → Tells (stayed b NoVertex) [] (outcome b (rectangle v))
    unfolding outcome as_rules handed step asks refuse reply_of number_of
    thirteen_rectangle m =
        let e : is_vertex job v ≡ false = sym (vertex_is b v) ∙ sym ew ∙ not-true w m in
        rw (is_holding, e) (record { reply = refl; board = refl; buffer = refl })

    -- else the rectangle of v
    pub answer_rectangle : not w ≡ false → (r : HeldRect) → rect_in r ≡ get_or (rects_in (b.plan.rooms + 4) 0 b.plan.rects) v nowhere
        → Tells (record { board = b; reply = Ok (Spans r) }) [] (outcome b (rectangle v))
    unfolding outcome as_rules step asks reply_of handed
    answer_rectangle m r f =
        let e : is_vertex job v ≡ true = sym (vertex_is b v) ∙ sym ew ∙ not-false w m in
        rw (is_holding, e) (record { reply = rw (f ∙ rect_held b.plan v); board = refl; buffer = refl })

  module _ (u v : ℕ) (w : Bool) (ew : w ≡ (leb u (b.stars.count + 3) && leb v (b.stars.count + 3))) where
    -- 13 where one of the two is no vertex
    pub thirteen_touches : not w ≡ true → Tells (stayed b NoVertex) [] (outcome b (touches u v))
    unfolding outcome as_rules handed step asks refuse reply_of number_of
    thirteen_touches m =
        let e : (is_vertex job u && is_vertex job v) ≡ false = rw (← vertex_is b u, ← vertex_is b v) (sym ew ∙ not-true w m) in
        rw (is_holding, e) (record { reply = refl; board = refl; buffer = refl })

    -- else how the two touch
    pub answer_touches : not w ≡ false → (a : Touch) → touch_in a ≡ touching (plan_in b.plan) u v
        → Tells (record { board = b; reply = Ok (Touched a) }) [] (outcome b (touches u v))
    unfolding outcome as_rules step asks reply_of handed
    answer_touches m a f =
        let e : (is_vertex job u && is_vertex job v) ≡ true = rw (← vertex_is b u, ← vertex_is b v) (sym ew ∙ not-false w m) in
        rw (is_holding, e) (record { reply = rw f; board = refl; buffer = refl })

-- how two vertices touch
module _ (l : List ℕ) (rooms u v : ℕ) (w h : ℕ) where
  -- the plan
  abbrev on : Plan
  on = plan_from w h (rooms + 4) l

  -- one vertex asked twice: no wall
  pub touch_twice : u ≡ v → touch_in Clear ≡ touching on u v
  unfolding touching touch_in
  touch_twice e = rw (eq-eqb u v e)

  -- two vertices touch as their rectangles do
  pub touch_two : (r s : HeldRect) (a : Touch) → (u ≡ v → ⊥) → rect_in r ≡ get_or (rects_in (rooms + 4) 0 l) u nowhere
      → rect_in s ≡ get_or (rects_in (rooms + 4) 0 l) v nowhere → touch_in a ≡ touch_of (rect_in r) (rect_in s) → touch_in a ≡ touching on u v
  unfolding touching rect_of
  touch_two r s a n er es e = rw (ne_eqb u v n, ← er, ← es) e

-- what a writing answers
pub reply_wrote : (w : Result ℕ Refusal) (n : ℕ) → w ≡ Ok n → reply_of (Ok (Wrote n)) ≡ replied w
unfolding reply_of replied
reply_wrote w n e = rw e

-- its refusal is the call's
pub reply_refused : (w : Result ℕ Refusal) (k : Refusal) (q : Result Said Refusal) → w ≡ Err k → q ≡ Err k → reply_of q ≡ replied w
unfolding reply_of replied
reply_refused w k q e f = rw (e, f)

-- what a writing answers and leaves in the buffer is what it tells on any board, and the board stays
writes_tells : (b : HeldBoard) (c : Board) (t : Bool) (bs buf x : List ℕ) (q : Result Said Refusal) → reply_of q ≡ (writes empty t bs buf).reply
    → x ≡ (writes empty t bs buf).buffer → Tells (record { board = b; reply = q }) x (as_rules b (writes c t bs buf))
unfolding as_rules writes refuse handed
writes_tells b c true bs buf x q e f = record { reply = e; board = refl; buffer = f }
writes_tells b c false bs buf x q e f = record { reply = e; board = refl; buffer = f }

module _ (b : HeldBoard) (n : b.stars.count ≡ 0 → ⊥) (buf x : List ℕ) (w : Result ℕ Refusal) (q : Result Said Refusal) (eq : reply_of q ≡ replied w) where
  -- what writing the bytes of the held job answers and leaves is what the call tells
  pub answer_job : (j : Job) (z : Sizes) → j ≡ job_of b.stars → z ≡ sizes_of b.sizes
      → (replied w ≡ (writing (write_sized (sized_job j z)) buf).reply) × (x ≡ (writing (write_sized (sized_job j z)) buf).buffer)
      → Tells (record { board = b; reply = q }) x (outcome b (writes_job buf))
  unfolding outcome step writing
  answer_job j z ej ez e =
      let f = rw (ej, ez) at e in
      rw (is_holding b n) (writes_tells b _ _ (write_sized (sized_job (job_of b.stars) (sizes_of b.sizes))) buf x q (eq ∙ f.0) f.1)

  -- what writing the held plan, one byte of each number, answers and leaves is what the call tells
  pub answer_plan : (p : Plan) → p ≡ plan_in b.plan
      → (replied w ≡ (writing (in_bytes (write_plan p)) buf).reply) × (x ≡ (writing (in_bytes (write_plan p)) buf).buffer)
      → Tells (record { board = b; reply = q }) x (outcome b (writes_plan buf))
  unfolding outcome writing
  answer_plan p ep e =
      let f = rw ep at e in
      rw (ne_eqb b.stars.count 0 n) (writes_tells b empty _ (in_bytes (write_plan (plan_in b.plan))) buf x q (eq ∙ f.0) f.1)

  -- the walls that are kept, by their numbers
  abbrev rows_walls : List Partition
  rows_walls = walls_in b.register.uprights b.register.many 0 b.register.rows

  -- what writing the kept walls, one byte of each number, answers and leaves is what the call tells
  pub answer_walls : (replied w ≡ (writing (in_bytes (write_register rows_walls)) buf).reply) × (x ≡ (writing (in_bytes (write_register rows_walls)) buf).buffer)
      → Tells (record { board = b; reply = q }) x (outcome b (writes_register buf))
  unfolding outcome writing
  answer_walls e =
      let f = rw (walls_held b.register) at e in
      rw (ne_eqb b.stars.count 0 n) (writes_tells b empty _ (in_bytes (write_register (register_in b.register))) buf x q (eq ∙ f.0) f.1)

-- ---- cuts

-- what the writing of the cuts answers and leaves in the buffer is what it tells on any board, and the board stays
cuts_tells : (b : HeldBoard) (o : Option (List ℕ)) (buf x : List ℕ) (q : Result Said Refusal) → reply_of q ≡ (writing_cuts o buf).reply → x ≡ (writing_cuts o buf).buffer
    → Tells (record { board = b; reply = q }) x (as_rules b (writing_cuts o buf))
unfolding writing_cuts
cuts_tells b none buf x q e f = unfold as_rules refuse handed in record { reply = e; board = refl; buffer = f }
cuts_tells b (some bs) buf x q e f = unfold writing in writes_tells b empty _ bs buf x q e f

module _ (b : HeldBoard) (n : b.stars.count ≡ 0 → ⊥) where
  -- the held plan, by its numbers
  abbrev numbers_plan : Plan
  numbers_plan = plan_from b.plan.width b.plan.height (b.plan.rooms + 4) b.plan.rects

  -- whether the held plan can be cut straight is what the question tells
  pub answer_slices : (t : Bool) → t ≡ is_tree (cut_tree numbers_plan) → Tells (record { board = b; reply = Ok (Says t) }) [] (outcome b slices)
  unfolding outcome as_rules asks reply_of handed
  answer_slices t e =
      let f = rw (plan_held b.plan) at e in
      rw (ne_eqb b.stars.count 0 n, f) (record { reply = refl; board = refl; buffer = refl })

  -- what writing the cuts of the held plan answers and leaves is what the call tells
  pub answer_cuts : (buf x : List ℕ) (w : Result ℕ Refusal) (q : Result Said Refusal) → reply_of q ≡ replied w
      → (replied w ≡ (writing_cuts (tree_bytes (cut_tree numbers_plan)) buf).reply) × (x ≡ (writing_cuts (tree_bytes (cut_tree numbers_plan)) buf).buffer)
      → Tells (record { board = b; reply = q }) x (outcome b (writes_cuts buf))
  unfolding outcome
  answer_cuts buf x w q eq e =
      let f = rw (plan_held b.plan) at e in
      rw (ne_eqb b.stars.count 0 n) (cuts_tells b (tree_bytes (cut_tree (plan_in b.plan))) buf x q (eq ∙ f.0) f.1)
