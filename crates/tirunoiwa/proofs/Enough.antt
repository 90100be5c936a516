-- Buffers that always suffice: no plan takes more than 517 bytes, its walls no more than 504, its cuts no more than 535, no turned or narrowed job more than
-- 1027, no star more than its job; a narrowed job takes as many as the job. Assumes nothing.
use Prim.Native.Nat.{ℕ, zero, suc, ◌≤◌}
use mathlib.Core.Path.{◌≡◌, refl, sym, ap, ◌∙◌}
use mathlib.Core.Bool.{Bool, true, false, not}
use mathlib.Core.Option.{Option, none, some}
use mathlib.Core.List.{List, ◌++◌}
use native.Mathlib.Omega.{arith}
use borrow.Author.Tests.{le-leb, eqb-true, eq-eqb}
use lib.Dec.{leb, eqb}
use lib.ListN.{length, drop, length-append}
use Rattle.floor.specs.Lists.{all}
use Rattle.floor.proofs.Lists.Laws.{all_mem, any_mem}
use Rattle.floor.specs.Fields.{Bytes}
use Rattle.floor.specs.Jobs.{SizedJob, pairs_in, is_room, Reading, fails, reads, read_job, write_job, write_sizes, write_sized, raw_star}
use Rattle.floor.proofs.Jobs.Facts.{is_a_room, room_is}
use Rattle.floor.proofs.Jobs.Written.{write_read_job, length_write_job}
use Rattle.floor.proofs.Jobs.Raw.{Stretch, raw_star_lem, raw_fails, raw_no_room}
use Rattle.floor.specs.Plans.{Plan, Answer, refused, held, write_plan}
use Rattle.floor.specs.Registers.{register, write_register}
use Rattle.floor.specs.Cuts.{Tree, write_tree, plan_tree}
use Rattle.floor.specs.Turns.{turn}
use Rattle.floor.specs.Calls.{load, Board, empty, holding, Call, turns, narrows, writes_job, writes_plan, writes_register, writes_cuts, refusal, wrote, made, refuse, after, slims, writes, OneOf}
use Rattle.floor.specs.Calls.{writes_tree, step, Answers, of_load, of_turn}
use Rattle.floor.specs.Calls.Sound.{Sound}
use Rattle.floor.proofs.Calls.Sound.{load_held, turn_held}
use Rattle.floor.proofs.Calls.Bytes.{limits, job_length_most, plan_length_most}
use Rattle.floor.proofs.Calls.Registered.{register_length_most}
use Rattle.floor.proofs.Calls.Sliced.{so_many_bytes}
use Rattle.floor.proofs.Calls.Exact.{load_answers, turn_answers}
use Rattle.floor.specs.Narrow.{Described, narrowed}
use Rattle.floor.proofs.Narrow.Result.{Slimmed, narrows_sound, narrows_keeps, narrowed_slim}
use Rattle.floor.specs.Tracker.{behind, then, plan_of_job, walls_of_job, cuts_of_job, turned_of_job, instead, told_written, narrowed_of_job, star_of_job}
use Rattle.tirunoiwa.proofs.Numbers.{same_refusal}

-- what fits is written
fits_written : (b : Board) (bs buf : List ℕ) (k : ℕ) → length bs ≤ length buf → (writes b (leb (length bs) (length buf)) bs buf).reply ≡ refusal k → ⊥
unfolding writes
fits_written b bs buf k h e =
    let z : leb (length bs) (length buf) ≡ true = le-leb (length bs) (length buf) h in
    no_refusal (rw z at e)
  where
    no_refusal : wrote (length bs) ≡ refusal k → ⊥
    no_refusal e = let z : ◌≡◌ {A = ℕ} 0 1 = cc in omega arith

-- a number is not 14
abbrev other : ℕ → Bool
other k = not (eqb k 14)

-- where none of some numbers is 14, any one of them is another
another : (ks : List ℕ) (k : ℕ) → all other ks ≡ true → OneOf ks k → k ≡ 14 → ⊥
another ks k a o f =
    let (x, i, e) = any_mem (eqb k) ks o in
    let z : eqb x 14 ≡ true = eq-eqb x 14 (sym (eqb-true k x e) ∙ f) in
    let y : not (eqb x 14) ≡ true = all_mem other ks a x i in
    no (rw z at y)
  where
    no : false ≡ true → ⊥
    no q = let z : ◌≡◌ {A = ℕ} 0 1 = cc in omega arith

-- behind a load or a turn, 14 is given by the writing alone
written_behind : (b : Board) (x : Answer) (ks : List ℕ) (c : Call) → all other ks ≡ true → Answers ks x
    → ((j : SizedJob) (p : Plan) → x ≡ held j p → (step (holding j p) c).reply ≡ refusal 14 → ⊥) → (then (after b x) c).reply ≡ refusal 14 → ⊥
unfolding then behind after refuse
written_behind b (refused k) ks c a n s e = another ks k a n (same_refusal e)
written_behind b (held j p) ks c a n s e = s j p refl e

-- behind a load and a turn, the writing of the job to 1027 bytes is not refused with 14
turned_behind : (x : Answer) (u v : ℕ) (buf : List ℕ) → Answers of_load x → ((j : SizedJob) (p : Plan) → x ≡ held j p → Sound j p) → 1027 ≤ length buf
    → (then (then (after empty x) (turns u v)) (writes_job buf)).reply ≡ refusal 14 → ⊥
unfolding then behind after refuse step
turned_behind (refused k) u v buf n s h e = another of_load k (unfold all in refl) n (same_refusal e)
turned_behind (held j p) u v buf n s h e =
    written_behind (holding j p) (turn j u v) of_turn (writes_job buf) (unfold all in refl) (turn_answers j u v)
    (λ i q f. fits_written (holding i q) (write_sized i) buf 14 (omega (arith, h, job_length_most i q (turn_held j p u v i q (s j p refl) f)))) e

-- what fits is written, and the turns are told
fits_told : (b : Board) (bs buf : List ℕ) (k n : ℕ) → length bs ≤ length buf → instead (writes b (leb (length bs) (length buf)) bs buf).reply (made n) ≡ refusal k → ⊥
unfolding writes instead
fits_told b bs buf k n h e =
    let z : leb (length bs) (length buf) ≡ true = le-leb (length bs) (length buf) h in
    no_refusal (rw z at e)
  where
    no_refusal : made n ≡ refusal k → ⊥
    no_refusal e = let z : ◌≡◌ {A = ℕ} 0 1 = cc in omega arith

-- behind a load and a narrowing, the writing of the job to 1027 bytes is not refused with 14
narrowed_behind : (x : Answer) (buf : List ℕ) → Answers of_load x → ((j : SizedJob) (p : Plan) → x ≡ held j p → Sound j p) → 1027 ≤ length buf
    → (told_written (then (after empty x) narrows) buf).reply ≡ refusal 14 → ⊥
unfolding told_written then behind after refuse step slims
narrowed_behind (refused k) buf n s h e = unfold instead in another of_load k (unfold all in refl) n (same_refusal e)
narrowed_behind (held j p) buf n s h e =
    let r : Slimmed j p (narrowed j p) = narrowed_slim j p (s j p refl) in
    fits_told (holding (narrowed j p).job (narrowed j p).plan) (write_sized (narrowed j p).job) buf 14 (narrowed j p).turns
    (omega (arith, h, job_length_most (narrowed j p).job (narrowed j p).plan r.sound)) e

-- the tree of a held plan, written to 535 bytes, is not refused with 14
tree_fits : (j : SizedJob) (p : Plan) → Sound j p → (buf : List ℕ) → 535 ≤ length buf → (writes_tree (holding j p) (plan_tree p) buf).reply ≡ refusal 14 → ⊥
tree_fits j p s buf h e = go (plan_tree p) refl e
  where
    go : (o : Option Tree) → plan_tree p ≡ o → (writes_tree (holding j p) o buf).reply ≡ refusal 14 → ⊥
    go none f e = unfold writes_tree refuse in let z : ◌≡◌ {A = ℕ} 15 14 = same_refusal e in omega arith
    go (some t) f e =
        unfold writes_tree in
        fits_written (holding j p) (write_tree t) buf 14 (omega (arith, h, so_many_bytes j p s t f, (limits j p s).0)) e

module _ (bs buf : List ℕ) where
  -- 517 BYTES SUFFICE for a plan
  pub plan_enough : 517 ≤ length buf → (plan_of_job bs buf).reply ≡ refusal 14 → ⊥
  unfolding plan_of_job step
  plan_enough h e =
      written_behind empty (load bs) of_load (writes_plan buf) (unfold all in refl) (load_answers bs)
      (λ j p f. fits_written (holding j p) (write_plan p) buf 14 (omega (arith, h, plan_length_most j p (load_held bs j p f).1))) e

  -- 504 BYTES SUFFICE for the walls
  pub walls_enough : 504 ≤ length buf → (walls_of_job bs buf).reply ≡ refusal 14 → ⊥
  unfolding walls_of_job step
  walls_enough h e =
      written_behind empty (load bs) of_load (writes_register buf) (unfold all in refl) (load_answers bs)
      (λ j p f. fits_written (holding j p) (write_register (register p)) buf 14 (omega (arith, h, register_length_most j p (load_held bs j p f).1))) e

  -- 535 BYTES SUFFICE for the cuts
  pub cuts_enough : 535 ≤ length buf → (cuts_of_job bs buf).reply ≡ refusal 14 → ⊥
  unfolding cuts_of_job step
  cuts_enough h e =
      written_behind empty (load bs) of_load (writes_cuts buf) (unfold all in refl) (load_answers bs)
      (λ j p f. tree_fits j p (load_held bs j p f).1 buf h) e

  -- 1027 BYTES SUFFICE for a turned job
  pub turned_enough : (u v : ℕ) → 1027 ≤ length buf → (turned_of_job bs u v buf).reply ≡ refusal 14 → ⊥
  unfolding turned_of_job step
  turned_enough u v h e = turned_behind (load bs) u v buf (load_answers bs) (λ j p f. (load_held bs j p f).1) h e

  -- 1027 BYTES SUFFICE for a narrowed job
  pub narrow_enough : 1027 ≤ length buf → (narrowed_of_job bs buf).reply ≡ refusal 14 → ⊥
  unfolding narrowed_of_job step
  narrow_enough h e = narrowed_behind (load bs) buf (load_answers bs) (λ j p f. (load_held bs j p f).1) h e

-- ---- a narrowed job is as long as the job

-- turns that narrow leave as many pairs
described_pairs : (n : ℕ) (o : SizedJob) (p : Plan) (i : SizedJob) (q : Plan) → Sound o p → Described n o p i q → pairs_in i.stars ≡ pairs_in o.stars
described_pairs zero o p i q s d = ap (λ (i : SizedJob). pairs_in i.stars) d.0
described_pairs (suc n) o p i q s (f, d) =
    described_pairs n f.job f.plan i q (narrows_sound o p s f.u f.v f.job f.plan f.this) d
    ∙ (narrows_keeps o p s f.u f.v f.job f.plan f.this).pairs

-- so its bytes are as many
narrowed_long : (o : SizedJob) (p : Plan) → Sound o p → length (write_sized (narrowed o p).job) ≡ length (write_sized o)
unfolding write_sized
narrowed_long o p s =
    let r : Slimmed o p (narrowed o p) = narrowed_slim o p s in
    let i : SizedJob = (narrowed o p).job in
    let z : length (write_sizes i.sizes) ≡ length (write_sizes o.sizes) = ap (λ z. length (write_sizes z)) r.sizes in
    omega (
      arith,
      z,
      r.rooms,
      described_pairs (narrowed o p).turns o p i (narrowed o p).plan s r.described,
      length-append (write_job i.stars) (write_sizes i.sizes),
      length-append (write_job o.stars) (write_sizes o.sizes),
      length_write_job i.stars,
      length_write_job o.stars,
    )

-- WHAT IS WRITTEN of a narrowed job: its own bytes, as many as the job's that came in, and behind them the buffer as it was
pub record NarrowedWritten (bs buf : List ℕ) (n : ℕ) (x : List ℕ) : Type 0 where
  pub job : SizedJob
  pub plan : Plan
  pub loaded : load bs ≡ held job plan
  pub turns : n ≡ (narrowed job plan).turns
  pub long : length (write_sized (narrowed job plan).job) ≡ length bs
  pub bytes : x ≡ write_sized (narrowed job plan).job ++ drop (length bs) buf

-- so where the turns are told
pub narrow_written : (bs buf : List ℕ) (n : ℕ) → Bytes bs → (narrowed_of_job bs buf).reply ≡ made n → NarrowedWritten bs buf n (narrowed_of_job bs buf).buffer
unfolding narrowed_of_job told_written then behind after refuse step slims writes instead
narrow_written bs buf n b e = go (load bs) refl e
  where
    no_made : {X : Type 0} {k : ℕ} → refusal k ≡ made n → X
    no_made e = let z : ◌≡◌ {A = ℕ} 0 1 = cc in absurd (omega arith)

    same_made : {k : ℕ} → made k ≡ made n → k ≡ n
    same_made e = cc

    go : (x : Answer) → load bs ≡ x → (told_written (then (after empty x) narrows) buf).reply ≡ made n
        → NarrowedWritten bs buf n (told_written (then (after empty x) narrows) buf).buffer
    go (refused k) f e = no_made e
    go (held o p) f e = by (leb (length (write_sized (narrowed o p).job)) (length buf)) e
      where
        long : length (write_sized (narrowed o p).job) ≡ length bs
        long =
            let (x, s) = load_held bs o p f in
            narrowed_long o p s ∙ ap (λ (l : List ℕ). length l) (write_read_job bs o b x.six.reading)

        by : (t : Bool) → instead (writes (holding (narrowed o p).job (narrowed o p).plan) t (write_sized (narrowed o p).job) buf).reply (made (narrowed o p).turns) ≡ made n
            → NarrowedWritten bs buf n (writes (holding (narrowed o p).job (narrowed o p).plan) t (write_sized (narrowed o p).job) buf).buffer
        by true e = record {
          job = o;
          plan = p;
          loaded = f;
          turns = sym (same_made e);
          long = long;
          bytes = ap (λ k. write_sized (narrowed o p).job ++ drop k buf) long;
        }
        by false e = no_made e

-- a stretch is no longer than the whole
stretch_most : (part bs : List ℕ) → Stretch part bs → length part ≤ length bs
stretch_most part bs s =
    let e : length bs ≡ length (s.front ++ (part ++ s.back)) = ap (λ (l : List ℕ). length l) s.whole in
    omega (arith, e, length-append s.front (part ++ s.back), length-append part s.back)

-- the star that is handed back has no more bytes than the job
star_most : (bs : List ℕ) (room : ℕ) → length (raw_star bs room) ≤ length bs
star_most bs room = go (read_job bs) refl
  where
    of_room : (j : SizedJob) (t : Bool) → read_job bs ≡ reads j → is_room j.stars room ≡ t → length (raw_star bs room) ≤ length bs
    of_room j true e f = stretch_most (raw_star bs room) bs (raw_star_lem bs j room e (is_a_room j.stars room f)).1
    of_room j false e f =
        let z : length (raw_star bs room) ≡ 0 = ap (λ (l : List ℕ). length l) (raw_no_room bs j room e (λ r. no (sym f ∙ room_is j.stars room r))) in
        omega (arith, z)
      where
        no : false ≡ true → ⊥
        no q = let z : ◌≡◌ {A = ℕ} 0 1 = cc in omega arith

    go : (r : Reading SizedJob) → read_job bs ≡ r → length (raw_star bs room) ≤ length bs
    go (fails k) e = let z : length (raw_star bs room) ≡ 0 = ap (λ (l : List ℕ). length l) (raw_fails bs k room e) in omega (arith, z)
    go (reads j) e = of_room j (is_room j.stars room) e refl

-- AS MANY BYTES AS THE JOB HAS SUFFICE for a star
pub star_enough : (bs buf : List ℕ) (room k : ℕ) → length bs ≤ length buf → (star_of_job bs room buf).reply ≡ refusal k → ⊥
unfolding star_of_job
star_enough bs buf room k h e = fits_written empty (raw_star bs room) buf k (omega (arith, star_most bs room)) e
