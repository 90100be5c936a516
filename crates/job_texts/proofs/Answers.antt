-- Whole answers, as the code comes by them. Assumes nothing.
use Prim.Native.Nat.{ℕ, zero, suc, ◌+◌, ◌-◌, ◌%◌, ◌≤◌, ◌<◌}
use mathlib.Core.Path.{◌≡◌, refl, sym, ◌∙◌}
use mathlib.Core.Bool.{Bool, true, false, not}
use mathlib.Core.List.{List, [], ◌∷◌, ◌++◌}
use native.Mathlib.Omega.{arith}
use borrow.Author.Tests.{lt-ltb, le-leb, lt-leb, not-true, not-false}
use lib.Dec.{leb, ltb}
use lib.ListN.{length, get_or, drop, length-append}
use lib.Seq.{sets, sets-eq}
use Rattle.std.specs.Prelude.{Result, Ok, Err}
use Rattle.std.specs.Result.{result_unwrap_or}
use Rattle.floor.specs.Lists.{all}
use Rattle.floor.proofs.Lists.Laws.{and_both}
use Rattle.floor.specs.Jobs.{SizedJob, sized_job, test2, test3, test17, Reading, fails, reads, passing, first_three, read_job, write_sized}
use Rattle.floor.specs.Jobs.Written.{Counts}
use Rattle.floor.proofs.Jobs.Written.{read_test2, read_counts, length_write_sized}
use Rattle.floor.specs.Calls.{wrote, writes}
use Rattle.floor.specs.Quoted.{plain}
use Rattle.floor.specs.Texts.{decimal, line, refused_word, too_long}
use Rattle.floor.specs.JobTexts.{sided, texted, text_answer, text_of, job_text, wrong_line, a_job, read_text, job_answer, job_of as text_job}
use Rattle.floor.proofs.JobTexts.Back.{bytes_only, text_length}
use Rattle.refusals.specs.declared.Refusal.{Refusal}
use Rattle.refusals.specs.Numbers.{number_of}
use Rattle.stars.specs.declared.held.Held.{Held}
use Rattle.stars.specs.declared.least.Least.{Least}
use Rattle.stars.specs.Held.{to_at, entry_at, cells, start_of, end_of, held_star, stars_in, job_of, job_held}
use Rattle.stars.specs.Sized.{sizes_of, sizes_lent}
use Rattle.jobs.specs.declared.Job.{Job}
use Rattle.jobs.specs.Reads.{held_job, outcome, Tells}
use Rattle.fields.specs.Writes.{replied, writing}
use Rattle.letters.specs.Puts.{Puts}
use Rattle.letters.proofs.Rows.{front_put}
use Rattle.letters.proofs.Numbers.{decimal_short}
use Rattle.job_texts.specs.declared.Slip.{Slip}
use Rattle.job_texts.specs.Reads.{lack_of, taken_of}
use Rattle.job_texts.proofs.Limits.{TextWithin, text_within}
use Rattle.job_texts.proofs.Telling.{line_short}

-- a text that there is room for, put at the front of a page, under any name that it has
pub page_put : (t w : List ℕ) {o x : List ℕ} {r : ℕ} → Puts o 0 w x r → t ≡ w → length w ≤ 8192 → length o ≡ 8192 → (r ≡ length t) × (x ≡ sets o 0 t) × (r ≤ 8192)
page_put t w {o} {x} {r} p e h l = rw e (front_put o w x r p l h)

-- what is said of input that is too long or refused is short
pub too_long_short : length too_long ≤ 8192
unfolding too_long plain
too_long_short = omega arith

-- a refusal takes no more than 8,192 bytes
pub refusal_short : (k : ℕ) → k < 256 → length (refused_word ++ line (k ∷ [])) ≤ 8192
unfolding refused_word line plain
refusal_short k h = omega (arith, length-append (decimal k) (10 ∷ []), decimal_short 2 k (omega arith))

-- the bytes of a job: there is room for them, so they are written
module _ (j : SizedJob) (o x : List ℕ) (w : Result ℕ Refusal) (l : length (write_sized j) ≤ 8192) (k : length o ≡ 8192)
    (p : (replied w ≡ (writing (write_sized j) o).reply) × (x ≡ (writing (write_sized j) o).buffer)) where
  -- the answer is how many they are, and the buffer has them in front of what stood behind
  job_written : (replied w ≡ wrote (length (write_sized j))) × (x ≡ write_sized j ++ drop (length (write_sized j)) o)
  unfolding writing writes
  job_written =
      let z : leb (length (write_sized j)) (length o) ≡ true = le-leb (length (write_sized j)) (length o) (omega arith) in
      rw z at p

  -- a length is told, never that the buffer is too short
  told_length : (v : Result ℕ Refusal) → replied v ≡ wrote (length (write_sized j)) → result_unwrap_or v 0 ≡ length (write_sized j)
  unfolding replied
  told_length (Ok n) e = cc
  told_length (Err k) e = let z : ◌≡◌ {A = ℕ} 0 1 = cc in absurd (omega arith)

  -- it is how many they are, and they are put at the front
  pub bytes_put : (n : ℕ) → n ≡ result_unwrap_or w 0 → (n ≡ length (write_sized j)) × (x ≡ sets o 0 (write_sized j)) × (n ≤ 8192)
  bytes_put n e =
      let d : n ≡ length (write_sized j) = e ∙ told_length w job_written.0 in
      let z : 0 + length (write_sized j) ≡ length (write_sized j) = omega arith in
      (d, job_written.1 ∙ sym (sets-eq (write_sized j) o 0 (omega arith) ∙ rw z), omega arith)

-- the neighbours of held stars are bytes
cells_bytes : (m k : ℕ) (nbr kind : List ℕ) → all (λ e. ltb e.to 256) (cells m k nbr kind) ≡ true
unfolding all cells entry_at to_at
cells_bytes zero k nbr kind = refl
cells_bytes (suc m) k nbr kind = and_both _ _ (lt-ltb (get_or nbr k 0 % 256) 256 (omega arith)) (cells_bytes m (suc k) nbr kind)

-- the stars that are held name bytes only
stars_bytes : (m i : ℕ) (ends nbr kind : List ℕ) → bytes_only (stars_in m i ends nbr kind) ≡ true
unfolding bytes_only all stars_in held_star
stars_bytes zero i ends nbr kind = refl
stars_bytes (suc m) i ends nbr kind =
    and_both _ _ (cells_bytes (end_of ends (length nbr) i - start_of ends (length nbr) i) (start_of ends (length nbr) i) nbr kind) (stars_bytes m (suc i) ends nbr kind)

-- a job that can be written, or refusal 4 or 17
module _ (h : Held) (g : Least) (b : Bool) (e : b ≡ sided (job_held h)) where
  -- the job that is lent
  abbrev held : SizedJob
  held = sized_job (job_held h) (sizes_lent g)

  -- where some kind is no side: refusal 4
  pub four_text : (k : ℕ) → k ≡ 4 → not b ≡ true → text_answer (texted (reads held)) ≡ refused_word ++ line (k ∷ [])
  unfolding text_answer texted passing
  four_text k i t = rw (i, ← e, not-true b t)

  module _ (t : not b ≡ false) (c : Bool) (f : c ≡ test17 (sizes_lent g)) where
    -- where the sizes do not pass: refusal 17
    pub seventeen_text : (k : ℕ) → k ≡ 17 → not c ≡ true → text_answer (texted (reads held)) ≡ refused_word ++ line (k ∷ [])
    unfolding text_answer texted passing
    seventeen_text k i u = rw (i, ← e, not-false b t, ← f, not-true c u)

    -- where every kind is a side and the sizes pass: the text of the job
    pub rooms_text : not c ≡ false → text_answer (texted (reads held)) ≡ job_text held
    unfolding text_answer texted passing
    rooms_text u = rw (← e, not-false b t, ← f, not-false c u)

    -- that text takes no more than 8,192 bytes, where the job passes tests 2 and 3 and has as many sizes as rooms or none
    pub rooms_short : not c ≡ false → test2 (length (job_held h)) ≡ true → test3 (job_held h) ≡ true → Counts (length (job_held h)) (sizes_lent g) → length (job_text held) ≤ 8192
    rooms_short u p q n = omega (
      arith,
      text_length held (record {
        pass2 = p;
        pass3 = q;
        sides = sym e ∙ not-false b t;
        bytes = stars_bytes h.count 0 h.ends.now h.nbr.now h.kind.now;
        counts = n;
        pass17 = sym f ∙ not-false c u;
      }),
    )

-- what tests 1 to 3 come to
no_reads : {X : Type 0} {k : ℕ} {o : SizedJob} → reads o ≡ fails k → X
no_reads {X} {k} {o} e = let z : ◌≡◌ {A = ℕ} 0 1 = cc in absurd (omega arith)

-- a job that comes out of test 3 was read, and passes it
three_passed : (x : Reading SizedJob) (o : SizedJob) → first_three x ≡ reads o → (x ≡ reads o) × (test3 o.stars ≡ true)
unfolding first_three passing
three_passed (fails k) o e = no_reads (sym e)
three_passed (reads i) o e = go (test3 i.stars) refl e
  where
    go : (b : Bool) → test3 i.stars ≡ b → passing b 3 (reads i) ≡ reads o → (reads i ≡ reads o) × (test3 o.stars ≡ true)
    go true t e = let q : i ≡ o = cc in (e, rw q at t)
    go false t e = no_reads (sym e)

-- what is printed for some bytes
module _ (bs : List ℕ) where
  -- over 8,192 bytes are too long
  pub long_text : 8192 < length bs → text_of bs ≡ too_long
  unfolding text_of
  long_text h = let z : leb (length bs) 8192 ≡ false = lt-leb (length bs) 8192 h in rw z

  -- up to 8,192 bytes give the text of what passes tests 1 to 3 and 17 and has sides as its kinds, or the refusal
  short_text : length bs ≤ 8192 → text_of bs ≡ text_answer (texted (first_three (read_job bs)))
  unfolding text_of
  short_text l = let z : leb (length bs) 8192 ≡ true = le-leb (length bs) 8192 l in rw z

  module _ (q : Result Job Refusal) (t : Tells q (first_three (read_job bs))) where
    -- the job that is held is the one read past test 3
    held_read : (h : Job) → q ≡ Ok h → first_three (read_job bs) ≡ reads (held_job h)
    unfolding outcome
    held_read h d = sym t.says ∙ rw d

    module _ (h : Job) (d : q ≡ Ok h) (s : Held) (z : Least) (es : job_held s ≡ job_of h.stars) (ez : sizes_lent z ≡ sizes_of h.sizes) where
      -- the job that is lent passes tests 2 and 3, and has as many sizes as rooms or none
      pub held_passes : (test2 (length (job_held s)) ≡ true) × (test3 (job_held s) ≡ true) × Counts (length (job_held s)) (sizes_lent z)
      held_passes =
          let (r, t3) = three_passed (read_job bs) (held_job h) (held_read h d) in
          rw (es, ez) (read_test2 bs (held_job h) r, t3, read_counts bs (held_job h) r)

      -- what is printed is the text of the job that is lent, or its refusal
      pub passed_text : length bs ≤ 8192 → text_of bs ≡ text_answer (texted (reads (sized_job (job_held s) (sizes_lent z))))
      passed_text l = rw (es, ez, short_text l, held_read h d)

    -- where the reading was refused, that refusal is printed
    pub refused_text : length bs ≤ 8192 → (k : Refusal) → q ≡ Err k → text_of bs ≡ refused_word ++ line (number_of k ∷ [])
    unfolding texted text_answer outcome
    refused_text l k d =
        let e : first_three (read_job bs) ≡ fails (number_of k) = sym t.says ∙ rw d in
        rw (short_text l, e)

-- what is printed for some text
module _ (t : List ℕ) where
  -- a text over 16,384 bytes is too long
  pub long_job : 16384 < length t → text_job t ≡ too_long
  unfolding text_job
  long_job h = let z : leb (length t) 16384 ≡ false = lt-leb (length t) 16384 h in rw z

  -- a text up to 16,384 bytes gives the bytes of the job that it is read as, or its first wrong line
  short_job : length t ≤ 16384 → text_job t ≡ job_answer (read_text t)
  unfolding text_job
  short_job l = let z : leb (length t) 16384 ≡ true = le-leb (length t) 16384 l in rw z

  module _ (q : Result Job Slip) (e : taken_of q ≡ read_text t) where
    module _ (x : Slip) (d : q ≡ Err x) where
      -- where the code tells of a wrong line, the text is wrong in that line, for that lack
      read_wrong : read_text t ≡ wrong_line x.line (lack_of x.lack)
      unfolding taken_of
      read_wrong = sym (rw d at e)

      -- what is told of a wrong line takes no more than 8,192 bytes
      pub wrong_short : length t ≤ 16384 → length (job_answer (wrong_line x.line (lack_of x.lack))) ≤ 8192
      wrong_short l =
          let w : TextWithin (length t + 1) (wrong_line x.line (lack_of x.lack)) = rw read_wrong at (text_within t) in
          omega (arith, line_short x.line (lack_of x.lack) (omega (arith, w.0)) (omega (arith, w.1)))

      -- where the code tells of a wrong line, that line and what it lacks are printed
      pub wrong_job : length t ≤ 16384 → text_job t ≡ job_answer (wrong_line x.line (lack_of x.lack))
      wrong_job l = rw (short_job l, read_wrong)

    module _ (r : Job) (d : q ≡ Ok r) where
      -- where the code tells of no wrong line, the text is read as that job
      read_right : read_text t ≡ a_job (held_job r)
      unfolding taken_of
      read_right = sym (rw d at e)

      -- the bytes of a job read from a text are no more than 8,192
      right_small : length (write_sized (held_job r)) ≤ 8192
      right_small =
          let w : TextWithin (length t + 1) (a_job (held_job r)) = rw read_right at (text_within t) in
          omega (arith, length_write_sized (held_job r) w.2, w.0, w.1)

      -- where the code tells of no wrong line, the bytes of that job are printed
      right_job : length t ≤ 16384 → text_job t ≡ write_sized (held_job r)
      unfolding job_answer
      right_job l = rw (short_job l, read_right)

      -- where the code tells of no wrong line, what is written of the job that is lent are its bytes
      pub right_put : (s : Held) (z : Least) (w : Result ℕ Refusal) (o x : List ℕ) (n : ℕ) → length t ≤ 16384 → job_held s ≡ job_of r.stars → sizes_lent z ≡ sizes_of r.sizes
          → length o ≡ 8192 → (replied w ≡ (writing (write_sized (sized_job (job_held s) (sizes_lent z))) o).reply) × (x ≡ (writing (write_sized (sized_job (job_held s) (sizes_lent z))) o).buffer)
          → n ≡ result_unwrap_or w 0 → (n ≡ length (text_job t)) × (x ≡ sets o 0 (text_job t)) × (n ≤ 8192)
      right_put s z w o x n l es ez k p e = rw (right_job l) (bytes_put (held_job r) o x w right_small k (rw (es, ez) at p) n e)
