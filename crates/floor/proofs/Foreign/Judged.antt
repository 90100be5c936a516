-- What is answered of a plan drawn elsewhere: yes exactly when it is good, yes of our own plans, and a job with a good plan is one that is loaded, but for the
-- sheet's limit.
-- Assumes nothing.
use Rattle.std.specs.Prelude.{ℕ, ◌≡◌, ◌↔◌, Bool, List, [], length}
use Rattle.std.proofs.Math.Path.{refl, ap}
use Rattle.std.proofs.Common.{sym, ◌∙◌, arith}
use Rattle.std.proofs.Math.Logic.{inl, inr}
use Rattle.std.proofs.Math.Bool.{true}
use Rattle.std.proofs.Math.Option.{Option, none, some}
use Rattle.floor.specs.Fields.{Bytes}
use Rattle.floor.specs.Jobs.{Job, SizedJob, size_of, Reading, fails, reads, read_job, first_six, sizes_pass, SizesPassed, write_sized}
use Rattle.floor.specs.Jobs.Facts.{Passes}
use Rattle.floor.proofs.Jobs.Facts.{passes_of, six_passed, passed_six, sizes_passed, passed_sizes}
use Rattle.floor.proofs.Jobs.Written.{read_write_job}
use Rattle.floor.specs.Plans.{Plan, held, write_plan}
use Rattle.floor.specs.Floor.{Complete, GoodPlan, Roomy}
use Rattle.floor.specs.Calls.{load, Loads}
use Rattle.floor.specs.Calls.Sound.{Sound}
use Rattle.floor.proofs.Calls.Sound.{sound_good, sound_roomy, load_held, load_reads}
use Rattle.floor.proofs.Calls.Elsewhere.{good_plan_loads, good_plan_loads_plain}
use Rattle.floor.specs.Foreign.{good_for, read_plan, refuses, answers, judge_plan, judge_read, judged, GoodFor, RefusedBy}
use Rattle.floor.proofs.Foreign.Shaped.{read_complete, read_write_plan, shaped_exactly}
use Rattle.floor.proofs.Foreign.Tested.{good_exactly}

-- a job's bytes, read and put through tests 1 to 6 and 17
abbrev read_sized : List ℕ → Reading SizedJob
read_sized job = sizes_pass (first_six (read_job job))

-- a job that comes out of tests 1 to 6 and 17 is past them,
pub passed_read : (job : List ℕ) (o : SizedJob) → read_sized job ≡ reads o → SizesPassed (read_job job) o
passed_read job o e =
    let (x, t) = sizes_passed (first_six (read_job job)) o e in
    record { six = six_passed (read_job job) o x; pass17 = t }

-- a job past them comes out of them
pub read_passed : (job : List ℕ) (o : SizedJob) → SizesPassed (read_job job) o → read_sized job ≡ reads o
read_passed job o s = passed_sizes (first_six (read_job job)) o (passed_six (read_job job) o s.six) s.pass17

-- what tests 4 to 6 tell of it
passes_read : (job : List ℕ) (o : SizedJob) → SizesPassed (read_job job) o → Passes o.stars
passes_read job o s = passes_of o.stars s.six.pass4 s.six.pass5 s.six.pass6

-- no refusal is an answer
no_answer : {X : Type 0} {k : ℕ} {b : Bool} → refuses k ≡ answers b → X
no_answer e = let z : ◌≡◌ {A = ℕ} 0 1 = cc in absurd (omega arith)

-- two answers that are one verdict are one answer
one_answer : {a b : Bool} → answers a ≡ answers b → a ≡ b
one_answer e = cc

-- two refusals that are one verdict have one number
one_refusal : {k l : ℕ} → refuses k ≡ refuses l → k ≡ l
one_refusal e = cc

module _ (job plan : List ℕ) where
  -- a plan that is read and passes the test gets a yes
  told_yes : (o : SizedJob) (p : Plan) → read_sized job ≡ reads o → read_plan (length o.stars) plan ≡ some p → good_for o p ≡ true
      → judge_read (read_sized job) plan ≡ answers true
  unfolding judge_read judge_plan
  told_yes o p x y e = rw (x, y) (ap answers e)

  -- YES EXACTLY WHEN ALL HOLD
  pub yes_exactly : (judged job plan ≡ answers true) ↔ GoodFor job plan
  unfolding judged
  yes_exactly = (λ e. forth (read_sized job) refl e, λ g. back g)
    where
      forth : (r : Reading SizedJob) → read_sized job ≡ r → judge_read r plan ≡ answers true → GoodFor job plan
      forth (fails k) x e = unfold judge_read in no_answer e
      forth (reads o) x e = unfold judge_read in shape (read_plan (length o.stars) plan) refl e
        where
          shape : (q : Option Plan) → read_plan (length o.stars) plan ≡ q → judge_plan o q ≡ answers true → GoodFor job plan
          shape none y e = unfold judge_plan in no_answer e
          shape (some p) y e = unfold judge_plan in (
              let s : SizesPassed (read_job job) o = passed_read job o x in
              let (good, roomy) = (good_exactly o (passes_read job o s) p (read_complete o.stars plan p y)).0 (one_answer e) in
              record { o = o; p = p; passed = s; shaped = y; good = good; roomy = roomy }
              )

      back : GoodFor job plan → judge_read (read_sized job) plan ≡ answers true
      back g =
          told_yes g.o g.p (read_passed job g.o g.passed) g.shaped
          ((good_exactly g.o (passes_read job g.o g.passed) g.p (read_complete g.o.stars plan g.p g.shaped)).1 (g.good, g.roomy))

  -- REFUSED by the job's own 1 to 6 and 17, in their order, and then by 16 where the bytes are not shaped as a plan; else yes or no
  pub refused_exactly : (k : ℕ) → (judged job plan ≡ refuses k) ↔ RefusedBy job plan k
  unfolding judged
  refused_exactly k = (λ e. forth (read_sized job) refl e, λ x. back x)
    where
      forth : (r : Reading SizedJob) → read_sized job ≡ r → judge_read r plan ≡ refuses k → RefusedBy job plan k
      forth (fails l) x e = unfold judge_read in inl (x ∙ ap fails (one_refusal e))
      forth (reads o) x e = unfold judge_read in shape (read_plan (length o.stars) plan) refl e
        where
          shape : (q : Option Plan) → read_plan (length o.stars) plan ≡ q → judge_plan o q ≡ refuses k → RefusedBy job plan k
          shape none y e = unfold judge_plan in inr (sym (one_refusal e), (o, passed_read job o x, y))
          shape (some p) y e = unfold judge_plan in no_answer (sym e)

      back : RefusedBy job plan k → judge_read (read_sized job) plan ≡ refuses k
      back (inl e) = unfold judge_read in rw e
      back (inr (e, (o, x, y))) = unfold judge_read judge_plan in rw (read_passed job o x, y, e)

  -- SIXTEEN exactly where the bytes are not the writing of any plan of vertices 0 to n + 3 in order
  pub sixteen : (o : SizedJob) → SizesPassed (read_job job) o → Bytes plan
      → (judged job plan ≡ refuses 16) ↔ ((p : Plan) → Complete o.stars p → write_plan p ≡ plan → ⊥)
  sixteen o x b = (
    λ e p c w. forth p c w ((refused_exactly 16).0 e),
    λ h. (refused_exactly 16).1 (inr (refl, (o, x, back h (read_plan (length o.stars) plan) refl))),
  )
    where
      one_job : {k : SizedJob} → reads o ≡ reads k → o ≡ k
      one_job e = cc

      no_six : fails 16 ≡ reads o → ⊥
      no_six e = let z : ◌≡◌ {A = ℕ} 0 1 = cc in omega arith

      no_plan : (p : Plan) → none ≡ some p → ⊥
      no_plan p e = let z : ◌≡◌ {A = ℕ} 0 1 = cc in omega arith

      forth : (p : Plan) → Complete o.stars p → write_plan p ≡ plan → RefusedBy job plan 16 → ⊥
      forth p c w (inl e) = no_six (sym e ∙ read_passed job o x)
      forth p c w (inr (e, (k, y, z))) =
          let n : read_plan (length o.stars) plan ≡ none = rw (one_job (sym (read_passed job o x) ∙ read_passed job k y)) z in
          no_plan p (sym n ∙ (shaped_exactly o.stars plan p b).1 (c, w))

      back : ((p : Plan) → Complete o.stars p → write_plan p ≡ plan → ⊥) → (q : Option Plan) → read_plan (length o.stars) plan ≡ q
          → read_plan (length o.stars) plan ≡ none
      back h none e = e
      back h (some p) e = let (c, w) = (shaped_exactly o.stars plan p b).0 e in absurd (h p c w)

-- A JOB WITH ANY GOOD PLAN IS ONE THAT IS LOADED, but for the sheet's limit
pub yes_loads : (job plan : List ℕ) → judged job plan ≡ answers true → (o : SizedJob) × Loads job o
yes_loads job plan e =
    let g : GoodFor job plan = (yes_exactly job plan).0 e in
    (g.o, good_plan_loads job g.o g.passed g.p g.good g.roomy)

-- where no sizes are told, a good plan has room enough
plain_roomy : (j : Job) (p : Plan) → GoodPlan j p → Roomy j [] p
unfolding size_of
plain_roomy j p g = record { wide = λ u r. omega (arith, (g.inside u r.1).wide); tall = λ u r. omega (arith, (g.inside u r.1).tall) }

-- WITHOUT SIZES IT IS ALWAYS LOADED
pub good_loads_plain : (job : List ℕ) (o : SizedJob) → SizesPassed (read_job job) o → o.sizes ≡ [] → (q : Plan) → GoodPlan o.stars q
    → (p : Plan) × (load job ≡ held o p)
good_loads_plain job o s e q g = good_plan_loads_plain job o s q g (rw e (plain_roomy o.stars q g)) e

-- OUR OWN WRITTEN PLAN of a job that is loaded always gets yes
pub ours_yes : (job : List ℕ) (o : SizedJob) (p : Plan) → load job ≡ held o p → judged job (write_plan p) ≡ answers true
ours_yes job o p h =
    let (k, s) = load_held job o p h in
    let gp : GoodPlan o.stars p = sound_good o p s in
    (yes_exactly job (write_plan p)).1 (record {
      o = o;
      p = p;
      passed = k;
      shaped = read_write_plan o.stars p gp.floor.complete;
      good = gp;
      roomy = sound_roomy o p s;
    })

-- and so does what is held after any calls, turns among them, job and plan as written
pub held_yes : (o : SizedJob) (p : Plan) → Sound o p → judged (write_sized o) (write_plan p) ≡ answers true
held_yes o p s = ours_yes (write_sized o) o p (load_reads (write_sized o) o p (read_write_job o s.pass2 s.counts) s)
