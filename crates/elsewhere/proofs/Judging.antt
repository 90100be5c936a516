-- The answer, as the code comes by it. Assumes nothing.
use Prim.Native.Nat.{ℕ}
use mathlib.Core.Path.{◌≡◌, sym, ◌∙◌}
use mathlib.Core.Bool.{Bool, true, false, cond, not}
use mathlib.Core.Option.{none, some}
use mathlib.Core.List.{List}
use borrow.Author.Tests.{not-true, not-false}
use Rattle.floor.specs.Jobs.{SizedJob, sized_job, fails, reads, read_job, first_six, sizes_pass}
use Rattle.floor.specs.Foreign.{read_plan, good_for, judge_plan, judge_read, judged}
use Rattle.stars.specs.Held.{job_in, job_of}
use Rattle.stars.specs.Sized.{sizes_in, sizes_of}
use Rattle.stars.proofs.Holding.{length_stars}
use Rattle.std.specs.Prelude.{Result, Ok, Err}
use Rattle.refusals.specs.declared.Refusal.{Refusal}
use Rattle.refusals.specs.declared.Refusal.TheVariants.{NotAPlan}
use Rattle.refusals.specs.Numbers.{number_of}
use Rattle.jobs.specs.declared.Job.{Job}
use Rattle.jobs.specs.Reads.{outcome, Tells}
use Rattle.elsewhere.specs.Placed.{plan_at}
use Rattle.elsewhere.specs.Answers.{verdict}

-- a plan's bytes asked: b is whether they are shaped as a plan
module _ (o : SizedJob) (n : ℕ) (plan : List ℕ) (b : Bool) (e : read_plan n plan ≡ cond b (some (plan_at n plan)) none) where
  -- they are not
  pub judge_sixteen : not b ≡ true → verdict (Err NotAPlan) ≡ judge_plan o (read_plan n plan)
  unfolding verdict judge_plan number_of
  judge_sixteen t = rw (e, not-true b t)

  -- they are: yes or no
  pub judge_says : (r : Bool) → not b ≡ false → r ≡ good_for o (plan_at n plan) → verdict (Ok r) ≡ judge_plan o (read_plan n plan)
  unfolding verdict judge_plan
  judge_says r t g = rw (e, not-false b t, g)

-- a job's bytes read
module _ (job plan : List ℕ) (r : Result Job Refusal) (t : Tells r (sizes_pass (first_six (read_job job)))) where
  -- its own refusal
  pub judge_refused : (k : Refusal) → r ≡ Err k → verdict (Err k) ≡ judged job plan
  unfolding verdict judged judge_read outcome
  judge_refused k e =
      let x : sizes_pass (first_six (read_job job)) ≡ fails (number_of k) = sym t.says ∙ rw e in
      rw x

  -- it is past its tests: it comes to the plan
  pub judge_passed : (v : Result Bool Refusal) (h : Job) → r ≡ Ok h
      → verdict v ≡ judge_plan (sized_job (job_in h.stars.count h.stars.ends h.stars.nbr h.stars.kind) (sizes_in h.sizes.told h.sizes.list)) (read_plan h.stars.count plan)
      → verdict v ≡ judged job plan
  unfolding judged judge_read outcome job_of sizes_of
  judge_passed v h e q =
      let x : sizes_pass (first_six (read_job job))
      ≡ reads (sized_job (job_in h.stars.count h.stars.ends h.stars.nbr h.stars.kind) (sizes_in h.sizes.told h.sizes.list)) = sym t.says ∙ rw e in
      rw (x, length_stars h.stars.count 0 h.stars.ends h.stars.nbr h.stars.kind) q
