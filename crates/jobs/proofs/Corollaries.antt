-- What follows from the promises. Assumes nothing.
use Prim.Native.Nat.{ℕ, ◌≤◌}
use mathlib.Core.Path.{◌≡◌, sym, ◌∙◌, ap}
use mathlib.Core.List.{List, ◌++◌}
use native.Mathlib.Omega.{arith}
use borrow.Author.Tests.{le-leb}
use lib.ListN.{length, drop}
use Rattle.floor.specs.Fields.{Bytes}
use Rattle.floor.specs.Jobs.{SizedJob, Reading, reads, read_job, first_three, first_six, sizes_pass, raw_star, write_sized}
use Rattle.floor.proofs.Jobs.Facts.{six_passed, sizes_passed}
use Rattle.floor.proofs.Jobs.Written.{write_read_job}
use Rattle.floor.specs.Calls.{writes, wrote}
use Rattle.std.specs.Prelude.{Result, Ok, Err}
use Rattle.refusals.specs.declared.Refusal.{Refusal}
use Rattle.refusals.specs.Numbers.{number_of}
use Rattle.refusals.proofs.Same.{same_refusal}
use Rattle.fields.specs.Writes.{replied, writing}
use Rattle.fields.proofs.Corollaries.{one_answer, one_written}
use Rattle.stars.specs.declared.Stars.{Stars}
use Rattle.stars.specs.declared.Sizes.{Sizes as HeldSizes}
use Rattle.jobs.specs.declared.Job.{Job}
use Rattle.jobs.specs.Reads.{held_job, outcome, Keeps, Tells}

-- jobs with the same stars and the same sizes are one
same_job : (s t : Stars) (y z : HeldSizes) → s ≡ t → y ≡ z → ◌≡◌ {A = Job} (record { stars = s; sizes = y }) (record { stars = t; sizes = z })
same_job s t y z e f = rw (e, f)

-- THE PROMISE OF `read_job` ALLOWS ONE ANSWER
pub one_reading : (x : Reading SizedJob) (r t : Result Job Refusal) → Tells r x → Tells t x → r ≡ t
unfolding outcome Keeps
one_reading x (Ok h) (Ok g) p q = ap Ok (same_job h.stars g.stars h.sizes g.sizes (p.keeps.0 ∙ sym q.keeps.0) (p.keeps.1 ∙ sym q.keeps.1))
one_reading x (Ok h) (Err k) p q = absurd (let z : ◌≡◌ {A = ℕ} 0 1 = (let a = p.says in let b = q.says in cc) in omega arith)
one_reading x (Err k) (Ok h) p q = absurd (let z : ◌≡◌ {A = ℕ} 0 1 = (let a = p.says in let b = q.says in cc) in omega arith)
one_reading x (Err k) (Err l) p q = ap Err (same_refusal k l (let a = p.says in let b = q.says in let z : number_of k ≡ number_of l = cc in z))

-- THE PROMISE OF `hold_job` ALLOWS ONE ANSWER
pub one_holding : (bs : List ℕ) (r t : Result Job Refusal) → Tells r (first_three (read_job bs)) → Tells t (first_three (read_job bs)) → r ≡ t
one_holding bs r t p q = one_reading (first_three (read_job bs)) r t p q

-- THE PROMISE OF `raw_star` ALLOWS ONE ANSWER
pub one_raw_star : (bs : List ℕ) (v : ℕ) (r t : List ℕ) → r ≡ raw_star bs v → t ≡ raw_star bs v → r ≡ t
one_raw_star bs v r t p q = one_answer r t (raw_star bs v) p q

-- THE PROMISE OF `write_job` ALLOWS ONE ANSWER AND ONE BUFFER
pub one_writing : (j : SizedJob) (o : List ℕ) (a b : Result ℕ Refusal) (x y : List ℕ)
    → (replied a ≡ (writing (write_sized j) o).reply) × (x ≡ (writing (write_sized j) o).buffer)
    → (replied b ≡ (writing (write_sized j) o).reply) × (y ≡ (writing (write_sized j) o).buffer) → (a ≡ b) × (x ≡ y)
one_writing j o a b x y p q = one_written (write_sized j) o a b x y p q

-- THE HELD JOB IS THE ONE THAT WAS READ
pub held_is_read : (bs : List ℕ) (h : Job) → Tells (Ok h) (sizes_pass (first_six (read_job bs))) → read_job bs ≡ reads (held_job h)
unfolding outcome
held_is_read bs h t = (six_passed (read_job bs) (held_job h) (sizes_passed (first_six (read_job bs)) (held_job h) (sym t.says)).0).reading

-- READ, THEN WRITTEN: THE SAME BYTES
pub read_written : (bs : List ℕ) (h : Job) → Bytes bs → Tells (Ok h) (sizes_pass (first_six (read_job bs))) → write_sized (held_job h) ≡ bs
read_written bs h b t = write_read_job bs (held_job h) b (held_is_read bs h t)

-- and they stand at the front of any buffer that is long enough, with what was behind them
pub read_written_front : (bs o : List ℕ) (h : Job) → Bytes bs → Tells (Ok h) (sizes_pass (first_six (read_job bs))) → length bs ≤ length o
    → ((writing (write_sized (held_job h)) o).reply ≡ wrote (length bs)) × ((writing (write_sized (held_job h)) o).buffer ≡ bs ++ drop (length bs) o)
unfolding writing writes
read_written_front bs o h b t l =
    let e = read_written bs h b t in
    (rw (e, le-leb (length bs) (length o) l), rw (e, le-leb (length bs) (length o) l))
