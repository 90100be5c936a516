use mathlib.Core.Path.{refl}
use Rattle.floor.specs.Calls.{narrows, writes_job, lent}
use Rattle.floor.specs.Tracker.{narrowed_of_job}
use Rattle.tirunoiwa.proofs.Calling.{two_refused, job_left, narrow_left, then_told, told_refused, told_goes}
use borrow.Author.Rules.{rules}
use native.Mathlib.Omega.{arith}
use Rattle.tirunoiwa.proofs.narrow.Goals as goal

pub returns-in_err-held : goal.returns-in_err-held
unfolding narrowed_of_job lent
returns-in_err-held c =
    told_refused _ _ refl (two_refused _ c.plan_job.ensures c.in_err-held.was narrows (writes_job _) refl) (search rules)

pub returns-in_err-write_job : goal.returns-in_err-write_job
unfolding narrowed_of_job lent
returns-in_err-write_job c =
    let l = narrow_left _ c.plan_job.ensures c.in_ok-held.was c.slim-narrowed.ensures in
    told_refused _ _ c.in_err-write_job.was (then_told l (writes_job _) c.write_job.ensures (omega arith)) (search rules)

pub returns : goal.returns
unfolding narrowed_of_job lent
returns c =
    let p = job_left _ c.plan_job.ensures c.in_ok-held.was in
    let l = narrow_left _ c.plan_job.ensures c.in_ok-held.was c.slim-narrowed.ensures in
    told_goes _ _ c.in_ok-write_job.was (then_told l (writes_job _) c.write_job.ensures (omega arith)) (then_told p narrows c.slim-narrowed.ensures (omega arith))
