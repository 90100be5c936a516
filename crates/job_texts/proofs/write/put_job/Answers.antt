use Rattle.std.proofs.Common.{ap, not}
use native.Mathlib.Omega.{arith}
use Rattle.refusals.specs.Numbers.{number_of}
use Rattle.job_texts.proofs.Answers.{page_put, refusal_short, four_text, seventeen_text, rooms_text, rooms_short}
use borrow.Author.Rules.{rules}
use Rattle.job_texts.proofs.write.put_job.Goals as goal

pub returns-then-not-all_sided : goal.returns-then-not-all_sided
unfolding number_of
returns-then-not-all_sided c = page_put _ _ c.put_refusal.ensures
    (four_text c.args.stars.now c.args.sizes.now _ c.all_sided.ensures _ c.number.ensures (ap not c.if-not-all_sided.true)) (refusal_short _ (omega (arith, c.number.ensures))) (search rules)

pub returns-then-not-sizes_pass : goal.returns-then-not-sizes_pass
unfolding number_of
returns-then-not-sizes_pass c = page_put _ _ c.put_refusal-then-not-sizes_pass.ensures
    (seventeen_text c.args.stars.now c.args.sizes.now _ c.all_sided.ensures (ap not c.if-not-all_sided.false) _ c.sizes_pass.ensures _ c.number-then-not-sizes_pass.ensures (ap not c.if-not-sizes_pass.true))
    (refusal_short _ (omega (arith, c.number-then-not-sizes_pass.ensures))) (search rules)

pub returns : goal.returns
returns c = page_put _ _ c.put_rooms.ensures
    (rooms_text c.args.stars.now c.args.sizes.now _ c.all_sided.ensures (ap not c.if-not-all_sided.false) _ c.sizes_pass.ensures (ap not c.if-not-sizes_pass.false))
    (rooms_short c.args.stars.now c.args.sizes.now _ c.all_sided.ensures (ap not c.if-not-all_sided.false) _ c.sizes_pass.ensures (ap not c.if-not-sizes_pass.false) c.requires.passed.0 c.requires.passed.1 c.requires.passed.2)
    (search rules)
