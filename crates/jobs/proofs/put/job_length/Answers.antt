use Rattle.jobs.proofs.Writing.{total_first, total_more, total_done}
use borrow.Author.Rules.{rules}
use Rattle.jobs.proofs.put.job_length.Goals as goal

pub loop-i-init : goal.loop-i-init
loop-i-init c = (search rules, search rules, λ kind. total_first _ _ _ kind)

pub loop-i-preserved : goal.loop-i-preserved
loop-i-preserved c = (search rules, search rules, λ kind. total_more _ _ kind _ _ c.loop-i-test.true _ _ _ c.star_length.ensures.0 (c.loop-i.invariant.2 kind))

pub returns : goal.returns
returns c = (λ kind. total_done _ _ kind _ _ (search rules) _ _ (c.loop-i.invariant.2 kind), search rules)
