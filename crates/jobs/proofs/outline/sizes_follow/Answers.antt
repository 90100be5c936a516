use Rattle.fields.proofs.Laws.{in_order_lem}
use Rattle.jobs.proofs.Outlines.{follow_none, follow_broken, follow_tag, follow_length, follow_end}
use borrow.Author.Rules.{rules}
use Rattle.jobs.proofs.outline.sizes_follow.Goals as goal

pub returns-then-job-place : goal.returns-then-job-place
returns-then-job-place c = search (follow_none, rules)

pub returns-in_default : goal.returns-in_default
returns-in_default c = search (follow_broken, rules)

pub returns-then-field-ne7 : goal.returns-then-field-ne7
returns-then-field-ne7 c = search (follow_tag, rules)

pub overflow_sub-field : goal.overflow_sub-field
overflow_sub-field c = search (in_order_lem, rules)

pub returns-then-field-from : goal.returns-then-field-from
returns-then-field-from c = search (follow_length, rules)

pub returns : goal.returns
returns c = search (follow_end, rules)
