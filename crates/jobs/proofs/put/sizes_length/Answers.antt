use Rattle.jobs.proofs.Writing.{none_length, some_length}
use borrow.Author.Rules.{rules}
use Rattle.jobs.proofs.put.sizes_length.Goals as goal

pub returns-then-told-eq0 : goal.returns-then-told-eq0
returns-then-told-eq0 c = (λ sizes. none_length sizes _ (search rules), search rules)

pub returns : goal.returns
returns c = (λ sizes. some_length sizes _ (search rules), search rules)
