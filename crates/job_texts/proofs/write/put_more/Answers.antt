use mathlib.Core.Path.{refl}
use Rattle.job_texts.proofs.Put.{more_next, more_done}
use borrow.Author.Rules.{rules}
use Rattle.job_texts.proofs.write.put_more.Goals as goal

pub loop-k-init : goal.loop-k-init
loop-k-init c = (refl, λ y r p. p)

pub loop-k-preserved : goal.loop-k-preserved
loop-k-preserved c = (search rules, search (more_next, rules))

pub returns : goal.returns
returns c = search (more_done, rules)
