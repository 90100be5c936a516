use lib.ListN.{length-set}
use native.Mathlib.Omega.{arith}
use Rattle.jobs.proofs.Filling.{sizes_more, sizes_done}
use borrow.Author.Rules.{rules}
use Rattle.jobs.proofs.fill.put_sizes.Goals as goal

pub loop-i-preserved : goal.loop-i-preserved
loop-i-preserved c = (search rules, simp length-set (omega arith), search (sizes_more, rules))

pub returns : goal.returns
returns c = search (sizes_done, rules)
