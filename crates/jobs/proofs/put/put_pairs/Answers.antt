use Rattle.jobs.proofs.Writing.{put_more, put_done}
use borrow.Author.Rules.{rules}
use Rattle.jobs.proofs.put.put_pairs.Goals as goal

pub loop-i-preserved : goal.loop-i-preserved
loop-i-preserved c = (search rules, search rules, search (put_more, rules))

pub returns : goal.returns
returns c = search (put_done, rules)
