use Rattle.jobs.proofs.Writing.{list_more, list_done}
use borrow.Author.Rules.{rules}
use Rattle.jobs.proofs.put.put_list.Goals as goal

pub loop-i-preserved : goal.loop-i-preserved
loop-i-preserved c = (search rules, search rules, search (list_more, rules))

pub returns : goal.returns
returns c = search (list_done, rules)
