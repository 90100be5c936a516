use Rattle.stars.specs.Held.{to_of, kind_of}
use Rattle.jobs.proofs.Filling.{fill_more, fill_done}
use borrow.Author.Rules.{rules}
use Rattle.jobs.proofs.fill.put_star.Goals as goal

pub loop-i-preserved : goal.loop-i-preserved
loop-i-preserved c = (search rules, search rules, search rules, search (fill_more to_of, rules), search (fill_more kind_of, rules))

pub returns : goal.returns
returns c = (search (fill_done to_of, rules), search (fill_done kind_of, rules))
