use Rattle.jobs.proofs.Writing.{none_put, some_room, some_put}
use borrow.Author.Rules.{rules}
use Rattle.jobs.proofs.put.put_sizes.Goals as goal

pub returns-then-sizes-eq0 : goal.returns-then-sizes-eq0
returns-then-sizes-eq0 c = search (none_put, rules)

pub put_list-requires : goal.put_list-requires
put_list-requires c = search (some_room, rules)

pub returns : goal.returns
returns c = search (some_put, rules)
