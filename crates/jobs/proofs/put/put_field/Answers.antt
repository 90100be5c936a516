use Rattle.jobs.proofs.Writing.{field_room, field_end, field_put}
use borrow.Author.Rules.{rules}
use Rattle.jobs.proofs.put.put_field.Goals as goal

pub put_pairs-requires : goal.put_pairs-requires
put_pairs-requires c = (search (field_room, rules), search rules)

pub returns : goal.returns
returns c = (search (field_put, rules), search (field_end, rules))
