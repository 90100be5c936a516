use Rattle.jobs.proofs.Testing.{raw_fails, raw_side, raw_past, raw_value}
use borrow.Author.Rules.{rules}
use Rattle.jobs.proofs.raw_star.Goals as goal

pub returns-in_default : goal.returns-in_default
returns-in_default c = search (raw_fails, rules)

pub returns-then-room-lt4 : goal.returns-then-room-lt4
returns-then-room-lt4 c = search (raw_side, rules)

pub returns-then-from-room : goal.returns-then-from-room
returns-then-from-room c = search (raw_past, rules)

pub returns : goal.returns
returns c = search (raw_value, rules)
