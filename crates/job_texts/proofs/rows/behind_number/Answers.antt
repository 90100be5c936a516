use Rattle.job_texts.proofs.Pieces.{none_left}
use Rattle.job_texts.proofs.RoomLines.{no_colon, other_colon, no_contacts, some_contacts}
use borrow.Author.Rules.{rules}
use Rattle.job_texts.proofs.rows.behind_number.Goals as goal

pub returns-in_default : goal.returns-in_default
returns-in_default c = (no_colon _ _ _ (none_left _ _ c.in_default.is c.split_first.ensures.cases), tt)

pub returns-then-mark-ne58 : goal.returns-then-mark-ne58
returns-then-mark-ne58 c = (other_colon _ _ _ _ _ c.in-Some.ensures.cases.0 c.if-mark-ne58.true, tt)

pub returns-then-is_empty : goal.returns-then-is_empty
returns-then-is_empty c = (search (no_contacts, rules), search rules)

pub returns : goal.returns
returns c = (search (some_contacts, rules), search rules)
