use mathlib.Core.Path.{refl}
use Rattle.job_texts.proofs.RoomLines.{rooms_over, told_other, other_number, row_lacks, room_closed}
use borrow.Author.Rules.{rules}
use Rattle.job_texts.proofs.rows.room_row.Goals as goal

pub returns-then-n-ge60 : goal.returns-then-n-ge60
returns-then-n-ge60 c = search (rooms_over, rules)

pub returns-then-ne : goal.returns-then-ne
returns-then-ne c = other_number _ _ _ refl c.if-n-ge60.false _ _ c.word.ensures c.number_of.ensures (told_other _ _ _ c.ne.ensures c.if-ne.true)

pub returns-in_err-row : goal.returns-in_err-row
returns-in_err-row c =
    row_lacks _ _ _ refl c.if-n-ge60.false _ _ c.word.ensures c.number_of.ensures (search rules) _ c.next.ensures _ c.behind_number.ensures.0 c.in_err-row.field-0.0
    c.from_residual.result c.in_err-row.was (search rules)

pub returns : goal.returns
returns c = search (room_closed, rules)
