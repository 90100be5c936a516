use Rattle.job_texts.proofs.AllLines.{text_wrong, text_right}
use borrow.Author.Rules.{rules}
use Rattle.job_texts.proofs.whole.read_text.Goals as goal

pub returns-in_err-rooms : goal.returns-in_err-rooms
returns-in_err-rooms c = text_wrong _ _ c.read_lines.ensures c.in_err-rooms.field-0.0 c.from_residual.result c.in_err-rooms.was (search rules)

pub returns : goal.returns
returns c = text_right _ _ c.read_lines.ensures _ _ c.in_ok-rooms.was c.told_of-told.ensures
