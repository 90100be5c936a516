use Rattle.floor.specs.Quoted.{plain}
use Rattle.job_texts.proofs.Telling.{line_told}
use Rattle.job_texts.proofs.wrong.put_slip.Goals as goal

pub returns : goal.returns
unfolding plain
returns c = line_told _ _ c.put_word-first.ensures c.put_decimal-second.ensures c.put_word-third.ensures c.put_lack-end.ensures c.put_byte.ensures
