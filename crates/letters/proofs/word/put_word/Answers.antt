use Rattle.letters.proofs.Rows.{word_put}
use Rattle.letters.proofs.word.put_word.Goals as goal

pub returns : goal.returns
returns c = word_put _ _ _ _ _ _ c.min-start.ensures c.room_for-many.ensures c.copy_from_slice.ensures.after
