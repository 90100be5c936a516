use Rattle.floor.specs.Quoted.{plain}
use Rattle.job_texts.proofs.Put.{size_put}
use Rattle.job_texts.proofs.write.put_size.Goals as goal

pub returns : goal.returns
unfolding plain
returns c = size_put _ _ _ _ c.from.ensures c.from-2.ensures c.put_word-first.ensures c.put_decimal-second.ensures
    c.put_word-third.ensures c.put_decimal.ensures
