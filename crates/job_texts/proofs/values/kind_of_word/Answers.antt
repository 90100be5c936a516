use Rattle.floor.specs.Quoted.{plain}
use Rattle.job_texts.proofs.Said.{kind_said}
use Rattle.job_texts.proofs.values.kind_of_word.Goals as goal

pub returns : goal.returns
unfolding plain
returns c = kind_said _ _ c.place_of.ensures
