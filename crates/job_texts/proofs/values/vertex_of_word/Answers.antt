use Rattle.floor.specs.Quoted.{plain}
use Rattle.job_texts.proofs.Said.{vertex_said}
use Rattle.job_texts.proofs.values.vertex_of_word.Goals as goal

pub returns : goal.returns
unfolding plain
returns c = vertex_said _ _ _ _ c.place_of.ensures c.number_of.ensures c.or.ensures
