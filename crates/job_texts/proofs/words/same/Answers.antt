use mathlib.Core.Path.{◌∙◌}
use Rattle.job_texts.proofs.Spaced.{same_found}
use Rattle.job_texts.proofs.words.same.Goals as goal

pub returns : goal.returns
returns c = c.eq.ensures ∙ same_found _ _
