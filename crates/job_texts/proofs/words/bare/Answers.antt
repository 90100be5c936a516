use mathlib.Core.Path.{◌∙◌, ap}
use borrow.Author.Rules.{rules}
use lib.Dec.{eqb}
use Rattle.std.proofs.lemmas.Iterator.{YieldsList-from_slice}
use Rattle.std.proofs.lemmas.Iterator.Search.{position_from_yields_List}
use Rattle.floor.specs.JobTexts.{skip}
use Rattle.job_texts.proofs.Spaced.{place_found, comment_found}
use Rattle.job_texts.proofs.words.bare.Goals as goal

pub returns : goal.returns
returns c = c.skip.ensures ∙ ap skip (comment_found _ _ (place_found _ _ (position_from_yields_List (λ b. eqb b 35) _ _ _ c.position.ensures.ran
    (YieldsList-from_slice c.args.line.now cc) (λ x b q k. search rules)) c.unwrap_or-end.ensures))
