use mathlib.Core.Bool.{not}
use borrow.Author.Rules.{rules}
use Rattle.std.proofs.lemmas.Iterator.{YieldsList-from_slice}
use Rattle.std.proofs.lemmas.Iterator.Search.{position_from_yields_List}
use Rattle.floor.specs.JobTexts.{blank}
use Rattle.job_texts.proofs.Spaced.{place_found, skip_found}
use Rattle.job_texts.proofs.words.skip.Goals as goal

pub returns : goal.returns
returns c = skip_found _ _ (place_found _ _ (position_from_yields_List (λ b. not (blank b)) _ _ _ c.position.ensures.ran (YieldsList-from_slice c.args.text.now cc)
    (λ x b q k. search rules)) c.unwrap_or-start.ensures)
