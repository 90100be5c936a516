use mathlib.Core.Bool.{not}
use borrow.Author.Rules.{rules}
use Rattle.std.specs.Char.{is_ascii_alphanumeric}
use Rattle.std.proofs.lemmas.Iterator.{YieldsList-from_slice}
use Rattle.std.proofs.lemmas.Iterator.Search.{position_from_yields_List}
use Rattle.job_texts.proofs.Spaced.{place_found, word_found}
use Rattle.job_texts.proofs.words.word.Goals as goal

pub returns : goal.returns
returns c = word_found _ _ (place_found _ _ (position_from_yields_List (λ b. not (is_ascii_alphanumeric b)) _ _ _ c.position.ensures.ran
    (YieldsList-from_slice c.args.text.now cc) (λ x b q k. search rules)) c.unwrap_or-end.ensures)
