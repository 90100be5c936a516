use borrow.Author.Rules.{rules}
use Rattle.std.proofs.lemmas.Iterator.{YieldsList-from_slice}
use Rattle.std.proofs.lemmas.Iterator.Search.{position_from_yields_List}
use Rattle.floor.specs.Lists.{same_numbers}
use Rattle.job_texts.proofs.Said.{place_said}
use Rattle.job_texts.proofs.values.place_of.Goals as goal

pub returns-in_err-place : goal.returns-in_err-place
returns-in_err-place c =
    let e = place_said c.args.word.now c.args.words _ (position_from_yields_List (λ x. same_numbers c.args.word.now x.now) _ _ c.position.result c.position.ensures.ran
    (YieldsList-from_slice c.args.words cc) (λ x b q k. search rules)) in
    rw c.from_residual.ensures (rw c.in_err-place.was at e)

pub returns : goal.returns
returns c =
    let e = place_said c.args.word.now c.args.words _ (position_from_yields_List (λ x. same_numbers c.args.word.now x.now) _ _ c.position.result c.position.ensures.ran
    (YieldsList-from_slice c.args.words cc) (λ x b q k. search rules)) in
    rw c.in_ok-place.was at e
