use mathlib.Core.Path.{refl}
use Rattle.job_texts.proofs.Pieces.{asked_some, asked_none, no_side, no_neighbour, both_stand}
use borrow.Author.Rules.{rules}
use Rattle.job_texts.proofs.contacts.contact_in.Goals as goal

pub returns-in_err-kind : goal.returns-in_err-kind
returns-in_err-kind c =
    let (k, y) = asked_none _ _ _ _ c.ok_or.ensures.value c.in_err-kind.was in
    no_side _ _ c.word.ensures _ c.kind_of_word.ensures _ k (rw (← y) (search rules))

pub returns-in_err-to : goal.returns-in_err-to
returns-in_err-to c =
    let k = asked_some _ _ _ _ c.ok_or.ensures.value c.in_ok-kind.was in
    let (v, y) = asked_none _ _ _ _ c.ok_or-2.ensures.value c.in_err-to.was in
    no_neighbour _ _ c.word.ensures _ c.kind_of_word.ensures _ _ c.next-second.ensures c.word-2.ensures _ c.vertex_of_word.ensures _ k _ v (rw (← y) (search rules))

pub returns : goal.returns
returns c =
    both_stand _ _ c.word.ensures _ c.kind_of_word.ensures _ _ c.next-second.ensures c.word-2.ensures _ c.vertex_of_word.ensures _
    (asked_some _ _ _ _ c.ok_or.ensures.value c.in_ok-kind.was) _ (asked_some _ _ _ _ c.ok_or-2.ensures.value c.in_ok-to.was) refl c.next.ensures
