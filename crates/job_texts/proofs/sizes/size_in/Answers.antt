use Rattle.std.proofs.Common.{ap, not, refl}
use Rattle.job_texts.proofs.Pieces.{no_words, width_none, height_none, both_said}
use borrow.Author.Rules.{rules}
use Rattle.job_texts.proofs.sizes.size_in.Goals as goal

pub returns-then-not-words_stand : goal.returns-then-not-words_stand
returns-then-not-words_stand c = search (no_words, rules)

pub returns-in_err-wide : goal.returns-in_err-wide
returns-in_err-wide c = search (width_none, rules)

pub returns-in_err-tall : goal.returns-in_err-tall
returns-in_err-tall c = height_none _ _ c.words_stand.ensures (ap not c.if-not-words_stand.false) _ _ c.next-second.ensures c.word.ensures _ c.number_of.ensures
    _ _ _ c.next.ensures c.next-fourth.ensures c.word-2.ensures _ c.number_of-2.ensures _ c.in_ok-wide.was _ c.in_err-tall.was (search rules)

pub returns : goal.returns
returns c = both_said _ _ c.words_stand.ensures (ap not c.if-not-words_stand.false) _ _ c.next-second.ensures c.word.ensures _ c.number_of.ensures
    _ _ _ c.next.ensures c.next-fourth.ensures c.word-2.ensures _ c.number_of-2.ensures _ c.in_ok-wide.was _ refl c.in_ok-tall.was
