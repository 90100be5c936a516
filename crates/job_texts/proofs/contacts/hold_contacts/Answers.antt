use Rattle.job_texts.proofs.Pieces.{asked_some, asked_none, if_err, none_left, size_lacks, size_stands, contacts_over, contact_lacks, contact_last, comma_lacks, contact_next, next_put, count_kept}
use native.Mathlib.Omega.{arith}
use borrow.Author.Rules.{rules}
use Rattle.job_texts.proofs.contacts.hold_contacts.Goals as goal

pub returns-in_err-size : goal.returns-in_err-size
returns-in_err-size c =
    let (f, y) = asked_none _ _ _ _ c.ok_or.ensures.value c.in_err-size.was in (
      size_lacks _ _ _ c.loop-rest.invariant.1 _ c.begins.ensures c.if-begins.true _ c.next.ensures _ c.size_in.ensures c.from_residual.result f (rw (← y) (search rules)),
      if_err _ c.from_residual.result c.in_err-size.field-0.0 (search rules),
    )

pub returns-then-begins : goal.returns-then-begins
returns-then-begins c =
    let f = asked_some _ _ _ _ c.ok_or.ensures.value c.in_ok-size.was in
    (size_stands _ _ _ c.loop-rest.invariant.1 _ c.begins.ensures c.if-begins.true _ c.next.ensures _ c.size_in.ensures _ f, c.loop-rest.invariant.0)

pub returns-then-held-ge360 : goal.returns-then-held-ge360
returns-then-held-ge360 c = (search (contacts_over, rules), tt)

pub returns-in_err-contact : goal.returns-in_err-contact
returns-in_err-contact c = (
  contact_lacks _ _ _ c.loop-rest.invariant.1 _ c.begins.ensures c.if-begins.false _ c.contact_in.ensures c.if-held-ge360.false c.in_err-contact.field-0.0
      c.from_residual-in_err-contact.result c.in_err-contact.was (search rules),
  if_err _ c.from_residual-in_err-contact.result c.in_err-contact.field-0.0 (search rules),
)

pub returns-in_default : goal.returns-in_default
returns-in_default c = (
  contact_last _ _ _ c.loop-rest.invariant.1 _ c.begins.ensures c.if-begins.false _ c.contact_in.ensures c.if-held-ge360.false _ c.in_ok-contact.was _
      c.with_entry-held.ensures (none_left _ _ c.in_default.is c.split_first.ensures.cases),
  search (count_kept, rules),
)

pub returns-then-mark-ne44 : goal.returns-then-mark-ne44
returns-then-mark-ne44 c = (
  comma_lacks _ _ _ c.loop-rest.invariant.1 _ c.begins.ensures c.if-begins.false _ c.contact_in.ensures c.if-held-ge360.false _ c.in_ok-contact.was _
      c.with_entry-held.ensures _ _ c.in-Some.ensures.cases.0 c.if-mark-ne44.true,
  tt,
)

pub loop-rest-preserved : goal.loop-rest-preserved
loop-rest-preserved c = (search (count_kept, rules), search (contact_next, rules))

pub loop-rest-smaller : goal.loop-rest-smaller
loop-rest-smaller c = omega (arith, next_put _ _ _ _ c.with_entry-held.ensures)
