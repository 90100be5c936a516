use Rattle.std.proofs.Common.{◌≡◌, Err}
use Rattle.fields.proofs.Laws.{in_order_lem}
use Rattle.jobs.proofs.Outlines.{asked_none, asked_some, shape_broken, shape_tag, shape_long, shape_none, shape_many, shape_rest, right, start_within}
use borrow.Author.Rules.{rules}
use Rattle.jobs.proofs.outline.shape_of.Goals as goal

pub returns-in_err-first : goal.returns-in_err-first
returns-in_err-first c =
    let (none, is) = asked_none _ _ _ _ c.ok_or.ensures.value c.in_err-first.was in
    let r : c.from_residual.result ≡ Err c.in_err-first.field-0.0 = search rules in
    rw (r, is) (shape_broken _ _ c.read_at.ensures.0 none)

pub returns-then-first-ne1 : goal.returns-then-first-ne1
returns-then-first-ne1 c = let here = asked_some _ _ _ _ c.ok_or.ensures.value c.in_ok-first.was in
    shape_tag _ _ c.read_at.ensures.0 c.read_at.ensures.1 _ here c.if-first-ne1.true

pub overflow_sub-first : goal.overflow_sub-first
overflow_sub-first c = in_order_lem _ _ _ _ (asked_some _ _ _ _ c.ok_or.ensures.value c.in_ok-first.was) c.read_at.ensures.1

pub returns-then-first-ne1-2 : goal.returns-then-first-ne1-2
returns-then-first-ne1-2 c = let here = asked_some _ _ _ _ c.ok_or.ensures.value c.in_ok-first.was in
    shape_long _ _ c.read_at.ensures.0 c.read_at.ensures.1 _ here c.if-first-ne1.false c.if-first-ne1-2.true

pub bounds-job-first : goal.bounds-job-first
bounds-job-first c = let here = asked_some _ _ _ _ c.ok_or.ensures.value c.in_ok-first.was in
    start_within _ _ _ _ here c.read_at.ensures.1 c.if-first-ne1-2.false

pub returns-then-n-eq0 : goal.returns-then-n-eq0
returns-then-n-eq0 c = let here = asked_some _ _ _ _ c.ok_or.ensures.value c.in_ok-first.was in
    shape_none _ _ c.read_at.ensures.0 c.read_at.ensures.1 _ here c.if-first-ne1.false c.if-first-ne1-2.false c.if-n-eq0.true

pub returns-then-n-gt60 : goal.returns-then-n-gt60
returns-then-n-gt60 c = let here = asked_some _ _ _ _ c.ok_or.ensures.value c.in_ok-first.was in
    shape_many _ _ c.read_at.ensures.0 c.read_at.ensures.1 _ here c.if-first-ne1.false c.if-first-ne1-2.false c.if-n-gt60.true

pub rest_of-requires : goal.rest_of-requires
rest_of-requires c = let here = asked_some _ _ _ _ c.ok_or.ensures.value c.in_ok-first.was in
    right _ _ c.read_at.ensures.0 c.read_at.ensures.1 _ here c.if-first-ne1.false c.if-first-ne1-2.false c.if-n-eq0.false c.if-n-gt60.false

pub returns : goal.returns
returns c = let here = asked_some _ _ _ _ c.ok_or.ensures.value c.in_ok-first.was in
    shape_rest _ _ c.read_at.ensures.0 c.read_at.ensures.1 _ here c.if-first-ne1.false c.if-first-ne1-2.false c.if-n-eq0.false c.if-n-gt60.false _
    c.rest_of.ensures
