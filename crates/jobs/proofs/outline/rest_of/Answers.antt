use Rattle.std.proofs.Common.{◌≡◌, ap, not, Err}
use Rattle.jobs.proofs.Outlines.{asked_none, asked_some, rest_none, rest_bad, rest_whole}
use borrow.Author.Rules.{rules}
use Rattle.jobs.proofs.outline.rest_of.Goals as goal

pub returns-in_err-count : goal.returns-in_err-count
returns-in_err-count c =
    let (none, is) = asked_none _ _ _ _ c.ok_or.ensures.value c.in_err-count.was in
    let r : c.from_residual.result ≡ Err c.in_err-count.field-0.0 = search rules in
    rw (r, is) (rest_none _ c.args.from _ _ c.count_pairs.ensures.0 none)

pub returns-then-not-sizes_follow : goal.returns-then-not-sizes_follow
returns-then-not-sizes_follow c =
    let some = asked_some _ _ _ _ c.ok_or.ensures.value c.in_ok-count.was in
    rest_bad _ c.args.from _ _ c.count_pairs.ensures.0 _ some c.count_pairs.ensures.1 c.sizes_follow.result c.sizes_follow.ensures
    (ap not c.if-not-sizes_follow.true)

pub returns : goal.returns
returns c =
    let some = asked_some _ _ _ _ c.ok_or.ensures.value c.in_ok-count.was in
    rest_whole _ c.args.from _ _ c.count_pairs.ensures.0 _ some c.count_pairs.ensures.1 c.sizes_follow.result c.sizes_follow.ensures
    (ap not c.if-not-sizes_follow.false) c.requires
