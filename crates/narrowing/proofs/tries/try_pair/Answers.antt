use Rattle.std.proofs.Common.{ap, not}
use Rattle.narrowing.proofs.Trying.{long_fails, stops_fails, none_fails, wide_fails, thin_found}
use borrow.Author.Rules.{rules}
use Rattle.narrowing.proofs.tries.try_pair.Goals as goal

pub returns-then-not-brief : goal.returns-then-not-brief
returns-then-not-brief c = search (long_fails, rules)

pub returns-then-not-turned : goal.returns-then-not-turned
returns-then-not-turned c = search (stops_fails, rules)

pub returns-in_err-width : goal.returns-in_err-width
returns-in_err-width c = search (none_fails, rules)

pub returns-then-from-width : goal.returns-then-from-width
returns-then-from-width c = search (wide_fails, rules)

pub returns : goal.returns
returns c =
    thin_found _ _ _ _ _ _ _ _ _ _ _ _ c.brief.ensures (ap not c.if-not-brief.false) _ c.copy_from_slice.ensures.after _ _ c.turned.ensures (ap not c.if-not-turned.false) _ c.from.ensures _ c.width_of.ensures _ c.in_ok-width.was c.if-from-width.false _ c.plan_stars.ensures _ c.ok.ensures.value
