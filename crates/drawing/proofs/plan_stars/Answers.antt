use Rattle.std.proofs.Common.{ap, not}
use Rattle.drawing.proofs.Judging.{seven_numbered, eighteen_numbered, placed_asks, all_numbered, stars_many}
use borrow.Author.Rules.{rules}
use Rattle.drawing.proofs.plan_stars.Goals as goal

pub returns-in_default : goal.returns-in_default
returns-in_default c = search (seven_numbered, rules)

pub returns-then-not-sheet_fits : goal.returns-then-not-sheet_fits
returns-then-not-sheet_fits c = search (eighteen_numbered, rules)

pub plan_of-requires : goal.plan_of-requires
plan_of-requires c =
    placed_asks _ _ c.walls_of.ensures _ c.in-Some.is _ c.sheet_at-sheet.ensures _ c.sheet_fits.ensures (ap not c.if-not-sheet_fits.false) _ (stars_many _ _ _ _)

pub returns : goal.returns
returns c = search (all_numbered, stars_many, rules)
