use Rattle.season.proofs.Counting.{sheet_fits, within_sheet, list_is}
use Rattle.std.proofs.Common.{rules}
use Rattle.season.proofs.counts.figures_of.Goals as goal

pub overflow_mul-sheet : goal.overflow_mul-sheet
overflow_mul-sheet c = search (sheet_fits, rules)

pub overflow_sub-rooms : goal.overflow_sub-rooms
overflow_sub-rooms c = within_sheet _ _ _ _ _ c.requires c.from-wide.ensures c.from-high.ensures

pub returns : goal.returns
returns c = search (list_is, rules)
