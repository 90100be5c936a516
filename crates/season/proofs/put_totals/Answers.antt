use Rattle.std.proofs.Common.{rules}
use Rattle.season.proofs.Putting.{total_refused, total_short, total_told}
use Rattle.season.proofs.put_totals.Goals as goal

pub returns-in_err-sums : goal.returns-in_err-sums
returns-in_err-sums c = total_refused _ _ _ c.sum_up.ensures _ c.in_err-sums.was c.from_residual.result (search rules)

pub returns-then-figures-lt16 : goal.returns-then-figures-lt16
returns-then-figures-lt16 c = total_short _ _ _ c.sum_up.ensures _ c.in_ok-sums.was (search rules) (search rules)

pub returns : goal.returns
returns c = total_told _ _ _ c.sum_up.ensures _ c.in_ok-sums.was (search rules) _ (search rules) (search rules)
