use Rattle.std.proofs.Common.{◌≡◌, ◌*◌, ◌≤◌, length, take}
use Rattle.floor.specs.Totals.{figure_lines}
use Rattle.letters.specs.Puts.{Puts}
use Rattle.season.proofs.text.put_figures.Given as goal

abbrev pub invariant-loop-sum : goal.invariant-loop-sum
invariant-loop-sum l = (length l.out ≡ length l.initial.out) × (l.sum-index ≤ length l.sums) × Puts l.initial.out 0 (figure_lines (take l.sum-index l.sums)) l.out l.next × (length (figure_lines (take l.sum-index l.sums)) ≤ 21 * l.sum-index)
