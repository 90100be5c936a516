use mathlib.Core.Path.{refl}
use Rattle.registers.proofs.Laying.{next_less, next_most, next_sum}
use Rattle.registers.proofs.Rows.{rest_more, rest_done}
use borrow.Author.Rules.{rules}
use Rattle.registers.proofs.merge.merge_rest.Goals as goal

pub loop-h-init : goal.loop-h-init
loop-h-init c = (λ d. (refl, refl), search rules, search rules, search rules, search rules)

pub loop-h-smaller : goal.loop-h-smaller
loop-h-smaller c = search (next_less, rules)

pub loop-h-preserved : goal.loop-h-preserved
loop-h-preserved c = (search (rest_more, rules), search (next_most, rules), search (next_sum, rules), search (next_sum, rules), search rules)

pub returns : goal.returns
returns c =
    (λ d. rest_done _ _ _ c.loop-h.w c.args.begun c.loop-h.h c.args.first _ c.loop-h-test.false c.put_row.ensures c.loop-h.invariant.0 d, search rules)
