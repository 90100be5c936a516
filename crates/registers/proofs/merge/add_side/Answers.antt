use Rattle.registers.proofs.Rows.{side_on, side_new}
use borrow.Author.Rules.{rules}
use Rattle.registers.proofs.merge.add_side.Goals as goal

pub returns-then-goes_on : goal.returns-then-goes_on
returns-then-goes_on c =
    (λ d l. side_on _ c.args.w c.args.s.line c.args.s.begins c.args.s.ends d l _ _ c.goes_on.ensures c.if-goes_on.true c.max.ensures, search rules, search rules)

pub returns : goal.returns
returns c =
    (λ d l. side_new _ c.args.w c.args.s.line c.args.s.begins c.args.s.ends d l _ _ c.goes_on.ensures c.if-goes_on.false c.put_row.ensures, search rules, search rules)
