use native.Mathlib.Omega.{arith}
use Prim.Native.Nat.{◌<◌}
use Rattle.registers.proofs.Laying.{next_less}
use Rattle.registers.proofs.Rows.{chain_none, chain_begun}
use borrow.Author.Rules.{rules}
use Rattle.registers.proofs.merge.merge_chain.Goals as goal

pub returns-then-first-eq0 : goal.returns-then-first-eq0
returns-then-first-eq0 c = (λ d. chain_none _ _ _ _ d c.if-first-eq0.true, search rules)

pub merge_rest-requires : goal.merge_rest-requires
merge_rest-requires c =
    let less = next_less c.args.cells.now c.args.first c.requires.0 (omega (arith, c.if-first-eq0.false)) _ c.from.ensures in
    (c.requires.0, omega (arith, less, c.requires.1), search rules, omega (arith, less, c.requires.4), omega (arith, less, c.requires.2))

pub returns : goal.returns
returns c =
    let some : 0 < c.args.first = omega (arith, c.if-first-eq0.false) in
    let next = c.from.ensures in (
      λ d. chain_begun c.args.cells.now _ _ c.args.at c.args.first _ _ d c.requires.0 some next _ (rw c.side_at-s.ensures) (c.merge_rest.ensures.0 d),
      omega (arith, c.merge_rest.ensures.1, next_less c.args.cells.now c.args.first c.requires.0 some _ next),
    )
