use native.Mathlib.Omega.{arith}
use lib.ListN.{length-set}
use Rattle.registers.proofs.Rows.{row_out, row_put}
use borrow.Author.Rules.{rules}
use Rattle.registers.proofs.merge.put_row.Goals as goal

pub returns-then-rows-k : goal.returns-then-rows-k
returns-then-rows-k c = search (row_out, rules)

pub bounds-rows-k-2 : goal.bounds-rows-k-2
bounds-rows-k-2 c = simp length-set (omega arith)

pub bounds-rows-k-3 : goal.bounds-rows-k-3
bounds-rows-k-3 c = simp length-set (omega arith)

pub bounds-rows-k-4 : goal.bounds-rows-k-4
bounds-rows-k-4 c = simp length-set (omega arith)

pub returns : goal.returns
returns c = search (row_put, rules)
