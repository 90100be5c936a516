use lib.ListN.{length-set}
use native.Mathlib.Omega.{arith}
use Rattle.cuts.proofs.Running.{put_leaf, put_cut}
use borrow.Author.Rules.{rules}
use Rattle.cuts.proofs.run.put_act.Goals as goal

pub returns-in-None : goal.returns-in-None
returns-in-None c = search (put_leaf, rules)

pub bounds-out-at-in-Some-2 : goal.bounds-out-at-in-Some-2
bounds-out-at-in-Some-2 c = simp length-set (omega arith)

pub returns-in-Some : goal.returns-in-Some
returns-in-Some c = search (put_cut, rules)
