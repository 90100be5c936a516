use native.Mathlib.Omega.{arith}
use Rattle.jobs.proofs.Testing.{few_rooms, three_no, three_held}
use borrow.Author.Rules.{rules}
use Rattle.jobs.proofs.tests.kept.Goals as goal

pub returns-then-shape-gt-MOST_PAIRS : goal.returns-then-shape-gt-MOST_PAIRS
returns-then-shape-gt-MOST_PAIRS c = search (three_no, rules)

pub hold-stars-requires : goal.hold-stars-requires
hold-stars-requires c = (few_rooms _ c.requires.0, search rules)

pub returns : goal.returns
returns c = three_held c.args.job.now c.args.shape.rooms c.args.shape.first _ c.args.shape.end c.requires.1 _ _ c.hold-stars.ensures
    c.hold_sizes-sizes.ensures (few_rooms _ c.requires.0) c.requires.2 (omega arith) (λ i. omega (arith, c.type_inv.job i))
