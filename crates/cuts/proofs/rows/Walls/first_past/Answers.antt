use borrow.Author.Rules.{rules}
use Rattle.std.proofs.lemmas.List.Sorted.{IsPartitionPoint-from_clause}
use lib.Dec.{leb}
use Rattle.cuts.specs.Orders.{row_key}
use Rattle.cuts.proofs.Arranging.{parted, passed_point, over_point}
use Rattle.cuts.proofs.rows.Walls.first_past.Goals as goal

pub returns : goal.returns
returns c =
    let p = IsPartitionPoint-from_clause (λ x. leb (row_key c.args.self.now.rows.now x) c.args.bound) _ _ c.partition_point.ensures.partitioned
    (parted _ _ _ _ _ (search rules) (search rules) c.requires.2) (λ a r q k. search rules) in
    (search rules, search rules, passed_point _ _ _ _ _ (search rules) (search rules) _ (search rules) p, over_point _ _ _ _ _ (search rules) (search rules) _ (search rules) p)
