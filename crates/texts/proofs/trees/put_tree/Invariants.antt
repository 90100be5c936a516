use mathlib.Core.Path.{◌≡◌}
use lib.ListN.{length}
use Rattle.floor.specs.Cuts.{Tree, write_tree}
use Rattle.texts.proofs.Cutting.{Walked}
use Rattle.texts.proofs.trees.put_tree.Given as goal

abbrev pub invariant-fields : goal.invariant-fields
invariant-fields l = (length l.out ≡ length l.initial.out) × ((t : Tree) → l.bytes ≡ write_tree t → Walked t l.rest l.initial.out l.at l.out l.next)

abbrev pub decreases-fields : goal.decreases-fields
decreases-fields l = length l.rest
