use mathlib.Core.Path.{◌≡◌}
use lib.ListN.{length}
use Rattle.floor.specs.Lists.{all}
use Rattle.floor.specs.Jobs.{entries}
use Rattle.stars.specs.Pairs.{pair, apart}
use Rattle.stars.proofs.star.apart_from.Given as goal

abbrev pub invariant-others : goal.invariant-others
invariant-others l = all (apart (pair l.to l.kind)) (entries l.rest) ≡ all (apart (pair l.to l.kind)) (entries l.others)

abbrev pub decreases-others : goal.decreases-others
decreases-others l = length l.rest
