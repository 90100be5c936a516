use mathlib.Core.Path.{◌≡◌}
use lib.ListN.{length}
use Rattle.floor.specs.Lists.{pairwise}
use Rattle.floor.specs.Jobs.{entries}
use Rattle.stars.specs.Pairs.{apart}
use Rattle.stars.proofs.star.none_twice.Given as goal

abbrev pub invariant-entries : goal.invariant-entries
invariant-entries l = pairwise apart (entries l.rest) ≡ pairwise apart (entries l.star)

abbrev pub decreases-entries : goal.decreases-entries
decreases-entries l = length l.rest
