use mathlib.Core.Path.{◌≡◌}
use lib.ListN.{length}
use Rattle.floor.specs.Lists.{all}
use Rattle.floor.specs.Jobs.{entries, entry_ok}
use Rattle.stars.proofs.star.entries_ok.Given as goal

abbrev pub invariant-entries : goal.invariant-entries
invariant-entries l = all (entry_ok l.rooms l.room) (entries l.rest) ≡ all (entry_ok l.rooms l.room) (entries l.star)

abbrev pub decreases-entries : goal.decreases-entries
decreases-entries l = length l.rest
