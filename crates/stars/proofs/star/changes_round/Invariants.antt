use Prim.Native.Nat.{◌+◌, ◌≤◌}
use mathlib.Core.Path.{◌≡◌}
use lib.ListN.{length, get_or}
use Rattle.floor.specs.Jobs.{entries, links, links_to}
use Rattle.stars.specs.Pairs.{pair, changes_in}
use Rattle.stars.proofs.Entries.{changes_left}
use Rattle.stars.proofs.star.changes_round.Given as goal

abbrev pub invariant-round : goal.invariant-round
invariant-round l = (l.many + length l.rest ≤ length l.star)
    × (changes_left l.many (links_to (get_or (entries l.star) 0 (pair 0 0)) (entries l.rest)) ≡ changes_in (links (entries l.star)))

abbrev pub decreases-round : goal.decreases-round
decreases-round l = length l.rest
