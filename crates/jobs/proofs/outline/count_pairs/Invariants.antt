use Prim.Native.Nat.{◌-◌, ◌≤◌}
use mathlib.Core.Path.{◌≡◌}
use lib.ListN.{drop}
use Rattle.floor.specs.Fields.{after_fields}
use Rattle.floor.specs.Jobs.{read_stars}
use Rattle.jobs.specs.Shapes.{pairs_past}
use Rattle.jobs.proofs.outline.count_pairs.Given as goal

abbrev pub invariant-loop-i : goal.invariant-loop-i
invariant-loop-i l =
    (l.pairs ≤ l.at) × (pairs_past l.pairs (read_stars (l.count - l.i) (drop l.at l.job)) ≡ pairs_past 0 (read_stars l.n (drop l.from l.job)))
    × (after_fields (l.count - l.i) (drop l.at l.job) ≡ after_fields l.n (drop l.from l.job))
