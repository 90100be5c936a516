use Prim.Native.Nat.{◌-◌}
use mathlib.Core.Path.{◌≡◌}
use lib.ListN.{drop}
use Rattle.floor.specs.Fields.{after_fields}
use Rattle.jobs.proofs.walk.place_after.Given as goal

abbrev pub invariant-loop-i : goal.invariant-loop-i
invariant-loop-i l = after_fields (l.k - l.i) (drop l.at l.job) ≡ after_fields l.k l.job
