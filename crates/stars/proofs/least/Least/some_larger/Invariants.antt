use Prim.Native.Nat.{◌-◌}
use mathlib.Core.Path.{◌≡◌}
use Rattle.floor.specs.Lists.{any}
use Rattle.floor.specs.Jobs.{larger}
use Rattle.stars.specs.Sized.{sizes_from, sizes_in}
use Rattle.stars.proofs.least.Least.some_larger.Given as goal

abbrev pub invariant-loop-i : goal.invariant-loop-i
invariant-loop-i l = any larger (sizes_from (l.self.told - l.i) l.i l.self.list.now) ≡ any larger (sizes_in l.self.told l.self.list.now)
