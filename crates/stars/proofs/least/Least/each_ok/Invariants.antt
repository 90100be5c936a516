use Prim.Native.Nat.{◌-◌}
use mathlib.Core.Path.{◌≡◌}
use Rattle.floor.specs.Lists.{all}
use Rattle.floor.specs.Jobs.{size_ok}
use Rattle.stars.specs.Sized.{sizes_from, sizes_in}
use Rattle.stars.proofs.least.Least.each_ok.Given as goal

abbrev pub invariant-loop-i : goal.invariant-loop-i
invariant-loop-i l = all size_ok (sizes_from (l.self.told - l.i) l.i l.self.list.now) ≡ all size_ok (sizes_in l.self.told l.self.list.now)
