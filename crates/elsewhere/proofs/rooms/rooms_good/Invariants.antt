use mathlib.Core.Path.{◌≡◌}
use Prim.Native.Nat.{◌+◌, ◌-◌}
use Rattle.floor.specs.Lists.{all, up_from}
use Rattle.floor.specs.Jobs.{sized_job, rooms}
use Rattle.floor.specs.Foreign.{room_good}
use Rattle.stars.specs.Held.{job_held}
use Rattle.stars.specs.Sized.{sizes_lent}
use Rattle.elsewhere.specs.Placed.{plan_drawn}
use Rattle.elsewhere.proofs.rooms.rooms_good.Given as goal

abbrev pub invariant-loop-i : goal.invariant-loop-i
invariant-loop-i l = all (room_good (sized_job (job_held l.stars) (sizes_lent l.sizes)) (plan_drawn l.plan)) (up_from (4 + l.i) (l.stars.count - l.i)) ≡ all (room_good (sized_job (job_held l.stars) (sizes_lent l.sizes)) (plan_drawn l.plan)) (rooms (job_held l.stars))
