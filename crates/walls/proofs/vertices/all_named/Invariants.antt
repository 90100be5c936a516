use Prim.Native.Nat.{◌-◌}
use mathlib.Core.Path.{◌≡◌}
use Rattle.stars.specs.Held.{stars_in, job_in}
use Rattle.walls.specs.Jobs.{named}
use Rattle.walls.proofs.vertices.all_named.Given as goal

abbrev pub invariant-loop-i : goal.invariant-loop-i
invariant-loop-i l =
    named l.sides (stars_in (l.stars.count - l.i) l.i l.stars.ends.now l.stars.nbr.now l.stars.kind.now) ≡ named l.sides (job_in l.stars.count l.stars.ends.now l.stars.nbr.now l.stars.kind.now)
