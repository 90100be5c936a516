use Prim.Native.Nat.{◌+◌, ◌-◌}
use mathlib.Core.Path.{◌≡◌}
use Rattle.stars.specs.Rooms.{all_from}
use Rattle.stars.specs.Held.{stars_in, job_in, star_answers}
use Rattle.stars.proofs.held.Held.answered.Given as goal

abbrev pub invariant-loop-i : goal.invariant-loop-i
invariant-loop-i l =
    all_from (star_answers (job_in l.self.count l.self.ends.now l.self.nbr.now l.self.kind.now)) (4 + l.i) (stars_in (l.self.count - l.i) l.i l.self.ends.now l.self.nbr.now l.self.kind.now)
    ≡ all_from (star_answers (job_in l.self.count l.self.ends.now l.self.nbr.now l.self.kind.now)) 4 (job_in l.self.count l.self.ends.now l.self.nbr.now l.self.kind.now)
