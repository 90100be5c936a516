use Prim.Native.Nat.{◌-◌}
use mathlib.Core.Path.{◌≡◌}
use Rattle.stars.specs.Held.{cells, job_in, star_answers}
use Rattle.stars.proofs.held.Held.part_answered.Given as goal

abbrev pub invariant-loop-k : goal.invariant-loop-k
invariant-loop-k l =
    star_answers (job_in l.self.count l.self.ends.now l.self.nbr.now l.self.kind.now) l.u (cells (l.end - l.k) l.k l.self.nbr.now l.self.kind.now)
    ≡ star_answers (job_in l.self.count l.self.ends.now l.self.nbr.now l.self.kind.now) l.u (cells (l.end - l.from) l.from l.self.nbr.now l.self.kind.now)
