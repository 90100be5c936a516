use Prim.Native.Nat.{◌-◌}
use mathlib.Core.Path.{◌≡◌}
use lib.ListN.{length}
use Rattle.stars.specs.Held.{cells}
use Rattle.job_texts.specs.Writes.{more_text}
use Rattle.job_texts.proofs.Put.{Left}
use Rattle.job_texts.proofs.write.put_more.Given as goal

abbrev pub invariant-loop-k : goal.invariant-loop-k
invariant-loop-k l = (length l.out ≡ length l.initial.out) × Left l.initial.out l.at (more_text (cells (l.end - l.from) l.from l.stars.nbr.now l.stars.kind.now)) l.out l.next (more_text (cells (l.end - l.k) l.k l.stars.nbr.now l.stars.kind.now))
