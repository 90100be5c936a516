use Prim.Native.Nat.{◌<◌}
use mathlib.Core.Path.{◌≡◌}
use lib.ListN.{drop}
use Rattle.floor.specs.JobTexts.{digits_on, number_of, a_byte}
use Rattle.job_texts.proofs.values.number_of.Given as goal

abbrev pub invariant-loop-b : goal.invariant-loop-b
invariant-loop-b l = (l.n < 256) × (a_byte (digits_on l.n (drop l.b-index l.word)) ≡ a_byte (number_of l.word))
