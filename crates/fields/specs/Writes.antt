-- What writing some bytes to a lent buffer answers, and what it leaves there. Assumes nothing.
use Rattle.std.specs.Prelude.{ℕ, List, length, leb, Result, Ok, Err}
use Rattle.floor.specs.Calls.{empty, Reply, refusal, wrote, Step, writes}
use Rattle.refusals.specs.declared.Refusal.{Refusal}
use Rattle.refusals.specs.Numbers.{number_of}

-- what an answer to a writing says
unfoldable pub replied : Result ℕ Refusal → Reply
replied (Ok n) = wrote n
replied (Err k) = refusal (number_of k)

-- some bytes written to a buffer, as the calls that write do; the board plays no part
unfoldable pub writing : List ℕ → List ℕ → Step
writing bs buf = writes empty (leb (length bs) (length buf)) bs buf
