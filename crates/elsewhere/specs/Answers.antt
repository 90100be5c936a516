-- What is answered, in the words of the theory. Assumes nothing.
use Rattle.std.specs.Prelude.{Bool, Result, Ok, Err}
use Rattle.floor.specs.Foreign.{Verdict, refuses, answers}
use Rattle.refusals.specs.declared.Refusal.{Refusal}
use Rattle.refusals.specs.Numbers.{number_of}

-- WHAT AN ANSWER SAYS: a refusal's number, or yes or no
unfoldable pub verdict : Result Bool Refusal → Verdict
verdict (Err k) = refuses (number_of k)
verdict (Ok b) = answers b
