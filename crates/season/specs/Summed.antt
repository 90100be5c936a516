-- What sums tell, and the one number that a caller is told. Assumes nothing.
use Rattle.std.specs.Prelude.{ℕ, ◌+◌, List, Result, Ok, Err}
use Rattle.floor.specs.Totals.{Season, refuses_all, tells}
use Rattle.refusals.specs.declared.Refusal.{Refusal}
use Rattle.refusals.specs.Numbers.{number_of}

-- WHAT SUMS TELL: the figures, where every wrapper could be read
unfoldable pub told : Result (List ℕ) Refusal → Season
told (Ok sums) = tells sums
told (Err k) = refuses_all (number_of k)

-- 256 more than how many figures are put, sixteen, or the number of the refusal
unfoldable pub one_number : Result (Unit {0}) Refusal → ℕ
one_number (Ok u) = 256 + 16
one_number (Err k) = number_of k
