use native.Mathlib.Omega.{arith}
use borrow.Author.Rules.{rules}
use Rattle.floor.specs.JobTexts.{digit}
use Rattle.job_texts.proofs.Said.{no_digit, digit_said}
use Rattle.job_texts.proofs.values.with_digit.Goals as goal

pub returns-then-not-is_ascii_digit : goal.returns-then-not-is_ascii_digit
unfolding digit
returns-then-not-is_ascii_digit c = λ t. search (no_digit, rules)

pub returns : goal.returns
unfolding digit
returns c = λ t. rw c.ok.ensures.value (digit_said _ _ t _ _ c.try_from.ensures (omega arith) (search rules))
