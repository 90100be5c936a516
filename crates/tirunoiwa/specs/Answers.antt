-- What is answered to a job's bytes. Assumes nothing.
use Rattle.std.specs.Prelude.{ℕ, ◌+◌, ◌<◌, ◌^◌, ◌≡◌, List, Result}
use Rattle.floor.specs.Calls.{Reply, refusal, done, spans, touch, says, wrote, made, Step}
use Rattle.refusals.specs.declared.Refusal.{Refusal}
use Rattle.board.specs.declared.Reply.{Reply as Said}
use Rattle.board.specs.Boards.{reply_of}

-- a length or a number of turns that a reply tells, told as 256 more, is below 2 ^ 64
abbrev pub Fitting : Reply → Type 0
Fitting (refusal k) = Unit {0}
Fitting done = Unit {0}
Fitting (spans r) = Unit {0}
Fitting (touch t) = Unit {0}
Fitting (says t) = Unit {0}
Fitting (wrote n) = 256 + n < 2 ^ 64
Fitting (made n) = 256 + n < 2 ^ 64

-- AN ANSWER'S PROMISE: reply and every byte of the lent buffer are those of a step of the rules, and the reply has a number
pub record Gives (r : Result Said Refusal) (x : List ℕ) (s : Step) : Type 0 where
  pub reply : reply_of r ≡ s.reply
  pub buffer : x ≡ s.buffer
  pub fits : Fitting s.reply
