-- The answer to a job and a plan drawn elsewhere, as one number and as what the checking program prints. Assumes nothing.
use Rattle.std.specs.Prelude.{ℕ, ◌+◌, ◌*◌, true, false, cond, List, [], ◌∷◌, ◌++◌, length, get_or, take, drop, leb}
use Rattle.floor.specs.Quoted.{plain}
use Rattle.floor.specs.Foreign.{Verdict, refuses, answers, judged}
use Rattle.floor.specs.Texts.{line, refused_word, too_long}

-- A VERDICT AS ONE NUMBER: a refusal is its own number, below 256; yes is 257 and no is 256
unfoldable pub verdict_code : Verdict → ℕ
verdict_code (refuses k) = k
verdict_code (answers b) = 256 + cond b 1 0

-- what is said of a plan that is good
unfoldable pub yes_line : List ℕ
yes_line = plain "yes\n"

-- what is said of one that is not
unfoldable pub no_line : List ℕ
no_line = plain "no\n"

-- a verdict on a line: yes, no, or the number of the refusal
unfoldable pub verdict_text : Verdict → List ℕ
verdict_text (refuses k) = refused_word ++ line (k ∷ [])
verdict_text (answers true) = yes_line
verdict_text (answers false) = no_line

-- the length of the job in front of a plan: two bytes, high byte first
unfoldable pub job_length : List ℕ → ℕ
job_length bs = 256 * get_or bs 0 0 + get_or bs 1 0

-- a job behind its length, and then a plan; the job is refused by 1 where it is cut short
unfoldable pub judged_together : List ℕ → Verdict
judged_together bs =
    let n : ℕ = job_length bs in
    cond (leb (2 + n) (length bs)) (judged (take n (drop 2 bs)) (drop (2 + n) bs)) (refuses 1)

-- WHAT THE CHECKING PROGRAM PRINTS for some input
unfoldable pub check_listing : List ℕ → List ℕ
check_listing bs = cond (leb (length bs) 16384) (verdict_text (judged_together bs)) too_long
