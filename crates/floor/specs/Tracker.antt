-- What a program that keeps no board asks of a job's bytes: the calls of a board, made one behind the other on an empty one. Assumes nothing.
use Rattle.std.specs.Prelude.{ℕ, ◌+◌, ◌*◌, cond, List, length, leb}
use Rattle.floor.specs.Jobs.{raw_star}
use Rattle.floor.specs.Plans.{Touch, clear, wall}
use Rattle.floor.specs.Calls.{empty, Board, Call, loads, turns, touches, writes_job, writes_plan, lent, Reply, refusal, done, spans, touch, wrote, Step}
use Rattle.floor.specs.Calls.{narrows, made, refuse, writes, step, says, writes_register, writes_cuts}

-- a call made behind one with this reply: none is made behind a refused one, and its number stands
unfoldable pub behind : Reply → Board → Call → Step
behind (refusal k) b c = refuse b k (lent c)
behind done b c = step b c
behind (spans r) b c = step b c
behind (touch t) b c = step b c
behind (says t) b c = step b c
behind (wrote n) b c = step b c
behind (made n) b c = step b c

-- a call made behind another
unfoldable pub then : Step → Call → Step
then s c = behind s.reply s.board c

-- THE PLAN OF A JOB, written to a lent buffer
unfoldable pub plan_of_job : List ℕ → List ℕ → Step
plan_of_job bs buf = then (step empty (loads bs)) (writes_plan buf)

-- THE TURNED JOB OF A JOB, written to a lent buffer
unfoldable pub turned_of_job : List ℕ → ℕ → ℕ → List ℕ → Step
turned_of_job bs u v buf = then (then (step empty (loads bs)) (turns u v)) (writes_job buf)

-- what a writing tells in the stead of its length; where it is refused its number stands
unfoldable pub instead : Reply → Reply → Reply
instead (refusal k) r = refusal k
instead done r = r
instead (spans x) r = r
instead (touch t) r = r
instead (says t) r = r
instead (wrote n) r = r
instead (made n) r = r

-- a call, and the job then held written to a lent buffer: what the call tells is told
unfoldable pub told_written : Step → List ℕ → Step
told_written s buf = record {
  board = (then s (writes_job buf)).board;
  reply = instead (then s (writes_job buf)).reply s.reply;
  buffer = (then s (writes_job buf)).buffer;
}

-- THE NARROWED JOB OF A JOB, written to a lent buffer; how many turns were made is told
unfoldable pub narrowed_of_job : List ℕ → List ℕ → Step
narrowed_of_job bs buf = told_written (then (step empty (loads bs)) narrows) buf

-- HOW TWO VERTICES OF A JOB TOUCH
unfoldable pub touch_of_job : List ℕ → ℕ → ℕ → Step
touch_of_job bs u v = then (step empty (loads bs)) (touches u v)

-- THE WALLS OF A JOB'S PLAN, written to a lent buffer
unfoldable pub walls_of_job : List ℕ → List ℕ → Step
walls_of_job bs buf = then (step empty (loads bs)) (writes_register buf)

-- THE CUTS OF A JOB'S PLAN, written to a lent buffer
unfoldable pub cuts_of_job : List ℕ → List ℕ → Step
cuts_of_job bs buf = then (step empty (loads bs)) (writes_cuts buf)

-- THE STAR OF A ROOM in raw job bytes, written to a lent buffer; no bytes where there is no such room
unfoldable pub star_of_job : List ℕ → ℕ → List ℕ → Step
star_of_job bs room buf = writes empty (leb (length (raw_star bs room)) (length buf)) (raw_star bs room) buf

-- a touch as one number: 0 for no wall; else four times the shared length, plus the side
unfoldable pub touch_code : Touch → ℕ
touch_code clear = 0
touch_code (wall k n) = 4 * n + k

-- AN ANSWER AS ONE NUMBER: a refusal is its own number, below 256; from 256 on it is a length that was written, a number of turns made, a touch as one
-- number, or 1 for yes and 0 for no
unfoldable pub code : Reply → ℕ
code (refusal k) = k
code done = 256
code (spans r) = 256
code (touch t) = 256 + touch_code t
code (says t) = 256 + cond t 1 0
code (wrote n) = 256 + n
code (made n) = 256 + n
