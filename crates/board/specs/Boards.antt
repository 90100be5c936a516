-- What a board holds, and what a call hands back. Assumes nothing.
use Rattle.std.specs.Prelude.{ℕ, ◌+◌, ◌≡◌, true, cond, List, [], eqb, Result, Ok, Err}
use Rattle.floor.specs.Jobs.{Sizes, SizedJob, sized_job}
use Rattle.floor.specs.Plans.{Plan, Answer, refused, held, write_plan}
use Rattle.floor.specs.Registers.{write_register}
use Rattle.floor.specs.Cuts.{is_tree}
use Rattle.floor.specs.Calls.{Board, empty, holding, Call, loads, turns, narrows, rectangle, touches, writes_job, writes_plan, writes_register, slices, writes_cuts}
use Rattle.floor.specs.Calls.{Reply, refusal, done, spans, touch, says, wrote, made, Step, refuse, asks, step}
use Rattle.floor.specs.Narrow.{Search, nothing, pair}
use Rattle.refusals.specs.declared.Refusal.{Refusal}
use Rattle.refusals.specs.Numbers.{number_of}
use Rattle.fields.specs.Writes.{writing}
use Rattle.stars.specs.declared.Stars.{Stars}
use Rattle.stars.specs.Held.{job_of, no_stars, held_of}
use Rattle.stars.specs.Sized.{sizes_of, no_sizes, held_sizes}
use Rattle.drawing.specs.Rects.{rect_in, touch_in, plan_in, in_bytes, no_plan, held_plan}
use Rattle.drawing.specs.Drawn.{numbered_any, kept as plan_kept}
use Rattle.registers.specs.Sorting.{kept_walls}
use Rattle.registers.specs.Kept.{no_register, kept_register, register_in}
use Rattle.cuts.specs.Runs.{tree_bytes, cut_tree, writing as writing_cuts}
use Rattle.turns.specs.InPlace.{Swing, stops, swings, swing_of, two_put}
use Rattle.narrowing.specs.Slims.{turned_stars, tried, first_slims, Slimmer, slimmed}
use Rattle.board.specs.declared.Board.{Board as HeldBoard}
use Rattle.board.specs.declared.Reply.{Reply as Said}
use Rattle.board.specs.declared.Reply.TheVariants.{Done, Spans, Touched, Says, Wrote, Made}
use Rattle.board.specs.declared.Slim.{Slim}
use Rattle.board.specs.declared.Step.{Step as Handed}

-- THE BOARD AS A LOAD LEAVES IT: the stars of the job and its least sizes, the rectangles of the plan, and its walls, counted from it
unfoldable pub board_for : SizedJob → Plan → HeldBoard
board_for o p = record { stars = held_of o.stars; sizes = held_sizes o.sizes; plan = held_plan p; register = kept_register (kept_walls p) }

-- the board at first: nothing is held
unfoldable pub no_board : HeldBoard
no_board = record { stars = no_stars; sizes = no_sizes; plan = no_plan; register = no_register }

-- the job of a board's stars and least sizes
unfoldable pub held_job : HeldBoard → SizedJob
held_job b = sized_job (job_of b.stars) (sizes_of b.sizes)

-- WHAT A BOARD HOLDS, whatever stands in it: nothing where it has no room, and else the job of its stars and sizes, and its plan
unfoldable pub board_of : HeldBoard → Board
board_of b = cond (eqb b.stars.count 0) empty (holding (held_job b) (plan_in b.plan))

-- the board that is kept of a job planned: none where it is refused
unfoldable pub kept : Answer → HeldBoard
kept (refused k) = no_board
kept (held o p) = board_for o p

-- what a job planned says: the job and the plan of its board, held, or the number of the test that fails
unfoldable pub said : Result HeldBoard Refusal → Answer
said (Ok b) = held (held_job b) (plan_in b.plan)
said (Err k) = refused (number_of k)

-- a job planned tells what loading it comes to, and gives the very board that is kept of it
pub record Plans (r : Result HeldBoard Refusal) (x : Answer) : Type 0 where
  pub says : said r ≡ x
  pub keeps : (b : HeldBoard) → r ≡ Ok b → b ≡ kept x

-- WHAT A REPLY SAYS: a refusal's number, done, the rectangle, how two touch, yes or no, the length written, the turns made
unfoldable pub reply_of : Result Said Refusal → Reply
reply_of (Err k) = refusal (number_of k)
reply_of (Ok Done) = done
reply_of (Ok (Spans r)) = spans (rect_in r)
reply_of (Ok (Touched t)) = touch (touch_in t)
reply_of (Ok (Says t)) = says t
reply_of (Ok (Wrote n)) = wrote n
reply_of (Ok (Made n)) = made n

-- the board that comes back from a call: a new one where a job and plan are newly held, and else the very board that went in
unfoldable pub handed : HeldBoard → Reply → Board → HeldBoard
handed b done (holding o p) = board_for o p
handed b done empty = b
handed b (refusal k) c = b
handed b (spans r) c = b
handed b (touch t) c = b
handed b (says t) c = b
handed b (wrote n) c = b
handed b (made n) (holding o p) = board_for o p
handed b (made n) empty = b

-- what comes back from a call: the board, the answer, and the bytes of the lent buffer
pub record Outcome : Type 0 where
  pub board : HeldBoard
  pub reply : Reply
  pub buffer : List ℕ

-- as a step of the rules says
unfoldable pub as_rules : HeldBoard → Step → Outcome
as_rules b s = record { board = handed b s.reply s.board; reply = s.reply; buffer = s.buffer }

-- the very board, and a refusal
unfoldable pub staying : HeldBoard → ℕ → Outcome
staying b k = record { board = b; reply = refusal k; buffer = [] }

-- the same, as it is handed back
abbrev pub stayed : HeldBoard → Refusal → Handed
stayed b k = record { board = b; reply = Err k }

-- these stars numbered: held with the sizes as they were, their plan and its walls, counted afresh, or all stays as it was
unfoldable pub newly : HeldBoard → Stars → Answer → Outcome
newly b s (refused k) = staying b k
newly b s (held o p) =
    record { board = record { stars = s; sizes = b.sizes; plan = held_plan p; register = kept_register (kept_walls p) }; reply = done; buffer = [] }

-- a contact turned where it stands, and the stars numbered afresh: the plan of what calls reach needs no test but 18
unfoldable pub turned_to : HeldBoard → Swing → Outcome
turned_to b (stops k) = staying b k
turned_to b (swings u v t) = newly b (two_put b.stars u v t) (numbered_any (sized_job (job_of (two_put b.stars u v t)) (sizes_of b.sizes)))

-- what is held while a floor is narrowed
abbrev pub slim_in : Slim → Slimmer
slim_in r = record { stars = r.stars; plan = r.plan; turns = r.turns }

-- after a search: the pair that it found turned, and one turn more; else all as it was
unfoldable pub swung_slim : Sizes → Slimmer → Search → Slimmer
swung_slim z r nothing = r
swung_slim z r (pair u v) = record { stars = turned_stars r.stars u v; plan = plan_kept (tried r.stars z u v); turns = r.turns + 1 }

-- one round
unfoldable pub once_slim : Sizes → Slimmer → Slimmer
once_slim z r = swung_slim z r (first_slims r.stars z r.plan)

-- every round, and the turns made before added to theirs
unfoldable pub slimmed_on : Sizes → Slimmer → Slimmer
slimmed_on z r =
    let s : Slimmer = slimmed r.stars z r.plan in
    record { stars = s.stars; plan = s.plan; turns = r.turns + s.turns }

-- stars and their plan held with the sizes as they were, and the plan's walls, counted afresh
unfoldable pub slim_board : HeldBoard → Slimmer → HeldBoard
slim_board b r = record { stars = r.stars; sizes = b.sizes; plan = r.plan; register = kept_register (kept_walls (plan_in r.plan)) }

-- a floor narrowed, and the number of turns made: the very board where none was, and else what the last of them left
unfoldable pub slimmed_to : HeldBoard → Slimmer → Outcome
slimmed_to b r = record { board = cond (eqb r.turns 0) b (slim_board b r); reply = made r.turns; buffer = [] }

-- ONE CALL ON ANY BOARD, whatever stands in it: of what it holds as the rules say; a contact is turned in the very stars, one or one after the other, of the plan
-- and of the register one byte of each number is written, and the cuts are those by the walls of the plan, of at most sixty rooms
unfoldable pub outcome : HeldBoard → Call → Outcome
outcome b (loads bs) = as_rules b (step (board_of b) (loads bs))
outcome b (turns u v) = cond (eqb b.stars.count 0) (staying b 10) (turned_to b (swing_of (job_of b.stars) u v))
outcome b narrows = cond (eqb b.stars.count 0) (staying b 10) (slimmed_to b (slimmed b.stars (sizes_of b.sizes) b.plan))
outcome b (rectangle v) = as_rules b (step (board_of b) (rectangle v))
outcome b (touches u v) = as_rules b (step (board_of b) (touches u v))
outcome b (writes_job buf) = as_rules b (step (board_of b) (writes_job buf))
outcome b (writes_plan buf) =
    as_rules b (cond (eqb b.stars.count 0) (refuse empty 10 buf) (writing (in_bytes (write_plan (plan_in b.plan))) buf))
outcome b (writes_register buf) =
    as_rules b (cond (eqb b.stars.count 0) (refuse empty 10 buf) (writing (in_bytes (write_register (register_in b.register))) buf))
outcome b slices = as_rules b (cond (eqb b.stars.count 0) (refuse empty 10 []) (asks empty true (says (is_tree (cut_tree (plan_in b.plan))))))
outcome b (writes_cuts buf) =
    as_rules b (cond (eqb b.stars.count 0) (refuse empty 10 buf) (writing_cuts (tree_bytes (cut_tree (plan_in b.plan))) buf))

-- A CALL'S PROMISE: reply, board and every byte of the lent buffer are those of the outcome
pub record Tells (r : Handed) (buf : List ℕ) (s : Outcome) : Type 0 where
  pub reply : reply_of r.reply ≡ s.reply
  pub board : r.board ≡ s.board
  pub buffer : buf ≡ s.buffer
