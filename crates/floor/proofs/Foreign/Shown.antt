-- Plans drawn elsewhere, by computation. Assumes nothing.
use Rattle.std.specs.Prelude.{ℕ, ◌≡◌, refl, Bool, true, false, cond, not, List, [], ◌∷◌, ◌++◌, eqb}
use Rattle.floor.specs.Lists.{all, any, keep, pairwise, sum, up_from}
use Rattle.floor.specs.Fields.{read_field, rest_of, after_fields}
use Rattle.floor.specs.Jobs.{links_to, links, changes, goes_on, opposite, frame_kind, rooms, is_vertex, is_room, star_of, names, lists, list_of, pairs_in, test2}
use Rattle.floor.specs.Jobs.{test3, entry_ok, test4, star_ok, test5, test6, entries, star_then, read_stars, read_rest, read_rooms, read_first, read_job, passing}
use Rattle.floor.specs.Jobs.{first_six, size_of, size_ok, larger, test17, size_pairs, sizes_in, read_sizes, sizes_pass}
use Rattle.floor.specs.Plans.{rect_of, inside, overlap, on_line, facing}
use Rattle.floor.specs.Foreign.{rect_from, rect_then, read_rects, on_sheet, plan_first, read_plan, framed, between, large, stands_on, star_stands, abut_on, corner_on}
use Rattle.floor.specs.Foreign.{step_on, star_round, in_corner, one_in_corner, room_good, good_for, Verdict, refuses, answers, judge_plan, judge_read, judged}
use Rattle.floor.proofs.Examples.{p1, p5, p6, plan_p1, sized5}

-- PLANS DRAWN ELSEWHERE: P5 with other proportions, room 4 up to x, room 5 from y on
stretched : ℕ → ℕ → List ℕ
stretched x y =
    3 ∷ 0 ∷ 2 ∷ 9 ∷ 7
    ∷ 4 ∷ 0 ∷ 5 ∷ 0 ∷ 2 ∷ 5 ∷ 8 ∷ 7 ∷ 4 ∷ 0 ∷ 5 ∷ 1 ∷ 0 ∷ 0 ∷ 2 ∷ 7
    ∷ 4 ∷ 0 ∷ 5 ∷ 2 ∷ 2 ∷ 0 ∷ 8 ∷ 1 ∷ 4 ∷ 0 ∷ 5 ∷ 3 ∷ 8 ∷ 0 ∷ 9 ∷ 7
    ∷ 4 ∷ 0 ∷ 5 ∷ 4 ∷ 2 ∷ 1 ∷ x ∷ 5 ∷ 4 ∷ 0 ∷ 5 ∷ 5 ∷ y ∷ 1 ∷ 8 ∷ 5 ∷ []

-- a job, a plan's bytes, and what is answered
pub record Judging : Type 0 where
  pub job : List ℕ
  pub plan : List ℕ
  pub answer : Verdict

-- jobs and plans, good and bad
pub judgings : List Judging
judgings =
    -- ours
    record { job = p1; plan = plan_p1; answer = answers true }
    ∷
    -- room 5 from 3 on, where 4 ends
    record { job = p5; plan = stretched 3 3; answer = answers true }
    ∷
    -- a gap between them, and one over the other
    record { job = p5; plan = stretched 3 4; answer = answers false }
    ∷ record { job = p5; plan = stretched 3 2; answer = answers false }
    ∷
    -- a rectangle reversed
    record { job = p5; plan = stretched 3 9; answer = answers false }
    ∷
    -- room 4 at least 3 wide: it is not, and it is
    record { job = sized5; plan = stretched 4 4; answer = answers false }
    ∷ record { job = sized5; plan = stretched 5 5; answer = answers true }
    ∷
    -- a job that 9 refuses has no good plan
    record { job = p6; plan = stretched 3 3; answer = answers false }
    ∷
    -- a plan of too many vertices, and a byte behind
    record { job = p1; plan = stretched 3 3; answer = refuses 16 }
    ∷ record { job = p1; plan = plan_p1 ++ 0 ∷ []; answer = refuses 16 }
    ∷
    -- the job's own refusal first: nothing at all, and sizes of all ones
    record { job = []; plan = []; answer = refuses 1 }
    ∷ record { job = p5 ++ 7 ∷ 0 ∷ 4 ∷ 1 ∷ 1 ∷ 1 ∷ 1 ∷ []; plan = []; answer = refuses 17 } ∷ []

-- one verdict and another, alike
unfoldable pub alike : Verdict → Verdict → Bool
alike (refuses k) (refuses l) = eqb k l
alike (refuses k) (answers b) = false
alike (answers a) (refuses l) = false
alike (answers a) (answers b) = cond a b (not b)

-- each gets the answer beside it
pub judging_examples : all (λ g. alike (judged g.job g.plan) g.answer) judgings ≡ true
unfolding p1 p5 p6 plan_p1 sized5 stretched judgings alike all any keep pairwise sum up_from read_field rest_of after_fields links_to links changes goes_on opposite
    frame_kind rooms is_vertex is_room star_of names lists list_of pairs_in test2 test3 entry_ok test4 star_ok test5 test6 entries star_then read_stars read_rest
    read_rooms read_first read_job passing first_six size_of size_ok larger test17 size_pairs sizes_in read_sizes sizes_pass rect_of inside overlap on_line facing
    rect_from rect_then read_rects on_sheet plan_first read_plan framed between stands_on star_stands abut_on corner_on step_on star_round in_corner one_in_corner large room_good
    good_for judge_plan judge_read judged
judging_examples = refl
