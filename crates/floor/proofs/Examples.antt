-- THE EXAMPLES P1 TO P12, some with least sizes, and some questions and writings, as one table under one claim. Assumes nothing.
use Rattle.std.specs.Prelude.{ℕ, ◌+◌, ◌-◌, ◌≡◌, refl, Bool, true, cond, List, [], ◌∷◌, ◌++◌, map, eqb, replicate}
use Rattle.floor.specs.Lists.{all, any, keep, pairwise, sum, same_numbers, up_from}
use Rattle.floor.specs.Fields.{read_field, rest_of, write_field, after_fields}
use Rattle.floor.specs.Jobs.{links_to, links, changes, goes_on, Star, Job, opposite, frame_kind, rooms, is_vertex, is_room, star_of, names, lists, kind_of}
use Rattle.floor.specs.Jobs.{list_of, pairs_in, test2, test3, entry_ok, test4, star_ok, test5, test6, entries, star_then, read_stars, read_rest, read_rooms}
use Rattle.floor.specs.Jobs.{read_first, read_job, passing, first_six, star_bytes, write_stars, write_job, SizedJob, sized_job, size_of, size_ok, larger, test17}
use Rattle.floor.specs.Jobs.{size_pairs, sizes_in, read_sizes, sizes_pass, with_sizes, size_bytes, write_sizes, write_sized}
use Rattle.floor.specs.Walls.{entry_rules, star_rules, rules_from, raise, relax1, relax, meets, over, passes, numbers_of, job_numbers, extra, top_of}
use Rattle.floor.specs.Plans.{Rect, rect_of, room_rect, plan_of, inside, overlap, abut, apart, area, corner, next_side, joined, shares_joined, follows}
use Rattle.floor.specs.Plans.{in_order, round_in_order, drawable, past, tested, planned, drawn, draw_read, rect_bytes, write_rects, write_plan, is_wall, on_line}
use Rattle.floor.specs.Plans.{facing, touch_on, touch_of, clear, wall, test18}
use Rattle.floor.specs.Registers.{low_side, high_side, wide_of, long_of, sides_in, room_sides, built, starts, end_from, between, partition, walls_on, walls_of}
use Rattle.floor.specs.Registers.{register_of, register, partition_bytes, write_register}
use Rattle.floor.specs.Cuts.{low_part, high_part, crosses, uncrossed, first_of, first_cut, choice, chosen, both, divided, grow, span, tree_of, way_byte}
use Rattle.floor.specs.Cuts.{write_tree, rooms_of, inner, plan_tree, is_tree}
use Rattle.floor.specs.Turns.{turned_kind, with_kind, ends_at, is_last, turned, turning_at, turning_from, in_contact, turning, turn}
use Rattle.floor.specs.Narrow.{stacked, narrower, turn_narrows, or_else, first_with, first_pair, turn_found, narrow_once, onward, rounds, narrowed}
use Rattle.floor.specs.Calls.{Board, empty, holding, Call, loads, turns, rectangle, writes_job, writes_plan, Reply, refusal, done, spans, wrote, Step, load}
use Rattle.floor.specs.Calls.{narrows, made, slims, refuse, after, asks, writes, step, run, touches, touch, touching, writes_register, slices, writes_cuts}
use Rattle.floor.specs.Calls.{says, writes_tree}

-- P1: one room
unfoldable pub p1 : List ℕ
p1 =
    1 ∷ 0 ∷ 1 ∷ 1
    ∷ 2 ∷ 0 ∷ 8 ∷ 0 ∷ 0 ∷ 1 ∷ 1 ∷ 2 ∷ 2 ∷ 3 ∷ 3 ∷ []

-- P5: rooms 4 and 5 side by side
unfoldable pub p5 : List ℕ
p5 =
    1 ∷ 0 ∷ 1 ∷ 2
    ∷ 2 ∷ 0 ∷ 8 ∷ 0 ∷ 0 ∷ 1 ∷ 1 ∷ 2 ∷ 2 ∷ 5 ∷ 3
    ∷ 2 ∷ 0 ∷ 8 ∷ 0 ∷ 0 ∷ 4 ∷ 1 ∷ 2 ∷ 2 ∷ 3 ∷ 3 ∷ []

-- P6: both rooms list N, W, S, E only
unfoldable pub p6 : List ℕ
p6 =
    1 ∷ 0 ∷ 1 ∷ 2
    ∷ 2 ∷ 0 ∷ 8 ∷ 0 ∷ 0 ∷ 1 ∷ 1 ∷ 2 ∷ 2 ∷ 3 ∷ 3
    ∷ 2 ∷ 0 ∷ 8 ∷ 0 ∷ 0 ∷ 1 ∷ 1 ∷ 2 ∷ 2 ∷ 3 ∷ 3 ∷ []

-- P7: rooms 4, 5, 6, each right of the one before, 4 right of 6
unfoldable pub p7 : List ℕ
p7 =
    1 ∷ 0 ∷ 1 ∷ 3
    ∷ 2 ∷ 0 ∷ 8 ∷ 0 ∷ 0 ∷ 6 ∷ 1 ∷ 2 ∷ 2 ∷ 5 ∷ 3
    ∷ 2 ∷ 0 ∷ 8 ∷ 0 ∷ 0 ∷ 4 ∷ 1 ∷ 2 ∷ 2 ∷ 6 ∷ 3
    ∷ 2 ∷ 0 ∷ 8 ∷ 0 ∷ 0 ∷ 5 ∷ 1 ∷ 2 ∷ 2 ∷ 4 ∷ 3 ∷ []

-- the job F
unfoldable pub job_f : List ℕ
job_f =
    1 ∷ 0 ∷ 1 ∷ 4
    ∷ 2 ∷ 0 ∷ 8 ∷ 0 ∷ 0 ∷ 1 ∷ 1 ∷ 6 ∷ 2 ∷ 5 ∷ 3
    ∷ 2 ∷ 0 ∷ 10 ∷ 0 ∷ 0 ∷ 4 ∷ 1 ∷ 6 ∷ 1 ∷ 7 ∷ 2 ∷ 3 ∷ 3
    ∷ 2 ∷ 0 ∷ 10 ∷ 4 ∷ 0 ∷ 1 ∷ 1 ∷ 2 ∷ 2 ∷ 7 ∷ 3 ∷ 5 ∷ 3
    ∷ 2 ∷ 0 ∷ 8 ∷ 5 ∷ 0 ∷ 6 ∷ 1 ∷ 2 ∷ 2 ∷ 3 ∷ 3 ∷ []

-- F with each star started elsewhere: below, inside the left-list, inside the right-list, at the right
job_g : List ℕ
job_g =
    1 ∷ 0 ∷ 1 ∷ 4
    ∷ 2 ∷ 0 ∷ 8 ∷ 6 ∷ 2 ∷ 5 ∷ 3 ∷ 0 ∷ 0 ∷ 1 ∷ 1
    ∷ 2 ∷ 0 ∷ 10 ∷ 6 ∷ 1 ∷ 7 ∷ 2 ∷ 3 ∷ 3 ∷ 0 ∷ 0 ∷ 4 ∷ 1
    ∷ 2 ∷ 0 ∷ 10 ∷ 5 ∷ 3 ∷ 4 ∷ 0 ∷ 1 ∷ 1 ∷ 2 ∷ 2 ∷ 7 ∷ 3
    ∷ 2 ∷ 0 ∷ 8 ∷ 3 ∷ 3 ∷ 5 ∷ 0 ∷ 6 ∷ 1 ∷ 2 ∷ 2 ∷ []

-- the same after the turn of 5 and 6: two kinds are changed, and no entry has moved
turned_g : List ℕ
turned_g =
    1 ∷ 0 ∷ 1 ∷ 4
    ∷ 2 ∷ 0 ∷ 8 ∷ 6 ∷ 2 ∷ 5 ∷ 3 ∷ 0 ∷ 0 ∷ 1 ∷ 1
    ∷ 2 ∷ 0 ∷ 10 ∷ 6 ∷ 2 ∷ 7 ∷ 2 ∷ 3 ∷ 3 ∷ 0 ∷ 0 ∷ 4 ∷ 1
    ∷ 2 ∷ 0 ∷ 10 ∷ 5 ∷ 0 ∷ 4 ∷ 0 ∷ 1 ∷ 1 ∷ 2 ∷ 2 ∷ 7 ∷ 3
    ∷ 2 ∷ 0 ∷ 8 ∷ 3 ∷ 3 ∷ 5 ∷ 0 ∷ 6 ∷ 1 ∷ 2 ∷ 2 ∷ []

-- one room with its star as it is given
one_room : List ℕ → List ℕ
one_room s = 1 ∷ 0 ∷ 1 ∷ 1 ∷ write_field 2 s

-- room 4 below 5 (left) and 6 (right), with the star of 4 as it is given
below : List ℕ → List ℕ
below s =
    1 ∷ 0 ∷ 1 ∷ 3
    ∷ (write_field 2 s ++ 2 ∷ 0 ∷ 8 ∷ 0 ∷ 0 ∷ 1 ∷ 1 ∷ 4 ∷ 2 ∷ 6 ∷ 3 ∷ 2 ∷ 0 ∷ 8 ∷ 0 ∷ 0 ∷ 5 ∷ 1 ∷ 4 ∷ 2 ∷ 3 ∷ 3 ∷ [])

-- P10: F without the contact of 5 and 6
p10 : List ℕ
p10 =
    1 ∷ 0 ∷ 1 ∷ 4
    ∷ 2 ∷ 0 ∷ 8 ∷ 0 ∷ 0 ∷ 1 ∷ 1 ∷ 6 ∷ 2 ∷ 5 ∷ 3
    ∷ 2 ∷ 0 ∷ 8 ∷ 0 ∷ 0 ∷ 4 ∷ 1 ∷ 7 ∷ 2 ∷ 3 ∷ 3
    ∷ 2 ∷ 0 ∷ 8 ∷ 4 ∷ 0 ∷ 1 ∷ 1 ∷ 2 ∷ 2 ∷ 7 ∷ 3
    ∷ 2 ∷ 0 ∷ 8 ∷ 5 ∷ 0 ∷ 6 ∷ 1 ∷ 2 ∷ 2 ∷ 3 ∷ 3 ∷ []

-- P5 with least sizes: 4 is at least 3 wide
unfoldable pub sized5 : List ℕ
sized5 = p5 ++ 7 ∷ 0 ∷ 4 ∷ 3 ∷ 1 ∷ 1 ∷ 1 ∷ []

-- F with least sizes: 5 at least 4 high, 7 at least 3 wide
sized_f : List ℕ
sized_f = job_f ++ 7 ∷ 0 ∷ 8 ∷ 1 ∷ 1 ∷ 1 ∷ 4 ∷ 1 ∷ 1 ∷ 3 ∷ 1 ∷ []

-- 1 room at x 1..2, y 1..2, sheet 3 by 3
floor_p1 : List ℕ
floor_p1 =
    3 ∷ 3
    ∷ 0 ∷ 1 ∷ 2 ∷ 2 ∷ 3 ∷ 1 ∷ 0 ∷ 0 ∷ 1 ∷ 3 ∷ 2 ∷ 1 ∷ 0 ∷ 2 ∷ 1 ∷ 3 ∷ 2 ∷ 0 ∷ 3 ∷ 3
    ∷ 4 ∷ 1 ∷ 1 ∷ 2 ∷ 2 ∷ []

-- sheet 4 by 3; 5 is x 2..3
floor_p5 : List ℕ
floor_p5 =
    4 ∷ 3
    ∷ 0 ∷ 1 ∷ 2 ∷ 3 ∷ 3 ∷ 1 ∷ 0 ∷ 0 ∷ 1 ∷ 3 ∷ 2 ∷ 1 ∷ 0 ∷ 3 ∷ 1 ∷ 3 ∷ 3 ∷ 0 ∷ 4 ∷ 3
    ∷ 4 ∷ 1 ∷ 1 ∷ 2 ∷ 2
    ∷ 5 ∷ 2 ∷ 1 ∷ 3 ∷ 2 ∷ []

-- the plan of F
floor_f : List ℕ
floor_f =
    4 ∷ 5
    ∷ 0 ∷ 1 ∷ 4 ∷ 3 ∷ 5 ∷ 1 ∷ 0 ∷ 0 ∷ 1 ∷ 5 ∷ 2 ∷ 1 ∷ 0 ∷ 3 ∷ 1 ∷ 3 ∷ 3 ∷ 0 ∷ 4 ∷ 5
    ∷ 4 ∷ 1 ∷ 3 ∷ 2 ∷ 4
    ∷ 5 ∷ 2 ∷ 2 ∷ 3 ∷ 4
    ∷ 6 ∷ 1 ∷ 1 ∷ 2 ∷ 3
    ∷ 7 ∷ 2 ∷ 1 ∷ 3 ∷ 2 ∷ []

-- F, then turn 5 and 6
turned_f : List ℕ
turned_f =
    5 ∷ 4
    ∷ 0 ∷ 1 ∷ 3 ∷ 4 ∷ 4 ∷ 1 ∷ 0 ∷ 0 ∷ 1 ∷ 4 ∷ 2 ∷ 1 ∷ 0 ∷ 4 ∷ 1 ∷ 3 ∷ 4 ∷ 0 ∷ 5 ∷ 4
    ∷ 4 ∷ 1 ∷ 2 ∷ 2 ∷ 3
    ∷ 5 ∷ 2 ∷ 2 ∷ 4 ∷ 3
    ∷ 6 ∷ 1 ∷ 1 ∷ 3 ∷ 2
    ∷ 7 ∷ 3 ∷ 1 ∷ 4 ∷ 2 ∷ []

-- 4 is x 1..4, 5 is x 4..5
floor_sized5 : List ℕ
floor_sized5 =
    6 ∷ 3
    ∷ 0 ∷ 1 ∷ 2 ∷ 5 ∷ 3 ∷ 1 ∷ 0 ∷ 0 ∷ 1 ∷ 3 ∷ 2 ∷ 1 ∷ 0 ∷ 5 ∷ 1 ∷ 3 ∷ 5 ∷ 0 ∷ 6 ∷ 3
    ∷ 4 ∷ 1 ∷ 1 ∷ 4 ∷ 2
    ∷ 5 ∷ 4 ∷ 1 ∷ 5 ∷ 2 ∷ []

-- the plan of F with least sizes
floor_sized_f : List ℕ
floor_sized_f =
    6 ∷ 7
    ∷ 0 ∷ 1 ∷ 6 ∷ 5 ∷ 7 ∷ 1 ∷ 0 ∷ 0 ∷ 1 ∷ 7 ∷ 2 ∷ 1 ∷ 0 ∷ 5 ∷ 1 ∷ 3 ∷ 5 ∷ 0 ∷ 6 ∷ 7
    ∷ 4 ∷ 1 ∷ 3 ∷ 2 ∷ 6
    ∷ 5 ∷ 2 ∷ 2 ∷ 5 ∷ 6
    ∷ 6 ∷ 1 ∷ 1 ∷ 2 ∷ 3
    ∷ 7 ∷ 2 ∷ 1 ∷ 5 ∷ 2 ∷ []

-- the same, then turn 5 and 6
turned_sized_f : List ℕ
turned_sized_f =
    7 ∷ 7
    ∷ 0 ∷ 1 ∷ 6 ∷ 6 ∷ 7 ∷ 1 ∷ 0 ∷ 0 ∷ 1 ∷ 7 ∷ 2 ∷ 1 ∷ 0 ∷ 6 ∷ 1 ∷ 3 ∷ 6 ∷ 0 ∷ 7 ∷ 7
    ∷ 4 ∷ 1 ∷ 2 ∷ 2 ∷ 6
    ∷ 5 ∷ 2 ∷ 2 ∷ 6 ∷ 6
    ∷ 6 ∷ 1 ∷ 1 ∷ 3 ∷ 2
    ∷ 7 ∷ 3 ∷ 1 ∷ 6 ∷ 2 ∷ []

-- the plan of P1 as bytes
unfoldable pub plan_p1 : List ℕ
plan_p1 =
    3 ∷ 0 ∷ 2 ∷ 3 ∷ 3
    ∷ 4 ∷ 0 ∷ 5 ∷ 0 ∷ 1 ∷ 2 ∷ 2 ∷ 3 ∷ 4 ∷ 0 ∷ 5 ∷ 1 ∷ 0 ∷ 0 ∷ 1 ∷ 3
    ∷ 4 ∷ 0 ∷ 5 ∷ 2 ∷ 1 ∷ 0 ∷ 2 ∷ 1 ∷ 4 ∷ 0 ∷ 5 ∷ 3 ∷ 2 ∷ 0 ∷ 3 ∷ 3
    ∷ 4 ∷ 0 ∷ 5 ∷ 4 ∷ 1 ∷ 1 ∷ 2 ∷ 2 ∷ []

-- the register of P1 as bytes
register_p1 : List ℕ
register_p1 =
    8 ∷ 0 ∷ 5 ∷ 0 ∷ 1 ∷ 1 ∷ 2 ∷ 1 ∷ 8 ∷ 0 ∷ 5 ∷ 0 ∷ 2 ∷ 1 ∷ 2 ∷ 1
    ∷ 8 ∷ 0 ∷ 5 ∷ 1 ∷ 1 ∷ 1 ∷ 2 ∷ 1 ∷ 8 ∷ 0 ∷ 5 ∷ 1 ∷ 2 ∷ 1 ∷ 2 ∷ 1 ∷ []

-- the register of F as bytes
register_f : List ℕ
register_f =
    8 ∷ 0 ∷ 5 ∷ 0 ∷ 1 ∷ 1 ∷ 4 ∷ 2 ∷ 8 ∷ 0 ∷ 5 ∷ 0 ∷ 2 ∷ 1 ∷ 4 ∷ 4 ∷ 8 ∷ 0 ∷ 5 ∷ 0 ∷ 3 ∷ 1 ∷ 4 ∷ 2
    ∷ 8 ∷ 0 ∷ 5 ∷ 1 ∷ 1 ∷ 1 ∷ 3 ∷ 2 ∷ 8 ∷ 0 ∷ 5 ∷ 1 ∷ 2 ∷ 2 ∷ 3 ∷ 2 ∷ 8 ∷ 0 ∷ 5 ∷ 1 ∷ 3 ∷ 1 ∷ 2 ∷ 2 ∷ 8 ∷ 0 ∷ 5 ∷ 1 ∷ 4 ∷ 1 ∷ 3 ∷ 2 ∷ []

-- the cuts of F as bytes: between the columns, then between the rooms of each
cuts_f : List ℕ
cuts_f =
    5 ∷ 0 ∷ 2 ∷ 0 ∷ 2 ∷ 5 ∷ 0 ∷ 2 ∷ 1 ∷ 3 ∷ 6 ∷ 0 ∷ 1 ∷ 6 ∷ 6 ∷ 0 ∷ 1 ∷ 4
    ∷ 5 ∷ 0 ∷ 2 ∷ 1 ∷ 2 ∷ 6 ∷ 0 ∷ 1 ∷ 7 ∷ 6 ∷ 0 ∷ 1 ∷ 5 ∷ []

-- four rooms in a whirl about a fifth: each line across them goes through a room
wheel : List ℕ
wheel =
    1 ∷ 0 ∷ 1 ∷ 5
    ∷ 2 ∷ 0 ∷ 10 ∷ 0 ∷ 0 ∷ 1 ∷ 1 ∷ 7 ∷ 2 ∷ 8 ∷ 2 ∷ 5 ∷ 3
    ∷ 2 ∷ 0 ∷ 10 ∷ 0 ∷ 0 ∷ 4 ∷ 1 ∷ 8 ∷ 1 ∷ 6 ∷ 2 ∷ 3 ∷ 3
    ∷ 2 ∷ 0 ∷ 10 ∷ 5 ∷ 0 ∷ 8 ∷ 0 ∷ 7 ∷ 1 ∷ 2 ∷ 2 ∷ 3 ∷ 3
    ∷ 2 ∷ 0 ∷ 10 ∷ 4 ∷ 0 ∷ 1 ∷ 1 ∷ 2 ∷ 2 ∷ 6 ∷ 3 ∷ 8 ∷ 3
    ∷ 2 ∷ 0 ∷ 8 ∷ 4 ∷ 0 ∷ 7 ∷ 1 ∷ 6 ∷ 2 ∷ 5 ∷ 3 ∷ []

-- the star of room v of n in a row: N above, to the left the room before or W, S below, to the right the room after or E
unfoldable pub row_star : ℕ → ℕ → Star
row_star n v =
    record { to = 0; kind = 0 } ∷ record { to = cond (eqb v 4) 1 (v - 1); kind = 1 } ∷ record { to = 2; kind = 2 }
    ∷ record { to = cond (eqb v (n + 3)) 3 (v + 1); kind = 3 } ∷ []

-- n rooms in a row
unfoldable pub row : ℕ → Job
row n = map (row_star n) (up_from 4 n)

-- the same, each at least 15 wide
unfoldable pub wide_row : ℕ → SizedJob
wide_row n = sized_job (row n) (replicate n (record { wide = 15; tall = 1 }))

-- the numbers of some rectangles
unfoldable pub numbers : List Rect → List ℕ
numbers [] = []
numbers (r ∷ rs) = rect_bytes r ++ numbers rs

-- the sheet and the rectangles that a board holds
unfoldable pub plan : Board → List ℕ
plan empty = []
plan (holding j p) = p.width ∷ p.height ∷ numbers p.rects

-- a refusal's number; the plan now held; a rectangle; side and length of a wall, or nothing; 1 for yes and 0 for no; the length written and the whole buffer;
-- the turns made and the plan
unfoldable pub told : Reply → Board → List ℕ → List ℕ
told (refusal k) b buf = k ∷ []
told done b buf = plan b
told (spans r) b buf = numbers (r ∷ [])
told (touch clear) b buf = []
told (touch (wall k n)) b buf = k ∷ n ∷ []
told (says t) b buf = cond t 1 0 ∷ []
told (wrote n) b buf = n ∷ buf
told (made n) b buf = n ∷ plan b

-- some calls on an empty board, then one more, and what it shows
pub record Row : Type 0 where
  pub before : List Call
  pub last : Call
  pub shows : List ℕ

-- the last call shows what the row says
unfoldable pub right : Row → Bool
right r =
    let s : Step = step (run empty r.before) r.last in
    same_numbers (told s.reply s.board s.buffer) r.shows

-- THE TABLE: P1 to P12, then questions, writings and refusals
pub table : List Row
table =
    -- P1
    record { before = []; last = loads p1; shows = floor_p1 }
    ∷
    -- P2
    record { before = []; last = loads (1 ∷ 0 ∷ 1 ∷ 0 ∷ []); shows = 2 ∷ [] }
    ∷
    -- P3
    record { before = []; last = loads []; shows = 1 ∷ [] }
    ∷
    -- P4
    record { before = []; last = loads (p1 ++ 7 ∷ []); shows = 1 ∷ [] }
    ∷
    -- P5
    record { before = []; last = loads p5; shows = floor_p5 }
    ∷
    -- P6
    record { before = []; last = loads p6; shows = 9 ∷ [] }
    ∷
    -- P7
    record { before = []; last = loads p7; shows = 7 ∷ [] }
    ∷
    -- P8
    record { before = []; last = loads job_f; shows = floor_f }
    ∷
    -- P9
    record { before = loads job_f ∷ []; last = turns 5 6; shows = turned_f }
    ∷
    -- P9, turned again
    record { before = loads job_f ∷ turns 5 6 ∷ []; last = turns 6 5; shows = floor_f }
    ∷
    -- P10
    record { before = []; last = loads p10; shows = 9 ∷ [] }
    ∷
    -- P11
    record { before = loads job_f ∷ []; last = turns 4 5; shows = 12 ∷ [] }
    ∷
    -- P12
    record { before = loads job_f ∷ []; last = turns 4 0; shows = 11 ∷ [] }
    ∷
    -- F with each star started elsewhere: the same plan, turned and turned again
    record { before = []; last = loads job_g; shows = floor_f }
    ∷
    record { before = loads job_g ∷ []; last = turns 5 6; shows = turned_f }
    ∷
    record { before = loads job_g ∷ turns 5 6 ∷ []; last = turns 6 5; shows = floor_f }
    ∷
    -- written, it keeps its starts
    record { before = loads job_g ∷ turns 5 6 ∷ []; last = writes_job (replicate 52 0); shows = 52 ∷ turned_g }
    ∷
    record { before = loads job_g ∷ turns 5 6 ∷ turns 5 6 ∷ []; last = writes_job (replicate 52 0); shows = 52 ∷ job_g }
    ∷
    -- clockwise: the kind changes four times, but not from 0 to 1 to 2 to 3
    record { before = []; last = loads (one_room (0 ∷ 0 ∷ 3 ∷ 3 ∷ 2 ∷ 2 ∷ 1 ∷ 1 ∷ [])); shows = 5 ∷ [] }
    ∷
    -- a kind is missing
    record { before = []; last = loads (one_room (1 ∷ 1 ∷ 2 ∷ 2 ∷ 3 ∷ 3 ∷ [])); shows = 5 ∷ [] }
    ∷
    -- room 4 started between its two neighbours above, in order and not
    record { before = loads (below (5 ∷ 0 ∷ 1 ∷ 1 ∷ 2 ∷ 2 ∷ 3 ∷ 3 ∷ 6 ∷ 0 ∷ [])) ∷ []; last = rectangle 6; shows = 6 ∷ 2 ∷ 2 ∷ 3 ∷ 3 ∷ [] }
    ∷
    record { before = []; last = loads (below (6 ∷ 0 ∷ 1 ∷ 1 ∷ 2 ∷ 2 ∷ 3 ∷ 3 ∷ 5 ∷ 0 ∷ [])); shows = 9 ∷ [] }
    ∷
    -- no plan is held
    record { before = []; last = turns 4 5; shows = 10 ∷ [] }
    ∷
    -- nor to be asked about
    record { before = []; last = rectangle 0; shows = 10 ∷ [] }
    ∷
    -- nor to be written: every byte of the buffer stays
    record { before = []; last = writes_job (9 ∷ []); shows = 10 ∷ [] }
    ∷
    -- the rectangle of room 4
    record { before = loads p1 ∷ []; last = rectangle 4; shows = 4 ∷ 1 ∷ 1 ∷ 2 ∷ 2 ∷ [] }
    ∷
    -- no vertex 5
    record { before = loads p1 ∷ []; last = rectangle 5; shows = 13 ∷ [] }
    ∷
    -- room 4 stands below N, with one cell's length of wall
    record { before = loads p1 ∷ []; last = touches 0 4; shows = 2 ∷ 1 ∷ [] }
    ∷
    -- room 4 of F stands to the left of room 5, with one cell's length of wall
    record { before = loads job_f ∷ []; last = touches 5 4; shows = 1 ∷ 1 ∷ [] }
    ∷
    -- no wall between N and S
    record { before = loads p1 ∷ []; last = touches 0 2; shows = [] }
    ∷
    -- one vertex asked twice
    record { before = loads p1 ∷ []; last = touches 4 4; shows = [] }
    ∷
    -- one of two too large
    record { before = loads p1 ∷ []; last = touches 4 5; shows = 13 ∷ [] }
    ∷
    -- 24 rooms in a row: sheet 26 by 3, and the last of them ends at 25
    record { before = loads (write_job (row 24)) ∷ []; last = rectangle 27; shows = 27 ∷ 24 ∷ 1 ∷ 25 ∷ 2 ∷ [] }
    ∷
    -- a buffer one byte too short
    record { before = loads p1 ∷ []; last = writes_job (replicate 14 9); shows = 14 ∷ [] }
    ∷
    -- the job of P1 written: 15 bytes, and the two behind untouched
    record { before = loads p1 ∷ []; last = writes_job (replicate 17 9); shows = 15 ∷ (p1 ++ 9 ∷ 9 ∷ []) }
    ∷
    -- its register written: four walls, each with one side of the room, and the byte behind untouched
    record { before = loads p1 ∷ []; last = writes_register (replicate 33 7); shows = 32 ∷ (register_p1 ++ 7 ∷ []) }
    ∷
    -- a buffer one byte too short for it
    record { before = loads p1 ∷ []; last = writes_register (replicate 31 7); shows = 14 ∷ [] }
    ∷
    -- the seven walls of F
    record { before = loads job_f ∷ []; last = writes_register (replicate 56 0); shows = 56 ∷ register_f }
    ∷
    -- F is sliceable, and its tree written: seven fields, and the byte behind untouched
    record { before = loads job_f ∷ []; last = slices; shows = 1 ∷ [] }
    ∷
    record { before = loads job_f ∷ []; last = writes_cuts (replicate 32 7); shows = 31 ∷ (cuts_f ++ 7 ∷ []) }
    ∷
    -- a buffer one byte too short for it
    record { before = loads job_f ∷ []; last = writes_cuts (replicate 30 7); shows = 14 ∷ [] }
    ∷
    -- four rooms about a fifth: not sliceable, and 15 comes before 14
    record { before = loads wheel ∷ []; last = slices; shows = 0 ∷ [] }
    ∷
    record { before = loads wheel ∷ []; last = writes_cuts []; shows = 15 ∷ [] }
    ∷
    record { before = []; last = writes_cuts []; shows = 10 ∷ [] }
    ∷
    -- the plan of P1 written: 45 bytes, and the one behind untouched
    record { before = loads p1 ∷ []; last = writes_plan (replicate 46 7); shows = 45 ∷ (plan_p1 ++ 7 ∷ []) }
    ∷
    -- sixteen rooms in a row, each 15 wide: sheet 242 by 3
    record { before = loads (write_sized (wide_row 16)) ∷ []; last = rectangle 19; shows = 19 ∷ 226 ∷ 1 ∷ 241 ∷ 2 ∷ [] }
    ∷
    -- seventeen: 257 by 3
    record { before = []; last = loads (write_sized (wide_row 17)); shows = 18 ∷ [] }
    ∷
    -- 4 at least 3 wide: sheet 6 by 3
    record { before = []; last = loads sized5; shows = floor_sized5 }
    ∷
    -- written, it is the very bytes
    record { before = loads sized5 ∷ []; last = writes_job (replicate 33 9); shows = 33 ∷ sized5 }
    ∷
    -- all ones
    record { before = []; last = loads (p5 ++ 7 ∷ 0 ∷ 4 ∷ 1 ∷ 1 ∷ 1 ∷ 1 ∷ []); shows = 17 ∷ [] }
    ∷
    -- a size of 0
    record { before = []; last = loads (p5 ++ 7 ∷ 0 ∷ 4 ∷ 3 ∷ 0 ∷ 1 ∷ 1 ∷ []); shows = 17 ∷ [] }
    ∷
    -- a size of 16, and the walls in a circle
    record { before = []; last = loads (p7 ++ 7 ∷ 0 ∷ 6 ∷ 1 ∷ 1 ∷ 16 ∷ 1 ∷ 1 ∷ 1 ∷ []); shows = 17 ∷ [] }
    ∷
    -- a size for one room of two
    record { before = []; last = loads (p5 ++ 7 ∷ 0 ∷ 2 ∷ 3 ∷ 1 ∷ []); shows = 1 ∷ [] }
    ∷
    -- another tag
    record { before = []; last = loads (p5 ++ 8 ∷ 0 ∷ 4 ∷ 3 ∷ 1 ∷ 1 ∷ 1 ∷ []); shows = 1 ∷ [] }
    ∷
    -- the sizes twice
    record { before = []; last = loads (sized5 ++ 7 ∷ 0 ∷ 4 ∷ 3 ∷ 1 ∷ 1 ∷ 1 ∷ []); shows = 1 ∷ [] }
    ∷
    -- F turned as in P9 is narrowed by one turn, and is F again; F is not narrowed, nor is an empty board
    record { before = loads job_f ∷ turns 5 6 ∷ []; last = narrows; shows = 1 ∷ floor_f }
    ∷
    record { before = loads job_f ∷ []; last = narrows; shows = 0 ∷ floor_f }
    ∷
    record { before = []; last = narrows; shows = 10 ∷ [] }
    ∷
    -- F with least sizes
    record { before = []; last = loads sized_f; shows = floor_sized_f }
    ∷
    -- turned, it keeps them
    record { before = loads sized_f ∷ []; last = turns 5 6; shows = turned_sized_f }
    ∷
    -- turned again
    record { before = loads sized_f ∷ turns 5 6 ∷ []; last = turns 6 5; shows = floor_sized_f }
    ∷ []

-- EVERY ROW HOLDS
pub examples : all right table ≡ true
unfolding row_star row wide_row p1 p5 p6 p7 job_f job_g turned_g one_room below p10 floor_p1 floor_p5 floor_f turned_f plan_p1 same_numbers numbers plan told right
    table all any keep pairwise sum up_from links_to links changes goes_on ends_at is_last read_field rest_of write_field opposite frame_kind rooms is_vertex is_room
    star_of names lists kind_of list_of pairs_in test2 test3 entry_ok test4 star_ok register_p1 register_f low_side high_side wide_of long_of sides_in room_sides built
    starts end_from between partition walls_on walls_of register_of register partition_bytes write_register test5 test6 entries star_then read_stars read_rest
    read_rooms read_first read_job passing first_six star_bytes write_stars write_job entry_rules star_rules rules_from raise relax1 relax meets over passes
    numbers_of job_numbers rect_of room_rect plan_of inside overlap abut apart area corner next_side joined shares_joined follows in_order round_in_order drawable
    past tested planned drawn rect_bytes write_rects write_plan uncrossed crosses first_of first_cut choice chosen both divided grow span tree_of way_byte
    write_tree low_part high_part rooms_of inner plan_tree is_tree writes_tree cuts_f wheel turned_kind with_kind turned turning_at turning_from turning in_contact turn
    stacked narrower turn_narrows or_else first_with first_pair turn_found narrow_once onward rounds narrowed slims
    draw_read load refuse after asks writes step run is_wall on_line facing touch_on touch_of touching sized5 sized_f floor_sized5 floor_sized_f turned_sized_f
    after_fields size_of size_ok larger test17 size_pairs sizes_in read_sizes sizes_pass with_sizes size_bytes write_sizes write_sized extra top_of test18
examples = refl
