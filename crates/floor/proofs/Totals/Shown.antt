-- The season's totals of seven jobs, by computation. Assumes nothing.
use Rattle.std.specs.Prelude.{ℕ, ◌≡◌, refl, true, ◌&&◌, List, [], ◌∷◌, ◌++◌, replicate}
use Rattle.floor.specs.Lists.{all, any, keep, pairwise, sum, same_numbers, up_from}
use Rattle.floor.specs.Fields.{read_field, rest_of, write_field, after_fields}
use Rattle.floor.specs.Jobs.{links_to, links, changes, goes_on, opposite, frame_kind, rooms, is_vertex, is_room, star_of, names, lists, kind_of, list_of, pairs_in}
use Rattle.floor.specs.Jobs.{test2, test3, entry_ok, test4, star_ok, test5, test6, entries, star_then, read_stars, read_rest, read_rooms, read_first, read_job}
use Rattle.floor.specs.Jobs.{passing, first_six, star_bytes, write_stars, write_job, size_of, size_ok, larger, test17, size_pairs, sizes_in, read_sizes, sizes_pass}
use Rattle.floor.specs.Jobs.{with_sizes, size_bytes, write_sizes, write_sized}
use Rattle.floor.specs.Walls.{entry_rules, star_rules, rules_from, raise, relax1, relax, meets, over, passes, numbers_of, job_numbers, extra, top_of}
use Rattle.floor.specs.Plans.{rect_of, room_rect, plan_of, inside, overlap, abut, apart, area, corner, next_side, joined, shares_joined, follows, in_order}
use Rattle.floor.specs.Plans.{round_in_order, drawable, past, test18, tested, planned, drawn, draw_read, is_wall, on_line, facing, touch_on, touch_of}
use Rattle.floor.specs.Totals.{Jobs, job_then, unwrap, wrap, accepts, fell_to, of_plan, room_cells, frame_cells, sheet_cells, refusals, over as over_jobs}
use Rattle.floor.specs.Totals.{measures, figures, Season, refuses_all, tells, tell, season}
use Rattle.floor.specs.Calls.{load}
use Rattle.floor.proofs.Examples.{p1, p5, p6, p7, row_star, row, wide_row}

-- THE SEASON'S TOTALS of P1, P5, nothing at all, P7, P6, P5 with sizes of all ones, and seventeen rooms in a row, each 15 wide: two accepted; 1, 7, 9, 17
-- and 18 given once each
pub seven : Jobs
seven = p1 ∷ p5 ∷ [] ∷ p7 ∷ p6 ∷ (p5 ++ 7 ∷ 0 ∷ 4 ∷ 1 ∷ 1 ∷ 1 ∷ 1 ∷ []) ∷ write_sized (wide_row 17) ∷ []

-- what is told, or only the number of the refusal
unfoldable pub told_season : Season → List ℕ
told_season (refuses_all k) = k ∷ []
told_season (tells ns) = ns

pub season_examples :
    (same_numbers (told_season (season (wrap seven))) (2 ∷ 1 ∷ 0 ∷ 0 ∷ 0 ∷ 0 ∷ 0 ∷ 1 ∷ 1 ∷ 1 ∷ 1 ∷ 7 ∷ 6 ∷ 3 ∷ 18 ∷ 21 ∷ [])
    && same_numbers (told_season (season [])) (replicate 16 0)
    && same_numbers (told_season (season (wrap seven ++ 9 ∷ []))) (19 ∷ []))
    ≡ true
unfolding seven told_season job_then unwrap wrap accepts fell_to of_plan room_cells frame_cells sheet_cells refusals over_jobs measures figures tell season
    p1 p5 p6 p7 row_star row wide_row same_numbers all any keep pairwise sum up_from links_to links changes goes_on read_field rest_of write_field after_fields opposite
    frame_kind rooms is_vertex is_room star_of names lists kind_of list_of pairs_in test2 test3 entry_ok test4 star_ok test5 test6 entries star_then read_stars read_rest
    read_rooms read_first read_job passing first_six star_bytes write_stars write_job size_of size_ok larger test17 size_pairs sizes_in read_sizes sizes_pass with_sizes
    size_bytes write_sizes write_sized entry_rules star_rules rules_from raise relax1 relax meets over passes numbers_of job_numbers extra top_of rect_of room_rect plan_of
    inside overlap abut apart area corner next_side joined shares_joined follows in_order round_in_order drawable past test18 tested planned drawn draw_read is_wall
    on_line facing touch_on touch_of load
season_examples = refl
