-- THE THREE DEMANDS of the customer, as theorems. Assumes nothing.
use Rattle.std.specs.Prelude.{ℕ, ◌+◌, ◌≤◌, ◌<◌, ◌*◌, suc, ◌≡◌, ◌⊎◌, ◌↔◌, true, length, eqb}
use Rattle.std.proofs.Common.{ap}
use Rattle.std.proofs.Math.Option.{some}
use mathlib.Core.List.{List, map, Memᴰ, [], ◌∷◌, ◌++◌}
use Rattle.floor.specs.Lists.{sum}
use Rattle.floor.specs.Lists.Laws.{count}
use Rattle.floor.specs.Fields.{Bytes}
use Rattle.floor.specs.Jobs.{Job, Vertex, Labelling, SizesPassed, Entry, Star, reads, read_job, Room, opposite, star_of, SameButStarts, SizedJob, size_of, write_sized}
use Rattle.floor.proofs.Jobs.Facts.{labelling_passes}
use Rattle.floor.specs.Walls.{Circle, upright, level, rules, at, job_numbers, top_of}
use Rattle.floor.specs.Plans.{Plan, rect_of, plan_of, joined, refused, held, drawn, Numbered, Alike, clear, wall, is_wall, test18, Planned, Fits, Over}
use Rattle.floor.specs.Plans.{write_plan}
use Rattle.floor.proofs.Plans.Held.{seven, nine, held_bound, held_most, eighteen}
use Rattle.floor.specs.Floor.{Floor, Borders, Complete, GoodPlan, Roomy, Stands}
use Rattle.floor.proofs.Floor.Sides.{up, left, down, right, wn, ws, ne, se}
use Rattle.floor.specs.Turns.{turn, Kept, Turnable, turned_by, turned_with, InContact}
use Rattle.floor.proofs.Turns.Turned.{turned_places}
use Rattle.floor.proofs.Turns.Restore.{turned_keeps}
use Rattle.floor.specs.Calls.{load, Board, empty, holding, Call, loads, turns, refusal, done, lent, step, run, Accepted, Answers, Left, Restored}
use Rattle.floor.specs.Calls.{BoardsAlike, StepsAlike, WellHeld, of_load, Loads, Turned, touching, slices, writes_cuts, says}
use Rattle.floor.specs.Calls.Sound.{Sound, SoundBoard}
use Rattle.floor.proofs.Calls.Sound.{some_room, sound_good, any_calls_sound, step_sound, run_sound, sound_roomy}
use Rattle.floor.specs.Registers.{Register, register, Partition}
use Rattle.floor.proofs.Registers.Unique.{one_register}
use Rattle.floor.specs.Cuts.{Sliceable, Tree, cuts, leaves, write_tree, rooms_of, inner, plan_tree}
use Rattle.floor.proofs.Calls.Registered.{held_register, held_walls, held_sides}
use Rattle.floor.proofs.Calls.Sliced.{slices_exactly, unsliceable_exactly, each_room_once, as_many_leaves, one_cut_fewer, so_many_bytes}
use Rattle.floor.proofs.Calls.Touching.{touch_joined, touch_borders, touching_back, touch_label, touch_twice, frame_touch, frame_clear}
use Rattle.floor.proofs.Calls.Effects.{refused_leaves, write_load, load_write, turn_turn, one_job}
use Rattle.floor.proofs.Calls.Always.{turn_done, turn_refused, plain_done}
use Rattle.floor.proofs.Calls.Exact.{drawn_numbered, accepted, load_answers, turned_exactly}
use Rattle.floor.proofs.Calls.Starts.{load_alike, loaded_alike, step_alike, run_alike}
use Rattle.floor.proofs.Calls.Elsewhere.{good_plan_loads}
use Rattle.floor.specs.Smallest.{Placing, OneLine, NothingSmaller}
use Rattle.floor.proofs.Smallest.Least.{plain_placing}
use Rattle.floor.proofs.Smallest.Held.{held_placing, held_lines, held_smallest}
use Rattle.floor.specs.Narrow.{Described, narrowed}
use Rattle.floor.specs.Calls.{narrows, made, slims, Narrowed}
use Rattle.floor.proofs.Calls.Narrowing.{narrows_refused, narrows_made, narrows_only}
use Rattle.floor.specs.Foreign.{refuses, answers, judged, GoodFor, RefusedBy}
use Rattle.floor.proofs.Foreign.Judged.{yes_exactly, refused_exactly, sixteen, ours_yes, held_yes, yes_loads, good_loads_plain}
use Rattle.floor.specs.Totals.{Jobs, accepts, fell_to, of_plan, room_cells, frame_cells, sheet_cells, refusals, over, wrap, figures, tells, refuses_all, season}
use Rattle.floor.specs.Totals.{OwnCount, Shuffled}
use Rattle.floor.proofs.Totals.Wrapped.{season_wrap, nineteen}
use Rattle.floor.proofs.Totals.Figures.{counted, cells, one_bad, any_order, figures_small}

-- DEMAND 1. Every job, however damaged or contradictory, gets an answer: a plan or one numbered refusal.
pub every_job_answered : (bs : List ℕ) → Answers of_load (load bs)
every_job_answered = load_answers

-- A refusal leaves the held plan and the caller's buffers untouched.
pub refusal_leaves : (b : Board) (c : Call) (k : ℕ) → (step b c).reply ≡ refusal k → Left b (lent c) (step b c)
refusal_leaves = refused_leaves

-- DEMAND 2. A job is accepted exactly when the rules say so, and its rectangles carry exactly the longest-path wall numbers.
pub accepted_exactly : (bs : List ℕ) (o : SizedJob) (p : Plan) → (load bs ≡ held o p) ↔ Accepted bs o p
accepted_exactly = accepted

-- Walls run in a circle exactly if no whole numbers can be put on them that respect every "before".
pub circle_exactly : (o : SizedJob) → Labelling o.stars
    → (drawn o ≡ refused 7) ↔ (Circle (rules upright o.stars o.sizes) ⊎ Circle (rules level o.stars o.sizes))
circle_exactly o l = seven o (labelling_passes o.stars l)

-- A turn is accepted exactly when the written rules allow it; it then changes the kind of that one contact, keeps the sizes, and the plan is numbered afresh.
pub turn_accepted_exactly : (cs : List Call) (o : SizedJob) (p : Plan) → run empty cs ≡ holding o p
    → (u v : ℕ) (i : SizedJob) (q : Plan) → (turn o u v ≡ held i q) ↔ Turned o u v i q
turn_accepted_exactly cs o p h = turned_exactly o p (any_calls_sound cs o p h)

-- It is accepted exactly where the contact can be turned, two rooms in contact, either list with at least two, and the turned sheet is no wider and no
-- higher than 250;
pub turn_accepted_where : (cs : List Call) (o : SizedJob) (p : Plan) → run empty cs ≡ holding o p → (u v : ℕ)
    → ((step (holding o p) (turns u v)).reply ≡ done) ↔ ((t : Turnable o.stars u v) × (q : Plan) × Planned (turned_with t o.sizes) q × Fits q)
turn_accepted_where cs o p h = turn_done o p (any_calls_sound cs o p h)

-- where the job came without sizes, exactly where the contact can be turned.
pub turn_accepted_plain : (cs : List Call) (o : SizedJob) (p : Plan) → run empty cs ≡ holding o p → (u v : ℕ) → o.sizes ≡ []
    → ((step (holding o p) (turns u v)).reply ≡ done) ↔ Turnable o.stars u v
turn_accepted_plain cs o p h = plain_done o p (any_calls_sound cs o p h)

-- Else it is refused: by 11 exactly where the numbers are not two rooms in contact, by 12 exactly where they are and cannot be turned, by 18 exactly where they
-- can and the turned sheet is over 250, one way or the other. A turned labelling is never refused by 7 or 9.
pub turn_refused_exactly : (cs : List Call) (o : SizedJob) (p : Plan) → run empty cs ≡ holding o p → (u v k : ℕ) → (turn o u v ≡ refused k)
    ↔ (((k ≡ 11) × (InContact o.stars u v → ⊥))
    ⊎ (((k ≡ 12) × InContact o.stars u v × (Turnable o.stars u v → ⊥))
    ⊎ ((k ≡ 18) × ((t : Turnable o.stars u v) × (q : Plan) × Planned (turned_with t o.sizes) q × Over q))))
turn_refused_exactly cs o p h = turn_refused o p (any_calls_sound cs o p h)

-- A job written out and read back is the same job, whatever board it is loaded into.
pub written_and_read : (cs : List Call) (o : SizedJob) (p : Plan) → run empty cs ≡ holding o p
    → (b : Board) → (step b (loads (write_sized o))).board ≡ holding o p
written_and_read cs o p h b = write_load b o p (any_calls_sound cs o p h)

-- An accepted job read and written is the same bytes.
pub read_and_written : (bs : List ℕ) (o : SizedJob) (p : Plan) → Bytes bs → load bs ≡ held o p → write_sized o ≡ bs
read_and_written = load_write

-- One job has one writing: jobs ever held that have the same stars and the same least size for each room are the same job.
pub one_writing : (cs ds : List Call) (o i : SizedJob) (p q : Plan) → run empty cs ≡ holding o p → run empty ds ≡ holding i q → o.stars ≡ i.stars
    → ((u : ℕ) → Room o.stars u → size_of o.sizes u ≡ size_of i.sizes u) → o ≡ i
one_writing cs ds o i p q h k = one_job o i p q (any_calls_sound cs o p h) (any_calls_sound ds i q k)

-- DEMAND 3. Start from an empty board and make any calls. Whenever a plan is held, it is a floor plan for the job now held, its rectangles carry the wall
-- numbers of that very job, every room has at least its size, and its sheet, where the job came without sizes, is never wider or higher than the number of
-- rooms plus 2: of every accepted job and every turned plan.
pub any_calls_held : (cs : List Call) (o : SizedJob) (p : Plan) → run empty cs ≡ holding o p → WellHeld o p
any_calls_held cs o p h =
    let s : Sound o p = any_calls_sound cs o p h in
    record {
      floor = (sound_good o p s).floor;
      numbers = drawn_numbered o s.passes p s.is_drawn;
      roomy = sound_roomy o p s;
      bound = held_bound o s.passes p s.is_drawn;
    }

-- Each cell lies in exactly one rectangle, no point in four, two share a wall exactly if joined, and neighbours stand in the order held.
pub any_calls_floor : (cs : List Call) (o : SizedJob) (p : Plan) → run empty cs ≡ holding o p → Floor o.stars p
any_calls_floor cs o p h = (any_calls_held cs o p h).floor

-- Its rectangles carry the wall numbers of that very job.
pub any_calls_numbers : (cs : List Call) (o : SizedJob) (p : Plan) → run empty cs ≡ holding o p → Numbered o p
any_calls_numbers cs o p h = (any_calls_held cs o p h).numbers

-- Every room has at least its least width and its least height.
pub any_calls_roomy : (cs : List Call) (o : SizedJob) (p : Plan) → run empty cs ≡ holding o p → Roomy o.stars o.sizes p
any_calls_roomy cs o p h = (any_calls_held cs o p h).roomy

-- The sheet is never wider than the rooms' least widths one after the other, and the frame, nor higher than their least heights.
pub any_calls_most : (cs : List Call) (o : SizedJob) (p : Plan) → run empty cs ≡ holding o p
    → (p.width ≤ 1 + top_of upright o.stars o.sizes) × (p.height ≤ 1 + top_of level o.stars o.sizes)
any_calls_most cs o p h = let s : Sound o p = any_calls_sound cs o p h in held_most o s.passes p s.is_drawn

-- And the sheet, where the job came without sizes, of every accepted job and turned plan, is never wider or higher than the number of rooms plus 2.
pub any_calls_bound : (cs : List Call) (o : SizedJob) (p : Plan) → run empty cs ≡ holding o p → o.sizes ≡ []
    → (p.width ≤ length o.stars + 2) × (p.height ≤ length o.stars + 2)
any_calls_bound cs o p h = (any_calls_held cs o p h).bound

-- NOTHING SMALLER WITH THE SAME CONTACTS. Take any placing of all rectangles in which every contact of the labelling now held is met: no wall there has a
-- smaller number than in the plan now held, and neither its width nor its height is smaller.
pub any_calls_smallest : (cs : List Call) (o : SizedJob) (p : Plan) → run empty cs ≡ holding o p
    → (q : Plan) → Placing o.stars o.sizes q → NothingSmaller o.stars o.sizes p q
any_calls_smallest cs o p h = held_smallest o p (any_calls_sound cs o p h)

-- A wall there is one line: the contacts force the sides of each wall of the labelling to lie at one place.
pub any_calls_lines : (cs : List Call) (o : SizedJob) (p : Plan) → run empty cs ≡ holding o p
    → (q : Plan) → Placing o.stars o.sizes q → OneLine o.stars o.sizes q
any_calls_lines cs o p h = held_lines o p (any_calls_sound cs o p h)

-- Where the job came without sizes, a placing is one by its cells and its contacts alone.
pub placing_plain : (j : Job) (q : Plan) → ((v : ℕ) → Vertex j v → (rect_of q v).x1 < (rect_of q v).x2) → ((v : ℕ) → Vertex j v → (rect_of q v).y1 < (rect_of q v).y2)
    → ((u : ℕ) → Room j u → (e : Entry) → Memᴰ e (star_of j u) → Stands e.kind (rect_of q u) (rect_of q e.to)) → Placing j [] q
placing_plain = plain_placing

-- The plan now held is itself such a placing.
pub any_calls_placing : (cs : List Call) (o : SizedJob) (p : Plan) → run empty cs ≡ holding o p → Placing o.stars o.sizes p
any_calls_placing cs o p h = held_placing o p (any_calls_sound cs o p h)

-- Asked how two vertices touch, it finds a wall exactly if the job joins them or they are neighbouring sides of the frame;
pub any_calls_touch : (cs : List Call) (o : SizedJob) (p : Plan) → run empty cs ≡ holding o p
    → (u v : ℕ) → Vertex o.stars u → Vertex o.stars v → (u ≡ v → ⊥) → is_wall (touching p u v) ≡ joined o.stars u v
any_calls_touch cs o p h = touch_joined o p (any_calls_sound cs o p h)

-- it then tells the side on which the second stands, seen from the first, and the true length of the wall they share;
pub any_calls_length : (cs : List Call) (o : SizedJob) (p : Plan) → run empty cs ≡ holding o p
    → (u v : ℕ) → Vertex o.stars u → Vertex o.stars v → (u ≡ v → ⊥) → (k n : ℕ) → (touching p u v ≡ wall k n) ↔ Borders k n (rect_of p u) (rect_of p v)
any_calls_length cs o p h = touch_borders o p (any_calls_sound cs o p h)

-- the other way round the side is opposite and the length equal;
pub any_calls_back : (cs : List Call) (o : SizedJob) (p : Plan) → run empty cs ≡ holding o p
    → (u v : ℕ) → Vertex o.stars u → Vertex o.stars v → (k n : ℕ) → touching p u v ≡ wall k n → touching p v u ≡ wall (opposite k) n
any_calls_back cs o p h = touching_back o p (any_calls_sound cs o p h)

-- and of a room and whom its star names, the side is the labelled one.
pub any_calls_side : (cs : List Call) (o : SizedJob) (p : Plan) → run empty cs ≡ holding o p
    → (u : ℕ) → Room o.stars u → (e : Entry) → Memᴰ e (star_of o.stars u) → (n : ℕ) × (touching p u e.to ≡ wall e.kind n)
any_calls_side cs o p h = touch_label o p (any_calls_sound cs o p h)

-- Sides of the frame answer as they lie: N and S stand to the right of W, and E to the right of N and of S, each with one cell's length of wall; N and S, and W and
-- E, have none between them;
pub any_calls_frame : (cs : List Call) (o : SizedJob) (p : Plan) → run empty cs ≡ holding o p
    → (touching p 1 0 ≡ wall 3 1) × (touching p 1 2 ≡ wall 3 1) × (touching p 0 3 ≡ wall 3 1) × (touching p 2 3 ≡ wall 3 1)
    × (touching p 0 2 ≡ clear) × (touching p 1 3 ≡ clear)
any_calls_frame cs o p h =
    let s : Sound o p = any_calls_sound cs o p h in (
      frame_touch o p s right left up wn,
      frame_touch o p s right left down ws,
      frame_touch o p s right up right ne,
      frame_touch o p s right down right se,
      frame_clear o p s up,
      frame_clear o p s left,
    )

-- and one vertex asked twice has none.
pub any_calls_twice : (cs : List Call) (o : SizedJob) (p : Plan) → run empty cs ≡ holding o p → (u : ℕ) → touching p u u ≡ clear
any_calls_twice cs o p h u = touch_twice p u

-- The register counted afresh from the plan now held enters every wall of the job now held once, in order: from the least beginning to the greatest end of
-- the room sides on it, and how many they are.
pub any_calls_register : (cs : List Call) (o : SizedJob) (p : Plan) → run empty cs ≡ holding o p → Register o.stars p (register p)
any_calls_register cs o p h = held_register o p (any_calls_sound cs o p h)

-- There is one such register only; it has n + 3 walls, and 4 n room sides on them.
pub any_calls_walls : (cs : List Call) (o : SizedJob) (p : Plan) → run empty cs ≡ holding o p
    → ((l : List Partition) → Register o.stars p l → l ≡ register p)
    × (length (register p) ≡ length o.stars + 3)
    × (sum (map (λ w. w.sides) (register p)) ≡ 4 * length o.stars)
any_calls_walls cs o p h =
    let s : Sound o p = any_calls_sound cs o p h in
    (λ l r. one_register o.stars p l (register p) r (held_register o p s), held_walls o p s, held_sides o p s)

-- The floor of the plan now held is said to be sliceable exactly if it is, whichever cuts are taken first;
pub any_calls_slices : (cs : List Call) (o : SizedJob) (p : Plan) → run empty cs ≡ holding o p
    → ((step (holding o p) slices).reply ≡ says true) ↔ Sliceable (inner p) (rooms_of p)
any_calls_slices cs o p h = slices_exactly o p (any_calls_sound cs o p h)

-- and the writing of its tree is refused by 15 exactly if it is not.
pub any_calls_uncut : (cs : List Call) (o : SizedJob) (p : Plan) → run empty cs ≡ holding o p
    → (buf : List ℕ) → ((step (holding o p) (writes_cuts buf)).reply ≡ refusal 15) ↔ (Sliceable (inner p) (rooms_of p) → ⊥)
any_calls_uncut cs o p h = unsliceable_exactly o p (any_calls_sound cs o p h)

-- The tree has every room at one leaf.
pub any_calls_leaves : (cs : List Call) (o : SizedJob) (p : Plan) → run empty cs ≡ holding o p
    → (t : Tree) → plan_tree p ≡ some t → (v : ℕ) → Room o.stars v → count (eqb v) (leaves t) ≡ 1
any_calls_leaves cs o p h = each_room_once o p (any_calls_sound cs o p h)

-- It has n leaves and n - 1 cuts, so that its writing has 9n - 5 bytes.
pub any_calls_tree : (cs : List Call) (o : SizedJob) (p : Plan) → run empty cs ≡ holding o p → (t : Tree) → plan_tree p ≡ some t
    → (length (leaves t) ≡ length o.stars) × (suc (cuts t) ≡ length o.stars) × (5 + length (write_tree t) ≡ 9 * length o.stars)
any_calls_tree cs o p h t e =
    let s : Sound o p = any_calls_sound cs o p h in (as_many_leaves o p s t e, one_cut_fewer o p s t e, so_many_bytes o p s t e)

-- NARROWING. It is refused by 10, where no plan is held, and by nothing else;
pub narrow_refused : (b : Board) (k : ℕ) → ((step b narrows).reply ≡ refusal k) ↔ ((b ≡ empty) × (k ≡ 10))
narrow_refused = narrows_refused

-- else its result is the description's, joins the same pairs, is never wider, and no single turn of such a contact narrows it further; the number of turns told is
-- the description's;
pub any_calls_narrow : (cs : List Call) (o : SizedJob) (p : Plan) → run empty cs ≡ holding o p
    → Narrowed o p (narrowed o p) × (step (holding o p) narrows ≡ slims (narrowed o p))
any_calls_narrow cs o p h = narrows_made o p (any_calls_sound cs o p h)

-- and the description has no other result.
pub any_calls_described : (cs : List Call) (o : SizedJob) (p : Plan) → run empty cs ≡ holding o p → (n : ℕ) (i : SizedJob) (q : Plan) → Described n o p i q
    → step (holding o p) narrows ≡ record { board = holding i q; reply = made n; buffer = [] }
any_calls_described cs o p h = narrows_only o p (any_calls_sound cs o p h)

-- A sheet is refused as too large exactly when it is over 250, one way or the other.
pub too_large_exactly : (o : SizedJob) (f g : List ℕ) → job_numbers upright o.stars o.sizes ≡ some f → job_numbers level o.stars o.sizes ≡ some g
    → (drawn o ≡ refused 18) ↔ Over (plan_of o.stars (at f) (at g))
too_large_exactly = eighteen

-- A job that has passed every earlier test is refused as undrawable exactly when its numbered rectangles break one of these.
pub undrawable_exactly : (o : SizedJob) → Labelling o.stars → 0 < length o.stars
    → (f g : List ℕ) → job_numbers upright o.stars o.sizes ≡ some f → job_numbers level o.stars o.sizes ≡ some g
    → test18 (plan_of o.stars (at f) (at g)) ≡ true
    → (drawn o ≡ refused 9) ↔ (Floor o.stars (plan_of o.stars (at f) (at g)) → ⊥)
undrawable_exactly o l h = nine o (labelling_passes o.stars l) h

-- A turned labelling passes tests 4 to 6, has as many rooms and pairs, and joins the same pairs;
pub turned_labelling : (cs : List Call) (o : SizedJob) (p : Plan) → run empty cs ≡ holding o p
    → (u v : ℕ) (t : Turnable o.stars u v) → Kept o.stars (turned_by t)
turned_labelling cs o p h u v t = let s : Sound o p = any_calls_sound cs o p h in turned_keeps o.stars s.passes p (sound_good o p s) t

-- so it too, numbered, is refused as undrawable exactly when its rectangles break one of these, read with its own contacts and its own order.
pub turned_undrawable_exactly : (cs : List Call) (o : SizedJob) (p : Plan) → run empty cs ≡ holding o p → (u v : ℕ) (t : Turnable o.stars u v)
    → (f g : List ℕ) → job_numbers upright (turned_by t) o.sizes ≡ some f → job_numbers level (turned_by t) o.sizes ≡ some g
    → test18 (plan_of (turned_by t) (at f) (at g)) ≡ true
    → (drawn (turned_with t o.sizes) ≡ refused 9) ↔ (Floor (turned_by t) (plan_of (turned_by t) (at f) (at g)) → ⊥)
turned_undrawable_exactly cs o p h u v t =
    let k : Kept o.stars (turned_by t) = turned_labelling cs o p h u v t in
    nine (turned_with t o.sizes) (labelling_passes (turned_by t) k.labelling) (rw k.rooms (some_room o p (any_calls_sound cs o p h)))

-- A turn moves no entry: each star names whom it named, in the same places.
pub turned_in_place : (j : Job) (u v : ℕ) (t : Turnable j u v)
    → map (λ (s : Star). map (λ (e : Entry). e.to) s) (turned_by t) ≡ map (λ (s : Star). map (λ (e : Entry). e.to) s) j
turned_in_place j u v t = turned_places j t.a t.b t.m t.room_a.0 t.room_b.0

-- An accepted turn made again at once, with no other call that changes the plan between, is accepted and gives back the plan before it, whichever of the
-- two numbers is named first.
pub turned_again : (cs ds : List Call) (o : SizedJob) (p : Plan) (u v : ℕ) (b : Board) → run empty cs ≡ holding o p
    → (step (holding o p) (turns u v)).reply ≡ done → b ≡ (step (holding o p) (turns u v)).board → run b ds ≡ b
    → Restored (holding o p) (step (run b ds) (turns u v)) × Restored (holding o p) (step (run b ds) (turns v u))
turned_again cs ds o p u v b h e q r = rw (r, q) (turn_turn o p u v (any_calls_sound cs o p h) e)

-- A turn keeps the sizes.
pub turned_sizes : (cs : List Call) (o : SizedJob) (p : Plan) → run empty cs ≡ holding o p → (u v : ℕ) (i : SizedJob) (q : Plan) → turn o u v ≡ held i q
    → i.sizes ≡ o.sizes
turned_sizes cs o p h u v i q e = ap (λ (i : SizedJob). i.sizes) ((turn_accepted_exactly cs o p h u v i q).0 e).is_job

-- A job with any good plan whose rooms have at least their least sizes, by whomever drawn, is one that our load accepts, but for the sheet's limit.
pub drawn_elsewhere : (bs : List ℕ) (o : SizedJob) → SizesPassed (read_job bs) o → (q : Plan) → GoodPlan o.stars q → Roomy o.stars o.sizes q
    → Loads bs o
drawn_elsewhere = good_plan_loads

-- Without sizes it is one that our load accepts, whatever its sheet.
pub elsewhere_loads_plain : (bs : List ℕ) (o : SizedJob) → SizesPassed (read_job bs) o → o.sizes ≡ [] → (q : Plan) → GoodPlan o.stars q
    → (p : Plan) × (load bs ≡ held o p)
elsewhere_loads_plain = good_loads_plain

-- PLANS DRAWN ELSEWHERE. A job's bytes and a plan's bytes get yes exactly when the job is past tests 1 to 6 and 17, the bytes are shaped as a plan, the plan is
-- good for the job, and every room has at least its least size.
pub elsewhere_yes_exactly : (job plan : List ℕ) → (judged job plan ≡ answers true) ↔ GoodFor job plan
elsewhere_yes_exactly = yes_exactly

-- They are refused by the job's own 1 to 6, in order, and 17; then by 16 where the bytes are not shaped as a plan; and by nothing else.
pub elsewhere_refused_exactly : (job plan : List ℕ) (k : ℕ) → (judged job plan ≡ refuses k) ↔ RefusedBy job plan k
elsewhere_refused_exactly = refused_exactly

-- Shaped as a plan is the writing of one of vertices 0 to n + 3 in order, and nothing else.
pub elsewhere_sixteen : (job plan : List ℕ) (o : SizedJob) → SizesPassed (read_job job) o → Bytes plan
    → (judged job plan ≡ refuses 16) ↔ ((p : Plan) → Complete o.stars p → write_plan p ≡ plan → ⊥)
elsewhere_sixteen = sixteen

-- Our own written plan of an accepted job always gets yes;
pub elsewhere_ours : (job : List ℕ) (o : SizedJob) (p : Plan) → load job ≡ held o p → judged job (write_plan p) ≡ answers true
elsewhere_ours = ours_yes

-- so do the job and the plan held after any calls, as they are written.
pub elsewhere_held : (cs : List Call) (o : SizedJob) (p : Plan) → run empty cs ≡ holding o p → judged (write_sized o) (write_plan p) ≡ answers true
elsewhere_held cs o p h = held_yes o p (any_calls_sound cs o p h)

-- A job that gets yes with any plan is one that our load accepts, but for the sheet's limit.
pub elsewhere_loads : (job plan : List ℕ) → judged job plan ≡ answers true → (o : SizedJob) × Loads job o
elsewhere_loads = yes_loads

-- THE SEASON'S TOTALS (W12). Of up to 200 wrapped jobs the figures are told;
pub totals_told : (js : Jobs) → length js ≤ 200 → season (wrap js) ≡ tells (figures js)
totals_told = season_wrap

-- of any other bytes nothing but 19.
pub totals_refused : (bs : List ℕ) → Bytes bs → (season bs ≡ refuses_all 19) ↔ ((js : Jobs) → length js ≤ 200 → wrap js ≡ bs → ⊥)
totals_refused = nineteen

-- The accepted and refused counts together equal the jobs read;
pub totals_counted : (js : Jobs) → over accepts js + sum (map (λ k. over (fell_to k) js) refusals) ≡ length js
totals_counted = counted

-- room cells plus frame cells equal sheet cells;
pub totals_cells : (js : Jobs) → over (of_plan room_cells) js + over (of_plan frame_cells) js ≡ over (of_plan sheet_cells) js
totals_cells = cells

-- one bad job, wherever it stands, changes nothing but its own count;
pub totals_bad : (xs : Jobs) (b : List ℕ) (ys : Jobs) (k : ℕ) → load b ≡ refused k → OwnCount k (xs ++ ys) (xs ++ b ∷ ys)
totals_bad = one_bad

-- the order of the jobs does not matter;
pub totals_order : (js ks : Jobs) → Shuffled js ks → figures js ≡ figures ks
totals_order = any_order

-- and no figure is above 200 times 250 times 250.
pub totals_small : (js : Jobs) → length js ≤ 200 → (n : ℕ) → Memᴰ n (figures js) → n ≤ 12500000
totals_small = figures_small

-- STARTS. Jobs that differ only in their starts get equal plans, or the same refusal;
pub starts_alike : (bs cs : List ℕ) (o i : SizedJob) → read_job bs ≡ reads o → read_job cs ≡ reads i → SameButStarts o i → Alike (load bs) (load cs)
starts_alike = load_alike

-- and after them any calls are answered alike, and leave equal plans.
pub starts_any_calls : (cs ds : List Call) (bs bs' : List ℕ) (o i : SizedJob) → read_job bs ≡ reads o → read_job bs' ≡ reads i → SameButStarts o i
    → BoardsAlike (run (step (run empty cs) (loads bs)).board ds) (run (step (run empty cs) (loads bs')).board ds)
    × ((c : Call)
    → StepsAlike (step (run (step (run empty cs) (loads bs)).board ds) c) (step (run (step (run empty cs) (loads bs')).board ds) c))
starts_any_calls cs ds bs bs' o i e q x = (later, λ c. step_alike c (run_sound one ds (sound bs)) (run_sound two ds (sound bs')) later)
  where
    before : Board
    before = run empty cs

    one : Board
    one = (step before (loads bs)).board

    two : Board
    two = (step before (loads bs')).board

    sound : (bs : List ℕ) → SoundBoard (step before (loads bs)).board
    sound bs = step_sound before (loads bs) (run_sound empty cs tt)

    first : BoardsAlike one two
    first = loaded_alike before bs bs' o i e q x

    later : BoardsAlike (run one ds) (run two ds)
    later = run_alike one two ds (sound bs) (sound bs') first
