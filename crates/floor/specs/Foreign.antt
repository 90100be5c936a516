-- Plans drawn elsewhere: a plan's bytes read, the test whether that plan is good for a job, and the answer. Assumes nothing.
use Rattle.std.specs.Prelude.{ℕ, zero, suc, ◌+◌, ◌≡◌, ◌⊎◌, Bool, cond, ◌&&◌, ◌||◌, List, [], ◌∷◌, length, get_or, leb, ltb, eqb}
use Rattle.std.proofs.Math.Option.{Option, none, some}
use Rattle.floor.specs.Lists.{all, keep}
use Rattle.floor.specs.Fields.{Field, broken, field, read_field, rest_of}
use Rattle.floor.specs.Jobs.{Star, Link, links, changes, Job, Size, SizedJob, size_of, rooms, star_of, lists, Reading, fails, reads, read_job, first_six}
use Rattle.floor.specs.Jobs.{sizes_pass, SizesPassed}
use Rattle.floor.specs.Plans.{Rect, Plan, rect_of, inside, on_line, facing}
use Rattle.floor.specs.Floor.{GoodPlan, Roomy}

-- five bytes as a rectangle
unfoldable pub rect_from : List ℕ → Rect
rect_from b = record { vertex = get_or b 0 0; x1 = get_or b 1 0; y1 = get_or b 2 0; x2 = get_or b 3 0; y2 = get_or b 4 0 }

-- a field of tag 4 and length 5 that names the vertex v is its rectangle; it stands before the rectangles of what follows
unfoldable pub rect_then : ℕ → Field → Option (List Rect) → Option (List Rect)
rect_then v broken rs = none
rect_then v (field t b rest) none = none
rect_then v (field t b rest) (some rs) = cond (eqb t 4 && eqb (length b) 5 && eqb (get_or b 0 0) v) (some (rect_from b ∷ rs)) none

-- the rectangles of n vertices in order, the first of them given, then nothing
unfoldable pub read_rects : ℕ → ℕ → List ℕ → Option (List Rect)
read_rects v zero [] = some []
read_rects v zero (b ∷ bs) = none
read_rects v (suc n) bs = rect_then v (read_field bs) (read_rects (suc v) n (rest_of (read_field bs)))

-- a sheet's two bytes, and its rectangles
unfoldable pub on_sheet : List ℕ → Option (List Rect) → Option Plan
on_sheet b none = none
on_sheet b (some rs) = some (record { width = get_or b 0 0; height = get_or b 1 0; rects = rs })

-- the sheet, tag 3, length 2; then the rectangles of vertices 0 to n + 3
unfoldable pub plan_first : ℕ → Field → Option Plan
plan_first n broken = none
plan_first n (field t b rest) = cond (eqb t 3 && eqb (length b) 2) (on_sheet b (read_rects 0 (n + 4) rest)) none

-- A PLAN'S BYTES, READ, for a job of n rooms; none where they are not shaped as a plan of vertices 0 to n + 3 in order
unfoldable pub read_plan : ℕ → List ℕ → Option Plan
read_plan n bs = plan_first n (read_field bs)

-- the frame lies as in ours: W and E full height, N and S between
unfoldable pub framed : Plan → Bool
framed p =
    (eqb (rect_of p 1).x1 0 && eqb (rect_of p 1).y1 0 && eqb (rect_of p 1).y2 p.height)
    && (eqb (rect_of p 3).x2 p.width && eqb (rect_of p 3).y1 0 && eqb (rect_of p 3).y2 p.height)
    && (eqb (rect_of p 0).x1 (rect_of p 1).x2 && eqb (rect_of p 0).x2 (rect_of p 3).x1 && eqb (rect_of p 0).y2 p.height)
    && (eqb (rect_of p 2).x1 (rect_of p 1).x2 && eqb (rect_of p 2).x2 (rect_of p 3).x1 && eqb (rect_of p 2).y1 0)

-- r lies between the sides of the frame
unfoldable pub between : Plan → Rect → Bool
between p r =
    (leb (rect_of p 1).x2 r.x1 && leb r.x2 (rect_of p 3).x1) && (leb (rect_of p 2).y2 r.y1 && leb r.y2 (rect_of p 0).y1)

-- r has at least this size
unfoldable pub large : Size → Rect → Bool
large z r = leb (r.x1 + z.wide) r.x2 && leb (r.y1 + z.tall) r.y2

-- s stands on side k of r, with a wall length of at least 1 between them
unfoldable pub stands_on : ℕ → Rect → Rect → Bool
stands_on k r s = on_line k r s && leb 1 (facing k r s)

-- each neighbour of u stands on its labelled side
unfoldable pub star_stands : Job → Plan → ℕ → Bool
star_stands j p u = all (λ e. stands_on e.kind (rect_of p u) (rect_of p e.to)) (star_of j u)

-- r and then s among the neighbours on side k, end to end
unfoldable pub abut_on : ℕ → Rect → Rect → Bool
abut_on zero r s = eqb s.x2 r.x1
abut_on (suc zero) r s = eqb s.y2 r.y1
abut_on (suc (suc zero)) r s = eqb r.x2 s.x1
abut_on (suc (suc (suc k))) r s = eqb r.y2 s.y1

-- r last on side k of u, and s first on the next side: one ends flush with u, the other goes past it
unfoldable pub corner_on : ℕ → Rect → Rect → Rect → Bool
corner_on zero u r s = eqb r.x1 u.x1 && ltb u.y2 s.y2 || ltb r.x1 u.x1 && eqb s.y2 u.y2
corner_on (suc zero) u r s = eqb r.y1 u.y1 && ltb s.x1 u.x1 || ltb r.y1 u.y1 && eqb s.x1 u.x1
corner_on (suc (suc zero)) u r s = eqb r.x2 u.x2 && ltb s.y1 u.y1 || ltb u.x2 r.x2 && eqb s.y1 u.y1
corner_on (suc (suc (suc k))) u r s = eqb r.y2 u.y2 && ltb u.x2 s.x2 || ltb u.y2 r.y2 && eqb s.x2 u.x2

-- from one neighbour of u to the next: end to end on one side, or round the corner between two
unfoldable pub step_on : Plan → ℕ → Link → Bool
step_on p u l =
    cond (changes l) (corner_on l.this.kind (rect_of p u) (rect_of p l.this.to) (rect_of p l.next.to))
    (abut_on l.this.kind (rect_of p l.this.to) (rect_of p l.next.to))

-- once round u: its neighbours close the ring without a gap
unfoldable pub star_round : Job → Plan → ℕ → Bool
star_round j p u = all (step_on p u) (links (star_of j u))

-- the star of a room that has W at its left and S below
unfoldable pub in_corner : Star → Bool
in_corner s = lists s 1 1 && lists s 2 2

-- one room alone stands in the corner between W and S
unfoldable pub one_in_corner : Job → Bool
one_in_corner j = eqb (length (keep in_corner j)) 1

-- what is asked of one room: it lies between the sides of the frame, has its least size, and its neighbours stand on their sides, once round
unfoldable pub room_good : SizedJob → Plan → ℕ → Bool
room_good o p u = between p (rect_of p u) && large (size_of o.sizes u) (rect_of p u) && star_stands o.stars p u && star_round o.stars p u

-- THE TEST, in time by rooms and neighbours: every rectangle at least one cell and inside the sheet, the frame, each room, and one room in the corner
unfoldable pub good_for : SizedJob → Plan → Bool
good_for o p = all (inside p) p.rects && framed p && all (room_good o p) (rooms o.stars) && one_in_corner o.stars

-- what is answered: a refusal, or yes or no
pub data Verdict : Type 0 where
  refuses : ℕ → Verdict
  answers : Bool → Verdict

-- 16 for bytes not shaped as a plan, or else yes or no
unfoldable pub judge_plan : SizedJob → Option Plan → Verdict
judge_plan o none = refuses 16
judge_plan o (some p) = answers (good_for o p)

-- the job's own refusals first
unfoldable pub judge_read : Reading SizedJob → List ℕ → Verdict
judge_read (fails k) bs = refuses k
judge_read (reads o) bs = judge_plan o (read_plan (length o.stars) bs)

-- THE ANSWER to a job's bytes and a plan's bytes: the job's 1 to 6 in order, 17, then 16, then yes or no
unfoldable pub judged : List ℕ → List ℕ → Verdict
judged job plan = judge_read (sizes_pass (first_six (read_job job))) plan

-- A PLAN GOOD FOR THE JOB, by their bytes: the job is past tests 1 to 6 and 17, the bytes are shaped as a plan, that plan is good for the job's stars, and every
-- room has at least its least size
pub record GoodFor (job plan : List ℕ) : Type 0 where
  pub o : SizedJob
  pub p : Plan
  pub passed : SizesPassed (read_job job) o
  pub shaped : read_plan (length o.stars) plan ≡ some p
  pub good : GoodPlan o.stars p
  pub roomy : Roomy o.stars o.sizes p

-- refused by the job's own k, or by 16, where the job is past its tests and the bytes are not shaped as a plan
abbrev pub RefusedBy : List ℕ → List ℕ → ℕ → Type 0
RefusedBy job plan k =
    (sizes_pass (first_six (read_job job)) ≡ fails k)
    ⊎ ((k ≡ 16) × ((o : SizedJob) × SizesPassed (read_job job) o × (read_plan (length o.stars) plan ≡ none)))
