-- The figures: they add up, one bad job changes nothing but its own count, the order of jobs does not matter, and no figure is large. Assumes nothing.
use Rattle.std.specs.Prelude.{ℕ, zero, suc, ◌+◌, ◌*◌, ◌≤◌, ◌≡◌, Bool, true, false, cond, length, take, drop, leb, eqb}
use Rattle.std.proofs.Common.{suc-mul, mul-le-mul, mul-le-mul_right, sym, ◌∙◌, arith, leb-true, eqb-true, eq-eqb, ne_eqb}
use Rattle.std.proofs.Math.Path.{refl}
use mathlib.Core.List.{List, [], ◌∷◌, ◌++◌, map, Memᴰ}
use Rattle.floor.specs.Lists.{all, sum}
use Rattle.floor.proofs.Lists.Laws.{and_parts, any_mem, all_mem}
use Rattle.floor.specs.Jobs.{Job, SizedJob}
use Rattle.floor.specs.Jobs.Facts.{Passes}
use Rattle.floor.specs.Plans.{Rect, Plan, area, Answer, refused, held, test18}
use Rattle.floor.specs.Floor.{GoodPlan}
use Rattle.floor.proofs.Floor.Bridge.{covered, once}
use Rattle.floor.proofs.Floor.Area.{cells_areas}
use Rattle.floor.specs.Calls.{load, Answers, of_load}
use Rattle.floor.specs.Calls.Sound.{Sound}
use Rattle.floor.proofs.Calls.Sound.{sound_good, load_held}
use Rattle.floor.proofs.Calls.Exact.{load_answers}
use Rattle.floor.specs.Totals.{Jobs, accepts, fell_to, of_plan, room_cells, frame_cells, sheet_cells, refusals, over, measures, figures}
use Rattle.floor.specs.Totals.{OwnCount, Shuffled, empty, put}

-- A FIGURE, job by job
pub over_nil : (m : Answer → ℕ) → over m [] ≡ 0
unfolding over sum
over_nil m = refl

pub over_cons : (m : Answer → ℕ) (b : List ℕ) (js : Jobs) → over m (b ∷ js) ≡ m (load b) + over m js
unfolding over sum
over_cons m b js = refl

pub over_append : (m : Answer → ℕ) (xs ys : Jobs) → over m (xs ++ ys) ≡ over m xs + over m ys
over_append m [] ys = omega (arith, over_nil m)
over_append m (b ∷ xs) ys = omega (arith, over_append m xs ys, over_cons m b xs, over_cons m b (xs ++ ys))

-- a job put anywhere counts for what it counts for
pub over_put : (m : Answer → ℕ) (xs : Jobs) (b : List ℕ) (ys : Jobs) → over m (xs ++ b ∷ ys) ≡ over m (xs ++ ys) + m (load b)
over_put m xs b ys = omega (arith, over_append m xs (b ∷ ys), over_append m xs ys, over_cons m b ys)

-- EVERY REFUSAL OF A LOAD IS LISTED, once
abbrev pub Listed : Answer → Type 0
Listed (refused k) = sum (map (λ l. fell_to l (refused k)) refusals) ≡ 1
Listed (held o p) = Unit {0}

-- the test that it is
unfoldable lists_one : ℕ → Bool
lists_one k = eqb (sum (map (λ l. fell_to l (refused k)) refusals)) 1

all_listed : all lists_one of_load ≡ true
unfolding lists_one refusals fell_to sum all
all_listed = refl

pub load_listed : (bs : List ℕ) → Listed (load bs)
load_listed bs = go (load bs) (load_answers bs)
  where
    go : (a : Answer) → Answers of_load a → Listed a
    go (refused k) h =
        let (x, m, e) = any_mem (eqb k) of_load h in
        rw (eqb-true k x e) (eqb-true (sum (map (λ l. fell_to l (refused x)) refusals)) 1 (unfold lists_one in all_mem lists_one of_load all_listed x m))
    go (held o p) h = tt

-- ACCEPTED AND REFUSED TOGETHER ARE THE JOBS READ
fallen : (l : List ℕ) (b : List ℕ) (js : Jobs)
    → sum (map (λ k. over (fell_to k) (b ∷ js)) l) ≡ sum (map (λ k. fell_to k (load b)) l) + sum (map (λ k. over (fell_to k) js) l)
unfolding sum
fallen [] b js = refl
fallen (k ∷ l) b js = omega (arith, fallen l b js, over_cons (fell_to k) b js)

none_fallen : (l : List ℕ) → sum (map (λ k. over (fell_to k) []) l) ≡ 0
unfolding sum
none_fallen [] = refl
none_fallen (k ∷ l) = omega (arith, none_fallen l, over_nil (fell_to k))

each_one : (a : Answer) → Listed a → accepts a + sum (map (λ k. fell_to k a) refusals) ≡ 1
unfolding accepts
each_one (refused k) h = let x : sum (map (λ l. fell_to l (refused k)) refusals) ≡ 1 = h in omega arith
each_one (held o p) h = unfold refusals sum fell_to in refl

pub counted : (js : Jobs) → over accepts js + sum (map (λ k. over (fell_to k) js) refusals) ≡ length js
counted [] = omega (arith, over_nil accepts, none_fallen refusals)
counted (b ∷ js) = omega (arith, counted js, over_cons accepts b js, fallen refusals b js, each_one (load b) (load_listed b))

-- ROOM CELLS AND FRAME CELLS TOGETHER ARE SHEET CELLS
sum_parts : (n : ℕ) (rs : List Rect) → sum (map area (drop n rs)) + sum (map area (take n rs)) ≡ sum (map area rs)
unfolding sum
sum_parts zero rs = omega arith
sum_parts (suc n) [] = refl
sum_parts (suc n) (r ∷ rs) = omega (arith, sum_parts n rs)

pub plan_cells : (j : Job) (p : Plan) → Passes j → GoodPlan j p → room_cells p + frame_cells p ≡ sheet_cells p
unfolding room_cells frame_cells sheet_cells
plan_cells j p ok gp =
    sum_parts 4 p.rects ∙ cells_areas (length j + 4) p gp.floor.complete.count gp.inside (covered j ok p gp) (once j ok p gp)

load_sound : (b : List ℕ) (o : SizedJob) (p : Plan) → load b ≡ held o p → Sound o p
load_sound b o p e = (load_held b o p e).1

job_cells : (b : List ℕ) → of_plan room_cells (load b) + of_plan frame_cells (load b) ≡ of_plan sheet_cells (load b)
unfolding of_plan
job_cells b = go (load b) refl
  where
    go : (a : Answer) → load b ≡ a → of_plan room_cells a + of_plan frame_cells a ≡ of_plan sheet_cells a
    go (refused k) e = refl
    go (held o p) e = let s : Sound o p = load_sound b o p e in plan_cells o.stars p s.passes (sound_good o p s)

pub cells : (js : Jobs) → over (of_plan room_cells) js + over (of_plan frame_cells) js ≡ over (of_plan sheet_cells) js
cells [] = omega (arith, over_nil (of_plan room_cells), over_nil (of_plan frame_cells), over_nil (of_plan sheet_cells))
cells (b ∷ js) =
    omega (
      arith,
      cells js,
      job_cells b,
      over_cons (of_plan room_cells) b js,
      over_cons (of_plan frame_cells) b js,
      over_cons (of_plan sheet_cells) b js,
    )

-- ONE BAD JOB, put anywhere, changes nothing but its own count
pub one_bad : (xs : Jobs) (b : List ℕ) (ys : Jobs) (k : ℕ) → load b ≡ refused k → OwnCount k (xs ++ ys) (xs ++ b ∷ ys)
unfolding fell_to accepts of_plan
one_bad xs b ys k e = record {
  own = omega (arith, over_put (fell_to k) xs b ys, own_one);
  others = λ l ne. omega (arith, over_put (fell_to l) xs b ys, other_none l ne);
  accepted = omega (arith, over_put accepts xs b ys, none_accepted);
  sums = λ m. omega (arith, over_put (of_plan m) xs b ys, none_measured m);
}
  where
    own_one : fell_to k (load b) ≡ 1
    own_one = rw (e, eq-eqb k k refl)

    other_none : (l : ℕ) → (l ≡ k → ⊥) → fell_to l (load b) ≡ 0
    other_none l ne = rw (e, ne_eqb k l (λ q. ne (sym q)))

    none_accepted : accepts (load b) ≡ 0
    none_accepted = rw e

    none_measured : (m : Plan → ℕ) → of_plan m (load b) ≡ 0
    none_measured m = rw e

-- THE ORDER OF JOBS DOES NOT MATTER
over_shuffled : (m : Answer → ℕ) (js ks : Jobs) → Shuffled js ks → over m js ≡ over m ks
over_shuffled m [] (_ ∷ _) x4 = elim x4 [ ]
over_shuffled m [] [] empty = refl
over_shuffled m (b ∷ js) ks (put xs ys s e) = rw e (omega (arith, over_cons m b js, over_put m xs b ys, over_shuffled m js (xs ++ ys) s))

same_figures : (js ks : Jobs) → ((m : Answer → ℕ) → over m js ≡ over m ks) → (l : List (Answer → ℕ)) → map (λ m. over m js) l ≡ map (λ m. over m ks) l
same_figures js ks h [] = refl
same_figures js ks h (m ∷ l) = rw (h m, same_figures js ks h l)

pub any_order : (js ks : Jobs) → Shuffled js ks → figures js ≡ figures ks
unfolding figures
any_order js ks s = same_figures js ks (λ m. over_shuffled m js ks s) measures

-- NO FIGURE IS LARGE: a sheet has at most 250 by 250 cells
over_most : (m : Answer → ℕ) (c : ℕ) → ((b : List ℕ) → m (load b) ≤ c) → (js : Jobs) → over m js ≤ length js * c
over_most m c h [] = omega (arith, over_nil m)
over_most m c h (b ∷ js) = omega (arith, over_cons m b js, h b, over_most m c h js, suc-mul (length js) c)

-- a sheet of a loaded job is at most 250 wide and high
load_small : (b : List ℕ) (o : SizedJob) (p : Plan) → load b ≡ held o p → (p.width ≤ 250) × (p.height ≤ 250)
unfolding test18
load_small b o p e =
    let (w, h) = and_parts (leb p.width 250) (leb p.height 250) (load_sound b o p e).is_drawn.sheet in
    (leb-true p.width 250 w, leb-true p.height 250 h)

-- what is measured of a plan is at most c, where it is so of every loaded job's plan
plan_most : (m : Plan → ℕ) (c : ℕ) → ((o : SizedJob) (p : Plan) (b : List ℕ) → load b ≡ held o p → m p ≤ c) → (b : List ℕ) → of_plan m (load b) ≤ c
unfolding of_plan
plan_most m c h b = go (load b) refl
  where
    go : (a : Answer) → load b ≡ a → of_plan m a ≤ c
    go (refused k) e = omega arith
    go (held o p) e = h o p b e

sheet_most : (o : SizedJob) (p : Plan) (b : List ℕ) → load b ≡ held o p → sheet_cells p ≤ 62500
unfolding sheet_cells
sheet_most o p b e = let (w, h) = load_small b o p e in mul-le-mul w h

-- of one job
abbrev Small : (Answer → ℕ) → Type 0
Small m = (b : List ℕ) → m (load b) ≤ 62500

accepts_small : Small accepts
unfolding accepts
accepts_small b = go (load b)
  where
    go : (a : Answer) → accepts a ≤ 62500
    go (refused k) = omega arith
    go (held o p) = omega arith

fell_small : (k : ℕ) → Small (fell_to k)
unfolding fell_to
fell_small k b = go (load b)
  where
    bit : (t : Bool) → cond t 1 0 ≤ 62500
    bit true = omega arith
    bit false = omega arith

    go : (a : Answer) → fell_to k a ≤ 62500
    go (refused l) = bit (eqb l k)
    go (held o p) = omega arith

width_small : Small (of_plan (λ p. p.width))
width_small = plan_most (λ p. p.width) 62500 (λ o p b e. omega (arith, (load_small b o p e).0))

height_small : Small (of_plan (λ p. p.height))
height_small = plan_most (λ p. p.height) 62500 (λ o p b e. omega (arith, (load_small b o p e).1))

sheet_small : Small (of_plan sheet_cells)
sheet_small = plan_most sheet_cells 62500 sheet_most

rooms_small : Small (of_plan room_cells)
rooms_small b = omega (arith, sheet_small b, job_cells b)

frame_small : Small (of_plan frame_cells)
frame_small b = omega (arith, sheet_small b, job_cells b)

-- of every measure
abbrev Every : List (Answer → ℕ) → Type 0
Every [] = Unit {0}
Every (m ∷ l) = Small m × Every l

every_append : (l k : List (Answer → ℕ)) → Every l → Every k → Every (l ++ k)
every_append [] k x y = y
every_append (m ∷ l) k x y = (x.0, every_append l k x.1 y)

every_fell : (l : List ℕ) → Every (map fell_to l)
every_fell [] = tt
every_fell (k ∷ l) = (fell_small k, every_fell l)

all_small : Every measures
unfolding measures
all_small =
    (accepts_small, every_append (map fell_to refusals) _ (every_fell refusals) (width_small, (height_small, (rooms_small, (frame_small, (sheet_small, tt))))))

listed_most : (js : Jobs) (l : List (Answer → ℕ)) → Every l → (n : ℕ) → Memᴰ n (map (λ m. over m js) l) → n ≤ length js * 62500
listed_most js [] h n x'' = elim x'' [ ]
listed_most js (m ∷ l) h n (Memᴰ.head e) = rw e (over_most m 62500 h.0 js)
listed_most js (m ∷ l) h n (Memᴰ.tail i) = listed_most js l h.1 n i

pub figures_small : (js : Jobs) → length js ≤ 200 → (n : ℕ) → Memᴰ n (figures js) → n ≤ 12500000
unfolding figures
figures_small js l n i = omega (arith, listed_most js measures all_small n i, mul-le-mul_right 62500 l)
