-- The season's totals (request W12): jobs in wrappers, and figures that are counts and sums over what loading them answers. Assumes nothing.
use Rattle.std.specs.Prelude.{ℕ, zero, suc, ◌+◌, ◌*◌, ◌≡◌, cond, List, [], ◌∷◌, ◌++◌, map, length, take, drop, eqb, leb}
use Rattle.std.proofs.Math.Option.{Option, none, some}
use Rattle.floor.specs.Lists.{sum}
use Rattle.floor.specs.Fields.{Field, broken, field, read_field, rest_of, write_field}
use Rattle.floor.specs.Plans.{Plan, area, Answer, refused, held}
use Rattle.floor.specs.Calls.{load}
use Rattle.floor.specs.Texts.{line, refused_word}
pub mod Wrapped

-- the bytes of some jobs
abbrev pub Jobs : Type 0
Jobs = List (List ℕ)

-- a field of tag 9 is a job, whatever its bytes; it stands before those of what follows
unfoldable pub job_then : Field → Option Jobs → Option Jobs
job_then broken js = none
job_then (field t v rest) none = none
job_then (field t v rest) (some js) = cond (eqb t 9) (some (v ∷ js)) none

-- the jobs to the end of the bytes; none where a wrapper is broken, or where there are more than n
unfoldable pub unwrap : ℕ → List ℕ → Option Jobs
unwrap zero [] = some []
unwrap zero (b ∷ bs) = none
unwrap (suc n) [] = some []
unwrap (suc n) (b ∷ bs) = job_then (read_field (b ∷ bs)) (unwrap n (rest_of (read_field (b ∷ bs))))

-- jobs, wrapped
unfoldable pub wrap : Jobs → List ℕ
wrap [] = []
wrap (b ∷ js) = write_field 9 b ++ wrap js

-- 1 for an accepted job
unfoldable pub accepts : Answer → ℕ
accepts (refused k) = 0
accepts (held o p) = 1

-- 1 for a job that fell to k
unfoldable pub fell_to : ℕ → Answer → ℕ
fell_to k (refused l) = cond (eqb l k) 1 0
fell_to k (held o p) = 0

-- what is measured of an accepted job's plan; nothing of a refused job
unfoldable pub of_plan : (Plan → ℕ) → Answer → ℕ
of_plan m (refused k) = 0
of_plan m (held o p) = m p

-- the cells of the rooms, of the frame, and of the sheet
unfoldable pub room_cells : Plan → ℕ
room_cells p = sum (map area (drop 4 p.rects))

unfoldable pub frame_cells : Plan → ℕ
frame_cells p = sum (map area (take 4 p.rects))

unfoldable pub sheet_cells : Plan → ℕ
sheet_cells p = p.width * p.height

-- the refusals, in the order of their lines
unfoldable pub refusals : List ℕ
refusals = 1 ∷ 2 ∷ 3 ∷ 4 ∷ 5 ∷ 6 ∷ 7 ∷ 9 ∷ 17 ∷ 18 ∷ []

-- A FIGURE: what each job counts for, added up
unfoldable pub over : (Answer → ℕ) → Jobs → ℕ
over m js = sum (map (λ b. m (load b)) js)

-- the figures, by what a job counts for: accepted, fallen to each refusal, width, height, room cells, frame cells, sheet cells
unfoldable pub measures : List (Answer → ℕ)
measures =
    accepts
    ∷ (map fell_to refusals ++ (of_plan (λ p. p.width) ∷ of_plan (λ p. p.height) ∷ of_plan room_cells ∷ of_plan frame_cells ∷ of_plan sheet_cells ∷ []))

-- THE FIGURES of some jobs, in the order of their lines
unfoldable pub figures : Jobs → List ℕ
figures js = map (λ m. over m js) measures

-- what is reported: the figures, or one refusal for all
pub data Season : Type 0 where
  refuses_all : ℕ → Season
  tells : List ℕ → Season

-- the figures of the jobs that were read; 19 where none could be
unfoldable pub tell : Option Jobs → Season
tell none = refuses_all 19
tell (some js) = tells (figures js)

-- THE SEASON'S TOTALS of up to 200 wrapped jobs
unfoldable pub season : List ℕ → Season
season bs = tell (unwrap 200 bs)

-- one figure a line
unfoldable pub figure_lines : List ℕ → List ℕ
figure_lines [] = []
figure_lines (n ∷ ns) = line (n ∷ []) ++ figure_lines ns

-- what is printed: the figures, or the refusal and nothing else
unfoldable pub season_text : Season → List ℕ
season_text (refuses_all k) = refused_word ++ line (k ∷ [])
season_text (tells ns) = figure_lines ns

-- WHAT THE PROGRAM PRINTS for some input
unfoldable pub totals : List ℕ → List ℕ
totals bs = season_text (season bs)

-- what a program that calls is told: one number, and the buffer it lent for the figures
pub record Told : Type 0 where
  pub number : ℕ
  pub figures : List ℕ

-- THE FIGURES IN A LENT BUFFER, and 256 more than how many they are; a refusal is its own number, 14 one of a buffer too short for the figures, and leaves
-- the buffer as it was
unfoldable pub season_in : Season → List ℕ → Told
season_in (refuses_all k) buf = record { number = k; figures = buf }
season_in (tells ns) buf =
    cond (leb (length ns) (length buf)) (record { number = 256 + length ns; figures = ns ++ drop (length ns) buf }) (record { number = 14; figures = buf })

-- ONE BAD JOB CHANGES NOTHING BUT ITS OWN COUNT: the figures of ks are those of js, but that one job more fell to k
pub record OwnCount (k : ℕ) (js ks : Jobs) : Type 0 where
  pub own : over (fell_to k) ks ≡ over (fell_to k) js + 1
  pub others : (l : ℕ) → (l ≡ k → ⊥) → over (fell_to l) ks ≡ over (fell_to l) js
  pub accepted : over accepts ks ≡ over accepts js
  pub sums : (m : Plan → ℕ) → over (of_plan m) ks ≡ over (of_plan m) js

-- the same jobs in another order: each is put somewhere among the others
pub data Shuffled : Jobs → Jobs → Type 0 where
  empty : Shuffled [] []
  put : {b : List ℕ} {js ks : Jobs} (front rest : Jobs) → Shuffled js (front ++ rest) → ks ≡ front ++ b ∷ rest → Shuffled (b ∷ js) ks
