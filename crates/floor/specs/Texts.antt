-- What the listing programs print, as bytes. Assumes nothing.
use Rattle.std.specs.Prelude.{ℕ, zero, suc, ◌+◌, ◌/◌, ◌%◌, cond, List, [], ◌∷◌, ◌++◌, length, leb, ltb}
use Rattle.std.proofs.Math.Option.{Option, none, some}
use Rattle.floor.specs.Quoted.{plain}
use Rattle.floor.specs.Plans.{Rect, Plan, Answer, refused, held, rect_bytes}
use Rattle.floor.specs.Registers.{Partition, register, partition_bytes}
use Rattle.floor.specs.Cuts.{Tree, leaf, cut, way_byte, plan_tree}
use Rattle.floor.specs.Calls.{load}

-- the digits of n, k of them at most, and then some text
unfoldable pub digits : ℕ → ℕ → List ℕ → List ℕ
digits zero n t = t
digits (suc k) n t = cond (ltb n 10) ((48 + n) ∷ t) (digits k (n / 10) ((48 + n % 10) ∷ t))

-- a number in decimal, with no nought in front (n + 1 digits are always enough)
unfoldable pub decimal : ℕ → List ℕ
decimal n = digits (suc n) n []

-- numbers on one line, single spaces between
unfoldable pub line : List ℕ → List ℕ
line [] = 10 ∷ []
line (n ∷ []) = decimal n ++ (10 ∷ [])
line (n ∷ m ∷ ns) = decimal n ++ (32 ∷ line (m ∷ ns))

-- the word in front of a sheet
unfoldable pub sheet_word : List ℕ
sheet_word = plain "sheet "

-- the word in front of a refusal
unfoldable pub refused_word : List ℕ
refused_word = plain "refused "

-- what is said of too long an input
unfoldable pub too_long : List ℕ
too_long = plain "input too long\n"

-- a line for each rectangle: vertex, x1, y1, x2, y2
unfoldable pub rect_lines : List Rect → List ℕ
rect_lines [] = []
rect_lines (r ∷ rs) = line (rect_bytes r) ++ rect_lines rs

-- a plan: the sheet's width and height, then the rectangles
unfoldable pub plan_text : Plan → List ℕ
plan_text p = sheet_word ++ (line (p.width ∷ p.height ∷ []) ++ rect_lines p.rects)

-- what a load answers: the plan, or the number of the refusal
unfoldable pub answer_text : Answer → List ℕ
answer_text (refused k) = refused_word ++ line (k ∷ [])
answer_text (held j p) = plan_text p

-- WHAT THE LISTING PROGRAM PRINTS for some input
unfoldable pub listing : List ℕ → List ℕ
listing bs = cond (leb (length bs) 8192) (answer_text (load bs)) too_long

-- a line for each wall of a register: direction, number, beginning, end, sides
unfoldable pub wall_lines : List Partition → List ℕ
wall_lines [] = []
wall_lines (w ∷ ws) = line (partition_bytes w) ++ wall_lines ws

-- what a load answers, for the joiner: the walls of the plan, or the number of the refusal
unfoldable pub walls_text : Answer → List ℕ
walls_text (refused k) = answer_text (refused k)
walls_text (held j p) = wall_lines (register p)

-- WHAT THE JOINER'S PROGRAM PRINTS for some input
unfoldable pub walls_listing : List ℕ → List ℕ
walls_listing bs = cond (leb (length bs) 8192) (walls_text (load bs)) too_long

-- a tree of cuts, a line each: of a cut its direction and place, then the left or lower part, then the other; of a leaf its room
unfoldable pub tree_lines : Tree → List ℕ
tree_lines (leaf v) = line (v ∷ [])
tree_lines (cut a c s t) = line (way_byte a ∷ c ∷ []) ++ (tree_lines s ++ tree_lines t)

-- the tree of a plan, or 15 where it has none
unfoldable pub cut_lines : Option Tree → List ℕ
cut_lines none = answer_text (refused 15)
cut_lines (some t) = tree_lines t

-- what a load answers, for the contractor: the cuts of the plan, or the number of the refusal
unfoldable pub cuts_text : Answer → List ℕ
cuts_text (refused k) = answer_text (refused k)
cuts_text (held j p) = cut_lines (plan_tree p)

-- WHAT THE CONTRACTOR'S PROGRAM PRINTS for some input
unfoldable pub cuts_listing : List ℕ → List ℕ
cuts_listing bs = cond (leb (length bs) 8192) (cuts_text (load bs)) too_long
