-- A job as text that staff write by hand: a room a line, as `4: above N, left W, below 6, right 5, at least 3 by 2`. Assumes nothing.
use Rattle.std.specs.Prelude.{ℕ, zero, suc, ◌+◌, ◌-◌, ◌*◌, Bool, true, false, cond, ◌&&◌, ◌||◌, List, [], ◌∷◌, ◌++◌, length, drop, get_or, leb, ltb, eqb}
use Rattle.std.proofs.Math.Option.{Option, none, some}
use Rattle.floor.specs.Lists.{all, any, same_numbers}
use Rattle.floor.specs.Jobs.{Entry, Star, Job, Size, Sizes, SizedJob, one_cell, size_of, larger, test2, test17, Reading, fails, reads, passing, first_three}
use Rattle.floor.specs.Jobs.{read_job, write_sized}
use Rattle.floor.specs.Quoted.{plain}
use Rattle.floor.specs.Texts.{decimal, line, refused_word, too_long}

-- ---- writing

-- the four sides, in the order of the kinds
unfoldable pub side_words : List (List ℕ)
side_words = plain "above" ∷ plain "left" ∷ plain "below" ∷ plain "right" ∷ []

-- the four frame sides, in the order of their numbers
unfoldable pub frame_words : List (List ℕ)
frame_words = plain "N" ∷ plain "W" ∷ plain "S" ∷ plain "E" ∷ []

-- a kind, by its side
unfoldable pub side_word : ℕ → List ℕ
side_word k = get_or side_words k []

-- a vertex: a frame side by its letter, a room by its number
unfoldable pub vertex_word : ℕ → List ℕ
vertex_word v = cond (ltb v 4) (get_or frame_words v []) (decimal v)

-- a contact: ` above N`
unfoldable pub contact_text : Entry → List ℕ
contact_text e = plain " " ++ (side_word e.kind ++ (plain " " ++ vertex_word e.to))

-- the contacts of a room, commas between
unfoldable pub contacts_text : Star → List ℕ
contacts_text [] = []
contacts_text (e ∷ []) = contact_text e
contacts_text (e ∷ f ∷ s) = contact_text e ++ (plain "," ++ contacts_text (f ∷ s))

-- a least size, width by height: ` at least 3 by 2`
unfoldable pub size_text : Size → List ℕ
size_text z = plain " at least " ++ (decimal z.wide ++ (plain " by " ++ decimal z.tall))

-- a comma, where contacts stand in front
unfoldable pub comma_behind : Star → List ℕ
comma_behind [] = []
comma_behind (e ∷ s) = plain ","

-- a room's least size behind its contacts, left out where it is 1 by 1
unfoldable pub size_behind : Star → Size → List ℕ
size_behind s z = cond (larger z) (comma_behind s ++ size_text z) []

-- a room's line
unfoldable pub room_text : ℕ → Star → Size → List ℕ
room_text r s z = decimal r ++ (plain ":" ++ (contacts_text s ++ (size_behind s z ++ plain "\n")))

-- the lines of the rooms from r on
unfoldable pub rooms_text : ℕ → Job → Sizes → List ℕ
rooms_text r [] z = []
rooms_text r (s ∷ j) z = room_text r s (size_of z r) ++ rooms_text (suc r) j z

-- A JOB, AS TEXT
unfoldable pub job_text : SizedJob → List ℕ
job_text o = rooms_text 4 o.stars o.sizes

-- ---- reading: words, with blanks between

-- a blank: a space, a tab, or the return that some editors leave at a line's end
unfoldable pub blank : ℕ → Bool
blank b = eqb b 32 || eqb b 9 || eqb b 13

-- a letter or a digit
unfoldable pub letter : ℕ → Bool
letter b = (leb 48 b && leb b 57) || (leb 65 b && leb b 90) || (leb 97 b && leb b 122)

-- a text without the blanks in front
unfoldable pub skip : List ℕ → List ℕ
skip [] = []
skip (b ∷ t) = cond (blank b) (skip t) (b ∷ t)

-- the word in front of a text
unfoldable pub word : List ℕ → List ℕ
word [] = []
word (b ∷ t) = cond (letter b) (b ∷ word t) []

-- what follows the word in front of a text
unfoldable pub behind_word : List ℕ → List ℕ
behind_word [] = []
behind_word (b ∷ t) = cond (letter b) (behind_word t) (b ∷ t)

-- the next thing behind the word in front of a text
unfoldable pub next : List ℕ → List ℕ
next t = skip (behind_word t)

-- a digit
unfoldable pub digit : ℕ → Bool
digit b = leb 48 b && leb b 57

-- the number that digits say behind a number; none where one of them is no digit
unfoldable pub digits_on : ℕ → List ℕ → Option ℕ
digits_on n [] = some n
digits_on n (b ∷ w) = cond (digit b) (digits_on (10 * n + (b - 48)) w) none

-- the number that a word says, if it says one
unfoldable pub number_of : List ℕ → Option ℕ
number_of [] = none
number_of (b ∷ w) = digits_on 0 (b ∷ w)

-- the place at which a word stands among some, if it does, counted from i on
unfoldable pub place_of : ℕ → List ℕ → List (List ℕ) → Option ℕ
place_of i w [] = none
place_of i w (x ∷ xs) = cond (same_numbers w x) (some i) (place_of (suc i) w xs)

-- the kind that a word says, if it is a side
unfoldable pub kind_of_word : List ℕ → Option ℕ
kind_of_word w = place_of 0 w side_words

-- a number that a byte can hold
unfoldable pub a_byte : Option ℕ → Option ℕ
a_byte none = none
a_byte (some n) = cond (ltb n 256) (some n) none

-- the first, or else the second
unfoldable pub or_else : Option ℕ → Option ℕ → Option ℕ
or_else none y = y
or_else (some n) y = some n

-- the vertex that a word says, if it does: a frame side by its letter, or a number up to 255
unfoldable pub vertex_of_word : List ℕ → Option ℕ
vertex_of_word w = or_else (place_of 0 w frame_words) (a_byte (number_of w))

-- just this number is said
unfoldable pub says : ℕ → Option ℕ → Bool
says r none = false
says r (some n) = eqb n r

-- ---- reading: lines

-- nothing stands there
unfoldable pub nothing : List ℕ → Bool
nothing [] = true
nothing (b ∷ t) = false

-- what should have stood on a line that is wrong
pub data Expected : Type 0 where
  room_number : ℕ → Expected
  colon : Expected
  side : Expected
  neighbour : Expected
  comma : Expected
  least_size : Expected
  no_room : Expected
  no_contact : Expected

-- what a line comes to: a star and a least size, or what should have stood there
pub data Line : Type 0 where
  lacks : Expected → Line
  star : Star → Size → Line

-- a contact in front of those of a line
unfoldable pub behind_contact : Entry → Line → Line
behind_contact e (lacks x) = lacks x
behind_contact e (star s z) = star (e ∷ s) z

-- what follows a contact: nothing, or a comma and more; where no size is said, it is 1 by 1
unfoldable pub followed : List ℕ → Line → Line
followed [] more = star [] one_cell
followed (b ∷ t) more = cond (eqb b 44) more (lacks comma)

-- a side and a neighbour: a contact, and what goes on with it
unfoldable pub contact : Option ℕ → Option ℕ → (Entry → Line) → Line
contact none v goes = lacks side
contact (some k) none goes = lacks neighbour
contact (some k) (some v) goes = goes (record { to = v; kind = k })

-- a width and a height: a least size, with no contact behind it
unfoldable pub size_said : Option ℕ → Option ℕ → Line
size_said none h = lacks least_size
size_said (some w) none = lacks least_size
size_said (some w) (some h) = star [] (record { wide = w; tall = h })

-- behind `at`: `least`, a width, `by`, a height, numbers up to 255, and the end of the line
unfoldable pub size_at : List ℕ → Line
size_at t =
    let w : List ℕ = next t in
    let b : List ℕ = next w in
    let h : List ℕ = next b in
    cond (same_numbers (word t) (plain "least") && same_numbers (word b) (plain "by") && nothing (next h))
    (size_said (a_byte (number_of (word w))) (a_byte (number_of (word h)))) (lacks least_size)

-- a least size where `at` stands, or else this
unfoldable pub size_or : List ℕ → Line → Line
size_or t else = cond (same_numbers (word t) (plain "at")) (size_at (next t)) else

-- the contacts of a line, no more of them than are left: each a side and a neighbour; behind them, or in place of them, a least size
unfoldable pub contacts : ℕ → List ℕ → Line
contacts zero t = size_or t (lacks no_contact)
contacts (suc left) t =
    let u : List ℕ = next (next t) in
    size_or t (contact (kind_of_word (word t)) (vertex_of_word (word (next t))) (λ e. behind_contact e (followed u (contacts left (skip (drop 1 u))))))

-- what stands behind a room's colon: nothing at all, or contacts or a size
unfoldable pub any_contacts : ℕ → List ℕ → Line
any_contacts left [] = star [] one_cell
any_contacts left (b ∷ t) = contacts left (b ∷ t)

-- what stands behind a room's number: a colon, and its contacts
unfoldable pub behind_number : ℕ → List ℕ → Line
behind_number left [] = lacks colon
behind_number left (b ∷ t) = cond (eqb b 58) (any_contacts left (skip t)) (lacks colon)

-- the line of room r, no blanks in front: no room above the sixtieth, and each in its turn
unfoldable pub room_line : ℕ → ℕ → List ℕ → Line
room_line left r t = cond (test2 (r - 3)) (cond (says r (number_of (word t))) (behind_number left (next t)) (lacks (room_number r))) (lacks no_room)

-- ---- reading: the whole text

-- a byte in front of the first of some lines
unfoldable pub longer : ℕ → List (List ℕ) → List (List ℕ)
longer b [] = (b ∷ []) ∷ []
longer b (l ∷ ls) = (b ∷ l) ∷ ls

-- the lines of a text
unfoldable pub lines : List ℕ → List (List ℕ)
lines [] = [] ∷ []
lines (b ∷ t) = cond (eqb b 10) ([] ∷ lines t) (longer b (lines t))

-- a line without its comment
unfoldable pub uncommented : List ℕ → List ℕ
uncommented [] = []
uncommented (b ∷ l) = cond (eqb b 35) [] (b ∷ uncommented l)

-- what a text comes to: a job, or the first wrong line and what should have stood there
pub data TextRead : Type 0 where
  wrong_line : ℕ → Expected → TextRead
  a_job : SizedJob → TextRead

-- a room in front of those of a job
unfoldable pub behind_room : Star → Size → TextRead → TextRead
behind_room s z (wrong_line i x) = wrong_line i x
behind_room s z (a_job o) = a_job (record { stars = s ∷ o.stars; sizes = z ∷ o.sizes })

-- line i is wrong, or its room goes on
unfoldable pub taken : ℕ → Line → (Star → Size → TextRead) → TextRead
taken i (lacks x) goes = wrong_line i x
taken i (star s z) goes = goes s z

-- the lines behind line i, when room r comes next and so many contacts are left; lines with nothing on them do not count
unfoldable pub read_lines : ℕ → ℕ → ℕ → List (List ℕ) → TextRead
read_lines i r left [] = cond (eqb r 4) (wrong_line i (room_number 4)) (a_job (record { stars = []; sizes = [] }))
read_lines i r left (l ∷ ls) =
    let t : List ℕ = skip (uncommented l) in
    cond (nothing t) (read_lines (suc i) r left ls)
    (taken (suc i) (room_line left r t) (λ s z. behind_room s z (read_lines (suc i) (suc r) (left - length s) ls)))

-- the sizes, or none where every one is 1 by 1
unfoldable pub told_sizes : Sizes → Sizes
told_sizes z = cond (any larger z) z []

-- a job that was read, with its sizes as a job tells them
unfoldable pub told_job : TextRead → TextRead
told_job (wrong_line i x) = wrong_line i x
told_job (a_job o) = a_job (record { stars = o.stars; sizes = told_sizes o.sizes })

-- A TEXT, READ: rooms from 4 on, 360 contacts at most
unfoldable pub read_text : List ℕ → TextRead
read_text t = told_job (read_lines 0 4 360 (lines t))

-- ---- what the programs write

-- what should have stood there, in words
unfoldable pub expected_text : Expected → List ℕ
expected_text (room_number r) = plain "the number of room " ++ decimal r
expected_text colon = plain "a colon behind the room's number"
expected_text side = plain "above, left, below, right or at least"
expected_text neighbour = plain "N, W, S, E or a number up to 255"
expected_text comma = plain "a comma, or the end of the line"
expected_text least_size = plain "a least size, as at least 3 by 2, and the end of the line"
expected_text no_room = plain "no more than 60 rooms"
expected_text no_contact = plain "no more than 360 contacts"

-- every kind is a side
unfoldable pub sided : Job → Bool
sided j = all (all (λ e. ltb e.kind 4)) j

-- what passes tests 1 to 3 can be written as text, but for 4: a kind over 3 has no word; and for 17: sizes of 1 throughout are not written
unfoldable pub texted : Reading SizedJob → Reading SizedJob
texted (fails k) = fails k
texted (reads o) = passing (sided o.stars) 4 (passing (test17 o.sizes) 17 (reads o))

-- a job that passes as text, or the number of its refusal
unfoldable pub text_answer : Reading SizedJob → List ℕ
text_answer (fails k) = refused_word ++ line (k ∷ [])
text_answer (reads o) = job_text o

-- WHAT IS PRINTED FOR THE BYTES OF A JOB
unfoldable pub text_of : List ℕ → List ℕ
text_of bs = cond (leb (length bs) 8192) (text_answer (texted (first_three (read_job bs)))) too_long

-- a job's bytes, or `line 3: expected ` and what should have stood there
unfoldable pub job_answer : TextRead → List ℕ
job_answer (wrong_line i x) = plain "line " ++ (decimal i ++ (plain ": expected " ++ (expected_text x ++ plain "\n")))
job_answer (a_job o) = write_sized o

-- WHAT IS PRINTED FOR THE TEXT OF A JOB
unfoldable pub job_of : List ℕ → List ℕ
job_of t = cond (leb (length t) 16384) (job_answer (read_text t)) too_long
