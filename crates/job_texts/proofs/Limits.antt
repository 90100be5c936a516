-- What a text that is read stays within. Assumes nothing.
use Prim.Native.Nat.{ℕ, zero, suc, ◌+◌, ◌-◌, ◌≤◌}
use mathlib.Core.Path.{◌≡◌, refl}
use mathlib.Core.Logic.{inl, inr}
use mathlib.Core.Bool.{Bool, true, false, cond, ◌&&◌}
use mathlib.Core.Option.{Option, none, some}
use mathlib.Core.List.{List, [], ◌∷◌}
use native.Mathlib.Omega.{arith}
use borrow.Author.Tests.{leb-true, lt-ltb}
use lib.Dec.{leb, ltb, eqb}
use lib.ListN.{length, drop}
use Rattle.floor.specs.Lists.{all, any, sum, same_numbers}
use Rattle.floor.specs.Quoted.{plain}
use Rattle.floor.proofs.Lists.Laws.{and_right}
use Rattle.floor.specs.Jobs.{Entry, Star, Size, Sizes, sized_job, larger, pairs_in, test2}
use Rattle.floor.specs.Jobs.Written.{Counts}
use Rattle.floor.specs.JobTexts.{frame_words, word, next, number_of, place_of, kind_of_word, a_byte, or_else, vertex_of_word, says, skip, uncommented, nothing}
use Rattle.floor.specs.JobTexts.{followed, behind_contact, contact, size_said, size_at, size_or, contacts, any_contacts, behind_number, room_line, longer, lines}
use Rattle.floor.specs.JobTexts.{behind_room, taken, read_lines, told_sizes, told_job, read_text, room_number, colon, comma, least_size, no_room, no_contact, Line, lacks, star}
use Rattle.floor.specs.JobTexts.{TextRead, wrong_line, a_job}
use Rattle.stars.specs.Pairs.{pair}
use Rattle.stars.proofs.Back.{small}
use Rattle.job_texts.specs.Reads.{number_in, size_words}

-- contacts: no more of them than are left, and every neighbour a byte
abbrev Few : ℕ → Line → Type 0
Few left (lacks x) = number_in x ≤ 64
Few left (star s z) = (length s ≤ left) × (small s ≡ true)

-- a contact with a byte as its neighbour in front of others makes one more, within one more left
few_behind : (left : ℕ) (e : Entry) (l : Line) → ltb e.to 256 ≡ true → Few left l → Few (suc left) (behind_contact e l)
unfolding behind_contact all
few_behind left e (lacks x) t p = p
few_behind left e (star s z) t p = (omega (arith, p.0), rw t p.1)

-- what follows a contact stays within what the contacts behind the comma stay within
few_followed : (left : ℕ) (u : List ℕ) (l : Line) → Few left l → Few left (followed u l)
unfolding followed all number_in
few_followed left [] l p = (omega arith, refl)
few_followed left (b ∷ u) l p = go (eqb b 44)
  where
    go : (x : Bool) → Few left (cond x l (lacks comma))
    go true = p
    go false = omega arith

-- what is said, if anything, is a byte
abbrev ByteSaid : Option ℕ → Type 0
ByteSaid none = Unit {0}
ByteSaid (some n) = ltb n 256 ≡ true

-- a number that is kept only as a byte is a byte
byte_said : (x : Option ℕ) → ByteSaid (a_byte x)
unfolding a_byte
byte_said none = tt
byte_said (some n) = go (ltb n 256) refl
  where
    go : (b : Bool) → ltb n 256 ≡ b → ByteSaid (cond b (some n) none)
    go true t = t
    go false t = tt

-- the place of a word among some is a byte, where no more than 256 are counted
place_said : (i : ℕ) (w : List ℕ) (xs : List (List ℕ)) → i + length xs ≤ 256 → ByteSaid (place_of i w xs)
unfolding place_of
place_said i w [] h = tt
place_said i w (x ∷ xs) h = go (same_numbers w x) (place_said (suc i) w xs (omega arith))
  where
    go : (b : Bool) → ByteSaid (place_of (suc i) w xs) → ByteSaid (cond b (some i) (place_of (suc i) w xs))
    go true p = lt-ltb i 256 (omega arith)
    go false p = p

-- the vertex that a word says is a byte
vertex_said : (w : List ℕ) → ByteSaid (vertex_of_word w)
unfolding vertex_of_word frame_words or_else
vertex_said w = go (place_of 0 w frame_words) (place_said 0 w frame_words (omega arith))
  where
    go : (x : Option ℕ) → ByteSaid x → ByteSaid (or_else x (a_byte (number_of w)))
    go none p = byte_said (number_of w)
    go (some n) p = p

-- a least size has no contacts behind it
few_size : (left : ℕ) (t : List ℕ) → Few left (size_at t)
unfolding size_at size_words size_said number_in all
few_size left t = go (size_words t) (a_byte (number_of (word (next t)))) (a_byte (number_of (word (next (next (next t))))))
  where
    go : (b : Bool) (w h : Option ℕ) → Few left (cond b (size_said w h) (lacks least_size))
    go true none h = omega arith
    go true (some w) none = omega arith
    go true (some w) (some h) = (omega arith, refl)
    go false w h = omega arith

-- where a least size may stand in place of contacts, there are no more of them
few_or : (left : ℕ) (t : List ℕ) (l : Line) → Few left l → Few left (size_or t l)
unfolding size_or
few_or left t l p = go (same_numbers (word t) (plain "at"))
  where
    go : (b : Bool) → Few left (cond b (size_at (next t)) l)
    go true = few_size left (next t)
    go false = p

-- the contacts of a line are no more than are left, and every neighbour a byte
few_contacts : (left : ℕ) (t : List ℕ) → Few left (contacts left t)
unfolding contacts contact number_in
few_contacts zero t = few_or zero t (lacks no_contact) (omega arith)
few_contacts (suc left) t =
    few_or (suc left) t (contact (kind_of_word (word t)) (vertex_of_word (word (next t))) (λ e. behind_contact e (followed u rest)))
    (go (kind_of_word (word t)) (vertex_of_word (word (next t))) (vertex_said (word (next t))) (few_contacts left (skip (drop 1 (next (next t))))))
  where
    u : List ℕ
    u = next (next t)

    rest : Line
    rest = contacts left (skip (drop 1 u))

    go : (k v : Option ℕ) → ByteSaid v → Few left rest → Few (suc left) (contact k v (λ e. behind_contact e (followed u rest)))
    go none v q p = omega arith
    go (some k) none q p = omega arith
    go (some k) (some v) q p = few_behind left (pair v k) (followed u rest) q (few_followed left u rest p)

-- so are the contacts behind a room's colon, if there are any
few_any : (left : ℕ) (t : List ℕ) → Few left (any_contacts left t)
unfolding any_contacts all
few_any left [] = (omega arith, refl)
few_any left (b ∷ t) = few_contacts left (b ∷ t)

-- so is what stands behind a room's number
few_number : (left : ℕ) (t : List ℕ) → Few left (behind_number left t)
unfolding behind_number number_in
few_number left [] = omega arith
few_number left (b ∷ t) = go (eqb b 58)
  where
    go : (x : Bool) → Few left (cond x (any_contacts left (skip t)) (lacks colon))
    go true = few_any left (skip t)
    go false = omega arith

-- a room's line: besides, no room above the sixtieth
abbrev Fits : ℕ → ℕ → Line → Type 0
Fits left r (lacks x) = number_in x ≤ 64
Fits left r (star s z) = (r ≤ 63) × (length s ≤ left) × (small s ≡ true)

-- the line of a room up to 64 stays within: no star for a room above 63, contacts that are left, neighbours that are bytes
line_fits : (left r : ℕ) (t : List ℕ) → r ≤ 64 → Fits left r (room_line left r t)
unfolding room_line test2 number_in
line_fits left r t h = go (leb 1 (r - 3) && leb (r - 3) 60) refl (says r (number_of (word t))) (behind_number left (next t)) (few_number left (next t))
  where
    star_fits : (l : Line) → r - 3 ≤ 60 → Few left l → Fits left r l
    star_fits (lacks x) g p = p
    star_fits (star s z) g p = (omega arith, p.0, p.1)

    go : (a : Bool) → (leb 1 (r - 3) && leb (r - 3) 60) ≡ a → (b : Bool) (l : Line) → Few left l
        → Fits left r (cond a (cond b l (lacks (room_number r))) (lacks no_room))
    go true q true l p = star_fits l (leb-true (r - 3) 60 (and_right (leb 1 (r - 3)) (leb (r - 3) 60) q)) p
    go true q false l p = h
    go false q b l p = omega arith

-- some lines: rooms, contacts and neighbours within, and a size for each room
abbrev pub Within : ℕ → ℕ → ℕ → TextRead → Type 0
Within top r left (wrong_line k x) = (k ≤ top) × (number_in x ≤ 64)
Within top r left (a_job o) = (r + length o.stars ≤ 64) × (pairs_in o.stars ≤ left) × (all small o.stars ≡ true) × (length o.sizes ≡ length o.stars)

-- a star of no more contacts than are left, in front of what stays within the rest, stays within
within_star : (top r left : ℕ) (s : Star) (z : Size) (x : TextRead) → length s ≤ left → small s ≡ true → Within top (suc r) (left - length s) x
    → Within top r left (behind_room s z x)
unfolding behind_room pairs_in sum all
within_star top r left s z (wrong_line k y) l t p = p
within_star top r left s z (a_job o) l t p = (omega (arith, p.0), omega (arith, p.1), rw t p.2, omega (arith, p.3))

-- what names no line past one line names none past a later one
within_up : (top top' r left : ℕ) (x : TextRead) → top ≤ top' → Within top r left x → Within top' r left x
within_up top top' r left (wrong_line k y) l p = (omega (arith, p.0), p.1)
within_up top top' r left (a_job o) l p = p

-- some lines, read, stay within: no wrong line past the last of them, no room above 63, no more contacts than are left
lines_within : (ls : List (List ℕ)) (i r left : ℕ) → r ≤ 64 → Within (i + length ls) r left (read_lines i r left ls)
unfolding read_lines taken number_in pairs_in sum all
lines_within [] i r left h = go (eqb r 4)
  where
    go : (b : Bool) → Within (i + 0) r left (cond b (wrong_line i (room_number 4)) (a_job (sized_job [] [])))
    go true = (omega arith, omega arith)
    go false = (omega arith, omega arith, refl, refl)
lines_within (l ∷ ls) i r left h =
    go (nothing (skip (uncommented l))) (room_line left r (skip (uncommented l))) (line_fits left r (skip (uncommented l)) h)
    (λ r' left' h'. lines_within ls (suc i) r' left' h')
  where
    go : (b : Bool) (y : Line) → Fits left r y → ((r' left' : ℕ) → r' ≤ 64 → Within (suc i + length ls) r' left' (read_lines (suc i) r' left' ls))
        → Within (i + suc (length ls)) r left
        (cond b (read_lines (suc i) r left ls) (taken (suc i) y (λ s z. behind_room s z (read_lines (suc i) (suc r) (left - length s) ls))))
    go true y p below = within_up (suc i + length ls) (i + suc (length ls)) r left (read_lines (suc i) r left ls) (omega arith) (below r left h)
    go false (lacks x) p below = (omega arith, p)
    go false (star s z) p below =
        let rest : TextRead = read_lines (suc i) (suc r) (left - length s) ls in
        within_up (suc i + length ls) (i + suc (length ls)) r left (behind_room s z rest) (omega arith)
        (within_star (suc i + length ls) r left s z rest p.1 p.2 (below (suc r) (left - length s) (omega (arith, p.0))))

-- a text has at most one line more than it has bytes
few_lines : (t : List ℕ) → length (lines t) ≤ length t + 1
unfolding lines longer
few_lines [] = omega arith
few_lines (b ∷ t) = go (eqb b 10) (lines t) (few_lines t)
  where
    go : (x : Bool) (ls : List (List ℕ)) → length ls ≤ length t + 1 → length (cond x ([] ∷ ls) (longer b ls)) ≤ suc (length t) + 1
    go true ls h = omega arith
    go false [] h = omega arith
    go false (l ∷ ls) h = omega arith

-- NO LINE PAST THE LAST, NO MORE THAN 60 ROOMS AND 360 CONTACTS, every neighbour a byte, and a size for each room
pub text_lines : (t : List ℕ) → Within (length t + 1) 4 360 (read_lines 0 4 360 (lines t))
text_lines t =
    within_up (0 + length (lines t)) (length t + 1) 4 360 (read_lines 0 4 360 (lines t)) (omega (arith, few_lines t)) (lines_within (lines t) 0 4 360 (omega arith))

-- a whole text: as many sizes as rooms, or none
abbrev pub TextWithin : ℕ → TextRead → Type 0
TextWithin top (wrong_line k x) = (k ≤ top) × (number_in x ≤ 64)
TextWithin top (a_job o) = (length o.stars ≤ 60) × (pairs_in o.stars ≤ 360) × Counts (length o.stars) o.sizes

-- the sizes that are told are all, or none
told_counts : (n : ℕ) (z : Sizes) → length z ≡ n → Counts n (told_sizes z)
unfolding told_sizes
told_counts n z e = go (any larger z)
  where
    go : (b : Bool) → Counts n (cond b z [])
    go true = inr e
    go false = inl refl

-- A TEXT STAYS WITHIN: no line past the last, no more than 60 rooms and 360 contacts, and as many sizes as rooms or none
pub text_within : (t : List ℕ) → TextWithin (length t + 1) (read_text t)
unfolding read_text told_job
text_within t = go (read_lines 0 4 360 (lines t)) (text_lines t)
  where
    go : (x : TextRead) → Within (length t + 1) 4 360 x → TextWithin (length t + 1) (told_job x)
    go (wrong_line k y) w = w
    go (a_job o) w = (omega (arith, w.0), w.1, told_counts (length o.stars) o.sizes w.3)
