-- Each text that is written is read back as the same job; and a job's bytes, written as text and read, are the very bytes. Assumes nothing.
use Rattle.std.specs.Prelude.{ℕ, zero, suc, ◌+◌, ◌-◌, ◌*◌, ◌≤◌, ◌<◌, Bool, true, cond, not, ◌&&◌, ◌||◌, List, [], ◌∷◌, ◌++◌, map, length, drop, leb, ltb, eqb}
use Rattle.std.proofs.Math.Path.{◌≡◌, refl, ap}
use Rattle.std.proofs.Common.{sym, ◌∙◌, subst, inl, inr, append-nil, append_assoc, length-append, ext_get_or, ltb-true, leb-true, eqb-true, lt-ltb, le-leb, eq-eqb, ne_eqb}
use Rattle.std.proofs.Math.Bool.{false}
use Rattle.std.proofs.Math.Option.{Option, none, some}
use Rattle.std.proofs.Math.ListN.{get_or}
use Rattle.std.proofs.lemmas.List.{length-map}
use native.Mathlib.Omega.{arith}
use Rattle.std.proofs.Math.Decide.{dec_lt}
use Rattle.std.proofs.lemmas.Bool.{lt-leb, not-true}
use Rattle.floor.specs.Lists.{all, any, sum, same_numbers, up_from}
use Rattle.floor.proofs.Lists.Laws.{no_false, and_left, and_right, and_parts, and_both, all_mem, up_from_mem, length_up_from, get_d_up_from}
use Rattle.floor.specs.Quoted.{plain}
use Rattle.floor.specs.Texts.{digits, decimal}
use Rattle.floor.specs.Fields.{Bytes, write_field}
use Rattle.floor.proofs.Fields.Laws.{bytes_behind}
use Rattle.floor.specs.Jobs.{Entry, Star, Job, Size, Sizes, SizedJob, sized_job, one_cell, size_of, size_ok, larger, pairs_in, test2, test3, test17, Reading}
use Rattle.floor.specs.Jobs.{fails, reads, passing, first_three, read_job, star_bytes, write_stars, write_job, write_sizes, write_sized}
use Rattle.floor.proofs.Jobs.Facts.{Fair, room_fair}
use Rattle.floor.specs.Jobs.Written.{Counts}
use Rattle.floor.proofs.Jobs.Written.{read_test2, read_counts, length_write_sized, write_read_job}
use Rattle.floor.specs.JobTexts.{side_words, frame_words, side_word, vertex_word, contact_text, contacts_text, size_text, comma_behind, size_behind, room_text}
use Rattle.floor.specs.JobTexts.{rooms_text, job_text, blank, letter, skip, word, behind_word, next, digit, digits_on, number_of, place_of, kind_of_word, a_byte}
use Rattle.floor.specs.JobTexts.{or_else, vertex_of_word, says, nothing, Line, star, behind_contact, followed, contact, size_said, size_at, size_or, contacts}
use Rattle.floor.specs.JobTexts.{any_contacts, behind_number, room_line, longer, lines, uncommented, a_job, behind_room, taken, read_lines, told_sizes, told_job}
use Rattle.floor.specs.JobTexts.{read_text, sided, texted, text_answer, text_of, job_answer, job_of}

-- every neighbour is a byte
unfoldable pub bytes_only : Job → Bool
bytes_only j = all (all (λ e. ltb e.to 256)) j

-- ---- words that are written

-- neither the end of a line nor the start of a comment
unfoldable in_line : ℕ → Bool
in_line b = not (eqb b 10) && not (eqb b 35)

-- a word: letters, not none and n at most
unfoldable is_word : ℕ → List ℕ → Bool
is_word n w = not (nothing w) && all letter w && all in_line w && leb (length w) n

-- what the test of a word says: letters, not none and n at most, no end of a line and no comment among them
record Word (n : ℕ) (w : List ℕ) : Type 0 where
  filled : nothing w ≡ false
  letters : all letter w ≡ true
  fits : all in_line w ≡ true
  short : length w ≤ n

-- what passes the test is a word
is_word_lem : (n : ℕ) (w : List ℕ) → is_word n w ≡ true → Word n w
unfolding is_word
is_word_lem n w e =
    let (abc, d) = and_parts _ _ e in
    let (ab, c) = and_parts _ _ abc in
    let (a, b) = and_parts _ _ ab in
    record { filled = not-true (nothing w) a; letters = b; fits = c; short = leb-true (length w) n d }

-- a number that is written as a word and read back
abbrev tells : ℕ → (ℕ → List ℕ) → (List ℕ → Option ℕ) → ℕ → Bool
tells n f g k = is_word n (f k) && says k (g (f k))

-- the number is written as a word of at most n letters, and read back
abbrev Told : ℕ → (ℕ → List ℕ) → (List ℕ → Option ℕ) → ℕ → Type 0
Told n f g k = Word n (f k) × (g (f k) ≡ some k)

-- where just this number is found to be said, it is the one said
said : (k : ℕ) (x : Option ℕ) → says k x ≡ true → x ≡ some k
unfolding says
said k none e = no_false e
said k (some n) e = ap some (eqb-true n k e)

-- where the test passes for the first m numbers, each of them is written as a word and read back
told : (n : ℕ) (f : ℕ → List ℕ) (g : List ℕ → Option ℕ) (m : ℕ) → all (tells n f g) (up_from 0 m) ≡ true → (k : ℕ) → k < m → Told n f g k
told n f g m h k l =
    let (a, b) = and_parts _ _ (all_mem (tells n f g) (up_from 0 m) h k (up_from_mem 0 m k (omega arith) (omega arith))) in
    (is_word_lem n (f k) a, said k (g (f k)) b)

-- THE FOUR SIDES, EVERY VERTEX AND EVERY ROOM, computed
sides : all (tells 5 side_word kind_of_word) (up_from 0 4) ≡ true
unfolding all up_from is_word in_line nothing letter side_word side_words kind_of_word place_of same_numbers plain says
sides = refl

-- every number up to 255 is written as a vertex of at most three letters, and read back
vertices : all (tells 3 vertex_word vertex_of_word) (up_from 0 256) ≡ true
unfolding all up_from is_word in_line nothing letter vertex_word frame_words vertex_of_word place_of same_numbers plain decimal digits number_of digits_on digit a_byte
    or_else says
vertices = refl

-- every number below 64 is written in at most two digits, and read back
numbers : all (tells 2 decimal number_of) (up_from 0 64) ≡ true
unfolding all up_from is_word in_line nothing letter decimal digits number_of digits_on digit says
numbers = refl

-- no side is `at`
no_side : all (λ k. not (same_numbers (side_word k) (plain "at"))) (up_from 0 4) ≡ true
unfolding all up_from side_word side_words same_numbers plain
no_side = refl

-- each kind is written as a word of at most five letters, and read back
side_told : (k : ℕ) → k < 4 → Told 5 side_word kind_of_word k
side_told = told 5 side_word kind_of_word 4 sides

-- each vertex up to 255 is written as a word of at most three letters, and read back
vertex_told : (v : ℕ) → v < 256 → Told 3 vertex_word vertex_of_word v
vertex_told = told 3 vertex_word vertex_of_word 256 vertices

-- each number below 64 is written as a word of at most two digits, and read back
room_told : (r : ℕ) → r < 64 → Told 2 decimal number_of r
room_told = told 2 decimal number_of 64 numbers

-- the word of no side is `at`
side_not_at : (k : ℕ) → k < 4 → same_numbers (side_word k) (plain "at") ≡ false
side_not_at k h = not-true _ (all_mem (λ k. not (same_numbers (side_word k) (plain "at"))) (up_from 0 4) no_side k (up_from_mem 0 4 k (omega arith) (omega arith)))

-- ---- words that are read

-- no letter stands in front of a text
unfoldable stops : List ℕ → Bool
stops [] = true
stops (b ∷ t) = not (letter b)

-- A WORD IS READ, and what follows it is left
word_read : (w t : List ℕ) → all letter w ≡ true → stops t ≡ true → word (w ++ t) ≡ w
unfolding word stops all
word_read [] [] a s = refl
word_read [] (b ∷ t) a s = rw (not-true (letter b) s)
word_read (b ∷ w) t a s = let (l, m) = and_parts (letter b) (all letter w) a in rw (l, word_read w t m s)

-- what follows a word is left, where no letter stands in front of it
word_left : (w t : List ℕ) → all letter w ≡ true → stops t ≡ true → behind_word (w ++ t) ≡ t
unfolding behind_word stops all
word_left [] [] a s = refl
word_left [] (b ∷ t) a s = rw (not-true (letter b) s)
word_left (b ∷ w) t a s = let (l, m) = and_parts (letter b) (all letter w) a in rw l (word_left w t m s)

-- the next thing behind a word is what follows it, without the blanks in front
next_behind : (w t : List ℕ) → all letter w ≡ true → stops t ≡ true → next (w ++ t) ≡ skip t
unfolding next
next_behind w t a s = rw (word_left w t a s)

-- no letter is a blank
letter_blank : (b : ℕ) → letter b ≡ true → blank b ≡ false
unfolding letter blank
letter_blank b e = go (dec_lt b 48)
  where
    go : Dec (b < 48) → blank b ≡ false
    go (yes l) = no_false (rw (lt-leb 48 b l, lt-leb 65 b (omega arith), lt-leb 97 b (omega arith)) at e)
    go (no l) = rw (ne_eqb b 32 (λ q. omega arith), ne_eqb b 9 (λ q. omega arith), ne_eqb b 13 (λ q. omega arith))

-- a word stands where it is, behind a space too
skip_word : (n : ℕ) (w t : List ℕ) → Word n w → skip (w ++ t) ≡ w ++ t
unfolding skip nothing all
skip_word n [] t k = no_false (sym k.filled)
skip_word n (b ∷ w) t k = rw (letter_blank b (and_left (letter b) (all letter w) k.letters))

-- a space skipped in front of a word leaves the word
skip_space : (n : ℕ) (w t : List ℕ) → Word n w → skip (32 ∷ (w ++ t)) ≡ w ++ t
unfolding skip blank
skip_space n w t k = skip_word n w t k

-- a text that begins with a space has no letter in front
space_stops : (t : List ℕ) → stops (32 ∷ t) ≡ true
unfolding stops letter
space_stops t = refl

-- and so does what is neither a letter nor a blank
mark_stands : (b : ℕ) (t : List ℕ) → letter b ≡ false → blank b ≡ false → (stops (b ∷ t) ≡ true) × (skip (b ∷ t) ≡ b ∷ t)
unfolding stops skip
mark_stands b t l m = (rw l, rw m)

-- a word with nothing behind it is read, and nothing is left
word_whole : (w : List ℕ) → all letter w ≡ true → (word w ≡ w) × (next w ≡ [])
unfolding stops skip
word_whole w a = (ap word (sym (append-nil w)) ∙ word_read w [] a refl, ap next (sym (append-nil w)) ∙ next_behind w [] a refl)

-- a space skipped in front of such a word leaves it
skip_whole : (n : ℕ) (w : List ℕ) → Word n w → skip (32 ∷ w) ≡ w
skip_whole n w k = ap (λ (l : List ℕ). skip (32 ∷ l)) (sym (append-nil w)) ∙ skip_space n w [] k ∙ append-nil w

-- where something stands in front, something stands there
some_append : (w t : List ℕ) → nothing w ≡ false → nothing (w ++ t) ≡ false
unfolding nothing
some_append [] t e = no_false (sym e)
some_append (b ∷ w) t e = refl

-- ---- the contacts of a room

-- every kind is a side, and every neighbour a byte
abbrev Writable : Star → Type 0
Writable [] = Unit {0}
Writable (e ∷ s) = (e.kind < 4) × (e.to < 256) × Writable s

-- a contact in front of some text
contact_front : (e : Entry) (t : List ℕ) → contact_text e ++ t ≡ 32 ∷ (side_word e.kind ++ (32 ∷ (vertex_word e.to ++ t)))
unfolding contact_text plain
contact_front e t = ap (λ (l : List ℕ). 32 ∷ l) (append_assoc (side_word e.kind) (32 ∷ vertex_word e.to) t)

-- A CONTACT IS READ, and what follows it is left
contact_read : (left : ℕ) (e : Entry) (t : List ℕ) → e.kind < 4 → e.to < 256 → stops t ≡ true → skip t ≡ t
    → contacts (suc left) (skip (contact_text e ++ t)) ≡ behind_contact e (followed t (contacts left (skip (drop 1 t))))
unfolding contacts contact size_or
contact_read left e t h l s c =
    let (p, k) = side_told e.kind h in
    let (q, v) = vertex_told e.to l in
    let u : List ℕ = vertex_word e.to ++ t in
    rw (
      contact_front e t,
      skip_space 5 (side_word e.kind) (32 ∷ u) p,
      word_read (side_word e.kind) (32 ∷ u) p.letters (space_stops u),
      side_not_at e.kind h,
      k,
      next_behind (side_word e.kind) (32 ∷ u) p.letters (space_stops u),
      skip_space 3 (vertex_word e.to) t q,
      word_read (vertex_word e.to) t q.letters s,
      v,
      next_behind (vertex_word e.to) t q.letters s,
      c,
    )

-- ---- a room's least size

-- a least size behind `at`
unfoldable least_text : Size → List ℕ
least_text z = plain "least " ++ (decimal z.wide ++ (plain " by " ++ decimal z.tall))

-- what stands behind a least width
unfoldable by_text : Size → List ℕ
by_text z = plain "by " ++ decimal z.tall

-- `at` is read, and what follows it is left
at_read : (z : Size) → (word (skip (size_text z)) ≡ plain "at") × (next (skip (size_text z)) ≡ least_text z)
unfolding size_text least_text plain skip blank word behind_word next letter
at_read z = (refl, refl)

-- `least` is read, and what follows it is left
least_read : (z : Size) → Fair z → (word (least_text z) ≡ plain "least") × (next (least_text z) ≡ decimal z.wide ++ (32 ∷ by_text z))
unfolding least_text by_text plain word behind_word next letter
least_read z f = (refl, skip_space 2 (decimal z.wide) _ (room_told z.wide (omega (arith, f.most_width))).0)

-- `by` is read, and what follows it is left
by_read : (z : Size) → Fair z → (skip (32 ∷ by_text z) ≡ by_text z) × (word (by_text z) ≡ plain "by") × (next (by_text z) ≡ decimal z.tall)
unfolding by_text plain skip blank word behind_word next letter
by_read z f = (refl, refl, skip_whole 2 (decimal z.tall) (room_told z.tall (omega (arith, f.most_height))).0)

-- a number up to 15 is written and read back as a byte
byte_told : (n : ℕ) → n ≤ 15 → a_byte (number_of (decimal n)) ≡ some n
unfolding a_byte
byte_told n h = rw ((room_told n (omega arith)).1, lt-ltb n 256 (omega arith))

-- A LEAST SIZE IS READ BACK
size_read : (z : Size) → Fair z → size_at (least_text z) ≡ star [] z
unfolding size_at size_said nothing
size_read z f =
    let w : List ℕ = decimal z.wide in
    let p : Word 2 w = (room_told z.wide (omega (arith, f.most_width))).0 in
    let q : Word 2 (decimal z.tall) = (room_told z.tall (omega (arith, f.most_height))).0 in
    let (a, b) = least_read z f in
    let (c, d, e) = by_read z f in
    let (g, h) = word_whole (decimal z.tall) q.letters in
    rw (
      a,
      b,
      word_read w (32 ∷ by_text z) p.letters (space_stops (by_text z)),
      next_behind w (32 ∷ by_text z) p.letters (space_stops (by_text z)),
      c,
      d,
      e,
      g,
      h,
      byte_told z.wide f.most_width,
      byte_told z.tall f.most_height,
      least_same,
      by_same,
    )
  where
    least_same : same_numbers (plain "least") (plain "least") ≡ true
    least_same = unfold same_numbers plain in refl

    by_same : same_numbers (plain "by") (plain "by") ≡ true
    by_same = unfold same_numbers plain in refl

-- where `at` stands, it is a least size that is read
size_or_lem : (z : Size) (x : Line) → Fair z → size_or (skip (size_text z)) x ≡ star [] z
unfolding size_or
size_or_lem z x f = let (a, b) = at_read z in rw (a, at_same, b) (size_read z f)
  where
    at_same : same_numbers (plain "at") (plain "at") ≡ true
    at_same = unfold same_numbers plain in refl

-- a least size is read wherever a contact could stand
size_contacts : (left : ℕ) (z : Size) → Fair z → contacts left (skip (size_text z)) ≡ star [] z
unfolding contacts
size_contacts zero z f = size_or_lem z _ f
size_contacts (suc left) z f = size_or_lem z _ f

-- a size that is not more than one cell is one cell
one_cell_lem : (z : Size) → larger z ≡ false → one_cell ≡ z
unfolding larger
one_cell_lem z e = go (eqb z.wide 1) refl (eqb z.tall 1) refl e
  where
    go : (a : Bool) → eqb z.wide 1 ≡ a → (b : Bool) → eqb z.tall 1 ≡ b → (not a || not b) ≡ false → one_cell ≡ z
    go true p true q e =
        let w : 1 ≡ z.wide = sym (eqb-true z.wide 1 p) in
        let h : 1 ≡ z.tall = sym (eqb-true z.tall 1 q) in
        λ n. record { wide = w n; tall = h n }
    go true p false q e = no_false (sym e)
    go false p b q e = no_false (sym e)

-- ---- what stands behind a room's colon

-- what follows a contact: a comma and the others; or a comma and the least size; or nothing
unfoldable more_text : Star → Size → List ℕ
more_text [] z = cond (larger z) (44 ∷ size_text z) []
more_text (e ∷ s) z = 44 ∷ (contacts_text (e ∷ s) ++ size_behind (e ∷ s) z)

-- what stands behind a room's colon is the first contact, and what follows it
contacts_front : (e : Entry) (s : Star) (z : Size) → contacts_text (e ∷ s) ++ size_behind (e ∷ s) z ≡ contact_text e ++ more_text s z
unfolding contacts_text size_behind comma_behind more_text plain
contacts_front e [] z = refl
contacts_front e (f ∷ s) z = append_assoc (contact_text e) (44 ∷ contacts_text (f ∷ s)) (size_behind (f ∷ s) z)

-- a comma is neither a letter nor a blank
comma_stands : (t : List ℕ) → (stops (44 ∷ t) ≡ true) × (skip (44 ∷ t) ≡ 44 ∷ t)
unfolding letter blank
comma_stands t = mark_stands 44 t refl refl

-- what follows a contact has neither a letter nor a blank in front
more_stands : (s : Star) (z : Size) → (stops (more_text s z) ≡ true) × (skip (more_text s z) ≡ more_text s z)
unfolding more_text
more_stands [] z = go (larger z)
  where
    go : (b : Bool) → (stops (cond b (44 ∷ size_text z) []) ≡ true) × (skip (cond b (44 ∷ size_text z) []) ≡ cond b (44 ∷ size_text z) [])
    go true = comma_stands (size_text z)
    go false = unfold stops skip in (refl, refl)
more_stands (e ∷ s) z = comma_stands (contacts_text (e ∷ s) ++ size_behind (e ∷ s) z)

-- what follows a contact is read back as the other contacts and the least size, where so many are left
more_read : (left : ℕ) (s : Star) (z : Size) → length s ≤ left → Writable s → Fair z
    → followed (more_text s z) (contacts left (skip (drop 1 (more_text s z)))) ≡ star s z
unfolding more_text followed behind_contact
more_read left [] z l w f = go (larger z) refl
  where
    go : (b : Bool) → larger z ≡ b
        → followed (cond b (44 ∷ size_text z) []) (contacts left (skip (drop 1 (cond b (44 ∷ size_text z) [])))) ≡ star [] z
    go true e = unfold followed in size_contacts left z f
    go false e = unfold followed in ap (star []) (one_cell_lem z e)
more_read zero (e ∷ s) z l w f = absurd (omega arith)
more_read (suc left) (e ∷ s) z l (h, m, w) f =
    let (a, b) = more_stands s z in
    rw (contacts_front e s z) (contact_read left e (more_text s z) h m a b ∙ ap (behind_contact e) (more_read left s z (omega arith) w f))

-- a room with a contact has something behind the blanks of its contacts
some_contacts : (e : Entry) (s : Star) (z : Size) → e.kind < 4 → nothing (skip (contacts_text (e ∷ s) ++ size_behind (e ∷ s) z)) ≡ false
some_contacts e s z h =
    let (p, k) = side_told e.kind h in
    let t : List ℕ = 32 ∷ (vertex_word e.to ++ more_text s z) in
    rw (contacts_front e s z, contact_front e (more_text s z), skip_space 5 (side_word e.kind) t p) (some_append (side_word e.kind) t p.filled)

-- so has a least size
some_size : (z : Size) → nothing (skip (size_text z)) ≡ false
unfolding nothing skip blank size_text plain
some_size z = refl

-- where something stands behind the colon, the contacts are read
any_some : (left : ℕ) (t : List ℕ) → nothing t ≡ false → any_contacts left t ≡ contacts left t
unfolding nothing any_contacts
any_some left [] e = no_false (sym e)
any_some left (b ∷ t) e = refl

-- WHAT STANDS BEHIND A ROOM'S COLON IS READ BACK, where so many contacts are left
contacts_read : (left : ℕ) (s : Star) (z : Size) → length s ≤ left → Writable s → Fair z → any_contacts left (skip (contacts_text s ++ size_behind s z)) ≡ star s z
unfolding contacts_text size_behind comma_behind more_text followed
contacts_read left [] z l w f = go (larger z) refl
  where
    go : (b : Bool) → larger z ≡ b → any_contacts left (skip (cond b (size_text z) [])) ≡ star [] z
    go true e = any_some left (skip (size_text z)) (some_size z) ∙ size_contacts left z f
    go false e = unfold skip any_contacts in ap (star []) (one_cell_lem z e)
contacts_read left (e ∷ s) z l (h, m, w) f =
    any_some left (skip (contacts_text (e ∷ s) ++ size_behind (e ∷ s) z)) (some_contacts e s z h) ∙ more_read left (e ∷ s) z l (h, m, w) f

-- ---- the line of a room

-- a room's line behind its number and colon
abbrev items_of : Star → Size → List ℕ
items_of s z = contacts_text s ++ size_behind s z

-- a room's line, without its end
abbrev line_of : ℕ → Star → Size → List ℕ
line_of r s z = decimal r ++ (58 ∷ items_of s z)

-- a room's line in front of some text is the line, its end, and the text
room_front : (r : ℕ) (s : Star) (z : Size) (t : List ℕ) → room_text r s z ++ t ≡ line_of r s z ++ (10 ∷ t)
unfolding room_text plain
room_front r s z t =
    append_assoc (decimal r) (58 ∷ (contacts_text s ++ (size_behind s z ++ (10 ∷ [])))) t
    ∙ ap (λ (l : List ℕ). decimal r ++ (58 ∷ l))
    (append_assoc (contacts_text s) (size_behind s z ++ (10 ∷ [])) t
    ∙ ap (λ (l : List ℕ). contacts_text s ++ l) (append_assoc (size_behind s z) (10 ∷ []) t)
    ∙ sym (append_assoc (contacts_text s) (size_behind s z) (10 ∷ t)))
    ∙ sym (append_assoc (decimal r) (58 ∷ items_of s z) (10 ∷ t))

-- A ROOM'S LINE IS READ BACK
room_read : (left r : ℕ) (s : Star) (z : Size) → 4 ≤ r → r < 64 → length s ≤ left → Writable s → Fair z → room_line left r (line_of r s z) ≡ star s z
unfolding room_line says behind_number test2 letter blank
room_read left r s z l h m w f =
    let (p, q) = room_told r h in
    let (a, b) = mark_stands 58 (items_of s z) refl refl in
    rw (
      le-leb 1 (r - 3) (omega arith),
      le-leb (r - 3) 60 (omega arith),
      word_read (decimal r) (58 ∷ items_of s z) p.letters a,
      q,
      eq-eqb r r refl,
      next_behind (decimal r) (58 ∷ items_of s z) p.letters a,
      b,
    )
    (contacts_read left s z m w f)

-- it has no end of a line and no comment
all_append : (p : ℕ → Bool) (a b : List ℕ) → all p a ≡ true → all p b ≡ true → all p (a ++ b) ≡ true
unfolding all
all_append p [] b x y = y
all_append p (c ∷ a) b x y = let (l, m) = and_parts (p c) (all p a) x in and_both (p c) (all p (a ++ b)) l (all_append p a b m y)

-- a contact in front of a text with no end of a line and no comment has none either
contact_fits : (e : Entry) (t : List ℕ) → e.kind < 4 → e.to < 256 → all in_line t ≡ true → all in_line (contact_text e ++ t) ≡ true
unfolding all in_line
contact_fits e t h l f =
    let v : all in_line (vertex_word e.to ++ t) ≡ true = all_append in_line (vertex_word e.to) t (vertex_told e.to l).0.fits f in
    rw (contact_front e t) (all_append in_line (side_word e.kind) (32 ∷ (vertex_word e.to ++ t)) (side_told e.kind h).0.fits v)

-- a least size has no end of a line and no comment
size_fits : (z : Size) → Fair z → all in_line (size_text z) ≡ true
unfolding size_text plain all in_line
size_fits z f =
    all_append in_line (decimal z.wide) (32 ∷ 98 ∷ 121 ∷ 32 ∷ decimal z.tall) (room_told z.wide (omega (arith, f.most_width))).0.fits
    (room_told z.tall (omega (arith, f.most_height))).0.fits

-- what follows a contact has no end of a line and no comment
more_fits : (s : Star) (z : Size) → Writable s → Fair z → all in_line (more_text s z) ≡ true
unfolding more_text all in_line
more_fits [] z w f = go (larger z)
  where
    go : (b : Bool) → all in_line (cond b (44 ∷ size_text z) []) ≡ true
    go true = unfold all in_line in size_fits z f
    go false = unfold all in refl
more_fits (e ∷ s) z (h, m, w) f = rw (contacts_front e s z) (contact_fits e (more_text s z) h m (more_fits s z w f))

-- what stands behind a room's colon has no end of a line and no comment
items_fit : (s : Star) (z : Size) → Writable s → Fair z → all in_line (items_of s z) ≡ true
unfolding contacts_text size_behind comma_behind more_text all in_line
items_fit [] z w f = go (larger z)
  where
    go : (b : Bool) → all in_line (cond b (size_text z) []) ≡ true
    go true = size_fits z f
    go false = unfold all in refl
items_fit (e ∷ s) z w f = more_fits (e ∷ s) z w f

-- a room's line, without its end, has no end of a line and no comment
line_fits : (r : ℕ) (s : Star) (z : Size) → r < 64 → Writable s → Fair z → all in_line (line_of r s z) ≡ true
unfolding all in_line
line_fits r s z h w f = all_append in_line (decimal r) (58 ∷ items_of s z) (room_told r h).0.fits (items_fit s z w f)

-- ---- the lines of a job

-- A LINE ENDS where its end stands
line_ends : (l t : List ℕ) → all in_line l ≡ true → lines (l ++ (10 ∷ t)) ≡ l ∷ lines t
unfolding lines longer in_line all
line_ends [] t a = refl
line_ends (b ∷ l) t a =
    let (x, m) = and_parts (in_line b) (all in_line l) a in
    let e : eqb b 10 ≡ false = not-true (eqb b 10) (and_left (not (eqb b 10)) (not (eqb b 35)) x) in
    rw (e, line_ends l t m)

-- a line with no comment is left as it is
no_comment : (l : List ℕ) → all in_line l ≡ true → uncommented l ≡ l
unfolding uncommented in_line all
no_comment [] a = refl
no_comment (b ∷ l) a =
    let (x, m) = and_parts (in_line b) (all in_line l) a in
    let e : eqb b 35 ≡ false = not-true (eqb b 35) (and_right (not (eqb b 10)) (not (eqb b 35)) x) in
    rw (e, no_comment l m)

-- the line of room r in front of others is read as its star and size, and then the others, with room r + 1 next and so many fewer contacts left
line_read : (i r left : ℕ) (s : Star) (z : Size) (ls : List (List ℕ)) → 4 ≤ r → r < 64 → length s ≤ left → Writable s → Fair z
    → read_lines i r left (line_of r s z ∷ ls) ≡ behind_room s z (read_lines (suc i) (suc r) (left - length s) ls)
unfolding read_lines taken
line_read i r left s z ls l h m w f =
    let p : Word 2 (decimal r) = (room_told r h).0 in
    rw (
      no_comment (line_of r s z) (line_fits r s z h w f),
      skip_word 2 (decimal r) (58 ∷ items_of s z) p,
      some_append (decimal r) (58 ∷ items_of s z) p.filled,
      room_read left r s z l h m w f,
    )

-- every star of the job has sides as its kinds and bytes as its neighbours
abbrev AllWritable : Job → Type 0
AllWritable [] = Unit {0}
AllWritable (s ∷ j) = Writable s × AllWritable j

-- THE LINES OF SOME ROOMS ARE READ BACK, with a size for each, where room r comes next and so many contacts are left
lines_read : (i r left : ℕ) (j : Job) (z : Sizes) → 4 ≤ r → 4 < r + length j → r + length j ≤ 64 → pairs_in j ≤ left → AllWritable j
    → ((v : ℕ) → Fair (size_of z v)) → read_lines i r left (lines (rooms_text r j z)) ≡ a_job (sized_job j (map (size_of z) (up_from r (length j))))
unfolding read_lines rooms_text lines uncommented skip nothing behind_room pairs_in sum up_from
lines_read i r left [] z l h m n w f = rw (ne_eqb r 4 (λ q. omega arith))
lines_read i r left (s ∷ j) z l h m n (w, v) f =
    rw (room_front r s (size_of z r) (rooms_text (suc r) j z), line_ends (line_of r s (size_of z r)) (rooms_text (suc r) j z) (line_fits r s (size_of z r) (omega arith) w (f r)))
    (line_read i r left s (size_of z r) (lines (rooms_text (suc r) j z)) l (omega arith) (omega arith) w (f r)
    ∙ ap (behind_room s (size_of z r)) (lines_read (suc i) (suc r) (left - length s) j z (omega arith) (omega arith) (omega arith) (omega arith) v f))

-- ---- the whole text

-- a star whose kinds are below 4 and whose neighbours are below 256 by the tests can be written
star_writable : (s : Star) → all (λ e. ltb e.kind 4) s ≡ true → all (λ e. ltb e.to 256) s ≡ true → Writable s
unfolding all
star_writable [] p q = tt
star_writable (e ∷ s) p q =
    let (h, k) = and_parts (ltb e.kind 4) _ p in
    let (l, m) = and_parts (ltb e.to 256) _ q in
    (ltb-true e.kind 4 h, ltb-true e.to 256 l, star_writable s k m)

-- a job that passes the tests of its kinds and neighbours has only stars that can be written
job_writable : (j : Job) → sided j ≡ true → bytes_only j ≡ true → AllWritable j
unfolding sided bytes_only all
job_writable [] p q = tt
job_writable (s ∷ j) p q =
    let (h, k) = and_parts (all (λ e. ltb e.kind 4) s) _ p in
    let (l, m) = and_parts (all (λ e. ltb e.to 256) s) _ q in
    (star_writable s h l, job_writable j k m)

-- as many rooms and pairs as the tests let pass
limits : (j : Job) → test2 (length j) ≡ true → test3 j ≡ true → (1 ≤ length j) × (length j ≤ 60) × (pairs_in j ≤ 360)
unfolding test2 test3
limits j t2 t3 =
    let (a, b) = and_parts (leb 1 (length j)) (leb (length j) 60) t2 in
    (leb-true 1 (length j) a, leb-true (length j) 60 b, leb-true (pairs_in j) 360 t3)

-- where no sizes are told, none of the rooms' is more than one cell
none_larger : (u n : ℕ) → any larger (map (size_of []) (up_from u n)) ≡ false
unfolding any larger size_of up_from
none_larger u zero = refl
none_larger u (suc n) = none_larger (suc u) n

-- the sizes of all rooms, one after the other, are told as the job tells them
told_back : (n : ℕ) (z : Sizes) → Counts n z → test17 z ≡ true → told_sizes (map (size_of z) (up_from 4 n)) ≡ z
unfolding told_sizes test17
told_back n [] c t = rw (none_larger 4 n)
told_back n (s ∷ z) (inl e) t = let q : ◌≡◌ {A = ℕ} 0 1 = cc in absurd (omega arith)
told_back n (s ∷ z) (inr e) t = rw (same, and_right (all size_ok (s ∷ z)) (any larger (s ∷ z)) t)
  where
    at_room : (i : ℕ) → size_of (s ∷ z) (4 + i) ≡ get_or (s ∷ z) i one_cell
    at_room i = unfold size_of in let e : 4 + i - 4 ≡ i = omega arith in ap (λ (k : ℕ). get_or (s ∷ z) k one_cell) e

    same : map (size_of (s ∷ z)) (up_from 4 n) ≡ s ∷ z
    same =
        ext_get_or one_cell (map (size_of (s ∷ z)) (up_from 4 n)) (s ∷ z) (omega (arith, length-map (up_from 4 n) (size_of (s ∷ z)), length_up_from 4 n))
        (λ i h. get_d_up_from (size_of (s ∷ z)) 4 n i one_cell (omega (arith, length-map (up_from 4 n) (size_of (s ∷ z)), length_up_from 4 n)) ∙ at_room i)

-- WHAT CAN BE WRITTEN AS TEXT: tests 2 and 3, kinds that are sides, neighbours that are bytes, as many sizes as rooms or none, and test 17
pub record Textable (o : SizedJob) : Type 0 where
  pub pass2 : test2 (length o.stars) ≡ true
  pub pass3 : test3 o.stars ≡ true
  pub sides : sided o.stars ≡ true
  pub bytes : bytes_only o.stars ≡ true
  pub counts : Counts (length o.stars) o.sizes
  pub pass17 : test17 o.sizes ≡ true

-- EACH TEXT THAT IS WRITTEN IS READ BACK AS THE SAME JOB
pub text_back : (o : SizedJob) → Textable o → read_text (job_text o) ≡ a_job o
unfolding read_text job_text told_job
text_back o x =
    let (l, m, n) = limits o.stars x.pass2 x.pass3 in
    rw (
      lines_read 0 4 360 o.stars o.sizes (omega arith) (omega arith) (omega arith) n (job_writable o.stars x.sides x.bytes)
          (room_fair o.sizes x.pass17),
      told_back (length o.stars) o.sizes x.counts x.pass17,
    )

-- ---- how long a text is

-- a contact has at most ten bytes
contact_length : (e : Entry) (t : List ℕ) → e.kind < 4 → e.to < 256 → length (contact_text e ++ t) ≤ 10 + length t
contact_length e t h l =
    rw (contact_front e t)
    (omega (
      arith,
      length-append (side_word e.kind) (32 ∷ (vertex_word e.to ++ t)),
      length-append (vertex_word e.to) t,
      (side_told e.kind h).0.short,
      (vertex_told e.to l).0.short,
    ))

-- a least size has at most eighteen bytes
size_length : (z : Size) → Fair z → length (size_text z) ≤ 18
unfolding size_text plain
size_length z f =
    omega (
      arith,
      length-append (decimal z.wide) (32 ∷ 98 ∷ 121 ∷ 32 ∷ decimal z.tall),
      (room_told z.wide (omega (arith, f.most_width))).0.short,
      (room_told z.tall (omega (arith, f.most_height))).0.short,
    )

-- what follows a contact has at most eleven bytes for each of the others, and nineteen for a least size
more_length : (s : Star) (z : Size) → Writable s → Fair z → length (more_text s z) ≤ 19 + 11 * length s
unfolding more_text
more_length [] z w f = go (larger z)
  where
    go : (b : Bool) → length (cond b (44 ∷ size_text z) []) ≤ 19
    go true = omega (arith, size_length z f)
    go false = omega arith
more_length (e ∷ s) z (h, m, w) f = rw (contacts_front e s z) (omega (arith, contact_length e (more_text s z) h m, more_length s z w f))

-- what stands behind a room's colon has at most eleven bytes for each contact, and nineteen for a least size
items_length : (s : Star) (z : Size) → Writable s → Fair z → length (items_of s z) ≤ 19 + 11 * length s
unfolding contacts_text size_behind comma_behind more_text
items_length [] z w f = go (larger z)
  where
    go : (b : Bool) → length (cond b (size_text z) []) ≤ 19
    go true = omega (arith, size_length z f)
    go false = omega arith
items_length (e ∷ s) z w f = omega (arith, more_length (e ∷ s) z w f)

-- a room's line has at most 23 bytes and eleven for each contact
room_length : (r : ℕ) (s : Star) (z : Size) (t : List ℕ) → r < 64 → Writable s → Fair z → length (room_text r s z ++ t) ≤ 23 + 11 * length s + length t
room_length r s z t h w f =
    rw (room_front r s z t)
    (omega (
      arith,
      length-append (line_of r s z) (10 ∷ t),
      length-append (decimal r) (58 ∷ items_of s z),
      (room_told r h).0.short,
      items_length s z w f,
    ))

-- the lines of some rooms have at most 23 bytes for each room and eleven for each contact
rooms_length : (r : ℕ) (j : Job) (z : Sizes) → r + length j ≤ 64 → AllWritable j → ((v : ℕ) → Fair (size_of z v))
    → length (rooms_text r j z) ≤ 23 * length j + 11 * pairs_in j
unfolding rooms_text pairs_in sum
rooms_length r [] z m w f = omega arith
rooms_length r (s ∷ j) z m (w, v) f =
    omega (arith, room_length r s (size_of z r) (rooms_text (suc r) j z) (omega arith) w (f r), rooms_length (suc r) j z (omega arith) v f)

-- A TEXT THAT IS WRITTEN IS SHORT: 60 rooms of 23 bytes, 360 contacts of 11
pub text_length : (o : SizedJob) → Textable o → length (job_text o) ≤ 5340
unfolding job_text
text_length o x =
    let (l, m, n) = limits o.stars x.pass2 x.pass3 in
    omega (arith, rooms_length 4 o.stars o.sizes (omega arith) (job_writable o.stars x.sides x.bytes) (room_fair o.sizes x.pass17))

-- ---- there and back

-- a job that is written as bytes has no neighbour over 255
star_small : (s : Star) (t : List ℕ) → Bytes (star_bytes s ++ t) → all (λ e. ltb e.to 256) s ≡ true
unfolding star_bytes all
star_small [] t b = refl
star_small (e ∷ s) t b = and_both (ltb e.to 256) _ (lt-ltb e.to 256 b.0) (star_small s t b.1.1)

-- stars that are written as bytes in front of some more have no neighbour over 255
stars_small : (j : Job) (t : List ℕ) → Bytes (write_stars j ++ t) → bytes_only j ≡ true
unfolding write_stars write_field bytes_only all
stars_small [] t b = refl
stars_small (s ∷ j) t b =
    let c : Bytes (star_bytes s ++ (write_stars j ++ t)) = subst Bytes (append_assoc (star_bytes s) (write_stars j) t) b.1.1.1 in
    and_both (all (λ e. ltb e.to 256) s) _ (star_small s (write_stars j ++ t) c) (stars_small j t (bytes_behind (star_bytes s) (write_stars j ++ t) c))

-- nor has a job that is written as bytes
job_small : (o : SizedJob) → Bytes (write_sized o) → bytes_only o.stars ≡ true
unfolding write_sized write_job
job_small o b =
    stars_small o.stars (write_sizes o.sizes) (bytes_behind (write_field 1 (length o.stars ∷ [])) (write_stars o.stars ++ write_sizes o.sizes)
    (subst Bytes (append_assoc (write_field 1 (length o.stars ∷ [])) (write_stars o.stars) (write_sizes o.sizes)) b))

-- what passes a test behind another passed it, and is what went in
passed : (a : Bool) (k : ℕ) (r : Reading SizedJob) (o : SizedJob) → passing a k r ≡ reads o → (a ≡ true) × (r ≡ reads o)
unfolding passing
passed true k r o e = (refl, e)
passed false k r o e = let z : ◌≡◌ {A = ℕ} 0 1 = cc in absurd (omega arith)

-- what passes as text was read, and passed what is asked of it
texted_parts : (r : Reading SizedJob) (o : SizedJob) → texted (first_three r) ≡ reads o
    → (r ≡ reads o) × (test3 o.stars ≡ true) × (sided o.stars ≡ true) × (test17 o.sizes ≡ true)
unfolding texted first_three
texted_parts (fails k) o e = let z : ◌≡◌ {A = ℕ} 0 1 = cc in absurd (omega arith)
texted_parts (reads i) o e = go (test3 i.stars) refl e
  where
    job : reads i ≡ reads o → i ≡ o
    job e = cc

    go : (a : Bool) → test3 i.stars ≡ a → texted (passing a 3 (reads i)) ≡ reads o
        → (reads i ≡ reads o) × (test3 o.stars ≡ true) × (sided o.stars ≡ true) × (test17 o.sizes ≡ true)
    go true p f =
        let (q, g) = passed (sided i.stars) 4 (passing (test17 i.sizes) 17 (reads i)) o (unfold passing in f) in
        let (t, h) = passed (test17 i.sizes) 17 (reads i) o g in
        let x : i ≡ o = job h in
        (h, rw x at p, rw x at q, rw x at t)
    go false p f = unfold passing texted in let z : ◌≡◌ {A = ℕ} 0 1 = cc in absurd (omega arith)

-- THERE AND BACK: the bytes of a job whose text can be written, written as text and read, are the very bytes
pub there_and_back : (bs : List ℕ) (o : SizedJob) → Bytes bs → texted (first_three (read_job bs)) ≡ reads o → job_of (text_of bs) ≡ bs
unfolding text_of text_answer job_of job_answer
there_and_back bs o ok e =
    let (r, t3, s, t17) = texted_parts (read_job bs) o e in
    let w : write_sized o ≡ bs = write_read_job bs o ok r in
    let x : Textable o = record {
      pass2 = read_test2 bs o r;
      pass3 = t3;
      sides = s;
      bytes = job_small o (rw w ok);
      counts = read_counts bs o r;
      pass17 = t17;
    } in
    let (_, rooms, pairs) = limits o.stars x.pass2 t3 in
    let short : leb (length bs) 8192 ≡ true = le-leb (length bs) 8192 (omega (arith, ap length w, length_write_sized o x.counts)) in
    let l : leb (length (job_text o)) 16384 ≡ true = le-leb (length (job_text o)) 16384 (omega (arith, text_length o x)) in
    rw (short, e, l, text_back o x) w

-- so is its text: written, read and written again
pub text_again : (bs : List ℕ) (o : SizedJob) → Bytes bs → texted (first_three (read_job bs)) ≡ reads o → text_of (job_of (text_of bs)) ≡ text_of bs
text_again bs o ok e = ap text_of (there_and_back bs o ok e)
