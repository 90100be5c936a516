-- What comes of reading a text, as the code tells it. Assumes nothing.
use Rattle.std.specs.Prelude.{ℕ, ◌+◌, ◌-◌, ◌*◌, Bool, cond, ◌&&◌, List, [], ◌∷◌, length, drop, set, replicate}
use Rattle.std.specs.Prelude.{Option, None, Some, Result, Ok, Err}
use Rattle.std.proofs.Math.Option.{Option as Maybe, none, some}
use Rattle.floor.specs.Lists.{same_numbers}
use Rattle.floor.specs.Quoted.{plain}
use Rattle.floor.specs.Jobs.{Entry, Star, Job, Size, Sizes}
use Rattle.floor.specs.JobTexts.{word, next, digits_on, a_byte, kind_of_word, vertex_of_word, skip, followed, behind_contact, contacts, nothing, room_line, read_lines}
use Rattle.floor.specs.JobTexts.{Expected, room_number, colon, side, neighbour, comma, least_size, no_room, no_contact, Line, lacks, star, TextRead, wrong_line, a_job}
use Rattle.stars.specs.Pairs.{pair}
use Rattle.stars.specs.Held.{no_stars, put_star}
use Rattle.stars.specs.Sized.{size}
use Rattle.job_texts.specs.declared.Lack.{Lack}
use Rattle.job_texts.specs.declared.Lack.TheVariants.{RoomNumber, Colon, Side, Neighbour, Comma, LeastSize, NoRoom, NoContact}
use Rattle.job_texts.specs.declared.entries.Held.{Held}
use Rattle.job_texts.specs.declared.Slip.{Slip}
use Rattle.job_texts.specs.declared.Contact.{Contact}
use Rattle.job_texts.specs.declared.Measure.{Measure}
use Rattle.job_texts.specs.declared.Row.{Row}
use Rattle.job_texts.specs.declared.Rooms.{Rooms}
use Rattle.jobs.specs.declared.Job.{Job as Taken}
use Rattle.jobs.specs.Reads.{held_job}

-- the number that the code tells, if any
unfoldable pub said : Option ℕ → Maybe ℕ
said None = none
said (Some n) = some n

-- the number, if a byte can hold it, that a text says behind the number that the code tells, if any
unfoldable pub said_on : Option ℕ → List ℕ → Maybe ℕ
said_on None t = none
said_on (Some n) t = a_byte (digits_on n t)

-- what a lack says
unfoldable pub lack_of : Lack → Expected
lack_of (RoomNumber r) = room_number r
lack_of Colon = colon
lack_of Side = side
lack_of Neighbour = neighbour
lack_of Comma = comma
lack_of LeastSize = least_size
lack_of NoRoom = no_room
lack_of NoContact = no_contact

-- the number that it names, if any
unfoldable pub number_in : Expected → ℕ
number_in (room_number r) = r
number_in colon = 0
number_in side = 0
number_in neighbour = 0
number_in comma = 0
number_in least_size = 0
number_in no_room = 0
number_in no_contact = 0

-- ---- one contact

-- what stands where a contact should: what is lacking, or an entry and the text of the next thing
pub data Piece : Type 0 where
  without : Expected → Piece
  piece : Entry → List ℕ → Piece

-- a contact by its side and its neighbour, if there are such
unfoldable pub piece_from : Maybe ℕ → Maybe ℕ → List ℕ → Piece
piece_from none v u = without side
piece_from (some k) none u = without neighbour
piece_from (some k) (some v) u = piece (pair v k) u

-- the contact in front of a text
unfoldable pub piece_of : List ℕ → Piece
piece_of t = piece_from (kind_of_word (word t)) (vertex_of_word (word (next t))) (next (next t))

-- what the code tells of it
unfoldable pub piece_in : Result Contact Lack → Piece
piece_in (Err x) = without (lack_of x)
piece_in (Ok c) = piece (pair c.to c.kind) c.rest.now

-- the contacts of a line, when the first of them is known
unfoldable pub on_piece : Piece → ℕ → Line
on_piece (without x) left = lacks x
on_piece (piece e u) left = behind_contact e (followed u (contacts left (skip (drop 1 u))))

-- ---- a least size

-- it begins there: the word `at` stands in front
unfoldable pub size_begins : List ℕ → Bool
size_begins t = same_numbers (word t) (plain "at")

-- its other words stand there: `least`, some word, `by` and some word, and nothing behind them
unfoldable pub size_words : List ℕ → Bool
size_words t =
    let b : List ℕ = next (next t) in
    same_numbers (word t) (plain "least") && same_numbers (word b) (plain "by") && nothing (next (next b))

-- the size that the code tells
abbrev pub told_size : Measure → Size
told_size m = size m.wide m.tall

-- what the code tells of a least size, with which a line ends
unfoldable pub measured : Option Measure → Line
measured None = lacks least_size
measured (Some m) = star [] (told_size m)

-- ---- the contacts of a line

-- what contacts come to when they are put behind held stars: what is lacking, or the stars with them, and the least size
pub data Put : Type 0 where
  bad : Expected → Put
  good : Held → Size → Put

-- an entry put; the number of stars and their ends stay
unfoldable pub put_entry : Held → ℕ → ℕ → Held
put_entry h v e =
    record {
      stars = record { count = h.stars.count; ends = h.stars.ends; nbr = set h.stars.nbr h.next v; kind = set h.stars.kind h.next e };
      next = h.next + 1;
    }

-- the entries of a star put
unfoldable pub put_entries : Held → Star → Held
put_entries h [] = h
put_entries h (e ∷ s) = put_entries (put_entry h e.to e.kind) s

-- contacts put
unfoldable pub put_contacts : Held → Line → Put
put_contacts h (lacks x) = bad x
put_contacts h (star s z) = good (put_entries h s) z

-- what the answer of the code tells of contacts
unfoldable pub row_of : Result Row Lack → Put
row_of (Err x) = bad (lack_of x)
row_of (Ok r) = good r.held (told_size r.size)

-- ---- one line

-- what a line comes to when it is put behind held rooms: what is lacking, or the rooms with it
pub data LinePut : Type 0 where
  bad_line : Expected → LinePut
  good_line : Rooms → LinePut

-- no rooms
unfoldable pub no_rooms : Rooms
no_rooms = record { held = record { stars = no_stars; next = 0 }; list = replicate 120 0 }

-- the star closed whose entries end at the place
unfoldable pub close_at : Held → Held
close_at h =
    record {
      stars = record { count = h.stars.count + 1; ends = set h.stars.ends h.stars.count h.next; nbr = h.stars.nbr; kind = h.stars.kind };
      next = h.next;
    }

-- the size of a room, the i-th from the first, put
unfoldable pub put_size : List ℕ → ℕ → Size → List ℕ
put_size l i z = set (set l (2 * i) z.wide) (2 * i + 1) z.tall

-- contacts that were put, with their star closed, and their size put among those before
unfoldable pub close_put : List ℕ → Put → LinePut
close_put l (bad x) = bad_line x
close_put l (good h z) = good_line (record { held = close_at h; list = put_size l h.stars.count z })

-- one room more: its star and its size
unfoldable pub put_room : Rooms → Star → Size → Rooms
put_room h s z =
    record {
      held = record { stars = put_star h.held.stars h.held.next s; next = h.held.next + length s };
      list = put_size h.list h.held.stars.count z;
    }

-- a whole line put
unfoldable pub put_line : Rooms → Line → LinePut
put_line h (lacks x) = bad_line x
put_line h (star s z) = good_line (put_room h s z)

-- a line without its comment and the blanks in front, put; where nothing stands there all stays
unfoldable pub on_line : Rooms → List ℕ → LinePut
on_line h t = cond (nothing t) (good_line h) (put_line h (room_line (360 - h.held.next) (4 + h.held.stars.count) t))

-- what the answer of the code tells of a line
unfoldable pub lined_of : Result Rooms Lack → LinePut
lined_of (Err x) = bad_line (lack_of x)
lined_of (Ok h) = good_line h

-- ---- the whole text

-- what some lines come to when their rooms are held: the first wrong line and what is lacking there, or the rooms
pub data Kept : Type 0 where
  wrong_at : ℕ → Expected → Kept
  all_held : Rooms → Kept

-- some rooms more, as many as have both a star and a size
unfoldable pub put_rooms : Rooms → Job → Sizes → Rooms
put_rooms h [] z = h
put_rooms h (s ∷ j) [] = h
put_rooms h (s ∷ j) (x ∷ z) = put_rooms (put_room h s x) j z

-- what is left of a text put behind held rooms
unfoldable pub finish : Rooms → TextRead → Kept
finish h (wrong_line i x) = wrong_at i x
finish h (a_job o) = all_held (put_rooms h o.stars o.sizes)

-- the lines behind line i put behind held rooms
unfoldable pub on_lines : Rooms → ℕ → List (List ℕ) → Kept
on_lines h i ls = finish h (read_lines i (4 + h.held.stars.count) (360 - h.held.next) ls)

-- what the answer of the code tells of all lines
unfoldable pub gathered_of : Result Rooms Slip → Kept
gathered_of (Err x) = wrong_at x.line (lack_of x.lack)
gathered_of (Ok h) = all_held h

-- what the answer of the code tells of a text: that job, or the wrong line
unfoldable pub taken_of : Result Taken Slip → TextRead
taken_of (Err x) = wrong_line x.line (lack_of x.lack)
taken_of (Ok r) = a_job (held_job r)
