-- A room's line, as the code comes by it. Assumes nothing.
use Prim.Native.Nat.{ℕ, suc, ◌+◌, ◌-◌, ◌*◌, ◌<◌, ◌≤◌}
use mathlib.Core.Path.{◌≡◌, refl, sym, ◌∙◌, ap}
use mathlib.Core.Bool.{Bool, true, false, cond, not}
use mathlib.Core.List.{List, [], ◌∷◌}
use native.Mathlib.Omega.{arith}
use borrow.Author.Tests.{le-leb, lt-leb, eq-eqb, ne_eqb}
use lib.Dec.{eqb}
use lib.ListN.{length, set}
use Rattle.std.specs.Prelude.{Option, None, Some, Result, Ok, Err}
use Rattle.std.specs.Option.{option_eq}
use Rattle.floor.specs.Jobs.{Star, Size, test2}
use Rattle.floor.specs.JobTexts.{word, next, number_of, a_byte, skip, uncommented, contacts, any_contacts, behind_number, room_line, says}
use Rattle.floor.specs.JobTexts.{room_number, Line, lacks, star}
use Rattle.stars.specs.Held.{put_star}
use Rattle.stars.specs.Sized.{size}
use Rattle.job_texts.specs.declared.entries.Held.{Held}
use Rattle.job_texts.specs.declared.Lack.{Lack}
use Rattle.job_texts.specs.declared.Lack.TheVariants.{RoomNumber, Colon, NoRoom}
use Rattle.job_texts.specs.declared.Row.{Row}
use Rattle.job_texts.specs.declared.Rooms.{Rooms}
use Rattle.job_texts.specs.Reads.{said, lack_of, told_size, Put, put_entry, put_entries, put_contacts, row_of, bad_line, good_line, close_at, put_size, close_put, put_room}
use Rattle.job_texts.specs.Reads.{put_line, on_line, lined_of}
use Rattle.job_texts.proofs.Said.{said_number}
use Rattle.job_texts.proofs.Pieces.{no_length, some_length}

-- entries put and their star closed: one star more
close_entries : (h : Held) (s : Star) → close_at (put_entries h s) ≡ record { stars = put_star h.stars h.next s; next = h.next + length s }
unfolding close_at put_entries put_entry put_star
close_entries h [] = let z : h.next + 0 ≡ h.next = omega arith in rw z
close_entries h (d ∷ s) =
    let y : h.next + 1 ≡ suc h.next = omega arith in
    let z : h.next + suc (length s) ≡ suc h.next + length s = omega arith in
    close_entries (put_entry h d.to d.kind) s ∙ rw (y, z)

-- entries put leave the number of stars
entries_count : (h : Held) (s : Star) → (put_entries h s).stars.count ≡ h.stars.count
unfolding put_entries put_entry
entries_count h [] = refl
entries_count h (d ∷ s) = entries_count (put_entry h d.to d.kind) s

-- one room more, by its closed star and its put size
closed_room : (h : Rooms) (s : Star) (z : Size)
    → ◌≡◌ {A = Rooms} (record { held = close_at (put_entries h.held s); list = put_size h.list (put_entries h.held s).stars.count z }) (put_room h s z)
unfolding put_room
closed_room h s z = rw (close_entries h.held s, entries_count h.held s)

-- the contacts of a line put, their star closed and their size put are the line put
close_contacts : (h : Rooms) (l : Line) → close_put h.list (put_contacts h.held l) ≡ put_line h l
unfolding close_put put_contacts put_line
close_contacts h (lacks x) = refl
close_contacts h (star s z) = ap good_line (closed_room h s z)

-- a size put
pub size_put : (l : List ℕ) (i w h : ℕ) → set (set l (2 * i) w) (2 * i + 1) h ≡ put_size l i (size w h)
unfolding put_size
size_put l i w h = refl

-- behind the number of a room
module _ (t : List ℕ) (h : Held) (left : ℕ) where
  pub no_colon : t ≡ [] → row_of (Err Colon) ≡ put_contacts h (behind_number left t)
  unfolding behind_number put_contacts lack_of row_of
  no_colon e = rw e

  module _ (x : ℕ) (s : List ℕ) (e : t ≡ x ∷ s) where
    pub other_colon : (x ≡ 58 → ⊥) → row_of (Err Colon) ≡ put_contacts h (behind_number left t)
    unfolding behind_number put_contacts lack_of row_of
    other_colon n = rw (e, ne_eqb x 58 n)

    module _ (c : x ≡ 58) (u : List ℕ) (eu : u ≡ skip s) where
      behind_colon : behind_number left t ≡ any_contacts left u
      unfolding behind_number
      behind_colon = rw (e, eq-eqb x 58 c, eu)

      pub no_contacts : length u ≡ 0 → row_of (Ok (record { held = h; size = record { wide = 1; tall = 1 } })) ≡ put_contacts h (behind_number left t)
      unfolding any_contacts put_contacts put_entries row_of
      no_contacts q = rw behind_colon (go u q)
        where
          go : (l : List ℕ) → length l ≡ 0 → row_of (Ok (record { held = h; size = record { wide = 1; tall = 1 } })) ≡ put_contacts h (any_contacts left l)
          go [] q = refl
          go (y ∷ l) q = absurd (omega arith)

      pub some_contacts : (p : Put) → (length u ≡ 0 → ⊥) → p ≡ put_contacts h (contacts left u) → p ≡ put_contacts h (behind_number left t)
      unfolding any_contacts
      some_contacts p q i = rw behind_colon (i ∙ go u q)
        where
          go : (l : List ℕ) → (length l ≡ 0 → ⊥) → put_contacts h (contacts left l) ≡ put_contacts h (any_contacts left l)
          go [] q = absurd (q refl)
          go (y ∷ l) q = refl

-- what is told differs from a number
pub told_other : (k : Option ℕ) (r : ℕ) (b : Bool) → b ≡ not (option_eq eqb k (Some r)) → b ≡ true → (k ≡ Some r → ⊥)
told_other k r b eb t e =
    let z : not (eqb r r) ≡ true = rw e at (sym eb ∙ t) in
    let y : ◌≡◌ {A = Bool} false true = rw (eq-eqb r r refl) at z in
    cc

-- the next room's line
module _ (s : List ℕ) (h : Rooms) (n : ℕ) (en : n ≡ h.held.stars.count) where
  pub rooms_over : 60 ≤ n → lined_of (Err NoRoom) ≡ put_line h (room_line (360 - h.held.next) (4 + h.held.stars.count) s)
  unfolding room_line test2 put_line lack_of lined_of
  rooms_over l =
      let z : 4 + h.held.stars.count - 3 ≡ n + 1 = omega arith in
      rw (z, le-leb 1 (n + 1) (omega arith), lt-leb (n + 1) 60 (omega arith))

  module _ (l : n < 60) (w : List ℕ) (k : Option ℕ) (ew : w ≡ word s) (ek : said k ≡ a_byte (number_of w)) where
    in_turn : room_line (360 - h.held.next) (4 + h.held.stars.count) s ≡ cond (says (4 + n) (said k)) (behind_number (360 - h.held.next) (next s)) (lacks (room_number (4 + n)))
    unfolding room_line test2
    in_turn =
        let z : 4 + h.held.stars.count - 3 ≡ n + 1 = omega arith in
        let y : 4 + n ≡ 4 + h.held.stars.count = omega arith in
        rw (z, le-leb 1 (n + 1) (omega arith), le-leb (n + 1) 60 (omega arith), ← ew, ← y, said_number k (4 + n) (number_of w) ek (omega arith))

    pub other_number : (k ≡ Some (4 + n) → ⊥) → lined_of (Err (RoomNumber (4 + n))) ≡ put_line h (room_line (360 - h.held.next) (4 + h.held.stars.count) s)
    unfolding put_line lack_of lined_of says said
    other_number q = rw in_turn (go k q)
      where
        go : (j : Option ℕ) → (j ≡ Some (4 + n) → ⊥)
            → bad_line (room_number (4 + n)) ≡ put_line h (cond (says (4 + n) (said j)) (behind_number (360 - h.held.next) (next s)) (lacks (room_number (4 + n))))
        go None q = refl
        go (Some i) q = rw (ne_eqb i (4 + n) (λ e. q (ap Some e)))

    module _ (e : k ≡ Some (4 + n)) (t : List ℕ) (et : t ≡ next s) (q : Result Row Lack) (eq : row_of q ≡ put_contacts h.held (behind_number (360 - h.held.next) t)) where
      -- what is put of the line is what is put of its contacts, with their star closed
      in_line : close_put h.list (row_of q) ≡ put_line h (room_line (360 - h.held.next) (4 + h.held.stars.count) s)
      unfolding says said
      in_line = rw (in_turn, e, eq-eqb (4 + n) (4 + n) refl, ← et, eq) (close_contacts h (behind_number (360 - h.held.next) t))

      pub row_lacks : (y : Lack) (r : Result Rooms Lack) → q ≡ Err y → r ≡ Err y → lined_of r ≡ put_line h (room_line (360 - h.held.next) (4 + h.held.stars.count) s)
      unfolding row_of close_put lined_of
      row_lacks y r f g = rw g (rw f at in_line)

      pub room_closed : (p : Row) (g : Held) (l : List ℕ) → q ≡ Ok p → p.held.stars.count ≡ h.held.stars.count → l ≡ put_size h.list n (told_size p.size)
          → g ≡ close_at p.held → lined_of (Ok (record { held = g; list = l })) ≡ put_line h (room_line (360 - h.held.next) (4 + h.held.stars.count) s)
      unfolding row_of close_put lined_of
      room_closed p g l f c el eg = let z : n ≡ p.held.stars.count = en ∙ sym c in rw (el, eg, z) (rw f at in_line)

-- a line as it stands in a text
module _ (s b : List ℕ) (h : Rooms) (e : b ≡ skip (uncommented s)) where
  pub line_nothing : length b ≡ 0 → lined_of (Ok h) ≡ on_line h (skip (uncommented s))
  unfolding on_line lined_of
  line_nothing l = rw (← e, no_length b l)

  pub line_room : (r : Result Rooms Lack) → (length b ≡ 0 → ⊥) → lined_of r ≡ put_line h (room_line (360 - h.held.next) (4 + h.held.stars.count) b)
      → lined_of r ≡ on_line h (skip (uncommented s))
  unfolding on_line
  line_room r n i = rw (← e, some_length b n) i
