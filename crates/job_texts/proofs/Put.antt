-- A job as text, piece by piece, as the code comes by it. Assumes nothing.
use Prim.Native.Nat.{ℕ, zero, suc, ◌+◌, ◌-◌, ◌<◌, ◌≤◌}
use mathlib.Core.Path.{◌≡◌, refl, ap}
use mathlib.Core.Bool.{Bool, true, false, not}
use mathlib.Core.List.{List, [], ◌∷◌, ◌++◌, append_assoc, append-nil}
use native.Mathlib.Omega.{arith}
use borrow.Author.Tests.{le-ltb, not-true, not-false}
use lib.ListN.{length, get_or, get_or-eq_default}
use Rattle.floor.specs.Jobs.{Entry, Star, Size, Sizes, sized_job, size_of, larger}
use Rattle.floor.specs.Quoted.{plain}
use Rattle.floor.specs.Texts.{decimal}
use Rattle.floor.specs.JobTexts.{side_words, frame_words, side_word, vertex_word, contact_text, contacts_text, size_text, comma_behind, size_behind, room_text, rooms_text}
use Rattle.floor.specs.JobTexts.{job_text}
use Rattle.stars.specs.Pairs.{pair}
use Rattle.stars.specs.Held.{to_at, entry_at, cells, start_of, end_of, held_star, stars_in, job_in}
use Rattle.stars.specs.Sized.{size}
use Rattle.stars.proofs.Holding.{cells_more, cells_done, held_more, held_done}
use Rattle.letters.specs.Puts.{Puts}
use Rattle.letters.proofs.Rows.{none_put, both_puts}
use Rattle.job_texts.specs.Writes.{side_text, more_text}

-- the sides
pub side_put : (j k : ℕ) {o x : List ℕ} {at r : ℕ} → k ≡ j → Puts o at (side_text j) x r → Puts o at (side_text k) x r
side_put j k e p = rw e p

-- a number that is no kind has no side: two blanks
pub side_none : (k : ℕ) → (k ≡ 0 → ⊥) → (k ≡ 1 → ⊥) → (k ≡ 2 → ⊥) → (k ≡ 3 → ⊥) → plain "  " ≡ side_text k
unfolding side_text side_word side_words plain
side_none k a b c d = let l : length side_words ≤ k = omega arith in rw (get_or-eq_default side_words [] l)

-- a vertex: a letter, or a number
pub frame_word : (v : ℕ) → v < 4 → get_or (78 ∷ 87 ∷ 83 ∷ 69 ∷ []) v 0 ∷ [] ≡ vertex_word v
unfolding vertex_word frame_words plain
frame_word zero h = refl
frame_word (suc zero) h = refl
frame_word (suc (suc zero)) h = refl
frame_word (suc (suc (suc zero))) h = refl
frame_word (suc (suc (suc (suc v)))) h = absurd (omega arith)

-- a room is written by its number
pub number_word : (v : ℕ) → 4 ≤ v → decimal v ≡ vertex_word v
unfolding vertex_word
number_word v h = rw (le-ltb v 4 h)

-- a contact: its side, then its vertex
contact_parts : (v k : ℕ) → side_text k ++ vertex_word v ≡ contact_text (pair v k)
unfolding side_text contact_text plain
contact_parts v k = ap (λ (t : List ℕ). 32 ∷ t) (append_assoc (side_word k) (32 ∷ []) (vertex_word v))

-- a side put, and a vertex behind it, are the contact at a place put
pub contact_put : (nbr kind : List ℕ) (i v k : ℕ) {o x y : List ℕ} {at m r : ℕ} → k ≡ get_or kind i 0 → v ≡ to_at nbr i → Puts o at (side_text k) x m
    → Puts x m (vertex_word v) y r → Puts o at (contact_text (entry_at nbr kind i)) y r
unfolding entry_at
contact_put nbr kind i v k e f p q = rw (← e, ← f) (rw contact_parts at (both_puts _ _ _ _ _ _ _ _ p q))

-- what is left of a text: put where it belongs, it ends the whole
abbrev pub Left : List ℕ → ℕ → List ℕ → List ℕ → ℕ → List ℕ → Type 0
Left o at w x m t = (y : List ℕ) (r : ℕ) → Puts x m t y r → Puts o at w y r

-- contacts, a comma before each, to an end
module _ (nbr kind : List ℕ) (end k : ℕ) {o w x : List ℕ} {at m : ℕ} where
  pub more_next : {y z : List ℕ} {p q : ℕ} → k < end → Puts y p (contact_text (entry_at nbr kind k)) z q → Puts x m (44 ∷ []) y p
      → Left o at w x m (more_text (cells (end - k) k nbr kind)) → Left o at w z q (more_text (cells (end - (k + 1)) (k + 1) nbr kind))
  unfolding more_text plain
  more_next h b a inv y r c = inv y r (rw (cells_more nbr kind end k h) (both_puts _ _ _ _ _ _ _ _ a (both_puts _ _ _ _ _ _ _ _ b c)))

  pub more_done : end ≤ k → Left o at w x m (more_text (cells (end - k) k nbr kind)) → Puts o at w x m
  unfolding more_text
  more_done h inv = inv x m (rw (cells_done nbr kind end k h) (none_put x m))

-- contacts with commas between: the first, then the others
first_contact : (e : Entry) (s : Star) → contact_text e ++ more_text s ≡ contacts_text (e ∷ s)
unfolding contacts_text more_text
first_contact e [] = append-nil (contact_text e)
first_contact e (f ∷ s) = rw (first_contact f s)

module _ (nbr kind : List ℕ) (end k : ℕ) {o : List ℕ} {at : ℕ} where
  pub contacts_none : end ≤ k → Puts o at (contacts_text (cells (end - k) k nbr kind)) o at
  unfolding contacts_text
  contacts_none h = rw (cells_done nbr kind end k h) (none_put o at)

  pub contacts_put : {x y : List ℕ} {m r : ℕ} → k < end → Puts x m (more_text (cells (end - (k + 1)) (k + 1) nbr kind)) y r
      → Puts o at (contact_text (entry_at nbr kind k)) x m → Puts o at (contacts_text (cells (end - k) k nbr kind)) y r
  contacts_put h q p = rw (cells_more nbr kind end k h, ← first_contact) (both_puts _ _ _ _ _ _ _ _ p q)

-- a least size: `at least`, the width, `by`, the height
pub size_put : (w h x y : ℕ) {o p q s t : List ℕ} {at a b c r : ℕ} → x ≡ w → y ≡ h → Puts o at (plain " at least ") p a → Puts p a (decimal x) q b
    → Puts q b (plain " by ") s c → Puts s c (decimal y) t r → Puts o at (size_text (size w h)) t r
unfolding size_text
size_put w h x y ex ey d e f g = rw (← ex, ← ey) (both_puts _ _ _ _ _ _ _ _ d (both_puts _ _ _ _ _ _ _ _ e (both_puts _ _ _ _ _ _ _ _ f g)))

-- a least size behind the contacts from a place to an end
module _ (end k : ℕ) (z : Size) (b : Bool) (eb : b ≡ larger z) (nbr kind : List ℕ) {o : List ℕ} {at : ℕ} where
  -- where it is one cell, it is left out
  pub behind_none : not b ≡ true → Puts o at (size_behind (cells (end - k) k nbr kind) z) o at
  unfolding size_behind
  behind_none n = rw (← eb, not-true b n) (none_put o at)

  -- behind no contacts it has no comma
  pub behind_bare : {x : List ℕ} {r : ℕ} → not b ≡ false → end ≤ k → Puts o at (size_text z) x r → Puts o at (size_behind (cells (end - k) k nbr kind) z) x r
  unfolding size_behind comma_behind
  behind_bare n h p = rw (← eb, not-false b n, cells_done nbr kind end k h) p

  -- behind contacts it has a comma
  pub behind_comma : {x y : List ℕ} {m r : ℕ} → not b ≡ false → k < end → Puts o at (44 ∷ []) x m → Puts x m (size_text z) y r
      → Puts o at (size_behind (cells (end - k) k nbr kind) z) y r
  unfolding size_behind comma_behind plain
  behind_comma n h p q = rw (← eb, not-false b n, cells_more nbr kind end k h) (both_puts _ _ _ _ _ _ _ _ p q)

-- a width and a height that are those of a size are that size
same_size : (z : Size) (w h : ℕ) → w ≡ z.wide → h ≡ z.tall → size w h ≡ z
same_size z w h e f = rw (e, f)

-- a room's line
pub room_put : (ends nbr kind : List ℕ) (i n k end : ℕ) (z : Size) (w h : ℕ) {o x y u v : List ℕ} {at p q m r : ℕ} → k ≡ start_of ends (length nbr) i
    → end ≡ end_of ends (length nbr) i → w ≡ z.wide → h ≡ z.tall → Puts o at (decimal n ++ (58 ∷ [])) x p → Puts x p (contacts_text (cells (end - k) k nbr kind)) y q
    → ((nbr kind : List ℕ) → Puts y q (size_behind (cells (end - k) k nbr kind) (size w h)) u m) → Puts u m (10 ∷ []) v r
    → Puts o at (room_text n (held_star ends nbr kind i) z) v r
unfolding room_text held_star plain
room_put ends nbr kind i n k end z w h ek ee ew eh a b c d =
    let t : List ℕ = contacts_text (cells (end - k) k nbr kind) ++ (size_behind (cells (end - k) k nbr kind) (size w h) ++ (10 ∷ [])) in
    rw (← same_size z w h ew eh, ← ek, ← ee, ← append_assoc (decimal n) (58 ∷ []) t)
    (both_puts _ _ _ _ _ _ _ _ a (both_puts _ _ _ _ _ _ _ _ b (both_puts _ _ _ _ _ _ _ _ (c nbr kind) d)))

-- the lines of the rooms, one by one
module _ (ends nbr kind : List ℕ) (z : Sizes) (n i : ℕ) {o w x : List ℕ} {at m : ℕ} where
  -- the next line put, those behind it are left
  pub rooms_next : {y : List ℕ} {p : ℕ} → i < n → Puts x m (room_text (4 + i) (held_star ends nbr kind i) (size_of z (4 + i))) y p
      → Left o at w x m (rooms_text (4 + i) (stars_in (n - i) i ends nbr kind) z)
      → Left o at w y p (rooms_text (4 + (i + 1)) (stars_in (n - (i + 1)) (i + 1) ends nbr kind) z)
  unfolding rooms_text
  rooms_next h a inv y r b =
      let e : 4 + (i + 1) ≡ suc (4 + i) = omega arith in
      inv y r (rw (held_more ends nbr kind n i h) (both_puts _ _ _ _ _ _ _ _ a (rw e at b)))

  -- behind the last room no line is left
  pub rooms_done : n ≤ i → Left o at w x m (rooms_text (4 + i) (stars_in (n - i) i ends nbr kind) z) → Puts o at w x m
  unfolding rooms_text
  rooms_done h inv = inv x m (rw (held_done ends nbr kind n i h) (none_put x m))

-- nothing written yet
pub rooms_first : (n : ℕ) (ends nbr kind : List ℕ) (z : Sizes) {o : List ℕ}
    → Left o 0 (job_text (sized_job (job_in n ends nbr kind) z)) o 0 (rooms_text (4 + 0) (job_in (n - 0) ends nbr kind) z)
unfolding job_text
rooms_first n ends nbr kind z y r p = let e : n - 0 ≡ n = omega arith in rw e at p
