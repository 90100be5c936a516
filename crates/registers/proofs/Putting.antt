-- The fields of a register put one by one, as the code comes by them. Assumes nothing.
use Prim.Native.Nat.{ℕ, zero, suc, ◌+◌, ◌*◌, ◌-◌, ◌%◌, ◌<◌, ◌≤◌}
use mathlib.Core.Path.{◌≡◌, refl, sym, ap, ◌∙◌}
use mathlib.Core.Bool.{Bool, true, false, cond}
use mathlib.Core.List.{List, [], ◌∷◌, ◌++◌}
use native.Mathlib.Omega.{arith}
use borrow.Author.Tests.{le-leb, lt-ltb, le-ltb}
use lib.Dec.{ltb}
use lib.ListN.{length, get_or, set}
use lib.Seq.{sets}
use Rattle.floor.specs.Fields.{write_field}
use Rattle.floor.specs.Registers.{Partition, partition_bytes, write_register}
use Rattle.floor.proofs.Calls.Registered.{length_write_register}
use Rattle.fields.specs.Found.{with_head}
use Rattle.std.specs.Prelude.{Ok, Err}
use Rattle.refusals.specs.declared.Refusal.TheVariants.{TooShort}
use Rattle.fields.specs.Writes.{replied, writing}
use Rattle.fields.proofs.Puts.{sets_append, short_writes, front_writes}
use Rattle.drawing.specs.Rects.{in_bytes}
use Rattle.registers.specs.Kept.{wall_at, walls_in}

-- one of the first walls stands upright
pub stands_upright : (i u : ℕ) → i < u → 0 ≡ cond {A = ℕ} (ltb i u) 0 1
stands_upright i u h = rw (lt-ltb i u h)

-- a wall behind the upright ones is level
pub lies_level : (i u : ℕ) → u ≤ i → 1 ≡ cond {A = ℕ} (ltb i u) 0 1
lies_level i u h = rw (le-ltb i u h)

-- the bytes of numbers before numbers are those of the first, then those of the others
bytes_append : (a b : List ℕ) → in_bytes (a ++ b) ≡ in_bytes a ++ in_bytes b
unfolding in_bytes
bytes_append [] b = refl
bytes_append (x ∷ a) b = rw (bytes_append a b)

-- as many bytes as numbers
length_bytes : (a : List ℕ) → length (in_bytes a) ≡ length a
unfolding in_bytes
length_bytes [] = refl
length_bytes (x ∷ a) = ap suc (length_bytes a)

-- one wall's field
abbrev field_of : Partition → List ℕ
field_of w = in_bytes (write_field 8 (partition_bytes w))

-- a direction is its own byte
small : (t : Bool) → cond {A = ℕ} t 0 1 % 256 ≡ cond {A = ℕ} t 0 1
small true = refl
small false = refl

-- a head of tag 8 and length 5, then the direction and the four numbers, are the field of wall i put at its place
pub wall_put : (o h l : List ℕ) (u i d a b c e : ℕ) → h ≡ with_head o (8 * i) 8 5 → 8 * i + 8 ≤ length o → d ≡ cond (ltb i u) 0 1
    → a ≡ get_or l (4 * i) 0 % 256 → b ≡ get_or l (4 * i + 1) 0 % 256 → c ≡ get_or l (4 * i + 2) 0 % 256 → e ≡ get_or l (4 * i + 3) 0 % 256
    → set (set (set (set (set h (8 * i + 3) d) (8 * i + 4) a) (8 * i + 5) b) (8 * i + 6) c) (8 * i + 7) e ≡ sets o (8 * i) (field_of (wall_at u l i))
unfolding in_bytes write_field partition_bytes with_head wall_at
wall_put o h l u i d a b c e eh k ed ea eb ec ee =
    let f : ℕ = 8 * i in
    let e₃ : f + 3 ≡ suc (suc (suc f)) = omega arith in
    let e₄ : f + 4 ≡ suc (suc (suc (suc f))) = omega arith in
    let e₅ : f + 5 ≡ suc (suc (suc (suc (suc f)))) = omega arith in
    let e₆ : f + 6 ≡ suc (suc (suc (suc (suc (suc f))))) = omega arith in
    let e₇ : f + 7 ≡ suc (suc (suc (suc (suc (suc (suc f)))))) = omega arith in
    rw (eh, le-leb (f + 3) (length o) (omega arith), e₃, e₄, e₅, e₆, e₇, ed, ea, eb, ec, ee, small (ltb i u))

-- a wall's field has eight bytes
field_length : (w : Partition) → length (field_of w) ≡ 8
unfolding in_bytes write_field partition_bytes
field_length w = refl

-- the fields, one by one: what is left to put, put, gives the whole
module _ (l : List ℕ) (u n i : ℕ) where
  -- the bytes of the walls from wall i on
  abbrev rest : List ℕ
  rest = in_bytes (write_register (walls_in u (n - i) i l))

  -- where i is one of n walls, its field stands first, then the bytes from i + 1 on
  next : i < n → rest ≡ field_of (wall_at u l i) ++ in_bytes (write_register (walls_in u (n - (i + 1)) (i + 1) l))
  unfolding write_register walls_in
  next h =
      let d : n - i ≡ suc (n - (i + 1)) = omega arith in
      let s : i + 1 ≡ suc i = omega arith in
      rw (d, s) (bytes_append (write_field 8 (partition_bytes (wall_at u l i))) (write_register (walls_in u (n - suc i) (suc i) l)))

  -- the next field put, those behind it are left
  pub walls_more : (o x y : List ℕ) → x ≡ sets o (8 * i) (field_of (wall_at u l i)) → i < n → sets o (8 * i) rest ≡ y
      → sets x (8 * (i + 1)) (in_bytes (write_register (walls_in u (n - (i + 1)) (i + 1) l))) ≡ y
  walls_more o x y ex h inv =
      let k : 8 * i + length (field_of (wall_at u l i)) ≡ 8 * (i + 1) = omega (arith, field_length (wall_at u l i)) in
      rw (ex, ← k) (sym (sets_append o (8 * i) (field_of (wall_at u l i)) (in_bytes (write_register (walls_in u (n - (i + 1)) (i + 1) l)))) ∙ (rw (next h) at inv))

  -- behind the last field nothing is left to put
  pub walls_done : (o y : List ℕ) → n ≤ i → sets o (8 * i) rest ≡ y → o ≡ y
  unfolding write_register in_bytes walls_in
  walls_done o y h inv = let d : n - i ≡ 0 = omega arith in rw d at inv

-- at the start all the fields are left to put
pub walls_first : (o l : List ℕ) (u n : ℕ) → sets o (8 * 0) (in_bytes (write_register (walls_in u (n - 0) 0 l))) ≡ sets o 0 (in_bytes (write_register (walls_in u n 0 l)))
walls_first o l u n = let z : n - 0 ≡ n = omega arith in rw z

-- so many walls
walls_length : (u m i : ℕ) (l : List ℕ) → length (walls_in u m i l) ≡ m
unfolding walls_in
walls_length u zero i l = refl
walls_length u (suc m) i l = ap suc (walls_length u m (suc i) l)

-- the whole register
module _ (u many : ℕ) (l o : List ℕ) (n : ℕ) (en : n ≡ many) where
  -- its bytes
  abbrev bytes : List ℕ
  bytes = in_bytes (write_register (walls_in u many 0 l))

  -- eight for each wall
  register_length : length bytes ≡ 8 * n
  register_length = omega (arith, length_bytes (write_register (walls_in u many 0 l)), length_write_register (walls_in u many 0 l), walls_length u many 0 l)

  -- too short a buffer: refused, and the buffer as it was
  pub register_short : length o < 8 * n → (replied (Err TooShort) ≡ (writing bytes o).reply) × (o ≡ (writing bytes o).buffer)
  register_short k = short_writes bytes o (omega (arith, register_length))

  -- a buffer with room: the length is told, and the front filled
  pub register_done : (x : List ℕ) (v : ℕ) → v ≡ u → x ≡ sets o 0 (in_bytes (write_register (walls_in v n 0 l))) → 8 * n ≤ length o
      → (replied (Ok (8 * n)) ≡ (writing bytes o).reply) × (x ≡ (writing bytes o).buffer)
  register_done x v ev ex k = front_writes bytes o x (8 * n) (sym register_length) (ex ∙ rw (ev, en)) (omega (arith, register_length))
