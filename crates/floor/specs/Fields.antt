-- Fields: one tag byte, a two-byte length (high byte first), then the value. Assumes nothing.
use Rattle.std.specs.Prelude.{ℕ, zero, suc, ◌+◌, ◌*◌, ◌/◌, ◌%◌, ◌<◌, cond, List, [], ◌∷◌, length, take, drop, leb}

-- every number of the list is a byte
abbrev pub Bytes : List ℕ → Type 0
Bytes [] = Unit {0}
Bytes (b ∷ bs) = (b < 256) × Bytes bs

-- what stands first in some bytes: a field, as its tag, its value and the bytes that follow it, or no whole field
pub data Field : Type 0 where
  broken : Field
  field : ℕ → List ℕ → List ℕ → Field

-- the first field of some bytes
unfoldable pub read_field : List ℕ → Field
read_field [] = broken
read_field (t ∷ []) = broken
read_field (t ∷ h ∷ []) = broken
read_field (t ∷ h ∷ l ∷ rest) =
    let n : ℕ = 256 * h + l in
    cond (leb n (length rest)) (field t (take n rest) (drop n rest)) broken

-- a field's value
unfoldable pub value_of : Field → List ℕ
value_of broken = []
value_of (field t v rest) = v

-- the bytes that follow a field
unfoldable pub rest_of : Field → List ℕ
rest_of broken = []
rest_of (field t v rest) = rest

-- the bytes that follow the first i fields
unfoldable pub after_fields : ℕ → List ℕ → List ℕ
after_fields zero bs = bs
after_fields (suc i) bs = after_fields i (rest_of (read_field bs))

-- a field, written
unfoldable pub write_field : ℕ → List ℕ → List ℕ
write_field t v = t ∷ length v / 256 ∷ length v % 256 ∷ v
