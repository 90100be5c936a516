-- What the answers on fields mean. Assumes nothing.
use Rattle.std.specs.Prelude.{ℕ, ◌+◌, ◌-◌, ◌/◌, ◌%◌, ◌≤◌, ◌≡◌, cond, List, [], ◌∷◌, length, take, drop, leb, Option, Some, None}
use Rattle.std.proofs.lemmas.List.Edits.{sets}
use Rattle.floor.specs.Fields.{Field as Read, broken, field}
use Rattle.fields.specs.declared.Field.{Field}

-- the field that an answer names in some bytes: its tag, its value and the bytes that follow it
unfoldable pub found : Option Field → List ℕ → Read
found None s = broken
found (Some f) s = field f.tag (take (f.end - f.start) (drop f.start s)) (drop f.end s)

-- where the value of a field at a place stands in n bytes: behind the three bytes of the head
unfoldable pub Stands : Option Field → ℕ → ℕ → Type 0
Stands None at n = Unit {0}
Stands (Some f) at n = (f.start ≡ at + 3) × (f.start ≤ f.end) × (f.end ≤ n)

-- some bytes with a field's head put at a place; the same bytes where it does not fit
unfoldable pub with_head : List ℕ → ℕ → ℕ → ℕ → List ℕ
with_head s at t n = cond (leb (at + 3) (length s)) (sets s at (t ∷ n / 256 ∷ n % 256 ∷ [])) s
