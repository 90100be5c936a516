-- A plan's fields put one by one, as the code comes by them. Assumes nothing.
use Prim.Native.Nat.{ℕ, suc, ◌+◌, ◌*◌, ◌-◌, ◌%◌, ◌<◌, ◌≤◌}
use mathlib.Core.Path.{◌≡◌, refl, sym, ap, ◌∙◌}
use mathlib.Core.List.{List, [], ◌∷◌, ◌++◌}
use native.Mathlib.Omega.{arith}
use borrow.Author.Tests.{le-leb}
use lib.ListN.{length, set}
use lib.Seq.{sets}
use Rattle.floor.specs.Fields.{write_field}
use Rattle.floor.specs.Plans.{Rect, rect_bytes, write_rects, write_plan}
use Rattle.floor.proofs.Calls.Bytes.{length_write_plan}
use Rattle.fields.specs.Found.{with_head}
use Rattle.std.specs.Prelude.{Ok, Err}
use Rattle.refusals.specs.declared.Refusal.TheVariants.{TooShort}
use Rattle.fields.specs.Writes.{replied, writing}
use Rattle.fields.proofs.Puts.{sets_append, short_writes, front_writes}
use Rattle.drawing.specs.declared.Rect.{Rect as HeldRect}
use Rattle.drawing.specs.declared.Layout.{Layout}
use Rattle.drawing.specs.Rects.{rect_in, rect_at, rects_in, rects_lent, plan_lent, in_bytes}
use Rattle.drawing.proofs.Asking.{rects_more, rects_done, length_rects}

-- the bytes of numbers before numbers are those of the first, then those of the others
bytes_append : (a b : List ℕ) → in_bytes (a ++ b) ≡ in_bytes a ++ in_bytes b
unfolding in_bytes
bytes_append [] b = refl
bytes_append (x ∷ a) b = rw (bytes_append a b)

-- as many bytes as numbers
length_bytes : (a : List ℕ) → length (in_bytes a) ≡ length a
unfolding in_bytes
length_bytes [] = refl
length_bytes (x ∷ a) = ap suc (length_bytes a)

-- one rectangle's field
abbrev field_of : Rect → List ℕ
field_of r = in_bytes (write_field 4 (rect_bytes r))

-- a head of tag 4 and length 5, then the vertex and its four numbers, are the field of v's rectangle put at its place
pub rect_put : (o h : List ℕ) (v a b c d : ℕ) (r : HeldRect) → r.vertex ≡ v → h ≡ with_head o (5 + 8 * v) 4 5
    → 5 + 8 * v + 8 ≤ length o → a ≡ r.x1 % 256 → b ≡ r.y1 % 256 → c ≡ r.x2 % 256 → d ≡ r.y2 % 256
    → set (set (set (set (set h (5 + 8 * v + 3) (v % 256)) (5 + 8 * v + 4) a) (5 + 8 * v + 5) b) (5 + 8 * v + 6) c) (5 + 8 * v + 7) d
    ≡ sets o (5 + 8 * v) (field_of (rect_in r))
unfolding in_bytes write_field rect_bytes with_head rect_in
rect_put o h v a b c d r e eh k ea eb ec ed =
    let f : ℕ = 5 + 8 * v in
    let e₃ : f + 3 ≡ suc (suc (suc f)) = omega arith in
    let e₄ : f + 4 ≡ suc (suc (suc (suc f))) = omega arith in
    let e₅ : f + 5 ≡ suc (suc (suc (suc (suc f)))) = omega arith in
    let e₆ : f + 6 ≡ suc (suc (suc (suc (suc (suc f))))) = omega arith in
    let e₇ : f + 7 ≡ suc (suc (suc (suc (suc (suc (suc f)))))) = omega arith in
    rw (eh, le-leb (f + 3) (length o) (omega arith), e₃, e₄, e₅, e₆, e₇, ea, eb, ec, ed, e)

-- the rectangle read for v stands at v: its field fits where those of all n do
pub field_fits : (l : List ℕ) (v n : ℕ) (r : HeldRect) (o : List ℕ) → rect_in r ≡ rect_at l v → v < n → n < 260 → 5 + 8 * n ≤ length o
    → (r.vertex < 65536) × (5 + 8 * r.vertex + 8 ≤ length o)
unfolding rect_in rect_at
field_fits l v n r o e h k f =
    let u : r.vertex ≡ v = ap (λ (s : Rect). s.vertex) e in
    (omega arith, omega arith)

-- a rectangle's field has eight bytes
field_length : (r : Rect) → length (field_of r) ≡ 8
unfolding in_bytes write_field rect_bytes
field_length r = refl

-- the fields, one by one: what is left to put, put, gives the whole
module _ (l : List ℕ) (n v m : ℕ) (em : m ≡ n) where
  -- the bytes of the rectangles from vertex v on
  abbrev rest : List ℕ
  rest = in_bytes (write_rects (rects_in (n - v) v l))

  -- where v is one of n vertices, its field stands first, then the bytes from v + 1 on
  next : v < m → rest ≡ field_of (rect_at l v) ++ in_bytes (write_rects (rects_in (n - (v + 1)) (v + 1) l))
  unfolding write_rects
  next h = rw (rects_more l n v (omega (arith, em))) (bytes_append (write_field 4 (rect_bytes (rect_at l v))) (write_rects (rects_in (n - (v + 1)) (v + 1) l)))

  -- the next field put, those behind it are left
  pub fields_more : (o x y : List ℕ) (r : HeldRect) → rect_in r ≡ rect_at l v → x ≡ sets o (5 + 8 * r.vertex) (field_of (rect_in r)) → v < m → sets o (5 + 8 * v) rest ≡ y
      → sets x (5 + 8 * (v + 1)) (in_bytes (write_rects (rects_in (n - (v + 1)) (v + 1) l))) ≡ y
  unfolding rect_in rect_at
  fields_more o x y r er ex h inv =
      let e : x ≡ sets o (5 + 8 * v) (field_of (rect_at l v)) =
      ex ∙ ap (λ (s : Rect). sets o (5 + 8 * s.vertex) (field_of s)) er in
      let k : 5 + 8 * v + length (field_of (rect_at l v)) ≡ 5 + 8 * (v + 1) = omega (arith, field_length (rect_at l v)) in
      rw (e, ← k) (sym (sets_append o (5 + 8 * v) (field_of (rect_at l v)) (in_bytes (write_rects (rects_in (n - (v + 1)) (v + 1) l)))) ∙ (rw (next h) at inv))

  -- behind the last field nothing is left to put
  pub fields_done : (o y : List ℕ) → m ≤ v → sets o (5 + 8 * v) rest ≡ y → o ≡ y
  unfolding write_rects in_bytes
  fields_done o y h inv = rw (rects_done l n v (omega (arith, em))) at inv

-- at the start all the fields are left to put, from place 5 on
pub fields_first : (o l : List ℕ) (n : ℕ) → sets o (5 + 8 * 0) (in_bytes (write_rects (rects_in (n - 0) 0 l))) ≡ sets o 5 (in_bytes (write_rects (rects_in n 0 l)))
fields_first o l n = let z : n - 0 ≡ n = omega arith in rw z

-- the whole plan
module _ (p : Layout) (o : List ℕ) (n : ℕ) (en : n ≡ p.rooms + 4) where
  -- its bytes
  abbrev bytes : List ℕ
  bytes = in_bytes (write_plan (plan_lent p))

  -- tag 3, length 2, the width and the height, then the rectangles
  plan_bytes : bytes ≡ 3 ∷ 0 ∷ 2 ∷ p.width % 256 ∷ p.height % 256 ∷ in_bytes (write_rects (rects_lent p))
  unfolding in_bytes write_plan write_field
  plan_bytes = refl

  -- five bytes for the sheet and eight for each rectangle
  plan_length : length bytes ≡ 5 + 8 * n
  plan_length = omega (arith, en, length_bytes (write_plan (plan_lent p)), length_write_plan (plan_lent p), length_rects (p.rooms + 4) 0 p.rects.now)

  -- too short a buffer: refused, and the buffer as it was
  pub plan_short : length o < 5 + 8 * n → (replied (Err TooShort) ≡ (writing bytes o).reply) × (o ≡ (writing bytes o).buffer)
  plan_short k = short_writes bytes o (omega (arith, plan_length))

  -- a buffer with room: the length is told, and the front filled
  pub plan_done : (y x : List ℕ) (a b : ℕ) → y ≡ with_head o 0 3 2 → a ≡ p.width % 256 → b ≡ p.height % 256
      → x ≡ sets (set (set y 3 a) 4 b) 5 (in_bytes (write_rects (rects_lent p))) → 5 + 8 * n ≤ length o
      → (replied (Ok (5 + 8 * n)) ≡ (writing bytes o).reply) × (x ≡ (writing bytes o).buffer)
  unfolding with_head
  plan_done y x a b ey ea eb ex k =
      let f : x ≡ sets o 0 bytes = ex ∙ rw (ey, le-leb (0 + 3) (length o) (omega arith), ea, eb, plan_bytes) in
      front_writes bytes o x (5 + 8 * n) (sym plan_length) f (omega (arith, plan_length))
