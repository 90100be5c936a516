-- A field written is read back, and a field read is written back. Assumes nothing.
use Rattle.std.specs.Prelude.{ℕ, ◌+◌, ◌*◌, ◌/◌, ◌%◌, ◌<◌, ◌≡◌, refl, Bool, true, false, cond, List, [], ◌∷◌, ◌++◌, length, take, drop, leb}
use Rattle.std.proofs.Common.{sym, ap, ◌∙◌, length-append, take-append-drop, take_at, drop_at, length-take-le, arith, leb-true, le-leb}
use Rattle.floor.specs.Fields.{Bytes, broken, field, read_field, write_field}

-- bytes before bytes are bytes
pub bytes_append : (a b : List ℕ) → Bytes a → Bytes b → Bytes (a ++ b)
bytes_append [] b p q = q
bytes_append (x ∷ a) b p q = (p.0, bytes_append a b p.1 q)

-- the back part of bytes is bytes
pub bytes_behind : (a b : List ℕ) → Bytes (a ++ b) → Bytes b
bytes_behind [] b p = p
bytes_behind (x ∷ a) b p = bytes_behind a b p.1

-- the bytes that a field was read from
pub record Whole (bs : List ℕ) (t : ℕ) (v rest : List ℕ) : Type 0 where
  pub h : ℕ
  pub l : ℕ
  pub is : bs ≡ t ∷ h ∷ l ∷ (v ++ rest)
  pub long : length v ≡ 256 * h + l

-- no field is read from what is broken
pub not_broken : {X : Type 0} (t : ℕ) (v rest : List ℕ) → broken ≡ field t v rest → X
not_broken t v rest e = let z : ◌≡◌ {A = ℕ} 0 1 = cc in absurd (omega arith)

-- a field that is read stands at the front of the bytes: its tag, the two bytes of its length, its value, then the rest
pub whole_field : (bs : List ℕ) (t : ℕ) (v rest : List ℕ) → read_field bs ≡ field t v rest → Whole bs t v rest
unfolding read_field
whole_field [] t v rest e = not_broken t v rest e
whole_field (a ∷ []) t v rest e = not_broken t v rest e
whole_field (a ∷ h ∷ []) t v rest e = not_broken t v rest e
whole_field (a ∷ h ∷ l ∷ more) t v rest e = go (leb (256 * h + l) (length more)) refl e
  where
    go : (b : Bool) → leb (256 * h + l) (length more) ≡ b → cond b (field a (take (256 * h + l) more) (drop (256 * h + l) more)) broken ≡ field t v rest
        → Whole (a ∷ h ∷ l ∷ more) t v rest
    go false q e = not_broken t v rest e
    go true q e =
        let ta : a ≡ t = cc in
        let tv : take (256 * h + l) more ≡ v = cc in
        let tr : drop (256 * h + l) more ≡ rest = cc in
        record {
          h = h;
          l = l;
          is = rw (ta, ← tv, ← tr, take-append-drop (256 * h + l) more);
          long = ap length (sym tv) ∙ length-take-le (256 * h + l) more (leb-true (256 * h + l) (length more) q);
        }

-- READ WHAT IS WRITTEN
pub read_write_field : (t : ℕ) (v rest : List ℕ) → read_field (write_field t v ++ rest) ≡ field t v rest
unfolding read_field write_field
read_write_field t v rest =
    let e : 256 * (length v / 256) + length v % 256 ≡ length v = omega arith in
    let l : leb (length v) (length (v ++ rest)) ≡ true = le-leb (length v) (length (v ++ rest)) (omega (arith, length-append v rest)) in
    rw (e, l, take_at v rest (length v), drop_at v rest (length v))

-- WRITE WHAT IS READ
pub write_read_field : (bs : List ℕ) (t : ℕ) (v rest : List ℕ) → Bytes bs → read_field bs ≡ field t v rest → write_field t v ++ rest ≡ bs
unfolding write_field
write_read_field bs t v rest ok e =
    let w : Whole bs t v rest = whole_field bs t v rest e in
    let b : Bytes (t ∷ w.h ∷ w.l ∷ (v ++ rest)) = rw w.is at ok in
    let eh : length v / 256 ≡ w.h = omega (arith, w.long, b.1.1.0) in
    let el : length v % 256 ≡ w.l = omega (arith, w.long, b.1.1.0) in
    rw (eh, el) (sym w.is)

-- the bytes behind a field
pub bytes_rest : (bs : List ℕ) (t : ℕ) (v rest : List ℕ) → Bytes bs → read_field bs ≡ field t v rest → Bytes rest
bytes_rest bs t v rest ok e =
    let w : Whole bs t v rest = whole_field bs t v rest e in
    let b : Bytes (t ∷ w.h ∷ w.l ∷ (v ++ rest)) = rw w.is at ok in
    bytes_behind v rest b.1.1.1

-- a field's length, and that it is bytes
pub length_field : (t : ℕ) (v : List ℕ) → length (write_field t v) ≡ 3 + length v
unfolding write_field
length_field t v = omega arith

-- a field is written as bytes, where its tag is a byte, its length fits two bytes and its value is bytes
pub bytes_field : (t : ℕ) (v : List ℕ) → t < 256 → length v < 65536 → Bytes v → Bytes (write_field t v)
unfolding write_field
bytes_field t v l h b = (l, (omega arith, (omega arith, b)))
