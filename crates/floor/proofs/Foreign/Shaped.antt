-- A plan's bytes: what is read is complete, what is written is read back, and what is read is written back. Assumes nothing.
use Rattle.std.specs.Prelude.{ℕ, zero, suc, ◌+◌, ◌<◌, ◌≡◌, ◌↔◌, Bool, false, cond, ◌&&◌, List, [], ◌∷◌, ◌++◌, length}
use Rattle.std.proofs.Math.Path.{refl, ap}
use Rattle.std.proofs.Common.{sym, ◌∙◌, arith, eqb-true, eq-eqb}
use Rattle.std.proofs.Math.Bool.{true}
use Rattle.std.proofs.Math.Option.{Option, none, some}
use Rattle.std.proofs.Math.ListN.{get_or}
use Rattle.std.proofs.Math.Dec.{eqb}
use Rattle.floor.proofs.Lists.Laws.{and_parts}
use Rattle.floor.specs.Fields.{Bytes, Field, broken, field, read_field, rest_of, write_field}
use Rattle.floor.proofs.Fields.Laws.{bytes_rest, read_write_field, write_read_field}
use Rattle.floor.specs.Jobs.{Job}
use Rattle.floor.specs.Plans.{Rect, Plan, nowhere, rect_of, rect_bytes, write_rects, write_plan}
use Rattle.floor.specs.Floor.{Complete}
use Rattle.floor.specs.Foreign.{rect_from, rect_then, read_rects, on_sheet, plan_first, read_plan}

-- none is not some
no_rects : {X : Type 0} (rs : List Rect) → none ≡ some rs → X
no_rects rs e = let z : ◌≡◌ {A = ℕ} 0 1 = cc in absurd (omega arith)

-- nor is no plan a plan
no_plan : {X : Type 0} (p : Plan) → none ≡ some p → X
no_plan p e = let z : ◌≡◌ {A = ℕ} 0 1 = cc in absurd (omega arith)

-- rectangles of v, v + 1 and so on
abbrev Ranked : ℕ → List Rect → Type 0
Ranked v [] = Unit {0}
Ranked v (r ∷ rs) = (r.vertex ≡ v) × Ranked (suc v) rs

-- each of them has the number of its place
ranked_at : (v : ℕ) (rs : List Rect) → Ranked v rs → (i : ℕ) → i < length rs → (get_or rs i nowhere).vertex ≡ v + i
ranked_at v [] h i l = absurd (omega arith)
ranked_at v (r ∷ rs) h zero l = omega (arith, h.0)
ranked_at v (r ∷ rs) h (suc i) l = omega (arith, ranked_at (suc v) rs h.1 i (omega arith))

-- rectangles that have the numbers of their places are so ranked
at_ranked : (v : ℕ) (rs : List Rect) → ((i : ℕ) → i < length rs → (get_or rs i nowhere).vertex ≡ v + i) → Ranked v rs
at_ranked v [] h = tt
at_ranked v (r ∷ rs) h = (omega (arith, h 0 (omega arith)), at_ranked (suc v) rs (λ i l. omega (arith, h (suc i) (omega arith))))

-- a rectangle's five numbers
from_bytes : (r : Rect) → rect_from (rect_bytes r) ≡ r
unfolding rect_from rect_bytes
from_bytes r = refl

-- five bytes read as a rectangle and written are the same bytes
to_bytes : (x : List ℕ) → length x ≡ 5 → rect_bytes (rect_from x) ≡ x
unfolding rect_from rect_bytes
to_bytes [] e = absurd (omega arith)
to_bytes (a ∷ []) e = absurd (omega arith)
to_bytes (a ∷ b ∷ []) e = absurd (omega arith)
to_bytes (a ∷ b ∷ c ∷ []) e = absurd (omega arith)
to_bytes (a ∷ b ∷ c ∷ d ∷ []) e = absurd (omega arith)
to_bytes (a ∷ b ∷ c ∷ d ∷ f ∷ []) e = refl
to_bytes (a ∷ b ∷ c ∷ d ∷ f ∷ g ∷ x) e = absurd (omega arith)

-- two bytes by their places
two_bytes : (x : List ℕ) (w h : ℕ) → length x ≡ 2 → w ≡ get_or x 0 0 → h ≡ get_or x 1 0 → w ∷ h ∷ [] ≡ x
two_bytes [] w h e p q = absurd (omega arith)
two_bytes (a ∷ []) w h e p q = absurd (omega arith)
two_bytes (a ∷ b ∷ []) w h e p q = rw (p, q)
two_bytes (a ∷ b ∷ c ∷ x) w h e p q = absurd (omega arith)

-- what a rectangle and those behind it were read from
record Split (v : ℕ) (f : Field) (o : Option (List Rect)) (rs : List Rect) : Type 0 where
  value : List ℕ
  rest : List ℕ
  more : List Rect
  is_field : f ≡ field 4 value rest
  five : length value ≡ 5
  names : get_or value 0 0 ≡ v
  is_more : o ≡ some more
  is_rects : rs ≡ rect_from value ∷ more

-- where a rectangle and those behind it were read, there was such a field
split : (v : ℕ) (f : Field) (o : Option (List Rect)) (rs : List Rect) → rect_then v f o ≡ some rs → Split v f o rs
unfolding rect_then
split v broken o rs e = no_rects rs e
split v (field t x rest) none rs e = no_rects rs e
split v (field t x rest) (some more) rs e = go (eqb t 4 && eqb (length x) 5 && eqb (get_or x 0 0) v) refl e
  where
    go : (b : Bool) → (eqb t 4 && eqb (length x) 5 && eqb (get_or x 0 0) v) ≡ b → cond b (some (rect_from x ∷ more)) none ≡ some rs
        → Split v (field t x rest) (some more) rs
    go false q e = no_rects rs e
    go true q e =
        let (tl, n) = and_parts (eqb t 4 && eqb (length x) 5) (eqb (get_or x 0 0) v) q in
        let (a, l) = and_parts (eqb t 4) (eqb (length x) 5) tl in
        record {
          value = x;
          rest = rest;
          more = more;
          is_field = ap (λ (k : ℕ). field k x rest) (eqb-true t 4 a);
          five = eqb-true (length x) 5 l;
          names = eqb-true (get_or x 0 0) v n;
          is_more = refl;
          is_rects = cc;
        }

-- WHAT IS READ IS IN ORDER AND COMPLETE, AND WRITTEN BACK
record Rects (v n : ℕ) (bs : List ℕ) (rs : List Rect) : Type 0 where
  ranked : Ranked v rs
  count : length rs ≡ n
  written : Bytes bs → write_rects rs ≡ bs

-- so are the rectangles of any bytes that are read
read_rects_lem : (v n : ℕ) (bs : List ℕ) (rs : List Rect) → read_rects v n bs ≡ some rs → Rects v n bs rs
unfolding read_rects write_rects
read_rects_lem v zero [] rs e =
    let q : [] ≡ rs = cc in
    rw (← q) (record { ranked = tt; count = refl; written = λ b. refl })
read_rects_lem v zero (b ∷ bs) rs e = no_rects rs e
read_rects_lem v (suc n) bs rs e =
    let s : Split v (read_field bs) (read_rects (suc v) n (rest_of (read_field bs))) rs = split v _ _ rs e in
    let m : Rects (suc v) n (rest_of (read_field bs)) s.more = read_rects_lem (suc v) n (rest_of (read_field bs)) s.more s.is_more in
    rw s.is_rects (record {
      ranked = (unfold rect_from in s.names, m.ranked);
      count = omega (arith, m.count);
      written = λ b. whole s m.written b;
    })
  where
    whole : (s : Split v (read_field bs) (read_rects (suc v) n (rest_of (read_field bs))) rs)
        → (Bytes (rest_of (read_field bs)) → write_rects s.more ≡ rest_of (read_field bs))
        → Bytes bs → write_field 4 (rect_bytes (rect_from s.value)) ++ write_rects s.more ≡ bs
    whole s h b =
        let is_rest : rest_of (read_field bs) ≡ s.rest = unfold rest_of in ap rest_of s.is_field in
        let more : write_rects s.more ≡ s.rest = h (rw is_rest (bytes_rest bs 4 s.value s.rest b s.is_field)) ∙ is_rest in
        rw (to_bytes s.value s.five, more) (write_read_field bs 4 s.value s.rest b s.is_field)

-- the sheet, and what is behind it
record Sheet (n : ℕ) (f : Field) (p : Plan) : Type 0 where
  value : List ℕ
  rest : List ℕ
  is_field : f ≡ field 3 value rest
  two : length value ≡ 2
  is_width : p.width ≡ get_or value 0 0
  is_height : p.height ≡ get_or value 1 0
  is_rects : read_rects 0 (n + 4) rest ≡ some p.rects

-- where a plan was read, its first field was such a sheet
sheet : (n : ℕ) (f : Field) (p : Plan) → plan_first n f ≡ some p → Sheet n f p
unfolding plan_first
sheet n broken p e = no_plan p e
sheet n (field t x rest) p e = go (eqb t 3 && eqb (length x) 2) refl e
  where
    on : (o : Option (List Rect)) → on_sheet x o ≡ some p → (o ≡ some p.rects) × (p.width ≡ get_or x 0 0) × (p.height ≡ get_or x 1 0)
    on none e = unfold on_sheet in no_plan p e
    on (some rs) e = let q : record { width = get_or x 0 0; height = get_or x 1 0; rects = rs } ≡ p = (unfold on_sheet in one e) in
        (ap some (ap (λ (p : Plan). p.rects) q), ap (λ (p : Plan). p.width) (sym q), ap (λ (p : Plan). p.height) (sym q))
      where
        one : {p q : Plan} → some p ≡ some q → p ≡ q
        one e = cc

    go : (b : Bool) → (eqb t 3 && eqb (length x) 2) ≡ b → cond b (on_sheet x (read_rects 0 (n + 4) rest)) none ≡ some p → Sheet n (field t x rest) p
    go false q e = no_plan p e
    go true q e =
        let (a, l) = and_parts (eqb t 3) (eqb (length x) 2) q in
        let (r, w, h) = on (read_rects 0 (n + 4) rest) e in
        record {
          value = x;
          rest = rest;
          is_field = ap (λ (k : ℕ). field k x rest) (eqb-true t 3 a);
          two = eqb-true (length x) 2 l;
          is_width = w;
          is_height = h;
          is_rects = r;
        }

-- a plan that was read has a rectangle for each vertex, in vertex order
pub read_complete : (j : Job) (bs : List ℕ) (p : Plan) → read_plan (length j) bs ≡ some p → Complete j p
unfolding read_plan rect_of
read_complete j bs p e =
    let s : Sheet (length j) (read_field bs) p = sheet (length j) (read_field bs) p e in
    let r : Rects 0 (length j + 4) s.rest p.rects = read_rects_lem 0 (length j + 4) s.rest p.rects s.is_rects in
    record { count = r.count; vertex = λ v h. ranked_at 0 p.rects r.ranked v (omega (arith, r.count)) ∙ omega arith }

-- and it is written back as the very bytes
pub write_read_plan : (n : ℕ) (bs : List ℕ) (p : Plan) → Bytes bs → read_plan n bs ≡ some p → write_plan p ≡ bs
unfolding read_plan write_plan
write_read_plan n bs p b e =
    let s : Sheet n (read_field bs) p = sheet n (read_field bs) p e in
    let r : Rects 0 (n + 4) s.rest p.rects = read_rects_lem 0 (n + 4) s.rest p.rects s.is_rects in
    let two : p.width ∷ p.height ∷ [] ≡ s.value = two_bytes s.value p.width p.height s.two s.is_width s.is_height in
    rw (two, r.written (bytes_rest bs 3 s.value s.rest b s.is_field)) (write_read_field bs 3 s.value s.rest b s.is_field)

-- WHAT IS WRITTEN IS READ BACK
read_write_rects : (v : ℕ) (rs : List Rect) → Ranked v rs → read_rects v (length rs) (write_rects rs) ≡ some rs
unfolding read_rects write_rects rect_then rest_of
read_write_rects v [] h = refl
read_write_rects v (r ∷ rs) h =
    let named : eqb (get_or (rect_bytes r) 0 0) v ≡ true = eq-eqb (get_or (rect_bytes r) 0 0) v (unfold rect_bytes in h.0) in
    let five : eqb (length (rect_bytes r)) 5 ≡ true = unfold rect_bytes in refl in
    rw (read_write_field 4 (rect_bytes r) (write_rects rs), read_write_rects (suc v) rs h.1, five, named, from_bytes r)

-- a complete plan, written, is read back as the same plan
pub read_write_plan : (j : Job) (p : Plan) → Complete j p → read_plan (length j) (write_plan p) ≡ some p
unfolding read_plan write_plan plan_first on_sheet rect_of
read_write_plan j p c =
    let more : read_rects 0 (length p.rects) (write_rects p.rects) ≡ some p.rects = read_write_rects 0 p.rects
    (at_ranked 0 p.rects (λ i l. omega (arith, c.vertex i (omega (arith, c.count))))) in
    rw (read_write_field 3 (p.width ∷ p.height ∷ []) (write_rects p.rects), ← c.count, more)

-- SHAPED AS A PLAN OF VERTICES 0 TO n + 3 IN ORDER: the writing of one
pub shaped_exactly : (j : Job) (bs : List ℕ) (p : Plan) → Bytes bs → (read_plan (length j) bs ≡ some p) ↔ (Complete j p × (write_plan p ≡ bs))
shaped_exactly j bs p b = (λ e. (read_complete j bs p e, write_read_plan (length j) bs p b e), λ c. rw c.1 at (read_write_plan j p c.0))
