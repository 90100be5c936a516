-- Bytes shaped as a plan, as the code comes by it; what is then read of them stands in fixed places. Assumes nothing.
use Prim.Native.Nat.{ℕ, zero, suc, ◌+◌, ◌-◌, ◌*◌, ◌≤◌, ◌<◌}
use mathlib.Core.Path.{◌≡◌, refl, sym, ap, ◌∙◌}
use mathlib.Core.Bool.{Bool, true, false, cond, not, ◌&&◌}
use mathlib.Core.Option.{Option, none, some}
use mathlib.Core.List.{List, [], ◌∷◌}
use native.Mathlib.Omega.{arith}
use borrow.Author.Tests.{eqb-true, eq-eqb, ne_eqb, leb-true, le-leb, not-true, not-false}
use lib.Dec.{leb, eqb}
use lib.ListN.{length, get_or, take, drop, length-drop}
use lib.Seq.{length-take-le, drop-drop, get_or-drop, get_or-take}
use Rattle.floor.proofs.Lists.Laws.{same_test, and_parts}
use Rattle.floor.specs.Fields.{Field, broken, field, read_field, rest_of}
use Rattle.floor.specs.Plans.{Rect}
use Rattle.floor.specs.Foreign.{rect_from, rect_then, read_rects, on_sheet, plan_first, read_plan}
use Rattle.std.specs.Prelude.{Option as Answer, Some, None}
use Rattle.fields.specs.declared.Field.{Field as Found}
use Rattle.fields.specs.Found.{found, Stands}
use Rattle.fields.proofs.Laws.{no_field, the_field, within}
use Rattle.elsewhere.specs.Placed.{place_of, rect_at, rects_at, plan_at}
use Rattle.elsewhere.specs.Shapes.{has_shape, rect_shaped, rects_shaped, plan_shaped}

-- what is asked of the field at a place
module _ (s : List ℕ) (at : ℕ) (f : Answer Found) (t n : ℕ) where
  -- no whole field has any shape
  pub shape_none : f ≡ None → found f s ≡ read_field (drop at s) → false ≡ has_shape t n (read_field (drop at s))
  unfolding has_shape
  shape_none b e = rw (no_field s at f b e)

  module _ (w : Found) (o : f ≡ Some w) (q : found f s ≡ read_field (drop at s)) where
    -- one of another tag has another shape
    pub shape_tag : (w.tag ≡ t → ⊥) → false ≡ has_shape t n (read_field (drop at s))
    unfolding has_shape
    shape_tag h = rw (the_field s at f w o q, ne_eqb w.tag t h)

    -- one of this tag has this shape exactly if it has this length
    pub shape_length : Stands f at (length s) → w.tag ≡ t → eqb (w.end - w.start) n ≡ has_shape t n (read_field (drop at s))
    unfolding has_shape
    shape_length p h =
        let l : length (take (w.end - w.start) (drop w.start s)) ≡ w.end - w.start
        = length-take-le (w.end - w.start) (drop w.start s) (simp length-drop (omega (arith, within s at f w o p))) in
        rw (the_field s at f w o q, eq-eqb w.tag t h, l)

-- a field that was read: its value is so many bytes behind the head, and what follows stands behind them
field_parts : (l : List ℕ) (t : ℕ) (b rest : List ℕ) → read_field l ≡ field t b rest
    → (b ≡ take (length b) (drop 3 l)) × (rest ≡ drop (3 + length b) l)
unfolding read_field
field_parts [] t b rest e = let z : ◌≡◌ {A = ℕ} 0 1 = cc in absurd (omega arith)
field_parts (x ∷ []) t b rest e = let z : ◌≡◌ {A = ℕ} 0 1 = cc in absurd (omega arith)
field_parts (x ∷ h ∷ []) t b rest e = let z : ◌≡◌ {A = ℕ} 0 1 = cc in absurd (omega arith)
field_parts (x ∷ h ∷ k ∷ r) t b rest e = go (leb (256 * h + k) (length r)) refl e
  where
    n : ℕ
    n = 256 * h + k

    go : (c : Bool) → leb n (length r) ≡ c → cond c (field x (take n r) (drop n r)) broken ≡ field t b rest
        → (b ≡ take (length b) r) × (rest ≡ drop (3 + length b) (x ∷ h ∷ k ∷ r))
    go false q e = let z : ◌≡◌ {A = ℕ} 0 1 = cc in absurd (omega arith)
    go true q e =
        let f : n ≤ length r = leb-true n (length r) q in
        let eb : take n r ≡ b = cc in
        let er : drop n r ≡ rest = cc in
        let l : length b ≡ n = rw (← eb) (length-take-le n r f) in
        let d : 3 + n ≡ suc (suc (suc n)) = omega arith in
        (rw l (sym eb), rw (l, d) (sym er))

-- A RECTANGLE AND THOSE BEHIND IT, read from their places
module _ (plan : List ℕ) (v : ℕ) where
  -- the bytes from the vertex's place on
  abbrev here : List ℕ
  here = drop (place_of v) plan

  -- a byte of the value, by its place in the plan
  value_at : (k : ℕ) → get_or (drop 3 here) k 0 ≡ get_or plan (place_of v + (3 + k)) 0
  value_at k = rw (get_or-drop, get_or-drop)

  -- five bytes that name the vertex are the rectangle in its place
  rect_is : (b : List ℕ) → b ≡ take 5 (drop 3 here) → get_or b 0 0 ≡ v → rect_from b ≡ rect_at plan v
  unfolding rect_from rect_at
  rect_is b e q = same (get_or b 0 0) (get_or b 1 0) (get_or b 2 0) (get_or b 3 0) (get_or b 4 0) q (at 1 (omega arith)) (at 2 (omega arith)) (at 3 (omega arith)) (at 4 (omega arith))
    where
      at : (k : ℕ) → k < 5 → get_or b k 0 ≡ get_or plan (place_of v + (3 + k)) 0
      at k h = rw e (get_or-take 5 (drop 3 here) k 0 h) ∙ value_at k

      same : (x a c d f : ℕ) → x ≡ v → a ≡ get_or plan (place_of v + 4) 0 → c ≡ get_or plan (place_of v + 5) 0 → d ≡ get_or plan (place_of v + 6) 0
          → f ≡ get_or plan (place_of v + 7) 0 → record { vertex = x; x1 = a; y1 = c; x2 = d; y2 = f } ≡ rect_at plan v
      same x a c d f p q r s t = rw (p, q, r, s, t)

  -- what follows a field of eight bytes stands in the next vertex's place
  next_place : drop 8 here ≡ drop (place_of (suc v)) plan
  next_place = let e : place_of v + 8 ≡ place_of (suc v) = omega arith in drop-drop 8 (place_of v) plan ∙ ap (λ (k : ℕ). drop k plan) e

-- bytes none of which are left
nothing_left : (v : ℕ) (l : List ℕ) → read_rects v 0 l ≡ cond (eqb (length l) 0) (some []) none
unfolding read_rects
nothing_left v [] = refl
nothing_left v (b ∷ l) = rw (ne_eqb (suc (length l)) 0 (λ e. omega arith))

-- one rectangle more, where those behind it are read so
module _ (plan : List ℕ) (n v : ℕ) where
  -- whether the rectangles behind have their shape, and what they are
  abbrev later : Bool
  later = rects_shaped (suc v) n (drop 8 (here plan v))

  abbrev rs : List Rect
  rs = rects_at n (suc v) plan

  module _ (behind : read_rects (suc v) n (drop 8 (here plan v)) ≡ cond later (some rs) none) where
    one_more : (f : Field) → read_field (here plan v) ≡ f
        → rect_then v f (read_rects (suc v) n (rest_of f)) ≡ cond (rect_shaped v (here plan v) && later) (some (rect_at plan v ∷ rs)) none
    one_more broken e = unfold rect_then rect_shaped has_shape in rw e
    one_more (field t b rest) e = unfold rect_shaped has_shape rest_of in rw e (shape (eqb t 4 && eqb (length b) 5) refl)
      where
        shape : (c : Bool) → (eqb t 4 && eqb (length b) 5) ≡ c
            → rect_then v (field t b rest) (read_rects (suc v) n rest)
            ≡ cond ((eqb t 4 && eqb (length b) 5) && eqb (get_or (here plan v) 3 0) v && later) (some (rect_at plan v ∷ rs)) none
        shape false q = rw q (other (read_rects (suc v) n rest))
          where
            other : (o : Option (List Rect)) → rect_then v (field t b rest) o ≡ none
            other none = unfold rect_then in refl
            other (some x) = unfold rect_then in rw q
        shape true q =
            let five : length b ≡ 5 = eqb-true (length b) 5 (and_parts (eqb t 4) (eqb (length b) 5) q).1 in
            let (eb, er) = field_parts (here plan v) t b rest e in
            let is_rest : rest ≡ drop 8 (here plan v) = rw five at er in
            let is_value : b ≡ take 5 (drop 3 (here plan v)) = rw five at eb in
            let name : get_or b 0 0 ≡ get_or (here plan v) 3 0 = ap (λ (x : List ℕ). get_or x 0 0) is_value ∙ get_or-take 5 (drop 3 (here plan v)) 0 0 (omega arith) ∙ get_or-drop 3 (here plan v) 0 0 in
            ap (λ (x : List ℕ). rect_then v (field t b rest) (read_rects (suc v) n x)) is_rest
            ∙ ap (rect_then v (field t b rest)) behind
            ∙ rw (q, ← name) (named later (eqb (get_or b 0 0) v) refl is_value)
          where
            named : (l c : Bool) → eqb (get_or b 0 0) v ≡ c → b ≡ take 5 (drop 3 (here plan v))
                → rect_then v (field t b rest) (cond l (some rs) none) ≡ cond (true && c && l) (some (rect_at plan v ∷ rs)) none
            named false true r i = unfold rect_then in refl
            named false false r i = unfold rect_then in refl
            named true false r i = unfold rect_then in rw (q, r)
            named true true r i = unfold rect_then in rw (q, r) (ap (λ (x : Rect). some (x ∷ rs)) (rect_is plan v b i (eqb-true (get_or b 0 0) v r)))

-- rectangles that are read are those in their places; none are where a field has another shape
read_placed : (plan : List ℕ) (n v : ℕ)
    → read_rects v n (drop (place_of v) plan) ≡ cond (rects_shaped v n (drop (place_of v) plan)) (some (rects_at n v plan)) none
unfolding rects_shaped rects_at read_rects
read_placed plan zero v = nothing_left v (drop (place_of v) plan)
read_placed plan (suc n) v = one_more plan n v (rw (next_place plan v) (read_placed plan n (suc v))) (read_field (here plan v)) refl

-- A PLAN THAT IS READ IS THE ONE IN ITS PLACES; none is where a field has another shape
plan_placed : (n : ℕ) (plan : List ℕ) → read_plan n plan ≡ cond (plan_shaped n plan) (some (plan_at n plan)) none
unfolding read_plan plan_shaped plan_at
plan_placed n plan = go (read_field plan) refl
  where
    go : (f : Field) → read_field plan ≡ f
        → plan_first n f ≡ cond (has_shape 3 2 (read_field plan) && rects_shaped 0 (n + 4) (drop 5 plan))
        (some (record { width = get_or plan 3 0; height = get_or plan 4 0; rects = rects_at (n + 4) 0 plan })) none
    go broken e = unfold plan_first has_shape in rw e
    go (field t b rest) e = unfold plan_first has_shape in rw e (shape (eqb t 3 && eqb (length b) 2) refl)
      where
        shape : (c : Bool) → (eqb t 3 && eqb (length b) 2) ≡ c
            → cond (eqb t 3 && eqb (length b) 2) (on_sheet b (read_rects 0 (n + 4) rest)) none
            ≡ cond ((eqb t 3 && eqb (length b) 2) && rects_shaped 0 (n + 4) (drop 5 plan))
            (some (record { width = get_or plan 3 0; height = get_or plan 4 0; rects = rects_at (n + 4) 0 plan })) none
        shape false q = rw q
        shape true q =
            let two : length b ≡ 2 = eqb-true (length b) 2 (and_parts (eqb t 3) (eqb (length b) 2) q).1 in
            let (eb, er) = field_parts plan t b rest e in
            let is_rest : rest ≡ drop 5 plan = rw two at er in
            let is_value : b ≡ take 2 (drop 3 plan) = rw two at eb in
            let wide : get_or b 0 0 ≡ get_or plan 3 0 = ap (λ (x : List ℕ). get_or x 0 0) is_value ∙ get_or-take 2 (drop 3 plan) 0 0 (omega arith) ∙ get_or-drop 3 plan 0 0 in
            let tall : get_or b 1 0 ≡ get_or plan 4 0 = ap (λ (x : List ℕ). get_or x 1 0) is_value ∙ get_or-take 2 (drop 3 plan) 1 0 (omega arith) ∙ get_or-drop 3 plan 1 0 in
            rw q (ap (λ (x : List ℕ). on_sheet b (read_rects 0 (n + 4) x)) is_rest ∙ ap (on_sheet b) (read_placed plan (n + 4) 0) ∙ sheet (rects_shaped 0 (n + 4) (drop 5 plan)) wide tall)
          where
            sheet : (c : Bool) → get_or b 0 0 ≡ get_or plan 3 0 → get_or b 1 0 ≡ get_or plan 4 0
                → on_sheet b (cond c (some (rects_at (n + 4) 0 plan)) none)
                ≡ cond (true && c) (some (record { width = get_or plan 3 0; height = get_or plan 4 0; rects = rects_at (n + 4) 0 plan })) none
            sheet false w h = unfold on_sheet in refl
            sheet true w h = unfold on_sheet in rw (w, h)

-- ---- as the code asks it

module _ (plan : List ℕ) (v : ℕ) (b : Bool) (e : b ≡ has_shape 4 5 (read_field (drop (place_of v) plan))) where
  -- a vertex's field of another shape
  pub rect_other : b ≡ false → false ≡ rect_shaped v (drop (place_of v) plan)
  unfolding rect_shaped
  rect_other t = rw (← e, t)

  -- a vertex's field of that shape: it comes to the vertex that it names
  pub rect_names : (x y : ℕ) → b ≡ true → y ≡ get_or plan (8 + 8 * v) 0 → x ≡ y → eqb x v ≡ rect_shaped v (drop (place_of v) plan)
  unfolding rect_shaped
  rect_names x y t ey ex =
      let k : place_of v + 3 ≡ 8 + 8 * v = omega arith in
      let q : get_or (drop (place_of v) plan) 3 0 ≡ x = get_or-drop (place_of v) plan 3 0 ∙ ap (λ (i : ℕ). get_or plan i 0) k ∙ sym (ex ∙ ey) in
      rw (← e, t, q)

-- the fields of the vertices, one by one
module _ (plan : List ℕ) (m v : ℕ) (w : Bool) (inv : rects_shaped v (m - v) (drop (place_of v) plan) ≡ w) where
  module _ (b : Bool) (h : v < m) (e : b ≡ rect_shaped v (drop (place_of v) plan)) where
    -- where the next has another shape, not all have theirs
    pub fields_false : not b ≡ true → false ≡ w
    unfolding rects_shaped
    fields_false t =
        let d : m - v ≡ suc (m - (v + 1)) = omega arith in
        rw (d, ← e, not-true b t) at inv

    -- where it has its shape, all have theirs exactly if those behind it do
    pub fields_next : not b ≡ false → rects_shaped (v + 1) (m - (v + 1)) (drop (place_of (v + 1)) plan) ≡ w
    unfolding rects_shaped
    fields_next t =
        let d : m - v ≡ suc (m - (v + 1)) = omega arith in
        let s : v + 1 ≡ suc v = omega arith in
        rw (s, ← next_place plan v) (rw (d, ← e, not-false b t, s) at inv)

  -- behind the last nothing may stand
  pub fields_done : v ≤ m → m ≤ v → leb (length plan) (5 + 8 * m) ≡ w
  unfolding rects_shaped
  fields_done g h =
      let d : m - v ≡ 0 = omega arith in
      let s : m ≡ v = omega arith in
      sym (ends (rw (length-drop (place_of v) plan))) ∙ (rw d at inv)
    where
      ends : eqb (length (drop (place_of v) plan)) 0 ≡ eqb (length plan - place_of v) 0 → eqb (length (drop (place_of v) plan)) 0 ≡ leb (length plan) (5 + 8 * m)
      ends q = q ∙ same_test (eqb (length plan - place_of v) 0) (leb (length plan) (5 + 8 * m))
          (λ e. le-leb (length plan) (5 + 8 * m) (omega (arith, eqb-true (length plan - place_of v) 0 e)))
          (λ e. eq-eqb (length plan - place_of v) 0 (omega (arith, leb-true (length plan) (5 + 8 * m) e)))

-- the whole
module _ (plan : List ℕ) (n : ℕ) (b : Bool) (e : b ≡ has_shape 3 2 (read_field (drop 0 plan))) where
  -- a sheet's field of another shape
  pub sheet_other : b ≡ false → read_plan n plan ≡ cond false (some (plan_at n plan)) none
  unfolding plan_shaped
  sheet_other t = plan_placed n plan ∙ rw (← e, t)

  -- one of its shape: it comes to the vertices
  pub sheet_then : (m : ℕ) (r : Bool) → b ≡ true → m ≡ n → r ≡ rects_shaped 0 (m + 4) (drop 5 plan)
      → read_plan n plan ≡ cond r (some (plan_at n plan)) none
  unfolding plan_shaped
  sheet_then m r t em er = plan_placed n plan ∙ rw (← e, t, ← em, ← er)
