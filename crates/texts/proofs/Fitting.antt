-- The doors of a plan as text, line by line, as the code comes by them. Assumes nothing.
use Prim.Native.Nat.{ℕ, zero, suc, ◌+◌, ◌-◌, ◌*◌, ◌<◌, ◌≤◌}
use mathlib.Core.Path.{◌≡◌, refl, sym, ap, ◌∙◌}
use mathlib.Core.Bool.{true, false}
use mathlib.Core.List.{List, [], ◌∷◌, ◌++◌, append_assoc, append-nil}
use native.Mathlib.Omega.{arith}
use borrow.Author.Tests.{le-leb, lt-leb}
use lib.Dec.{leb}
use lib.ListN.{length, get_or, drop, drop_of_length-le, length-append}
use lib.Seq.{sets, drop-cons}
use Rattle.std.specs.Prelude.{Result, Ok, Err}
use Rattle.refusals.specs.declared.Refusal.{Refusal}
use Rattle.refusals.specs.Numbers.{number_of}
use Rattle.floor.specs.Plans.{Rect, nowhere, touch_of, refused, held}
use Rattle.floor.proofs.Floor.Touches.{touch_fair}
use Rattle.floor.specs.Calls.{load}
use Rattle.floor.proofs.Calls.Sound.{load_held}
use Rattle.floor.proofs.Calls.Bytes.{length_write_plan, plan_length_most}
use Rattle.floor.specs.Quoted.{plain}
use Rattle.floor.specs.Texts.{line, refused_word, too_long, answer_text}
use Rattle.floor.specs.Doors.{Door, start_on, stop_on, door_at, doors_to, doors_among, doors, door_lines, doors_text, doors_listing}
use Rattle.drawing.specs.declared.Rect.{Rect as HeldRect}
use Rattle.drawing.specs.declared.Touch.{Touch as Touching}
use Rattle.drawing.specs.declared.Touch.TheVariants.{Clear, Wall}
use Rattle.drawing.specs.declared.Layout.{Layout}
use Rattle.drawing.specs.Rects.{rect_in, touch_in, rects_in, rects_lent, plan_lent, plan_in}
use Rattle.drawing.proofs.Corollaries.{many_rects}
use Rattle.board.specs.declared.Board.{Board as HeldBoard}
use Rattle.board.specs.Boards.{held_job, said, Plans}
use Rattle.letters.specs.Puts.{Puts}
use Rattle.letters.proofs.Rows.{both_puts, none_put, front_put}
use Rattle.texts.proofs.Rows.{one_short}
use Rattle.texts.proofs.Plans.{vertex_at}

-- ---- a text put part by part

-- a part of a text is put and a part is left, of which at most so many bytes are to come, and of the whole at most so many
pub record Partly (o : List ℕ) (at : ℕ) (x : List ℕ) (next : ℕ) (rest whole : List ℕ) (left all : ℕ) : Type 0 where
  pub front : List ℕ
  pub put : Puts o at front x next
  pub parts : front ++ rest ≡ whole
  pub short : length front + left ≤ all

-- at first all of it is left
pub partly_none : (o : List ℕ) (at : ℕ) (whole : List ℕ) (left all : ℕ) → left ≤ all → Partly o at o at whole whole left all
partly_none o at whole left all h = record { front = []; put = none_put o at; parts = refl; short = omega (arith, h) }

-- the next part put
partly_more : (o x y t rest whole : List ℕ) (at m k n left all : ℕ) → Partly o at x m (t ++ rest) whole (n + left) all → Puts x m t y k → length t ≤ n
    → Partly o at y k rest whole left all
partly_more o x y t rest whole at m k n left all p q h = record {
  front = p.front ++ t;
  put = both_puts o x y p.front t at m k p.put q;
  parts = append_assoc p.front t rest ∙ p.parts;
  short = omega (arith, p.short, length-append p.front t);
}

-- where none is left, the whole is put
partly_done : (o x whole : List ℕ) (at k left all : ℕ) → Partly o at x k [] whole left all → Puts o at whole x k × (length whole ≤ all)
partly_done o x whole at k left all p =
    let e : p.front ≡ whole = sym (append-nil p.front) ∙ p.parts in
    (rw e at p.put, omega (arith, p.short, ap (λ (l : List ℕ). length l) e))

-- ---- one door

module _ (r s : HeldRect) (x : Touching) (ex : touch_in x ≡ touch_of (rect_in r) (rect_in s)) where
  -- the text of the door between them
  abbrev text : List ℕ
  text = door_lines (door_at (rect_in r) (rect_in s) (touch_of (rect_in r) (rect_in s)))

  -- no wall: nothing is put
  pub door_none : (o : List ℕ) (at : ℕ) → x ≡ Clear → Puts o at text o at
  unfolding touch_in door_at door_lines
  door_none o at e = rw (← ex, e) (none_put o at)

  -- and nothing has no bytes
  pub none_short : x ≡ Clear → length text ≤ 26
  unfolding touch_in door_at door_lines
  none_short e = rw (← ex, e) (omega arith)

  -- a wall: the numbers on a line are the line of the door
  module _ (k n a b : ℕ) (e : x ≡ Wall k n) (ea : a ≡ start_on k (rect_in r) (rect_in s)) (eb : b ≡ stop_on k (rect_in r) (rect_in s)) where
    -- the line
    door_is : line (r.vertex ∷ s.vertex ∷ k ∷ a ∷ b ∷ n ∷ []) ≡ text
    unfolding touch_in door_at door_lines rect_in
    door_is = rw (← ex, e, ea, eb) (sym (append-nil _))

    -- where it is put, the text of the door is, of at most 26 bytes
    pub door_put : (r.vertex < 100) × (s.vertex < 100) → (o y : List ℕ) (at m : ℕ)
        → Puts o at (line (r.vertex ∷ s.vertex ∷ k ∷ a ∷ b ∷ n ∷ [])) y m
        × (r.vertex < 100 → s.vertex < 100 → k < 10 → length (line (r.vertex ∷ s.vertex ∷ k ∷ a ∷ b ∷ n ∷ [])) ≤ 26)
        → Puts o at text y m × (length text ≤ 26)
    unfolding touch_in
    door_put (hr, hs) o y at m (p, q) =
        let f : (k < 4) × (1 ≤ n) = touch_fair (rect_in r) (rect_in s) k n (sym ex ∙ rw e refl) in
        (rw door_is at p, rw door_is at (q hr hs (omega (arith, f.0))))

-- ---- the doors one by one

-- the lines of some doors and of others behind them
lines_both : (a b : List Door) → door_lines (a ++ b) ≡ door_lines a ++ door_lines b
unfolding door_lines
lines_both [] b = refl
lines_both (d ∷ a) b = rw (lines_both a b) (sym (append_assoc (line (d.first ∷ d.second ∷ d.side ∷ d.start ∷ d.stop ∷ d.long ∷ [])) (door_lines a) (door_lines b)))

-- how many pairs there are of so many
unfoldable pub pairs : ℕ → ℕ
pairs zero = 0
pairs (suc n) = n + pairs n

-- more have no fewer pairs
pairs_more : (n m : ℕ) → n ≤ m → pairs n ≤ pairs m
unfolding pairs
pairs_more n zero h = let z : n ≡ 0 = omega arith in rw z (omega arith)
pairs_more zero (suc m) h = omega arith
pairs_more (suc n) (suc m) h = omega (arith, pairs_more n m (omega arith))

-- 60 have 1,770
pub pairs_most : (n : ℕ) → n ≤ 60 → 26 * pairs n ≤ 46020
pairs_most n h = let e : pairs 60 ≡ 1770 = (unfold pairs in refl) in omega (arith, pairs_more n 60 h)

module _ (l : List ℕ) (rooms : ℕ) where
  -- the rectangles
  abbrev rects : List Rect
  rects = rects_in (rooms + 4) 0 l

  -- the rectangle of vertex v
  abbrev rect_on : ℕ → Rect
  rect_on v = get_or rects v nowhere

  module _ (r : HeldRect) (v : ℕ) (e : rect_in r ≡ rect_on v) (few : rooms ≤ 60) where
    -- the vertex is below 100, of at most 60 rooms
    pub vertex_small : v < rooms + 4 → r.vertex < 100
    unfolding rect_in
    vertex_small h =
        let ev : r.vertex ≡ (rect_on v).vertex = ap (λ (q : Rect). q.vertex) e in
        omega (arith, vertex_at (rooms + 4) 0 v l)

    -- the same by a count of the rooms
    pub vertex_next : (many : ℕ) → many ≡ rooms + 4 → v < many → r.vertex < 100
    vertex_next many em h = vertex_small (omega arith)

  -- from v on: its rectangle, then those behind it
  from_here : (v : ℕ) → v < rooms + 4 → drop v rects ≡ rect_on v ∷ drop (v + 1) rects
  from_here v h =
      let s : v + 1 ≡ suc v = omega arith in
      rw s (drop-cons rects v nowhere (omega (arith, many_rects (rooms + 4) l)))

  -- behind the last there is none
  from_end : (v : ℕ) → rooms + 4 ≤ v → drop v rects ≡ []
  from_end v h = let k : length rects ≤ v = omega (arith, many_rects (rooms + 4) l) in drop_of_length-le rects k

  module _ (o : List ℕ) (at : ℕ) (whole : List ℕ) (all many : ℕ) (em : many ≡ rooms + 4) where
    -- the doors from u, put up to that to v
    module _ (u v : ℕ) where
      -- what is left of them
      abbrev left_to : ℕ → List ℕ
      left_to w = door_lines (doors_to (rect_on u) (drop w rects))

      -- the next door's line put
      pub to_more : (x y : List ℕ) (m k : ℕ) (r s : HeldRect) → Partly o at x m (left_to v) whole (26 * (rooms + 4 - v)) all → v < many
          → rect_in r ≡ rect_on u → rect_in s ≡ rect_on v
          → Puts x m (door_lines (door_at (rect_in r) (rect_in s) (touch_of (rect_in r) (rect_in s)))) y k
          × (length (door_lines (door_at (rect_in r) (rect_in s) (touch_of (rect_in r) (rect_in s)))) ≤ 26)
          → Partly o at y k (left_to (v + 1)) whole (26 * (rooms + 4 - (v + 1))) all
      unfolding doors_to
      to_more x y m k r s p h er es q =
          let t : List ℕ = door_lines (door_at (rect_on u) (rect_on v) (touch_of (rect_on u) (rect_on v))) in
          let e : left_to v ≡ t ++ left_to (v + 1) = rw (from_here v (omega arith)) (lines_both (door_at (rect_on u) (rect_on v) (touch_of (rect_on u) (rect_on v))) _) in
          let c : 26 * (rooms + 4 - v) ≡ 26 + 26 * (rooms + 4 - (v + 1)) = omega arith in
          let (a, b) : Puts x m t y k × (length t ≤ 26) = rw (er, es) at q in
          partly_more o x y t (left_to (v + 1)) whole at m k 26 _ all (rw (e, c) at p) a b

      -- behind the last all are put
      pub to_done : (x : List ℕ) (k : ℕ) → Partly o at x k (left_to v) whole (26 * (rooms + 4 - v)) all → many ≤ v → Puts o at whole x k × (length whole ≤ all)
      unfolding doors_to door_lines
      to_done x k p h = partly_done o x whole at k _ all (rw (from_end v (omega arith)) at p)

    -- the doors between any two from u on
    module _ (u : ℕ) where
      -- what is left of them
      abbrev left_among : ℕ → List ℕ
      left_among w = door_lines (doors_among (drop w rects))

      -- those from u put
      pub among_more : (x y : List ℕ) (m k : ℕ) → Partly o at x m (left_among u) whole (26 * pairs (rooms + 4 - u)) all → u < many
          → Puts x m (door_lines (doors_to (rect_on u) (drop (u + 1) rects))) y k × (length (door_lines (doors_to (rect_on u) (drop (u + 1) rects))) ≤ 26 * (rooms + 4 - (u + 1)))
          → Partly o at y k (left_among (u + 1)) whole (26 * pairs (rooms + 4 - (u + 1))) all
      unfolding doors_among pairs
      among_more x y m k p h q =
          let t : List ℕ = door_lines (doors_to (rect_on u) (drop (u + 1) rects)) in
          let e : left_among u ≡ t ++ left_among (u + 1) = rw (from_here u (omega arith)) (lines_both (doors_to (rect_on u) (drop (u + 1) rects)) _) in
          let n : rooms + 4 - u ≡ suc (rooms + 4 - (u + 1)) = omega arith in
          let d : pairs (rooms + 4 - u) ≡ rooms + 4 - (u + 1) + pairs (rooms + 4 - (u + 1)) = rw n refl in
          let c : 26 * pairs (rooms + 4 - u) ≡ 26 * (rooms + 4 - (u + 1)) + 26 * pairs (rooms + 4 - (u + 1)) = omega (arith, d) in
          partly_more o x y t (left_among (u + 1)) whole at m k (26 * (rooms + 4 - (u + 1))) _ all (rw (e, c) at p) q.0 q.1

      -- behind the last all are put
      pub among_done : (x : List ℕ) (k : ℕ) → Partly o at x k (left_among u) whole (26 * pairs (rooms + 4 - u)) all → many ≤ u
          → Puts o at whole x k × (length whole ≤ all)
      unfolding doors_among door_lines
      among_done x k p h = partly_done o x whole at k _ all (rw (from_end u (omega arith)) at p)

-- ---- the whole answer

-- a job that is drawn, and the plan that is lent of its board
module _ (bs : List ℕ) (q : Result HeldBoard Refusal) (p : Plans q (load bs)) (b : HeldBoard) (d : q ≡ Ok b) (a : Layout) (ea : plan_lent a ≡ plan_in b.plan) where
  -- it is what the load holds
  loaded : load bs ≡ held (held_job b) (plan_lent a)
  unfolding said
  loaded = rw ea (sym (rw d at p.says))

  -- it has at most 60 rooms
  pub few_rooms : a.rooms ≤ 60
  few_rooms =
      omega (
        arith,
        plan_length_most _ (plan_lent a) (load_held bs _ (plan_lent a) loaded).1,
        length_write_plan (plan_lent a),
        many_rects (a.rooms + 4) a.rects.now,
      )

-- what is printed for some input, on a page of 49,152 bytes
module _ (bs o x : List ℕ) (r : ℕ) (l : length o ≡ 49152) where
  -- it stands at the front
  abbrev Stands : Type 0
  Stands = (r ≡ length (doors_listing bs)) × (x ≡ sets o 0 (doors_listing bs)) × (r ≤ 49152)

  -- over 8,192 bytes: that it is too long
  pub doors_long : 8192 < length bs → Puts o 0 too_long x r → Stands
  unfolding doors_listing too_long plain
  doors_long h p =
      let z : leb (length bs) 8192 ≡ false = lt-leb (length bs) 8192 h in
      rw z (front_put o too_long x r p l (omega arith))

  module _ (h : length bs ≤ 8192) (q : Result HeldBoard Refusal) (p : Plans q (load bs)) where
    -- any other: the text of what loading it answers
    short_doors : doors_listing bs ≡ doors_text (load bs)
    unfolding doors_listing
    short_doors = let z : leb (length bs) 8192 ≡ true = le-leb (length bs) 8192 h in rw z

    -- a job that is refused: its number
    pub doors_refused : (k : Refusal) (n : ℕ) → n ≡ number_of k → n < 256 → q ≡ Err k → Puts o 0 (refused_word ++ line (n ∷ [])) x r → Stands
    unfolding said doors_text answer_text refused_word plain
    doors_refused k n en i d t =
        let e : load bs ≡ refused n = rw en (sym (rw d at p.says)) in
        rw (short_doors ∙ ap doors_text e) (front_put o (refused_word ++ line (n ∷ [])) x r t l (omega (arith, one_short n (omega arith))))

    -- a job that is drawn: its doors
    pub doors_drawn : (b : HeldBoard) → q ≡ Ok b → (a : Layout) → plan_lent a ≡ plan_in b.plan
        → Puts o 0 (door_lines (doors_among (drop 4 (rects_lent a)))) x r × (length (door_lines (doors_among (drop 4 (rects_lent a)))) ≤ 46020) → Stands
    unfolding doors_text doors
    doors_drawn b d a ea t = rw (short_doors ∙ ap doors_text (loaded bs q p b d a ea)) (front_put o _ x r t.0 l (omega (arith, t.1)))
