-- Rectangles put at their vertices, as the code comes by them. Assumes nothing.
use Prim.Native.Nat.{ℕ, suc, ◌+◌, ◌*◌, ◌-◌, ◌<◌, ◌≤◌}
use mathlib.Core.Path.{◌≡◌, refl, sym, ap, ◌∙◌}
use mathlib.Core.List.{List, [], ◌∷◌, ◌++◌, map, append_assoc}
use native.Mathlib.Omega.{arith}
use lib.ListN.{length, take, drop, replicate, length-append, length-map}
use lib.Seq.{sets, sets-eq, drop-drop}
use borrow.Rule.Slice.PartMut.{put_mid, post_of}
use Rattle.floor.specs.Lists.{up_from}
use Rattle.floor.proofs.Lists.Laws.{length_up_from}
use Rattle.floor.specs.Plans.{Rect, room_rect}
use Rattle.fields.proofs.Puts.{sets_append}
use Rattle.walls.specs.declared.Sheet.{Sheet}
use Rattle.walls.specs.declared.Sides.{Sides}
use Rattle.walls.specs.Numbers.{sides_at}
use Rattle.drawing.specs.declared.Rect.{Rect as HeldRect}
use Rattle.drawing.specs.Rects.{rect_in, flat, noughts, held_plan}
use Rattle.drawing.specs.Drawn.{walled_by, frame, plan_by}

-- four numbers put in the place of as many
pub four_put : (o l n : List ℕ) (k m : ℕ) → n ≡ l → length l ≡ 4 → m ≡ 4 → k + 4 ≤ length o → put_mid k m o n ≡ sets o k l
four_put o l n k m e f g h =
    ap (λ (x : List ℕ). take k o ++ (x ++ post_of k m o)) e
    ∙ ap (λ (x : List ℕ). take k o ++ (l ++ x)) (drop-drop m k o ∙ ap (λ (x : ℕ). drop (k + x) o) (g ∙ sym f))
    ∙ sym (append_assoc (take k o) l (drop (k + length l) o))
    ∙ sym (sets-eq l o k (omega (arith, f)))

-- the four sides of the frame
pub frame_put : (o a b c d : List ℕ) (w h : ℕ) → a ≡ sets o (4 * 0) (1 ∷ (h - 1) ∷ (w - 1) ∷ h ∷ []) → b ≡ sets a (4 * 1) (0 ∷ 0 ∷ 1 ∷ h ∷ [])
    → c ≡ sets b (4 * 2) (1 ∷ 0 ∷ (w - 1) ∷ 1 ∷ []) → d ≡ sets c (4 * 3) ((w - 1) ∷ 0 ∷ w ∷ h ∷ []) → d ≡ sets o 0 (flat (frame w h))
unfolding flat frame
frame_put o a b c d w h ea eb ec ed = rw (ed, ec, eb, ea)

-- a room's rectangle from its walls
pub room_walled : (xs ys : List ℕ) (v : ℕ) (s : Sides) → s ≡ sides_at xs ys v
    → rect_in (record { vertex = v; x1 = s.left.0; y1 = s.lower.0; x2 = s.right.0; y2 = s.upper.0 }) ≡ walled_by xs ys v
unfolding rect_in walled_by room_rect
room_walled xs ys v s e = rw e

-- the rooms, one by one: what is left to put, put, gives the whole
module _ (xs ys : List ℕ) where
  -- the numbers of n rooms from room u on
  abbrev rooms_from : ℕ → ℕ → List ℕ
  rooms_from u n = flat (map (walled_by xs ys) (up_from u n))

  -- a held rectangle that is v's by its walls, put at v's place, is v's four numbers put there
  four_of : (o : List ℕ) (r : HeldRect) (v : ℕ) → rect_in r ≡ walled_by xs ys v
      → sets o (4 * v) (r.x1 ∷ r.y1 ∷ r.x2 ∷ r.y2 ∷ []) ≡ sets o (4 * v) (flat (walled_by xs ys v ∷ []))
  unfolding flat rect_in
  four_of o r v e = ap (λ (s : Rect). sets o (4 * v) (s.x1 ∷ s.y1 ∷ s.x2 ∷ s.y2 ∷ [])) e

  -- at the start all the rooms are left to put, from place 16 on
  pub rooms_first : (o : List ℕ) (n : ℕ) → sets o (4 * (4 + 0)) (rooms_from (4 + 0) (n - 0)) ≡ sets o 16 (rooms_from 4 n)
  rooms_first o n = let z : n - 0 ≡ n = omega arith in rw z

  -- the next room put, those behind it are left
  pub rooms_more : (o x y : List ℕ) (r : HeldRect) (n i : ℕ) → rect_in r ≡ walled_by xs ys (4 + i)
      → x ≡ sets o (4 * (4 + i)) (r.x1 ∷ r.y1 ∷ r.x2 ∷ r.y2 ∷ []) → i < n
      → sets o (4 * (4 + i)) (rooms_from (4 + i) (n - i)) ≡ y → sets x (4 * (4 + (i + 1))) (rooms_from (4 + (i + 1)) (n - (i + 1))) ≡ y
  unfolding flat up_from
  rooms_more o x y r n i e ex h inv =
      let d : n - i ≡ suc (n - (i + 1)) = omega arith in
      let s : 4 + (i + 1) ≡ suc (4 + i) = omega arith in
      let k : 4 * suc (4 + i) ≡ suc (suc (suc (suc (4 * (4 + i))))) = omega arith in
      rw (ex ∙ four_of o r (4 + i) e, s, k) (rw d at inv)

  -- behind the last room nothing is left to put
  pub rooms_done : (o y : List ℕ) (n i : ℕ) → n ≤ i → sets o (4 * (4 + i)) (rooms_from (4 + i) (n - i)) ≡ y → o ≡ y
  unfolding flat up_from
  rooms_done o y n i h inv =
      let d : n - i ≡ 0 = omega arith in
      rw d at inv

-- the numbers of rectangles before rectangles are those of the first, then those of the others
flat_append : (a b : List Rect) → flat (a ++ b) ≡ flat a ++ flat b
unfolding flat
flat_append [] b = refl
flat_append (r ∷ a) b = rw (flat_append a b)

-- the frame has four sides
frame_sides : (w h : ℕ) → length (frame w h) ≡ 4
unfolding frame
frame_sides w h = refl

-- they have sixteen numbers
frame_numbers : (w h : ℕ) → 0 + length (flat (frame w h)) ≡ 16
unfolding frame flat
frame_numbers w h = refl

-- the whole plan
pub plan_put : (xs ys : List ℕ) (s : Sheet) (n : ℕ) (z x y : List ℕ) → z ≡ replicate 256 0 → x ≡ sets z 0 (flat (frame s.width s.height))
    → y ≡ sets x 16 (flat (map (walled_by xs ys) (up_from 4 n)))
    → record { rooms = n; width = s.width; height = s.height; rects = y } ≡ held_plan (plan_by xs ys s n)
unfolding held_plan plan_by
plan_put xs ys s n z x y ez ex ey =
    let rs : List Rect = map (walled_by xs ys) (up_from 4 n) in
    let f : List Rect = frame s.width s.height in
    let l : length (f ++ rs) - 4 ≡ n = rw (length-append f rs) (omega (arith, rooms, frame_sides s.width s.height)) in
    let p : sets noughts 0 (flat (f ++ rs)) ≡ y
    = rw (flat_append f rs) (sets_append noughts 0 (flat f) (flat rs) ∙ rw (ey, ex, ez, frame_numbers s.width s.height)) in
    rw (l, p)
  where
    rooms : length (map (walled_by xs ys) (up_from 4 n)) ≡ n
    rooms = length-map (up_from 4 n) (walled_by xs ys) ∙ length_up_from 4 n
