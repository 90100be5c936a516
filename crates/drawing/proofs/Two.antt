-- One rectangle and two, as the code comes by them. Assumes nothing.
use Prim.Native.Nat.{ℕ, zero, suc, ◌-◌, ◌*◌, ◌<◌, max, min}
use mathlib.Core.Path.{◌≡◌, refl, sym, ap, ◌∙◌}
use mathlib.Core.Bool.{Bool, true, false, not, ◌&&◌, ◌||◌, cond}
use native.Mathlib.Nat.{mul-le-mul, lt_of_le_of_lt}
use native.Mathlib.Omega.{arith}
use borrow.Author.Tests.{le-leb, eq-eqb, ne_eqb, eqb-true}
use lib.Dec.{leb, eqb, lit<}
use Rattle.floor.proofs.Lists.Laws.{no_false}
use Rattle.floor.specs.Jobs.{Job}
use Rattle.floor.specs.Plans.{Rect, overlap, abut, apart, Touch, wall, is_wall, on_line, facing, touch_on, touch_of, corner, joined, shares_joined}
use Rattle.drawing.specs.declared.Rect.{Rect as HeldRect}
use Rattle.drawing.specs.declared.Touch.{Touch as Touching}
use Rattle.drawing.specs.declared.Touch.TheVariants.{Clear, Wall}
use Rattle.drawing.specs.Rects.{rect_in, touch_in}
use Rattle.drawing.specs.Tests.{away, pair_ok}

-- two stretches
module _ (a b c d : ℕ) where
  -- stretches that touch end to end reach over one another by nothing
  abut_reach : abut a b c d ≡ true → overlap a b c d ≡ 0
  unfolding overlap abut
  abut_reach h = go (eqb b c) refl (eqb d a) refl h
    where
      go : (p : Bool) → eqb b c ≡ p → (q : Bool) → eqb d a ≡ q → (p || q) ≡ true → min b d - max a c ≡ 0
      go true e q f t = let g : b ≡ c = eqb-true b c e in omega arith
      go false e true f t = let g : d ≡ a = eqb-true d a f in omega arith
      go false e false f t = let z : ◌≡◌ {A = ℕ} 0 1 = cc in absurd (omega arith)

-- a product of two numbers of two bytes is a number of four bytes
pub product : (m n : ℕ) → m < 65536 → n < 65536 → m * n < 4294967296
product m n h k = lt_of_le_of_lt (mul-le-mul {n₂ = 65535} {m₂ = 65535} (omega arith) (omega arith)) (lit< tt)

-- two rectangles
module _ (r s : HeldRect) where
  -- how far they reach over one another across and upward, and whether they touch there
  abbrev across : ℕ
  across = overlap r.x1 r.x2 s.x1 s.x2

  -- how far they reach over one another upward
  abbrev upward : ℕ
  upward = overlap r.y1 r.y2 s.y1 s.y2

  -- whether they touch end to end across
  abbrev beside : Bool
  beside = abut r.x1 r.x2 s.x1 s.x2

  -- whether they touch end to end upward
  abbrev above : Bool
  above = abut r.y1 r.y2 s.y1 s.y2

-- a test and one that fails do not both pass
and_false : (a : Bool) → false ≡ (a && false)
and_false true = refl
and_false false = refl

-- a test and one that passes both pass exactly if the test does
and_true : (a : Bool) → a ≡ (a && true)
and_true true = refl
and_true false = refl

-- what is asked of two, by whether they reach over one another by nothing (x across, y upward), touch (a across, b upward) and are joined (w)
unfoldable asked : (x y a b w : Bool) → Bool
asked x y a b w = (x || y) && (not ((a && not y) || (b && not x)) || w) && not (a && b)

-- nothing, where they lie away from one another
far_across : (x y a b w : Bool) → (x && not a) ≡ true → true ≡ asked x y a b w
unfolding asked
far_across true y false true w e = refl
far_across true y false false w e = refl
far_across true y true b w e = no_false e
far_across false y a b w e = no_false e

-- nor anything, where they lie away from one another upward
far_upward : (x y a b w : Bool) → (y && not b) ≡ true → true ≡ asked x y a b w
unfolding asked
far_upward true true true false w e = refl
far_upward true true false false w e = refl
far_upward false true true false w e = refl
far_upward false true false false w e = refl
far_upward x true a true w e = no_false e
far_upward x false a b w e = no_false e

-- where there is no wall they fail: at a corner, where both touch, and over a cell, where neither does
near_clear : (x y a b w : Bool) → (x && not a) ≡ false → (y && not b) ≡ false → ((a && not y) || (b && not x)) ≡ false → false ≡ asked x y a b w
unfolding asked
near_clear x y true true w e f t = and_false ((x || y) && (not (not y || not x) || w))
near_clear false false false false w e f t = refl
near_clear true y false false w e f t = no_false (sym e)
near_clear false true false false w e f t = no_false (sym f)
near_clear x true true false w e f t = no_false (sym f)
near_clear x false true false w e f t = no_false (sym t)
near_clear true y false true w e f t = no_false (sym e)
near_clear false y false true w e f t = no_false (sym t)

-- where there is a wall nothing is asked but whether they are joined; what touches reaches over one another by nothing
near_wall : (x y a b w : Bool) → (a ≡ true → x ≡ true) → (b ≡ true → y ≡ true) → ((a && not y) || (b && not x)) ≡ true → w ≡ asked x y a b w
unfolding asked
near_wall true false true false w g h t = and_true w
near_wall true false true true w g h t = no_false (h refl)
near_wall false y true b w g h t = no_false (g refl)
near_wall true true true true w g h t = no_false t
near_wall true true true false w g h t = no_false t
near_wall false true false true w g h t = and_true w
near_wall true y false true w g h t = no_false t
near_wall false false false true w g h t = no_false (h refl)
near_wall x y false false w g h t = no_false t

-- at least 1 is not nothing
some_reach : (m : ℕ) → leb 1 m ≡ not (eqb m 0)
some_reach zero = refl
some_reach (suc m) = rw (le-leb 1 (suc m) (omega arith), ne_eqb (suc m) 0 (λ e. omega arith))

-- there is a wall on a side, or there is one elsewhere
wall_on : (k : ℕ) (r s : Rect) (t : Touch) → is_wall (touch_on k r s t) ≡ ((on_line k r s && leb 1 (facing k r s)) || is_wall t)
unfolding touch_on
wall_on k r s t = go (on_line k r s && leb 1 (facing k r s)) (facing k r s)
  where
    go : (b : Bool) (n : ℕ) → is_wall (cond b (wall k n) t) ≡ (b || is_wall t)
    go true n = unfold is_wall in refl
    go false n = refl

-- one of two is true where the second is
or_true : (a : Bool) → true ≡ (a || true)
or_true true = refl
or_true false = refl

-- of sides to the left and to the right that lie on one line, b and d, one is shared where they reach over one another upward, y
sideways : (b d y : Bool) → ((b && y) || ((d && y) || false)) ≡ (((d || b) && y) || false)
sideways true true true = refl
sideways true true false = refl
sideways true false true = refl
sideways true false false = refl
sideways false true true = refl
sideways false true false = refl
sideways false false y = refl

-- so of all four, with those above and below, a and c, where they reach over one another across, x
all_sides : (a b c d x y : Bool) → ((a && x) || ((b && y) || ((c && x) || ((d && y) || false)))) ≡ (((d || b) && y) || ((a || c) && x))
all_sides true b c d true y = or_true ((d || b) && y)
all_sides false b true d true y = sym (or_true (b && y)) ∙ or_true ((d || b) && y)
all_sides false b false d true y = sideways b d y
all_sides true b true d false y = sideways b d y
all_sides true b false d false y = sideways b d y
all_sides false b true d false y = sideways b d y
all_sides false b false d false y = sideways b d y

-- there is a wall exactly where two touch in one direction and reach over one another in the other
wall_is : (r s : HeldRect) → is_wall (touch_of (rect_in r) (rect_in s)) ≡ ((beside r s && leb 1 (upward r s)) || (above r s && leb 1 (across r s)))
unfolding touch_of on_line facing abut rect_in is_wall
wall_is r s =
    rw (wall_on 0 (rect_in r) (rect_in s), wall_on 1 (rect_in r) (rect_in s), wall_on 2 (rect_in r) (rect_in s), wall_on 3 (rect_in r) (rect_in s))
    (all_sides (eqb r.y2 s.y1) (eqb s.x2 r.x1) (eqb s.y2 r.y1) (eqb r.x2 s.x1) (leb 1 (across r s)) (leb 1 (upward r s)))

module _ (j : Job) (r s : HeldRect) where
  -- all that is asked of two rectangles, by how they reach over one another, touch and are joined
  pair_is : pair_ok j (rect_in r) (rect_in s)
      ≡ asked (eqb (across r s) 0) (eqb (upward r s) 0) (beside r s) (above r s) (joined j r.vertex s.vertex)
  unfolding pair_ok apart shares_joined corner asked
  pair_is = rw (wall_is r s, some_reach (across r s), some_reach (upward r s)) (unfold rect_in in refl)

  module _ (p : Bool) (ep : p ≡ away r.x1 r.x2 s.x1 s.x2) where
    -- two that lie away from one another across pass
    pub pair_far_across : p ≡ true → true ≡ pair_ok j (rect_in r) (rect_in s)
    unfolding away
    pair_far_across t = far_across _ _ _ _ _ (sym ep ∙ t) ∙ sym pair_is

    module _ (q : Bool) (tp : p ≡ false) (eq : q ≡ away r.y1 r.y2 s.y1 s.y2) where
      -- two that lie away from one another upward pass
      pub pair_far_upward : q ≡ true → true ≡ pair_ok j (rect_in r) (rect_in s)
      unfolding away
      pair_far_upward t = far_upward _ _ _ _ _ (sym eq ∙ t) ∙ sym pair_is

      module _ (tq : q ≡ false) (x : Touching) (ex : touch_in x ≡ touch_of (rect_in r) (rect_in s)) where
        -- whether there is a wall between them, by how they reach over one another and touch
        told : is_wall (touch_in x) ≡ ((beside r s && not (eqb (upward r s) 0)) || (above r s && not (eqb (across r s) 0)))
        told = ap is_wall ex ∙ wall_is r s ∙ rw (some_reach (across r s), some_reach (upward r s)) refl

        -- two others fail where there is no wall between them
        pub pair_clear : x ≡ Clear → false ≡ pair_ok j (rect_in r) (rect_in s)
        unfolding away touch_in is_wall
        pair_clear e = near_clear _ _ _ _ _ (sym ep ∙ tp) (sym eq ∙ tq) (sym told ∙ rw e refl) ∙ sym pair_is

        -- two with a wall between them pass exactly if they are joined
        pub pair_wall : (k n : ℕ) (w : Bool) → x ≡ Wall k n → w ≡ joined j r.vertex s.vertex → w ≡ pair_ok j (rect_in r) (rect_in s)
        unfolding touch_in is_wall
        pair_wall k n w e f =
            f
            ∙ near_wall _ _ _ _ _
            (λ h. eq-eqb (across r s) 0 (abut_reach _ _ _ _ h))
            (λ h. eq-eqb (upward r s) 0 (abut_reach _ _ _ _ h))
            (sym told ∙ rw e refl)
            ∙ sym pair_is
