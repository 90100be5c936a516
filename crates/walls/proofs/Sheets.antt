-- The walls read side by side, and the sheet. Assumes not_held.
use mathlib.Core.Path.{◌≡◌, refl, sym}
use mathlib.Core.Option.{Option, none, some}
use mathlib.Core.List.{List}
use Rattle.std.specs.Prelude.{None, Some}
use Prim.Native.Nat.{ℕ, ◌+◌, ◌*◌, ◌≤◌}
use native.Mathlib.Omega.{arith}
use lib.ListN.{length, get_or, get_or-eq_default}
use Rattle.floor.specs.Jobs.{Job, Sizes}
use Rattle.floor.specs.Walls.{upright}
use Rattle.walls.specs.declared.Sides.{Sides}
use Rattle.walls.specs.Numbers.{numbers_in, numbers_held, width_in, sides_at}
use Rattle.walls.proofs.Corollaries.{not_held, held_same, sides_numbered, at_place}

-- a side past the list
pub no_vertex : (l : List ℕ) (v on : ℕ) → length l ≤ v → 0 ≡ get_or l (2 * v + on) 0
no_vertex l v on h = sym (get_or-eq_default l 0 (omega arith))

-- the four numbers read for v are those of the walls on its four sides
pub four_sides : (xs ys : List ℕ) (v x y z u : ℕ) → x ≡ get_or xs (2 * v + 0) 0 → y ≡ get_or xs (2 * v + 1) 0 → z ≡ get_or ys (2 * v + 0) 0
    → u ≡ get_or ys (2 * v + 1) 0
    → ◌≡◌ {A = Sides} (record { left = record { 0 = x }; right = record { 0 = y }; lower = record { 0 = z }; upper = record { 0 = u } }) (sides_at xs ys v)
four_sides xs ys v x y z u a b c d = let e : 2 * v + 0 ≡ 2 * v = omega arith in rw (rw e at a, b, rw e at c, d)

-- upright numbers that are none leave no width
pub no_upright : (a : Option (List ℕ)) → None ≡ numbers_held a → None ≡ width_in a
unfolding numbers_held width_in
no_upright none p = refl
no_upright (some u) p = absurd (not_held p)

-- the held number of E's left wall, plus 1, is the width
pub the_width : (j : Job) (z : Sizes) (x : List ℕ) (w : ℕ) → Some x ≡ numbers_held (numbers_in upright j z) → w ≡ get_or x (2 * 3 + 0) 0
    → Some (w + 1) ≡ width_in (numbers_in upright j z)
unfolding numbers_held width_in
the_width j z x w p e = go (numbers_in upright j z) refl p
  where
    go : (a : Option (List ℕ)) → numbers_in upright j z ≡ a → Some x ≡ numbers_held a → Some (w + 1) ≡ width_in a
    go none q p = absurd (not_held (sym p))
    go (some u) q p = rw (e, held_same p, at_place j z u (sides_numbered j z upright u q).2 6 (omega arith))
