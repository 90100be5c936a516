-- Least sizes, and the top by them, as the code comes by them. Assumes nothing.
use mathlib.Core.Path.{◌≡◌, refl, sym, ap}
use mathlib.Core.List.{List, map}
use Prim.Native.Nat.{ℕ, zero, suc, ◌+◌, ◌-◌, ◌≤◌, ◌<◌, min}
use native.Mathlib.Omega.{arith}
use Rattle.std.proofs.Math.Nat.{min-le_left}
use native.Mathlib.Decide.{dec_lt}
use lib.ListN.{get_or}
use Rattle.floor.specs.Lists.{sum, up_from}
use Rattle.floor.specs.Jobs.{Size, Sizes, one_cell, size_of}
use Rattle.floor.specs.Walls.{Axis, extra}
use Rattle.stars.specs.Sized.{sizes_from, sizes_in}
use Rattle.walls.specs.declared.Direction.{Direction}
use Rattle.walls.specs.declared.Direction.TheVariants.{Upright, Level}
use Rattle.walls.specs.Jobs.{axis_of, top_of_rooms}

-- upright a room asks for what its width is over 1
pub extra_wide : (w : Direction) (z : Sizes) (u x y : ℕ) → w ≡ Upright → x ≡ (size_of z u).wide → x < 256 → y ≡ x - 1 → (y ≡ extra (axis_of w) z u) × (y < 255)
unfolding extra
extra_wide w z u x y e p l q = (rw e (omega (arith, p, q)), omega arith)

-- level it asks for what its height is over 1
pub extra_tall : (w : Direction) (z : Sizes) (u x y : ℕ) → w ≡ Level → x ≡ (size_of z u).tall → x < 256 → y ≡ x - 1 → (y ≡ extra (axis_of w) z u) × (y < 255)
unfolding extra
extra_tall w z u x y e p l q = (rw e (omega (arith, p, q)), omega arith)

-- one whose size is not told has one cell
size_untold : (m i k : ℕ) (l : List ℕ) → m ≤ k → get_or (sizes_from m i l) k one_cell ≡ one_cell
unfolding sizes_from
size_untold zero i k l h = refl
size_untold (suc m) i zero l h = absurd (omega arith)
size_untold (suc m) i (suc k) l h = size_untold m (suc i) k l (omega arith)

-- so it asks for no more
extra_none : (told i : ℕ) (l : List ℕ) (w : Direction) → told ≤ i → 0 ≡ extra (axis_of w) (sizes_in told l) (4 + i)
unfolding extra size_of
extra_none told i l w h = let e : 4 + i - 4 ≡ i = omega arith in go w (rw e (size_untold told 0 i l h))
  where
    go : (w : Direction) → size_of (sizes_in told l) (4 + i) ≡ one_cell → 0 ≡ extra (axis_of w) (sizes_in told l) (4 + i)
    go Upright e = ap (λ (s : Size). s.wide - 1) (sym e)
    go Level e = ap (λ (s : Size). s.tall - 1) (sym e)

-- what n rooms from room u on ask for together
abbrev pub asked : Axis → Sizes → ℕ → ℕ → ℕ
asked a z u n = sum (map (extra a z) (up_from u n))

-- the top, room by room: what was added, and what the rooms left ask for
module _ (w : Direction) (z : Sizes) (n : ℕ) where
  -- at the start all the rooms are left
  pub top_start : (n + 1) + asked (axis_of w) z (4 + 0) (n - 0) ≡ top_of_rooms (axis_of w) n z
  unfolding top_of_rooms
  top_start = let e : n - 0 ≡ n = omega arith in rw e (omega arith)

  -- the next room added, those behind it are left
  pub top_next : (t top i x m told : ℕ) → top + asked (axis_of w) z (4 + i) (n - i) ≡ t → m ≡ min n told → i < m → x ≡ extra (axis_of w) z (4 + i)
      → top + x + asked (axis_of w) z (4 + (i + 1)) (n - (i + 1)) ≡ t
  unfolding sum up_from
  top_next t top i x m told e em h ex =
      let d : n - i ≡ suc (n - (i + 1)) = omega (arith, em, min-le_left n told) in
      let s : 4 + (i + 1) ≡ suc (4 + i) = omega arith in
      rw s (omega (arith, rw d at e, ex))

-- rooms whose sizes are not told ask for nothing
untold_none : (w : Direction) (told : ℕ) (l : List ℕ) (n i : ℕ) → told ≤ i → asked (axis_of w) (sizes_in told l) (4 + i) n ≡ 0
unfolding sum up_from
untold_none w told l zero i h = refl
untold_none w told l (suc n) i h =
    let s : suc (4 + i) ≡ 4 + suc i = omega arith in
    omega (arith, extra_none told i l w h, rw (← s) at (untold_none w told l n (suc i) (omega arith)))

-- behind the last room, or the last whose size is told, nothing is left
pub top_done : (w : Direction) (told : ℕ) (l : List ℕ) (n i t top m : ℕ) → top + asked (axis_of w) (sizes_in told l) (4 + i) (n - i) ≡ t → m ≡ min n told → m ≤ i → top ≡ t
unfolding sum up_from
top_done w told l n i t top m e em h = go (dec_lt i n)
  where
    go : Dec (i < n) → top ≡ t
    go (yes b) = omega (arith, e, untold_none w told l (n - i) i (omega (arith, em, h)))
    go (no b) = let d : n - i ≡ 0 = omega arith in omega (arith, rw d at e)

-- the top is at least 1
pub top_positive : (a : Axis) (n : ℕ) (z : Sizes) (top : ℕ) → top ≡ top_of_rooms a n z → 1 ≤ top
unfolding top_of_rooms
top_positive a n z top e = omega (arith, e)
