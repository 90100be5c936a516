-- One wall read from its row, as the code comes by it. Assumes nothing.
use Prim.Native.Nat.{ℕ, ◌+◌, ◌*◌, ◌≤◌}
use mathlib.Core.Path.{◌≡◌}
use mathlib.Core.Bool.{cond}
use mathlib.Core.List.{List}
use native.Mathlib.Omega.{arith}
use lib.Dec.{ltb}
use lib.ListN.{length, get_or, get_or-eq_default}
use Rattle.registers.specs.Kept.{wall_in, wall_at}

module _ (l : List ℕ) (u v i d : ℕ) (ev : v ≡ u) (ed : d ≡ cond (ltb i v) 0 1) where
  -- the numbers of a row, and the direction of its place, are the wall of that row
  pub wall_read : (a b c e : ℕ) → a ≡ get_or l (4 * i) 0 → b ≡ get_or l (4 * i + 1) 0 → c ≡ get_or l (4 * i + 2) 0 → e ≡ get_or l (4 * i + 3) 0
      → wall_in (record { direction = d; number = a; begins = b; ends = c; sides = e }) ≡ wall_at u l i
  unfolding wall_in wall_at
  wall_read a b c e ea eb ec ee = rw (ed, ev, ea, eb, ec, ee)

  -- past the rows all numbers are nought
  pub wall_past : length l ≤ i → wall_in (record { direction = d; number = 0; begins = 0; ends = 0; sides = 0 }) ≡ wall_at u l i
  unfolding wall_in wall_at
  wall_past h =
      rw (
        ed,
        ev,
        get_or-eq_default l 0 {n = 4 * i} (omega arith),
        get_or-eq_default l 0 {n = 4 * i + 1} (omega arith),
        get_or-eq_default l 0 {n = 4 * i + 2} (omega arith),
        get_or-eq_default l 0 {n = 4 * i + 3} (omega arith),
      )
