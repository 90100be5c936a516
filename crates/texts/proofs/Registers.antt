-- A register as text, wall by wall, as the code comes by it. Assumes nothing.
use Prim.Native.Nat.{ℕ, zero, suc, ◌+◌, ◌*◌, ◌<◌, ◌≤◌}
use mathlib.Core.Path.{◌≡◌, sym, ◌∙◌, ap}
use mathlib.Core.Bool.{Bool, true, false, cond}
use mathlib.Core.List.{List, [], ◌∷◌, ◌++◌, append_assoc, append-nil}
use native.Mathlib.Omega.{arith}
use lib.Dec.{ltb}
use lib.ListN.{length, length-append}
use Rattle.floor.specs.Registers.{Partition, partition_bytes}
use Rattle.floor.specs.Texts.{line, wall_lines}
use Rattle.registers.specs.declared.held.Wall.{Wall}
use Rattle.registers.specs.Kept.{wall_in, wall_at, walls_in}
use Rattle.letters.specs.Puts.{Puts}
use Rattle.letters.proofs.Rows.{both_puts, none_put}

-- so many walls and the next behind them
walls_snoc : (u m i : ℕ) (l : List ℕ) → walls_in u (suc m) i l ≡ walls_in u m i l ++ (wall_at u l (i + m) ∷ [])
unfolding walls_in
walls_snoc u zero i l = let e : i + 0 ≡ i = omega arith in rw e
walls_snoc u (suc m) i l =
    let e : i + suc m ≡ suc i + m = omega arith in
    rw e (ap (λ (ws : List Partition). wall_at u l i ∷ ws) (walls_snoc u m (suc i) l))

-- the lines of some walls and of one behind them
lines_snoc : (ws : List Partition) (w : Partition) → wall_lines ws ++ line (partition_bytes w) ≡ wall_lines (ws ++ (w ∷ []))
unfolding wall_lines
lines_snoc [] w = sym (append-nil (line (partition_bytes w)))
lines_snoc (v ∷ ws) w = rw (append_assoc (line (partition_bytes v)) (wall_lines ws) (line (partition_bytes w)), lines_snoc ws w)

-- no lines yet
pub walls_none : (o l : List ℕ) (u at : ℕ) → Puts o at (wall_lines (walls_in u 0 0 l)) o at
unfolding walls_in wall_lines
walls_none o l u at = none_put o at

-- no lines have no bytes
pub none_short : (l : List ℕ) (u : ℕ) → length (wall_lines (walls_in u 0 0 l)) ≤ 30 * 0
unfolding walls_in wall_lines
none_short l u = omega arith

module _ (l : List ℕ) (u i : ℕ) where
  -- the line of one wall
  module _ (w : Wall) (e : wall_in w ≡ wall_at u l i) (d : ℕ) (ed : d ≡ w.direction) where
    -- the five numbers on a line are the line of wall i
    wall_line : line (d ∷ w.number ∷ w.begins ∷ w.ends ∷ w.sides ∷ []) ≡ line (partition_bytes (wall_at u l i))
    unfolding partition_bytes wall_in
    wall_line = rw (← e, ed)

    -- a direction is 0 or 1
    direction_small : d ≤ 1
    unfolding wall_in wall_at
    direction_small = omega (arith, ed, ap (λ (p : Partition). p.direction) e, either (ltb i u))
      where
        either : (b : Bool) → cond b 0 1 ≤ 1
        either true = omega arith
        either false = omega arith

    -- where they are put on a line, the line of wall i is put, of at most 30 bytes
    pub wall_put : (o x : List ℕ) (at k : ℕ)
        → Puts o at (line (d ∷ w.number ∷ w.begins ∷ w.ends ∷ w.sides ∷ [])) x k
        × (d < 100000 → length (line (d ∷ w.number ∷ w.begins ∷ w.ends ∷ w.sides ∷ [])) ≤ 30)
        → Puts o at (line (partition_bytes (wall_at u l i))) x k × (length (line (partition_bytes (wall_at u l i))) ≤ 30)
    wall_put o x at k (p, q) = (rw wall_line at p, rw wall_line at (q (omega (arith, direction_small))))

  -- the lines of the first i walls, then that of wall i, are those of the first i + 1
  lines_next : wall_lines (walls_in u i 0 l) ++ line (partition_bytes (wall_at u l i)) ≡ wall_lines (walls_in u (i + 1) 0 l)
  lines_next =
      let s : i + 1 ≡ suc i = omega arith in
      let z : 0 + i ≡ i = omega arith in
      lines_snoc (walls_in u i 0 l) (wall_at u l i) ∙ rw (s, walls_snoc u i 0 l, z)

  -- the next line put behind those before it, one more is put
  pub walls_more : (o x y : List ℕ) (at m k : ℕ) → Puts o at (wall_lines (walls_in u i 0 l)) x m → Puts x m (line (partition_bytes (wall_at u l i))) y k
      → Puts o at (wall_lines (walls_in u (i + 1) 0 l)) y k
  walls_more o x y at m k a b = rw lines_next at (both_puts o x y (wall_lines (walls_in u i 0 l)) (line (partition_bytes (wall_at u l i))) at m k a b)

  -- one line more is at most 30 bytes more
  pub more_short : length (line (partition_bytes (wall_at u l i))) ≤ 30 → length (wall_lines (walls_in u i 0 l)) ≤ 30 * i
      → length (wall_lines (walls_in u (i + 1) 0 l)) ≤ 30 * (i + 1)
  more_short a b = omega (arith, ap length lines_next, length-append (wall_lines (walls_in u i 0 l)) (line (partition_bytes (wall_at u l i))))

  -- behind the last wall all the lines are put
  pub walls_done : (count many : ℕ) → count ≡ many → i ≤ count → count ≤ i → (o x : List ℕ) (at k : ℕ) → Puts o at (wall_lines (walls_in u i 0 l)) x k
      → Puts o at (wall_lines (walls_in u many 0 l)) x k
  walls_done count many e h k o x at r p = let q : i ≡ many = omega arith in rw q at p

  -- and have at most 30 bytes each
  pub walls_short : (count many : ℕ) → count ≡ many → i ≤ count → count ≤ i → length (wall_lines (walls_in u i 0 l)) ≤ 30 * i
      → length (wall_lines (walls_in u many 0 l)) ≤ 30 * many
  walls_short count many e h k s = let q : i ≡ many = omega arith in rw q at s
