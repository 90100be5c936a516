-- The register of a held plan, whatever calls were made: right, of n + 3 walls and 4 n room sides, and its bytes. Assumes nothing.
use Prim.Native.Nat.{ℕ, zero, suc, ◌+◌, ◌*◌, ◌≤◌, ◌<◌}
use Rattle.std.specs.Prelude.{◌≡◌, refl, true, length}
use mathlib.Core.List.{List, [], ◌∷◌, ◌++◌, map, Memᴰ}
use native.Mathlib.Omega.{arith}
use Rattle.std.proofs.Common.{length-append}
use Rattle.floor.specs.Lists.{pairwise, sum}
use Rattle.floor.specs.Fields.{Bytes, write_field}
use Rattle.floor.proofs.Fields.Laws.{bytes_append, bytes_field, length_field}
use Rattle.floor.specs.Jobs.{SizedJob}
use Rattle.floor.specs.Walls.{here}
use Rattle.floor.specs.Plans.{Plan}
use Rattle.floor.specs.Registers.{joins, Register, register, Stretch, wide_of, long_of, Partition, Lies, WallOf, room_sides, partition_bytes, write_register}
use Rattle.floor.proofs.Registers.Runs.{Seen}
use Rattle.floor.proofs.Registers.Floors.{view_of}
use Rattle.floor.proofs.Registers.Right.{register_right, lies_inside, upright_seen, level_seen}
use Rattle.floor.specs.Registers.Merge.{in_line, merged}
use Rattle.floor.proofs.Registers.Merge.{Rearranged}
use Rattle.floor.proofs.Registers.Fast.{merged_register}
use Rattle.floor.proofs.Registers.Totals.{sides_total}
use Rattle.floor.proofs.Registers.Count.{walls_exactly}
use Rattle.floor.specs.Calls.Sound.{Sound}
use Rattle.floor.proofs.Calls.Sound.{some_room, sound_good, sound_thin}
use Rattle.floor.proofs.Calls.Bytes.{limits}

-- a member is no more than the sum
mem_sum : {A : Type 0} (f : A → ℕ) (xs : List A) (x : A) → Memᴰ x xs → f x ≤ sum (map f xs)
unfolding sum
mem_sum {A = A} f [] x x3 = elim x3 [ ]
mem_sum f (y ∷ xs) x (Memᴰ.head e) = rw e (omega arith)
mem_sum f (y ∷ xs) x (Memᴰ.tail m) = omega (arith, mem_sum f xs x m)

-- how long a register is, written
pub length_write_register : (ws : List Partition) → length (write_register ws) ≡ 8 * length ws
unfolding write_register partition_bytes
length_write_register [] = refl
length_write_register (w ∷ ws) =
    omega (arith, length-append (write_field 8 (partition_bytes w)) (write_register ws), length_field 8 (partition_bytes w), length_write_register ws)

-- where the five numbers of each entry are bytes, so is the register, written
entries_bytes : (ws : List Partition) → ((w : Partition) → Memᴰ w ws → Bytes (partition_bytes w)) → Bytes (write_register ws)
unfolding write_register partition_bytes
entries_bytes [] h = tt
entries_bytes (w ∷ ws) h =
    bytes_append (write_field 8 (partition_bytes w)) (write_register ws)
    (bytes_field 8 (partition_bytes w) (omega arith) (omega arith) (h w (Memᴰ.head refl)))
    (entries_bytes ws (λ v i. h v (Memᴰ.tail i)))

module _ (o : SizedJob) (p : Plan) (s : Sound o p) where
  -- THE REGISTER COUNTED AFRESH is the one by the contacts of the job now held
  pub held_register : Register o.stars p (register p)
  held_register = register_right o.stars s.passes (some_room o p s) p (sound_good o p s) (sound_thin o p s)

  -- N + 3 WALLS stand in the register
  pub held_walls : length (register p) ≡ length o.stars + 3
  held_walls = walls_exactly o.stars s.passes (some_room o p s) p (sound_good o p s) (sound_thin o p s)

  -- 4 N ROOM SIDES lie on the walls of the register
  pub held_sides : sum (map (λ w. w.sides) (register p)) ≡ 4 * length o.stars
  held_sides = sides_total o.stars s.passes (some_room o p s) p (sound_good o p s) (sound_thin o p s)

  -- THE FAST WAY: the room sides of each direction, by line and beginning, merged where they touch
  pub held_merged : (U L : List Stretch) → Rearranged (room_sides 0 p) U → pairwise in_line U ≡ true → Rearranged (room_sides 1 p) L → pairwise in_line L ≡ true
      → merged 0 U ++ merged 1 L ≡ register p
  held_merged = merged_register o.stars s.passes (some_room o p s) p (sound_good o p s) (sound_thin o p s)

  -- WRITTEN, the register has eight bytes for each of its n + 3 walls
  pub register_length : length (write_register (register p)) ≡ 8 * (length o.stars + 3)
  register_length = omega (arith, length_write_register (register p), held_walls)

  -- written, the register has never more than 504 bytes
  pub register_length_most : length (write_register (register p)) ≤ 504
  register_length_most = omega (arith, register_length, (limits o p s).0)

  -- the held plan is seen in either direction, with the rules that join its walls
  seen : (d : ℕ) → d < 2 → Seen (view_of (length o.stars + 4) d p) (joins d o.stars)
  seen zero h = upright_seen o.stars s.passes (some_room o p s) p (sound_good o p s) (sound_thin o p s)
  seen (suc zero) h = level_seen o.stars s.passes (some_room o p s) p (sound_good o p s) (sound_thin o p s)
  seen (suc (suc d)) h = absurd (omega arith)

  -- the sheet of the held plan is at most 250 cells in either direction
  small_sheet : (d : ℕ) → (wide_of d p ≤ 250) × (long_of d p ≤ 250)
  unfolding wide_of long_of
  small_sheet zero = ((limits o p s).2, (limits o p s).3)
  small_sheet (suc d) = ((limits o p s).3, (limits o p s).2)

  -- the five numbers of each entry are bytes
  entry_bytes : (w : Partition) → Memᴰ w (register p) → Bytes (partition_bytes w)
  unfolding partition_bytes
  entry_bytes w m = let (h, x) = held_register.each w m in let (n, q, l, k) = x in go n q l k h
    where
      go : (n : ℕ) (q : Stretch) → Lies w.direction o.stars p n q → WallOf w.direction o.stars p n w → w.direction < 2
          → Bytes (w.direction ∷ w.number ∷ w.begins ∷ w.ends ∷ w.sides ∷ [])
      go n q l k h =
          let (a1, a2, a3, a4, a5) = lies_inside w.direction o.stars p (sound_good o p s).floor.complete (seen w.direction h) n q l in
          let (b1, b2, b3) = k.within n q l here in
          let (t, r, i, f, e) = k.last in
          let (c1, c2, c3, c4, c5) = lies_inside w.direction o.stars p (sound_good o p s).floor.complete (seen w.direction h) t r i in
          let (x, y) = small_sheet w.direction in
          (omega arith, (omega arith, (omega arith, (omega arith, (omega (arith, mem_sum (λ w. w.sides) (register p) w m, held_sides, (limits o p s).0), tt)))))

  -- WRITTEN, the register is bytes
  pub register_bytes : Bytes (write_register (register p))
  register_bytes = entries_bytes (register p) entry_bytes
