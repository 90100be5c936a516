-- What follows from the promises of `register_of`, `write_register` and `held::wall_at`. Assumes nothing.
use Prim.Native.Nat.{ℕ, zero, suc, ◌+◌, ◌*◌, ◌-◌, ◌≤◌, ◌<◌}
use mathlib.Core.Path.{◌≡◌, refl, sym, ap, ◌∙◌}
use mathlib.Core.Bool.{true, cond}
use mathlib.Core.List.{List, [], ◌∷◌, ◌++◌}
use native.Mathlib.Omega.{arith}
use native.Mathlib.Decide.{dec_lt}
use borrow.Author.Tests.{lt-ltb, le-ltb}
use lib.Dec.{ltb}
use lib.ListN.{length, get_or, take, drop, length-append, length-take, length-drop, length-replicate, get_or-append}
use lib.Seq.{sets, take_all, get_or-append-add}
use Rattle.floor.specs.Lists.{keep, pairwise}
use Rattle.floor.proofs.Lists.Laws.{mem_get_or}
use Rattle.floor.specs.Jobs.{SizedJob}
use Rattle.floor.specs.Plans.{Plan}
use Rattle.floor.specs.Registers.{Partition, joins, wide_of, long_of, room_sides, register, write_register}
use Rattle.floor.proofs.Registers.Runs.{Seen}
use Rattle.floor.proofs.Registers.Floors.{view_of}
use Rattle.floor.proofs.Registers.Right.{side_lies, lies_inside, upright_seen, level_seen}
use Rattle.floor.specs.Registers.Merge.{in_line, merged}
use Rattle.floor.proofs.Registers.Merge.{Rearranged}
use Rattle.floor.specs.Calls.Sound.{Sound}
use Rattle.floor.proofs.Calls.Sound.{some_room, sound_good, sound_thin}
use Rattle.floor.proofs.Calls.Bytes.{limits}
use Rattle.floor.proofs.Calls.Registered.{held_walls, held_merged, register_bytes}
use Rattle.std.specs.Prelude.{Result}
use Rattle.refusals.specs.declared.Refusal.{Refusal}
use Rattle.fields.specs.Writes.{replied, writing}
use Rattle.fields.proofs.Corollaries.{one_written}
use Rattle.drawing.specs.Rects.{plan_from, plan_in, in_bytes}
use Rattle.drawing.specs.declared.Plan.{Plan as HeldPlan}
use Rattle.drawing.proofs.Corollaries.{bytes_kept, plan_held}
use Rattle.registers.specs.declared.Register.{Register}
use Rattle.registers.specs.declared.held.Wall.{Wall}
use Rattle.registers.specs.Sorting.{lines_of, in_order, ordered_sides, kept_walls}
use Rattle.registers.specs.Kept.{rows_of, noughts, is_upright, no_register, kept_register, wall_in, wall_at, walls_in, register_in}
use Rattle.registers.proofs.Numbers.{sets_in}
use Rattle.registers.proofs.Buckets.{in_order_lem, same_sides}
use Rattle.registers.proofs.Rows.{rows_length}
use Rattle.registers.proofs.Keeping.{Along, merged_along, uprights_first}

-- THE PROMISE OF `register_of` ALLOWS ONE REGISTER
pub one_register : (w h n : ℕ) (l : List ℕ) (r t : Register) → r ≡ kept_register (kept_walls (plan_from w h (n + 4) l))
    → t ≡ kept_register (kept_walls (plan_from w h (n + 4) l)) → r ≡ t
one_register w h n l r t f g = f ∙ sym g

-- THE PROMISE OF `write_register` ALLOWS ONE ANSWER AND ONE BUFFER
pub one_register_writing : (ws : List Partition) (o : List ℕ) (a b : Result ℕ Refusal) (x y : List ℕ)
    → (replied a ≡ (writing (in_bytes (write_register ws)) o).reply) × (x ≡ (writing (in_bytes (write_register ws)) o).buffer)
    → (replied b ≡ (writing (in_bytes (write_register ws)) o).reply) × (y ≡ (writing (in_bytes (write_register ws)) o).buffer) → (a ≡ b) × (x ≡ y)
one_register_writing ws o a b x y v w = one_written (in_bytes (write_register ws)) o a b x y v w

-- THE PROMISE OF `held::wall_at` ALLOWS ONE WALL
pub one_wall : (q : Partition) (r t : Wall) → wall_in r ≡ q → wall_in t ≡ q → r ≡ t
unfolding wall_in
one_wall q r t d e =
    let f : wall_in r ≡ wall_in t = d ∙ sym e in
    same_wall t _ _ _ _ _
    (ap (λ (w : Partition). w.direction) f)
    (ap (λ (w : Partition). w.number) f)
    (ap (λ (w : Partition). w.begins) f)
    (ap (λ (w : Partition). w.ends) f)
    (ap (λ (w : Partition). w.sides) f)
  where
    same_wall : (t : Wall) (d x b e n : ℕ) → d ≡ t.direction → x ≡ t.number → b ≡ t.begins → e ≡ t.ends → n ≡ t.sides
        → record { direction = d; number = x; begins = b; ends = e; sides = n } ≡ t
    same_wall t d x b e n ed ex eb ee en = rw (ed, ex, eb, ee, en)

-- what `register_of` gives of any plan that is held
pub counted_held : (q : HeldPlan) (r : Register) → r ≡ kept_register (kept_walls (plan_from q.width q.height (q.rooms + 4) q.rects))
    → r ≡ kept_register (kept_walls (plan_in q))
counted_held q r f = f ∙ ap (λ (x : Plan). kept_register (kept_walls x)) (plan_held q)

-- the walls that are kept, by the register's numbers
pub walls_held : (r : Register) → walls_in r.uprights r.many 0 r.rows ≡ register_in r
unfolding register_in
walls_held r = refl

-- at most 64 are kept
pub few_kept : (ws : List Partition) → (kept_register ws).many ≤ 64
unfolding kept_register
few_kept ws = omega (arith, length-take 64 ws)

-- no walls are kept of none
pub none_held : register_in no_register ≡ []
unfolding register_in no_register walls_in
none_held = refl

-- no wall at all
nothing : Partition
nothing = record { direction = 0; number = 0; begins = 0; ends = 0; sides = 0 }

-- walls are read from rows that hold their numbers
walls_back : (u i : ℕ) (l : List ℕ) (ws : List Partition) → ((k : ℕ) → k < 4 * length ws → get_or l (4 * i + k) 0 ≡ get_or (rows_of ws) k 0)
    → ((k : ℕ) → k < length ws → cond (ltb (i + k) u) 0 1 ≡ (get_or ws k nothing).direction) → walls_in u (length ws) i l ≡ ws
unfolding walls_in wall_at rows_of
walls_back u i l [] f g = refl
walls_back u i l (w ∷ ws) f g =
    let a : cond {A = ℕ} (ltb i u) 0 1 ≡ w.direction = ap (λ (k : ℕ). cond {A = ℕ} (ltb k u) 0 1) (omega arith) ∙ g 0 (omega arith) in
    let b : get_or l (4 * i) 0 ≡ w.number = ap (λ (k : ℕ). get_or l k 0) (omega arith) ∙ f 0 (omega arith) in
    rw (a, b, f 1 (omega arith), f 2 (omega arith), f 3 (omega arith))
    (ap (λ (v : List Partition). w ∷ v)
    (walls_back u (suc i) l ws
    (λ k h. ap (λ (m : ℕ). get_or l m 0) (omega arith) ∙ f (suc (suc (suc (suc k)))) (omega arith))
    (λ k h. ap (λ (m : ℕ). cond {A = ℕ} (ltb m u) 0 1) (omega arith) ∙ g (suc k) (omega arith))))

-- A REGISTER IS KEPT WITHOUT LOSS: upright walls before level ones, and no more than 64
pub register_back : (us ls : List Partition) → Along 0 us → Along 1 ls → length (us ++ ls) ≤ 64 → register_in (kept_register (us ++ ls)) ≡ us ++ ls
unfolding register_in kept_register
register_back us ls f g few =
    let t : take 64 (us ++ ls) ≡ us ++ ls = take_all 64 (us ++ ls) few in
    let n : length (keep is_upright (us ++ ls)) ≡ length us
    = ap (λ (v : List Partition). length (keep is_upright v)) (sym t) ∙ uprights_first 64 us ls f g ∙ omega (arith, few, length-append us ls) in
    rw (t, n) (walls_back (length us) 0 (sets noughts 0 (rows_of (us ++ ls))) (us ++ ls) rows (λ k h. way k h (dec_lt k (length us))))
  where
    rows : (k : ℕ) → k < 4 * length (us ++ ls) → get_or (sets noughts 0 (rows_of (us ++ ls))) (4 * 0 + k) 0 ≡ get_or (rows_of (us ++ ls)) k 0
    rows k h = sets_in (rows_of (us ++ ls)) noughts 0 k (omega (arith, few, rows_length (us ++ ls), length-replicate {A = ℕ} 256 0)) (omega (arith, rows_length (us ++ ls)))

    way : (k : ℕ) → k < length (us ++ ls) → Dec (k < length us) → cond (ltb (0 + k) (length us)) 0 1 ≡ (get_or (us ++ ls) k nothing).direction
    way k h (yes i) =
        rw (lt-ltb (0 + k) (length us) (omega arith), get_or-append us ls nothing k i) (sym (f (get_or us k nothing) (mem_get_or us k nothing i)))
    way k h (no i) =
        let e : length us + (k - length us) ≡ k = omega arith in
        let m : k - length us < length ls = omega (arith, length-append us ls) in
        let q : get_or (us ++ ls) k nothing ≡ get_or ls (k - length us) nothing
        = ap (λ (x : ℕ). get_or (us ++ ls) x nothing) (sym e) ∙ get_or-append-add us ls (k - length us) nothing in
        rw (le-ltb (0 + k) (length us) (omega arith), q) (sym (g (get_or ls (k - length us) nothing) (mem_get_or ls (k - length us) nothing m)))

-- the walls of any plan are kept without loss, where they are no more than 64
pub walls_kept : (p : Plan) → length (kept_walls p) ≤ 64 → register_in (kept_register (kept_walls p)) ≡ kept_walls p
unfolding kept_walls
walls_kept p few =
    register_back (merged 0 (ordered_sides 0 p)) (merged 1 (ordered_sides 1 p)) (merged_along 0 (ordered_sides 0 p)) (merged_along 1 (ordered_sides 1 p)) few

-- EVERY LINE OF A SHEET is counted, where it is at most 256 wide and high
lines_all : (p : Plan) → p.width ≤ 256 → p.height ≤ 256 → (d : ℕ) → (wide_of d p ≤ lines_of p) × (long_of d p ≤ lines_of p)
unfolding wide_of long_of lines_of
lines_all p w h zero = (omega arith, omega arith)
lines_all p w h (suc d) = (omega arith, omega arith)

-- OF EVERY PLAN THAT IS HELD
module _ (o : SizedJob) (p : Plan) (s : Sound o p) where
  -- each direction of the plan, seen as the register sees it
  seen : (d : ℕ) → d < 2 → Seen (view_of (length o.stars + 4) d p) (joins d o.stars)
  seen zero h = upright_seen o.stars s.passes (some_room o p s) p (sound_good o p s) (sound_thin o p s)
  seen (suc zero) h = level_seen o.stars s.passes (some_room o p s) p (sound_good o p s) (sound_thin o p s)
  seen (suc (suc d)) h = absurd (omega arith)

  -- every line of its sheet is counted
  all_lines : (d : ℕ) → (wide_of d p ≤ lines_of p) × (long_of d p ≤ lines_of p)
  all_lines = lines_all p (omega (arith, (limits o p s).2, (limits o p s).0)) (omega (arith, (limits o p s).3, (limits o p s).0))

  -- the sides of all its rooms are put in order
  all_sides : (d : ℕ) → ordered_sides d p ≡ in_order (lines_of p) (room_sides d p)
  unfolding ordered_sides room_sides
  all_sides d =
      let few : length (drop 4 p.rects) ≤ 60 = omega (arith, length-drop 4 p.rects, (sound_good o p s).floor.complete.count, (limits o p s).0) in
      rw (take_all 60 (drop 4 p.rects) few)

  -- they are the same sides
  rearranged : (d : ℕ) → d < 2 → Rearranged (room_sides d p) (ordered_sides d p)
  rearranged d h =
      rw (all_sides d) (same_sides (lines_of p) (room_sides d p)
      (λ t m.
      let (n, l) = side_lies d o.stars p (sound_good o p s).floor.complete (seen d h) t m in
      let (a1, a2, a3, a4, a5) = lies_inside d o.stars p (sound_good o p s).floor.complete (seen d h) n t l in
      let (x, y) = all_lines d in
      (omega arith, omega arith)))

  -- and stand in order
  ordered : (d : ℕ) → pairwise in_line (ordered_sides d p) ≡ true
  ordered d = rw (all_sides d) (in_order_lem (lines_of p) (room_sides d p))

  -- THE WALLS COUNTED FAST ARE THE REGISTER counted afresh
  pub kept_right : kept_walls p ≡ register p
  unfolding kept_walls
  kept_right =
      held_merged o p s (ordered_sides 0 p) (ordered_sides 1 p) (rearranged 0 (omega arith)) (ordered 0) (rearranged 1 (omega arith)) (ordered 1)

  -- WHAT `register_of` GIVES OF IT, held, is the register counted afresh
  pub counted_right : (q : HeldPlan) (r : Register) → plan_in q ≡ p → r ≡ kept_register (kept_walls (plan_from q.width q.height (q.rooms + 4) q.rects))
      → r ≡ kept_register (register p)
  counted_right q r e f = counted_held q r f ∙ ap (λ (x : Plan). kept_register (kept_walls x)) e ∙ ap (λ (ws : List Partition). kept_register ws) kept_right

  -- and is kept without loss
  pub held_back : register_in (kept_register (register p)) ≡ register p
  held_back =
      ap (λ (ws : List Partition). register_in (kept_register ws)) (sym kept_right)
      ∙ walls_kept p (omega (arith, ap (λ (ws : List Partition). length ws) kept_right, held_walls o p s, (limits o p s).0))
      ∙ kept_right

  -- WRITTEN, it is the register's bytes
  pub held_written : in_bytes (write_register (register_in (kept_register (register p)))) ≡ write_register (register p)
  held_written = rw held_back (bytes_kept (write_register (register p)) (register_bytes o p s))
