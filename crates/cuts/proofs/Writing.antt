-- The plan's rooms and its inner rectangle as they are run, and the bytes written. Assumes nothing.
use Prim.Native.Nat.{ℕ, suc, ◌+◌, ◌-◌, ◌≤◌, ◌<◌, min}
use mathlib.Core.Path.{◌≡◌, refl, sym, ap, ◌∙◌}
use mathlib.Core.Bool.{true, false}
use mathlib.Core.Option.{Option, none, some}
use Rattle.std.specs.Prelude.{Option as Answer, Some, None, Ok, Err, is_some}
use mathlib.Core.List.{List, ◌++◌}
use lib.Dec.{leb}
use lib.ListN.{length, take, drop}
use lib.Seq.{length-take-le}
use native.Mathlib.Omega.{arith}
use borrow.Author.Tests.{le-leb, lt-leb}
use Rattle.floor.specs.Registers.{Partition}
use Rattle.floor.specs.Calls.{refuse, writes}
use Rattle.floor.specs.Cuts.{Tree, rooms_of, inner, is_tree}
use Rattle.floor.specs.Cuts.ByWalls.{tree_by, capped}
use Rattle.fields.specs.Writes.{replied, writing as written}
use Rattle.drawing.specs.Rects.{rect_in, rects_in, plan_from}
use Rattle.registers.specs.Sorting.{kept_walls}
use Rattle.registers.specs.declared.Register.{Register}
use Rattle.registers.specs.Kept.{walls, walls_in, register_in, kept_register}
use Rattle.refusals.specs.declared.Refusal.TheVariants.{NoCuts, TooShort}
use Rattle.refusals.specs.Numbers.{number_of}
use Rattle.cuts.specs.Rows.{Rising}
use Rattle.cuts.specs.Tasks.{rooms_from}
use Rattle.cuts.specs.Runs.{tree_bytes, SlicedAs, cut_tree, writing}
use Rattle.cuts.proofs.Ordered.{rows_least, ups_rise, levels_rise, front_few, kept_read}

-- the rooms are the rectangles from the fifth on
four_less : (n : ℕ) (l : List ℕ) → drop 4 (rects_in (n + 4) 0 l) ≡ rects_in n 4 l
unfolding rects_in
four_less n l = let z : n + 4 ≡ suc (suc (suc (suc n))) = omega arith in rw z

-- THE PLAN AS IT IS RUN
pub plan_run : (ws : List Partition) (l : List ℕ) (w h n v x y : ℕ) (r : Answer ℕ) (buf : List ℕ) → v ≡ n → x ≡ w - 1 → y ≡ h - 1
    → SlicedAs r buf (capped 60 (tree_by ws (rooms_from (v + 4) 4 l) (rect_in (record { vertex = 0; x1 = 1; y1 = 1; x2 = x; y2 = y }))))
    → SlicedAs r buf (capped 60 (tree_by ws (rooms_of (plan_from w h (n + 4) l)) (inner (plan_from w h (n + 4) l))))
unfolding rooms_from rooms_of inner rect_in
plan_run ws l w h n v x y r buf el ex ey s =
    let z : v + 4 - 4 ≡ n = omega arith in
    rw (four_less n l) (rw (z, ex, ey) at s)

-- THE REGISTER AS IT IS RUN
module _ (w h n : ℕ) (l : List ℕ) (g : Register) (eg : g ≡ kept_register (kept_walls (plan_from w h n l))) (u many up : ℕ) (eu : u ≡ g.uprights)
    (em : many ≡ g.many) (ep : up ≡ min u many) where
  -- its walls, by its numbers
  read : walls_in u many 0 g.rows ≡ take walls (kept_walls (plan_from w h n l))
  unfolding register_in
  read = rw (eu, em) (ap register_in eg ∙ kept_read (plan_from w h n l))

  -- it has no more than are kept
  pub few_walls : many ≤ 64
  unfolding kept_register
  few_walls = omega (arith, ap (λ (g : Register). g.many) eg, front_few 64 (kept_walls (plan_from w h n l)))

  -- the upright rows rise
  pub ups_rising : Rising g.rows 0 up
  ups_rising = rw ep (ups_rise (plan_from w h n l) u many walls g.rows read)

  -- and the level ones
  pub levels_rising : Rising g.rows up many
  levels_rising = rw ep (levels_rise (plan_from w h n l) u many walls g.rows read)

  -- its tree is the plan's
  pub register_run : (r : Answer ℕ) (buf : List ℕ)
      → SlicedAs r buf (capped 60 (tree_by (walls_in up many 0 g.rows) (rooms_of (plan_from w h n l)) (inner (plan_from w h n l))))
      → SlicedAs r buf (cut_tree (plan_from w h n l))
  unfolding cut_tree
  register_run r buf s = rw (ap (λ k. walls_in k many 0 g.rows) ep ∙ rows_least u many 0 many g.rows (omega arith) ∙ read) at s

-- what is answered
module _ (o : Option Tree) (buf : List ℕ) (r : Answer ℕ) (says : SlicedAs r buf o) where
  -- whether there is a tree
  pub says_so : is_some r ≡ is_tree o
  says_so = case r says
    where
      case : (r : Answer ℕ) → SlicedAs r buf o → is_some r ≡ is_tree o
      case None s = unfold SlicedAs in rw s (unfold is_tree in refl)
      case (Some n) s = unfold SlicedAs in go o s.0
        where
          go : (o : Option Tree) → tree_bytes o ≡ some (take n buf) → true ≡ is_tree o
          go none e = unfold tree_bytes in let z : ◌≡◌ {A = ℕ} 0 1 = cc in absurd (omega arith)
          go (some t) e = unfold is_tree in refl

  -- 15 where there is no tree
  pub wrote_none : (out : List ℕ) → r ≡ None → (replied (Err NoCuts) ≡ (writing (tree_bytes o) out).reply) × (out ≡ (writing (tree_bytes o) out).buffer)
  unfolding SlicedAs replied number_of writing refuse tree_bytes
  wrote_none out e = let h : o ≡ none = rw e at says in (rw h, rw h)

  module _ (n : ℕ) (e : r ≡ Some n) where
    -- the bytes are in the buffer
    pub written_fits : n ≤ length buf
    unfolding SlicedAs
    written_fits = let h : (tree_bytes o ≡ some (take n buf)) × (n ≤ length buf) = rw e at says in h.1

    -- the bytes, and how many
    parts : (tree_bytes o ≡ some (take n buf)) × (length (take n buf) ≡ n)
    unfolding SlicedAs
    parts = let h : (tree_bytes o ≡ some (take n buf)) × (n ≤ length buf) = rw e at says in (h.0, length-take-le n buf h.1)

    -- as many are taken of both
    pub same_taken : (out : List ℕ) → n ≤ length out → length (take n out) ≡ length (take n buf)
    same_taken out k = length-take-le n out k ∙ sym parts.1

    -- all of them
    pub all_taken : n ≡ length (take n buf)
    all_taken = sym parts.1

    -- 14 where they do not fit
    pub wrote_short : (out : List ℕ) → length out < n
        → (replied (Err TooShort) ≡ (writing (tree_bytes o) out).reply) × (out ≡ (writing (tree_bytes o) out).buffer)
    unfolding replied number_of writing written writes refuse
    wrote_short out k =
        let z : leb (length (take n buf)) (length out) ≡ false = lt-leb (length (take n buf)) (length out) (omega (arith, parts.1)) in
        (rw (parts.0, z), rw (parts.0, z))

    -- the front filled
    pub wrote_front : (out x : List ℕ) → n ≤ length out → x ≡ take n buf
        → (replied (Ok n) ≡ (writing (tree_bytes o) out).reply) × (x ++ drop n out ≡ (writing (tree_bytes o) out).buffer)
    unfolding replied writing written writes
    wrote_front out x k ex =
        let z : leb (length (take n buf)) (length out) ≡ true = le-leb (length (take n buf)) (length out) (omega (arith, parts.1)) in
        (rw (parts.0, z, parts.1), rw (parts.0, z, parts.1, ex))
