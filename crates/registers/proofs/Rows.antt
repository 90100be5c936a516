-- Walls written row by row, as the code merges them. Assumes nothing.
use Prim.Native.Nat.{ℕ, suc, ◌+◌, ◌*◌, ◌-◌, ◌≤◌, ◌<◌, max}
use mathlib.Core.Path.{◌≡◌, refl, sym, ap, ◌∙◌}
use mathlib.Core.Bool.{Bool, true, false, ◌&&◌}
use mathlib.Core.List.{List, [], ◌∷◌, ◌++◌}
use native.Mathlib.Omega.{arith}
use lib.Dec.{eqb, leb}
use lib.ListN.{length, get_or, set, length-append}
use Rattle.floor.specs.Registers.{Stretch, Partition}
use Rattle.floor.specs.Registers.Merge.{opened, extended, goes_on, merge_from, merged}
use Rattle.fields.proofs.Puts.{sets_append}
use Rattle.registers.specs.declared.chains.Side.{Side}
use Rattle.registers.specs.Chains.{side, side_of, side_in, chain, Falls, read_walls}
use Rattle.registers.specs.Kept.{rows_of, row, written}
use Rattle.registers.specs.Merging.{wall_of}
use Rattle.registers.specs.declared.merge.Begun.{Begun}
use Rattle.registers.proofs.Numbers.{sets_out}
use Rattle.registers.proofs.Chaining.{chain_end}
use Rattle.registers.proofs.Laying.{here, chain_here}

-- past the rows nothing is put
pub row_out : (l : List ℕ) (at x b e n : ℕ) → length l ≤ 4 * at → l ≡ row l at x b e n
unfolding row
row_out l at x b e n h = sym (sets_out (x ∷ b ∷ e ∷ n ∷ []) l (4 * at) h)

-- four numbers put are a row
pub row_put : (l : List ℕ) (at x b e n : ℕ) → set (set (set (set l (4 * at) x) (4 * at + 1) b) (4 * at + 2) e) (4 * at + 3) n ≡ row l at x b e n
unfolding row
row_put l at x b e n =
    let e₁ : 4 * at + 1 ≡ suc (4 * at) = omega arith in
    let e₂ : 4 * at + 2 ≡ suc (suc (4 * at)) = omega arith in
    let e₃ : 4 * at + 3 ≡ suc (suc (suc (4 * at))) = omega arith in
    rw (e₁, e₂, e₃)

-- four numbers to a row
pub rows_length : (ws : List Partition) → length (rows_of ws) ≡ 4 * length ws
unfolding rows_of
rows_length [] = refl
rows_length (w ∷ ws) = omega (arith, rows_length ws)

-- rows of walls before walls are those of the first, then those of the others
rows_append : (vs ws : List Partition) → rows_of (vs ++ ws) ≡ rows_of vs ++ rows_of ws
unfolding rows_of
rows_append [] ws = refl
rows_append (v ∷ vs) ws = rw (rows_append vs ws)

-- walls written behind others are written as one list
pub written_append : (l : List ℕ) (at : ℕ) (vs ws : List Partition) → written l at (vs ++ ws) ≡ written (written l at vs) (at + length vs) ws
unfolding written
written_append l at vs ws =
    let e : 4 * (at + length vs) ≡ 4 * at + length (rows_of vs) = omega (arith, rows_length vs) in
    rw (rows_append vs ws, e) (sets_append l (4 * at) (rows_of vs) (rows_of ws))

-- nothing written
pub written_none : (l : List ℕ) (at : ℕ) → written l at [] ≡ l
unfolding written rows_of
written_none l at = refl

-- a wall written, then those behind it
written_cons : (l : List ℕ) (at : ℕ) (w : Partition) (ws : List Partition)
    → written l at (w ∷ ws) ≡ written (row l at w.number w.begins w.ends w.sides) (at + 1) ws
unfolding written rows_of row
written_cons l at w ws = let e : 4 * (at + 1) ≡ suc (suc (suc (suc (4 * at)))) = omega arith in rw e

-- ONE SIDE: what is still to be written after it is what was to be written before
module _ (l : List ℕ) (w : Begun) (x b e : ℕ) (d : ℕ) (r : List Stretch) where
  -- what is to be written
  abbrev whole : List Partition
  whole = merge_from d (wall_of d w) (side x b e ∷ r)

  -- the wall goes on
  pub side_on : (t : Bool) (m : ℕ) → t ≡ (eqb x w.line && leb b w.ends) → t ≡ true → m ≡ max w.ends e
      → (written l w.at (merge_from d (wall_of d (record { at = w.at; line = w.line; begins = w.begins; ends = m; sides = w.sides + 1 })) r) ≡ written l w.at whole)
      × (w.at + length (merge_from d (wall_of d (record { at = w.at; line = w.line; begins = w.begins; ends = m; sides = w.sides + 1 })) r) ≡ w.at + length whole)
  unfolding merge_from goes_on extended wall_of side
  side_on t m et on em =
      let s : w.sides + 1 ≡ suc w.sides = omega arith in
      (rw (← et, on, em, s), rw (← et, on, em, s))

  -- the wall is written, and a new one begun
  pub side_new : (t : Bool) (l' : List ℕ) → t ≡ (eqb x w.line && leb b w.ends) → t ≡ false → l' ≡ row l w.at w.line w.begins w.ends w.sides
      → (written l' (w.at + 1) (merge_from d (wall_of d (record { at = w.at + 1; line = x; begins = b; ends = e; sides = 1 })) r) ≡ written l w.at whole)
      × (w.at + 1 + length (merge_from d (wall_of d (record { at = w.at + 1; line = x; begins = b; ends = e; sides = 1 })) r) ≡ w.at + length whole)
  unfolding merge_from goes_on opened wall_of side
  side_new t l' et off el = (
    rw (← et, off, el) (sym (written_cons l w.at (wall_of d w) (merge_from d (wall_of d (record { at = w.at + 1; line = x; begins = b; ends = e; sides = 1 })) r))),
    rw (← et, off) (omega arith),
  )

-- ALONG A CHAIN
abbrev pub Rests : List ℕ → List ℕ → Begun → ℕ → List ℕ → Begun → ℕ → Type 0
Rests cells l w h l₀ w₀ h₀ =
    (d : ℕ) → (written l w.at (merge_from d (wall_of d w) (chain cells h)) ≡ written l₀ w₀.at (merge_from d (wall_of d w₀) (chain cells h₀)))
    × (w.at + length (merge_from d (wall_of d w) (chain cells h)) ≡ w₀.at + length (merge_from d (wall_of d w₀) (chain cells h₀)))

-- what is left of a chain
module _ (cells l l₀ : List ℕ) (w w₀ : Begun) (h h₀ : ℕ) where
  -- a side taken, the chain from the next place is left
  pub rest_more : (l' : List ℕ) (w' : Begun) (s : Side) (n : ℕ) → Falls cells → 0 < h → n ≡ get_or cells (4 * (h - 1)) 0 → s ≡ side_in cells (h - 1)
      → ((d : ℕ) (r : List Stretch) → (written l' w'.at (merge_from d (wall_of d w') r) ≡ written l w.at (merge_from d (wall_of d w) (side_of s ∷ r)))
      × (w'.at + length (merge_from d (wall_of d w') r) ≡ w.at + length (merge_from d (wall_of d w) (side_of s ∷ r))))
      → Rests cells l w h l₀ w₀ h₀ → Rests cells l' w' n l₀ w₀ h₀
  rest_more l' w' s n fall some en es f inv d =
      let e : chain cells h ≡ side_of s ∷ chain cells n = rw es (chain_here cells h fall some n en) in (
        (f d (chain cells n)).0 ∙ ap (λ (r : List Stretch). written l w.at (merge_from d (wall_of d w) r)) (sym e) ∙ (inv d).0,
        (f d (chain cells n)).1 ∙ ap (λ (r : List Stretch). w.at + length (merge_from d (wall_of d w) r)) (sym e) ∙ (inv d).1,
      )

  -- at the end the wall that is begun is written
  pub rest_done : (l' : List ℕ) → h ≤ 0 → l' ≡ row l w.at w.line w.begins w.ends w.sides → Rests cells l w h l₀ w₀ h₀
      → (d : ℕ) → (l' ≡ written l₀ w₀.at (merge_from d (wall_of d w₀) (chain cells h₀))) × (w.at + 1 ≡ w₀.at + length (merge_from d (wall_of d w₀) (chain cells h₀)))
  unfolding merge_from wall_of
  rest_done l' none el inv d =
      let z : h ≡ 0 = omega arith in
      let e : chain cells h ≡ [] = ap (λ (i : ℕ). chain cells i) z ∙ chain_end cells in (
        el ∙ sym (written_none _ (w.at + 1)) ∙ sym (written_cons l w.at (wall_of d w) []) ∙ ap (λ (r : List Stretch). written l w.at (merge_from d (wall_of d w) r)) (sym e) ∙ (inv d).0,
        ap (λ (r : List Stretch). w.at + length (merge_from d (wall_of d w) r)) (sym e) ∙ (inv d).1,
      )

-- A WHOLE CHAIN: none, or the first side begins a wall
pub chain_none : (cells l : List ℕ) (at first d : ℕ) → first ≡ 0 → (l ≡ written l at (merged d (chain cells first))) × (at ≡ at + length (merged d (chain cells first)))
unfolding merged
chain_none cells l at first d z =
    let e : chain cells first ≡ [] = ap (λ (i : ℕ). chain cells i) z ∙ chain_end cells in
    (rw e (sym (written_none l at)), rw e (omega arith))

-- the first side begins a wall, and the others are taken to it
pub chain_begun : (cells l l' : List ℕ) (at first n r d : ℕ) → Falls cells → 0 < first → n ≡ get_or cells (4 * (first - 1)) 0
    → (w : Begun) → w ≡ record { at = at; line = get_or cells (4 * (first - 1) + 1) 0; begins = get_or cells (4 * (first - 1) + 2) 0; ends = get_or cells (4 * (first - 1) + 3) 0; sides = 1 }
    → (l' ≡ written l w.at (merge_from d (wall_of d w) (chain cells n))) × (r ≡ w.at + length (merge_from d (wall_of d w) (chain cells n)))
    → (l' ≡ written l at (merged d (chain cells first))) × (r ≡ at + length (merged d (chain cells first)))
unfolding merged opened wall_of side
chain_begun cells l l' at first n r d fall some en w ew (f, g) =
    let e : chain cells first ≡ here cells first ∷ chain cells n = chain_here cells first fall some n en in
    (rw e (rw ew at f), rw e (rw ew at g))

-- CHAIN BY CHAIN
abbrev pub Wrote : List ℕ → List ℕ → List ℕ → List ℕ → ℕ → ℕ → ℕ → Type 0
Wrote heads cells l₀ l at n x = (d : ℕ) → (l ≡ written l₀ at (read_walls d heads cells x)) × (n ≡ at + length (read_walls d heads cells x))

-- at the start nothing is written
pub wrote_first : (heads cells l : List ℕ) (at : ℕ) → Wrote heads cells l l at at 0
unfolding read_walls
wrote_first heads cells l at d = (sym (written_none l at), omega arith)

-- the walls of the next chain are written behind
pub wrote_more : (heads cells l₀ l l' : List ℕ) (at n n' x first : ℕ) → first ≡ get_or heads x 0
    → ((d : ℕ) → (l' ≡ written l n (merged d (chain cells first))) × (n' ≡ n + length (merged d (chain cells first))))
    → Wrote heads cells l₀ l at n x → Wrote heads cells l₀ l' at n' (x + 1)
unfolding read_walls
wrote_more heads cells l₀ l l' at n n' x first ef f inv d =
    let ws : List Partition = merged d (chain cells (get_or heads x 0)) in
    let s : x + 1 ≡ suc x = omega arith in
    let (p, q) = f d in
    let (a, b) = inv d in
    let p' : l' ≡ written l n ws = p ∙ ap (λ (i : ℕ). written l n (merged d (chain cells i))) ef in
    let q' : n' ≡ n + length ws = q ∙ ap (λ (i : ℕ). n + length (merged d (chain cells i))) ef in (
      rw s (p' ∙ rw (a, b) (sym (written_append l₀ at (read_walls d heads cells x) ws))),
      rw s (omega (arith, q', b, length-append (read_walls d heads cells x) ws)),
    )

-- behind the last chain all are written
pub wrote_done : (heads cells l₀ l : List ℕ) (at n x : ℕ) → x ≤ length heads → length heads ≤ x → Wrote heads cells l₀ l at n x → Wrote heads cells l₀ l at n (length heads)
wrote_done heads cells l₀ l at n x a b inv = let e : length heads ≡ x = omega arith in rw e inv
