-- The register as it is kept: its rows, and how many of them. Assumes nothing.
use Prim.Native.Nat.{ℕ, zero, suc, ◌+◌, ◌*◌, ◌≤◌, ◌<◌, min, max}
use mathlib.Core.Path.{◌≡◌, refl, sym, ap, ◌∙◌}
use mathlib.Core.Bool.{Bool, true, false, cond}
use mathlib.Core.List.Memᴰ
use mathlib.Core.List.{List, [], ◌∷◌, ◌++◌, Memᴰ}
use native.Mathlib.Omega.{arith}
use native.Mathlib.Decide.{dec_lt}
use borrow.Author.Tests.{eq-eqb, ne_eqb}
use lib.ListN.{length, take, drop, replicate, length-take, length-append, length-replicate, take-append-drop, drop_of_length-le}
use lib.Seq.{sets, length-sets}
use Rattle.floor.specs.Lists.{keep}
use Rattle.floor.specs.Plans.{Rect}
use Rattle.floor.specs.Registers.{Stretch, Partition, sides_in}
use Rattle.floor.specs.Registers.Merge.{opened, extended, goes_on, merge_from, merged}
use Rattle.drawing.specs.Rects.{rect_at, rects_in, plan_from}
use Rattle.registers.specs.Sorting.{rooms, lines_of, in_order, ordered_sides, kept_walls}
use Rattle.registers.specs.Kept.{rows_of, written, noughts, is_upright, kept_register}
use Rattle.registers.proofs.Numbers.{sets_out}
use Rattle.registers.proofs.Rows.{written_append, written_none}

-- THE ROOMS of a plan, the first of them
take_rects : (k n v : ℕ) (l : List ℕ) → take k (rects_in n v l) ≡ rects_in (min k n) v l
unfolding rects_in
take_rects zero n v l = let e : min 0 n ≡ 0 = omega arith in rw e
take_rects (suc k) zero v l = let e : min (suc k) 0 ≡ 0 = omega arith in rw e
take_rects (suc k) (suc n) v l =
    let e : min (suc k) (suc n) ≡ suc (min k n) = omega arith in
    rw e (ap (λ (r : List Rect). rect_at l v ∷ r) (take_rects k n (suc v) l))

-- the rooms of a plan are its rectangles from vertex 4 on, sixty at most
rooms_of : (w h n : ℕ) (l : List ℕ) → take rooms (drop 4 (plan_from w h (n + 4) l).rects) ≡ rects_in (min 60 n) 4 l
unfolding rects_in
rooms_of w h n l = let e : n + 4 ≡ suc (suc (suc (suc n))) = omega arith in rw e (take_rects 60 n 4 l)

-- the walls of a plan's rooms, by direction
pub kept_is : (w h n : ℕ) (l : List ℕ)
    → kept_walls (plan_from w h (n + 4) l)
    ≡ merged 0 (in_order (min 256 (max w h)) (sides_in 0 (rects_in (min 60 n) 4 l))) ++ merged 1 (in_order (min 256 (max w h)) (sides_in 1 (rects_in (min 60 n) 4 l)))
unfolding kept_walls ordered_sides lines_of
kept_is w h n l = rw (rooms_of w h n l)

-- DIRECTIONS: the walls of a direction stand in it
abbrev pub Along : ℕ → List Partition → Type 0
Along d ws = (w : Partition) → Memᴰ w ws → w.direction ≡ d

-- what is merged keeps the direction
merge_along : (d : ℕ) (w : Partition) (l : List Stretch) → w.direction ≡ d → Along d (merge_from d w l)
unfolding merge_from extended opened
merge_along d w [] e v (Memᴰ.tail x6) = elim x6 [ ]
merge_along d w [] e v (Memᴰ.head q) = rw q e
merge_along d w (s ∷ l) e v m = go (goes_on w s) (merge_along d (extended w s) l e v) (merge_along d (opened d s) l refl v) m
  where
    go : (t : Bool) → (Memᴰ v (merge_from d (extended w s) l) → v.direction ≡ d) → (Memᴰ v (merge_from d (opened d s) l) → v.direction ≡ d)
        → Memᴰ v (cond t (merge_from d (extended w s) l) (w ∷ merge_from d (opened d s) l)) → v.direction ≡ d
    go true a b m = a m
    go false a b (Memᴰ.head q) = rw q e
    go false a b (Memᴰ.tail m) = b m

-- so do all walls of a direction
pub merged_along : (d : ℕ) (l : List Stretch) → Along d (merged d l)
unfolding merged opened
merged_along d [] w m = absurd (Memᴰ.not-nil m)
merged_along d (s ∷ l) w m = merge_along d (opened d s) l refl w m

-- of the first k walls, so many stand upright
none_upright : (k : ℕ) (ls : List Partition) → Along 1 ls → length (keep is_upright (take k ls)) ≡ 0
unfolding keep is_upright
none_upright zero ls f = refl
none_upright (suc k) [] f = refl
none_upright (suc k) (w ∷ ls) f =
    rw (ne_eqb w.direction 0 (λ e. omega (arith, f w (Memᴰ.head refl)))) (none_upright k ls (λ v m. f v (Memᴰ.tail m)))

-- those of the upright ones that are kept
pub uprights_first : (k : ℕ) (us ls : List Partition) → Along 0 us → Along 1 ls → length (keep is_upright (take k (us ++ ls))) ≡ min k (length us)
unfolding keep is_upright
uprights_first k [] ls f g = none_upright k ls g ∙ omega arith
uprights_first zero (u ∷ us) ls f g = omega arith
uprights_first (suc k) (u ∷ us) ls f g =
    rw (eq-eqb u.direction 0 (f u (Memᴰ.head refl)))
    (let e : length (keep is_upright (take k (us ++ ls))) ≡ min k (length us) = uprights_first k us ls (λ v m. f v (Memᴰ.tail m)) g in omega arith)

-- ROWS: only the first 64 walls find room
rows_cut : (l : List ℕ) (ws : List Partition) → length l ≡ 256 → written l 0 ws ≡ written l 0 (take 64 ws)
unfolding written
rows_cut l ws e =
    ap (λ (v : List Partition). written l 0 v) (sym (take-append-drop 64 ws))
    ∙ written_append l 0 (take 64 ws) (drop 64 ws)
    ∙ go (dec_lt (length ws) 64)
  where
    long : length (written l 0 (take 64 ws)) ≡ 256
    long = length-sets l (4 * 0) (rows_of (take 64 ws)) ∙ e

    go : Dec (length ws < 64) → written (written l 0 (take 64 ws)) (0 + length (take 64 ws)) (drop 64 ws) ≡ written l 0 (take 64 ws)
    go (yes h) = rw (drop_of_length-le ws {i = 64} (omega arith)) (written_none (written l 0 (take 64 ws)) (0 + length (take 64 ws)))
    go (no h) = sets_out (rows_of (drop 64 ws)) (written l 0 (take 64 ws)) (4 * (0 + length (take 64 ws))) (omega (arith, long, length-take 64 ws))

-- THE REGISTER, by the rows of both directions
pub register_put : (us ls : List Partition) (l₀ l₁ l₂ : List ℕ) (u m a b : ℕ) → Along 0 us → Along 1 ls → l₀ ≡ replicate 256 0
    → l₁ ≡ written l₀ 0 us → u ≡ 0 + length us → l₂ ≡ written l₁ u ls → m ≡ u + length ls → a ≡ min 64 u → b ≡ min 64 m
    → record { uprights = a; many = b; rows = l₂ } ≡ kept_register (us ++ ls)
unfolding kept_register written
register_put us ls l₀ l₁ l₂ u m a b f g e₀ e₁ eu e₂ em ea eb =
    let p : a ≡ length (keep is_upright (take 64 (us ++ ls))) = sym (uprights_first 64 us ls f g ∙ omega arith) in
    let q : b ≡ length (take 64 (us ++ ls)) = sym (length-take 64 (us ++ ls) ∙ omega (arith, length-append us ls)) in
    let r : l₂ ≡ written (replicate 256 0) 0 (us ++ ls) = e₂ ∙ rw (eu, e₁, e₀) (sym (written_append (replicate 256 0) 0 us ls)) in
    let s : l₂ ≡ sets noughts 0 (rows_of (take 64 (us ++ ls))) = r ∙ rows_cut (replicate 256 0) (us ++ ls) (length-replicate {A = ℕ} 256 0) ∙ refl in
    rw (p, q, s)

-- and of a plan's rooms
pub register_counted : (w h n k x : ℕ) (l l₀ l₁ l₂ : List ℕ) (u m a b : ℕ) → l₀ ≡ replicate 256 0 → k ≡ min 60 n → x ≡ min 256 (max w h)
    → (l₁ ≡ written l₀ 0 (merged 0 (in_order x (sides_in 0 (rects_in k 4 l))))) × (u ≡ 0 + length (merged 0 (in_order x (sides_in 0 (rects_in k 4 l))))) × (u ≤ 0 + 16777216)
    → (l₂ ≡ written l₁ u (merged 1 (in_order x (sides_in 1 (rects_in k 4 l))))) × (m ≡ u + length (merged 1 (in_order x (sides_in 1 (rects_in k 4 l))))) × (m ≤ u + 16777216)
    → a ≡ min 64 u → b ≡ min 64 m → record { uprights = a; many = b; rows = l₂ } ≡ kept_register (kept_walls (plan_from w h (n + 4) l))
register_counted w h n k x l l₀ l₁ l₂ u m a b e₀ ek ex (e₁, eu, _) (e₂, em, _) ea eb =
    register_put _ _ l₀ l₁ l₂ u m a b (merged_along 0 (in_order x (sides_in 0 (rects_in k 4 l)))) (merged_along 1 (in_order x (sides_in 1 (rects_in k 4 l)))) e₀ e₁ eu e₂ em ea eb
    ∙ ap (λ (ws : List Partition). kept_register ws) (sym (kept_is w h n l ∙ rw (← ek, ← ex)))
