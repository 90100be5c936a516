-- The held sizes, as the code comes by them, and given back. Assumes nothing.
use Prim.Native.Nat.{ℕ, zero, suc, ◌+◌, ◌-◌, ◌*◌, ◌/◌, ◌<◌, ◌≤◌}
use mathlib.Core.Path.{◌≡◌, refl, ◌∙◌, ap}
use mathlib.Core.Bool.{Bool, true, false, not, ◌&&◌}
use mathlib.Core.List.{List, [], ◌∷◌}
use native.Mathlib.Omega.{arith}
use borrow.Author.Tests.{not-true, not-false}
use lib.ListN.{length, get_or, get_or-eq_default, set, drop, replicate, length-set, length-drop, length-replicate}
use lib.Seq.{sets, drop-cons}
use Rattle.floor.specs.Lists.{all, any}
use Rattle.floor.specs.Jobs.{Sizes, one_cell, size_of, size_pairs, size_bytes, size_ok, larger, test17}
use Rattle.stars.specs.Sized.{size, size_at, sizes_from, sizes_in, sizes_of, no_sizes, held_sizes}
use Rattle.stars.proofs.Back.{first_put}

-- the next size, and those behind it
module _ (l : List ℕ) (n i : ℕ) where
  -- the sizes from place i on are the one at i and those behind it
  pub sizes_more : i < n → sizes_from (n - i) i l ≡ size_at l i ∷ sizes_from (n - (i + 1)) (i + 1) l
  unfolding sizes_from
  sizes_more h =
      let d : n - i ≡ suc (n - (i + 1)) = omega arith in
      let s : i + 1 ≡ suc i = omega arith in
      rw (d, s)

  -- behind the last there is no size left
  pub sizes_done : n ≤ i → sizes_from (n - i) i l ≡ []
  unfolding sizes_from
  sizes_done h =
      let d : n - i ≡ 0 = omega arith in
      rw d

-- as many sizes as are asked for
pub length_sizes : (m i : ℕ) (l : List ℕ) → length (sizes_from m i l) ≡ m
unfolding sizes_from
length_sizes zero i l = refl
length_sizes (suc m) i l = ap suc (length_sizes m (suc i) l)

-- the size at place i of those from place k on is the one at k + i
size_in : (m k i : ℕ) (l : List ℕ) → i < m → get_or (sizes_from m k l) i one_cell ≡ size_at l (k + i)
unfolding sizes_from
size_in zero k i l h = absurd (omega arith)
size_in (suc m) k zero l h = let e : k + 0 ≡ k = omega arith in rw e
size_in (suc m) k (suc i) l h =
    let e : k + suc i ≡ suc k + i = omega arith in
    rw e (size_in m (suc k) i l (omega arith))

-- the size of a room, told or not
module _ (l : List ℕ) (n i m : ℕ) (em : m ≡ n) where
  -- a room whose size is not told has one cell
  none_there : m ≤ i → size_of (sizes_in n l) (4 + i) ≡ one_cell
  unfolding size_of
  none_there h = get_or-eq_default (sizes_in n l) one_cell {n = 4 + i - 4} (omega (arith, length_sizes n 0 l))

  -- else it has the size at its place
  one_there : i < m → size_of (sizes_in n l) (4 + i) ≡ size_at l i
  unfolding size_of
  one_there h =
      let e : 4 + i - 4 ≡ i = omega arith in
      let z : 0 + i ≡ i = omega arith in
      rw e (size_in n 0 i l (omega arith) ∙ rw z)

  -- a room whose size is not told is one cell wide
  pub width_untold : m ≤ i → 1 ≡ (size_of (sizes_in n l) (4 + i)).wide
  width_untold h = rw (none_there h)

  -- and one cell tall
  pub height_untold : m ≤ i → 1 ≡ (size_of (sizes_in n l) (4 + i)).tall
  height_untold h = rw (none_there h)

  -- a room whose size is told is as wide as is told there
  pub width_told : (x : ℕ) → i < m → x ≡ get_or l (2 * i) 0 → x ≡ (size_of (sizes_in n l) (4 + i)).wide
  unfolding size_at
  width_told x h e = rw (one_there h) e

  -- and as tall
  pub height_told : (x : ℕ) → i < m → x ≡ get_or l (2 * i + 1) 0 → x ≡ (size_of (sizes_in n l) (4 + i)).tall
  unfolding size_at
  height_told x h e = rw (one_there h) e

-- a question of every size
module _ (l : List ℕ) (n i : ℕ) (w : Bool) (x y : ℕ) (ex : x ≡ get_or l (2 * i + 0) 0) (ey : y ≡ get_or l (2 * i + 1) 0) where
  -- the width stands first
  front : x ≡ get_or l (2 * i) 0
  front = ex ∙ (let z : 2 * i + 0 ≡ 2 * i = omega arith in rw z)

  -- where one size fails, the test of all fails
  pub each_false : (b : Bool) → b ≡ size_ok (size x y) → not b ≡ true → i < n → all size_ok (sizes_from (n - i) i l) ≡ w → false ≡ w
  unfolding all size_at
  each_false b e t h inv = rw (sizes_more l n i h, ← front, ← ey, ← e, not-true b t) at inv

  -- where it passes, those behind it are left
  pub each_next : (b : Bool) → b ≡ size_ok (size x y) → not b ≡ false → i < n → all size_ok (sizes_from (n - i) i l) ≡ w
      → all size_ok (sizes_from (n - (i + 1)) (i + 1) l) ≡ w
  unfolding all size_at
  each_next b e t h inv = rw (sizes_more l n i h, ← front, ← ey, ← e, not-false b t) at inv

  -- where one size is larger, some is
  pub some_true : (b : Bool) → b ≡ larger (size x y) → b ≡ true → i < n → any larger (sizes_from (n - i) i l) ≡ w → true ≡ w
  unfolding any size_at
  some_true b e t h inv = rw (sizes_more l n i h, ← front, ← ey, ← e, t) at inv

  -- where it is not, those behind it are left
  pub some_next : (b : Bool) → b ≡ larger (size x y) → b ≡ false → i < n → any larger (sizes_from (n - i) i l) ≡ w
      → any larger (sizes_from (n - (i + 1)) (i + 1) l) ≡ w
  unfolding any size_at
  some_next b e t h inv = rw (sizes_more l n i h, ← front, ← ey, ← e, t) at inv

module _ (l : List ℕ) (n i : ℕ) (w : Bool) where
  -- behind the last there is none that could fail
  pub each_done : n ≤ i → all size_ok (sizes_from (n - i) i l) ≡ w → true ≡ w
  unfolding all
  each_done h inv = rw (sizes_done l n i h) at inv

  -- behind the last there is none that could be larger
  pub some_done : n ≤ i → any larger (sizes_from (n - i) i l) ≡ w → false ≡ w
  unfolding any
  some_done h inv = rw (sizes_done l n i h) at inv

-- ---- test 17, by the answers of its parts

-- no sizes told pass
pub none_pass : (l : List ℕ) (n : ℕ) → n ≡ 0 → true ≡ test17 (sizes_in n l)
unfolding test17 sizes_from
none_pass l n e = rw e

-- sizes told pass exactly if each is 1 to 15 and some is larger
told_pass : (l : List ℕ) (n : ℕ) → (n ≡ 0 → ⊥) → test17 (sizes_in n l) ≡ (all size_ok (sizes_in n l) && any larger (sizes_in n l))
unfolding test17 sizes_from
told_pass l zero h = absurd (h refl)
told_pass l (suc n) h = refl

module _ (l : List ℕ) (n : ℕ) (h : n ≡ 0 → ⊥) (a : Bool) (ea : a ≡ all size_ok (sizes_in n l)) where
  -- a size outside 1 to 15 fails
  pub each_fails : not a ≡ true → false ≡ test17 (sizes_in n l)
  each_fails na = rw (told_pass l n h, ← ea, not-true a na)

  -- else some must be larger
  pub some_passes : (r : Bool) → not a ≡ false → r ≡ any larger (sizes_in n l) → r ≡ test17 (sizes_in n l)
  some_passes r na er = rw (told_pass l n h, ← ea, not-false a na) er

-- ---- sizes held, and given back

-- sizes put from place i on, where there is room for them, are read from there
put_back : (z : Sizes) (i : ℕ) (l : List ℕ) → 2 * i + 2 * length z ≤ length l → sizes_from (length z) i (sets l (2 * i) (size_bytes z)) ≡ z
unfolding sizes_from size_at size_bytes
put_back [] i l h = refl
put_back (s ∷ z) i l h =
    let w : List ℕ = set l (2 * i) s.wide in
    let e : 2 * i + 1 ≡ suc (2 * i) = omega arith in
    let f : 2 * suc i ≡ suc (suc (2 * i)) = omega arith in
    let a : get_or (sets (set w (suc (2 * i)) s.tall) (suc (suc (2 * i))) (size_bytes z)) (2 * i) 0 ≡ s.wide =
    first_put l (s.tall ∷ size_bytes z) (2 * i) s.wide (omega arith) in
    let b : get_or (sets (set w (suc (2 * i)) s.tall) (suc (suc (2 * i))) (size_bytes z)) (suc (2 * i)) 0 ≡ s.tall =
    first_put w (size_bytes z) (suc (2 * i)) s.tall (simp length-set (omega arith)) in
    let t = put_back z (suc i) (set w (suc (2 * i)) s.tall) (simp length-set (omega arith)) in
    rw (e, a, b, rw f at t)

-- SIZES OF AT MOST 60 ROOMS ARE GIVEN BACK
pub sizes_back : (z : Sizes) → length z ≤ 60 → sizes_of (held_sizes z) ≡ z
unfolding sizes_of held_sizes
sizes_back z h = put_back z 0 (replicate 120 0) (omega (arith, length-replicate {A = ℕ} 120 0))

-- no sizes are held as none
pub none_held : no_sizes ≡ held_sizes []
unfolding no_sizes held_sizes size_bytes
none_held = refl

-- ---- sizes in bytes, a width and a height at a time

-- the sizes from a place on: the one there, and those from the next on
pub pairs_more : (s : List ℕ) (i : ℕ) → i + 1 < length s
    → size_pairs (drop i s) ≡ size (get_or s i 0) (get_or s (i + 1) 0) ∷ size_pairs (drop (i + 2) s)
unfolding size_pairs
pairs_more s i h =
    let h₀ : i < length s = omega arith in
    let h₁ : suc i < length s = omega arith in
    let e₁ : i + 1 ≡ suc i = omega arith in
    let e₂ : i + 2 ≡ suc (suc i) = omega arith in
    rw (e₁, e₂, drop-cons s i 0 h₀, drop-cons s (suc i) 0 h₁)

-- less than two bytes hold no size
short_pairs : (l : List ℕ) → length l ≤ 1 → size_pairs l ≡ []
unfolding size_pairs
short_pairs [] h = refl
short_pairs (w ∷ []) h = refl
short_pairs (w ∷ t ∷ r) h = absurd (omega arith)

-- where less than two bytes are left there is no size
pub pairs_done : (s : List ℕ) (i : ℕ) → length s ≤ i + 1 → size_pairs (drop i s) ≡ []
pairs_done s i h = short_pairs (drop i s) (simp length-drop (omega arith))

-- half as many sizes as bytes
pub pairs_length : (s : List ℕ) → length (size_pairs s) ≡ length s / 2
unfolding size_pairs
pairs_length [] = refl
pairs_length (w ∷ []) = refl
pairs_length (w ∷ t ∷ r) = omega (arith, pairs_length r)
