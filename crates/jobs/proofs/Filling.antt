-- The stars and the sizes put one behind the other, as the code comes by them. Assumes nothing.
use Prim.Native.Nat.{ℕ, suc, ◌+◌, ◌-◌, ◌*◌, ◌/◌, ◌<◌, ◌≤◌}
use mathlib.Core.Path.{◌≡◌}
use mathlib.Core.List.{List, ◌∷◌, map}
use native.Mathlib.Omega.{arith}
use lib.ListN.{length, get_or, drop, set, length-drop, length-replicate}
use lib.Seq.{sets, drop-cons}
use Rattle.floor.specs.Lists.{sum}
use Rattle.floor.specs.Fields.{read_field, value_of, rest_of}
use Rattle.floor.specs.Jobs.{Entry, pairs_in, entries, size_pairs, size_bytes}
use Rattle.stars.specs.declared.Stars.{Stars}
use Rattle.stars.specs.declared.Sizes.{Sizes as HeldSizes}
use Rattle.stars.specs.Held.{to_of, kind_of, no_stars, put_star, put_all, held_of}
use Rattle.stars.specs.Sized.{no_sizes, held_sizes}
use Rattle.stars.specs.Pairs.{pair}
use Rattle.stars.proofs.Entries.{entries_done}
use Rattle.stars.proofs.Sized.{pairs_more, pairs_done, pairs_length}
use Rattle.jobs.specs.Shapes.{stars_at, sizes_at}
use Rattle.jobs.proofs.Outlines.{entries_length}
use Rattle.jobs.proofs.Walks.{next_star, no_star, behind}

-- the entries from a place on: the one there, and those from the next on
entries_from : (s : List ℕ) (k : ℕ) → k + 1 < length s → entries (drop k s) ≡ pair (get_or s k 0) (get_or s (k + 1) 0) ∷ entries (drop (k + 2) s)
unfolding entries
entries_from s k h =
    let h₀ : k < length s = omega arith in
    let h₁ : suc k < length s = omega arith in
    let e₁ : k + 1 ≡ suc k = omega arith in
    let e₂ : k + 2 ≡ suc (suc k) = omega arith in
    rw (e₁, e₂, drop-cons s k 0 h₀, drop-cons s (suc k) 0 h₁)

-- the entries of one star, put one by one: what is left to put, put, gives the whole
module _ (g : Entry → ℕ) (s a w : List ℕ) (m i : ℕ) where
  -- the next entry put, those behind it are left
  pub fill_more : (x : ℕ) → x ≡ g (pair (get_or s (2 * i) 0) (get_or s (2 * i + 1) 0)) → sets a (m + i) (map g (entries (drop (2 * i) s))) ≡ w → i < length s / 2
      → sets (set a (m + i) x) (m + (i + 1)) (map g (entries (drop (2 * (i + 1)) s))) ≡ w
  fill_more x q inv h =
      let e₁ : m + (i + 1) ≡ suc (m + i) = omega arith in
      let e₂ : 2 * (i + 1) ≡ 2 * i + 2 = omega arith in
      rw (e₁, e₂, q) (rw (entries_from s (2 * i) (omega arith)) at inv)

  -- behind the last entry nothing is left to put
  pub fill_done : sets a (m + i) (map g (entries (drop (2 * i) s))) ≡ w → length s / 2 ≤ i → a ≡ w
  fill_done inv h = rw (entries_done (drop (2 * i) s) (simp length-drop (omega arith))) at inv

-- so many stars, by where they end and by their entries
abbrev pub laid : ℕ → List ℕ → List ℕ → List ℕ → Stars
laid i ends nbr kind = record { count = i; ends = ends; nbr = nbr; kind = kind }

-- a star's entries put from place m on, and its end noted, are one star more
star_put : (m i : ℕ) (s ends nbr kind x y : List ℕ) → x ≡ sets nbr m (map to_of (entries s)) → y ≡ sets kind m (map kind_of (entries s))
    → laid (i + 1) (set ends i (m + length s / 2)) x y ≡ put_star (laid i ends nbr kind) m (entries s)
unfolding put_star
star_put m i s ends nbr kind x y ex ey = rw (entries_length s, ← ex, ← ey)

-- the stars of a job, put one by one
module _ (s : List ℕ) (n i at m : ℕ) (v : List ℕ) where
  -- where the stars left have their places among 360, the next star has
  room_here : i < n → v ≡ value_of (read_field (drop at s)) → m + pairs_in (stars_at (n - i) (drop at s)) ≤ 360 → m + length v / 2 ≤ 360
  unfolding pairs_in sum
  room_here h e k =
      let k' = rw (next_star s n i at h, ← e) at k in
      omega (arith, entries_length v)

  -- the next star's entries fit a list of 360
  pub room_in : (l : ℕ) → i < n → v ≡ value_of (read_field (drop at s)) → m + pairs_in (stars_at (n - i) (drop at s)) ≤ 360 → l ≡ 360 → m + length v / 2 ≤ l
  room_in l h e k q = omega (arith, room_here h e k)

  -- the place where the next star ends is a number of two bytes
  pub room_word : i < n → v ≡ value_of (read_field (drop at s)) → m + pairs_in (stars_at (n - i) (drop at s)) ≤ 360 → m + length v / 2 < 65536
  room_word h e k = omega (arith, room_here h e k)

  -- the stars behind the next have their places among 360, behind its own
  pub room_behind : (x : ℕ) → i < n → v ≡ value_of (read_field (drop at s)) → x ≡ length s - length (rest_of (read_field (drop at s)))
      → m + pairs_in (stars_at (n - i) (drop at s)) ≤ 360 → m + length v / 2 + pairs_in (stars_at (n - (i + 1)) (drop x s)) ≤ 360
  unfolding pairs_in sum
  room_behind x h e p k =
      let k' = rw (next_star s n i at h, ← e, behind s n i at x p) at k in
      omega (arith, entries_length v)

  module _ (w : Stars) (ends nbr kind : List ℕ) where
    -- the next star put, those behind it are left
    pub hold_next : (x : ℕ) (tos kinds : List ℕ) → i < n → v ≡ value_of (read_field (drop at s)) → x ≡ length s - length (rest_of (read_field (drop at s)))
        → tos ≡ sets nbr m (map to_of (entries v)) → kinds ≡ sets kind m (map kind_of (entries v))
        → put_all (laid i ends nbr kind) m (stars_at (n - i) (drop at s)) ≡ w
        → put_all (laid (i + 1) (set ends i (m + length v / 2)) tos kinds) (m + length v / 2) (stars_at (n - (i + 1)) (drop x s)) ≡ w
    unfolding put_all
    hold_next x tos kinds h e p et ek inv =
        let inv' = rw (next_star s n i at h, ← e, behind s n i at x p) at inv in
        rw (star_put m i v ends nbr kind tos kinds et ek, ← entries_length v) inv'

-- nothing put yet
pub hold_first : (s : List ℕ) (n c at : ℕ) (a : Stars) → a ≡ no_stars → c ≡ n → pairs_in (stars_at n (drop at s)) ≤ 360
    → (0 ≤ c) × (length a.ends ≡ 60) × (length a.nbr ≡ 360) × (length a.kind ≡ 360) × (0 + pairs_in (stars_at (c - 0) (drop at s)) ≤ 360)
    × (put_all (laid 0 a.ends a.nbr a.kind) 0 (stars_at (c - 0) (drop at s)) ≡ held_of (stars_at n (drop at s)))
unfolding no_stars held_of
hold_first s n c at a e q h =
    let z : c - 0 ≡ n = omega arith in (
      omega arith,
      rw e (length-replicate {A = ℕ} 60 0),
      rw e (length-replicate {A = ℕ} 360 0),
      rw e (length-replicate {A = ℕ} 360 0),
      rw z (omega arith),
      rw (z, e),
    )

-- behind the last star nothing is left to put
pub hold_done : (s : List ℕ) (n c i at m : ℕ) (ends nbr kind : List ℕ) (w : Stars) → c ≡ n → c ≤ i → i ≤ c
    → put_all (laid i ends nbr kind) m (stars_at (c - i) (drop at s)) ≡ w → laid n ends nbr kind ≡ w
unfolding put_all
hold_done s n c i at m ends nbr kind w e l k inv =
    let z : n ≡ i = omega arith in
    rw z (rw (no_star s c i at l) at inv)

-- the sizes, put one by one: what is left to put, put, gives the whole
module _ (s a w : List ℕ) (i : ℕ) where
  -- the next width and height put, those behind them are left
  pub sizes_more : sets a (2 * i) (size_bytes (size_pairs (drop (2 * i) s))) ≡ w → i < length s / 2
      → sets (set (set a (2 * i) (get_or s (2 * i) 0)) (2 * i + 1) (get_or s (2 * i + 1) 0)) (2 * (i + 1)) (size_bytes (size_pairs (drop (2 * (i + 1)) s))) ≡ w
  unfolding size_bytes
  sizes_more inv h =
      let e₁ : 2 * (i + 1) ≡ suc (suc (2 * i)) = omega arith in
      let e₂ : 2 * i + 2 ≡ suc (suc (2 * i)) = omega arith in
      let e₃ : 2 * i + 1 ≡ suc (2 * i) = omega arith in
      rw (e₁, e₃) (rw (pairs_more s (2 * i) (omega arith), e₂, e₃) at inv)

  -- behind the last size nothing is left to put
  pub sizes_done : sets a (2 * i) (size_bytes (size_pairs (drop (2 * i) s))) ≡ w → length s / 2 ≤ i → a ≡ w
  unfolding size_bytes
  sizes_done inv h = rw (pairs_done s (2 * i) (omega arith)) at inv

-- the sizes of the field at a place
module _ (s v : List ℕ) (at : ℕ) (e : v ≡ value_of (read_field (drop at s))) (h : length (sizes_at (drop at s)) ≤ 60) where
  -- there are no more than 60
  pub sizes_few : length v / 2 ≤ 60
  unfolding sizes_at
  sizes_few = omega (arith, pairs_length v, rw (← e) at h)

  module _ (a : HeldSizes) (ea : a ≡ no_sizes) where
    -- there is room for them where none are held
    pub sizes_room : 2 * (length v / 2) ≤ length a.list
    unfolding no_sizes
    sizes_room = rw ea (omega (arith, sizes_few, length-replicate {A = ℕ} 120 0))

    -- their number and their widths and heights, put there, hold them
    pub sizes_held : (l : List ℕ) → l ≡ sets a.list 0 (size_bytes (size_pairs v))
        → ◌≡◌ {A = HeldSizes} (record { told = length v / 2; list = l }) (held_sizes (sizes_at (drop at s)))
    unfolding no_sizes held_sizes sizes_at
    sizes_held l el = rw (← e, pairs_length v) (rw (el, ea))
