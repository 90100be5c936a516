-- Once round a held star, a place at a time, as the loops come by it. Assumes nothing.
use Prim.Native.Nat.{ℕ, zero, suc, ◌+◌, ◌-◌, ◌<◌, ◌≤◌}
use mathlib.Core.Path.{◌≡◌, refl, ap}
use mathlib.Core.Bool.{Bool, true, false, not}
use mathlib.Core.List.{List, [], ◌∷◌}
use native.Mathlib.Omega.{arith}
use native.Mathlib.Decide.{dec_lt}
use borrow.Author.Tests.{lt-ltb, le-ltb, not-true, not-false}
use lib.ListN.{get_or}
use Rattle.floor.specs.Lists.{all, any}
use Rattle.floor.specs.Jobs.{Entry, Link, links_to, links}
use Rattle.stars.specs.Held.{entry_at, cells, place_after, link_at, links_from}
use Rattle.stars.proofs.Holding.{cells_more, cells_done}

-- the place behind one is the next, or the first behind the last
pub after_next : (start end k : ℕ) → k + 1 < end → k + 1 ≡ place_after start end k
unfolding place_after
after_next start end k h = rw (lt-ltb (k + 1) end h)

-- the place behind the last is the first
pub after_last : (start end k : ℕ) → end ≤ k + 1 → start ≡ place_after start end k
unfolding place_after
after_last start end k h = rw (le-ltb (k + 1) end h)

-- once round a star is what is left from its first place on
pub links_round : (nbr kind : List ℕ) (start end : ℕ) → links (cells (end - start) start nbr kind) ≡ links_from start end nbr kind start
unfolding links_from
links_round nbr kind start end = go (end - start)
  where
    go : (m : ℕ) → links (cells m start nbr kind) ≡ links_to (entry_at nbr kind start) (cells m start nbr kind)
    go zero = unfold cells links links_to in refl
    go (suc m) = unfold cells links in refl

-- what is left from a place on: the entry there with the one behind it, and what is left from the next place on
pub links_more : (nbr kind : List ℕ) (start end k : ℕ) → k < end
    → links_from start end nbr kind k ≡ link_at start end nbr kind k ∷ links_from start end nbr kind (k + 1)
unfolding links_from link_at links_to
links_more nbr kind start end k h = rw (cells_more nbr kind end k h) (ap (λ (e : Entry). record { this = entry_at nbr kind k; next = e } ∷ links_to (entry_at nbr kind start) (cells (end - (k + 1)) (k + 1) nbr kind)) first)
  where
    first : get_or (cells (end - (k + 1)) (k + 1) nbr kind) 0 (entry_at nbr kind start) ≡ entry_at nbr kind (place_after start end k)
    first = go (dec_lt (k + 1) end)
      where
        go : Dec (k + 1 < end) → get_or (cells (end - (k + 1)) (k + 1) nbr kind) 0 (entry_at nbr kind start) ≡ entry_at nbr kind (place_after start end k)
        go (yes l) = rw (cells_more nbr kind end (k + 1) l) (ap (entry_at nbr kind) (after_next start end k l))
        go (no l) = let m : end ≤ k + 1 = omega arith in rw (cells_done nbr kind end (k + 1) m) (ap (entry_at nbr kind) (after_last start end k m))

-- nothing is left behind the last
pub links_none : (nbr kind : List ℕ) (start end k : ℕ) → end ≤ k → links_from start end nbr kind k ≡ []
unfolding links_from links_to
links_none nbr kind start end k h = rw (cells_done nbr kind end k h)

-- a question put to each entry and the one behind it
module _ (nbr kind : List ℕ) (start end k : ℕ) (w : Bool) (q : Link → Bool) where
  module _ (b : Bool) (inv : all q (links_from start end nbr kind k) ≡ w) (h : k < end) (g : b ≡ q (link_at start end nbr kind k)) where
    -- where the entry here and the one behind it answer no, not all answer yes
    pub links_false : not b ≡ true → false ≡ w
    unfolding all
    links_false t = rw (links_more nbr kind start end k h, ← g, not-true b t) at inv

    -- where they answer yes, all do exactly if all from the next place on do
    pub links_next : not b ≡ false → all q (links_from start end nbr kind (k + 1)) ≡ w
    unfolding all
    links_next t = rw (links_more nbr kind start end k h, ← g, not-false b t) at inv

  -- behind the last place there is nothing left that could answer no
  pub links_all : all q (links_from start end nbr kind k) ≡ w → end ≤ k → true ≡ w
  unfolding all
  links_all inv h = rw (links_none nbr kind start end k h) at inv

  -- whether some entry and the one behind it answer yes
  module _ (b : Bool) (inv : any q (links_from start end nbr kind k) ≡ w) (h : k < end) (g : b ≡ q (link_at start end nbr kind k)) where
    -- where the entry here and the one behind it answer yes, some do
    pub links_true : b ≡ true → true ≡ w
    unfolding any
    links_true t = rw (links_more nbr kind start end k h, ← g, t) at inv

    -- where they answer no, some answer yes exactly if some from the next place on do
    pub links_other : b ≡ false → any q (links_from start end nbr kind (k + 1)) ≡ w
    unfolding any
    links_other t = rw (links_more nbr kind start end k h, ← g, t) at inv

  -- behind the last place there is nothing left that could answer yes
  pub links_no : any q (links_from start end nbr kind k) ≡ w → end ≤ k → false ≡ w
  unfolding any
  links_no inv h = rw (links_none nbr kind start end k h) at inv
