-- The tests of a star's bytes, an entry at a time, as the loops come by them: s is what is left of the bytes, and the invariant says that
-- the test of it is w, the test of the whole. Assumes nothing.
use Prim.Native.Nat.{ℕ, ◌+◌, ◌-◌, ◌<◌, ◌≤◌}
use mathlib.Core.Path.{◌≡◌, refl, sym, ap, ◌∙◌}
use mathlib.Core.Bool.{Bool, true, false, cond, ◌&&◌}
use mathlib.Core.List.{List, [], ◌∷◌}
use native.Mathlib.Nat.{zero-add, add-zero}
use native.Mathlib.Omega.{arith}
use borrow.Author.Tests.{eq-eqb, ne_eqb}
use lib.Dec.{eqb}
use lib.ListN.{length, get_or, take, drop, length-drop}
use Rattle.std.proofs.Common.{take_all}
use Rattle.floor.specs.Lists.{all, keep, pairwise}
use Rattle.floor.specs.Lists.Laws.{bit}
use Rattle.floor.proofs.Lists.Laws.{count_cons}
use Rattle.floor.specs.Jobs.{Entry, Star, Link, links_to, links, changes, goes_on, entries, star_ok}
use Rattle.stars.specs.Pairs.{pair, apart, here, kinds_link, changes_in}

-- what a pattern of two and the rest leaves is the bytes behind the first two
pub behind_two : (s : List ℕ) → 2 ≤ length s → take (length s - 2) (drop 2 s) ≡ drop 2 s
behind_two s h = take_all (length s - 2) (drop 2 s) (simp length-drop (omega arith))

-- two bytes and more are an entry and those behind it
pub entries_more : (s : List ℕ) → 2 ≤ length s → entries s ≡ here s ∷ entries (take (length s - 2) (drop 2 s))
unfolding entries
entries_more [] h = absurd (omega arith)
entries_more (v ∷ []) h = absurd (omega arith)
entries_more (v ∷ k ∷ r) h = ap (λ t. pair v k ∷ entries t) (sym (behind_two (v ∷ k ∷ r) h))

-- less than two bytes hold no entry
pub entries_done : (l : List ℕ) → length l < 2 → entries l ≡ []
unfolding entries
entries_done [] h = refl
entries_done (v ∷ []) h = refl
entries_done (v ∷ k ∷ r) h = absurd (omega arith)

-- what is left of the bytes behind the first entry
abbrev pub behind : List ℕ → List ℕ
behind s = take (length s - 2) (drop 2 s)

-- a test of every entry
module _ (f : Entry → Bool) (s : List ℕ) (w : Bool) where
  pub all_false : (b : Bool) → b ≡ f (here s) → b ≡ false → 2 ≤ length s → all f (entries s) ≡ w → false ≡ w
  unfolding all
  all_false b e n h inv = rw (entries_more s h, ← e, n) at inv

  pub all_next : (b : Bool) → b ≡ f (here s) → b ≡ true → 2 ≤ length s → all f (entries s) ≡ w → all f (entries (behind s)) ≡ w
  unfolding all
  all_next b e n h inv = rw (entries_more s h, ← e, n) at inv

  -- where no entry is left, there is none that could fail
  pub all_done : length s < 2 → all f (entries s) ≡ w → true ≡ w
  unfolding all
  all_done h inv = rw (entries_done s h) at inv

-- an entry apart from every other
module _ (s : List ℕ) (w : Bool) (v k : ℕ) where
  pub apart_false : v ≡ get_or s 0 0 → 2 ≤ length s → all (apart (pair v k)) (entries s) ≡ w → false ≡ w
  unfolding all
  apart_false e h inv = rw (entries_more s h, eq-eqb v (get_or s 0 0) e) at inv

  pub apart_next : (v ≡ get_or s 0 0 → ⊥) → 2 ≤ length s → all (apart (pair v k)) (entries s) ≡ w → all (apart (pair v k)) (entries (behind s)) ≡ w
  unfolding all
  apart_next e h inv = rw (entries_more s h, ne_eqb v (get_or s 0 0) e) at inv

module _ (s : List ℕ) (w : Bool) where
  -- each entry apart from every later one
  pub twice_false : (b : Bool) → b ≡ all (apart (here s)) (entries (behind s)) → b ≡ false → 2 ≤ length s → pairwise apart (entries s) ≡ w → false ≡ w
  unfolding pairwise
  twice_false b e n h inv = rw (entries_more s h, ← e, n) at inv

  pub twice_next : (b : Bool) → b ≡ all (apart (here s)) (entries (behind s)) → b ≡ true → 2 ≤ length s → pairwise apart (entries s) ≡ w
      → pairwise apart (entries (behind s)) ≡ w
  unfolding pairwise
  twice_next b e n h inv = rw (entries_more s h, ← e, n) at inv

  pub twice_done : length s < 2 → pairwise apart (entries s) ≡ w → true ≡ w
  unfolding pairwise
  twice_done h inv = rw (entries_done s h) at inv

-- ---- once round the star

-- the kind of the first of some entries
pub kind_first : (s : List ℕ) (n : ℕ) → 2 ≤ length s → get_or s 1 0 ≡ (get_or (entries s) 0 (pair 0 n)).kind
kind_first s n h = rw (entries_more s h)

-- where there is none, the kind that stands in for it
pub kind_none : (s : List ℕ) (n : ℕ) → length s < 2 → n ≡ (get_or (entries s) 0 (pair 0 n)).kind
kind_none s n h = rw (entries_done s h)

-- so many changes, and those of the links that are left
unfoldable pub changes_left : ℕ → List Link → ℕ
changes_left m ls = cond (all goes_on ls) (m + length (keep changes ls)) 0

-- the test and the change of a link go by its kinds alone
by_kinds : (d e : Entry) (k n : ℕ) → k ≡ d.kind → n ≡ e.kind
    → (goes_on (record { this = d; next = e }) ≡ goes_on (kinds_link k n)) × (changes (record { this = d; next = e }) ≡ changes (kinds_link k n))
unfolding goes_on changes
by_kinds d e k n x y = (rw (x, y), rw (x, y))

-- where the first link goes on as it may, it is counted if its kind changes, and the others are left
left_more : (m : ℕ) (l : Link) (ls : List Link) → goes_on l ≡ true → changes_left m (l ∷ ls) ≡ changes_left (m + bit (changes l)) ls
unfolding changes_left all
left_more m l ls g = rw g (go (all goes_on ls))
  where
    go : (b : Bool) → cond b (m + length (keep changes (l ∷ ls))) 0 ≡ cond b (m + bit (changes l) + length (keep changes ls)) 0
    go true = let e = count_cons changes l ls in omega (arith, e)
    go false = refl

-- where the first link does not go on as it may, the count is 0
left_none : (m : ℕ) (l : Link) (ls : List Link) → goes_on l ≡ false → changes_left m (l ∷ ls) ≡ 0
unfolding changes_left all
left_none m l ls g = rw g

-- an entry that stands in for the first goes by its kind alone
kind_for : (es : Star) (d : Entry) (f : ℕ) → f ≡ d.kind → (get_or es 0 (pair 0 f)).kind ≡ (get_or es 0 d).kind
kind_for [] d f e = e
kind_for (x ∷ es) d f e = refl

-- the changes, an entry at a time: those passed, and those left on the way back to an entry, are those of the whole
module _ (a : Entry) (s : List ℕ) (m w : ℕ) (inv : changes_left m (links_to a (entries s)) ≡ w) where
  pub round_done : length s < 2 → m ≡ w
  unfolding changes_left links_to all keep
  round_done h = rw (entries_done s h, add-zero) at inv

  module _ (h : 2 ≤ length s) (f n : ℕ) (ef : f ≡ a.kind) (en : n ≡ (get_or (entries (behind s)) 0 (pair 0 f)).kind)
      (b : Bool) (eb : b ≡ goes_on (kinds_link (get_or s 1 0) n)) where
    -- the entry behind the one here, the first behind the last
    abbrev next : Entry
    next = get_or (entries (behind s)) 0 a

    -- the links from here on
    more : links_to a (entries s) ≡ record { this = here s; next = next } ∷ links_to a (entries (behind s))
    unfolding links_to
    more = rw (entries_more s h)

    -- what is asked of the entry here and the one behind it goes by their two kinds alone
    same : (goes_on (record { this = here s; next = next }) ≡ goes_on (kinds_link (get_or s 1 0) n))
        × (changes (record { this = here s; next = next }) ≡ changes (kinds_link (get_or s 1 0) n))
    same = by_kinds (here s) next (get_or s 1 0) n refl (en ∙ kind_for (entries (behind s)) a f ef)

    pub round_broken : b ≡ false → 0 ≡ w
    round_broken x = sym (left_none m _ _ (same.0 ∙ sym eb ∙ x)) ∙ (rw more at inv)

    pub round_more : (x : ℕ) → b ≡ true → x ≡ bit (changes (kinds_link (get_or s 1 0) n)) → changes_left (m + x) (links_to a (entries (behind s))) ≡ w
    round_more x y ex =
        let g : goes_on (record { this = here s; next = next }) ≡ true = same.0 ∙ sym eb ∙ y in
        let c : bit (changes (record { this = here s; next = next })) ≡ x = ap bit same.1 ∙ sym ex in
        rw (← c) (sym (left_more m (record { this = here s; next = next }) (links_to a (entries (behind s))) g) ∙ (rw more at inv))

-- the changes left from the first entry on, none counted yet, are those of once round the star
pub round_first : (s : List ℕ) → changes_left 0 (links_to (get_or (entries s) 0 (pair 0 0)) (entries s)) ≡ changes_in (links (entries s))
unfolding changes_left changes_in
round_first s = rw (round_links (entries s), zero-add (length (keep changes (links_to (get_or (entries s) 0 (pair 0 0)) (entries s)))))
  where
    round_links : (es : Star) → links es ≡ links_to (get_or es 0 (pair 0 0)) es
    round_links [] = unfold links links_to in refl
    round_links (e ∷ es) = unfold links in refl

-- `star_ok` from its tests
module _ (s : Star) (m : ℕ) (em : m ≡ changes_in (links s)) where
  -- a star whose kind does not change exactly four times, each time to the next, does not pass test 5
  pub star_changes : (m ≡ 4 → ⊥) → false ≡ star_ok s
  unfolding star_ok changes_in
  star_changes d = go (all goes_on (links s)) em
    where
      go : (b : Bool) → m ≡ cond b (length (keep changes (links s))) 0 → false ≡ (b && eqb (length (keep changes (links s))) 4 && pairwise apart s)
      go true e = rw (← e, ne_eqb m 4 d)
      go false e = refl

  -- a star whose kind changes four times, each time to the next, passes test 5 exactly if no neighbour stands twice
  pub star_twice : (r : Bool) → m ≡ 4 → r ≡ pairwise apart s → r ≡ star_ok s
  unfolding star_ok changes_in
  star_twice r e f = go (all goes_on (links s)) em
    where
      go : (b : Bool) → m ≡ cond b (length (keep changes (links s))) 0 → r ≡ (b && eqb (length (keep changes (links s))) 4 && pairwise apart s)
      go true g = rw (← g, eq-eqb m 4 e, ← f)
      go false g = let z : ◌≡◌ {A = ℕ} 0 4 = sym g ∙ e in absurd (omega arith)
