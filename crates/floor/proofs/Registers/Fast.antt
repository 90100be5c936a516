-- The register of a held plan, the fast way: its room sides in any order by line and beginning, merged. Assumes nothing.
use Prim.Native.Nat.{ℕ, zero, suc, ◌+◌, ◌<◌}
use Rattle.std.specs.Prelude.{◌≡◌, Bool, cond, not, ◌&&◌, length, leb, ltb}
use Rattle.std.proofs.Math.Path.{refl, sym, ap}
use Rattle.std.proofs.Common.{◌∙◌, arith, leb-true, ltb-true, le-leb, lt-ltb}
use Rattle.std.proofs.Math.Bool.{true, false}
use mathlib.Core.List.{List, [], ◌∷◌, ◌++◌, map, Memᴰ}
use Rattle.floor.specs.Lists.{keep, pairwise, up_from}
use Rattle.floor.specs.Lists.Laws.{count}
use Rattle.floor.proofs.Lists.Laws.{no_false, and_parts, and_both, any_count, count_none, none_count}
use Rattle.floor.specs.Jobs.{Job}
use Rattle.floor.specs.Jobs.Facts.{Passes}
use Rattle.floor.specs.Plans.{Plan}
use Rattle.floor.specs.Floor.{GoodPlan}
use Rattle.floor.specs.Registers.{joins, Stretch, wide_of, long_of, room_sides, built, starts, end_from, between, partition, walls_on, walls_of, register_of}
use Rattle.floor.specs.Registers.{register}
use Rattle.floor.proofs.Registers.Runs.{Seen}
use Rattle.floor.proofs.Floor.Inner.{Thin}
use Rattle.floor.proofs.Registers.Floors.{view_of}
use Rattle.floor.proofs.Registers.Right.{side_lies, lies_inside, upright_seen, level_seen}
use Rattle.floor.specs.Registers.Merge.{in_line, merged}
use Rattle.floor.proofs.Registers.Merge.{Rearranged, Fit, merged_walls}

-- IN WHATEVER ORDER the sides come, they make the same walls
module _ (S M : List Stretch) (e : Rearranged S M) where
  -- a unit is built of the one list exactly if of the other
  same_built : (x c : ℕ) → built S x c ≡ built M x c
  unfolding built
  same_built x c = any_count _ S ∙ ap (leb 1) (e _) ∙ sym (any_count _ M)

  -- a wall of the one list begins at a place exactly if one of the other does
  same_starts : (x b : ℕ) → starts S x b ≡ starts M x b
  unfolding starts
  same_starts x zero = same_built x 0
  same_starts x (suc b) = rw (same_built x (suc b), same_built x b) refl

  -- a wall that goes on from b ends at the same place in both lists
  same_end : (x m b : ℕ) → end_from S x m b ≡ end_from M x m b
  unfolding end_from
  same_end x zero b = refl
  same_end x (suc m) b = rw (same_built x b, same_end x m (suc b)) refl

  -- the wall on line x that begins at b has the same entry from both lists
  same_partition : (d long x b : ℕ) → partition d S long x b ≡ partition d M long x b
  unfolding partition
  same_partition d long x b = rw (same_end x long b, e (between x b (end_from M x long b))) refl

  -- the walls on line x that begin at some places are the same from both lists
  same_on : (d long x : ℕ) (bs : List ℕ) → map (partition d S long x) (keep (starts S x) bs) ≡ map (partition d M long x) (keep (starts M x) bs)
  unfolding keep
  same_on d long x [] = refl
  same_on d long x (b ∷ bs) = rw (same_starts x b) (go (starts M x b) (same_on d long x bs))
    where
      go : (t : Bool) → map (partition d S long x) (keep (starts S x) bs) ≡ map (partition d M long x) (keep (starts M x) bs)
          → map (partition d S long x) (cond t (b ∷ keep (starts S x) bs) (keep (starts S x) bs))
          ≡ map (partition d M long x) (cond t (b ∷ keep (starts M x) bs) (keep (starts M x) bs))
      go true h = rw (same_partition d long x b, h) refl
      go false h = h

  -- the walls on some lines are the same from both lists
  pub same_walls : (d long : ℕ) (xs : List ℕ) → walls_of d S long xs ≡ walls_of d M long xs
  unfolding walls_of walls_on
  same_walls d long [] = refl
  same_walls d long (x ∷ xs) = rw (same_on d long x (up_from 0 long), same_walls d long xs) refl

-- a side has a length and lies on a sheet with so many lines, so long, as a test
fits : ℕ → ℕ → Stretch → Bool
fits long wide s = ltb s.begins s.ends && leb s.ends long && ltb s.line wide

-- a side that passes the test lies on the sheet
fit_of : (long wide : ℕ) (s : Stretch) → fits long wide s ≡ true → Fit long wide s
unfolding fits
fit_of long wide s h =
    let (ab, c) = and_parts (ltb s.begins s.ends && leb s.ends long) (ltb s.line wide) h in
    let (a, b) = and_parts (ltb s.begins s.ends) (leb s.ends long) ab in
    record { some = ltb-true s.begins s.ends a; in_long = leb-true s.ends long b; in_wide = ltb-true s.line wide c }

-- a side that lies on the sheet passes the test
of_fit : (long wide : ℕ) (s : Stretch) → Fit long wide s → fits long wide s ≡ true
unfolding fits
of_fit long wide s f =
    and_both _ _ (and_both _ _ (lt-ltb s.begins s.ends f.some) (le-leb s.ends long f.in_long)) (lt-ltb s.line wide f.in_wide)

-- where the negation of a test is false, the test is true
not_false : (b : Bool) → not b ≡ false → b ≡ true
not_false true e = refl
not_false false e = no_false (sym e)

-- where a test is true, its negation is false
not_true : (b : Bool) → b ≡ true → not b ≡ false
not_true true e = refl
not_true false e = no_false e

-- what fits, fits in whatever order
pub rearranged_fit : (long wide : ℕ) (S M : List Stretch) → Rearranged S M → ((s : Stretch) → Memᴰ s S → Fit long wide s)
    → (s : Stretch) → Memᴰ s M → Fit long wide s
rearranged_fit long wide S M e f s m =
    let z : count (λ t. not (fits long wide t)) S ≡ 0 = none_count (λ t. not (fits long wide t)) S
    (λ t i. not_true (fits long wide t) (of_fit long wide t (f t i))) in
    fit_of long wide s (not_false (fits long wide s) (count_none (λ t. not (fits long wide t)) M s m (sym (e (λ t. not (fits long wide t))) ∙ z)))

-- THE REGISTER OF A HELD PLAN: its room sides in order, merged
module _ (j : Job) (ok : Passes j) (some_room : 0 < length j) (p : Plan) (gp : GoodPlan j p) (thin : Thin p) where
  -- every room side of the plan lies on its sheet
  side_fit : (d : ℕ) → Seen (view_of (length j + 4) d p) (joins d j) → (s : Stretch) → Memᴰ s (room_sides d p) → Fit (long_of d p) (wide_of d p) s
  side_fit d f s m =
      let (n, l) = side_lies d j p gp.floor.complete f s m in
      let (a1, a2, a3, a4, a5) = lies_inside d j p gp.floor.complete f n s l in
      record { some = a4; in_long = omega arith; in_wide = a2 }

  -- the room sides of one direction, in whatever order by line and beginning, merged, are its register
  merged_is : (d : ℕ) → Seen (view_of (length j + 4) d p) (joins d j) → (M : List Stretch) → Rearranged (room_sides d p) M
      → pairwise in_line M ≡ true → merged d M ≡ register_of d p
  unfolding register_of
  merged_is d f M e o =
      merged_walls d (long_of d p) (wide_of d p) M (rearranged_fit (long_of d p) (wide_of d p) (room_sides d p) M e (side_fit d f)) o
      ∙ sym (same_walls (room_sides d p) M e d (long_of d p) (up_from 0 (wide_of d p)))

  -- the upright sides and the level ones, each in order
  pub merged_register : (U L : List Stretch) → Rearranged (room_sides 0 p) U → pairwise in_line U ≡ true → Rearranged (room_sides 1 p) L
      → pairwise in_line L ≡ true → merged 0 U ++ merged 1 L ≡ register p
  unfolding register
  merged_register U L e o g q =
      rw (merged_is 0 (upright_seen j ok some_room p gp thin) U e o, merged_is 1 (level_seen j ok some_room p gp thin) L g q) refl
