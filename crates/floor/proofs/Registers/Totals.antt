-- How many: every room side lies on exactly one wall of the register, so their numbers add up to four for each room. Assumes nothing.
use Rattle.std.specs.Prelude.{ℕ, ◌+◌, ◌*◌, ◌≤◌, ◌<◌, ◌≡◌, Bool, true, false, length, drop}
use Rattle.std.proofs.Math.Path.{refl, sym}
use Rattle.std.proofs.Common.{ap, ◌∙◌}
use mathlib.Core.List.{List, [], ◌∷◌, ◌++◌, map, Memᴰ}
use native.Mathlib.Omega.{arith}
use Rattle.std.proofs.Math.ListN.{length-append}
use Rattle.floor.specs.Lists.{all, pairwise, sum, up_from}
use Rattle.floor.specs.Lists.Laws.{bit, count}
use Rattle.floor.proofs.Lists.Laws.{no_false, and_parts, count_nil, count_cons, none_count, mem_count, all_mem}
use Rattle.floor.specs.Jobs.{Job}
use Rattle.floor.specs.Jobs.Facts.{Passes}
use Rattle.floor.specs.Walls.{here}
use Rattle.floor.specs.Plans.{Rect, Plan}
use Rattle.floor.specs.Floor.{Complete, GoodPlan}
use Rattle.floor.specs.Registers.{Stretch, wide_of, long_of, Partition, earlier, Lies, WallOf, sides_in, room_sides, starts, between, partition, register_of}
use Rattle.floor.specs.Registers.{register, joins}
use Rattle.floor.proofs.Registers.Runs.{Seen}
use Rattle.floor.proofs.Floor.Inner.{Thin}
use Rattle.floor.proofs.Registers.Floors.{view_of}
use Rattle.floor.proofs.Registers.Right.{side_lies, lies_mem, walls_mem, lines_order, wall_of, each_of, every_of, rooms_count, upright_seen, level_seen}
use Rattle.floor.proofs.Registers.Lines.{of_between}
use Rattle.floor.proofs.Registers.Unique.{never_both, wall_one}

-- COUNTED TWICE: pairs that pass, by the one list and by the other
module _ {A B : Type 0} (t : A → B → Bool) where
  -- with nothing in the one list, no pair passes
  sum_none : (ys : List B) → sum (map (λ y. count (λ x. t x y) []) ys) ≡ 0
  unfolding sum
  sum_none [] = refl
  sum_none (y ∷ ys) = omega (arith, count_nil (λ x. t x y), sum_none ys)

  -- one more member of the one list adds as many pairs as there are members of the other that pass with it
  sum_more : (x : A) (xs : List A) (ys : List B) → sum (map (λ y. count (λ z. t z y) (x ∷ xs)) ys) ≡ count (t x) ys + sum (map (λ y. count (λ z. t z y) xs) ys)
  unfolding sum
  sum_more x xs [] = omega (arith, count_nil (t x))
  sum_more x xs (y ∷ ys) = omega (arith, count_cons (λ z. t z y) x xs, count_cons (t x) y ys, sum_more x xs ys)

  -- there are as many pairs that pass counted by the one list as by the other
  pub counted_twice : (xs : List A) (ys : List B) → sum (map (λ x. count (t x) ys) xs) ≡ sum (map (λ y. count (λ x. t x y) xs) ys)
  unfolding sum
  counted_twice [] ys = sym (sum_none ys)
  counted_twice (x ∷ xs) ys = omega (arith, sum_more x xs ys, counted_twice xs ys)

-- numbers that agree at each member of a list have the same sum
pub sum_same : {A : Type 0} (f g : A → ℕ) (xs : List A) → ((x : A) → Memᴰ x xs → f x ≡ g x) → sum (map f xs) ≡ sum (map g xs)
unfolding sum
sum_same f g [] h = refl
sum_same f g (x ∷ xs) h = omega (arith, h x (Memᴰ.head refl), sum_same f g xs (λ y m. h y (Memᴰ.tail m)))

-- where the number is 1 at each member, the sum is the length of the list
pub sum_ones : {A : Type 0} (f : A → ℕ) (xs : List A) → ((x : A) → Memᴰ x xs → f x ≡ 1) → sum (map f xs) ≡ length xs
unfolding sum
sum_ones f [] h = refl
sum_ones f (x ∷ xs) h = omega (arith, h x (Memᴰ.head refl), sum_ones f xs (λ y m. h y (Memᴰ.tail m)))

-- over two lists one behind the other, the sum is that of the two together
pub sum_append : {A : Type 0} (f : A → ℕ) (xs ys : List A) → sum (map f (xs ++ ys)) ≡ sum (map f xs) + sum (map f ys)
unfolding sum
sum_append f [] ys = omega arith
sum_append f (x ∷ xs) ys = omega (arith, sum_append f xs ys)

-- in a list in strict order, one member passes where all that pass are one
pub count_one : {A : Type 0} (r : A → A → Bool) → ((x y : A) → r x y ≡ true → r y x ≡ true → ⊥) → (p : A → Bool) (xs : List A) → pairwise r xs ≡ true
    → (x : A) → Memᴰ x xs → p x ≡ true → ((y : A) → Memᴰ y xs → p y ≡ true → y ≡ x) → count p xs ≡ 1
unfolding pairwise
count_one {A = A} r asym p [] o x m e one = elim m [ ]
count_one r asym p (y ∷ xs) o x m e one = go (p y) refl m (count_one r asym p xs (and_parts (all (r y) xs) (pairwise r xs) o).1 x)
  where
    after : (z : _) → Memᴰ z xs → r y z ≡ true
    after = all_mem (r y) xs (and_parts (all (r y) xs) (pairwise r xs) o).0

    go : (b : Bool) → p y ≡ b → Memᴰ x (y ∷ xs)
        → (Memᴰ x xs → p x ≡ true → ((z : _) → Memᴰ z xs → p z ≡ true → z ≡ x) → count p xs ≡ 1) → count p (y ∷ xs) ≡ 1
    go false q (Memᴰ.head k) below = no_false (sym q ∙ ap p (sym k) ∙ e)
    go false q (Memᴰ.tail k) below =
        omega (arith, count_cons p y xs, ap bit q, below k e (λ z i h. one z (Memᴰ.tail i) h))
    go true q k below = omega (arith, count_cons p y xs, ap bit q, none_count p xs none)
      where
        same : y ≡ x
        same = one y (Memᴰ.head refl) q

        none : (z : _) → Memᴰ z xs → p z ≡ false
        none z i = two (p z) refl
          where
            two : (b : Bool) → p z ≡ b → p z ≡ false
            two false h = h
            two true h =
                let c : z ≡ y = one z (Memᴰ.tail i) h ∙ sym same in
                let s : r y y ≡ true = rw c at (after z i) in
                absurd (asym y y s s)

-- how many sides some rooms have
sides_length : (d : ℕ) (rs : List Rect) → length (sides_in d rs) ≡ 2 * length rs
unfolding sides_in
sides_length d [] = refl
sides_length d (r ∷ rs) = omega (arith, sides_length d rs)

-- a side lies on a wall of the register
abbrev pub on_it : Partition → Stretch → Bool
on_it w s = between w.number w.begins w.ends s

-- ONE DIRECTION
module _ (d : ℕ) (j : Job) (p : Plan) (cm : Complete j p) (f : Seen (view_of (length j + 4) d p) (joins d j)) where
  -- the sides of the rooms in direction d
  abbrev S : List Stretch
  S = room_sides d p

  -- the register in direction d
  abbrev R : List Partition
  R = register_of d p

  -- the walls of the register stand in order
  in_order_lem : pairwise earlier R ≡ true
  unfolding register_of
  in_order_lem = lines_order d S (long_of d p) 0 (wide_of d p)

  -- a room side lies on its own wall
  wall_holds : (s : ℕ) (q : Stretch) → Lies d j p s q → (y : Partition) → WallOf d j p s y → on_it y q ≡ true
  wall_holds s q l y k =
      let (a, b, c) = k.within s q l here in
      of_between y.number y.begins y.ends q a b c

  -- EVERY ROOM SIDE LIES ON EXACTLY ONE WALL
  pub one_wall : (q : Stretch) → Memᴰ q S → count (λ w. on_it w q) R ≡ 1
  one_wall q m =
      let (s, l) = side_lies d j p cm f q m in
      let (y, i, k) = every_of d j p cm f s q l in
      count_one earlier never_both (λ w. on_it w q) R in_order_lem y i (wall_holds s q l y k) (λ z n e. only s l y k z e (found z n))
    where
      found : (z : Partition) → Memᴰ z R → (x : ℕ) × (b : ℕ) × (starts S x b ≡ true) × (z ≡ partition d S (long_of d p) x b)
      found z n = unfold register_of in (let (x, b, i, t, l, e) = walls_mem d S (long_of d p) (up_from 0 (wide_of d p)) z n in (x, b, t, e))

      only : (s : ℕ) → Lies d j p s q → (y : Partition) → WallOf d j p s y → (z : Partition) → on_it z q ≡ true
          → (x : ℕ) × (b : ℕ) × (starts S x b ≡ true) × (z ≡ partition d S (long_of d p) x b) → z ≡ y
      only s l y k z e (x, b, t, g) =
          g ∙ wall_one d j p s (partition d S (long_of d p) x b) y (wall_of d j p cm f x b t s q l (unfold partition in (rw g at e))) k

  -- an entry counts the room sides that lie on its wall
  sides_are : (w : Partition) → Memᴰ w R → w.sides ≡ count (on_it w) S
  unfolding register_of
  sides_are w m = let (x, b, i, t, l, e) = walls_mem d S (long_of d p) (up_from 0 (wide_of d p)) w m in go x b e
    where
      go : (x b : ℕ) → w ≡ partition d S (long_of d p) x b → w.sides ≡ count (on_it w) S
      go x b e = rw e (unfold partition in refl)

  -- TWO FOR EACH ROOM
  pub sides_sum : sum (map (λ w. w.sides) R) ≡ 2 * length j
  unfolding room_sides
  sides_sum =
      omega (
        arith,
        sum_same (λ w. w.sides) (λ w. count (on_it w) S) R sides_are,
        counted_twice on_it R S,
        sum_ones (λ q. count (λ w. on_it w q) R) S one_wall,
        sides_length d (drop 4 p.rects),
        rooms_count d j p cm f,
      )

  -- and no wall without a side
  pub some_side : (w : Partition) → Memᴰ w R → 1 ≤ w.sides
  some_side w m =
      let (a, x) = each_of d j p cm f w m in
      let (s, q, l, k) = x in
      omega (arith, sides_are w m, mem_count (on_it w) S q (lies_mem d j p cm f s q l) (wall_holds s q l w k))

-- where the number is at least 1 at each member, the sum is at least the length of the list
sum_least : {A : Type 0} (f : A → ℕ) (xs : List A) → ((x : A) → Memᴰ x xs → 1 ≤ f x) → length xs ≤ sum (map f xs)
unfolding sum
sum_least f [] h = omega arith
sum_least f (x ∷ xs) h = omega (arith, h x (Memᴰ.head refl), sum_least f xs (λ y m. h y (Memᴰ.tail m)))

-- OF A HELD PLAN
module _ (j : Job) (ok : Passes j) (some_room : 0 < length j) (p : Plan) (gp : GoodPlan j p) (thin : Thin p) where
  -- FOUR ROOM SIDES FOR EACH ROOM
  pub sides_total : sum (map (λ w. w.sides) (register p)) ≡ 4 * length j
  unfolding register
  sides_total =
      omega (
        arith,
        sum_append (λ (w : Partition). w.sides) (register_of 0 p) (register_of 1 p),
        sides_sum 0 j p gp.floor.complete (upright_seen j ok some_room p gp thin),
        sides_sum 1 j p gp.floor.complete (level_seen j ok some_room p gp thin),
      )

  -- so no more walls than that
  pub walls_most : length (register p) ≤ 4 * length j
  unfolding register
  walls_most =
      omega (
        arith,
        length-append (register_of 0 p) (register_of 1 p),
        sides_sum 0 j p gp.floor.complete (upright_seen j ok some_room p gp thin),
        sides_sum 1 j p gp.floor.complete (level_seen j ok some_room p gp thin),
        sum_least (λ (w : Partition). w.sides) (register_of 0 p) (some_side 0 j p gp.floor.complete (upright_seen j ok some_room p gp thin)),
        sum_least (λ (w : Partition). w.sides) (register_of 1 p) (some_side 1 j p gp.floor.complete (level_seen j ok some_room p gp thin)),
      )
