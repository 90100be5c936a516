-- Once round each star, from neighbour to neighbour, as code walks it: on rectangles inside the sheet this gives the answer of the local test side by side.
-- Assumes nothing.
use Prim.Native.Nat.{ℕ, zero, suc, ◌+◌, ◌-◌, ◌≤◌, ◌<◌}
use Rattle.std.specs.Prelude.{◌≡◌, true, false, ◌&&◌, length, get_or, ltb}
use Rattle.std.proofs.Math.Path.{refl, ap}
use Rattle.std.proofs.Common.{sym, ◌∙◌}
use Rattle.std.proofs.Math.Bool.{Bool, cond}
use mathlib.Core.List.{List, [], ◌∷◌, ◌++◌, map, Memᴰ}
use Rattle.std.proofs.Math.Dec.{eqb}
use native.Mathlib.Omega.{arith}
use borrow.Author.Tests.{eqb-true, ltb-true, eq-eqb, ne_eqb, lt-ltb}
use Rattle.floor.specs.Lists.{all, keep, up_from}
use Rattle.floor.specs.Lists.Laws.{bit}
use Rattle.floor.proofs.Lists.Laws.{same_test, count_cons, keep_mem}
use Rattle.floor.specs.Jobs.{Entry, Star, Link, links_to, links, changes, Job, Vertex, rooms, star_of, list_of}
use Rattle.floor.proofs.Jobs.Round.{restart_back, restart_mem, links_append, links_all}
use Rattle.floor.specs.Jobs.Stars.{AtLeast, Sorted, GoodStar}
use Rattle.floor.proofs.Jobs.Stars.{least_down, small_mem}
use Rattle.floor.proofs.Jobs.Straight.{straight, straight_restarts, straight_has, straight_sorted}
use Rattle.floor.specs.Jobs.Facts.{Passes}
use Rattle.floor.proofs.Jobs.Facts.{star_at}
use Rattle.floor.specs.Plans.{Plan, rect_of}
use Rattle.floor.specs.Floor.{Inside}
use Rattle.floor.proofs.Floor.Sides.{Side, up, left, down, right, next, prev, room, size}
use Rattle.floor.proofs.Floor.Read.{num, piece, number_piece, few_sides, stars_of, entry_ok}
use Rattle.floor.proofs.Floor.Placed.{reach, place_of}
use Rattle.floor.proofs.Floor.Area.{total, total_front}
use Rattle.floor.proofs.Floor.Near.{abuts, turned, at_first, at_last, side_ok, sides, is_base, near}
use Rattle.floor.specs.Foreign.{abut_on, corner_on, step_on, star_round, in_corner, one_in_corner}

-- once round every room, and one room in the corner
unfoldable pub rings : Job → Plan → Bool
rings j p = all (star_round j p) (rooms j) && one_in_corner j

-- a test as a number
bit_cond : (b : Bool) → bit b ≡ cond b 1 0
bit_cond true = refl
bit_cond false = refl

-- the rooms in the corner, counted along the stars and by their places
corner_total : (j : Job) → length (keep in_corner j) ≡ total (length j) (λ i. cond (is_base j i) 1 0)
unfolding total is_base in_corner
corner_total [] = unfold keep in refl
corner_total (s ∷ j) =
    count_cons in_corner s j ∙ rw (bit_cond (in_corner s), corner_total j) (sym (total_front (length j) (λ i. cond (is_base (s ∷ j) i) 1 0)))

-- tests of numbers measured from the other edge
eqb_flip : (w a b : ℕ) → a ≤ w → b ≤ w → eqb (w - a) (w - b) ≡ eqb a b
eqb_flip w a b x y = same_test _ _ (λ e. eq-eqb a b (omega (arith, eqb-true (w - a) (w - b) e))) (λ e. eq-eqb (w - a) (w - b) (omega (arith, eqb-true a b e)))

-- so measured, the smaller is the larger
ltb_flip : (w a b : ℕ) → a ≤ w → b ≤ w → ltb (w - a) (w - b) ≡ ltb b a
ltb_flip w a b x y = same_test _ _ (λ e. lt-ltb b a (omega (arith, ltb-true (w - a) (w - b) e))) (λ e. lt-ltb (w - a) (w - b) (omega (arith, ltb-true b a e)))

-- one measured from the other edge, the other from this: they meet
eqb_low : (w a b : ℕ) → a ≤ w → eqb (w - a + b) w ≡ eqb b a
eqb_low w a b x = same_test _ _ (λ e. eq-eqb b a (omega (arith, eqb-true (w - a + b) w e))) (λ e. eq-eqb (w - a + b) w (omega (arith, eqb-true b a e)))

-- the same with their parts exchanged
eqb_high : (w a b : ℕ) → b ≤ w → eqb (a + (w - b)) w ≡ eqb a b
eqb_high w a b x = same_test _ _ (λ e. eq-eqb a b (omega (arith, eqb-true (a + (w - b)) w e))) (λ e. eq-eqb (a + (w - b)) w (omega (arith, eqb-true a b e)))

-- ONE STEP, on one side and at a corner
module _ (j : Job) (p : Plan) (ins : (v : ℕ) → Vertex j v → Inside p (rect_of p v)) where
  -- a rectangle starts within the width of the sheet
  in_x : (v : ℕ) → Vertex j v → (rect_of p v).x1 ≤ p.width
  in_x v h = omega (arith, (ins v h).wide, (ins v h).in_width)

  -- a rectangle starts within the height of the sheet
  in_y : (v : ℕ) → Vertex j v → (rect_of p v).y1 ≤ p.height
  in_y v h = omega (arith, (ins v h).tall, (ins v h).in_height)

  -- end to end on one side, in places counted from the opposite edge
  abut_at : (k : Side) (a b : ℕ) → Vertex j a → Vertex j b
      → abut_on (num k) (rect_of p a) (rect_of p b) ≡ eqb ((place_of p).at (next k) (piece a) + (place_of p).at (prev k) (piece b)) (size (place_of p) (next k))
  unfolding place_of reach abut_on
  abut_at up a b ha hb = rw (number_piece a, number_piece b) (sym (eqb_low p.width (rect_of p a).x1 (rect_of p b).x2 (in_x a ha)))
  abut_at left a b ha hb = rw (number_piece a, number_piece b) (sym (eqb_low p.height (rect_of p a).y1 (rect_of p b).y2 (in_y a ha)))
  abut_at down a b ha hb = rw (number_piece a, number_piece b) (sym (eqb_high p.width (rect_of p a).x2 (rect_of p b).x1 (in_x b hb)))
  abut_at right a b ha hb = rw (number_piece a, number_piece b) (sym (eqb_high p.height (rect_of p a).y2 (rect_of p b).y1 (in_y b hb)))

  -- round a corner, in the same places
  corner_at : (k : Side) (i a b : ℕ) → i < length j → Vertex j a → Vertex j b
      → corner_on (num k) (rect_of p (4 + i)) (rect_of p a) (rect_of p b) ≡ turned (place_of p) k (room i) (piece a) (piece b)
  unfolding place_of reach corner_on turned
  corner_at up i a b h ha hb =
      rw (
        number_piece a,
        number_piece b,
        eqb_flip p.width (rect_of p a).x1 (rect_of p (4 + i)).x1 (in_x a ha) (in_x (4 + i) (omega arith)),
        ltb_flip p.width (rect_of p (4 + i)).x1 (rect_of p a).x1 (in_x (4 + i) (omega arith)) (in_x a ha),
      )
  corner_at left i a b h ha hb =
      rw (
        number_piece a,
        number_piece b,
        eqb_flip p.height (rect_of p a).y1 (rect_of p (4 + i)).y1 (in_y a ha) (in_y (4 + i) (omega arith)),
        ltb_flip p.height (rect_of p (4 + i)).y1 (rect_of p a).y1 (in_y (4 + i) (omega arith)) (in_y a ha),
        eqb_flip p.width (rect_of p b).x1 (rect_of p (4 + i)).x1 (in_x b hb) (in_x (4 + i) (omega arith)),
        ltb_flip p.width (rect_of p (4 + i)).x1 (rect_of p b).x1 (in_x (4 + i) (omega arith)) (in_x b hb),
      )
  corner_at down i a b h ha hb =
      rw (
        number_piece a,
        number_piece b,
        eqb_flip p.height (rect_of p b).y1 (rect_of p (4 + i)).y1 (in_y b hb) (in_y (4 + i) (omega arith)),
        ltb_flip p.height (rect_of p (4 + i)).y1 (rect_of p b).y1 (in_y (4 + i) (omega arith)) (in_y b hb),
      )
  corner_at right i a b h ha hb = rw (number_piece a, number_piece b)

-- tests in a row
and_assoc : (a b c : Bool) → (a && (b && c)) ≡ ((a && b) && c)
and_assoc true b c = refl
and_assoc false b c = refl

-- a test that is passed may be left out at the end
and_true : (a : Bool) → (a && true) ≡ a
and_true true = refl
and_true false = refl

-- one list behind another passes where both do
all_append : (f : Link → Bool) (s t : List Link) → all f (s ++ t) ≡ (all f s && all f t)
unfolding all
all_append f [] t = refl
all_append f (l ∷ s) t = ap (λ (b : Bool). f l && b) (all_append f s t) ∙ and_assoc (f l) (all f s) (all f t)

-- an entry, and the one that follows it
abbrev link : Entry → Entry → Link
link d e = record { this = d; next = e }

-- a star's entries of one kind
abbrev part : ℕ → Star → Star
part k s = keep (λ e. eqb e.kind k) s

-- an entry of the kind stands in the part,
part_yes : (k : ℕ) (e : Entry) (s : Star) → e.kind ≡ k → part k (e ∷ s) ≡ e ∷ part k s
unfolding keep
part_yes k e s q = rw (eq-eqb e.kind k q)

-- one of another kind does not,
part_no : (k : ℕ) (e : Entry) (s : Star) → (e.kind ≡ k → ⊥) → part k (e ∷ s) ≡ part k s
unfolding keep
part_no k e s q = rw (ne_eqb e.kind k q)

-- and where all kinds are larger the part is empty
part_none : (k : ℕ) (s : Star) → AtLeast (suc k) s → part k s ≡ []
unfolding keep
part_none k [] h = refl
part_none k (e ∷ s) h = part_no k e s (λ q. omega (arith, h.0)) ∙ part_none k s h.1

-- A STAR IS ITS FOUR PARTS, one after the other
parts : (s : Star) → Sorted s → ((e : Entry) → Memᴰ e s → e.kind ≤ 3) → s ≡ part 0 s ++ (part 1 s ++ (part 2 s ++ part 3 s))
unfolding keep
parts [] o m = refl
parts (e ∷ s) o m = go e.kind refl (parts s o.1 (λ d n. m d (Memᴰ.tail n)))
  where
    least : (k : ℕ) → k ≤ e.kind → AtLeast k s
    least k h = least_down e.kind k s h o.0

    go : (k : ℕ) → e.kind ≡ k → s ≡ part 0 s ++ (part 1 s ++ (part 2 s ++ part 3 s))
        → e ∷ s ≡ part 0 (e ∷ s) ++ (part 1 (e ∷ s) ++ (part 2 (e ∷ s) ++ part 3 (e ∷ s)))
    go zero q below =
        rw (part_yes 0 e s q, part_no 1 e s (λ x. omega arith), part_no 2 e s (λ x. omega arith), part_no 3 e s (λ x. omega arith))
        (ap (λ (t : Star). e ∷ t) below)
    go (suc zero) q below =
        rw (
          part_no 0 e s (λ x. omega arith),
          part_yes 1 e s q,
          part_no 2 e s (λ x. omega arith),
          part_no 3 e s (λ x. omega arith),
          part_none 0 s (least 1 (omega arith)),
        )
        (ap (λ (t : Star). e ∷ t) (rw (part_none 0 s (least 1 (omega arith))) at below))
    go (suc (suc zero)) q below =
        rw (
          part_no 0 e s (λ x. omega arith),
          part_no 1 e s (λ x. omega arith),
          part_yes 2 e s q,
          part_no 3 e s (λ x. omega arith),
          part_none 0 s (least 1 (omega arith)),
          part_none 1 s (least 2 (omega arith)),
        )
        (ap (λ (t : Star). e ∷ t) (rw (part_none 0 s (least 1 (omega arith)), part_none 1 s (least 2 (omega arith))) at below))
    go (suc (suc (suc zero))) q below =
        rw (
          part_no 0 e s (λ x. omega arith),
          part_no 1 e s (λ x. omega arith),
          part_no 2 e s (λ x. omega arith),
          part_yes 3 e s q,
          part_none 0 s (least 1 (omega arith)),
          part_none 1 s (least 2 (omega arith)),
          part_none 2 s (least 3 (omega arith)),
        )
        (ap (λ (t : Star). e ∷ t)
        (rw (part_none 0 s (least 1 (omega arith)), part_none 1 s (least 2 (omega arith)), part_none 2 s (least 3 (omega arith))) at below))
    go (suc (suc (suc (suc k)))) q below = absurd (omega (arith, m e (Memᴰ.head refl)))

-- a side and the next have different kinds
next_differs : (k : Side) → eqb (num k) (num (next k)) ≡ false
next_differs up = refl
next_differs left = refl
next_differs down = refl
next_differs right = refl

module _ (j : Job) (ok : Passes j) (p : Plan) (ins : (v : ℕ) → Vertex j v → Inside p (rect_of p v)) where
  -- a step to an entry of the same side is one end to end
  step_same : (k : Side) (u : ℕ) (d e : Entry) → d.kind ≡ num k → e.kind ≡ num k
      → step_on p u (link d e) ≡ abut_on (num k) (rect_of p d.to) (rect_of p e.to)
  unfolding step_on changes
  step_same k u d e x y = rw (x, y, eq-eqb (num k) (num k) refl)

  -- a step to an entry of the next side is one round a corner
  step_next : (k : Side) (u : ℕ) (d e : Entry) → d.kind ≡ num k → e.kind ≡ num (next k)
      → step_on p u (link d e) ≡ corner_on (num k) (rect_of p u) (rect_of p d.to) (rect_of p e.to)
  unfolding step_on changes
  step_next k u d e x y = rw (x, y, next_differs k)

  -- an entry of one side
  abbrev On : Side → Entry → Type 0
  On k e = (e.kind ≡ num k) × Vertex j e.to

  -- ONE SIDE, and the corner at its end, where x is first on the next side
  walk_is : (k : Side) (i : ℕ) → i < length j → (x : Entry) → On (next k) x → (d : Entry) (A : Star) → ((e : Entry) → Memᴰ e (d ∷ A) → On k e)
      → all (step_on p (4 + i)) (links_to x (d ∷ A))
      ≡ (abuts (place_of p) k (map piece (map (λ e. e.to) (d ∷ A)))
      && at_last (λ a. turned (place_of p) k (room i) a (piece x.to)) (map piece (map (λ e. e.to) (d ∷ A))))
  unfolding all links_to abuts at_last
  walk_is k i h x (kx, vx) d [] on =
      let (kd, vd) = on d (Memᴰ.head refl) in
      and_true (step_on p (4 + i) (link d x)) ∙ step_next k (4 + i) d x kd kx ∙ corner_at j p ins k i d.to x.to h vd vx
  walk_is k i h x (kx, vx) d (e ∷ A) on =
      let (kd, vd) = on d (Memᴰ.head refl) in
      let (ke, ve) = on e (Memᴰ.tail (Memᴰ.head refl)) in
      rw (step_same k (4 + i) d e kd ke ∙ abut_at j p ins k d.to e.to vd ve, walk_is k i h x (kx, vx) e A (λ c m. on c (Memᴰ.tail m)))
      (and_assoc (eqb ((place_of p).at (next k) (piece d.to) + (place_of p).at (prev k) (piece e.to)) (size (place_of p) (next k)))
      (abuts (place_of p) k (map piece (map (λ e. e.to) (e ∷ A))))
      (at_last (λ a. turned (place_of p) k (room i) a (piece x.to)) (map piece (map (λ e. e.to) (e ∷ A)))))

  -- ONE ROOM
  module _ (i : ℕ) (h : i < length j) where
    -- its star
    abbrev s : Star
    s = get_or j i []

    -- its star is a good one
    good : GoodStar s
    good = rw (star_at j i) at (ok.good (4 + i) (omega arith, omega arith))

    -- the neighbours on side k, the first of them apart
    record Cut (k : Side) : Type 0 where
      d : Entry
      A : Star
      is : part (num k) (straight s) ≡ d ∷ A
      on : (e : Entry) → Memᴰ e (d ∷ A) → On k e

    -- each side has such a first neighbour
    cut : (k : Side) → Cut k
    cut k = go (part (num k) (straight s)) refl (straight_has s good (num k) (omega (arith, few_sides k)))
      where
        go : (l : Star) → part (num k) (straight s) ≡ l → 1 ≤ length (part (num k) (straight s)) → Cut k
        go [] e n = absurd (omega (arith, ap (λ (l : Star). length l) e))
        go (d ∷ A) e n = record {
          d = d;
          A = A;
          is = e;
          on = λ c m.
              let (x, y) = keep_mem (λ (e : Entry). eqb e.kind (num k)) (straight s) c (rw e m) in
              (eqb-true c.kind (num k) y, (entry_ok j ok i h c (restart_mem (restart_back (straight_restarts s)) x)).below);
        }

    -- what is asked of side k, and of the corner at its end
    abbrev asked : (k : Side) → Cut k → Cut (next k) → Bool
    asked k c n = all (step_on p (4 + i)) (links_to n.d (c.d ∷ c.A))

    -- the test of one side is once along it and round the corner at its end
    side_is : (k : Side) (c : Cut k) (n : Cut (next k)) → side_ok (stars_of j) (place_of p) i k ≡ asked k c n
    unfolding side_ok stars_of list_of at_first
    side_is k c n = rw (c.is, n.is) (sym (walk_is k i h n.d (n.on n.d (Memᴰ.head refl)) c.d c.A c.on))

    -- the four sides, one after the other
    ring_is : (a : Cut up) (b : Cut left) (c : Cut down) (d : Cut right)
        → all (step_on p (4 + i)) (links s) ≡ (asked up a b && (asked left b c && (asked down c d && asked right d a)))
    unfolding links links_to
    ring_is a b c d = links_all (straight_restarts s) f ∙ ap (λ (t : Star). all f (links t)) whole ∙ walked
      where
        f : Link → Bool
        f = step_on p (4 + i)

        A : Star
        A = a.d ∷ a.A

        B : Star
        B = b.d ∷ b.A

        C : Star
        C = c.d ∷ c.A

        D : Star
        D = d.d ∷ d.A

        whole : straight s ≡ A ++ (B ++ (C ++ D))
        whole =
            parts (straight s) (straight_sorted s good) (λ e m. small_mem s good e (restart_mem (restart_back (straight_restarts s)) m))
            ∙ rw (a.is, b.is, c.is, d.is)

        walked : all f (links_to a.d (A ++ (B ++ (C ++ D)))) ≡ (asked up a b && (asked left b c && (asked down c d && asked right d a)))
        walked =
            rw (
              links_append A (B ++ (C ++ D)) a.d,
              all_append f (links_to b.d A) (links_to a.d (B ++ (C ++ D))),
              links_append B (C ++ D) a.d,
              all_append f (links_to c.d B) (links_to a.d (C ++ D)),
              links_append C D a.d,
              all_append f (links_to d.d C) (links_to a.d D),
            )

    -- ONCE ROUND THE STAR IS SIDE BY SIDE
    ring_sides : all (step_on p (4 + i)) (links s) ≡ all (side_ok (stars_of j) (place_of p) i) sides
    ring_sides =
        ring_is (cut up) (cut left) (cut down) (cut right)
        ∙ unfold all in rw (
          side_is up (cut up) (cut left),
          side_is left (cut left) (cut down),
          side_is down (cut down) (cut right),
          side_is right (cut right) (cut up),
          and_true (asked right (cut right) (cut up)),
        )

  -- tests that agree on each of some numbers in a row agree on all of them
  all_same : (f g : ℕ → Bool) (u n : ℕ) → ((i : ℕ) → u ≤ i → i < u + n → f i ≡ g i) → all f (up_from u n) ≡ all g (up_from u n)
  unfolding all up_from
  all_same f g u zero h = refl
  all_same f g u (suc n) h = rw (h u (omega arith) (omega arith), all_same f g (suc u) n (λ i l m. h i (omega arith) (omega arith)))

  -- rooms are counted from 4 on, stars from 0 on
  all_shift : (f : ℕ → Bool) (u n : ℕ) → all f (up_from (4 + u) n) ≡ all (λ i. f (4 + i)) (up_from u n)
  unfolding all up_from
  all_shift f u zero = refl
  all_shift f u (suc n) = let e : suc (4 + u) ≡ 4 + suc u = omega arith in rw e (ap (λ (t : Bool). f (4 + u) && t) (all_shift f (suc u) n))

  -- ONCE ROUND EVERY ROOM, and one room in the corner, is the local test
  pub rings_near : rings j p ≡ near j p
  unfolding rings near rooms one_in_corner star_round
  rings_near =
      rw (corner_total j)
      (ap (λ (t : Bool). t && eqb (total (length j) (λ i. cond (is_base j i) 1 0)) 1)
      (all_shift (λ u. all (step_on p u) (links (star_of j u))) 0 (length j)
      ∙ all_same (λ i. all (step_on p (4 + i)) (links (star_of j (4 + i)))) (λ i. all (side_ok (stars_of j) (place_of p) i) sides) 0 (length j)
      (λ i l m. ap (λ (s : Star). all (step_on p (4 + i)) (links s)) (star_at j i) ∙ ring_sides i (omega arith))))
