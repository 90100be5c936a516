-- Cells counted: the areas add up to the sheet exactly where every cell lies in one rectangle, no cell lying in two. Assumes nothing.
use Rattle.std.specs.Prelude.{◌≡◌, refl, Bool, true, false, cond, ◌&&◌, List, [], ◌∷◌, map, ℕ, zero, suc, ◌+◌, ◌-◌, ◌*◌, ◌≤◌, ◌<◌, min, leb, ltb, length, get_or}
use Rattle.std.proofs.Math.Path.{sym, ap}
use Rattle.std.proofs.Common.{◌∙◌, mul-zero, zero-mul, suc-mul, add-mul, mul_comm, mul-one, arith, le-leb, lt-ltb, le-ltb}
use Rattle.std.proofs.Math.Decide.{dec_le, dec_lt, ℕ_discrete}
use Rattle.std.proofs.lemmas.Bool.{lt-leb}
use Rattle.floor.specs.Lists.{sum}
use Rattle.floor.specs.Plans.{Rect, Plan, nowhere, rect_of, area}
use Rattle.floor.specs.Floor.{Cell, Inside}

-- f 0 + .. + f (n - 1)
unfoldable pub total : ℕ → (ℕ → ℕ) → ℕ
total zero f = 0
total (suc n) f = total n f + f n

-- two functions that agree below n have the same sum
pub total_same : (n : ℕ) (f g : ℕ → ℕ) → ((i : ℕ) → i < n → f i ≡ g i) → total n f ≡ total n g
unfolding total
total_same zero f g h = refl
total_same (suc n) f g h = omega (arith, total_same n f g (λ i l. h i (omega arith)), h n (omega arith))

-- the sum of two functions added is their two sums added
total_add : (n : ℕ) (f g : ℕ → ℕ) → total n (λ i. f i + g i) ≡ total n f + total n g
unfolding total
total_add zero f g = refl
total_add (suc n) f g = omega (arith, total_add n f g)

-- n times one number c add up to n * c
total_const : (n c : ℕ) → total n (λ i. c) ≡ n * c
unfolding total
total_const zero c = sym (zero-mul c)
total_const (suc n) c = omega (arith, total_const n c, suc-mul n c)

-- a sum of sums is the same in either order
total_swap : (n m : ℕ) (f : ℕ → ℕ → ℕ) → total n (λ i. total m (λ k. f i k)) ≡ total m (λ k. total n (λ i. f i k))
unfolding total
total_swap zero m f = sym (total_const m 0 ∙ mul-zero m)
total_swap (suc n) m f = omega (arith, total_swap n m f, total_add m (λ k. total n (λ i. f i k)) (λ k. f n k))

-- a factor common to all is a factor of the sum
total_times : (n c : ℕ) (f : ℕ → ℕ) → total n (λ i. f i * c) ≡ total n f * c
unfolding total
total_times zero c f = sym (zero-mul c)
total_times (suc n) c f = omega (arith, total_times n c f, add-mul (total n f) (f n) c)

-- noughts add up to 0
total_none : (n : ℕ) (f : ℕ → ℕ) → ((i : ℕ) → i < n → f i ≡ 0) → total n f ≡ 0
unfolding total
total_none zero f h = refl
total_none (suc n) f h = omega (arith, total_none n f (λ i l. h i (omega arith)), h n (omega arith))

-- exactly one is 1
pub total_one : (n v : ℕ) (f : ℕ → ℕ) → v < n → f v ≡ 1 → ((i : ℕ) → i < n → (i ≡ v → ⊥) → f i ≡ 0) → total n f ≡ 1
unfolding total
total_one zero v f h e o = absurd (omega arith)
total_one (suc n) v f h e o = go (ℕ_discrete v n) (λ l. total_one n v f l e (λ i k. o i (omega arith)))
  where
    go : Dec (v ≡ n) → (v < n → total n f ≡ 1) → total n f + f n ≡ 1
    go (yes w) below = omega (arith, ap f w, total_none n f (λ i l. o i (omega arith) (λ z. omega arith)))
    go (no w) below = omega (arith, below (omega arith), o n (omega arith) (λ z. w (sym z)))

-- a sum is its first number and the sum of the rest
pub total_front : (n : ℕ) (f : ℕ → ℕ) → total (suc n) f ≡ f 0 + total n (λ i. f (suc i))
unfolding total
total_front zero f = omega arith
total_front (suc n) f = omega (arith, total_front n f)

-- the sum along a list is the sum over its places
pub sum_total : {A : Type 0} (a : A → ℕ) (l : List A) (d : A) → sum (map a l) ≡ total (length l) (λ i. a (get_or l i d))
unfolding sum total
sum_total a [] d = refl
sum_total a (x ∷ l) d = omega (arith, sum_total a l d, total_front (length l) (λ i. a (get_or (x ∷ l) i d)))

-- 1 where x lies in the stretch
unfoldable within : ℕ → ℕ → ℕ → ℕ
within a b x = cond (leb a x && ltb x b) 1 0

-- a place in the stretch counts 1
within_one : (a b x : ℕ) → a ≤ x → x < b → within a b x ≡ 1
unfolding within
within_one a b x h k = rw (le-leb a x h, lt-ltb x b k)

-- a place before the stretch counts 0
within_low : (a b x : ℕ) → x < a → within a b x ≡ 0
unfolding within
within_low a b x h = rw (lt-leb a x h)

-- a place behind the stretch counts 0
within_high : (a b x : ℕ) → b ≤ x → within a b x ≡ 0
unfolding within
within_high a b x h = go (leb a x)
  where
    go : (t : Bool) → ◌≡◌ {A = ℕ} (cond (t && ltb x b) 1 0) 0
    go true = rw (le-ltb x b h)
    go false = refl

-- of the first n places as many lie in a stretch as it has below n
stretch : (n a b : ℕ) → a ≤ b → total n (within a b) ≡ min n b - min n a
unfolding total
stretch zero a b h = omega arith
stretch (suc n) a b h = go (dec_lt n a) (dec_lt n b) (stretch n a b h)
  where
    go : Dec (n < a) → Dec (n < b) → total n (within a b) ≡ min n b - min n a → total n (within a b) + within a b n ≡ min (suc n) b - min (suc n) a
    go (yes x) y e = omega (arith, within_low a b n x)
    go (no x) (yes y) e = omega (arith, within_one a b n (omega arith) y)
    go (no x) (no y) e = omega (arith, within_high a b n (omega arith))

-- an area is a count of cells
count : (w h x1 x2 y1 y2 : ℕ) → x1 ≤ x2 → x2 ≤ w → y1 ≤ y2 → y2 ≤ h → total w (λ x. total h (λ y. within y1 y2 y * within x1 x2 x)) ≡ (x2 - x1) * (y2 - y1)
count w h x1 x2 y1 y2 a b c d =
    let e : total h (within y1 y2) ≡ y2 - y1 = stretch h y1 y2 c ∙ omega arith in
    let f : total w (within x1 x2) ≡ x2 - x1 = stretch w x1 x2 a ∙ omega arith in
    total_same w (λ x. total h (λ y. within y1 y2 y * within x1 x2 x)) (λ x. within x1 x2 x * (y2 - y1))
    (λ x l. total_times h (within x1 x2 x) (within y1 y2) ∙ rw e (mul_comm (y2 - y1) (within x1 x2 x)))
    ∙ total_times w (y2 - y1) (within x1 x2)
    ∙ ap (λ n. n * (y2 - y1)) f

-- no more than c each, and n * c in all: c each
total_le : (n c : ℕ) (f : ℕ → ℕ) → ((i : ℕ) → i < n → f i ≤ c) → total n f ≤ n * c
unfolding total
total_le zero c f h = omega arith
total_le (suc n) c f h = omega (arith, total_le n c f (λ i l. h i (omega arith)), h n (omega arith), suc-mul n c)

-- numbers of at most c each that add up to n * c are c each
total_full : (n c : ℕ) (f : ℕ → ℕ) → ((i : ℕ) → i < n → f i ≤ c) → total n f ≡ n * c → (i : ℕ) → i < n → f i ≡ c
unfolding total
total_full zero c f h e i l = absurd (omega arith)
total_full (suc n) c f h e i l =
    go (ℕ_discrete i n) (total_full n c f (λ i l. h i (omega arith))
    (omega (arith, total_le n c f (λ i l. h i (omega arith)), h n (omega arith), suc-mul n c)) i)
  where
    go : Dec (i ≡ n) → (i < n → f i ≡ c) → f i ≡ c
    go (yes w) below = omega (arith, ap f w, total_le n c f (λ i l. h i (omega arith)), h n (omega arith), suc-mul n c)
    go (no w) below = below (omega arith)

-- a sum that is not 0 has a number that is not 0
pub total_some : (n : ℕ) (f : ℕ → ℕ) → 0 < total n f → (i : ℕ) × (i < n) × (0 < f i)
unfolding total
total_some zero f h = absurd (omega arith)
total_some (suc n) f h = go (dec_lt 0 (f n)) (total_some n f)
  where
    go : Dec (0 < f n) → (0 < total n f → (i : ℕ) × (i < n) × (0 < f i)) → (i : ℕ) × (i < suc n) × (0 < f i)
    go (yes w) below = (n, omega arith, w)
    go (no w) below = let (i, l, k) = below (omega arith) in (i, omega arith, k)

-- numbers of at most 1, of which no two are not 0, add up to at most 1
total_few : (n : ℕ) (f : ℕ → ℕ) → ((i : ℕ) → i < n → f i ≤ 1) → ((i k : ℕ) → i < n → k < n → 0 < f i → 0 < f k → i ≡ k) → total n f ≤ 1
unfolding total
total_few zero f h o = omega arith
total_few (suc n) f h o = go (dec_lt 0 (f n)) (total_few n f (λ i l. h i (omega arith)) (λ i k l m. o i k (omega arith) (omega arith)))
  where
    go : Dec (0 < f n) → total n f ≤ 1 → total n f + f n ≤ 1
    go (no w) below = omega arith
    go (yes w) below = omega (arith, h n (omega arith), total_none n f none)
      where
        none : (i : ℕ) → i < n → f i ≡ 0
        none i l = zero_of (dec_lt 0 (f i))
          where
            zero_of : Dec (0 < f i) → f i ≡ 0
            zero_of (yes z) = absurd (omega (arith, o i n (omega arith) (omega arith) z w))
            zero_of (no z) = omega arith

-- no number is more than the sum
total_at : (n i : ℕ) (f : ℕ → ℕ) → i < n → f i ≤ total n f
unfolding total
total_at zero i f h = absurd (omega arith)
total_at (suc n) i f h = go (ℕ_discrete i n) (total_at n i f)
  where
    go : Dec (i ≡ n) → (i < n → f i ≤ total n f) → f i ≤ total n f + f n
    go (yes w) below = omega (arith, ap f w)
    go (no w) below = omega (arith, below (omega arith))

-- no two numbers together are more than the sum
total_two : (n i k : ℕ) (f : ℕ → ℕ) → i < k → k < n → f i + f k ≤ total n f
unfolding total
total_two zero i k f h l = absurd (omega arith)
total_two (suc n) i k f h l = go (ℕ_discrete k n) (total_two n i k f h)
  where
    go : Dec (k ≡ n) → (k < n → f i + f k ≤ total n f) → f i + f k ≤ total n f + f n
    go (yes w) below = omega (arith, ap f w, total_at n i f (omega arith))
    go (no w) below = omega (arith, below (omega arith))

-- a sum of 1 has one that is not 0
pub total_unique : (n i k : ℕ) (f : ℕ → ℕ) → total n f ≡ 1 → i < n → k < n → 0 < f i → 0 < f k → i ≡ k
total_unique n i k f e hi hk a b = go (dec_lt i k) (dec_lt k i)
  where
    go : Dec (i < k) → Dec (k < i) → i ≡ k
    go (yes l) m = absurd (omega (arith, total_two n i k f l hk))
    go (no l) (yes m) = absurd (omega (arith, total_two n k i f m hi))
    go (no l) (no m) = omega arith

-- 1 where the cell lies in r, else 0
module _ (r : Rect) (x y : ℕ) where
  -- how often the cell is counted for r
  holds : ℕ
  holds = within r.y1 r.y2 y * within r.x1 r.x2 x

  -- a cell that lies in r counts 1
  holds_one : Cell r x y → holds ≡ 1
  unfolding holds
  holds_one c = rw (within_one r.y1 r.y2 y c.lower c.upper, within_one r.x1 r.x2 x c.left c.right)

  -- a cell that does not lie in r counts 0
  holds_none : (Cell r x y → ⊥) → holds ≡ 0
  unfolding holds
  holds_none d = go (dec_lt x r.x1) (dec_lt x r.x2) (dec_lt y r.y1) (dec_lt y r.y2)
    where
      go : Dec (x < r.x1) → Dec (x < r.x2) → Dec (y < r.y1) → Dec (y < r.y2) → within r.y1 r.y2 y * within r.x1 r.x2 x ≡ 0
      go (yes a) b c e = rw (within_low r.x1 r.x2 x a) (mul-zero _)
      go (no a) (no b) c e = rw (within_high r.x1 r.x2 x (omega arith)) (mul-zero _)
      go (no a) (yes b) (yes c) e = rw (within_low r.y1 r.y2 y c) (zero-mul _)
      go (no a) (yes b) (no c) (no e) = rw (within_high r.y1 r.y2 y (omega arith)) (zero-mul _)
      go (no a) (yes b) (no c) (yes e) = absurd (d (record { left = omega arith; right = b; lower = omega arith; upper = e }))

  -- either the cell lies in r or it does not
  cell : Dec (Cell r x y)
  cell = go (dec_le r.x1 x) (dec_lt x r.x2) (dec_le r.y1 y) (dec_lt y r.y2)
    where
      go : Dec (r.x1 ≤ x) → Dec (x < r.x2) → Dec (r.y1 ≤ y) → Dec (y < r.y2) → Dec (Cell r x y)
      go (yes a) (yes b) (yes c) (yes e) = yes (record { left = a; right = b; lower = c; upper = e })
      go (no a) b c e = no (λ k. a k.left)
      go (yes a) (no b) c e = no (λ k. b k.right)
      go (yes a) (yes b) (no c) e = no (λ k. c k.lower)
      go (yes a) (yes b) (yes c) (no e) = no (λ k. e k.upper)

  -- a cell counts at most 1
  holds_few : holds ≤ 1
  holds_few = go cell
    where
      go : Dec (Cell r x y) → holds ≤ 1
      go (yes c) = omega (arith, holds_one c)
      go (no c) = omega (arith, holds_none c)

  -- a cell that counts lies in r
  holds_cell : 0 < holds → Cell r x y
  holds_cell h = go cell
    where
      go : Dec (Cell r x y) → Cell r x y
      go (yes c) = c
      go (no c) = absurd (omega (arith, holds_none c))

-- the areas of n rectangles are the cells of the sheet, each counted for every one that it lies in
module _ (n : ℕ) (p : Plan) (many : length p.rects ≡ n) (inside : (v : ℕ) → v < n → Inside p (rect_of p v)) where
  -- the areas added up are the cells of the sheet, each counted for every rectangle that it lies in
  counted : total n (λ v. area (rect_of p v)) ≡ total p.width (λ x. total p.height (λ y. total n (λ v. holds (rect_of p v) x y)))
  unfolding holds area
  counted =
      total_same n (λ v. area (rect_of p v)) (λ v. total p.width (λ x. total p.height (λ y. holds (rect_of p v) x y)))
      (λ v l.
      let i : Inside p (rect_of p v) = inside v l in
      sym (count p.width p.height (rect_of p v).x1 (rect_of p v).x2 (rect_of p v).y1 (rect_of p v).y2 (omega (arith, i.wide)) i.in_width
      (omega (arith, i.tall)) i.in_height))
      ∙ total_swap n p.width (λ v x. total p.height (λ y. holds (rect_of p v) x y))
      ∙ total_same p.width (λ x. total n (λ v. total p.height (λ y. holds (rect_of p v) x y)))
      (λ x. total p.height (λ y. total n (λ v. holds (rect_of p v) x y)))
      (λ x hx. total_swap n p.height (λ v y. holds (rect_of p v) x y))

  -- the areas along the list of rectangles add up to those of the first n vertices' rectangles
  summed : sum (map area p.rects) ≡ total n (λ v. area (rect_of p v))
  unfolding rect_of
  summed = sum_total area p.rects nowhere ∙ ap (λ k. total k (λ v. area (rect_of p v))) many

  -- THE AREAS ADD UP where every cell lies in one
  pub cells_areas : ((x y : ℕ) → x < p.width → y < p.height → (v : ℕ) × (v < n) × Cell (rect_of p v) x y)
      → ((x y u v : ℕ) → u < n → v < n → Cell (rect_of p u) x y → Cell (rect_of p v) x y → u ≡ v) → sum (map area p.rects) ≡ p.width * p.height
  cells_areas covered once =
      summed
      ∙ counted
      ∙ total_same p.width (λ x. total p.height (λ y. total n (λ v. holds (rect_of p v) x y))) (λ x. p.height)
      (λ x hx. total_same p.height (λ y. total n (λ v. holds (rect_of p v) x y)) (λ y. 1) (λ y hy. single x y hx hy) ∙ total_const
      p.height 1 ∙ mul-one p.height)
      ∙ total_const p.width p.height
    where
      single : (x y : ℕ) → x < p.width → y < p.height → total n (λ v. holds (rect_of p v) x y) ≡ 1
      single x y hx hy =
          let (v, h, c) = covered x y hx hy in
          total_one n v (λ v. holds (rect_of p v) x y) h (holds_one (rect_of p v) x y c) (λ i l d. holds_none (rect_of p i) x y (λ k. d (once x y i v l h k c)))

  -- THE OTHER WAY: areas that add up, and no cell in two, leave no cell out
  pub areas_cells : ((x y u v : ℕ) → u < n → v < n → Cell (rect_of p u) x y → Cell (rect_of p v) x y → u ≡ v) → sum (map area p.rects) ≡ p.width * p.height
      → (x y : ℕ) → x < p.width → y < p.height → (v : ℕ) × (v < n) × Cell (rect_of p v) x y
  areas_cells once e x y hx hy = let (v, h, k) = total_some n (λ v. holds (rect_of p v) x y) (omega (arith, single)) in (v, h, holds_cell (rect_of p v) x y k)
    where
      most : (x y : ℕ) → total n (λ v. holds (rect_of p v) x y) ≤ 1
      most x y =
          total_few n (λ v. holds (rect_of p v) x y) (λ i l. holds_few (rect_of p i) x y) (λ i k l m a b. once x y i k l m (holds_cell (rect_of p i) x y a)
          (holds_cell (rect_of p k) x y b))

      row : (x : ℕ) → total p.height (λ y. total n (λ v. holds (rect_of p v) x y)) ≤ p.height
      row x = omega (arith, total_le p.height 1 (λ y. total n (λ v. holds (rect_of p v) x y)) (λ y l. most x y), mul-one p.height)

      full : total p.height (λ y. total n (λ v. holds (rect_of p v) x y)) ≡ p.height
      full = total_full p.width p.height (λ x. total p.height (λ y. total n (λ v. holds (rect_of p v) x y))) (λ x l. row x)
          (sym counted ∙ sym summed ∙ e) x hx

      single : total n (λ v. holds (rect_of p v) x y) ≡ 1
      single = total_full p.height 1 (λ y. total n (λ v. holds (rect_of p v) x y)) (λ y l. most x y) (full ∙ sym (mul-one p.height)) y hy
