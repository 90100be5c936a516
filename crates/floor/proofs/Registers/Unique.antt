-- The register by the contacts is one: a wall has one entry, and its order leaves one list. Assumes nothing.
use Rattle.std.specs.Prelude.{ℕ, zero, suc, ◌+◌, ◌≤◌, ◌<◌, ◌≡◌, refl, ◌⊎◌, true, ◌&&◌, ◌||◌, length, ltb, eqb}
use Rattle.std.proofs.Common.{sym, ◌∙◌, inl, inr, arith, ltb-true, eqb-true}
use mathlib.Core.List.Memᴰ
use mathlib.Core.List.{List, Memᴰ}
use Rattle.floor.specs.Lists.{keep}
use Rattle.floor.proofs.Lists.Laws.{and_parts, or_cases, same_test, sorted_same, count_same}
use Rattle.floor.specs.Jobs.{Job, Room}
use Rattle.floor.specs.Walls.{low, high}
use Rattle.floor.specs.Plans.{Plan, rect_of}
use Rattle.floor.specs.Registers.{Stretch, low_side, high_side, Partition, earlier, Lies, as_low, as_high, sides_from, WallOf, Register}

-- a side among those of some rooms
sides_from_lem : (u n t : ℕ) → Memᴰ t (sides_from u n) → (v : ℕ) × (u ≤ v) × (v < u + n) × ((t ≡ low v) ⊎ (t ≡ high v))
unfolding sides_from
sides_from_lem u zero t m = absurd (Memᴰ.not-nil m)
sides_from_lem u (suc n) t (Memᴰ.head e) = (u, omega arith, omega arith, inl e)
sides_from_lem u (suc n) t (Memᴰ.tail (Memᴰ.head e)) = (u, omega arith, omega arith, inr e)
sides_from_lem u (suc n) t (Memᴰ.tail (Memᴰ.tail m)) = let (v, l, h, e) = sides_from_lem (suc u) n t m in (v, omega arith, omega arith, e)

-- what the order says
pub record Before (v w : Partition) : Type 0 where
  pub least : v.direction ≤ w.direction
  pub then_number : v.direction ≡ w.direction → v.number ≤ w.number
  pub then_begins : v.direction ≡ w.direction → v.number ≡ w.number → v.begins < w.begins

-- a wall earlier than another comes before it by direction, then by number, then by beginning
pub before_of : (v w : Partition) → earlier v w ≡ true → Before v w
unfolding earlier
before_of v w e = go (or_cases (ltb v.direction w.direction) _ e)
  where
    go : (ltb v.direction w.direction ≡ true)
        ⊎ ((eqb v.direction w.direction && (ltb v.number w.number || (eqb v.number w.number && ltb v.begins w.begins))) ≡ true)
        → Before v w
    go (inl h) =
        let l : v.direction < w.direction = ltb-true v.direction w.direction h in
        record { least = omega arith; then_number = λ q. absurd (omega arith); then_begins = λ q r. absurd (omega arith) }
    go (inr h) =
        let (a, b) = and_parts (eqb v.direction w.direction) _ h in
        two (eqb-true v.direction w.direction a) (or_cases (ltb v.number w.number) _ b)
      where
        two : v.direction ≡ w.direction → (ltb v.number w.number ≡ true) ⊎ ((eqb v.number w.number && ltb v.begins w.begins) ≡ true)
            → Before v w
        two d (inl h) =
            let l : v.number < w.number = ltb-true v.number w.number h in
            record { least = omega arith; then_number = λ q. omega arith; then_begins = λ q r. absurd (omega arith) }
        two d (inr h) =
            let (a, b) = and_parts (eqb v.number w.number) (ltb v.begins w.begins) h in
            let n : v.number ≡ w.number = eqb-true v.number w.number a in
            let l : v.begins < w.begins = ltb-true v.begins w.begins b in
            record { least = omega arith; then_number = λ q. omega arith; then_begins = λ q r. l }

-- of two walls, not each is earlier than the other
pub never_both : (v w : Partition) → earlier v w ≡ true → earlier w v ≡ true → ⊥
never_both v w e f =
    let a : Before v w = before_of v w e in
    let b : Before w v = before_of w v f in
    let d : v.direction ≡ w.direction = omega (arith, a.least, b.least) in
    let n : v.number ≡ w.number = omega (arith, a.then_number d, b.then_number (sym d)) in
    omega (arith, a.then_begins d n, b.then_begins (sym d) (sym n))

-- ONE ENTRY: the wall of a side is told in one way
pub wall_one : (d : ℕ) (j : Job) (p : Plan) (s : ℕ) (v w : Partition) → WallOf d j p s v → WallOf d j p s w → v ≡ w
wall_one d j p s v w a b =
    equal (a.is_direction ∙ sym b.is_direction) number begins ends (a.counted ∙ counts ∙ sym b.counted)
  where
    number : v.number ≡ w.number
    number = let (t, q, l, o, e) = a.first in sym (a.within t q l o).0 ∙ (b.within t q l o).0

    begins : v.begins ≡ w.begins
    begins =
        let (t, q, l, o, e) = a.first in
        let (u, r, m, n, f) = b.first in
        omega (arith, (a.within u r m n).1, (b.within t q l o).1)

    ends : v.ends ≡ w.ends
    ends =
        let (t, q, l, o, e) = a.last in
        let (u, r, m, n, f) = b.last in
        omega (arith, (a.within u r m n).2, (b.within t q l o).2)

    both : (t : ℕ) (q : Stretch) → Lies d j p t q → a.on t ≡ b.on t
    both t q l = same_test (a.on t) (b.on t) (λ e. (b.on_exactly t q l).1 ((a.on_exactly t q l).0 e)) (λ e. (a.on_exactly t q l).1 ((b.on_exactly t q l).0 e))

    counts : length (keep a.on (sides_from 4 (length j))) ≡ length (keep b.on (sides_from 4 (length j)))
    counts = count_same a.on b.on (sides_from 4 (length j)) (λ t m. let (u, l, h, e) = sides_from_lem 4 (length j) t m in two t u (l, omega arith) e)
      where
        two : (t u : ℕ) → Room j u → (t ≡ low u) ⊎ (t ≡ high u) → a.on t ≡ b.on t
        two t u r (inl e) = both t (low_side d (rect_of p u)) (as_low u r e refl)
        two t u r (inr e) = both t (high_side d (rect_of p u)) (as_high u r e refl)

    equal : v.direction ≡ w.direction → v.number ≡ w.number → v.begins ≡ w.begins → v.ends ≡ w.ends → v.sides ≡ w.sides → v ≡ w
    equal a b c d e = λ i. record { direction = a i; number = b i; begins = c i; ends = d i; sides = e i }

-- ONE REGISTER
pub one_register : (j : Job) (p : Plan) (l m : List Partition) → Register j p l → Register j p m → l ≡ m
one_register j p l m a b = sorted_same earlier never_both l m a.order b.order (into l m a b) (into m l b a)
  where
    into : (l m : List Partition) → Register j p l → Register j p m → (w : Partition) → Memᴰ w l → Memᴰ w m
    into l m a b w i =
        let (h, r) = a.each w i in
        let (s, q, k, x) = r in
        let (y, n, z) = b.every w.direction h s q k in
        Memᴰ.cast (wall_one w.direction j p s w y x z) n
