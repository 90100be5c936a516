-- Nothing smaller with the same contacts: no placing that meets every contact, with rooms of at least their least sizes, has a smaller number anywhere.
-- Assumes nothing.
use Rattle.std.specs.Prelude.{◌≡◌, refl, ℕ, ◌+◌, ◌-◌, ◌≤◌, ◌<◌, max, length, get_or}
use Rattle.std.proofs.Common.{sym, ◌∙◌, arith}
use mathlib.Core.List.{[], Memᴰ}
use Rattle.floor.specs.Jobs.{Entry, Job, Vertex, Room, star_of, Sizes, size_of}
use Rattle.floor.specs.Jobs.Facts.{Passes}
use Rattle.floor.proofs.Jobs.Facts.{star_at}
use Rattle.floor.specs.Walls.{Numbers, OnWall, upright, level, low, rules, extra}
use Rattle.floor.proofs.Walls.Walk.{onwall_eq}
use Rattle.floor.proofs.Walls.Rules.{Obeys, obeys_respects, to_vertex, least_below, sided, sided_low, sided_high, sided_same, sided_before}
use Rattle.floor.specs.Plans.{Plan, rect_of}
use Rattle.floor.specs.Floor.{Stands}
use Rattle.floor.proofs.Floor.Sides.{Side, up, right, opp}
use Rattle.floor.proofs.Floor.Read.{num, few_sides, every_kind, entry_ok}
use Rattle.floor.proofs.Floor.Ours.{Way, Lies, lies}
use Rattle.floor.specs.Smallest.{Placing, LiesAt, low_of, high_of, of_first, of_last}

-- IN ONE DIRECTION each side of a wall lies at its number or further on, and the sides of one wall at one place
pub record NoLarger (j : Job) (z : Sizes) (w : Way j z) (from to : ℕ → ℕ) : Type 0 where
  pub further : (s x : ℕ) → LiesAt j (num (opp w.to)) (num w.to) from to s x → w.number_of s ≤ x
  pub one_line : (s t x y : ℕ) → OnWall (rules w.axis j z) s t → LiesAt j (num (opp w.to)) (num w.to) from to s x
      → LiesAt j (num (opp w.to)) (num w.to) from to t y → x ≡ y

-- one direction; c is the side of its cross contacts
module _ (j : Job) (z : Sizes) (ok : Passes j) (some_room : 0 < length j) (w : Way j z) (c : Side) (is_cross : w.axis.cross ≡ num c) (from to : ℕ → ℕ)
    (thick : (v : ℕ) → Vertex j v → from v < to v) (roomy : (i : ℕ) → i < length j → from (4 + i) + w.axis.least (size_of z (4 + i)) ≤ to (4 + i))
    (met : (i : ℕ) → i < length j → (e : Entry) → Memᴰ e (get_or j i [])
    → (e.kind ≡ num w.to → to (4 + i) ≡ from e.to) × (e.kind ≡ num (opp w.to) → from (4 + i) ≡ to e.to)
    × (e.kind ≡ num c → (from (4 + i) < to e.to) × (from e.to < to (4 + i)))) where
  -- a room lies past something at least one cell thick
  positive : (i : ℕ) → i < length j → 1 ≤ from (4 + i)
  positive i h =
      let (e, m, q) = every_kind j ok (opp w.to) i h in
      omega (arith, (met i h e m).1 q, thick e.to (entry_ok j ok i h e m).below)

  -- the places do what the job says
  obeys : Obeys w.axis (sided from to) j z
  unfolding extra
  obeys = record {
    own = λ i h. sided_before from to (4 + i) (4 + i) (extra w.axis z (4 + i)) (omega (arith, roomy i h, thick (4 + i) (omega arith)));
    each = λ i h e m. record {
      if_far = λ q. sided_same from to (4 + i) e.to ((met i h e m).0 (q ∙ w.is_far));
      if_near = λ q. sided_same from to e.to (4 + i) (sym ((met i h e m).1 (q ∙ w.is_near)));
      if_cross = λ q l.
          let (a, b) = (met i h e m).2 (q ∙ is_cross) in
          (sided_before from to (4 + i) e.to 0 (omega arith), sided_before from to e.to (4 + i) 0 (omega arith));
    };
  }

  -- no wall number is larger than the place of its side
  least : (n : ℕ) → w.number_of n ≤ max 1 (sided from to n)
  least = least_below w.axis j z (to_vertex j ok) w.number_of (sided from to) w.numbers obeys (λ i h. rw (sided_low from to (4 + i)) (positive i h))

  -- a side's place by its number
  place : (s x : ℕ) → LiesAt j (num (opp w.to)) (num w.to) from to s x → x ≡ sided from to s
  place s x (low_of u r) = sym (sided_low from to u)
  place s x (high_of u r) = sym (sided_high from to u)
  place s x of_first = sym (sided_high from to (num (opp w.to)))
  place s x of_last = sym (sided_low from to (num w.to))

  -- it lies past the first cell
  past_one : (s x : ℕ) → LiesAt j (num (opp w.to)) (num w.to) from to s x → 1 ≤ x
  past_one s x (low_of u r) = rw (let e : 4 + (u - 4) ≡ u = omega (arith, r.0) in e) at (positive (u - 4) (omega (arith, r.0, r.1)))
  past_one s x (high_of u r) = omega (arith, thick u r.1)
  past_one s x of_first = omega (arith, thick (num (opp w.to)) (omega (arith, few_sides (opp w.to))))
  past_one s x of_last =
      let l : Lies j z ok w 0 = lies j z ok w 0 some_room in
      omega (arith, rw (sided_low from to (num w.to)) at (least (low (num w.to))), l.first, l.own, l.last)

  -- no side of a wall lies before its number, and those of one wall lie on one line
  pub no_larger : NoLarger j z w from to
  no_larger = record {
    further = λ s x l. omega (arith, least s, place s x l, past_one s x l);
    one_line = λ s t x y o k l.
        place s x k ∙ (onwall_eq (sided from to) (obeys_respects w.axis (sided from to) j z obeys) o ∙ sym (place t y l));
  }

-- the two directions, with their numbers
module _ {j : Job} {z : Sizes} (f : ℕ → ℕ) where
  -- from W to E
  abbrev pub across : Numbers (rules upright j z) f → Way j z
  across n = record { axis = upright; to = right; is_far = refl; is_near = refl; number_of = f; numbers = n }

  -- from S to N
  abbrev pub upward : Numbers (rules level j z) f → Way j z
  upward n = record { axis = level; to = up; is_far = refl; is_near = refl; number_of = f; numbers = n }

-- WHERE NO SIZES ARE GIVEN, a placing has to show no more than its cells and its contacts
pub plain_placing : (j : Job) (q : Plan) → ((v : ℕ) → Vertex j v → (rect_of q v).x1 < (rect_of q v).x2) → ((v : ℕ) → Vertex j v → (rect_of q v).y1 < (rect_of q v).y2)
    → ((u : ℕ) → Room j u → (e : Entry) → Memᴰ e (star_of j u) → Stands e.kind (rect_of q u) (rect_of q e.to)) → Placing j [] q
unfolding size_of
plain_placing j q wide tall met = record {
  wide = wide;
  tall = tall;
  roomy = record { wide = λ u r. omega (arith, wide u r.1); tall = λ u r. omega (arith, tall u r.1) };
  met = met;
}

module _ (j : Job) (z : Sizes) (ok : Passes j) (some_room : 0 < length j) (p : Plan) (g : Placing j z p) where
  -- each entry's neighbour stands on the side of its kind
  stands : (i : ℕ) → i < length j → (e : Entry) → Memᴰ e (get_or j i []) → (k : ℕ) → e.kind ≡ k → Stands k (rect_of p (4 + i)) (rect_of p e.to)
  stands i h e m k q = rw q at (g.met (4 + i) (omega arith, omega arith) e (rw (star_at j i) m))

  -- NOTHING SMALLER, in either direction
  pub nothing_narrower : (f : ℕ → ℕ) (n : Numbers (rules upright j z) f) → NoLarger j z (across f n) (λ v. (rect_of p v).x1) (λ v. (rect_of p v).x2)
  nothing_narrower f n =
      no_larger j z ok some_room (across f n) up refl (λ v. (rect_of p v).x1) (λ v. (rect_of p v).x2) g.wide (λ i h. g.roomy.wide (4 + i) (omega arith, omega arith))
      (λ i h e m. (
        λ q. (stands i h e m 3 q).line,
        λ q. sym (stands i h e m 1 q).line,
        λ q. let s =
            stands i h e m 0 q in (omega (arith, s.starts, s.ends'), omega (arith, s.starts', s.ends)),
      ))

  -- no level number is larger than the place of that side in any such placing
  pub nothing_lower : (f : ℕ → ℕ) (n : Numbers (rules level j z) f) → NoLarger j z (upward f n) (λ v. (rect_of p v).y1) (λ v. (rect_of p v).y2)
  nothing_lower f n =
      no_larger j z ok some_room (upward f n) right refl (λ v. (rect_of p v).y1) (λ v. (rect_of p v).y2) g.tall (λ i h. g.roomy.tall (4 + i) (omega arith, omega arith))
      (λ i h e m. (
        λ q. (stands i h e m 0 q).line,
        λ q. sym (stands i h e m 2 q).line,
        λ q. let s =
            stands i h e m 3 q in (omega (arith, s.starts, s.ends'), omega (arith, s.starts', s.ends)),
      ))
