-- The shape of a job's bytes, as the code comes by it. Assumes nothing.
use Prim.Native.Nat.{ℕ, zero, suc, ◌+◌, ◌-◌, ◌*◌, ◌/◌, ◌%◌, ◌<◌, ◌≤◌}
use mathlib.Core.Path.{◌≡◌, refl, sym, ap, ◌∙◌}
use mathlib.Core.Logic.{inl, inr}
use mathlib.Core.Bool.{Bool, true, false, cond, not, ◌&&◌}
use mathlib.Core.Option.{Option, none, some}
use mathlib.Core.List.{List, [], ◌∷◌, map}
use native.Mathlib.Omega.{arith}
use borrow.Author.Tests.{le-leb, lt-leb, leb-true, leb-false, eq-eqb, ne_eqb, not-true, not-false}
use lib.Dec.{leb, eqb}
use lib.ListN.{length, get_or, take, drop, length-drop, drop_of_length-le}
use lib.Seq.{drop-cons, length-take-le, get_or-take, get_or-drop}
use Rattle.floor.specs.Lists.{sum}
use Rattle.floor.proofs.Lists.Laws.{and_right}
use Rattle.floor.specs.Fields.{Field, broken, field, read_field, value_of, rest_of, after_fields}
use Rattle.floor.specs.Jobs.{Job, Sizes, pairs_in, entries, star_then, read_stars, size_pairs, sizes_in, read_sizes, test2, fails, read_rest, read_rooms}
use Rattle.floor.specs.Jobs.{read_first, read_job}
use Rattle.floor.specs.Jobs.Written.{Counts}
use Rattle.floor.proofs.Jobs.Written.{sizes_length}
use Rattle.std.specs.Prelude.{Option as Answer, Some, None, Result, Ok, Err}
use Rattle.std.specs.Option.{ok_or}
use Rattle.refusals.specs.declared.Refusal.{Refusal}
use Rattle.refusals.specs.declared.Refusal.TheVariants.{NotAJob, WrongCount}
use Rattle.refusals.specs.Numbers.{number_of}
use Rattle.fields.specs.declared.Field.{Field as Found}
use Rattle.fields.specs.Found.{found, Stands}
use Rattle.fields.proofs.Laws.{no_field, the_field, starts, in_order_lem, within}
use Rattle.jobs.proofs.Walks.{place_here}
use Rattle.jobs.specs.declared.outline.Count.{Count}
use Rattle.jobs.specs.declared.outline.Shape.{Shape}
use Rattle.jobs.specs.Shapes.{counted, behind, pairs_past, stars_at, sizes_at, reading, told}

-- an answer that is none, made a refusal
pub asked_none : {A E : Type 0} (x : Answer A) (y z : E) (r : Result A E) → r ≡ ok_or x y → r ≡ Err z → (x ≡ None) × (z ≡ y)
asked_none None y z r e f = (refl, cc)
asked_none (Some v) y z r e f = absurd (cc)

-- and one that is given
pub asked_some : {A E : Type 0} (x : Answer A) (y : E) (v : A) (r : Result A E) → r ≡ ok_or x y → r ≡ Ok v → x ≡ Some v
asked_some None y v r e f = absurd (cc)
asked_some (Some w) y v r e f = cc

-- half as many entries as bytes
pub entries_length : (v : List ℕ) → length (entries v) ≡ length v / 2
unfolding entries
entries_length [] = refl
entries_length (a ∷ []) = refl
entries_length (a ∷ k ∷ r) = omega (arith, entries_length r)

-- a field that is no star, and one that is
star_bad : (t : ℕ) (v r : List ℕ) (x : Option Job) → (eqb t 2 && eqb (length v % 2) 0) ≡ false → star_then (field t v r) x ≡ none
unfolding star_then
star_bad t v r none h = refl
star_bad t v r (some j) h = rw h

-- a field that is a star adds half as many pairs as its value has bytes
star_good : (p t : ℕ) (v r : List ℕ) (x : Option Job) → (eqb t 2 && eqb (length v % 2) 0) ≡ true
    → pairs_past p (star_then (field t v r) x) ≡ pairs_past (p + length v / 2) x
unfolding star_then pairs_past pairs_in sum
star_good p t v r none h = refl
star_good p t v r (some j) h =
    let e : p + (length (entries v) + sum (map (λ s. length s) j)) ≡ p + length v / 2 + sum (map (λ s. length s) j) = omega (arith, entries_length v) in
    rw (h, e)

-- no more pairs than bytes so far
pub pairs_fit : (s : List ℕ) (at p : ℕ) (f : Answer Found) (w : Found) → f ≡ Some w → Stands f at (length s) → p ≤ at → p + (w.end - w.start) / 2 ≤ w.end
pairs_fit s at p f w here k h = omega (arith, starts s at f w here k, in_order_lem s at f w here k)

module _ (s : List ℕ) (n i at p : ℕ) (w : Option ℕ) where
  -- the next field of a star
  next : i < n → pairs_past p (read_stars (n - i) (drop at s)) ≡ w
      → pairs_past p (star_then (read_field (drop at s)) (read_stars (n - (i + 1)) (rest_of (read_field (drop at s))))) ≡ w
  unfolding read_stars
  next h inv =
      let d : n - i ≡ suc (n - (i + 1)) = omega arith in
      rw d at inv

  module _ (f : Answer Found) where
    -- the count, as `count_pairs` comes by it: a broken field, and there are no such stars
    pub count_broken : f ≡ None → found f s ≡ read_field (drop at s) → i < n → pairs_past p (read_stars (n - i) (drop at s)) ≡ w → counted None ≡ w
    unfolding pairs_past star_then counted
    count_broken b e h inv = rw (no_field s at f b e) at (next h inv)

    module _ (v : Found) (here : f ≡ Some v) (q : found f s ≡ read_field (drop at s)) (k : Stands f at (length s)) (h : i < n)
        (inv : pairs_past p (read_stars (n - i) (drop at s)) ≡ w) where
      -- the field's value
      abbrev value : List ℕ
      value = take (v.end - v.start) (drop v.start s)

      -- the value has as many bytes as lie between its start and its end
      value_length : length value ≡ v.end - v.start
      value_length = length-take-le (v.end - v.start) (drop v.start s) (simp length-drop (omega (arith, within s at f v here k)))

      -- the pairs are those of a star with this value, if it is one, and of the stars behind it
      known : pairs_past p (star_then (field v.tag value (drop v.end s)) (read_stars (n - (i + 1)) (drop v.end s))) ≡ w
      unfolding rest_of
      known = rw (the_field s at f v here q) at (next h inv)

      -- another tag than 2, and there are no such stars
      pub count_tag : (v.tag ≡ 2 → ⊥) → counted None ≡ w
      unfolding pairs_past counted
      count_tag g =
          let z : (eqb v.tag 2 && eqb (length value % 2) 0) ≡ false = rw (ne_eqb v.tag 2 g) in
          rw (star_bad v.tag value (drop v.end s) (read_stars (n - (i + 1)) (drop v.end s)) z) at known

      -- an odd length, and there are no such stars
      pub count_odd : v.tag ≡ 2 → ((v.end - v.start) % 2 ≡ 0 → ⊥) → counted None ≡ w
      unfolding pairs_past counted
      count_odd g o =
          let z : (eqb v.tag 2 && eqb (length value % 2) 0) ≡ false = rw (eq-eqb v.tag 2 g, value_length, ne_eqb ((v.end - v.start) % 2) 0 o) in
          rw (star_bad v.tag value (drop v.end s) (read_stars (n - (i + 1)) (drop v.end s)) z) at known

      -- a star: half its length is added to the pairs, and the stars behind it are left
      pub count_next : v.tag ≡ 2 → (v.end - v.start) % 2 ≡ 0 → pairs_past (p + (v.end - v.start) / 2) (read_stars (n - (i + 1)) (drop v.end s)) ≡ w
      count_next g o =
          let z : (eqb v.tag 2 && eqb (length value % 2) 0) ≡ true = rw (eq-eqb v.tag 2 g, value_length, eq-eqb ((v.end - v.start) % 2) 0 o) in
          rw (star_good p v.tag value (drop v.end s) (read_stars (n - (i + 1)) (drop v.end s)) z, value_length) at known

  -- behind the last star the pairs are counted
  pub count_done : n ≤ i → pairs_past p (read_stars (n - i) (drop at s)) ≡ w → counted (Some (record { pairs = p; end = at })) ≡ w
  unfolding pairs_past read_stars counted pairs_in sum
  count_done h inv =
      let d : n - i ≡ 0 = omega arith in
      let z : p + 0 ≡ p = omega arith in
      rw (d, z) at inv

-- where there are no such stars, nothing is said of what stands behind them
pub none_behind : (s x : List ℕ) → behind None s x
unfolding behind
none_behind s x = tt

-- the place behind the fields passed so far
module _ (s x : List ℕ) (n i at : ℕ) where
  -- the next field passed, one less is left to pass
  pub behind_next : (f : Answer Found) (v : Found) → f ≡ Some v → found f s ≡ read_field (drop at s) → i < n → after_fields (n - i) (drop at s) ≡ x
      → after_fields (n - (i + 1)) (drop v.end s) ≡ x
  unfolding after_fields rest_of
  behind_next f v here q h inv =
      let d : n - i ≡ suc (n - (i + 1)) = omega arith in
      sym (ap (λ (g : Field). after_fields (n - (i + 1)) (rest_of g)) (the_field s at f v here q)) ∙ (rw d at inv)

  -- with no field left to pass, the place behind the stars is reached
  pub behind_done : (p : ℕ) → n ≤ i → after_fields (n - i) (drop at s) ≡ x → behind (Some (record { pairs = p; end = at })) s x
  unfolding behind
  behind_done p h inv = place_here s x n i at h inv

-- what is picked by a test is the job that was put in
picked : (b : Bool) (i j : Job) → cond b (some i) none ≡ some j → i ≡ j
picked true i j e = cc
picked false i j e = absurd (let z : ◌≡◌ {A = ℕ} 0 1 = cc in omega arith)

-- a field and the stars behind it, read as a job, are the entries of its value, then those stars
star_some : (f : Field) (x : Option Job) (j k : Job) → star_then f x ≡ some j → ((i : Job) → x ≡ some i → k ≡ i) → entries (value_of f) ∷ k ≡ j
unfolding star_then value_of
star_some broken x j k e h = absurd (let z : ◌≡◌ {A = ℕ} 0 1 = cc in omega arith)
star_some (field t v r) none j k e h = absurd (let z : ◌≡◌ {A = ℕ} 0 1 = cc in omega arith)
star_some (field t v r) (some i) j k e h = rw (h i refl) (picked (eqb t 2 && eqb (length v % 2) 0) (entries v ∷ i) j e)

-- stars that are read are those that stand in the bytes
same_stars : (n : ℕ) (bs : List ℕ) (j : Job) → read_stars n bs ≡ some j → stars_at n bs ≡ j
unfolding read_stars stars_at
same_stars zero bs j e = cc
same_stars (suc n) bs j e =
    star_some (read_field bs) (read_stars n (rest_of (read_field bs))) j (stars_at n (rest_of (read_field bs))) e (λ i q. same_stars n (rest_of (read_field bs)) i q)

-- what a count says of the stars: where it gives none, there are none
count_none : (x : Option Job) (z : Option Sizes) (c : Answer Count) → c ≡ None → counted c ≡ pairs_past 0 x → read_rest x z ≡ fails 1
unfolding counted pairs_past read_rest
count_none none z c e q = refl
count_none (some j) z c e q = absurd (let z : ◌≡◌ {A = ℕ} 0 1 = (let r : none ≡ some (0 + pairs_in j) = rw e at q in cc) in omega arith)

-- where pairs are counted, the stars are read as they stand, and have that many pairs
count_some : (n : ℕ) (bs : List ℕ) (x : Option Job) (c : Answer Count) (k : Count) → read_stars n bs ≡ x → c ≡ Some k → counted c ≡ pairs_past 0 x
    → (x ≡ some (stars_at n bs)) × (k.pairs ≡ pairs_in (stars_at n bs))
unfolding counted pairs_past
count_some n bs none c k g u q = absurd (let z : ◌≡◌ {A = ℕ} 0 1 = (let r : some k.pairs ≡ none = rw u at q in cc) in omega arith)
count_some n bs (some j) c k g u q =
    let r : some k.pairs ≡ some (0 + pairs_in j) = rw u at q in
    let m : stars_at n bs ≡ j = same_stars n bs j g in
    let l : k.pairs ≡ 0 + pairs_in j = cc in
    (rw m, rw m (omega arith))

-- what follows the stars, as `sizes_follow` comes by it
module _ (s : List ℕ) (at n : ℕ) where
  -- nothing there: no sizes are told
  pub follow_none : length s ≤ at → read_sizes n (drop at s) ≡ cond true (some (sizes_at (drop at s))) none
  unfolding read_sizes sizes_at read_field value_of size_pairs
  follow_none h = rw (drop_of_length-le s h)

  -- something there is read as one field
  one_field : at < length s → read_sizes n (drop at s) ≡ sizes_in n (read_field (drop at s))
  unfolding read_sizes
  one_field h = rw (drop-cons s at 0 h)

  module _ (f : Answer Found) (h : at < length s) (q : found f s ≡ read_field (drop at s)) where
    -- a broken field is no sizes
    pub follow_broken : f ≡ None → read_sizes n (drop at s) ≡ cond false (some (sizes_at (drop at s))) none
    unfolding sizes_in
    follow_broken b = one_field h ∙ rw (no_field s at f b q)

    module _ (v : Found) (here : f ≡ Some v) (k : Stands f at (length s)) where
      -- the field's value
      abbrev bytes : List ℕ
      bytes = take (v.end - v.start) (drop v.start s)

      -- it has as many bytes as lie between its start and its end
      bytes_length : length bytes ≡ v.end - v.start
      bytes_length = length-take-le (v.end - v.start) (drop v.start s) (simp length-drop (omega (arith, within s at f v here k)))

      -- by its tag, its length, and what stands behind it
      by_parts : read_sizes n (drop at s) ≡ cond (eqb v.tag 7 && eqb (v.end - v.start) (2 * n) && eqb (length (drop v.end s)) 0) (some (sizes_at (drop at s))) none
      unfolding sizes_in sizes_at value_of
      by_parts = one_field h ∙ rw (the_field s at f v here q, bytes_length)

      -- another tag than 7 is no sizes
      pub follow_tag : (v.tag ≡ 7 → ⊥) → read_sizes n (drop at s) ≡ cond false (some (sizes_at (drop at s))) none
      follow_tag g = rw (by_parts, ne_eqb v.tag 7 g)

      -- another length than two bytes a room is no sizes
      pub follow_length : (m : ℕ) → m ≡ n → v.tag ≡ 7 → (v.end - v.start ≡ 2 * m → ⊥) → read_sizes n (drop at s) ≡ cond false (some (sizes_at (drop at s))) none
      follow_length m em g l = rw (by_parts, eq-eqb v.tag 7 g, ← em, ne_eqb (v.end - v.start) (2 * m) l)

      -- else they are sizes exactly if nothing stands behind the field
      pub follow_end : (m : ℕ) → m ≡ n → v.tag ≡ 7 → v.end - v.start ≡ 2 * m → read_sizes n (drop at s) ≡ cond (leb (length s) v.end) (some (sizes_at (drop at s))) none
      follow_end m em g l = rw (by_parts, eq-eqb v.tag 7 g, ← em, eq-eqb (v.end - v.start) (2 * m) l, nothing_left (leb (length s) v.end) refl)
        where
          nothing_left : (b : Bool) → leb (length s) v.end ≡ b → eqb (length (drop v.end s)) 0 ≡ leb (length s) v.end
          nothing_left true z = rw z (eq-eqb (length (drop v.end s)) 0 (simp length-drop (omega (arith, leb-true (length s) v.end z))))
          nothing_left false z = rw z (ne_eqb (length (drop v.end s)) 0 (λ y. omega (arith, leb-false (length s) v.end z, length-drop v.end s)))

-- stars without sizes that can be read are refused with 1
no_sizes : (x : Option Job) → read_rest x none ≡ fails 1
unfolding read_rest
no_sizes none = refl
no_sizes (some j) = refl

-- 1 to 60 rooms have no more than 60 sizes
few_sizes : (n : ℕ) (bs : List ℕ) (z : Sizes) → test2 n ≡ true → read_sizes n bs ≡ some z → length z ≤ 60
unfolding test2
few_sizes n bs z t e = go (sizes_length n bs z e)
  where
    go : Counts n z → length z ≤ 60
    go (inl q) = rw q (omega arith)
    go (inr q) = omega (arith, leb-true n 60 (and_right (leb 1 n) (leb n 60) t))

-- the fields behind the first, as `rest_of` comes by them
module _ (s : List ℕ) (from n : ℕ) (c : Answer Count) (q : counted c ≡ pairs_past 0 (read_stars n (drop from s))) where
  -- not so many stars are refused with 1
  pub rest_none : c ≡ None → (reading (Err NotAJob) s ≡ read_rooms true n (drop from s)) × told (Err NotAJob) s
  unfolding reading told read_rooms number_of
  rest_none u = (sym (count_none (read_stars n (drop from s)) (read_sizes n (after_fields n (drop from s))) c u q), tt)

  module _ (m : Count) (u : c ≡ Some m) (k : behind c s (after_fields n (drop from s))) (b : Bool)
      (r : read_sizes n (drop m.end s) ≡ cond b (some (sizes_at (drop m.end s))) none) where
    -- what stands behind the stars
    the_rest : drop m.end s ≡ after_fields n (drop from s)
    unfolding behind
    the_rest = rw u at k

    -- neither nothing nor sizes behind them is refused with 1
    pub rest_bad : not b ≡ true → (reading (Err NotAJob) s ≡ read_rooms true n (drop from s)) × told (Err NotAJob) s
    unfolding reading told read_rooms number_of
    rest_bad nb =
        let z : read_sizes n (drop m.end s) ≡ none = r ∙ rw (not-true b nb) in
        (sym (rw (← the_rest, z) (no_sizes (read_stars n (drop from s)))), tt)

    -- the stars, and the sizes or nothing: the job is read as it stands, and its pairs are told
    pub rest_whole : not b ≡ false → test2 n ≡ true
        → (reading (Ok (record { rooms = n; first = from; pairs = m.pairs; end = m.end })) s ≡ read_rooms true n (drop from s)) × told (Ok (record { rooms = n; first = from; pairs = m.pairs; end = m.end })) s
    unfolding reading told read_rooms number_of read_rest
    rest_whole nb t =
        let z : read_sizes n (drop m.end s) ≡ some (sizes_at (drop m.end s)) = r ∙ rw (not-false b nb) in
        let (x, y) = count_some n (drop from s) (read_stars n (drop from s)) c m refl u q in
        (rw (← the_rest, z, x), (t, y, few_sizes n (drop m.end s) (sizes_at (drop m.end s)) t z))

-- the one byte of the first field lies within the bytes
pub start_within : (s : List ℕ) (at : ℕ) (f : Answer Found) (v : Found) → f ≡ Some v → Stands f at (length s) → v.end - v.start ≡ 1 → v.start < length s
start_within s at f v here k l = omega (arith, within s at f v here k)

-- the first field, and the number of rooms
module _ (s : List ℕ) (f : Answer Found) where
  -- the shape, as `shape_of` comes by it: a broken first field is refused with 1
  pub shape_broken : found f s ≡ read_field (drop 0 s) → f ≡ None → (reading (Err NotAJob) s ≡ read_job s) × told (Err NotAJob) s
  unfolding reading told read_job read_first number_of
  shape_broken e b = (rw (no_field s 0 f b e), tt)

  module _ (q : found f s ≡ read_field (drop 0 s)) (k : Stands f 0 (length s)) (v : Found) (here : f ≡ Some v) where
    -- the value of the first field
    abbrev first : List ℕ
    first = take (v.end - v.start) (drop v.start s)

    -- it has as many bytes as lie between its start and its end
    first_length : length first ≡ v.end - v.start
    first_length = length-take-le (v.end - v.start) (drop v.start s) (simp length-drop (omega (arith, within s 0 f v here k)))

    -- a job by its first field: of tag 1 and length 1, the number of rooms goes to test 2; else 1
    first_read : read_job s ≡ cond (eqb v.tag 1 && eqb (v.end - v.start) 1) (read_rooms (test2 (get_or first 0 0)) (get_or first 0 0) (drop v.end s)) (fails 1)
    unfolding read_job read_first
    first_read = rw (the_field s 0 f v here q, first_length)

    -- a first field of another tag than 1 is refused with 1
    pub shape_tag : (v.tag ≡ 1 → ⊥) → (reading (Err NotAJob) s ≡ read_job s) × told (Err NotAJob) s
    unfolding reading told number_of
    shape_tag g = (rw (first_read, ne_eqb v.tag 1 g), tt)

    -- a first field of another length than 1 is refused with 1
    pub shape_long : v.tag ≡ 1 → (v.end - v.start ≡ 1 → ⊥) → (reading (Err NotAJob) s ≡ read_job s) × told (Err NotAJob) s
    unfolding reading told number_of
    shape_long g l = (rw (first_read, eq-eqb v.tag 1 g, ne_eqb (v.end - v.start) 1 l), tt)

    -- of tag 1 and length 1, its one byte is the number of rooms
    first_rooms : v.tag ≡ 1 → v.end - v.start ≡ 1 → read_job s ≡ read_rooms (test2 (get_or s v.start 0)) (get_or s v.start 0) (drop v.end s)
    first_rooms g l =
        let h : 0 < v.end - v.start = omega arith in
        let z : v.start + 0 ≡ v.start = omega arith in
        let d : get_or first 0 0 ≡ get_or s v.start 0 = get_or-take (v.end - v.start) (drop v.start s) 0 0 h ∙ get_or-drop v.start s 0 0 ∙ rw z in
        rw (first_read, eq-eqb v.tag 1 g, eq-eqb (v.end - v.start) 1 l, d)

    -- no rooms are refused with 2
    pub shape_none : v.tag ≡ 1 → v.end - v.start ≡ 1 → get_or s v.start 0 ≡ 0 → (reading (Err WrongCount) s ≡ read_job s) × told (Err WrongCount) s
    unfolding reading told read_rooms test2 number_of
    shape_none g l n = (rw (first_rooms g l, n), tt)

    -- more than 60 rooms are refused with 2
    pub shape_many : v.tag ≡ 1 → v.end - v.start ≡ 1 → 60 < get_or s v.start 0 → (reading (Err WrongCount) s ≡ read_job s) × told (Err WrongCount) s
    unfolding reading told read_rooms test2 number_of
    shape_many g l n =
        let o : 1 ≤ get_or s v.start 0 = omega arith in
        (rw (first_rooms g l, le-leb 1 (get_or s v.start 0) o, lt-leb (get_or s v.start 0) 60 n), tt)

    module _ (g : v.tag ≡ 1) (l : v.end - v.start ≡ 1) (o : get_or s v.start 0 ≡ 0 → ⊥) (m : get_or s v.start 0 ≤ 60) where
      -- 1 to 60 rooms pass test 2
      pub right : test2 (get_or s v.start 0) ≡ true
      unfolding test2
      right =
          let p : 1 ≤ get_or s v.start 0 = omega arith in
          rw (le-leb 1 (get_or s v.start 0) p, le-leb (get_or s v.start 0) 60 m)

      -- the job is what stands behind the first field, read as so many rooms
      pub shape_rest : (r : Result Shape Refusal) → (reading r s ≡ read_rooms true (get_or s v.start 0) (drop v.end s)) × told r s → (reading r s ≡ read_job s) × told r s
      shape_rest r (x, y) = (x ∙ sym (rw (first_rooms g l, right)), y)
