-- A job written is read back, and a job read is written back: one job, one writing. Assumes nothing.
use Rattle.std.specs.Prelude.{ℕ, zero, suc, ◌+◌, ◌*◌, ◌%◌, ◌<◌, ◌≤◌, ◌≡◌, Bool, true, false, cond, ◌&&◌, length, get_or, eqb, leb}
use Rattle.std.proofs.Math.Path.{refl}
use Rattle.std.proofs.Common.{sym, ap, ◌∙◌, inl, inr, length-append, arith}
use Rattle.std.proofs.Math.Option.{Option, none, some}
use mathlib.Core.List.{List, [], ◌∷◌, Memᴰ, ◌++◌, append_assoc, append-nil}
use borrow.Author.Tests.{eqb-true, eq-eqb, leb-true}
use Rattle.floor.specs.Lists.{sum}
use Rattle.floor.proofs.Lists.Laws.{and_left, and_right, and_parts}
use Rattle.floor.specs.Fields.{Bytes, Field, broken, field, read_field, rest_of, write_field, after_fields}
use Rattle.floor.proofs.Fields.Laws.{bytes_append, bytes_rest, read_write_field, write_read_field, length_field, bytes_field, not_broken}
use Rattle.floor.specs.Jobs.{Entry, Star, Job, pairs_in, test2, entries, star_then, read_stars, fails, reads, read_rest, read_rooms, read_first, read_job}
use Rattle.floor.specs.Jobs.{star_bytes, write_stars, write_job, Size, Sizes, SizedJob, sized_job, size_pairs, sizes_in, read_sizes, size_bytes, write_sizes}
use Rattle.floor.specs.Jobs.{write_sized}
use Rattle.floor.specs.Jobs.Written.{Counts}

-- none is not some; what fails is not read
no_none : {X A : Type 0} (j : A) → none ≡ some j → X
no_none {X} {A} j e = let z : ◌≡◌ {A = ℕ} 0 1 = cc in absurd (omega arith)

-- a reading that fails is no job
no_fails : {X : Type 0} (k : ℕ) (o : SizedJob) → fails k ≡ reads o → X
no_fails k o e = let z : ◌≡◌ {A = ℕ} 0 1 = cc in absurd (omega arith)

-- one star
pub entries_bytes : (s : Star) → entries (star_bytes s) ≡ s
unfolding entries star_bytes
entries_bytes [] = refl
entries_bytes (e ∷ s) = ap (λ (r : Star). e ∷ r) (entries_bytes s)

-- an even number of bytes, read as a star and written again, is the same bytes
pub bytes_entries : (v : List ℕ) → length v % 2 ≡ 0 → star_bytes (entries v) ≡ v
unfolding entries star_bytes
bytes_entries [] e = refl
bytes_entries (a ∷ []) e = absurd (omega arith)
bytes_entries (a ∷ k ∷ v) e = ap (λ (r : List ℕ). a ∷ k ∷ r) (bytes_entries v (omega arith))

-- a star is written as two bytes for each of its entries
pub length_star_bytes : (s : Star) → length (star_bytes s) ≡ 2 * length s
unfolding star_bytes
length_star_bytes [] = refl
length_star_bytes (e ∷ s) = omega (arith, length_star_bytes s)

-- the first of written stars is read as the field it was written as
read_first_star : (s : Star) (j : Job) (rest : List ℕ) → read_field (write_stars (s ∷ j) ++ rest) ≡ field 2 (star_bytes s) (write_stars j ++ rest)
unfolding write_stars
read_first_star s j rest =
    ap read_field (append_assoc (write_field 2 (star_bytes s)) (write_stars j) rest) ∙ read_write_field 2 (star_bytes s) (write_stars j ++ rest)

-- READ WHAT IS WRITTEN: the stars,
pub read_write_stars : (j : Job) (rest : List ℕ) → read_stars (length j) (write_stars j ++ rest) ≡ some j
unfolding read_stars star_then rest_of
read_write_stars [] rest = refl
read_write_stars (s ∷ j) rest =
    let even : eqb (length (star_bytes s) % 2) 0 ≡ true = eq-eqb (length (star_bytes s) % 2) 0 (omega (arith, length_star_bytes s)) in
    rw (read_first_star s j rest, read_write_stars j rest, even, entries_bytes)

-- and behind them is what was written there
pub after_write_stars : (j : Job) (rest : List ℕ) → after_fields (length j) (write_stars j ++ rest) ≡ rest
unfolding after_fields rest_of
after_write_stars [] rest = unfold write_stars in refl
after_write_stars (s ∷ j) rest = ap (λ (f : Field). after_fields (length j) (rest_of f)) (read_first_star s j rest) ∙ after_write_stars j rest

-- sizes written as bytes and read as pairs are the same sizes
pub pairs_bytes : (z : Sizes) → size_pairs (size_bytes z) ≡ z
unfolding size_pairs size_bytes
pairs_bytes [] = refl
pairs_bytes (s ∷ z) = ap (λ (r : Sizes). s ∷ r) (pairs_bytes z)

-- an even number of bytes read as pairs and written are the same bytes, half as many sizes
pub bytes_pairs : (n : ℕ) (v : List ℕ) → length v ≡ 2 * n → (size_bytes (size_pairs v) ≡ v) × (length (size_pairs v) ≡ n)
unfolding size_pairs size_bytes
bytes_pairs zero [] e = (refl, refl)
bytes_pairs zero (a ∷ v) e = absurd (omega arith)
bytes_pairs (suc n) [] e = absurd (omega arith)
bytes_pairs (suc n) (a ∷ []) e = absurd (omega arith)
bytes_pairs (suc n) (a ∷ b ∷ v) e = let (x, y) = bytes_pairs n v (omega arith) in (ap (λ (r : List ℕ). a ∷ b ∷ r) x, ap suc y)

-- two bytes for each size
pub length_size_bytes : (z : Sizes) → length (size_bytes z) ≡ 2 * length z
unfolding size_bytes
length_size_bytes [] = refl
length_size_bytes (s ∷ z) = omega (arith, length_size_bytes z)

-- the sizes, written and read back
pub read_write_sizes : (n : ℕ) (z : Sizes) → Counts n z → read_sizes n (write_sizes z) ≡ some z
unfolding read_sizes write_sizes sizes_in
read_write_sizes n [] c = refl
read_write_sizes n (s ∷ z) (inl e) = let q : ◌≡◌ {A = ℕ} 0 1 = cc in absurd (omega arith)
read_write_sizes n (s ∷ z) (inr e) =
    let f : read_field (write_field 7 (size_bytes (s ∷ z))) ≡ field 7 (size_bytes (s ∷ z)) [] =
    ap read_field (sym (append-nil (write_field 7 (size_bytes (s ∷ z))))) ∙ read_write_field 7 (size_bytes (s ∷ z)) [] in
    let l : eqb (length (size_bytes (s ∷ z))) (2 * n) ≡ true = eq-eqb (length (size_bytes (s ∷ z))) (2 * n) (omega (arith, length_size_bytes (s ∷ z))) in
    written (write_field 7 (size_bytes (s ∷ z))) f l
  where
    written : (bs : List ℕ) → read_field bs ≡ field 7 (size_bytes (s ∷ z)) [] → eqb (length (size_bytes (s ∷ z))) (2 * n) ≡ true → read_sizes n bs ≡ some (s ∷ z)
    written [] f l = not_broken 7 (size_bytes (s ∷ z)) [] (unfold read_field in f)
    written (b ∷ bs) f l = rw (f, l) (ap some (pairs_bytes (s ∷ z)))

-- a job whose number of rooms passes test 2, written and read back, is the same job
pub read_write_job : (o : SizedJob) → test2 (length o.stars) ≡ true → Counts (length o.stars) o.sizes → read_job (write_sized o) ≡ reads o
unfolding read_job write_sized write_job read_first read_rooms read_rest
read_write_job o t c =
    rw (
      append_assoc (write_field 1 (length o.stars ∷ [])) (write_stars o.stars) (write_sizes o.sizes),
      read_write_field 1 (length o.stars ∷ []) (write_stars o.stars ++ write_sizes o.sizes),
      t,
      read_write_stars o.stars (write_sizes o.sizes),
      after_write_stars o.stars (write_sizes o.sizes),
      read_write_sizes (length o.stars) o.sizes c,
    )

-- what a star and the stars behind it were read from
pub record Split (f : Field) (js : Option Job) (j : Job) : Type 0 where
  pub value : List ℕ
  pub rest : List ℕ
  pub more : Job
  pub is_field : f ≡ field 2 value rest
  pub even : length value % 2 ≡ 0
  pub is_more : js ≡ some more
  pub is_job : j ≡ entries value ∷ more

-- stars read from a field and from what follows it come from a field of tag 2 and even length, and from the stars behind it
pub split : (f : Field) (js : Option Job) (j : Job) → star_then f js ≡ some j → Split f js j
unfolding star_then
split broken js j e = no_none j e
split (field t v rest) none j e = no_none j e
split (field t v rest) (some more) j e = go (eqb t 2 && eqb (length v % 2) 0) refl e
  where
    go : (b : Bool) → (eqb t 2 && eqb (length v % 2) 0) ≡ b → cond b (some (entries v ∷ more)) none ≡ some j → Split (field t v rest) (some more) j
    go false q e = no_none j e
    go true q e = record {
      value = v;
      rest = rest;
      more = more;
      is_field = ap (λ (k : ℕ). field k v rest) (eqb-true t 2 (and_left (eqb t 2) (eqb (length v % 2) 0) q));
      even = eqb-true (length v % 2) 0 (and_right (eqb t 2) (eqb (length v % 2) 0) q);
      is_more = refl;
      is_job = cc;
    }

-- what the first field was read from
pub record Counted (f : Field) (o : SizedJob) : Type 0 where
  pub count : ℕ
  pub rest : List ℕ
  pub is_field : f ≡ field 1 (count ∷ []) rest
  pub passes : test2 count ≡ true
  pub is_stars : read_stars count rest ≡ some o.stars
  pub is_sizes : read_sizes count (after_fields count rest) ≡ some o.sizes

-- a job read comes from a first field of tag 1 that holds a number of rooms that passes test 2, and from as many stars behind it
pub counted : (f : Field) (o : SizedJob) → read_first f ≡ reads o → Counted f o
unfolding read_first read_rooms read_rest
counted broken o e = no_fails 1 o e
counted (field t v rest) o e = go (eqb t 1 && eqb (length v) 1) refl e
  where
    single : (v : List ℕ) → length v ≡ 1 → (n : ℕ) × (v ≡ n ∷ [])
    single [] l = absurd (omega arith)
    single (n ∷ []) l = (n, refl)
    single (n ∷ m ∷ r) l = absurd (omega arith)

    rest_of_lem : (a : Option Job) (b : Option Sizes) → read_rest a b ≡ reads o → (a ≡ some o.stars) × (b ≡ some o.sizes)
    rest_of_lem none b e = no_fails 1 o e
    rest_of_lem (some j) none e = no_fails 1 o e
    rest_of_lem (some j) (some z) e =
        let x : sized_job j z ≡ o = cc in
        (ap (λ (i : SizedJob). some i.stars) x, ap (λ (i : SizedJob). some i.sizes) x)

    rooms_of : (n : ℕ) → v ≡ n ∷ [] → t ≡ 1 → (b : Bool) → test2 n ≡ b → read_rooms b n rest ≡ reads o → Counted (field t v rest) o
    rooms_of n ev et false q e = no_fails 2 o e
    rooms_of n ev et true q e =
        let (x, y) = rest_of_lem (read_stars n rest) (read_sizes n (after_fields n rest)) e in
        record { count = n; rest = rest; is_field = rw (ev, et); passes = q; is_stars = x; is_sizes = y }

    go : (b : Bool) → (eqb t 1 && eqb (length v) 1) ≡ b → cond b (read_rooms (test2 (get_or v 0 0)) (get_or v 0 0) rest) (fails 1) ≡ reads o
        → Counted (field t v rest) o
    go false q e = no_fails 1 o e
    go true q e =
        let (n, ev) = single v (eqb-true (length v) 1 (and_right (eqb t 1) (eqb (length v) 1) q)) in
        rooms_of n ev (eqb-true t 1 (and_left (eqb t 1) (eqb (length v) 1) q)) (test2 n) refl (rw ev at e)

-- what the sizes were read from
pub record SizesRead (n : ℕ) (f : Field) (z : Sizes) : Type 0 where
  pub value : List ℕ
  pub is_field : f ≡ field 7 value []
  pub long : length value ≡ 2 * n
  pub is_sizes : z ≡ size_pairs value

-- sizes that were read come from a field of tag 7, two bytes for each room, with nothing behind it
pub told_sizes : (n : ℕ) (f : Field) (z : Sizes) → sizes_in n f ≡ some z → SizesRead n f z
unfolding sizes_in
told_sizes n broken z e = no_none z e
told_sizes n (field t v rest) z e = go (eqb t 7 && eqb (length v) (2 * n) && eqb (length rest) 0) refl e
  where
    nothing : (r : List ℕ) → length r ≡ 0 → r ≡ []
    nothing [] h = refl
    nothing (b ∷ r) h = absurd (omega arith)

    go : (b : Bool) → (eqb t 7 && eqb (length v) (2 * n) && eqb (length rest) 0) ≡ b → cond b (some (size_pairs v)) none ≡ some z
        → SizesRead n (field t v rest) z
    go false q e = no_none z e
    go true q e =
        let (ab, c) = and_parts (eqb t 7 && eqb (length v) (2 * n)) (eqb (length rest) 0) q in
        let (a, b) = and_parts (eqb t 7) (eqb (length v) (2 * n)) ab in
        let et : t ≡ 7 = eqb-true t 7 a in
        let er : rest ≡ [] = nothing rest (eqb-true (length rest) 0 c) in
        record { value = v; is_field = rw (et, er); long = eqb-true (length v) (2 * n) b; is_sizes = cc }

-- as many stars are read as rooms are told
pub read_length : (n : ℕ) (bs : List ℕ) (j : Job) → read_stars n bs ≡ some j → length j ≡ n
unfolding read_stars
read_length zero bs [] e = refl
read_length zero bs (s ∷ j) e = let z : ◌≡◌ {A = ℕ} 0 1 = cc in absurd (omega arith)
read_length (suc n) bs j e =
    let k : Split (read_field bs) (read_stars n (rest_of (read_field bs))) j = split (read_field bs) (read_stars n (rest_of (read_field bs))) j e in
    rw k.is_job (ap suc (read_length n (rest_of (read_field bs)) k.more k.is_more))

-- and as many sizes, if any
pub sizes_length : (n : ℕ) (bs : List ℕ) (z : Sizes) → read_sizes n bs ≡ some z → Counts n z
unfolding read_sizes sizes_in
sizes_length n [] z e = inl (let x : [] ≡ z = cc in sym x)
sizes_length n (b ∷ bs) z e = let k : SizesRead n (read_field (b ∷ bs)) z = told_sizes n (read_field (b ∷ bs)) z e in
    inr (rw k.is_sizes (bytes_pairs n k.value k.long).1)

-- what was read passed test 2,
pub read_test2 : (bs : List ℕ) (o : SizedJob) → read_job bs ≡ reads o → test2 (length o.stars) ≡ true
unfolding read_job
read_test2 bs o e =
    let k : Counted (read_field bs) o = counted (read_field bs) o e in
    rw (read_length k.count k.rest o.stars k.is_stars) k.passes

-- and has as many sizes as rooms, if any
pub read_counts : (bs : List ℕ) (o : SizedJob) → read_job bs ≡ reads o → Counts (length o.stars) o.sizes
unfolding read_job
read_counts bs o e =
    let k : Counted (read_field bs) o = counted (read_field bs) o e in
    rw (read_length k.count k.rest o.stars k.is_stars) (sizes_length k.count (after_fields k.count k.rest) o.sizes k.is_sizes)

-- WRITE WHAT IS READ
pub write_read_stars : (n : ℕ) (bs : List ℕ) (j : Job) → Bytes bs → read_stars n bs ≡ some j
    → (write_stars j ++ after_fields n bs ≡ bs) × Bytes (after_fields n bs)
unfolding read_stars write_stars rest_of after_fields
write_read_stars zero bs [] ok e = (refl, ok)
write_read_stars zero bs (s ∷ j) ok e = let z : ◌≡◌ {A = ℕ} 0 1 = cc in absurd (omega arith)
write_read_stars (suc n) bs j ok e =
    let k : Split (read_field bs) (read_stars n (rest_of (read_field bs))) j = split (read_field bs) (read_stars n (rest_of (read_field bs))) j e in
    let m : read_stars n k.rest ≡ some k.more = ap (λ (f : Field). read_stars n (rest_of f)) (sym k.is_field) ∙ k.is_more in
    go k.value k.rest k.more k.is_field k.even k.is_job
    (write_read_stars n k.rest k.more (bytes_rest bs 2 k.value k.rest ok k.is_field) m)
  where
    go : (v rest : List ℕ) (more : Job) → read_field bs ≡ field 2 v rest → length v % 2 ≡ 0 → j ≡ entries v ∷ more
        → (write_stars more ++ after_fields n rest ≡ rest) × Bytes (after_fields n rest)
        → (write_stars j ++ after_fields (suc n) bs ≡ bs) × Bytes (after_fields (suc n) bs)
    go v rest more ef ev ej (x, y) =
        let a : after_fields (suc n) bs ≡ after_fields n rest = ap (λ (f : Field). after_fields n (rest_of f)) ef in
        let w : write_stars j ≡ write_field 2 v ++ write_stars more =
        ap write_stars ej ∙ ap (λ (b : List ℕ). write_field 2 b ++ write_stars more) (bytes_entries v ev) in (
          ap (λ (b : List ℕ). b ++ after_fields (suc n) bs) w
              ∙ ap (λ (b : List ℕ). (write_field 2 v ++ write_stars more) ++ b) a
              ∙ append_assoc (write_field 2 v) (write_stars more) (after_fields n rest)
              ∙ ap (λ (b : List ℕ). write_field 2 v ++ b) x
              ∙ write_read_field bs 2 v rest ok ef,
          rw a y,
        )

-- sizes that are told are written as one field
write_some : (z : Sizes) → 0 < length z → write_sizes z ≡ write_field 7 (size_bytes z)
unfolding write_sizes
write_some [] h = absurd (omega arith)
write_some (s ∷ z) h = refl

-- what the sizes were read from is what they are written as
write_read_sizes : (n : ℕ) (bs : List ℕ) (z : Sizes) → 0 < n → Bytes bs → read_sizes n bs ≡ some z → write_sizes z ≡ bs
unfolding read_sizes write_sizes
write_read_sizes n [] z l ok e = let x : [] ≡ z = cc in ap write_sizes (sym x)
write_read_sizes n (b ∷ bs) z l ok e =
    let k : SizesRead n (read_field (b ∷ bs)) z = told_sizes n (read_field (b ∷ bs)) z e in
    go k.value k.is_field k.long k.is_sizes
  where
    go : (v : List ℕ) → read_field (b ∷ bs) ≡ field 7 v [] → length v ≡ 2 * n → z ≡ size_pairs v → write_sizes z ≡ b ∷ bs
    go v ef lv ez =
        let (x, y) = bytes_pairs n v lv in
        let h : 0 < length z = rw ez (omega arith) in
        write_some z h
        ∙ ap (λ (u : Sizes). write_field 7 (size_bytes u)) ez
        ∙ ap (write_field 7) x
        ∙ sym (append-nil (write_field 7 v))
        ∙ write_read_field (b ∷ bs) 7 v [] ok ef

-- bytes that are read as a job are what that job is written as
pub write_read_job : (bs : List ℕ) (o : SizedJob) → Bytes bs → read_job bs ≡ reads o → write_sized o ≡ bs
unfolding read_job write_sized write_job
write_read_job bs o ok e =
    let k : Counted (read_field bs) o = counted (read_field bs) o e in
    let (x, y) = write_read_stars k.count k.rest o.stars (bytes_rest bs 1 (k.count ∷ []) k.rest ok k.is_field) k.is_stars in
    rw (
      append_assoc (write_field 1 (length o.stars ∷ [])) (write_stars o.stars) (write_sizes o.sizes),
      read_length k.count k.rest o.stars k.is_stars,
      write_read_sizes k.count (after_fields k.count k.rest) o.sizes (some_rooms k.count k.passes) y k.is_sizes,
      x,
    )
    (write_read_field bs 1 (k.count ∷ []) k.rest ok k.is_field)
  where
    some_rooms : (n : ℕ) → test2 n ≡ true → 0 < n
    some_rooms n t = unfold test2 in omega (arith, leb-true 1 n (and_left (leb 1 n) (leb n 60) t))

-- how long a written job is
length_stars : (j : Job) → length (write_stars j) ≡ 3 * length j + 2 * pairs_in j
unfolding write_stars pairs_in sum
length_stars [] = refl
length_stars (s ∷ j) =
    omega (arith, length-append (write_field 2 (star_bytes s)) (write_stars j), length_field 2 (star_bytes s), length_star_bytes s, length_stars j)

-- a written job has four bytes for its first field, three for each star and two for each pair
pub length_write_job : (j : Job) → length (write_job j) ≡ 4 + 3 * length j + 2 * pairs_in j
unfolding write_job
length_write_job j = omega (arith, length-append (write_field 1 (length j ∷ [])) (write_stars j), length_field 1 (length j ∷ []), length_stars j)

-- what is written are bytes, where neighbours and kinds are, and each star fits a field
bytes_star : (s : Star) → ((e : Entry) → Memᴰ e s → (e.to < 256) × (e.kind < 256)) → Bytes (star_bytes s)
unfolding star_bytes
bytes_star [] h = tt
bytes_star (e ∷ s) h =
    let x : (e.to < 256) × (e.kind < 256) = h e (Memᴰ.head refl) in
    (x.0, (x.1, bytes_star s (λ d m. h d (Memᴰ.tail m))))

-- the stars of a job are written as bytes, where each neighbour and kind is a byte and each star fits a field
bytes_stars : (j : Job) → ((s : Star) → Memᴰ s j → (length s < 32768) × ((e : Entry) → Memᴰ e s → (e.to < 256) × (e.kind < 256)))
    → Bytes (write_stars j)
unfolding write_stars
bytes_stars [] h = tt
bytes_stars (s ∷ j) h =
    let (long, small) = h s (Memᴰ.head refl) in
    bytes_append (write_field 2 (star_bytes s)) (write_stars j)
    (bytes_field 2 (star_bytes s) (omega arith) (omega (arith, length_star_bytes s)) (bytes_star s small)) (bytes_stars j (λ r m. h r (Memᴰ.tail m)))

-- so is a job, where besides its number of rooms is a byte
pub bytes_job : (j : Job) → length j < 256
    → ((s : Star) → Memᴰ s j → (length s < 32768) × ((e : Entry) → Memᴰ e s → (e.to < 256) × (e.kind < 256))) → Bytes (write_job j)
unfolding write_job
bytes_job j l h =
    bytes_append (write_field 1 (length j ∷ [])) (write_stars j) (bytes_field 1 (length j ∷ []) (omega arith) (omega arith) (l, tt)) (bytes_stars j h)

-- written sizes have at most three bytes and two for each room
pub length_write_sizes : (n : ℕ) (z : Sizes) → Counts n z → length (write_sizes z) ≤ 3 + 2 * n
unfolding write_sizes
length_write_sizes n [] c = omega arith
length_write_sizes n (s ∷ z) (inl e) = let q : ◌≡◌ {A = ℕ} 0 1 = cc in absurd (omega arith)
length_write_sizes n (s ∷ z) (inr e) = omega (arith, length_field 7 (size_bytes (s ∷ z)), length_size_bytes (s ∷ z))

-- how long a written job with its sizes can be
pub length_write_sized : (o : SizedJob) → Counts (length o.stars) o.sizes
    → length (write_sized o) ≤ 7 + 5 * length o.stars + 2 * pairs_in o.stars
unfolding write_sized
length_write_sized o c =
    omega (arith, length-append (write_job o.stars) (write_sizes o.sizes), length_write_job o.stars, length_write_sizes (length o.stars) o.sizes c)

-- widths and heights that are bytes are written as bytes,
bytes_size_bytes : (z : Sizes) → ((s : Size) → Memᴰ s z → (s.wide < 256) × (s.tall < 256)) → Bytes (size_bytes z)
unfolding size_bytes
bytes_size_bytes [] h = tt
bytes_size_bytes (s ∷ z) h =
    let x : (s.wide < 256) × (s.tall < 256) = h s (Memᴰ.head refl) in
    (x.0, (x.1, bytes_size_bytes z (λ r m. h r (Memᴰ.tail m))))

-- and so are the sizes, where they fit a field
pub bytes_sizes : (z : Sizes) → length z < 32768 → ((s : Size) → Memᴰ s z → (s.wide < 256) × (s.tall < 256)) → Bytes (write_sizes z)
unfolding write_sizes
bytes_sizes [] l h = tt
bytes_sizes (s ∷ z) l h = bytes_field 7 (size_bytes (s ∷ z)) (omega arith) (omega (arith, length_size_bytes (s ∷ z))) (bytes_size_bytes (s ∷ z) h)
