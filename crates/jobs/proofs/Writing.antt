-- The held stars and sizes, written field by field, as the code comes by them. Assumes nothing.
use Prim.Native.Nat.{ℕ, zero, suc, ◌+◌, ◌-◌, ◌*◌, ◌<◌, ◌≤◌}
use mathlib.Core.Path.{◌≡◌, refl, sym, ◌∙◌}
use mathlib.Core.List.{List, [], ◌∷◌, ◌++◌}
use native.Mathlib.Omega.{arith}
use borrow.Author.Tests.{le-leb}
use lib.ListN.{length, get_or, set, length-append}
use lib.Seq.{sets}
use Rattle.floor.specs.Fields.{write_field}
use Rattle.floor.specs.Jobs.{sized_job, star_bytes, write_stars, write_job, size_of, size_bytes, write_sizes, write_sized}
use Rattle.floor.proofs.Jobs.Written.{length_star_bytes, length_size_bytes}
use Rattle.fields.specs.Found.{with_head}
use Rattle.stars.specs.Held.{to_at, entry_at, cells, start_of, end_of, held_star, stars_in, job_in}
use Rattle.stars.specs.Sized.{size_at, sizes_from, sizes_in}
use Rattle.stars.proofs.Holding.{length_stars, length_cells, held_more, held_done}
use Rattle.stars.proofs.Sized.{sizes_more, sizes_done, length_sizes, width_told, height_told}
use Rattle.std.specs.Prelude.{Ok, Err}
use Rattle.refusals.specs.declared.Refusal.TheVariants.{TooShort}
use Rattle.fields.specs.Writes.{replied, writing}
use Rattle.fields.proofs.Puts.{sets_append, short_writes, front_writes}
use Rattle.jobs.specs.Writes.{star_field}

-- the entries of a part, put one by one: what is left to put, put, gives the whole
module _ (o w nbr kind : List ℕ) (at from m i : ℕ) where
  -- the next entry put, those behind it are left
  pub put_more : (x y : ℕ) → sets o (at + 2 * i) (star_bytes (cells (m - i) (from + i) nbr kind)) ≡ w → i < m → x ≡ to_at nbr (from + i)
      → y ≡ get_or kind (from + i) 0
      → sets (set (set o (at + 2 * i) x) (at + 2 * i + 1) y) (at + 2 * (i + 1)) (star_bytes (cells (m - (i + 1)) (from + (i + 1)) nbr kind)) ≡ w
  unfolding star_bytes cells entry_at
  put_more x y inv h ex ey =
      let e₀ : m - i ≡ suc (m - (i + 1)) = omega arith in
      let e₁ : from + (i + 1) ≡ suc (from + i) = omega arith in
      let e₂ : at + 2 * i + 1 ≡ suc (at + 2 * i) = omega arith in
      let e₃ : at + 2 * (i + 1) ≡ suc (suc (at + 2 * i)) = omega arith in
      rw (e₁, e₂, e₃, ex, ey) (rw e₀ at inv)

  -- behind the last entry nothing is left to put
  pub put_done : sets o (at + 2 * i) (star_bytes (cells (m - i) (from + i) nbr kind)) ≡ w → m ≤ i → o ≡ w
  unfolding star_bytes cells
  put_done inv h =
      let e : m - i ≡ 0 = omega arith in
      rw e at inv

-- the field of one star
module _ (ends nbr kind : List ℕ) (i : ℕ) where
  -- its start and how many entries it has
  abbrev begin : ℕ
  begin = start_of ends (length nbr) i

  -- how many entries it has
  abbrev many : ℕ
  many = end_of ends (length nbr) i - begin

  -- three bytes for the head, and two for each entry
  pub length_field : (m : ℕ) → m ≡ many → length (star_field ends nbr kind i) ≡ 3 + 2 * m
  unfolding star_field write_field held_star
  length_field m e = omega (arith, length_star_bytes (cells many begin nbr kind), length_cells many begin nbr kind)

  -- where the field fits, its head and its entries do
  pub field_room : (at m l k : ℕ) → m ≡ many → k ≡ l → at + length (star_field ends nbr kind i) ≤ l → at + 3 + 2 * m ≤ k
  field_room at m l k e q h = omega (arith, length_field m e)

  -- the place behind its head and its entries is the place behind the field
  pub field_end : (at m : ℕ) → m ≡ many → at + 3 + 2 * m ≡ at + length (star_field ends nbr kind i)
  field_end at m e = omega (arith, length_field m e)

  -- a head of tag 2, then the entries, are the field put at its place
  pub field_put : (o h x : List ℕ) (at from m : ℕ) → m ≡ many → from ≡ begin → at + length (star_field ends nbr kind i) ≤ length o
      → h ≡ with_head o at 2 (2 * m)
      → x ≡ sets h (at + 3) (star_bytes (cells m from nbr kind)) → x ≡ sets o at (star_field ends nbr kind i)
  unfolding star_field write_field held_star with_head
  field_put o h x at from m em ef room eh ex =
      let l : length (star_bytes (cells m from nbr kind)) ≡ 2 * m = omega (arith, length_star_bytes (cells m from nbr kind), length_cells m from nbr kind) in
      let r : at + 3 ≤ length o = omega (arith, length_field m em) in
      let e₃ : at + 3 ≡ suc (suc (suc at)) = omega arith in
      rw (← em, ← ef, l) (ex ∙ rw (eh, le-leb (at + 3) (length o) r, e₃))

-- the stars, field by field
module _ (ends nbr kind : List ℕ) (n i : ℕ) (h : i < n) where
  -- the field of star i stands first, then those of the stars behind it
  next_field : write_stars (stars_in (n - i) i ends nbr kind) ≡ star_field ends nbr kind i ++ write_stars (stars_in (n - (i + 1)) (i + 1) ends nbr kind)
  unfolding write_stars star_field
  next_field = rw (held_more ends nbr kind n i h)

  -- together they are as long as the field of star i and those behind it
  next_length : length (write_stars (stars_in (n - i) i ends nbr kind))
      ≡ length (star_field ends nbr kind i) + length (write_stars (stars_in (n - (i + 1)) (i + 1) ends nbr kind))
  next_length = rw next_field (length-append (star_field ends nbr kind i) (write_stars (stars_in (n - (i + 1)) (i + 1) ends nbr kind)))

  -- where all of them fit, the field of star i does
  pub room_field : (at l k : ℕ) → k ≡ l → at + length (write_stars (stars_in (n - i) i ends nbr kind)) ≤ l → at + length (star_field ends nbr kind i) ≤ k
  room_field at l k q r = omega (arith, next_length)

  -- where all of them fit, those behind star i fit behind its field
  pub room_later : (at l y : ℕ) → y ≡ at + length (star_field ends nbr kind i) → at + length (write_stars (stars_in (n - i) i ends nbr kind)) ≤ l
      → y + length (write_stars (stars_in (n - (i + 1)) (i + 1) ends nbr kind)) ≤ l
  room_later at l y e k = omega (arith, next_length)

  -- the next field put, those behind it are left
  pub stars_more : (o w x : List ℕ) (at y : ℕ) → x ≡ sets o at (star_field ends nbr kind i) → y ≡ at + length (star_field ends nbr kind i)
      → sets o at (write_stars (stars_in (n - i) i ends nbr kind)) ≡ w → sets x y (write_stars (stars_in (n - (i + 1)) (i + 1) ends nbr kind)) ≡ w
  stars_more o w x at y ex ey inv =
      rw (ex, ey) (sym (sets_append o at (star_field ends nbr kind i) (write_stars (stars_in (n - (i + 1)) (i + 1) ends nbr kind))) ∙ (rw next_field at inv))

  -- the bytes of the next field added, those behind it are left
  pub total_more : (t l m : ℕ) → m ≡ end_of ends (length nbr) i - start_of ends (length nbr) i → t + length (write_stars (stars_in (n - i) i ends nbr kind)) ≡ l
      → t + (3 + 2 * m) + length (write_stars (stars_in (n - (i + 1)) (i + 1) ends nbr kind)) ≡ l
  total_more t l m e k = omega (arith, next_length, length_field ends nbr kind i m e)

module _ (ends nbr kind : List ℕ) (n i : ℕ) (h : n ≤ i) where
  -- behind the last star no field is left
  no_field : write_stars (stars_in (n - i) i ends nbr kind) ≡ []
  unfolding write_stars
  no_field = rw (held_done ends nbr kind n i h)

  -- behind the last star nothing is left to put
  pub stars_done : (o w : List ℕ) (at : ℕ) → sets o at (write_stars (stars_in (n - i) i ends nbr kind)) ≡ w → o ≡ w
  stars_done o w at inv = rw no_field at inv

  -- behind the last star nothing is left to add
  pub total_done : (t l : ℕ) → t + length (write_stars (stars_in (n - i) i ends nbr kind)) ≡ l → t ≡ l
  total_done t l k = (omega arith) ∙ (rw no_field at k)

-- the whole job
module _ (n : ℕ) (ends nbr kind : List ℕ) where
  -- its bytes
  abbrev bytes : List ℕ
  bytes = write_job (job_in n ends nbr kind)

  -- tag 1, length 1, the number of rooms, then the stars
  job_bytes : bytes ≡ 1 ∷ 0 ∷ 1 ∷ n ∷ write_stars (job_in n ends nbr kind)
  unfolding write_job write_field
  job_bytes = rw (length_stars n 0 ends nbr kind)

  -- four bytes for the first field, then those of the stars
  pub length_job : length bytes ≡ 4 + length (write_stars (job_in n ends nbr kind))
  length_job = rw job_bytes (omega arith)

  -- at the start, with four bytes counted, all the stars are left to add
  pub total_first : 4 + length (write_stars (job_in (n - 0) ends nbr kind)) ≡ length bytes
  total_first =
      let z : n - 0 ≡ n = omega arith in
      rw z (sym length_job)

-- the sizes, written one by one: what is left to put, put, gives the whole
module _ (o w sizes : List ℕ) (at m i : ℕ) where
  -- the next width and height put, those behind them are left
  pub list_more : (x y : ℕ) → sets o (at + 2 * i) (size_bytes (sizes_from (m - i) i sizes)) ≡ w → i < m
      → x ≡ (size_of (sizes_in m sizes) (4 + i)).wide → y ≡ (size_of (sizes_in m sizes) (4 + i)).tall
      → sets (set (set o (at + 2 * i) x) (at + 2 * i + 1) y) (at + 2 * (i + 1)) (size_bytes (sizes_from (m - (i + 1)) (i + 1) sizes)) ≡ w
  unfolding size_bytes size_at
  list_more x y inv h ex ey =
      let wide : x ≡ get_or sizes (2 * i) 0 = ex ∙ sym (width_told sizes m i m refl (get_or sizes (2 * i) 0) h refl) in
      let tall : y ≡ get_or sizes (2 * i + 1) 0 = ey ∙ sym (height_told sizes m i m refl (get_or sizes (2 * i + 1) 0) h refl) in
      let e₂ : at + 2 * i + 1 ≡ suc (at + 2 * i) = omega arith in
      let e₃ : at + 2 * (i + 1) ≡ suc (suc (at + 2 * i)) = omega arith in
      rw (e₂, e₃, wide, tall) (rw (sizes_more sizes m i h) at inv)

  -- behind the last size nothing is left to put
  pub list_done : sets o (at + 2 * i) (size_bytes (sizes_from (m - i) i sizes)) ≡ w → m ≤ i → o ≡ w
  unfolding size_bytes
  list_done inv h = rw (sizes_done sizes m i h) at inv

-- the field of the sizes
module _ (sizes : List ℕ) (n : ℕ) where
  -- where none are told, none is written
  none_written : n ≡ 0 → write_sizes (sizes_in n sizes) ≡ []
  unfolding write_sizes sizes_from
  none_written e = rw e

  -- it takes no bytes then
  pub none_length : n ≡ 0 → 0 ≡ length (write_sizes (sizes_in n sizes))
  none_length e = rw (none_written e)

  -- and leaves a buffer as it is
  pub none_put : (o : List ℕ) (at : ℕ) → n ≡ 0 → o ≡ sets o at (write_sizes (sizes_in n sizes))
  none_put o at e = rw (none_written e)

  -- else it is a field of tag 7
  some_written : (n ≡ 0 → ⊥) → write_sizes (sizes_in n sizes) ≡ write_field 7 (size_bytes (sizes_in n sizes))
  some_written h = go n h
    where
      go : (n : ℕ) → (n ≡ 0 → ⊥) → write_sizes (sizes_in n sizes) ≡ write_field 7 (size_bytes (sizes_in n sizes))
      go zero h = absurd (h refl)
      go (suc n) h = unfold sizes_from write_sizes in refl

  -- two bytes for each size
  list_length : length (size_bytes (sizes_in n sizes)) ≡ 2 * n
  list_length = omega (arith, length_size_bytes (sizes_in n sizes), length_sizes n 0 sizes)

  module _ (h : n ≡ 0 → ⊥) where
    -- three bytes for the head, and two for each size
    pub some_length : 3 + 2 * n ≡ length (write_sizes (sizes_in n sizes))
    unfolding write_field
    some_length = rw (some_written h) (omega (arith, list_length))

    -- where the field fits, its head and its list do
    pub some_room : (at l k : ℕ) → k ≡ l → at + length (write_sizes (sizes_in n sizes)) ≤ l → at + 3 + 2 * n ≤ k
    some_room at l k q r = omega (arith, some_length)

    -- a head of tag 7, then the sizes, are the field put at its place
    pub some_put : (o y x : List ℕ) (at : ℕ) → at + length (write_sizes (sizes_in n sizes)) ≤ length o → y ≡ with_head o at 7 (2 * n)
        → x ≡ sets y (at + 3) (size_bytes (sizes_in n sizes)) → x ≡ sets o at (write_sizes (sizes_in n sizes))
    unfolding write_field with_head
    some_put o y x at room ey ex =
        let r : at + 3 ≤ length o = omega (arith, some_length) in
        let e₃ : at + 3 ≡ suc (suc (suc at)) = omega arith in
        rw (some_written h, list_length) (ex ∙ rw (ey, le-leb (at + 3) (length o) r, e₃))

-- the whole job with its sizes
module _ (n : ℕ) (ends nbr kind : List ℕ) (t : ℕ) (sizes : List ℕ) where
  -- its bytes
  abbrev sized_bytes : List ℕ
  sized_bytes = write_sized (sized_job (job_in n ends nbr kind) (sizes_in t sizes))

  module _ (o : List ℕ) (b c : ℕ) (eb : b ≡ length (write_job (job_in n ends nbr kind)))
      (ec : c ≡ length (write_sizes (sizes_in t sizes))) where
    -- with that of the sizes it is that of the job's bytes
    is_length : b + c ≡ length sized_bytes
    unfolding write_sized
    is_length = omega (arith, eb, length-append (bytes n ends nbr kind) (write_sizes (sizes_in t sizes)))

    -- too short a buffer: refused, and the buffer as it was
    pub write_short : length o < b + c → (replied (Err TooShort) ≡ (writing sized_bytes o).reply) × (o ≡ (writing sized_bytes o).buffer)
    write_short k = short_writes sized_bytes o (omega (arith, is_length))

    -- a buffer with room: the length is told, and the front filled
    pub write_done : (x y v : List ℕ) → y ≡ with_head o 0 1 1 → v ≡ sets (set y 3 n) 4 (write_stars (job_in n ends nbr kind))
        → x ≡ sets v b (write_sizes (sizes_in t sizes)) → b + c ≤ length o
        → (replied (Ok (b + c)) ≡ (writing sized_bytes o).reply) × (x ≡ (writing sized_bytes o).buffer)
    unfolding with_head write_sized
    write_done x y v ey ev ex k =
        let r : 0 + 3 ≤ length o = omega (arith, eb, length_job n ends nbr kind) in
        let z : 0 + length (bytes n ends nbr kind) ≡ b = omega (arith, eb) in
        let g : v ≡ sets o 0 (bytes n ends nbr kind) = ev ∙ rw (ey, le-leb (0 + 3) (length o) r, job_bytes n ends nbr kind) in
        let f : x ≡ sets o 0 sized_bytes = ex ∙ rw (g, ← z) (sym (sets_append o 0 (bytes n ends nbr kind) (write_sizes (sizes_in t sizes)))) in
        front_writes sized_bytes o x (b + c) is_length f (omega (arith, is_length))
