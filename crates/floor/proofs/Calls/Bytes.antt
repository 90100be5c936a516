-- What a sound board writes: bytes, and how many. Assumes nothing.
use Rattle.std.specs.Prelude.{ℕ, ◌+◌, ◌*◌, ◌≤◌, ◌<◌, ◌≡◌, refl, length, get_or, leb}
use Rattle.std.proofs.Common.{ap, inl, inr, length-append, arith}
use mathlib.Core.List.{List, [], ◌∷◌, Memᴰ}
use borrow.Author.Tests.{leb-true}
use Rattle.floor.specs.Lists.{sum}
use Rattle.floor.proofs.Lists.Laws.{and_parts, get_or_mem}
use Rattle.floor.specs.Fields.{Bytes, write_field}
use Rattle.floor.proofs.Fields.Laws.{bytes_append, bytes_field, length_field}
use Rattle.floor.specs.Jobs.{Entry, Star, Job, Vertex, pairs_in, test2, test3, write_job, Sizes, SizedJob, write_sizes, write_sized}
use Rattle.floor.proofs.Jobs.Facts.{Fair, sizes_fair}
use Rattle.floor.specs.Jobs.Written.{Counts}
use Rattle.floor.proofs.Jobs.Written.{bytes_job, length_write_sized, bytes_sizes}
use Rattle.floor.specs.Walls.{upright, level, top_of}
use Rattle.floor.proofs.Walls.Rules.{top_sized}
use Rattle.floor.specs.Plans.{Rect, Plan, nowhere, rect_of, rect_bytes, write_rects, write_plan, test18}
use Rattle.floor.specs.Floor.{Inside, GoodPlan}
use Rattle.floor.proofs.Floor.Read.{entry_ok}
use Rattle.floor.specs.Calls.Sound.{Sound}
use Rattle.floor.proofs.Calls.Sound.{sound_good}

-- a star of a job has no more entries than the job has pairs
star_pairs : (j : Job) (s : Star) → Memᴰ s j → length s ≤ pairs_in j
unfolding pairs_in sum
star_pairs [] s x' = elim x' [ ]
star_pairs (r ∷ j) s (Memᴰ.head e) = let q : length s ≡ length r = ap (λ (s : Star). length s) e in omega arith
star_pairs (r ∷ j) s (Memᴰ.tail i) = omega (arith, star_pairs j s i)

-- each rectangle is written as eight bytes
length_rects : (rs : List Rect) → length (write_rects rs) ≡ 8 * length rs
unfolding write_rects rect_bytes
length_rects [] = refl
length_rects (r ∷ rs) = omega (arith, length-append (write_field 4 (rect_bytes r)) (write_rects rs), length_field 4 (rect_bytes r), length_rects rs)

-- a plan is written as five bytes for the sheet and eight for each rectangle
pub length_write_plan : (p : Plan) → length (write_plan p) ≡ 5 + 8 * length p.rects
unfolding write_plan
length_write_plan p =
    omega (
      arith,
      length-append (write_field 3 (p.width ∷ p.height ∷ [])) (write_rects p.rects),
      length_field 3 (p.width ∷ p.height ∷ []),
      length_rects p.rects,
    )

-- rectangles are written as bytes, where the five numbers of each are bytes
rects_bytes : (rs : List Rect) → ((r : Rect) → Memᴰ r rs → Bytes (rect_bytes r)) → Bytes (write_rects rs)
unfolding write_rects rect_bytes
rects_bytes [] h = tt
rects_bytes (r ∷ rs) h =
    bytes_append (write_field 4 (rect_bytes r)) (write_rects rs) (bytes_field 4 (rect_bytes r) (omega arith) (omega arith) (h r (Memᴰ.head refl)))
    (rects_bytes rs (λ q i. h q (Memᴰ.tail i)))

-- no more sizes than rooms
counts_few : (n m : ℕ) (z : Sizes) → Counts n z → n ≤ m → length z ≤ m
counts_few n m z (inl e) h = rw e (omega arith)
counts_few n m z (inr e) h = omega arith

module _ (o : SizedJob) (p : Plan) (s : Sound o p) where
  -- the limits that were tested
  pub limits : (length o.stars ≤ 60) × (pairs_in o.stars ≤ 360) × (p.width ≤ 250) × (p.height ≤ 250)
  unfolding test2 test3 test18
  limits = (
    leb-true (length o.stars) 60 (and_parts (leb 1 (length o.stars)) _ s.pass2).1,
    leb-true (pairs_in o.stars) 360 s.pass3,
    leb-true p.width 250 (and_parts _ _ s.is_drawn.sheet).0,
    leb-true p.height 250 (and_parts (leb p.width 250) _ s.is_drawn.sheet).1,
  )

  -- the held plan is good for its job
  gp : GoodPlan o.stars p
  gp = sound_good o p s

  -- the stars, written, are bytes
  stars_bytes : Bytes (write_job o.stars)
  stars_bytes = bytes_job o.stars (omega (arith, limits.0)) each
    where
      each : (r : Star) → Memᴰ r o.stars → (length r < 32768) × ((e : Entry) → Memᴰ e r → (e.to < 256) × (e.kind < 256))
      each r m = let (i, l, q) = get_or_mem o.stars r [] m in (omega (arith, star_pairs o.stars r m, limits.1), λ e x. small i l e (rw q x))
        where
          small : (i : ℕ) → i < length o.stars → (e : Entry) → Memᴰ e (get_or o.stars i []) → (e.to < 256) × (e.kind < 256)
          small i l e x =
              (omega (arith, (entry_ok o.stars s.passes i l e x).below, limits.0), omega (arith, (entry_ok o.stars s.passes i l e x).small))

  -- A WRITTEN JOB IS BYTES
  pub job_bytes : Bytes (write_sized o)
  unfolding write_sized
  job_bytes =
      bytes_append (write_job o.stars) (write_sizes o.sizes) stars_bytes
      (bytes_sizes o.sizes (omega (arith, counts_few (length o.stars) 60 o.sizes s.counts limits.0))
      (λ r m. let f : Fair r = sizes_fair o.sizes s.pass17 r m in (omega (arith, f.most_width), omega (arith, f.most_height))))

  -- the five numbers of each vertex's rectangle are bytes
  rect_bytes_lem : (v : ℕ) → Vertex o.stars v → Bytes (rect_bytes (rect_of p v))
  unfolding rect_bytes
  rect_bytes_lem v h =
      let i : Inside p (rect_of p v) = gp.inside v h in (
        omega (arith, gp.floor.complete.vertex v h, limits.0),
        (
          omega (arith, i.wide, i.in_width, limits.0, limits.2),
          (
            omega (arith, i.tall, i.in_height, limits.0, limits.3),
            (omega (arith, i.in_width, limits.0, limits.2), (omega (arith, i.in_height, limits.0, limits.3), tt)),
          ),
        ),
      )

  -- A WRITTEN PLAN IS BYTES
  pub plan_bytes : Bytes (write_plan p)
  unfolding write_plan rect_of
  plan_bytes =
      bytes_append (write_field 3 (p.width ∷ p.height ∷ [])) (write_rects p.rects)
      (bytes_field 3 (p.width ∷ p.height ∷ []) (omega arith) (omega arith) (omega (arith, limits.0, limits.2), (omega (arith, limits.0, limits.3), tt)))
      (rects_bytes p.rects each)
    where
      each : (r : Rect) → Memᴰ r p.rects → Bytes (rect_bytes r)
      each r m = let (v, l, q) = get_or_mem p.rects r nowhere m in rw q at (rect_bytes_lem v (omega (arith, gp.floor.complete.count)))

  -- AND HOW LONG THEY ARE
  pub plan_length : length (write_plan p) ≡ 37 + 8 * length o.stars
  plan_length = omega (arith, length_write_plan p, gp.floor.complete.count)

  -- a written job has at most 1,027 bytes
  pub job_length_most : length (write_sized o) ≤ 1027
  job_length_most = omega (arith, length_write_sized o s.counts, limits.0, limits.1)

  -- a written plan has at most 517 bytes
  pub plan_length_most : length (write_plan p) ≤ 517
  plan_length_most = omega (arith, plan_length, limits.0)

  -- NO WALL NUMBER passes 901: sixty rooms of fifteen cells
  pub number_most : (top_of upright o.stars o.sizes ≤ 901) × (top_of level o.stars o.sizes ≤ 901)
  number_most =
      let (x, y) = top_sized o.stars o.sizes s.pass17 in
      (omega (arith, x, limits.0), omega (arith, y, limits.0))
