-- The stars that hold a job give that job back. Assumes nothing.
use Prim.Native.Nat.{ℕ, zero, suc, ◌+◌, ◌-◌, ◌%◌, ◌<◌, ◌≤◌}
use mathlib.Core.Path.{◌≡◌, refl, sym, ◌∙◌, subst}
use mathlib.Core.Bool.{Bool, true, not, ◌&&◌, ◌||◌}
use mathlib.Core.List.{List, [], ◌∷◌, map}
use native.Mathlib.Omega.{arith}
use borrow.Author.Tests.{leb-true, lt-ltb, ltb-true}
use lib.Dec.{leb, ltb, eqb}
use lib.ListN.{length, get_or, set, length-set, length-replicate}
use lib.Seq.{sets, length-sets, get_or-set_same, get_or-set_other}
use Rattle.floor.specs.Lists.{all, sum}
use Rattle.floor.proofs.Lists.Laws.{and_left, and_right}
use Rattle.floor.specs.Jobs.{Entry, Star, Job, frame_kind, pairs_in, entry_ok, test4}
use Rattle.stars.specs.declared.Stars.{Stars}
use Rattle.stars.specs.Rooms.{all_from}
use Rattle.stars.specs.Held.{to_at, entry_at, cells, end_of, start_of, held_star, stars_in, job_of, no_stars, to_of, kind_of, put_star, put_all, held_of}
use Rattle.stars.proofs.EveryRoom.{test4_stars}

-- what stands below a place stays as it was
sets_below : (l vs : List ℕ) (i k : ℕ) → k < i → get_or (sets l i vs) k 0 ≡ get_or l k 0
sets_below l [] i k h = refl
sets_below l (v ∷ vs) i k h = sets_below (set l i v) vs (suc i) k (omega arith) ∙ get_or-set_other l i k v 0 (λ e. omega arith)

-- what is put first stays
pub first_put : (l vs : List ℕ) (k v : ℕ) → k < length l → get_or (sets (set l k v) (suc k) vs) k 0 ≡ v
first_put l vs k v h = sets_below (set l k v) vs (suc k) k (omega arith) ∙ get_or-set_same l k v 0 h

module _ where
  -- with some stars more, as many more are counted
  all_count : (h : Stars) (m : ℕ) (j : Job) → (put_all h m j).count ≡ h.count + length j
  unfolding put_all put_star
  all_count h m [] = omega arith
  all_count h m (s ∷ j) = all_count (put_star h m s) (m + length s) j ∙ omega arith

  -- some stars more leave as many places for neighbours
  all_places : (h : Stars) (m : ℕ) (j : Job) → length (put_all h m j).nbr ≡ length h.nbr
  unfolding put_all put_star
  all_places h m [] = refl
  all_places h m (s ∷ j) = all_places (put_star h m s) (m + length s) j ∙ length-sets h.nbr m (map to_of s)

  -- some stars more leave the ends of those already held
  ends_kept : (h : Stars) (m k : ℕ) (j : Job) → k < h.count → get_or (put_all h m j).ends k 0 ≡ get_or h.ends k 0
  unfolding put_all put_star
  ends_kept h m k [] c = refl
  ends_kept h m k (s ∷ j) c =
      ends_kept (put_star h m s) (m + length s) k j (omega arith) ∙ get_or-set_other h.ends h.count k (m + length s) 0 (λ e. omega arith)

  -- some stars more from place m on leave the neighbours before it
  nbr_kept : (h : Stars) (m k : ℕ) (j : Job) → k < m → get_or (put_all h m j).nbr k 0 ≡ get_or h.nbr k 0
  unfolding put_all put_star
  nbr_kept h m k [] c = refl
  nbr_kept h m k (s ∷ j) c = nbr_kept (put_star h m s) (m + length s) k j (omega arith) ∙ sets_below h.nbr (map to_of s) m k c

  -- some stars more from place m on leave the kinds before it
  kind_kept : (h : Stars) (m k : ℕ) (j : Job) → k < m → get_or (put_all h m j).kind k 0 ≡ get_or h.kind k 0
  unfolding put_all put_star
  kind_kept h m k [] c = refl
  kind_kept h m k (s ∷ j) c = kind_kept (put_star h m s) (m + length s) k j (omega arith) ∙ sets_below h.kind (map kind_of s) m k c

-- a star starts at the same place, where the ends of those before it are the same
start_same : (e e' : List ℕ) (most i : ℕ) → ((k : ℕ) → k < i → get_or e k 0 ≡ get_or e' k 0) → start_of e most i ≡ start_of e' most i
unfolding start_of end_of
start_same e e' most zero h = refl
start_same e e' most (suc i) h = rw (h i (omega arith))

-- entries are the same, where the neighbours and kinds up to the last of them are the same
cells_same : (n k : ℕ) (x y x' y' : List ℕ) → ((i : ℕ) → i < k + n → get_or x i 0 ≡ get_or x' i 0) → ((i : ℕ) → i < k + n → get_or y i 0 ≡ get_or y' i 0)
    → cells n k x y ≡ cells n k x' y'
unfolding cells entry_at to_at
cells_same zero k x y x' y' h g = refl
cells_same (suc n) k x y x' y' h g =
    rw (h k (omega arith), g k (omega arith), cells_same n (suc k) x y x' y' (λ i l. h i (omega arith)) (λ i l. g i (omega arith)))

-- every neighbour is a byte
abbrev pub small : Star → Bool
small s = all (λ e. ltb e.to 256) s

-- a star whose neighbours are bytes, put from a place on where there is room, is read from there
cells_put : (s : Star) (k : ℕ) (x y : List ℕ) → small s ≡ true → k + length s ≤ length x → k + length s ≤ length y
    → cells (length s) k (sets x k (map to_of s)) (sets y k (map kind_of s)) ≡ s
unfolding cells entry_at to_at all
cells_put [] k x y b h g = refl
cells_put (e ∷ s) k x y b h g =
    let px : get_or (sets (set x k e.to) (suc k) (map to_of s)) k 0 ≡ e.to = first_put x (map to_of s) k e.to (omega arith) in
    let py : get_or (sets (set y k e.kind) (suc k) (map kind_of s)) k 0 ≡ e.kind = first_put y (map kind_of s) k e.kind (omega arith) in
    let t : e.to < 256 = ltb-true e.to 256 (and_left (ltb e.to 256) (small s) b) in
    let r : e.to % 256 ≡ e.to = omega arith in
    let hx : suc k + length s ≤ length (set x k e.to) = simp length-set (omega arith) in
    let hy : suc k + length s ≤ length (set y k e.kind) = simp length-set (omega arith) in
    rw (px, py, r, cells_put s (suc k) (set x k e.to) (set y k e.kind) (and_right (ltb e.to 256) (small s) b) hx hy)

module _ (h : Stars) (m : ℕ) (s : Star) (j : Job) where
  -- the stars with s put behind them
  abbrev one : Stars
  one = put_star h m s

  -- the stars with s and the stars of j put behind them
  abbrev whole : Stars
  whole = put_all one (m + length s) j

  -- the star just put ends behind its last entry, where there is room for it
  the_end : h.count < length h.ends → m + length s ≤ length h.nbr → end_of one.ends (length one.nbr) h.count ≡ m + length s
  unfolding end_of put_star
  the_end c l = rw (get_or-set_same h.ends h.count (m + length s) 0 c, length-sets h.nbr m (map to_of s)) (omega arith)

  -- it ends there still when others are put behind it
  end_kept : end_of whole.ends (length whole.nbr) h.count ≡ end_of one.ends (length one.nbr) h.count
  unfolding end_of put_star
  end_kept = rw (all_places one (m + length s) j, ends_kept one (m + length s) h.count j (omega arith))

  -- it starts where it would have started before it was put, others behind it or not
  start_kept : start_of whole.ends (length whole.nbr) h.count ≡ start_of h.ends (length h.nbr) h.count
  unfolding put_star
  start_kept =
      rw (all_places one (m + length s) j, length-sets h.nbr m (map to_of s))
      (start_same whole.ends h.ends (length h.nbr) h.count
      (λ k l. ends_kept one (m + length s) k j (omega arith) ∙ get_or-set_other h.ends h.count k (m + length s) 0 (λ e. omega arith)))

  -- the star just put
  here : h.count < length h.ends → m + length s ≤ length h.nbr → m + length s ≤ length h.kind → start_of h.ends (length h.nbr) h.count ≡ m
      → small s ≡ true → held_star whole.ends whole.nbr whole.kind h.count ≡ s
  unfolding held_star put_star
  here c l g e b =
      let d : m + length s - m ≡ length s = omega arith in
      rw (end_kept, the_end c l, start_kept, e, d)
      (cells_same (length s) m whole.nbr whole.kind one.nbr one.kind
      (λ i z. nbr_kept one (m + length s) i j z) (λ i z. kind_kept one (m + length s) i j z)
      ∙ cells_put s m h.nbr h.kind b l g)

-- the arrays of one star more are as long
module _ (h : Stars) (m : ℕ) (s : Star) where
  -- there are places for as many ends
  one_ends : length (put_star h m s).ends ≡ length h.ends
  unfolding put_star
  one_ends = length-set h.ends h.count (m + length s)

  -- there are places for as many neighbours
  one_nbr : length (put_star h m s).nbr ≡ length h.nbr
  unfolding put_star
  one_nbr = length-sets h.nbr m (map to_of s)

  -- there are places for as many kinds
  one_kind : length (put_star h m s).kind ≡ length h.kind
  unfolding put_star
  one_kind = length-sets h.kind m (map kind_of s)

  -- one star more is counted
  one_count : (put_star h m s).count ≡ suc h.count
  unfolding put_star
  one_count = omega arith

  -- the next star starts behind the last entry of the one just put
  next_start : h.count < length h.ends → m + length s ≤ length h.nbr
      → start_of (put_star h m s).ends (length (put_star h m s).nbr) (put_star h m s).count ≡ m + length s
  unfolding start_of
  next_start c l = rw one_count (the_end h m s [] c l)

-- the stars of a job, put behind those held where there is room, are given back
back : (j : Job) (h : Stars) (m : ℕ) → start_of h.ends (length h.nbr) h.count ≡ m → h.count + length j ≤ length h.ends
    → m + pairs_in j ≤ length h.nbr → m + pairs_in j ≤ length h.kind → all small j ≡ true
    → stars_in (length j) h.count (put_all h m j).ends (put_all h m j).nbr (put_all h m j).kind ≡ j
unfolding put_all stars_in pairs_in sum all
back [] h m e c l g b = refl
back (s ∷ j) h m e c l g b =
    let c' : h.count < length h.ends = omega arith in
    let l' : m + length s ≤ length h.nbr = omega arith in
    let g' : m + length s ≤ length h.kind = omega arith in
    let hd = here h m s j c' l' g' e (and_left (small s) (all small j) b) in
    let tl =
    back j (put_star h m s) (m + length s) (next_start h m s c' l') (omega (arith, one_count h m s, one_ends h m s)) (omega (arith, one_nbr h m s))
    (omega (arith, one_kind h m s)) (and_right (small s) (all small j) b) in
    let all = put_all (put_star h m s) (m + length s) j in
    let tl' : stars_in (length j) (suc h.count) all.ends all.nbr all.kind ≡ j =
    subst (λ (i : ℕ). stars_in (length j) i all.ends all.nbr all.kind ≡ j) (one_count h m s) tl in
    cc

-- no stars are counted where none are held
empty_count : no_stars.count ≡ 0
unfolding no_stars
empty_count = refl

-- a job of at most 60 stars, 360 pairs and neighbours that are bytes is given back
pub given_back : (j : Job) → length j ≤ 60 → pairs_in j ≤ 360 → all small j ≡ true → job_of (held_of j) ≡ j
unfolding job_of held_of no_stars start_of
given_back j n p b =
    let z : (put_all no_stars 0 j).count ≡ length j = all_count no_stars 0 j ∙ omega arith in
    let e = length-replicate {A = ℕ} 60 0 in
    let l = length-replicate {A = ℕ} 360 0 in
    rw z (back j no_stars 0 refl (omega arith) (omega arith) (omega arith) b)

-- an entry that passes test 4 names a byte
entry_small : (n u : ℕ) (e : Entry) → n ≤ 60 → entry_ok n u e ≡ true → ltb e.to 256 ≡ true
unfolding entry_ok
entry_small n u e h b =
    let near : Bool = leb e.to (n + 3) in
    let other : Bool = not (eqb e.to u) in
    let low : Bool = leb e.kind 3 in
    let a = and_left near other (and_left (near && other) low (and_left (near && other && low) (leb 4 e.to || eqb e.kind (frame_kind e.to)) b)) in
    lt-ltb e.to 256 (omega (arith, leb-true e.to (n + 3) a))

-- a star whose entries pass test 4 names bytes only
star_small : (n u : ℕ) (s : Star) → n ≤ 60 → all (entry_ok n u) s ≡ true → small s ≡ true
unfolding all
star_small n u [] h b = refl
star_small n u (e ∷ s) h b =
    rw (entry_small n u e h (and_left (entry_ok n u e) (all (entry_ok n u) s) b)) (star_small n u s h (and_right (entry_ok n u e) (all (entry_ok n u) s) b))

-- a job whose entries pass test 4 names bytes only
job_small : (n u : ℕ) (j : Job) → n ≤ 60 → all_from (λ v s. all (entry_ok n v) s) u j ≡ true → all small j ≡ true
unfolding all all_from
job_small n u [] h b = refl
job_small n u (s ∷ j) h b =
    let r = all_from (λ v t. all (entry_ok n v) t) (suc u) j in
    rw (star_small n u s h (and_left (all (entry_ok n u) s) r b)) (job_small n (suc u) j h (and_right (all (entry_ok n u) s) r b))

-- A JOB THAT PASSES TESTS 3 AND 4 IS GIVEN BACK BY THE STARS THAT HOLD IT
pub job_back : (j : Job) → length j ≤ 60 → pairs_in j ≤ 360 → test4 j ≡ true → job_of (held_of j) ≡ j
job_back j n p b = given_back j n p (job_small (length j) 4 j n (sym (test4_stars j) ∙ b))
