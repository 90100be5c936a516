-- The stars that hold a job, turned where they stand, hold the turned job. Assumes nothing.
use Prim.Native.Nat.{ℕ, zero, suc, ◌+◌, ◌-◌, ◌<◌, ◌≤◌}
use mathlib.Core.Path.{◌≡◌, refl, sym, ap, ◌∙◌}
use mathlib.Core.Logic.{◌⊎◌, inl, inr}
use mathlib.Core.Bool.{Bool, true, false, cond, ◌&&◌}
use mathlib.Core.List.{List, [], ◌∷◌, map, Memᴰ}
use native.Mathlib.Omega.{arith}
use borrow.Author.Tests.{eqb-true}
use lib.Dec.{eqb}
use lib.ListN.{length, get_or, take, set, length-map, length-set, length-replicate, replicate}
use lib.Seq.{sets, length-sets, get_or-set_same, get_or-set_other, set-set, set_comm}
use Rattle.floor.specs.Lists.{sum}
use Rattle.floor.specs.Lists.Laws.{bit}
use Rattle.floor.proofs.Lists.Laws.{and_right, count_nil, count_cons, any_mem}
use Rattle.floor.specs.Jobs.{Entry, Star, Job, Room, is_room, star_of, names, opposite, pairs_in}
use Rattle.floor.specs.Jobs.Stars.{entry, named}
use Rattle.floor.specs.Jobs.Facts.{Passes}
use Rattle.floor.proofs.Jobs.Facts.{star_room}
use Rattle.floor.specs.Turns.{with_kind, in_contact}
use Rattle.stars.specs.declared.Stars.{Stars}
use Rattle.stars.specs.Held.{to_at, entry_at, cells, end_of, start_of, held_star, job_of, no_stars, place_in, to_of, kind_of, put_star, put_all, held_of}
use Rattle.stars.proofs.Holding.{length_stars, star_in}
use Rattle.turns.specs.InPlace.{swings, swing_of, two_turned, place_of, two_set, two_put}
use Rattle.turns.proofs.Contacts.{Rooms, contact_rooms}
use Rattle.turns.proofs.Placing.{swung}

-- the neighbours stay as they were where one kind changes
tos_same : (s : Star) (v t : ℕ) → map to_of (with_kind s v t) ≡ map to_of s
unfolding with_kind
tos_same [] v t = refl
tos_same (e ∷ s) v t = go (eqb e.to v) refl (tos_same s v t)
  where
    go : (b : Bool) → eqb e.to v ≡ b → map to_of (with_kind s v t) ≡ map to_of s
        → (cond b (entry v t) e).to ∷ map to_of (with_kind s v t) ≡ e.to ∷ map to_of s
    go true q h = rw (eqb-true e.to v q, h)
    go false q h = rw h

-- as many entries
same_length : (s : Star) (v t : ℕ) → length (with_kind s v t) ≡ length s
unfolding with_kind
same_length s v t = length-map s _

-- where some numbers have v first
index : ℕ → List ℕ → ℕ
index v [] = 0
index v (x ∷ xs) = cond (eqb x v) 0 (suc (index v xs))

-- the place of v in star i, where the stars lie one behind the other
place : Job → ℕ → ℕ → ℕ
place j i v = pairs_in (take i j) + index v (map to_of (get_or j i []))

-- it stays where a kind changes
place_same : (j : Job) (i v t k w : ℕ) → place (set j i (with_kind (get_or j i []) v t)) k w ≡ place j k w
unfolding place pairs_in sum
place_same [] i v t k w = refl
place_same (s ∷ j) zero v t zero w = rw (tos_same s v t)
place_same (s ∷ j) zero v t (suc k) w = rw (same_length s v t)
place_same (s ∷ j) (suc i) v t zero w = refl
place_same (s ∷ j) (suc i) v t (suc k) w = omega (arith, place_same j i v t k w)

-- a star that does not name v stays as it was
not_named : (s : Star) (v t : ℕ) → named v s ≡ 0 → with_kind s v t ≡ s
unfolding with_kind
not_named [] v t h = refl
not_named (e ∷ s) v t h = go (eqb e.to v) (count_cons (λ (d : Entry). eqb d.to v) e s) (not_named s v t)
  where
    go : (b : Bool) → named v (e ∷ s) ≡ bit b + named v s → (named v s ≡ 0 → with_kind s v t ≡ s) → cond b (entry v t) e ∷ with_kind s v t ≡ e ∷ s
    go true c f = absurd (omega arith)
    go false c f = rw (f (omega arith))

-- a star that names v once has it at one of its places
index_in : (s : Star) (v : ℕ) → named v s ≡ 1 → index v (map to_of s) < length s
unfolding index
index_in [] v h = absurd (omega (arith, count_nil (λ (d : Entry). eqb d.to v)))
index_in (e ∷ s) v h = go (eqb e.to v) (count_cons (λ (d : Entry). eqb d.to v) e s) (index_in s v)
  where
    go : (b : Bool) → named v (e ∷ s) ≡ bit b + named v s → (named v s ≡ 1 → index v (map to_of s) < length s)
        → cond b 0 (suc (index v (map to_of s))) < suc (length s)
    go true c f = omega arith
    go false c f = omega (arith, f (omega arith))

-- a number set in front of others that are put
set_before : (l : List ℕ) (p t m : ℕ) (vs : List ℕ) → p < m → sets (set l p t) m vs ≡ set (sets l m vs) p t
set_before l p t m [] h = refl
set_before l p t m (v ∷ vs) h = rw (set_comm l p m t v (λ e. omega arith)) (set_before (set l m v) p t (suc m) vs (omega arith))

-- ONE KIND OF A STAR IS ONE NUMBER among the kinds
one_set : (s : Star) (v t m : ℕ) (l : List ℕ) → named v s ≡ 1
    → sets l m (map kind_of (with_kind s v t)) ≡ set (sets l m (map kind_of s)) (m + index v (map to_of s)) t
unfolding with_kind index
one_set [] v t m l h = absurd (omega (arith, count_nil (λ (d : Entry). eqb d.to v)))
one_set (e ∷ s) v t m l h = go (eqb e.to v) (count_cons (λ (d : Entry). eqb d.to v) e s) (one_set s v t (suc m) (set l m e.kind))
  where
    go : (b : Bool) → named v (e ∷ s) ≡ bit b + named v s
        → (named v s ≡ 1 → sets (set l m e.kind) (suc m) (map kind_of (with_kind s v t))
        ≡ set (sets (set l m e.kind) (suc m) (map kind_of s)) (suc m + index v (map to_of s)) t)
        → sets (set l m (cond b (entry v t) e).kind) (suc m) (map kind_of (with_kind s v t))
        ≡ set (sets (set l m e.kind) (suc m) (map kind_of s)) (m + cond b 0 (suc (index v (map to_of s)))) t
    go true c f =
        let z : m + 0 ≡ m = omega arith in
        rw (not_named s v t (omega arith), z, ← set_before (set l m e.kind) m t (suc m) (map kind_of s) (omega arith), set-set l m e.kind t)
    go false c f =
        let z : m + suc (index v (map to_of s)) ≡ suc m + index v (map to_of s) = omega arith in
        rw z (f (omega arith))

-- the stars with one kind set
abbrev kind_set : Stars → ℕ → ℕ → Stars
kind_set h p t = record { count = h.count; ends = h.ends; nbr = h.nbr; kind = set h.kind p t }

-- a kind set before more stars are put
put_before : (h : Stars) (p t m : ℕ) (j : Job) → p < m → put_all (kind_set h p t) m j ≡ kind_set (put_all h m j) p t
unfolding put_all put_star
put_before h p t m [] l = refl
put_before h p t m (s ∷ j) l = rw (set_before h.kind p t m (map kind_of s) l) (put_before (put_star h m s) p t (m + length s) j (omega arith))

-- a kind set in the star that is put
star_set : (h : Stars) (m : ℕ) (s : Star) (v t : ℕ) → named v s ≡ 1 → put_star h m (with_kind s v t) ≡ kind_set (put_star h m s) (m + index v (map to_of s)) t
unfolding put_star
star_set h m s v t n =
    same (ap (λ (k : ℕ). set h.ends h.count (m + k)) (same_length s v t)) (ap (sets h.nbr m) (tos_same s v t)) (one_set s v t m h.kind n)
  where
    same : {c : ℕ} {e e' x x' k k' : List ℕ} → e ≡ e' → x ≡ x' → k ≡ k'
        → ◌≡◌ {A = Stars} (record { count = c; ends = e; nbr = x; kind = k }) (record { count = c; ends = e'; nbr = x'; kind = k' })
    same p q r = cc

-- ONE KIND OF A JOB IS ONE KIND OF ITS STARS
put_set : (j : Job) (i v t : ℕ) (h : Stars) (m : ℕ) → i < length j → named v (get_or j i []) ≡ 1
    → put_all h m (set j i (with_kind (get_or j i []) v t)) ≡ kind_set (put_all h m j) (m + place j i v) t
unfolding put_all place pairs_in sum
put_set [] i v t h m l n = absurd (omega arith)
put_set (s ∷ j) zero v t h m l n =
    let z : m + index v (map to_of s) ≡ m + (0 + index v (map to_of s)) = omega arith in
    ap (λ (k : ℕ). put_all (put_star h m (with_kind s v t)) (m + k) j) (same_length s v t) ∙ ap (λ (x : Stars). put_all x (m + length s) j) (star_set h m s v t n)
    ∙ put_before (put_star h m s) (m + index v (map to_of s)) t (m + length s) j (omega (arith, index_in s v n))
    ∙ ap (λ (p : ℕ). kind_set (put_all (put_star h m s) (m + length s) j) p t) z
put_set (s ∷ j) (suc i) v t h m l n =
    let z : m + (length s + pairs_in (take i j) + index v (map to_of (get_or j i []))) ≡ m + length s + (pairs_in (take i j) + index v (map to_of (get_or j i []))) =
    omega arith in
    rw z (put_set j i v t (put_star h m s) (m + length s) (omega arith) n)

-- so it is in the stars that hold the job
held_set : (j : Job) (i v t : ℕ) → i < length j → named v (get_or j i []) ≡ 1
    → held_of (set j i (with_kind (get_or j i []) v t)) ≡ kind_set (held_of j) (place j i v) t
unfolding held_of
held_set j i v t l n = let z : 0 + place j i v ≡ place j i v = omega arith in rw z at (put_set j i v t no_stars 0 l n)

-- the ends of a job's stars, put from place c on
ends_from : List ℕ → ℕ → ℕ → Job → List ℕ
ends_from e c m [] = e
ends_from e c m (s ∷ j) = ends_from (set e c (m + length s)) (c + 1) (m + length s) j

-- what the stars that hold a job have in them
all_ends : (h : Stars) (m : ℕ) (j : Job) → (put_all h m j).ends ≡ ends_from h.ends h.count m j
unfolding put_all put_star ends_from
all_ends h m [] = refl
all_ends h m (s ∷ j) = all_ends (put_star h m s) (m + length s) j

-- as many places for neighbours as there were
all_places : (h : Stars) (m : ℕ) (j : Job) → length (put_all h m j).nbr ≡ length h.nbr
unfolding put_all put_star
all_places h m [] = refl
all_places h m (s ∷ j) = all_places (put_star h m s) (m + length s) j ∙ length-sets h.nbr m (map to_of s)

-- where star i starts: behind the pairs before it
ends_below : (e : List ℕ) (c m k : ℕ) (j : Job) → k < c → get_or (ends_from e c m j) k 0 ≡ get_or e k 0
unfolding ends_from
ends_below e c m k [] h = refl
ends_below e c m k (s ∷ j) h =
    ends_below (set e c (m + length s)) (c + 1) (m + length s) k j (omega arith) ∙ get_or-set_other e c k (m + length s) 0 (λ q. omega arith)

-- star k ends behind the pairs of the first k + 1 stars, where the first starts at place m
end_at : (e : List ℕ) (c m k : ℕ) (j : Job) → k < length j → c + length j ≤ length e → get_or (ends_from e c m j) (c + k) 0 ≡ m + pairs_in (take (suc k) j)
unfolding pairs_in sum ends_from
end_at e c m k [] h l = absurd (omega arith)
end_at e c m zero (s ∷ j) h l =
    let z : c + 0 ≡ c = omega arith in
    let y : m + (length s + 0) ≡ m + length s = omega arith in
    rw (z, y) (ends_below (set e c (m + length s)) (c + 1) (m + length s) c j (omega arith) ∙ get_or-set_same e c (m + length s) 0 (omega arith))
end_at e c m (suc k) (s ∷ j) h l =
    let z : c + suc k ≡ c + 1 + k = omega arith in
    rw z (end_at (set e c (m + length s)) (c + 1) (m + length s) k j (omega arith) (omega (arith, length-set e c (m + length s))) ∙ omega arith)

-- the first stars have no more pairs than all of them
pairs_before : (j : Job) (i : ℕ) → pairs_in (take i j) ≤ pairs_in j
unfolding pairs_in sum
pairs_before [] zero = omega arith
pairs_before [] (suc i) = omega arith
pairs_before (s ∷ j) zero = omega arith
pairs_before (s ∷ j) (suc i) = omega (arith, pairs_before j i)

-- no stars have no pairs
none_before : pairs_in [] ≡ 0
unfolding pairs_in sum
none_before = refl

-- the first place of a part that names v
place_index : (m k : ℕ) (nbr kind : List ℕ) (v : ℕ) → place_in m k nbr v ≡ k + index v (map to_of (cells m k nbr kind))
unfolding place_in cells entry_at index
place_index zero k nbr kind v = omega arith
place_index (suc m) k nbr kind v = go (eqb (to_at nbr k) v) (place_index m (suc k) nbr kind v)
  where
    go : (b : Bool) → place_in m (suc k) nbr v ≡ suc k + index v (map to_of (cells m (suc k) nbr kind))
        → cond b k (place_in m (suc k) nbr v) ≡ k + cond b 0 (suc (index v (map to_of (cells m (suc k) nbr kind))))
    go true f = omega arith
    go false f = omega arith

module _ (j : Job) (few : length j ≤ 60) (small : pairs_in j ≤ 360) (back : job_of (held_of j) ≡ j) where
  -- of a job that is held, star i starts behind the pairs of the stars before it
  held_start : (i : ℕ) → i < length j → start_of (held_of j).ends (length (held_of j).nbr) i ≡ pairs_in (take i j)
  unfolding held_of no_stars start_of end_of
  held_start zero h = sym none_before
  held_start (suc i) h =
      let l = length-replicate {A = ℕ} 60 0 in
      let n : length (put_all no_stars 0 j).nbr ≡ 360 = all_places no_stars 0 j ∙ length-replicate {A = ℕ} 360 0 in
      let z : 0 + i ≡ i = omega arith in
      let e : get_or (ends_from (replicate 60 0) 0 0 j) i 0 ≡ pairs_in (take (suc i) j) =
      ap (λ (k : ℕ). get_or (ends_from (replicate 60 0) 0 0 j) k 0) (sym z) ∙ end_at (replicate 60 0) 0 0 i j (omega arith) (omega arith) ∙ omega arith in
      rw (n, all_ends no_stars 0 j, e) (omega (arith, pairs_before j (suc i)))

  -- the held star is the job's
  held_star_lem : (i : ℕ) → i < length j → held_star (held_of j).ends (held_of j).nbr (held_of j).kind i ≡ get_or j i []
  unfolding job_of
  held_star_lem i h =
      let c : length j ≡ (held_of j).count =
      ap length (sym back) ∙ length_stars (held_of j).count 0 (held_of j).ends (held_of j).nbr (held_of j).kind in
      let z : 0 + i ≡ i = omega arith in
      (rw z at (sym (star_in (held_of j).count 0 i (held_of j).ends (held_of j).nbr (held_of j).kind (omega arith)))) ∙ ap (λ (k : Job). get_or k i []) back

  -- the place at which it names v
  held_place : (i v : ℕ) → i < length j → place_of (held_of j).ends (held_of j).nbr i v ≡ place j i v
  unfolding place_of place held_star
  held_place i v h =
      let s : ℕ = start_of (held_of j).ends (length (held_of j).nbr) i in
      place_index (end_of (held_of j).ends (length (held_of j).nbr) i - s) s (held_of j).nbr (held_of j).kind v ∙ rw (held_star_lem i h, held_start i h)

  -- both kinds of a contact
  held_two : (a b t : ℕ) → Rooms (length j) a b → (a ≡ b → ⊥) → named b (star_of j a) ≡ 1 → named a (star_of j b) ≡ 1
      → two_put (held_of j) a b t ≡ held_of (two_turned j a b t)
  unfolding two_put two_set two_turned
  held_two a b t (la, ka, lb, kb) ne na nb =
      let one : Job = set j (a - 4) (with_kind (get_or j (a - 4) []) b t) in
      let w : get_or one (b - 4) [] ≡ get_or j (b - 4) [] = get_or-set_other j (a - 4) (b - 4) (with_kind (get_or j (a - 4) []) b t) [] (λ e. ne (omega arith)) in
      let n : length one ≡ length j = length-set j (a - 4) (with_kind (get_or j (a - 4) []) b t) in
      let x : named b (get_or j (a - 4) []) ≡ 1 = rw (star_room j a la) at na in
      let y : named a (get_or j (b - 4) []) ≡ 1 = rw (star_room j b lb) at nb in
      let second = held_set one (b - 4) a (opposite t) (omega arith) (rw w y) in
      rw (
        star_room j a la,
        star_room j b lb,
        held_place (a - 4) b (omega arith),
        held_place (b - 4) a (omega arith),
        ← place_same j (a - 4) b t (b - 4) a,
      )
      (sym (rw (w, held_set j (a - 4) b t (omega arith) x) at second))

-- two rooms in contact name each other once
met : (j : Job) → Passes j → (u v : ℕ) → in_contact j u v ≡ true → (u ≡ v → ⊥) × (named v (star_of j u) ≡ 1) × (named u (star_of j v) ≡ 1)
unfolding in_contact names
met j ok u v c =
    let (lu, ku, lv, kv) = contact_rooms j u v c in
    let (e, m, q) = any_mem (λ (d : Entry). eqb d.to v) (star_of j u) (and_right (is_room j u && is_room j v) _ c) in
    let is : e.to ≡ v = eqb-true e.to v q in
    let ru : Room j u = (lu, omega arith) in
    let rv : Room j v = (lv, omega arith) in
    let o : Memᴰ (entry u (opposite e.kind)) (star_of j v) = rw is at (ok.opposed u ru e m (omega arith)) in
    (λ z. (ok.entries u ru e m).other (is ∙ sym z), rw is at ((ok.good u ru).once e m), (ok.good v rv).once _ o)

-- THE STARS OF A JOB, TURNED, ARE THE STARS OF THE TURNED JOB
pub held_turned : (j : Job) → length j ≤ 60 → pairs_in j ≤ 360 → job_of (held_of j) ≡ j → Passes j → (u v a b t : ℕ) → swing_of j u v ≡ swings a b t
    → two_put (held_of j) a b t ≡ held_of (two_turned j a b t)
held_turned j few small back ok u v a b t f = let (c, w) = swung j u v a b t f in which w (contact_rooms j u v c) (met j ok u v c)
  where
    which : ((a ≡ u) × (b ≡ v)) ⊎ ((a ≡ v) × (b ≡ u)) → Rooms (length j) u v
        → (u ≡ v → ⊥) × (named v (star_of j u) ≡ 1) × (named u (star_of j v) ≡ 1) → two_put (held_of j) a b t ≡ held_of (two_turned j a b t)
    which (inl (p, q)) r (ne, x, y) = rw (p, q) (held_two j few small back u v t r ne x y)
    which (inr (p, q)) r (ne, x, y) = rw (p, q) (held_two j few small back v u t (r.2, r.3, r.0, r.1) (λ z. ne (sym z)) y x)
