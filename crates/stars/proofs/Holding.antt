-- The held stars, as the code comes by them. Assumes nothing.
use Prim.Native.Nat.{ℕ, zero, suc, ◌+◌, ◌-◌, ◌<◌, ◌≤◌, min}
use mathlib.Core.Path.{◌≡◌, refl, sym, ◌∙◌, ap}
use mathlib.Core.Bool.{Bool, true, false, cond, not, ◌&&◌, ◌||◌}
use mathlib.Core.List.{List, [], ◌∷◌}
use native.Mathlib.Omega.{arith}
use borrow.Author.Tests.{le-leb, lt-leb, leb-true, leb-false, lt-ltb, le-ltb, eq-eqb, ne_eqb, not-true, not-false}
use lib.Dec.{leb, ltb, eqb}
use lib.ListN.{length, get_or, get_or-eq_default}
use Rattle.floor.specs.Lists.{all, any}
use Rattle.floor.specs.Jobs.{Star, Job, opposite, star_of, names, lists, test6}
use Rattle.stars.specs.declared.Stars.{Stars}
use Rattle.stars.specs.Rooms.{all_from}
use Rattle.stars.specs.Held.{to_at, entry_at, cells, end_of, start_of, held_star, stars_in, job_in, job_of, place_in, answers, star_answers}
use Rattle.stars.proofs.EveryRoom.{test6_stars}

module _ (l : List ℕ) (most i : ℕ) where
  pub start_first : i ≡ 0 → 0 ≡ start_of l most i
  unfolding start_of
  start_first e = rw e

  pub start_later : (x : ℕ) → (i ≡ 0 → ⊥) → x ≡ end_of l most (i - 1) → x ≡ start_of l most i
  unfolding start_of
  start_later x n p = let e : i ≡ suc (i - 1) = omega arith in rw e p

-- the next entry of a part, and those behind it
module _ (nbr kind : List ℕ) (end k : ℕ) where
  -- the entries from place k to the end are the one at k and those behind it
  pub cells_more : k < end → cells (end - k) k nbr kind ≡ entry_at nbr kind k ∷ cells (end - (k + 1)) (k + 1) nbr kind
  unfolding cells
  cells_more h =
      let d : end - k ≡ suc (end - (k + 1)) = omega arith in
      let s : k + 1 ≡ suc k = omega arith in
      rw (d, s)

  -- at the end there is no entry left
  pub cells_done : end ≤ k → cells (end - k) k nbr kind ≡ []
  unfolding cells
  cells_done h =
      let d : end - k ≡ 0 = omega arith in
      rw d

-- the next star, and those behind it
module _ (ends nbr kind : List ℕ) (n i : ℕ) where
  -- the stars from star i on are star i and those behind it
  pub held_more : i < n → stars_in (n - i) i ends nbr kind ≡ held_star ends nbr kind i ∷ stars_in (n - (i + 1)) (i + 1) ends nbr kind
  unfolding stars_in
  held_more h =
      let d : n - i ≡ suc (n - (i + 1)) = omega arith in
      let s : i + 1 ≡ suc i = omega arith in
      rw (d, s)

  -- behind the last there is no star left
  pub held_done : n ≤ i → stars_in (n - i) i ends nbr kind ≡ []
  unfolding stars_in
  held_done h =
      let d : n - i ≡ 0 = omega arith in
      rw d

-- some entry of a part
module _ (nbr kind : List ℕ) (v want : ℕ) where
  -- the test of one entry
  abbrev listed : ℕ → Bool
  listed k = eqb (to_at nbr k) v && eqb (get_or kind k 0) want

  module _ (w : Bool) (end k : ℕ) where
    pub lists_here : (b : Bool) → b ≡ listed k → b ≡ true → k < end → lists (cells (end - k) k nbr kind) v want ≡ w → true ≡ w
    unfolding lists any entry_at
    lists_here b e t h inv = rw (cells_more nbr kind end k h, ← e, t) at inv

    pub lists_next : (b : Bool) → b ≡ listed k → b ≡ false → k < end → lists (cells (end - k) k nbr kind) v want ≡ w
        → lists (cells (end - (k + 1)) (k + 1) nbr kind) v want ≡ w
    unfolding lists any entry_at
    lists_next b e t h inv = rw (cells_more nbr kind end k h, ← e, t) at inv

    pub lists_done : end ≤ k → lists (cells (end - k) k nbr kind) v want ≡ w → false ≡ w
    unfolding lists any
    lists_done h inv = rw (cells_done nbr kind end k h) at inv

-- the star at place k of those from star i on is star i + k
pub star_in : (m i k : ℕ) (ends nbr kind : List ℕ) → k < m → get_or (stars_in m i ends nbr kind) k [] ≡ held_star ends nbr kind (i + k)
unfolding stars_in
star_in zero i k ends nbr kind h = absurd (omega arith)
star_in (suc m) i zero ends nbr kind h = let e : i + 0 ≡ i = omega arith in rw e
star_in (suc m) i (suc k) ends nbr kind h =
    let e : i + suc k ≡ suc i + k = omega arith in
    rw e (star_in m (suc i) k ends nbr kind (omega arith))

-- as many entries, and as many stars, as are asked for
pub length_cells : (m k : ℕ) (nbr kind : List ℕ) → length (cells m k nbr kind) ≡ m
unfolding cells
length_cells zero k nbr kind = refl
length_cells (suc m) k nbr kind = ap suc (length_cells m (suc k) nbr kind)

-- so many stars are a job of so many rooms
pub length_stars : (m i : ℕ) (ends nbr kind : List ℕ) → length (stars_in m i ends nbr kind) ≡ m
unfolding stars_in
length_stars zero i ends nbr kind = refl
length_stars (suc m) i ends nbr kind = ap suc (length_stars m (suc i) ends nbr kind)

-- the star of a vertex
module _ (ends nbr kind : List ℕ) (n v u want : ℕ) where
  -- the job of n stars that lie one behind the other
  abbrev job : Job
  job = job_in n ends nbr kind

  -- a frame side has an empty star
  side_star : v < 4 → star_of job v ≡ []
  unfolding star_of
  side_star h = rw (lt-leb 4 v h)

  -- a number past the rooms has an empty star
  none_star : 4 ≤ v → n ≤ v - 4 → star_of job v ≡ []
  unfolding star_of
  none_star h k =
      let p : length job ≤ v - 4 = omega (arith, length_stars n 0 ends nbr kind) in
      rw (le-leb 4 v h, get_or-eq_default job [] p)

  -- the star of a room has the entries from where it starts to where it ends
  pub room_star : (x y : ℕ) → 4 ≤ v → v - 4 < n → x ≡ start_of ends (length nbr) (v - 4) → y ≡ end_of ends (length nbr) (v - 4)
      → star_of job v ≡ cells (y - x) x nbr kind
  unfolding star_of held_star
  room_star x y h k ex ey =
      let z : 0 + (v - 4) ≡ v - 4 = omega arith in
      rw (le-leb 4 v h, star_in n 0 (v - 4) ends nbr kind k, z, held_star, ← ex, ← ey)

  pub side_lists : v < 4 → false ≡ lists (star_of job v) u want
  unfolding lists any
  side_lists h = rw (side_star h)

  pub none_lists : 4 ≤ v → n ≤ v - 4 → false ≡ lists (star_of job v) u want
  unfolding lists any
  none_lists h k = rw (none_star h k)

  pub room_lists : (r : Bool) (x y : ℕ) → 4 ≤ v → v - 4 < n → x ≡ start_of ends (length nbr) (v - 4) → y ≡ end_of ends (length nbr) (v - 4)
      → r ≡ lists (cells (y - x) x nbr kind) u want → r ≡ lists (star_of job v) u want
  room_lists r x y h k ex ey e = rw (room_star x y h k ex ey) e

-- the first place that names a vertex
module _ (nbr : List ℕ) (v w end k : ℕ) where
  pub place_here : (x : ℕ) → x ≡ to_at nbr k → x ≡ v → k < end → place_in (end - k) k nbr v ≡ w → k ≡ w
  unfolding place_in
  place_here x e q h inv =
      let d : end - k ≡ suc (end - (k + 1)) = omega arith in
      rw (d, ← e, eq-eqb x v q) at inv

  pub place_next : (x : ℕ) → x ≡ to_at nbr k → (x ≡ v → ⊥) → k < end → place_in (end - k) k nbr v ≡ w → place_in (end - (k + 1)) (k + 1) nbr v ≡ w
  unfolding place_in
  place_next x e q h inv =
      let d : end - k ≡ suc (end - (k + 1)) = omega arith in
      let s : k + 1 ≡ suc k = omega arith in
      rw s (rw (d, ← e, ne_eqb x v q, s) at inv)

  pub place_done : end ≤ k → place_in (end - k) k nbr v ≡ w → k ≡ w
  unfolding place_in
  place_done h inv =
      let d : end - k ≡ 0 = omega arith in
      rw d at inv

-- a star names a vertex exactly where the place is one of its own
pub names_place : (m k : ℕ) (nbr kind : List ℕ) (v : ℕ) → names (cells m k nbr kind) v ≡ ltb (place_in m k nbr v) (k + m)
unfolding names any cells entry_at place_in
names_place zero k nbr kind v = sym (le-ltb k (k + 0) (omega arith))
names_place (suc m) k nbr kind v = go (eqb (to_at nbr k) v) (names_place m (suc k) nbr kind v)
  where
    go : (b : Bool) → names (cells m (suc k) nbr kind) v ≡ ltb (place_in m (suc k) nbr v) (suc k + m)
        → (b || names (cells m (suc k) nbr kind) v) ≡ ltb (cond b k (place_in m (suc k) nbr v)) (k + suc m)
    go true h = sym (lt-ltb k (k + suc m) (omega arith))
    go false h = let s : k + suc m ≡ suc k + m = omega arith in rw s h

module _ (ends nbr kind : List ℕ) (n v u : ℕ) where
  pub side_names : v < 4 → false ≡ names (star_of (job_in n ends nbr kind) v) u
  unfolding names any
  side_names h = rw (side_star ends nbr kind n v u 0 h)

  pub none_names : 4 ≤ v → n ≤ v - 4 → false ≡ names (star_of (job_in n ends nbr kind) v) u
  unfolding names any
  none_names h k = rw (none_star ends nbr kind n v u 0 h k)

  pub room_names : (x y p : ℕ) → 4 ≤ v → v - 4 < n → x ≡ start_of ends (length nbr) (v - 4) → y ≡ end_of ends (length nbr) (v - 4)
      → p ≡ place_in (y - x) x nbr u → ltb p y ≡ names (star_of (job_in n ends nbr kind) v) u
  unfolding names any cells place_in
  room_names x y p h k ex ey e = rw (room_star ends nbr kind n v u 0 x y h k ex ey) (go (leb x y) refl)
    where
      go : (b : Bool) → leb x y ≡ b → ltb p y ≡ names (cells (y - x) x nbr kind) u
      go true t =
          let l : x ≤ y = leb-true x y t in
          let d : x + (y - x) ≡ y = omega arith in
          rw e (sym (rw d at (names_place (y - x) x nbr kind u)))
      go false t =
          let l : y < x = leb-false x y t in
          let d : y - x ≡ 0 = omega arith in
          rw (e, d) (le-ltb x y (omega arith))

-- the answer to an entry
module _ (j : Job) (nbr kind : List ℕ) (u k v : ℕ) where
  pub answer_side : v ≡ to_at nbr k → v < 4 → true ≡ answers j u (entry_at nbr kind k)
  unfolding answers entry_at
  answer_side e h = rw (← e, lt-leb 4 v h)

  pub answer_room : (r : Bool) (x y : ℕ) → v ≡ to_at nbr k → 4 ≤ v → x ≡ get_or kind k 0 → y ≡ opposite x → r ≡ lists (star_of j v) u y
      → r ≡ answers j u (entry_at nbr kind k)
  unfolding answers entry_at
  answer_room r x y e h f g q = rw (← e, ← f, ← g, le-leb 4 v h) q

-- the answers to the entries of a part
module _ (j : Job) (nbr kind : List ℕ) (u end k : ℕ) (w : Bool) where
  pub part_false : (b : Bool) → b ≡ answers j u (entry_at nbr kind k) → not b ≡ true → k < end → star_answers j u (cells (end - k) k nbr kind) ≡ w → false ≡ w
  unfolding star_answers all
  part_false b e t h inv = rw (cells_more nbr kind end k h, ← e, not-true b t) at inv

  pub part_next : (b : Bool) → b ≡ answers j u (entry_at nbr kind k) → not b ≡ false → k < end → star_answers j u (cells (end - k) k nbr kind) ≡ w
      → star_answers j u (cells (end - (k + 1)) (k + 1) nbr kind) ≡ w
  unfolding star_answers all
  part_next b e t h inv = rw (cells_more nbr kind end k h, ← e, not-false b t) at inv

  pub part_done : end ≤ k → star_answers j u (cells (end - k) k nbr kind) ≡ w → true ≡ w
  unfolding star_answers all
  part_done h inv = rw (cells_done nbr kind end k h) at inv

-- the answers to a whole star
pub star_whole : (j : Job) (ends nbr kind : List ℕ) (u i x y : ℕ) (r : Bool) → x ≡ start_of ends (length nbr) i → y ≡ end_of ends (length nbr) i
    → r ≡ star_answers j u (cells (y - x) x nbr kind) → r ≡ star_answers j u (held_star ends nbr kind i)
unfolding held_star
star_whole j ends nbr kind u i x y r ex ey e = rw (← ex, ← ey) e

-- test 6, star by star
module _ (p : ℕ → Star → Bool) (ends nbr kind : List ℕ) (n i : ℕ) (w : Bool) where
  pub stars_false : (b : Bool) → b ≡ p (4 + i) (held_star ends nbr kind i) → not b ≡ true → i < n → all_from p (4 + i) (stars_in (n - i) i ends nbr kind) ≡ w
      → false ≡ w
  unfolding all_from
  stars_false b e t h inv = rw (held_more ends nbr kind n i h, ← e, not-true b t) at inv

  pub stars_next : (b : Bool) → b ≡ p (4 + i) (held_star ends nbr kind i) → not b ≡ false → i < n → all_from p (4 + i) (stars_in (n - i) i ends nbr kind) ≡ w
      → all_from p (4 + (i + 1)) (stars_in (n - (i + 1)) (i + 1) ends nbr kind) ≡ w
  unfolding all_from
  stars_next b e t h inv =
      let f : 4 + (i + 1) ≡ suc (4 + i) = omega arith in
      rw f (rw (held_more ends nbr kind n i h, ← e, not-false b t) at inv)

  pub stars_done : n ≤ i → all_from p (4 + i) (stars_in (n - i) i ends nbr kind) ≡ w → true ≡ w
  unfolding all_from
  stars_done h inv = rw (held_done ends nbr kind n i h) at inv

-- stars behind the ends that are told are empty
pub past_ends : (ends nbr kind : List ℕ) (i : ℕ) → length ends ≤ i → held_star ends nbr kind i ≡ []
unfolding held_star end_of cells
past_ends ends nbr kind i h =
    let e : get_or ends i 0 ≡ 0 = get_or-eq_default ends 0 h in
    let d : min (get_or ends i 0) (length nbr) - start_of ends (length nbr) i ≡ 0 = omega (arith, e) in
    rw d

-- and nothing is left unanswered there
pub answered_past : (j : Job) (ends nbr kind : List ℕ) (m i u : ℕ) → (0 < m → length ends ≤ i) → all_from (star_answers j) u (stars_in m i ends nbr kind) ≡ true
unfolding all_from stars_in star_answers all
answered_past j ends nbr kind zero i u h = refl
answered_past j ends nbr kind (suc m) i u h =
    let p : length ends ≤ i = h (omega arith) in
    rw (past_ends ends nbr kind i p) (answered_past j ends nbr kind m (suc i) (suc u) (λ q. omega (arith, p)))

-- so that stars are walked no further than their ends are told
pub stars_rest : (j : Job) (ends nbr kind : List ℕ) (n i : ℕ) (w : Bool) → min n (length ends) ≤ i
    → all_from (star_answers j) (4 + i) (stars_in (n - i) i ends nbr kind) ≡ w → true ≡ w
stars_rest j ends nbr kind n i w h inv = sym (answered_past j ends nbr kind (n - i) i (4 + i) (λ q. omega (arith, h))) ∙ inv

-- the stars held, as the job that they are
pub job_stars : (h : Stars) (n : ℕ) → n ≡ h.count → job_in n h.ends h.nbr h.kind ≡ job_of h
unfolding job_of
job_stars h n e = rw e

-- test 6 of stars that lie one behind the other is the test of each star in turn
pub test6_held : (ends nbr kind : List ℕ) (n : ℕ) (r : Bool) → r ≡ all_from (star_answers (job_in n ends nbr kind)) 4 (job_in n ends nbr kind)
    → r ≡ test6 (job_in n ends nbr kind)
test6_held ends nbr kind n r q = q ∙ sym (test6_stars (job_in n ends nbr kind))
