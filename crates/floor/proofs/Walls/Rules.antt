-- A job's rules, room by room and entry by entry; that its computed numbers are those of the text, the least there are, and at most 1 and the rooms' least
-- sizes together: n + 1 where no sizes are told. Assumes nothing.
use Rattle.std.specs.Prelude.{◌≡◌, refl, ◌⊎◌, Bool, true, false, cond, ◌&&◌, eqb, get_or}
use Rattle.std.proofs.Math.Path.{ap}
use Rattle.std.proofs.Common.{inl, inr, suc-mul, mul-suc, leb-true, eqb-true, eq-eqb, ne_eqb, le-leb}
use Rattle.std.proofs.Math.Option.{Option, none, some}
use mathlib.Core.List.Memᴰ
use mathlib.Core.List.{List, [], ◌∷◌, ◌++◌, Memᴰ, map}
use Prim.Native.Nat.{ℕ, zero, suc, ◌+◌, ◌-◌, ◌*◌, ◌/◌, ◌%◌, ◌≤◌, ◌<◌, max}
use native.Mathlib.Omega.{arith}
use Rattle.std.proofs.Math.Decide.{ℕ_discrete}
use Rattle.std.proofs.Math.Dec.{leb}
use Rattle.std.proofs.Math.ListN.{length}
use Rattle.floor.specs.Lists.{sum, up_from}
use Rattle.floor.proofs.Lists.Laws.{and_parts, and_both}
use Rattle.floor.specs.Jobs.{Entry, Star, Job, Sizes, rooms, size_of, test17}
use Rattle.floor.specs.Jobs.Facts.{Passes}
use Rattle.floor.proofs.Jobs.Facts.{star_at, room_fair}
use Rattle.floor.specs.Walls.{Rule, same, before, Numbers, Holds, Respects, Axis, low, high, when, entry_rules, star_rules, rules_from, rules, at}
use Rattle.floor.specs.Walls.{job_numbers, OnWall, here, along, back, upright, level, extra, top_of}
use Rattle.floor.specs.Walls.Walk.{Walk}
use Rattle.floor.proofs.Walls.Walk.{Positive, walk_le, numbers_walk, numbers_respects}
use Rattle.floor.proofs.Walls.Bound.{Head, Heads, all_room, walk_bound}
use Rattle.floor.proofs.Walls.Relax.{Right, Within, numbers_of_right}

-- what an entry of the star of u says, of rules that have P
pub record Asks (P : Rule → Type 0) (a : Axis) (u : ℕ) (e : Entry) : Type 0 where
  pub if_far : e.kind ≡ a.far → P (same (high u) (low e.to))
  pub if_near : e.kind ≡ a.near → P (same (high e.to) (low u))
  pub if_cross : e.kind ≡ a.cross → 4 ≤ e.to → P (before (low u) (high e.to) 0) × P (before (low e.to) (high u) 0)

-- what rooms u, u + 1 and so on say, where x says how much more than one cell each asks for
pub record Told (P : Rule → Type 0) (a : Axis) (x : ℕ → ℕ) (u : ℕ) (j : Job) : Type 0 where
  pub own : (i : ℕ) → i < length j → P (before (low (u + i)) (high (u + i)) (x (u + i)))
  pub each : (i : ℕ) → i < length j → (e : Entry) → Memᴰ e (get_or j i []) → Asks P a (u + i) e

-- every rule of the list has P
abbrev Every : (Rule → Type 0) → List Rule → Type 0
Every P E = (r : Rule) → Memᴰ r E → P r

module _ (P : Rule → Type 0) where
  -- where all rules of two lists have P, all of the two together do
  every_append : (D E : List Rule) → Every P D → Every P E → Every P (D ++ E)
  every_append D E x y r m = go (Memᴰ.append_cases D m)
    where
      go : Memᴰ r D ⊎ Memᴰ r E → P r
      go (inl n) = x r n
      go (inr n) = y r n

  -- rules under a condition all have P, where they do whenever the condition holds
  every_when : (t : Bool) (E : List Rule) → (t ≡ true → Every P E) → Every P (when t E)
  every_when true E h = h refl
  every_when false E h = λ r m. elim m [ ]

  -- a list of one rule that has P
  every_one : (r : Rule) → P r → Every P (r ∷ [])
  every_one r h q (Memᴰ.tail x4) = elim x4 [ ]
  every_one r h q (Memᴰ.head e) = rw e h

  -- a rule under a condition that holds is there
  when_mem : (t : Bool) (E : List Rule) (r : Rule) → t ≡ true → Memᴰ r E → Memᴰ r (when t E)
  when_mem t E r e m = rw e m

  module _ (a : Axis) where
    -- where what an entry says has P, every rule of the entry does
    pub entry_every : (u : ℕ) (e : Entry) → Asks P a u e → Every P (entry_rules a u e)
    unfolding entry_rules
    entry_every u e h =
        every_append (when (eqb e.kind a.far) (same (high u) (low e.to) ∷ [])) _
        (every_when (eqb e.kind a.far) _ (λ k. every_one _ (h.if_far (eqb-true e.kind a.far k))))
        (every_append (when (eqb e.kind a.near) (same (high e.to) (low u) ∷ [])) _
        (every_when (eqb e.kind a.near) _ (λ k. every_one _ (h.if_near (eqb-true e.kind a.near k))))
        (every_when (eqb e.kind a.cross && leb 4 e.to) _
        (λ k.
        let (c, d) = and_parts (eqb e.kind a.cross) (leb 4 e.to) k in
        let (x, y) = h.if_cross (eqb-true e.kind a.cross c) (leb-true 4 e.to d) in
        every_append (before (low u) (high e.to) 0 ∷ []) (before (low e.to) (high u) 0 ∷ []) (every_one _ x) (every_one _ y))))

    -- where every rule of an entry has P, what the entry says has
    entry_asks : (u : ℕ) (e : Entry) → Every P (entry_rules a u e) → Asks P a u e
    unfolding entry_rules
    entry_asks u e r = record {
      if_far = λ k. r _ (Memᴰ.append_left _ (when_mem (eqb e.kind a.far) _ _ (eq-eqb e.kind a.far k) (Memᴰ.head refl)));
      if_near = λ k. r _ (Memᴰ.append_right (when (eqb e.kind a.far) _)
          (Memᴰ.append_left _ (when_mem (eqb e.kind a.near) _ _ (eq-eqb e.kind a.near k) (Memᴰ.head refl))));
      if_cross = λ k l. (r _ (cross k l _ (Memᴰ.head refl)), r _ (cross k l _ (Memᴰ.tail (Memᴰ.head refl))));
    }
      where
        cross : e.kind ≡ a.cross → 4 ≤ e.to → (q : Rule) → Memᴰ q (before (low u) (high e.to) 0 ∷ before (low e.to) (high u) 0 ∷ [])
            → Memᴰ q (entry_rules a u e)
        cross k l q m =
            Memᴰ.append_right (when (eqb e.kind a.far) (same (high u) (low e.to) ∷ []))
            (Memᴰ.append_right (when (eqb e.kind a.near) (same (high e.to) (low u) ∷ []))
            (when_mem (eqb e.kind a.cross && leb 4 e.to) _ q (and_both _ _ (eq-eqb e.kind a.cross k) (le-leb 4 e.to l)) m))

    -- where what each entry of a star says has P, every rule of the star does
    star_every : (u : ℕ) (s : Star) → ((e : Entry) → Memᴰ e s → Asks P a u e) → Every P (star_rules a u s)
    unfolding star_rules
    star_every u [] h = λ r m. elim m [ ]
    star_every u (e ∷ s) h =
        every_append (entry_rules a u e) (star_rules a u s) (entry_every u e (h e (Memᴰ.head refl))) (star_every u s (λ f m. h f (Memᴰ.tail m)))

    -- where every rule of a star has P, what each of its entries says has
    star_asks : (u : ℕ) (s : Star) → Every P (star_rules a u s) → (e : Entry) → Memᴰ e s → Asks P a u e
    unfolding star_rules
    star_asks u [] r e x'' = elim x'' [ ]
    star_asks u (f ∷ s) r e (Memᴰ.head q) = rw q (entry_asks u f (λ x m. r x (Memᴰ.append_left _ m)))
    star_asks u (f ∷ s) r e (Memᴰ.tail m) = star_asks u s (λ x n. r x (Memᴰ.append_right (entry_rules a u f) n)) e m

    -- WHAT IS TOLD, IS EVERY RULE
    pub told_every : (x : ℕ → ℕ) (u : ℕ) (j : Job) → Told P a x u j → Every P (rules_from a x u j)
    unfolding rules_from
    told_every x u [] o = λ r m. elim m [ ]
    told_every x u (s ∷ j) o =
        every_append (before (low u) (high u) (x u) ∷ []) (star_rules a u s ++ rules_from a x (suc u) j)
        (every_one _ (rw (let e : u + 0 ≡ u = omega arith in e) at (o.own 0 (omega arith))))
        (every_append (star_rules a u s) (rules_from a x (suc u) j)
        (star_every u s (λ e m. rw (let e : u + 0 ≡ u = omega arith in e) at (o.each 0 (omega arith) e m)))
        (told_every x (suc u) j
        (record {
          own = λ i h. rw (let e : u + suc i ≡ suc u + i = omega arith in e) at (o.own (suc i) (omega arith));
          each = λ i h e m. rw (let e : u + suc i ≡ suc u + i = omega arith in e) at (o.each (suc i) (omega arith) e m);
        })))

    -- EVERY RULE IS WHAT IS TOLD
    pub every_told : (x : ℕ → ℕ) (u : ℕ) (j : Job) → Every P (rules_from a x u j) → Told P a x u j
    unfolding rules_from
    every_told x u [] r = record { own = λ i h. absurd (omega arith); each = λ i h e m. absurd (omega arith) }
    every_told x u (s ∷ j) r = go (every_told x (suc u) j (λ q m. r q (Memᴰ.tail (Memᴰ.append_right (star_rules a u s) m))))
      where
        go : Told P a x (suc u) j → Told P a x u (s ∷ j)
        go below = record { own = own; each = each }
          where
            own : (i : ℕ) → i < length (s ∷ j) → P (before (low (u + i)) (high (u + i)) (x (u + i)))
            own zero h = rw (let e : u + 0 ≡ u = omega arith in e) (r (before (low u) (high u) (x u)) (Memᴰ.head refl))
            own (suc i) h = rw (let e : u + suc i ≡ suc u + i = omega arith in e) (below.own i (omega arith))

            each : (i : ℕ) → i < length (s ∷ j) → (e : Entry) → Memᴰ e (get_or (s ∷ j) i []) → Asks P a (u + i) e
            each zero h e m = rw (let e : u + 0 ≡ u = omega arith in e) (star_asks u s (λ q n. r q (Memᴰ.tail (Memᴰ.append_left _ n))) e m)
            each (suc i) h e m = rw (let e : u + suc i ≡ suc u + i = omega arith in e) (below.each i (omega arith) e m)

-- the numbers do what the job says
abbrev pub Obeys : Axis → (ℕ → ℕ) → Job → Sizes → Type 0
Obeys a g j z = Told (Holds g) a (extra a z) 4 j

-- numbers that do what the job says respect its rules
pub obeys_respects : (a : Axis) (g : ℕ → ℕ) (j : Job) (z : Sizes) → Obeys a g j z → Respects (rules a j z) g
obeys_respects a g j z o = told_every (Holds g) a (extra a z) 4 j o

-- numbers that respect a job's rules do what the job says
pub respects_obeys : (a : Axis) (g : ℕ → ℕ) (j : Job) (z : Sizes) → Respects (rules a j z) g → Obeys a g j z
respects_obeys a g j z r = every_told (Holds g) a (extra a z) 4 j r

-- every side of a rule is a vertex's, and each `before` ends at the high side of a room, by no more than the room asks for
abbrev Sane : ℕ → (ℕ → ℕ) → Rule → Type 0
Sane m x (same a b) = (a < 2 * m) × (b < 2 * m)
Sane m x (before a b y) = (a < 2 * m) × (b < 2 * m) × ((v : ℕ) × (4 ≤ v) × (v < m) × (high v ≡ b) × (y ≤ x v))

-- the high side of a room, with what the room asks for
abbrev head_of : (ℕ → ℕ) → ℕ → Head
head_of x v = record { side = high v; most = suc (x v) }

-- the high sides of rooms u, u + 1 and so on, each with what the room asks for
heads : (ℕ → ℕ) → ℕ → ℕ → List Head
heads x u zero = []
heads x u (suc k) = head_of x u ∷ heads x (suc u) k

-- the high sides of k rooms have room k together
heads_room : (x : ℕ → ℕ) (u k : ℕ) → all_room (heads x u k) ≡ k + sum (map x (up_from u k))
unfolding heads sum up_from
heads_room x u zero = refl
heads_room x u (suc k) = omega (arith, heads_room x (suc u) k)

-- the high side of each of these rooms is among them, with the gap 1
heads_mem : (x : ℕ → ℕ) (u k v : ℕ) → u ≤ v → v < u + k → Memᴰ (head_of x v) (heads x u k)
unfolding heads
heads_mem x u zero v l h = absurd (omega arith)
heads_mem x u (suc k) v l h = go (ℕ_discrete v u) (heads_mem x (suc u) k v)
  where
    go : Dec (v ≡ u) → (suc u ≤ v → v < suc u + k → Memᴰ (head_of x v) (heads x (suc u) k)) → Memᴰ (head_of x v) (head_of x u ∷ heads x (suc u) k)
    go (yes e) below = Memᴰ.head (ap (λ (t : ℕ). head_of x t) e)
    go (no e) below = Memᴰ.tail (below (omega arith) (omega arith))

-- every neighbour is a vertex of the job
abbrev pub Named : Job → Type 0
Named j = (i : ℕ) → i < length j → (e : Entry) → Memᴰ e (get_or j i []) → e.to < length j + 4

-- the neighbours of a job past test 4 are its vertices
pub to_vertex : (j : Job) → Passes j → Named j
to_vertex j k i h e m = (k.entries (4 + i) (omega arith, omega arith) e (rw (star_at j i) m)).below

module _ (a : Axis) (j : Job) (z : Sizes) (k : Named j) where
  -- each rule of a job has its sides from the job's vertices, and each `before` ends at the high side of a room, by 1
  sane : (r : Rule) → Memᴰ r (rules a j z) → Sane (length j + 4) (extra a z) r
  sane = told_every (Sane (length j + 4) (extra a z)) a (extra a z) 4 j (record {
    own = λ i h. (omega arith, omega arith, (4 + i, omega arith, omega arith, refl, omega arith));
    each = λ i h e m.
        let l : e.to < length j + 4 = k i h e m in
        record {
          if_far = λ q. (omega arith, omega arith);
          if_near = λ q. (omega arith, omega arith);
          if_cross = λ q f. (
            (omega arith, omega arith, (e.to, f, l, refl, omega arith)),
            (omega arith, omega arith, (4 + i, omega arith, omega arith, refl, omega arith)),
          );
        };
  })

  -- the high sides of the job's rooms
  abbrev tops : List Head
  tops = heads (extra a z) 4 (length j)

  -- each `before` of a job ends at the high side of one of its rooms, by 1
  job_heads : Heads (rules a j z) tops
  job_heads b c x m =
      let s : Sane (length j + 4) (extra a z) (before b c x) = sane (before b c x) m in
      let (v, lo, hi, e, y) = s.2 in
      (head_of (extra a z) v, heads_mem (extra a z) 4 (length j) v lo (omega arith), e, omega arith)

  -- each side of a job's rules is one of its vertices' sides
  job_within : (r : Rule) → Memᴰ r (rules a j z) → Within (2 * (length j + 4)) r
  job_within (same b c) m = sane (same b c) m
  job_within (before b c x) m = let s : Sane (length j + 4) (extra a z) (before b c x) = sane (before b c x) m in (s.0, s.1)

  -- the top is 1 and what the heads have room for
  top_room : 1 + all_room tops ≡ top_of a j z
  unfolding top_of rooms
  top_room = ap (λ (n : ℕ). 1 + n) (heads_room (extra a z) 4 (length j))

  -- THE COMPUTED NUMBERS ARE THE TEXT'S; none exactly where the walls run in a circle
  pub job_numbers_right : Right (rules a j z) (2 * (length j + 4)) (job_numbers a j z)
  unfolding job_numbers
  job_numbers_right = rw top_room at (numbers_of_right (rules a j z) tops (2 * (length j + 4)) job_heads job_within)

  -- where numbers can be put, no walk passes the top
  pub job_walk : (g : ℕ → ℕ) → Respects (rules a j z) g → (s v : ℕ) → Walk (rules a j z) s v → v ≤ top_of a j z
  job_walk g r s v w = omega (arith, top_room, walk_bound (rules a j z) tops g job_heads r w)

  -- NO NUMBER PASSES THE TOP
  pub job_bound : (f : ℕ → ℕ) → Numbers (rules a j z) f → (s : ℕ) → f s ≤ top_of a j z
  job_bound f n s = job_walk f (numbers_respects (rules a j z) f n) s (f s) (numbers_walk (rules a j z) f n s)

  -- numbers that respect the rules show that the job has its numbers
  pub numbered : (g : ℕ → ℕ) → Respects (rules a j z) g → (f : List ℕ) × (job_numbers a j z ≡ some f)
  numbered g r = go (job_numbers a j z) refl job_numbers_right
    where
      go : (o : Option (List ℕ)) → job_numbers a j z ≡ o → Right (rules a j z) (2 * (length j + 4)) o → (f : List ℕ) × (job_numbers a j z ≡ some f)
      go none e c = absurd (c g r)
      go (some f) e n = (f, e)

  -- what the computed numbers are
  pub numbers_are : (f : List ℕ) → job_numbers a j z ≡ some f → Numbers (rules a j z) (at f)
  numbers_are f e = (rw e at job_numbers_right).0

  -- and that none are, where the walls run in a circle
  pub circle_are : job_numbers a j z ≡ none → (g : ℕ → ℕ) → Respects (rules a j z) g → ⊥
  circle_are e = rw e at job_numbers_right

-- LEAST: no numbers that respect the rules are smaller anywhere
pub numbers_least : (a : Axis) (j : Job) (z : Sizes) (f g : ℕ → ℕ) → Numbers (rules a j z) f → Positive g → Respects (rules a j z) g
    → (s : ℕ) → f s ≤ g s
numbers_least a j z f g n p r s = walk_le g p r (numbers_walk (rules a j z) f n s)

-- nor are numbers that respect them, and by which every room begins at 1 or later, whatever they are elsewhere
pub least_below : (a : Axis) (j : Job) (z : Sizes) → Named j → (f g : ℕ → ℕ) → Numbers (rules a j z) f → Obeys a g j z
    → ((i : ℕ) → i < length j → 1 ≤ g (low (4 + i))) → (s : ℕ) → f s ≤ max 1 (g s)
least_below a j z k f g n o from s = numbers_least a j z f (λ s. max 1 (g s)) n (λ s. omega arith) (obeys_respects a (λ s. max 1 (g s)) j z obeys) s
  where
    obeys : Obeys a (λ s. max 1 (g s)) j z
    obeys = record {
      own = λ i h. omega (arith, o.own i h, from i h);
      each = λ i h e m. record {
        if_far = λ q. ap (λ v. max 1 v) ((o.each i h e m).if_far q);
        if_near = λ q. ap (λ v. max 1 v) ((o.each i h e m).if_near q);
        if_cross = λ q l.
            let (x, y) = (o.each i h e m).if_cross q l in
            let q : 4 + (e.to - 4) ≡ e.to = omega arith in
            let c : 1 ≤ g (low e.to) = rw q at (from (e.to - 4) (omega (arith, k i h e m))) in
            (omega (arith, from i h), omega arith);
      };
    }

-- a rule of one wall is a rule by any sizes
abbrev Joint : Axis → Job → Sizes → Rule → Type 0
Joint a j y (same s t) = Memᴰ (same s t) (rules a j y)
Joint a j y (before s t x) = Unit {0}

-- every rule of a job joins as by any other sizes
joint : (a : Axis) (j : Job) (z y : Sizes) (r : Rule) → Memᴰ r (rules a j z) → Joint a j y r
joint a j z y = told_every (Joint a j y) a (extra a z) 4 j (record { own = λ i h. tt; each = every.each })
  where
    weaker : (r : Rule) → Memᴰ r (rules a j y) → Joint a j y r
    weaker (same s t) m = m
    weaker (before s t x) m = tt

    every : Told (Joint a j y) a (extra a y) 4 j
    every = every_told (Joint a j y) a (extra a y) 4 j weaker

-- LEAST SIZES JOIN NO WALLS: what is on one wall by some sizes, is by any
pub walls_any : (a : Axis) (j : Job) (z y : Sizes) {s t : ℕ} → OnWall (rules a j z) s t → OnWall (rules a j y) s t
walls_any a j z y here = here
walls_any a j z y (along m w) = along (joint a j z y _ m) (walls_any a j z y w)
walls_any a j z y (back m w) = back (joint a j z y _ m) (walls_any a j z y w)

-- numbers on the sides, from those at which each vertex begins and ends
unfoldable pub sided : (ℕ → ℕ) → (ℕ → ℕ) → ℕ → ℕ
sided lo hi n = cond (eqb (n % 2) 0) (lo (n / 2)) (hi (n / 2))

module _ (lo hi : ℕ → ℕ) where
  -- the low side of a vertex has the number at which the vertex begins
  pub sided_low : (v : ℕ) → sided lo hi (low v) ≡ lo v
  unfolding sided
  sided_low v = let e : (2 * v) / 2 ≡ v = omega arith in rw (eq-eqb ((2 * v) % 2) 0 (omega arith), e)

  -- the high side of a vertex has the number at which the vertex ends
  pub sided_high : (v : ℕ) → sided lo hi (high v) ≡ hi v
  unfolding sided
  sided_high v = let e : (2 * v + 1) / 2 ≡ v = omega arith in rw (ne_eqb ((2 * v + 1) % 2) 0 (λ z. omega arith), e)

  -- what they do, they do on the sides
  pub sided_same : (r t : ℕ) → hi r ≡ lo t → Holds (sided lo hi) (same (high r) (low t))
  sided_same r t e = rw (sided_high r, sided_low t) e

  -- where t ends at least 1 + g after r begins, the numbers respect that r's low wall comes before t's high wall by as much
  pub sided_before : (r t g : ℕ) → lo r + suc g ≤ hi t → Holds (sided lo hi) (before (low r) (high t) g)
  sided_before r t g h = rw (sided_low r, sided_high t) h

-- where no room's least size is over 1 + m, all together ask for no more than m each
extras_most : (a : Axis) (z : Sizes) (m : ℕ) → ((v : ℕ) → a.least (size_of z v) ≤ suc m) → (u k : ℕ) → sum (map (extra a z) (up_from u k)) ≤ k * m
unfolding sum up_from extra
extras_most a z m h u zero = omega arith
extras_most a z m h u (suc k) = omega (arith, h u, extras_most a z m h (suc u) k, suc-mul k m)

-- THE TOP: at most 1, and the largest least size once for each room
pub top_most : (a : Axis) (j : Job) (z : Sizes) (m : ℕ) → ((v : ℕ) → a.least (size_of z v) ≤ suc m) → top_of a j z ≤ 1 + length j * suc m
unfolding top_of rooms
top_most a j z m h = omega (arith, extras_most a z m h 4 (length j), mul-suc (length j) m)

-- past test 17, at most 1 + 15 n
pub top_sized : (j : Job) (z : Sizes) → test17 z ≡ true → (top_of upright j z ≤ 1 + length j * 15) × (top_of level j z ≤ 1 + length j * 15)
top_sized j z t = (top_most upright j z 14 (λ v. (room_fair z t v).most_width), top_most level j z 14 (λ v. (room_fair z t v).most_height))

-- no sizes told: no room asks for more than one cell,
pub extra_plain : (v : ℕ) → (extra upright [] v ≡ 0) × (extra level [] v ≡ 0)
unfolding extra size_of
extra_plain v = (omega arith, omega arith)

-- and the top is just 1 + n
pub top_plain : (j : Job) → (top_of upright j [] ≡ 1 + length j) × (top_of level j [] ≡ 1 + length j)
unfolding top_of rooms size_of
top_plain j = (
  omega (arith, extras_most upright [] 0 (λ v. omega arith) 4 (length j)),
  omega (arith, extras_most level [] 0 (λ v. omega arith) 4 (length j)),
)
