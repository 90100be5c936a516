-- The rules of an entry, a star and a room, as the code comes by them. Assumes nothing.
use mathlib.Core.Path.{◌≡◌, refl, sym, ◌∙◌}
use mathlib.Core.Bool.{Bool, true, false, not, ◌&&◌}
use mathlib.Core.List.{List, [], ◌∷◌, ◌++◌}
use Prim.Native.Nat.{ℕ, suc, ◌+◌, ◌-◌, ◌*◌, ◌≤◌, ◌<◌}
use native.Mathlib.Omega.{arith}
use borrow.Author.Tests.{le-leb, lt-leb, ne_eqb, ltb-true, lt-ltb, le-ltb, not-true, not-false}
use lib.Dec.{ltb}
use lib.ListN.{length, get_or}
use Rattle.floor.specs.Lists.{all}
use Rattle.floor.proofs.Lists.Laws.{and_left, and_right}
use Rattle.floor.specs.Jobs.{Star, Job, Sizes}
use Rattle.floor.specs.Walls.{Rule, same, before, low, high, extra, entry_rules, star_rules, rules_from}
use Rattle.stars.specs.Held.{to_at, entry_at, cells, start_of, end_of, held_star, stars_in}
use Rattle.stars.specs.Pairs.{pair}
use Rattle.stars.proofs.Holding.{cells_more, cells_done, held_more, held_done}
use Rattle.walls.specs.declared.Step.{Step}
use Rattle.walls.specs.declared.Step.TheVariants.{Kept}
use Rattle.walls.specs.declared.Direction.{Direction}
use Rattle.walls.specs.declared.Direction.TheVariants.{Upright, Level}
use Rattle.walls.specs.Steps.{Ran, rule_of, both}
use Rattle.walls.specs.Jobs.{axis_of, star_named, named}
use Rattle.walls.proofs.Running.{ran_both, Going, going_next, going_done}

-- the rules of an entry, by its kind
module _ (u v k : ℕ) where
  -- of the far kind: the high side of u and the low side of v lie on one wall
  rules_far : (w : Direction) → k ≡ (axis_of w).far → entry_rules (axis_of w) u (pair v k) ≡ same (high u) (low v) ∷ []
  unfolding entry_rules
  rules_far Upright e = rw e
  rules_far Level e = rw e

  -- of the near kind: the high side of v and the low side of u lie on one wall
  rules_near : (w : Direction) → k ≡ (axis_of w).near → entry_rules (axis_of w) u (pair v k) ≡ same (high v) (low u) ∷ []
  unfolding entry_rules
  rules_near Upright e = rw e
  rules_near Level e = rw e

  -- across to a room: the low wall of each before the high wall of the other
  rules_cross : (w : Direction) → k ≡ (axis_of w).cross → 4 ≤ v → entry_rules (axis_of w) u (pair v k) ≡ before (low u) (high v) 0 ∷ before (low v) (high u)
      0 ∷ []
  unfolding entry_rules
  rules_cross Upright e l = rw (e, le-leb 4 v l)
  rules_cross Level e l = rw (e, le-leb 4 v l)

  -- across to a side of the frame: no rules
  rules_side : (w : Direction) → k ≡ (axis_of w).cross → v < 4 → entry_rules (axis_of w) u (pair v k) ≡ []
  unfolding entry_rules
  rules_side Upright e l = rw (e, lt-leb 4 v l)
  rules_side Level e l = rw (e, lt-leb 4 v l)

  -- of any other kind: no rules
  rules_other : (w : Direction) → (k ≡ (axis_of w).far → ⊥) → (k ≡ (axis_of w).near → ⊥) → (k ≡ (axis_of w).cross → ⊥)
      → entry_rules (axis_of w) u (pair v k) ≡ []
  unfolding entry_rules
  rules_other w x y z = rw (ne_eqb k (axis_of w).far x, ne_eqb k (axis_of w).near y, ne_eqb k (axis_of w).cross z)

  module _ (w : Direction) (s : Step) (f f' : List ℕ) (top : ℕ) where
    -- what the rules of an entry did, once run, as `entry` comes by it: of the far kind
    pub ran_far : (x : ℕ) → x ≡ (axis_of w).far → k ≡ x → Ran s (same (high u) (low v) ∷ []) f f' top → Ran s (entry_rules (axis_of w) u (pair v k)) f f' top
    ran_far x e h r = rw (rules_far w (rw (← e) h)) r

    -- of the near kind
    pub ran_near : (x : ℕ) → x ≡ (axis_of w).near → k ≡ x → Ran s (same (high v) (low u) ∷ []) f f' top → Ran s (entry_rules (axis_of w) u (pair v k)) f f' top
    ran_near x e h r = rw (rules_near w (rw (← e) h)) r

    -- across to a room
    pub ran_cross : (x : ℕ) → x ≡ (axis_of w).cross → k ≡ x → 4 ≤ v → Ran s (before (low u) (high v) 0 ∷ before (low v) (high u) 0 ∷ []) f f' top
        → Ran s (entry_rules (axis_of w) u (pair v k)) f f' top
    ran_cross x e h l r = rw (rules_cross w (rw (← e) h) l) r

  module _ (w : Direction) (f : List ℕ) (top : ℕ) where
    -- across to a side of the frame there is nothing to do
    pub ran_side : (x : ℕ) → x ≡ (axis_of w).cross → k ≡ x → v < 4 → Ran Kept (entry_rules (axis_of w) u (pair v k)) f f top
    ran_side x e h l = rw (rules_side w (rw (← e) h) l) (refl, λ r m. elim m [ ])

    -- of any other kind there is nothing to do
    pub ran_other : (x y z : ℕ) → x ≡ (axis_of w).far → y ≡ (axis_of w).near → z ≡ (axis_of w).cross → (k ≡ x → ⊥) → (k ≡ y → ⊥) → (k ≡ z → ⊥)
        → Ran Kept (entry_rules (axis_of w) u (pair v k)) f f top
    ran_other x y z a b c p q r =
        rw (rules_other w (λ e. p (rw a e)) (λ e. q (rw b e)) (λ e. r (rw c e))) (refl, λ o m. elim m [ ])

-- the two rules of a contact across
pub ran_crossed : (u v : ℕ) (s t r : Step) (f f₁ f₂ : List ℕ) (top : ℕ) → Ran s (before (low u) (high v) 0 ∷ []) f f₁ top
    → Ran t (before (low v) (high u) 0 ∷ []) f₁ f₂ top → r ≡ both s t → Ran r (before (low u) (high v) 0 ∷ before (low v) (high u) 0 ∷ []) f f₂ top
ran_crossed u v s t r f f₁ f₂ top p q e =
    rw e (ran_both (before (low u) (high v) 0 ∷ []) (before (low v) (high u) 0 ∷ []) f f₁ f₂ top s t p q)

-- a star, entry by entry
module _ (w : Direction) (u : ℕ) (nbr kind : List ℕ) (end k : ℕ) where
  -- the rules of the entries from place k on
  abbrev left : List Rule
  left = star_rules (axis_of w) u (cells (end - k) k nbr kind)

  -- the rules of the entries behind place k
  abbrev later : List Rule
  later = star_rules (axis_of w) u (cells (end - (k + 1)) (k + 1) nbr kind)

  -- the rules from place k on are those of the entry there, then those behind it
  star_more : k < end → left ≡ entry_rules (axis_of w) u (entry_at nbr kind k) ++ later
  unfolding star_rules
  star_more h = rw (cells_more nbr kind end k h)

  -- the rules of the next entry run, those behind it are left
  pub star_next : (s t r : Step) (W : List Rule) (f₀ f f₁ : List ℕ) (top v x : ℕ) → Going s left W f₀ f top → k < end → v ≡ to_at nbr k → x ≡ get_or kind k 0
      → Ran t (entry_rules (axis_of w) u (pair v x)) f f₁ top → r ≡ both s t → Going r later W f₀ f₁ top
  unfolding entry_at
  star_next s t r W f₀ f f₁ top v x g h ev ex p e =
      rw e (going_next s t (entry_rules (axis_of w) u (entry_at nbr kind k)) later W f₀ f f₁ top (rw (star_more h) at g) (rw (ev, ex) at p))

  -- behind the last entry no rules are left
  pub star_done : (s : Step) (W : List Rule) (f₀ f : List ℕ) (top : ℕ) → end ≤ k → Going s left W f₀ f top → Ran s W f₀ f top
  unfolding star_rules
  star_done s W f₀ f top h g = going_done s W f₀ f top (rw (cells_done nbr kind end k h) at g)

-- the neighbours of a star, entry by entry
module _ (nbr kind : List ℕ) (end k m : ℕ) (h : k < end) (e : star_named m (cells (end - k) k nbr kind) ≡ true) where
  -- the entries behind place k
  abbrev rest : Star
  rest = cells (end - (k + 1)) (k + 1) nbr kind

  -- the entry at place k names a vertex whose sides are among so many, and so do those behind it
  named_both : ltb (high (to_at nbr k)) m && star_named m rest ≡ true
  unfolding star_named all entry_at
  named_both = rw (cells_more nbr kind end k h) at e

  -- the entry at place k does
  pub named_here : (v l : ℕ) → v ≡ to_at nbr k → l ≡ m → high v < l
  named_here v l ev el = rw (ev, el) (ltb-true (high (to_at nbr k)) m (and_left (ltb (high (to_at nbr k)) m) (star_named m rest) named_both))

  -- those behind it do
  pub named_later : star_named m rest ≡ true
  named_later = and_right (ltb (high (to_at nbr k)) m) (star_named m rest) named_both

-- a gap of one cell and what a room asks for beyond it is the room's own rule
pub ran_own : (a b x y : ℕ) (s : Step) (f f' : List ℕ) (top : ℕ) → (x ≡ y) × (x < 255) → Ran s (rule_of a b (1 + x) ∷ []) f f' top
    → Ran s (before a b y ∷ []) f f' top
ran_own a b x y s f f' top e p = let g : 1 + x ≡ suc y = omega (arith, e.0) in rw g at p

-- a room
module _ (ends nbr kind : List ℕ) (i from end : ℕ) (ef : from ≡ start_of ends (length nbr) i) (ee : end ≡ end_of ends (length nbr) i) where
  -- where the held star names vertices with their sides among so many, so do the entries from its start to its end
  pub room_named : (m l : ℕ) → star_named m (held_star ends nbr kind i) ≡ true → l ≡ m → star_named l (cells (end - from) from nbr kind) ≡ true
  unfolding held_star
  room_named m l h e = rw (e, ef, ee) h

  -- a room's own rule and then those of its entries: together, all the rules that the room says
  pub ran_room : (w : Direction) (x : ℕ) (s t r : Step) (f f₁ f₂ : List ℕ) (top : ℕ) → Ran s (before (low (4 + i)) (high (4 + i)) x ∷ []) f f₁ top
      → Ran t (star_rules (axis_of w) (4 + i) (cells (end - from) from nbr kind)) f₁ f₂ top → r ≡ both s t
      → Ran r (before (low (4 + i)) (high (4 + i)) x ∷ star_rules (axis_of w) (4 + i) (held_star ends nbr kind i)) f f₂ top
  unfolding held_star
  ran_room w x s t r f f₁ f₂ top p q e =
      rw e (ran_both (before (low (4 + i)) (high (4 + i)) x ∷ []) (star_rules (axis_of w) (4 + i) (held_star ends nbr kind i)) f f₁ f₂ top s t p
      (rw (ef, ee) at q))

-- as many sides
pub named_same : (m l : ℕ) (j : Job) → named m j ≡ true → l ≡ m → named l j ≡ true
named_same m l j h e = rw e h

-- a job, room by room
module _ (ends nbr kind : List ℕ) (n i : ℕ) where
  -- the stars from star i on
  abbrev rooms_left : Job
  rooms_left = stars_in (n - i) i ends nbr kind

  -- the stars behind star i
  abbrev rooms_later : Job
  rooms_later = stars_in (n - (i + 1)) (i + 1) ends nbr kind

  module _ (m : ℕ) (h : i < n) (e : named m rooms_left ≡ true) where
    -- star i names vertices whose sides are among so many, and so do those behind it
    rooms_both : star_named m (held_star ends nbr kind i) && named m rooms_later ≡ true
    unfolding named all
    rooms_both = rw (held_more ends nbr kind n i h) at e

    -- star i does
    pub rooms_here : (l : ℕ) → l ≡ m → star_named l (held_star ends nbr kind i) ≡ true
    rooms_here l q = rw q (and_left (star_named m (held_star ends nbr kind i)) (named m rooms_later) rooms_both)

    -- those behind it do
    pub rooms_later_lem : named m rooms_later ≡ true
    rooms_later_lem = and_right (star_named m (held_star ends nbr kind i)) (named m rooms_later) rooms_both

  module _ (w : Direction) (z : Sizes) where
    -- what room 4 + i says: its own rule and those of its star
    abbrev room_rules : List Rule
    room_rules = before (low (4 + i)) (high (4 + i)) (extra (axis_of w) z (4 + i)) ∷ star_rules (axis_of w) (4 + i) (held_star ends nbr kind i)

    -- what the rooms from it on say
    abbrev rules_left : List Rule
    rules_left = rules_from (axis_of w) (extra (axis_of w) z) (4 + i) rooms_left

    -- what the rooms behind it say
    abbrev rules_later : List Rule
    rules_later = rules_from (axis_of w) (extra (axis_of w) z) (4 + (i + 1)) rooms_later

    -- the rules from room 4 + i on are its own and those of its star, then those of the rooms behind it
    rules_more : i < n → rules_left ≡ room_rules ++ rules_later
    unfolding rules_from
    rules_more h = let e : 4 + (i + 1) ≡ suc (4 + i) = omega arith in rw (held_more ends nbr kind n i h, e)

    -- the rules of the next room run, those of the rooms behind it are left
    pub pass_next : (s t r : Step) (W : List Rule) (f₀ f f₁ : List ℕ) (top : ℕ) → Going s rules_left W f₀ f top → i < n → Ran t room_rules f f₁ top → r ≡ both s t
        → Going r rules_later W f₀ f₁ top
    pass_next s t r W f₀ f f₁ top g h p e = rw e (going_next s t room_rules rules_later W f₀ f f₁ top (rw (rules_more h) at g) p)

    -- behind the last room no rules are left
    pub pass_done : (s : Step) (W : List Rule) (f₀ f : List ℕ) (top : ℕ) → Going s rules_left W f₀ f top → n ≤ i → Ran s W f₀ f top
    unfolding rules_from
    pass_done s W f₀ f top g h = going_done s W f₀ f top (rw (held_done ends nbr kind n i h) at g)

-- the neighbours of a part, tested one by one
module _ (nbr kind : List ℕ) (end k m : ℕ) where
  -- whether every entry from place k on names a vertex whose sides are among so many
  abbrev all_here : Bool
  all_here = star_named m (cells (end - k) k nbr kind)

  -- all do exactly if the entry at place k does and those behind it do
  part_more : k < end → all_here ≡ (ltb (high (to_at nbr k)) m && star_named m (cells (end - (k + 1)) (k + 1) nbr kind))
  unfolding star_named all entry_at
  part_more h = rw (cells_more nbr kind end k h)

  -- where the next does not, not all do
  pub part_false : (w : Bool) (v : ℕ) → v ≡ to_at nbr k → m ≤ 2 * v + 1 → k < end → all_here ≡ w → false ≡ w
  part_false w v e l h q = rw (le-ltb (high (to_at nbr k)) m (omega arith)) at (sym (part_more h) ∙ q)

  -- where the next does, all do exactly if those behind it do
  pub part_next : (w : Bool) (v : ℕ) → v ≡ to_at nbr k → 2 * v + 1 < m → k < end → all_here ≡ w → star_named m (cells (end - (k + 1)) (k + 1) nbr kind) ≡ w
  part_next w v e l h q = rw (lt-ltb (high (to_at nbr k)) m (omega arith)) at (sym (part_more h) ∙ q)

  -- behind the last there is none left that could fail
  pub part_done : (w : Bool) → end ≤ k → all_here ≡ w → true ≡ w
  unfolding star_named all
  part_done w h q = rw (cells_done nbr kind end k h) at q

-- a star, tested as a whole
pub star_whole : (ends nbr kind : List ℕ) (i from end m : ℕ) (r : Bool) → from ≡ start_of ends (length nbr) i → end ≡ end_of ends (length nbr) i
    → r ≡ star_named m (cells (end - from) from nbr kind) → r ≡ star_named m (held_star ends nbr kind i)
unfolding held_star
star_whole ends nbr kind i from end m r ef ee q = rw (← ef, ← ee) q

-- the stars, tested one by one
module _ (ends nbr kind : List ℕ) (n i m : ℕ) where
  -- whether every star from star i on names vertices whose sides are among so many
  abbrev all_left : Bool
  all_left = named m (stars_in (n - i) i ends nbr kind)

  -- all do exactly if star i does and those behind it do
  all_more : i < n → all_left ≡ (star_named m (held_star ends nbr kind i) && named m (stars_in (n - (i + 1)) (i + 1) ends nbr kind))
  unfolding named all
  all_more h = rw (held_more ends nbr kind n i h)

  -- where the next does not, not all do
  pub all_false : (w b : Bool) → b ≡ star_named m (held_star ends nbr kind i) → not b ≡ true → i < n → all_left ≡ w → false ≡ w
  all_false w b e f h q = rw (sym e ∙ not-true b f) at (sym (all_more h) ∙ q)

  -- where the next does, all do exactly if those behind it do
  pub all_next : (w b : Bool) → b ≡ star_named m (held_star ends nbr kind i) → not b ≡ false → i < n → all_left ≡ w
      → named m (stars_in (n - (i + 1)) (i + 1) ends nbr kind) ≡ w
  all_next w b e f h q = rw (sym e ∙ not-false b f) at (sym (all_more h) ∙ q)

  -- behind the last there is none left that could fail
  pub all_done : (w : Bool) → n ≤ i → all_left ≡ w → true ≡ w
  unfolding named all
  all_done w h q = rw (held_done ends nbr kind n i h) at q
