-- Which contact of the held stars turns, and its two kinds set, as the code comes by it. Assumes nothing.
use Prim.Native.Nat.{ℕ, ◌+◌, ◌-◌, ◌<◌, ◌≤◌}
use mathlib.Core.Path.{◌≡◌, refl, sym, ap, ◌∙◌}
use mathlib.Core.Logic.{◌⊎◌, inl, inr}
use mathlib.Core.Bool.{Bool, true, false, not, ◌&&◌, ◌||◌}
use mathlib.Core.List.{List}
use native.Mathlib.Omega.{arith}
use borrow.Author.Tests.{le-leb, lt-leb, not-true, not-false}
use lib.Dec.{leb, eqb}
use lib.ListN.{length, set}
use Rattle.floor.specs.Jobs.{Job, opposite, star_of, kind_of, list_of, reads, passing}
use Rattle.floor.specs.Turns.{is_last, turned_kind, turned, turning_at, turning_from, turning, in_contact}
use Rattle.stars.specs.Held.{held_star, job_in}
use Rattle.stars.proofs.Holding.{length_stars}
use Rattle.turns.specs.declared.Swing.{Swing as Said}
use Rattle.std.specs.Prelude.{Result, Ok, Err}
use Rattle.refusals.specs.declared.Refusal.{Refusal}
use Rattle.refusals.specs.declared.Refusal.TheVariants.{NoContact, CannotTurn}
use Rattle.refusals.specs.Numbers.{number_of}
use Rattle.turns.specs.InPlace.{stops, swings, allowed, swing_at, swing_from, swing_of, two_turned, turned_job, place_of, two_set, swung_in, turned_in, swing_said}
use Rattle.turns.proofs.Contacts.{room_held, contact_rooms, met_rooms, Rooms}

-- so many stars that lie one behind the other
module _ (c : ℕ) (ends nbr kind : List ℕ) where
  -- the job that they are
  abbrev job : Job
  job = job_in c ends nbr kind

  -- 12, or the contact
  module _ (u v k : ℕ) (lu : 4 ≤ u) (ku : u < 4 + c) (lv : 4 ≤ v) (kv : v < 4 + c) (m : ℕ) (em : m ≡ length (list_of (held_star ends nbr kind (u - 4)) k)) where
    -- as many neighbours of kind k were counted as the star of u has
    first_list : length (list_of (star_of job u) k) ≡ m
    first_list = rw (room_held c ends nbr kind u lu ku) (sym em)

    -- 12 where u has fewer than two of them
    pub swing_first : m < 2 → swing_said (Err CannotTurn) ≡ swing_at job u v k
    unfolding swing_said number_of swing_at allowed
    swing_first l = rw (first_list, lt-leb 2 m l)

    module _ (n s : ℕ) (lm : 2 ≤ m) (es : s ≡ opposite k) (en : n ≡ length (list_of (held_star ends nbr kind (v - 4)) s)) where
      -- as many neighbours of the opposite kind were counted as the star of v has
      second_list : length (list_of (star_of job v) (opposite k)) ≡ n
      second_list = rw (← es, room_held c ends nbr kind v lv kv) (sym en)

      -- 12 where v has fewer than two of them
      pub swing_second : n < 2 → swing_said (Err CannotTurn) ≡ swing_at job u v k
      unfolding swing_said number_of swing_at allowed
      swing_second l = rw (first_list, le-leb 2 m lm, second_list, lt-leb 2 n l)

      -- else the contact turns, to the kind that it takes by whether v is last of its list in u's star
      pub swing_turns : (last : Bool) (t : ℕ) → 2 ≤ n → last ≡ is_last (held_star ends nbr kind (u - 4)) v → t ≡ turned_kind k last
          → swing_said (Ok (record { first = u; second = v; kind = t })) ≡ swing_at job u v k
      unfolding swing_said number_of swing_at allowed
      swing_turns last t ln el et = rw (first_list, le-leb 2 m lm, second_list, le-leb 2 n ln, et, el, room_held c ends nbr kind u lu ku)

  -- 11, or the contact seen from the one room or the other
  module _ (u v : ℕ) (b : Bool) (eb : b ≡ in_contact job u v) where
    -- 11 where the two are not rooms in contact
    pub swing_none : not b ≡ true → swing_said (Err NoContact) ≡ swing_of job u v
    unfolding swing_said number_of swing_of allowed
    swing_none t = rw (← eb, not-true b t)

    module _ (f : not b ≡ false) (k : ℕ) (ek : k ≡ kind_of (held_star ends nbr kind (u - 4)) v) (a : Bool) (ea : a ≡ (eqb k 0 || eqb k 3)) (r : Result Said Refusal) where
      -- of two rooms in contact, it goes by the kind with which the first names the second
      seen : swing_of job u v ≡ swing_from a job u v k
      unfolding swing_of allowed
      seen =
          let (lu, ku, _, _) = met_rooms c ends nbr kind u v b eb f in
          rw (← eb, not-false b f, room_held c ends nbr kind u lu ku, ← ek, ← ea)

      -- v above u or to its right: seen from u
      pub swing_from_first : a ≡ true → swing_said r ≡ swing_at job u v k → swing_said r ≡ swing_of job u v
      unfolding swing_from
      swing_from_first t p = rw (seen, t) p

      -- v of any other kind at u: seen from v, with the opposite kind
      pub swing_from_second : a ≡ false → (s : ℕ) → s ≡ opposite k → swing_said r ≡ swing_at job v u s → swing_said r ≡ swing_of job u v
      unfolding swing_from
      swing_from_second t s es p = rw (seen, t, ← es) p

-- a refusal is no contact that turns
stops_not : {X : Type 0} {k a b t : ℕ} → stops k ≡ swings a b t → X
stops_not {X} {k} {a} {b} {t} e = let z : ◌≡◌ {A = ℕ} 0 1 = cc in absurd (omega arith)

-- seen from one of two rooms, the contact that turns is theirs
swung_at : (j : Job) (u v k a b t : ℕ) → swing_at j u v k ≡ swings a b t → (a ≡ u) × (b ≡ v)
unfolding swing_at allowed
swung_at j u v k a b t e = go (leb 2 (length (list_of (star_of j u) k)) && leb 2 (length (list_of (star_of j v) (opposite k)))) e
  where
    go : (c : Bool) → allowed c 12 (swings u v (turned_kind k (is_last (star_of j u) v))) ≡ swings a b t → (a ≡ u) × (b ≡ v)
    go true e = (cc, cc)
    go false e = stops_not e

-- whichever is named first, the contact that turns is theirs, and they are in contact
pub swung : (j : Job) (u v a b t : ℕ) → swing_of j u v ≡ swings a b t → (in_contact j u v ≡ true) × (((a ≡ u) × (b ≡ v)) ⊎ ((a ≡ v) × (b ≡ u)))
unfolding swing_of allowed swing_from
swung j u v a b t e = go (in_contact j u v) refl e
  where
    k : ℕ
    k = kind_of (star_of j u) v

    side : (d : Bool) → swing_from d j u v k ≡ swings a b t → ((a ≡ u) × (b ≡ v)) ⊎ ((a ≡ v) × (b ≡ u))
    side true e = inl (swung_at j u v k a b t e)
    side false e = inr (swung_at j v u (opposite k) a b t e)

    go : (c : Bool) → in_contact j u v ≡ c → allowed c 11 (swing_from (eqb k 0 || eqb k 3) j u v k) ≡ swings a b t
        → (in_contact j u v ≡ true) × (((a ≡ u) × (b ≡ v)) ⊎ ((a ≡ v) × (b ≡ u)))
    go false f e = stops_not e
    go true f e = (f, side (eqb k 0 || eqb k 3) e)

-- so it is one of two rooms
of_rooms : (j : Job) (u v a b t : ℕ) → swing_of j u v ≡ swings a b t → Rooms (length j) a b
of_rooms j u v a b t e = let (f, w) = swung j u v a b t e in which w (contact_rooms j u v f)
  where
    which : ((a ≡ u) × (b ≡ v)) ⊎ ((a ≡ v) × (b ≡ u)) → Rooms (length j) u v → Rooms (length j) a b
    which (inl (p, q)) r = rw (p, q) r
    which (inr (p, q)) r = rw (p, q) (r.2, r.3, r.0, r.1)

-- WHAT `turn_held` PROMISES of its answer and of what stands in the kinds lent to it
abbrev pub Promised : ℕ → List ℕ → List ℕ → List ℕ → ℕ → ℕ → Result Said Refusal → List ℕ → Type 0
Promised c ends nbr kind u v r x = (swing_said r ≡ swing_of (job_in c ends nbr kind) u v) × (x ≡ turned_in c ends nbr kind u v)

-- nothing turns, or both kinds are set
module _ (c : ℕ) (ends nbr kind : List ℕ) (u v : ℕ) (r : Result Said Refusal) (er : swing_said r ≡ swing_of (job_in c ends nbr kind) u v) where
  -- a refusal leaves the kinds as they were
  pub turns_not : (k : Refusal) → r ≡ Err k → Promised c ends nbr kind u v (Err k) kind
  unfolding turned_in swung_in swing_said
  turns_not k e = (sym (ap swing_said e) ∙ er, rw (← er, e))

  module _ (w : Said) (e : r ≡ Ok w) where
    -- the two that turn are rooms
    rooms : Rooms c w.first w.second
    unfolding swing_said
    rooms = rw (length_stars c 0 ends nbr kind) at (of_rooms (job_in c ends nbr kind) u v w.first w.second w.kind (sym er ∙ ap swing_said e))

    -- the first is no side of the frame
    pub first_low : 4 ≤ w.first
    first_low = rooms.0

    -- the second is no side of the frame
    pub second_low : 4 ≤ w.second
    second_low = rooms.2

    -- the one kind set, then the other, are what is promised
    pub turns_so : (p q s : ℕ) (x y : List ℕ) → p ≡ place_of ends nbr (w.first - 4) w.second → q ≡ place_of ends nbr (w.second - 4) w.first
        → x ≡ set kind p w.kind → s ≡ opposite w.kind → y ≡ set x q s → Promised c ends nbr kind u v (Ok w) y
    unfolding turned_in swung_in swing_said two_set
    turns_so p q s x y ep eq ex es ey = (sym (ap swing_said e) ∙ er, rw (← er, e, ← ep, ← eq, ← es, ← ex) ey)

-- THE JOB OF IT is the one that turning gives
pub turning_swings : (j : Job) (u v : ℕ) → turning j u v ≡ turned_job j (swing_of j u v)
unfolding turning swing_of turned_job passing allowed turning_at swing_at turned two_turned turning_from swing_from
turning_swings j u v = go (in_contact j u v)
  where
    k : ℕ
    k = kind_of (star_of j u) v

    at : (a b m : ℕ) → turning_at j a b m ≡ turned_job j (swing_at j a b m)
    at a b m = test (leb 2 (length (list_of (star_of j a) m)) && leb 2 (length (list_of (star_of j b) (opposite m))))
      where
        test : (c : Bool) → passing c 12 (reads (turned j a b m)) ≡ turned_job j (allowed c 12 (swings a b (turned_kind m (is_last (star_of j a) b))))
        test true = refl
        test false = refl

    side : (d : Bool) → turning_from d j u v k ≡ turned_job j (swing_from d j u v k)
    side true = at u v k
    side false = at v u (opposite k)

    go : (c : Bool) → passing c 11 (turning_from (eqb k 0 || eqb k 3) j u v k) ≡ turned_job j (allowed c 11 (swing_from (eqb k 0 || eqb k 3) j u v k))
    go true = side (eqb k 0 || eqb k 3)
    go false = refl
