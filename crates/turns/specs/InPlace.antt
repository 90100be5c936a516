-- Held stars with a contact turned where they stand: two kinds set, and nothing moves. Assumes nothing.
use Rattle.std.specs.Prelude.{ℕ, ◌-◌, Bool, true, false, ◌&&◌, ◌||◌, List, length, set, leb, eqb, Result, Ok, Err}
use Rattle.floor.specs.Jobs.{Job, opposite, star_of, kind_of, list_of, Reading, fails, reads}
use Rattle.floor.specs.Turns.{is_last, turned_kind, with_kind, in_contact}
use Rattle.refusals.specs.declared.Refusal.{Refusal}
use Rattle.refusals.specs.Numbers.{number_of}
use Rattle.stars.specs.declared.Stars.{Stars}
use Rattle.stars.specs.Held.{start_of, end_of, job_in, place_in}
use Rattle.turns.specs.declared.Swing.{Swing as Said}

-- which contact turns: a refusal, or two rooms, and the kind with which the first then names the second
pub data Swing : Type 0 where
  stops : ℕ → Swing
  swings : ℕ → ℕ → ℕ → Swing

-- a test passed, or else its number
unfoldable pub allowed : Bool → ℕ → Swing → Swing
allowed true k s = s
allowed false k s = stops k

-- 12 where a list has fewer than two
unfoldable pub swing_at : Job → ℕ → ℕ → ℕ → Swing
swing_at j u v k =
    allowed (leb 2 (length (list_of (star_of j u) k)) && leb 2 (length (list_of (star_of j v) (opposite k)))) 12
    (swings u v (turned_kind k (is_last (star_of j u) v)))

-- the contact seen from the one room or the other
unfoldable pub swing_from : Bool → Job → ℕ → ℕ → ℕ → Swing
swing_from true j u v k = swing_at j u v k
swing_from false j u v k = swing_at j v u (opposite k)

-- WHICH CONTACT TURNS: 11, 12, or the two rooms and the new kind
unfoldable pub swing_of : Job → ℕ → ℕ → Swing
swing_of j u v =
    let k : ℕ = kind_of (star_of j u) v in
    allowed (in_contact j u v) 11 (swing_from (eqb k 0 || eqb k 3) j u v k)

-- the job in which u names v with kind t, and v names u with the opposite kind
unfoldable pub two_turned : Job → ℕ → ℕ → ℕ → Job
two_turned j u v t = set (set j (u - 4) (with_kind (star_of j u) v t)) (v - 4) (with_kind (star_of j v) u (opposite t))

-- the job with it turned
unfoldable pub turned_job : Job → Swing → Reading Job
turned_job j (stops k) = fails k
turned_job j (swings a b t) = reads (two_turned j a b t)

-- the place at which star i names v; the place behind the star where it does not
unfoldable pub place_of : List ℕ → List ℕ → ℕ → ℕ → ℕ
place_of ends nbr i v =
    let start : ℕ = start_of ends (length nbr) i in
    place_in (end_of ends (length nbr) i - start) start nbr v

-- some kinds with two of them set: where room a names b, and where b names a
unfoldable pub two_set : List ℕ → List ℕ → List ℕ → ℕ → ℕ → ℕ → List ℕ
two_set ends nbr kind a b t = set (set kind (place_of ends nbr (a - 4) b) t) (place_of ends nbr (b - 4) a) (opposite t)

-- so where the contact turns; as they were where it is refused
unfoldable pub swung_in : List ℕ → List ℕ → List ℕ → Swing → List ℕ
swung_in ends nbr kind (stops k) = kind
swung_in ends nbr kind (swings a b t) = two_set ends nbr kind a b t

-- THE KINDS WITH A CONTACT TURNED, of so many stars that lie one behind the other, whatever stands there
unfoldable pub turned_in : ℕ → List ℕ → List ℕ → List ℕ → ℕ → ℕ → List ℕ
turned_in count ends nbr kind u v = swung_in ends nbr kind (swing_of (job_in count ends nbr kind) u v)

-- the stars with both kinds of a contact set
unfoldable pub two_put : Stars → ℕ → ℕ → ℕ → Stars
two_put h a b t = record { count = h.count; ends = h.ends; nbr = h.nbr; kind = two_set h.ends h.nbr h.kind a b t }

-- what an answer says
unfoldable pub swing_said : Result Said Refusal → Swing
swing_said (Err k) = stops (number_of k)
swing_said (Ok s) = swings s.first s.second s.kind
