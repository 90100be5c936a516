-- Narrowing the floor (request W10): the description in plain words, and its computation. Assumes nothing.
use Rattle.std.specs.Prelude.{ℕ, zero, suc, ◌<◌, ◌≡◌, ◌⊎◌, Bool, false, cond, ◌&&◌, ◌||◌, length, ltb}
use mathlib.Core.List.{Memᴰ}
use Rattle.floor.specs.Jobs.{Job, Room, star_of, lists, SizedJob}
use Rattle.floor.specs.Plans.{Plan, Answer, refused, held}
use Rattle.floor.specs.Turns.{turn}

-- A ROOM CONTACT OF KIND 0, the lower-numbered room first: one of the two lies above the other
pub record Stacked (j : Job) (u v : ℕ) : Type 0 where
  pub room_u : Room j u
  pub room_v : Room j v
  pub lower : u < v
  pub contact : Memᴰ (record { to = v; kind = 0 }) (star_of j u) ⊎ Memᴰ (record { to = u; kind = 0 }) (star_of j v)

-- the pair a, b comes before the pair u, v: by the lower-numbered room, and then by the other
abbrev pub Sooner : ℕ → ℕ → ℕ → ℕ → Type 0
Sooner a b u v = (a < u) ⊎ ((a ≡ u) × (b < v))

-- such a contact whose turn is accepted and makes the sheet narrower: i and q are held after it
pub record Narrows (o : SizedJob) (p : Plan) (u v : ℕ) (i : SizedJob) (q : Plan) : Type 0 where
  pub stacked : Stacked o.stars u v
  pub accepted : turn o u v ≡ held i q
  pub narrower : q.width < p.width

-- there is none
abbrev pub NoneNarrows : SizedJob → Plan → Type 0
NoneNarrows o p = (u v : ℕ) (i : SizedJob) (q : Plan) → Narrows o p u v i q → ⊥

-- the first, with what is held after its turn
pub record FirstNarrows (o : SizedJob) (p : Plan) : Type 0 where
  pub u : ℕ
  pub v : ℕ
  pub job : SizedJob
  pub plan : Plan
  pub this : Narrows o p u v job plan
  pub first : (a b : ℕ) (i : SizedJob) (q : Plan) → Sooner a b u v → Narrows o p a b i q → ⊥

-- THE DESCRIPTION: from o and p, by n turns, to i and q: again and again the first that narrows is turned, until there is none
abbrev pub Described : ℕ → SizedJob → Plan → SizedJob → Plan → Type 0
Described zero o p i q = (i ≡ o) × (q ≡ p) × NoneNarrows o p
Described (suc n) o p i q = (f : FirstNarrows o p) × Described n f.job f.plan i q

-- the star of u has v above or below u
unfoldable pub stacked : Job → ℕ → ℕ → Bool
stacked j u v = lists (star_of j u) v 0 || lists (star_of j u) v 2

-- a plan narrower than w
unfoldable pub narrower : ℕ → Answer → Bool
narrower w (refused k) = false
narrower w (held i q) = ltb q.width w

-- the test of one pair, on a sheet w wide
unfoldable pub turn_narrows : SizedJob → ℕ → ℕ → ℕ → Bool
turn_narrows o w u v = stacked o.stars u v && narrower w (turn o u v)

-- what a search gives
pub data Search : Type 0 where
  nothing : Search
  pair : ℕ → ℕ → Search

-- one search, and where it finds nothing the other
unfoldable pub or_else : Search → Search → Search
or_else nothing s = s
or_else (pair u v) s = pair u v

-- the first to pass the test f of the pairs of u with v, v + 1 and so on, k of them
unfoldable pub first_with : (ℕ → ℕ → Bool) → ℕ → ℕ → ℕ → Search
first_with f u v zero = nothing
first_with f u v (suc k) = cond (f u v) (pair u v) (first_with f u (suc v) k)

-- the first to pass of the pairs of k numbers from u on: those of u with the numbers after it, then those of the numbers after it
unfoldable pub first_pair : (ℕ → ℕ → Bool) → ℕ → ℕ → Search
first_pair f u zero = nothing
first_pair f u (suc k) = or_else (first_with f u (suc u) k) (first_pair f (suc u) k)

-- what is held, and after how many turns
pub record Slim : Type 0 where
  pub job : SizedJob
  pub plan : Plan
  pub turns : ℕ

-- one turn more
abbrev pub one_more : Slim → Slim
one_more r = record { job = r.job; plan = r.plan; turns = suc r.turns }

-- the turn of the pair found; nothing found, nothing held
unfoldable pub turn_found : SizedJob → Search → Answer
turn_found o nothing = refused 0
turn_found o (pair u v) = turn o u v

-- ONE ROUND: the first that narrows, turned
unfoldable pub narrow_once : SizedJob → Plan → Answer
narrow_once o p = turn_found o (first_pair (turn_narrows o p.width) 4 (length o.stars))

-- after a round that turned, the rounds that follow; else what is held stays
unfoldable pub onward : SizedJob → Plan → Answer → (SizedJob → Plan → Slim) → Slim
onward o p (refused k) next = record { job = o; plan = p; turns = 0 }
onward o p (held i q) next = one_more (next i q)

-- no more than so many rounds
unfoldable pub rounds : ℕ → SizedJob → Plan → Slim
rounds zero o p = record { job = o; plan = p; turns = 0 }
rounds (suc f) o p = onward o p (narrow_once o p) (λ i q. rounds f i q)

-- THE FLOOR NARROWED: a sheet cannot get narrower more often than it is wide
unfoldable pub narrowed : SizedJob → Plan → Slim
narrowed o p = rounds p.width o p
