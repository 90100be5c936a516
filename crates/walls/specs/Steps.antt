-- What the steps of the code promise. Assumes nothing.
use Rattle.std.specs.Prelude.{◌≡◌, Bool, true, false, ℕ, zero, suc, ◌+◌, ◌*◌, ◌≤◌, ◌<◌, length, set, drop}
use mathlib.Core.List.{List, ◌++◌, Memᴰ}
use Rattle.walls.specs.declared.Step.{Step}
use Rattle.walls.specs.declared.Step.TheVariants.{Kept, Raised, Over}
use Rattle.walls.specs.declared.rules.Rules.{Rules}
use Rattle.walls.specs.Jobs.{axis_of}
use Rattle.stars.specs.Held.{job_held}
use Rattle.stars.specs.Sized.{sizes_lent}
use Rattle.floor.specs.Walls.{Rule, same, before, Numbers, Respects, Circle, at, rules}
use Rattle.floor.specs.Walls.Walk.{Walk}
use Rattle.floor.specs.Walls.Relax.{total, Reached}

-- the rules that are said in one direction
abbrev pub rules_of : Rules → List Rule
rules_of r = rules (axis_of r.way) (job_held r.stars) (sizes_lent r.sizes)

-- how many sides there are: two for each vertex
abbrev pub sides_of : Rules → ℕ
sides_of r = 2 * (r.stars.count + 4)

-- side b against side a
abbrev pub Lifts : Step → List ℕ → List ℕ → ℕ → ℕ → ℕ → ℕ → Type 0
Lifts Kept f f' a b w top = (f' ≡ f) × (at f a + w ≤ at f b)
Lifts Raised f f' a b w top = (f' ≡ set f b (at f a + w)) × (at f b < at f a + w) × (at f a + w ≤ top)
Lifts Over f f' a b w top = (f' ≡ f) × (top < at f a + w)

-- the rule of three numbers: a gap of 0 joins
abbrev pub rule_of : ℕ → ℕ → ℕ → Rule
rule_of a b zero = same a b
rule_of a b (suc x) = before a b x

-- some walk passes the top
pub record Passed (E : List Rule) (top : ℕ) : Type 0 where
  pub side : ℕ
  pub count : ℕ
  pub walk : Walk E side count
  pub more : top < count

-- no number is above the top
abbrev pub Capped : List ℕ → ℕ → Type 0
Capped f top = (s : ℕ) → at f s ≤ top

-- numbers were raised, by the rules of E, and not past the top
pub record Grew (E : List Rule) (f f' : List ℕ) (top : ℕ) : Type 0 where
  pub len : length f' ≡ length f
  pub more : total f < total f'
  pub reach : Reached E f → Reached E f'
  pub capped : Capped f top → Capped f' top

-- numbers were raised or stayed, by the rules of E, and not past the top
pub record Rose (E : List Rule) (f f' : List ℕ) (top : ℕ) : Type 0 where
  pub len : length f' ≡ length f
  pub reach : Reached E f → Reached E f'
  pub capped : Capped f top → Capped f' top

-- the rules of D are among those of E
abbrev pub Among : List Rule → List Rule → Type 0
Among D E = (r : Rule) → Memᴰ r D → Memᴰ r E

-- THE RULES OF D WERE RUN, once each: all of them are met; or numbers were raised; or a walk passes the top
abbrev pub Ran : Step → List Rule → List ℕ → List ℕ → ℕ → Type 0
Ran Kept D f f' top = (f' ≡ f) × Respects D (at f)
Ran Raised D f f' top = (E : List Rule) → Among D E → Grew E f f' top
Ran Over D f f' top = (E : List Rule) → Among D E → Reached E f → Passed E top

-- SOME RULES OF E WERE RUN, in any order, as often as one likes
abbrev pub Climbs : Step → List Rule → List ℕ → List ℕ → ℕ → Type 0
Climbs Kept E f f' top = Rose E f f' top
Climbs Raised E f f' top = Rose E f f' top
Climbs Over E f f' top = Reached E f → Passed E top

-- what one step and then another did
abbrev pub both : Step → Step → Step
both Kept t = t
both Raised Kept = Raised
both Raised Raised = Raised
both Raised Over = Over
both Over t = Over

-- where numbers can be put on the walls, no walk passes the top
abbrev pub Enough : List Rule → ℕ → Type 0
Enough E top = (g : ℕ → ℕ) → Respects E g → (s v : ℕ) → Walk E s v → v ≤ top

-- THE ANSWER: the numbers of the definition; or a circle
abbrev pub Answers : Bool → List Rule → List ℕ → ℕ → Type 0
Answers true E f n = Numbers E (at f) × (length f ≡ n)
Answers false E f n = Circle E

-- the answer of n sides, in front of a list; what is behind stays
pub record Fronts (b : Bool) (E : List Rule) (n : ℕ) (l l' : List ℕ) : Type 0 where
  pub front : List ℕ
  pub answers : Answers b E front n
  pub is : l' ≡ front ++ drop n l
