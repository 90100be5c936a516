-- Definitions; what is proved of them stands in proofs/ under the same name. Assumes nothing.
use Rattle.std.specs.Prelude.{ℕ, ◌≤◌, ◌≡◌, eqb}
use mathlib.Core.List.{[], ◌∷◌, Memᴰ}
use Rattle.floor.specs.Jobs.{Entry, Star, Restarted}
use Rattle.floor.specs.Lists.Laws.{count}

-- the entry of neighbour v with kind k
abbrev pub entry : ℕ → ℕ → Entry
entry v k = record { to = v; kind = k }

-- how often v is named; how many are of kind k
abbrev pub named : ℕ → Star → ℕ
named v s = count (λ d. eqb d.to v) s

-- how many entries of a star are of kind k
abbrev pub of_kind : ℕ → Star → ℕ
of_kind k s = count (λ e. eqb e.kind k) s

-- every kind of the star is k or more
abbrev pub AtLeast : ℕ → Star → Type 0
AtLeast k [] = Unit {0}
AtLeast k (e ∷ s) = (k ≤ e.kind) × AtLeast k s

-- every kind of the star is k or less
abbrev pub AtMost : ℕ → Star → Type 0
AtMost k [] = Unit {0}
AtMost k (e ∷ s) = (e.kind ≤ k) × AtMost k s

-- the kinds of the star never fall
abbrev pub Sorted : Star → Type 0
Sorted [] = Unit {0}
Sorted (e ∷ s) = AtLeast e.kind s × Sorted s

-- TEST 5, and that no kind is over 3: started elsewhere, its kinds never fall
pub record GoodStar (s : Star) : Type 0 where
  pub round : Star
  pub restarts : Restarted s round
  pub sorted : Sorted round
  pub small : AtMost 3 s
  pub has : (k : ℕ) → k ≤ 3 → 1 ≤ of_kind k s
  pub once : (e : Entry) → Memᴰ e s → named e.to s ≡ 1
