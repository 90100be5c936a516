-- What follows from the promise of `turn_held`. Assumes nothing.
use Prim.Native.Nat.{ℕ}
use mathlib.Core.Path.{◌≡◌, sym, ◌∙◌, ap}
use mathlib.Core.List.{List}
use native.Mathlib.Omega.{arith}
use Rattle.std.specs.Prelude.{Result, Ok, Err}
use Rattle.refusals.specs.declared.Refusal.{Refusal}
use Rattle.refusals.specs.Numbers.{number_of}
use Rattle.refusals.proofs.Same.{same_refusal}
use Rattle.fields.proofs.Corollaries.{one_answer}
use Rattle.turns.specs.declared.Swing.{Swing as Said}
use Rattle.turns.specs.InPlace.{swing_said}
use Rattle.turns.proofs.Placing.{Promised}

-- two answers that say the same are the same
same_said : (a b : Result Said Refusal) → swing_said a ≡ swing_said b → a ≡ b
unfolding swing_said
same_said (Err k) (Err l) e = let z : number_of k ≡ number_of l = cc in ap Err (same_refusal k l z)
same_said (Err k) (Ok s) e = absurd (let z : ◌≡◌ {A = ℕ} 0 1 = cc in omega arith)
same_said (Ok r) (Err k) e = absurd (let z : ◌≡◌ {A = ℕ} 0 1 = cc in omega arith)
same_said (Ok r) (Ok s) e = let p : r.first ≡ s.first = cc in let q : r.second ≡ s.second = cc in let t : r.kind ≡ s.kind = cc in ap Ok (rw (p, q, t))

-- THE PROMISE OF `turn_held` ALLOWS ONE ANSWER AND ONE CONTENT OF THE KINDS
pub one_turning : (c : ℕ) (ends nbr kind : List ℕ) (u v : ℕ) (a b : Result Said Refusal) (x y : List ℕ) → Promised c ends nbr kind u v a x → Promised c ends nbr kind u v b y
    → (a ≡ b) × (x ≡ y)
one_turning c ends nbr kind u v a b x y e f = (same_said a b (e.0 ∙ sym f.0), one_answer x y _ e.1 f.1)
