-- Rules run one after the other. Assumes nothing.
use mathlib.Core.Path.{◌≡◌, refl, ◌∙◌}
use mathlib.Core.Logic.{◌⊎◌, inl, inr}
use mathlib.Core.List.Memᴰ
use mathlib.Core.List.{List, [], ◌++◌, Memᴰ}
use Prim.Native.Nat.{ℕ}
use native.Mathlib.Omega.{arith}
use Rattle.walls.specs.declared.Step.{Step}
use Rattle.walls.specs.declared.Step.TheVariants.{Kept, Raised, Over}
use Rattle.floor.specs.Walls.{Rule, Holds, Respects, at}
use Rattle.walls.specs.Steps.{Grew, Rose, Among, Ran, Climbs, both}

-- numbers that were raised, and raised again, were raised
grew_trans : {E : List Rule} {f f₁ f' : List ℕ} {top : ℕ} → Grew E f f₁ top → Grew E f₁ f' top → Grew E f f' top
grew_trans p q = record {
  len = q.len ∙ p.len;
  more = omega (arith, p.more, q.more);
  reach = λ k. q.reach (p.reach k);
  capped = λ c. q.capped (p.capped c);
}

-- numbers that respect the rules of two lists respect all of them together
respects_append : (D D' : List Rule) (g : ℕ → ℕ) → Respects D g → Respects D' g → Respects (D ++ D') g
respects_append D D' g x y r m = go (Memᴰ.append_cases D m)
  where
    go : Memᴰ r D ⊎ Memᴰ r D' → Holds g r
    go (inl n) = x r n
    go (inr n) = y r n

-- THE RULES OF TWO LISTS, run one list after the other
module _ (D D' : List Rule) (f f₁ f₂ : List ℕ) (top : ℕ) where
  -- where the rules of both are among those of E, those of the first are
  left : (E : List Rule) → Among (D ++ D') E → Among D E
  left E i r m = i r (Memᴰ.append_left D' m)

  -- where the rules of both are among those of E, those of the second are
  right : (E : List Rule) → Among (D ++ D') E → Among D' E
  right E i r m = i r (Memᴰ.append_right D m)

  -- together they did what the first did and then the second
  pub ran_both : (s t : Step) → Ran s D f f₁ top → Ran t D' f₁ f₂ top → Ran (both s t) (D ++ D') f f₂ top
  ran_both Kept Kept p q = (q.0 ∙ p.0, respects_append D D' (at f) p.1 (rw p.0 at q.1))
  ran_both Kept Raised p q = λ E i. rw p.0 at (q E (right E i))
  ran_both Kept Over p q = λ E i. rw p.0 at (q E (right E i))
  ran_both Raised Kept p q = λ E i. rw q.0 (p E (left E i))
  ran_both Raised Raised p q = λ E i. grew_trans (p E (left E i)) (q E (right E i))
  ran_both Raised Over p q = λ E i k. q E (right E i) ((p E (left E i)).reach k)
  ran_both Over t p q = λ E i k. p E (left E i) k

-- as far as a run has come: if the rules left do t, the whole did what was done and then t
abbrev pub Going : Step → List Rule → List Rule → List ℕ → List ℕ → ℕ → Type 0
Going s D W f₀ f top = (t : Step) (f' : List ℕ) → Ran t D f f' top → Ran (both s t) W f₀ f' top

-- at the start all the rules are left
pub going_start : (W : List Rule) (f : List ℕ) (top : ℕ) → Going Kept W W f f top
going_start W f top t f' r = r

-- of three steps it does not matter which two are taken together
both_assoc : (s t u : Step) → both (both s t) u ≡ both s (both t u)
both_assoc Kept t u = refl
both_assoc Raised Kept u = refl
both_assoc Raised Raised Kept = refl
both_assoc Raised Raised Raised = refl
both_assoc Raised Raised Over = refl
both_assoc Raised Over u = refl
both_assoc Over t u = refl

-- a step that does nothing adds nothing to the one before
both_kept : (s : Step) → both s Kept ≡ s
both_kept Kept = refl
both_kept Raised = refl
both_kept Over = refl

-- the next rules
pub going_next : (s t : Step) (D D' W : List Rule) (f₀ f f₁ : List ℕ) (top : ℕ) → Going s (D ++ D') W f₀ f top → Ran t D f f₁ top
    → Going (both s t) D' W f₀ f₁ top
going_next s t D D' W f₀ f f₁ top g p u f' q = rw (both_assoc s t u) (g (both t u) f' (ran_both D D' f f₁ f' top t u p q))

-- no rules are left
pub going_done : (s : Step) (W : List Rule) (f₀ f : List ℕ) (top : ℕ) → Going s [] W f₀ f top → Ran s W f₀ f top
going_done s W f₀ f top g = rw (both_kept s) at (g Kept f (refl, λ r m. elim m [ ]))

-- numbers that were raised or stayed, twice over, were raised or stayed
rose_trans : {E : List Rule} {f₀ f f' : List ℕ} {top : ℕ} → Rose E f₀ f top → Rose E f f' top → Rose E f₀ f' top
rose_trans p g = record { len = g.len ∙ p.len; reach = λ k. g.reach (p.reach k); capped = λ c. g.capped (p.capped c) }

-- SOME RULES, then some more
pub climbs_both : (E : List Rule) (f f₁ f₂ : List ℕ) (top : ℕ) (s t : Step) → Climbs s E f f₁ top → Climbs t E f₁ f₂ top → Climbs (both s t) E f f₂ top
climbs_both E f f₁ f₂ top Kept Kept p q = rose_trans p q
climbs_both E f f₁ f₂ top Kept Raised p q = rose_trans p q
climbs_both E f f₁ f₂ top Kept Over p q = λ k. q (p.reach k)
climbs_both E f f₁ f₂ top Raised Kept p q = rose_trans p q
climbs_both E f f₁ f₂ top Raised Raised p q = rose_trans p q
climbs_both E f f₁ f₂ top Raised Over p q = λ k. q (p.reach k)
climbs_both E f f₁ f₂ top Over t p q = p

-- rules that were run are rules that were run in some order
pub ran_climbs : (D E : List Rule) (f f' : List ℕ) (top : ℕ) (s : Step) → Among D E → Ran s D f f' top → Climbs s E f f' top
ran_climbs D E f f' top Kept i p = rw p.0 (record { len = refl; reach = λ k. k; capped = λ c. c })
ran_climbs D E f f' top Raised i p = let g : Grew E f f' top = p E i in record { len = g.len; reach = g.reach; capped = g.capped }
ran_climbs D E f f' top Over i p = p E i
