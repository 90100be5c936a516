-- Passes until nothing changes.
-- Assumes nothing.
use mathlib.Core.Path.{◌≡◌, ◌∙◌}
use mathlib.Core.Logic.{◌⊎◌, inl, inr}
use mathlib.Core.Bool.{Bool, true}
use mathlib.Core.List.{List, [], ◌∷◌}
use Prim.Native.Nat.{ℕ, suc, ◌-◌, ◌*◌, ◌≤◌, ◌<◌}
use native.Mathlib.Nat.{suc-mul}
use native.Mathlib.Decide.{dec_lt}
use native.Mathlib.Omega.{arith}
use lib.ListN.{length, replicate, length-replicate, get_or-replicate, get_or-eq_default}
use Rattle.walls.specs.declared.Step.{Step}
use Rattle.walls.specs.declared.Step.TheVariants.{Kept, Raised, Over}
use Rattle.floor.specs.Walls.{Rule, Circle, at}
use Rattle.floor.specs.Walls.Relax.{total, Reached}
use Rattle.floor.proofs.Walls.Relax.{reached_numbers, ones_reached}
use Rattle.walls.specs.Steps.{Ran, Climbs, Rose, Grew, Capped, Passed, Enough, Answers}

-- ones are not above the top, where that is at least 1
pub ones_capped : (n top : ℕ) → 1 ≤ top → (s : ℕ) → at (replicate n 1) s ≤ top
ones_capped n top t s = go (dec_lt s n)
  where
    go : Dec (s < n) → at (replicate n 1) s ≤ top
    go (yes h) = omega (arith, get_or-replicate {A = ℕ} n s 1 1 h)
    go (no h) = omega (arith, get_or-eq_default {A = ℕ} (replicate n 1) 1 {n = s} (omega (arith, length-replicate {A = ℕ} n 1)))

-- numbers that are not above the top add up to at most as many times the top
pub total_capped : (f : List ℕ) (top : ℕ) → ((s : ℕ) → at f s ≤ top) → total f ≤ length f * top
total_capped [] top h = omega arith
total_capped (x ∷ f) top h = omega (arith, h 0, total_capped f top (λ s. h (suc s)), suc-mul (length f) top)

-- a pass that keeps the numbers: they are the text's
pub settled : (E : List Rule) (s : Step) (f f' : List ℕ) (top n : ℕ) → s ≡ Kept → Ran s E f f' top → length f ≡ n → Reached E f → Answers true E f' n
settled E s f f' top n e p l k = let q : Ran Kept E f f' top = rw e at p in rw q.0 (reached_numbers E f k q.1, l)

-- one that raises them leaves less to raise, and what was reached is reached
module _ (E : List Rule) (s : Step) (f f' : List ℕ) (top n : ℕ) (e : s ≡ Raised) (p : Ran s E f f' top) where
  -- the pass raised numbers by the rules, and not past the top
  grew : Grew E f f' top
  grew = let q : Ran Raised E f f' top = rw e at p in q E (λ r m. m)

  -- what can still be raised, with the top as the limit of every number, has become less
  pub falls : length f ≡ n → Capped f top → n * top - total f' < n * top - total f
  falls l c =
      let m : total f' ≤ n * top = rw (grew.len ∙ l) at (total_capped f' top (grew.capped c)) in
      omega (arith, grew.more)

  -- walks reach the numbers after the pass, where they did before
  pub still_reached : Reached E f → Reached E f'
  still_reached k = grew.reach k

  -- no number is above the top after the pass, where none was before
  pub still_capped : Capped f top → Capped f' top
  still_capped c = grew.capped c

-- a walk past the top shows a circle
pub passed_circle : (E : List Rule) (top : ℕ) → Enough E top → Passed E top → Circle E
passed_circle E top en w g r = omega (arith, en g r w.side w.count w.walk, w.more)

-- a pass that comes past the top: the walls run in a circle
pub ran_circle : (E : List Rule) (s : Step) (f f₁ : List ℕ) (top : ℕ) → s ≡ Over → Ran s E f f₁ top → Reached E f → Enough E top → Circle E
ran_circle E s f f₁ top e p k en =
    let o : Ran Over E f f₁ top = rw e at p in
    passed_circle E top en (o E (λ r m. m) k)

-- rules run in some order from ones, none past the top: what was raised is reached, and is not above the top
module _ (E : List Rule) (s : Step) (f f' : List ℕ) (top n : ℕ) (e : f ≡ replicate n 1) (p : Climbs s E f f' top) (no : (s ≡ Kept) ⊎ (s ≡ Raised)) where
  -- numbers were raised or stayed, by the rules, and not past the top
  rose : Rose E f f' top
  rose = go no
    where
      go : (s ≡ Kept) ⊎ (s ≡ Raised) → Rose E f f' top
      go (inl q) = rw q at p
      go (inr q) = rw q at p

  -- walks reach the numbers
  pub climbed_reached : Reached E f'
  climbed_reached = rose.reach (rw e (ones_reached E n))

  -- no number is above the top, where that is at least 1
  pub climbed_capped : 1 ≤ top → Capped f' top
  climbed_capped t = rose.capped (rw e (ones_capped n top t))

-- rules run in some order, one past the top: a circle
pub climbed_circle : (E : List Rule) (s : Step) (f f₁ : List ℕ) (top n : ℕ) → f ≡ replicate n 1 → Climbs s E f f₁ top → s ≡ Over → Enough E top → Circle E
climbed_circle E s f f₁ top n e p o en =
    let c : Climbs Over E f f₁ top = rw o at p in
    passed_circle E top en (c (rw e (ones_reached E n)))

-- an answer for m sides is one for n sides, where m is n
pub answers_same : (E : List Rule) (b : Bool) (f : List ℕ) (m n : ℕ) → m ≡ n → Answers b E f m → Answers b E f n
answers_same E b f m n e a = rw (← e) a
