-- What a lift does, seen from the rules.
-- Assumes nothing.
use mathlib.Core.Path.{◌≡◌, refl, ap, ◌∙◌}
use mathlib.Core.Logic.{◌⊎◌, inl, inr}
use mathlib.Core.List.Memᴰ
use mathlib.Core.List.{List, [], ◌∷◌}
use Prim.Native.Nat.{ℕ, zero, suc, ◌+◌, ◌≤◌, ◌<◌}
use native.Mathlib.Nat.{add-zero}
use native.Mathlib.Omega.{arith}
use lib.ListN.{length, get_or, set}
use Rattle.walls.specs.declared.Step.{Step}
use Rattle.walls.specs.declared.Step.TheVariants.{Kept, Raised, Over}
use Rattle.floor.specs.Walls.{Rule, same, before, Holds, Respects, at, raise}
use Rattle.floor.specs.Walls.Walk.{Walk, on, off, up}
use Rattle.floor.proofs.Walls.Relax.{raise_is, raise_more, raise_reached, length_raise}
use Rattle.walls.specs.Steps.{Lifts, Ran, Grew, rule_of}

-- setting b to w above a, where it stands lower, is raising it to at least w above a
lift_is_raise : (f : List ℕ) (a b w : ℕ) → at f b < at f a + w → set f b (at f a + w) ≡ raise f a b w
unfolding raise
lift_is_raise f a b w h = ap (λ (v : ℕ). set f b v) (omega arith)

-- a lift not past the top, along a step that every walk can take, raises the numbers by the rules
lift_grew : (E : List Rule) (f : List ℕ) (a b w top : ℕ) → b < length f → at f b < at f a + w → at f a + w ≤ top
    → ((v : ℕ) → Walk E a v → Walk E b (v + w)) → Grew E f (set f b (at f a + w)) top
lift_grew E f a b w top l h t step = rw (lift_is_raise f a b w h) (record {
  len = length_raise f a b w;
  more = raise_more f a b w l h;
  reach = raise_reached E f a b w step;
  capped = λ c s. under c s (raise_is f a b w s);
})
  where
    under : ((s : ℕ) → at f s ≤ top) → (s : ℕ) → (at (raise f a b w) s ≡ at f s) ⊎ ((s ≡ b) × (at (raise f a b w) s ≡ at f a + w))
        → at (raise f a b w) s ≤ top
    under c s (inl e) = omega (arith, c s)
    under c s (inr e) = omega arith

-- numbers that respect a rule respect the list of that rule alone
one_holds : (g : ℕ → ℕ) (r : Rule) → Holds g r → Respects (r ∷ []) g
one_holds g r h q (Memᴰ.tail x4) = elim x4 [ ]
one_holds g r h q (Memᴰ.head e) = rw e h

-- a rule with a gap is one lift
pub ran_up : (r : Step) (f f' : List ℕ) (a b w top : ℕ) → 0 < w → b < length f → Lifts r f f' a b w top → Ran r (rule_of a b w ∷ []) f f' top
ran_up r f f' a b zero top p l h = absurd (omega arith)
ran_up Kept f f' a b (suc x) top p l h = (h.0, one_holds (at f) (before a b x) h.1)
ran_up Raised f f' a b (suc x) top p l h =
    λ E m. rw h.0 (lift_grew E f a b (suc x) top l h.1 h.2 (λ v w. up (m (before a b x) (Memᴰ.head refl)) w))
ran_up Over f f' a b (suc x) top p l h =
    λ E m k. record { side = b; count = at f a + suc x; walk = up (m (before a b x) (Memᴰ.head refl)) (k a); more = h.1 }

-- a joining rule: the lift up, where that has something to do
pub ran_raised : (f f' : List ℕ) (a b w top : ℕ) → w ≤ 0 → b < length f → Lifts Raised f f' a b w top → Ran Raised (rule_of a b w ∷ []) f f' top
ran_raised f f' a b zero top p l h =
    λ E m. rw h.0 (lift_grew E f a b 0 top l h.1 h.2 (λ v w. rw add-zero (on (m (same a b) (Memᴰ.head refl)) w)))
ran_raised f f' a b (suc x) top p l h = absurd (omega arith)

-- a joining rule: the lift up, where that would pass the top
pub ran_over : (f f' : List ℕ) (a b w top : ℕ) → w ≤ 0 → Lifts Over f f' a b w top → Ran Over (rule_of a b w ∷ []) f f' top
ran_over f f' a b zero top p h =
    λ E m k. record { side = b; count = at f a; walk = on (m (same a b) (Memᴰ.head refl)) (k a); more = omega (arith, h.1) }
ran_over f f' a b (suc x) top p h = absurd (omega arith)

-- and else the lift back
pub ran_back : (r : Step) (f f₁ f' : List ℕ) (a b w top : ℕ) → w ≤ 0 → a < length f → Lifts Kept f f₁ a b w top → Lifts r f₁ f' b a 0 top
    → Ran r (rule_of a b w ∷ []) f f' top
ran_back r f f₁ f' a b (suc x) top p l k h = absurd (omega arith)
ran_back Kept f f₁ f' a b zero top p l k h =
    let e : (f' ≡ f) × (at f b + 0 ≤ at f a) = (h.0 ∙ k.0, rw k.0 at h.1) in
    (e.0, one_holds (at f) (same a b) (omega (arith, k.1)))
ran_back Raised f f₁ f' a b zero top p l k h =
    let g : Lifts Raised f f' b a 0 top = rw k.0 at h in
    λ E m. rw g.0 (lift_grew E f b a 0 top l g.1 g.2 (λ v w. rw add-zero (off (m (same a b) (Memᴰ.head refl)) w)))
ran_back Over f f₁ f' a b zero top p l k h =
    let g : Lifts Over f f' b a 0 top = rw k.0 at h in
    λ E m t. record { side = a; count = at f b; walk = off (m (same a b) (Memᴰ.head refl)) (t b); more = omega (arith, g.1) }

-- inside the list the default does not matter
pub at_get_d : (f : List ℕ) (s : ℕ) → s < length f → get_or f s 0 ≡ at f s
at_get_d [] s h = absurd (omega arith)
at_get_d (x ∷ f) zero h = refl
at_get_d (x ∷ f) (suc s) h = at_get_d f s (omega arith)
