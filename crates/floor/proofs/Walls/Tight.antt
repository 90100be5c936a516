-- Numbers that hold wherever the numbers of the definition have nothing to spare are nowhere smaller than those. Assumes nothing.
use Rattle.std.specs.Prelude.{ℕ, zero, suc, ◌+◌, ◌≤◌, ◌≡◌, refl, ◌⊎◌}
use Rattle.std.proofs.Common.{sym, ◌∙◌, inl, inr, arith}
use mathlib.Core.List.{List, Memᴰ}
use Rattle.floor.specs.Walls.{Rule, same, before, OnWall, here, along, back, First, After, Numbers, Holds}
use Rattle.floor.proofs.Walls.Walk.{Positive}

-- f meets a rule with nothing to spare
abbrev pub Tight : (ℕ → ℕ) → Rule → Type 0
Tight f (same a b) = Unit {0}
Tight f (before a b x) = f b ≡ f a + suc x

module _ (E : List Rule) (f g : ℕ → ℕ) (n : Numbers E f) (p : Positive g) (h : (r : Rule) → Memᴰ r E → Tight f r → Holds g r) where
  -- g is the same along a wall
  along_wall : {a b : ℕ} → OnWall E a b → g a ≡ g b
  along_wall here = refl
  along_wall (along {a} {b} m q) = h (same a b) m tt ∙ along_wall q
  along_wall (back {a} {b} m q) = sym (h (same a b) m tt) ∙ along_wall q

  -- no smaller, of sides numbered at most k
  below : (k s : ℕ) → f s ≤ k → First E f s ⊎ After E f s → f s ≤ g s
  below zero s l (inl e) = omega (arith, e.is_one, p s)
  below zero s l (inr e) = absurd (omega (arith, e.is_more))
  below (suc k) s l (inl e) = omega (arith, e.is_one, p s)
  below (suc k) s l (inr e) =
      let c = e.comes in
      let x : f e.one ≤ g e.one = below k e.one (omega (arith, e.is_more)) (n.each e.one) in
      let t : f c.head ≡ f c.tail + suc e.gap
      = omega (arith, e.is_more, n.wall e.one c.tail c.leaves, n.wall c.head s c.enters) in
      omega (arith, x, e.is_more, along_wall c.leaves, along_wall c.enters, h (before c.tail c.head e.gap) c.rule t)

  -- NOWHERE SMALLER
  pub tight_least : (s : ℕ) → f s ≤ g s
  tight_least s = below (f s) s (omega arith) (n.each s)
