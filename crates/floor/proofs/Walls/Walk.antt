-- The numbers by the definition are the numbers that respect the rules and are reached by walks; so there is at most one such numbering, and it is the least.
-- Assumes nothing.
use Rattle.std.specs.Prelude.{◌≡◌, refl, ◌⊎◌, ℕ, zero, suc, ◌+◌, ◌≤◌, ◌<◌}
use Rattle.std.proofs.Common.{sym, ◌∙◌, inl, inr, arith}
use mathlib.Core.List.{List, Memᴰ}
use Rattle.floor.specs.Walls.{Rule, same, before, OnWall, here, along, back, Comes, First, After, Numbers, Respects, Circle}
use Rattle.floor.specs.Walls.Walk.{Walk, start, on, off, up}

-- the numbers are at least 1
abbrev pub Positive : (ℕ → ℕ) → Type 0
Positive g = (s : ℕ) → 1 ≤ g s

-- LEAST: no numbering is below a walk
pub walk_le : {E : List Rule} (g : ℕ → ℕ) → Positive g → Respects E g → {s v : ℕ} → Walk E s v → v ≤ g s
walk_le g p r (start {s}) = p s
walk_le g p r (on {a} {b} m w) = omega (arith, walk_le g p r w, r (same a b) m)
walk_le g p r (off {a} {b} m w) = omega (arith, walk_le g p r w, r (same a b) m)
walk_le g p r (up {a} {b} {x} m w) = omega (arith, walk_le g p r w, r (before a b x) m)

-- what stands on one wall, from either end
pub onwall_trans : {E : List Rule} {a b c : ℕ} → OnWall E a b → OnWall E b c → OnWall E a c
onwall_trans here q = q
onwall_trans (along m p) q = along m (onwall_trans p q)
onwall_trans (back m p) q = back m (onwall_trans p q)

-- two sides of one wall, named the other way round
pub onwall_sym : {E : List Rule} {a b : ℕ} → OnWall E a b → OnWall E b a
onwall_sym here = here
onwall_sym (along m p) = onwall_trans (onwall_sym p) (back m here)
onwall_sym (back m p) = onwall_trans (onwall_sym p) (along m here)

-- numbers that respect the rules are the same along a wall
pub onwall_eq : {E : List Rule} (g : ℕ → ℕ) → Respects E g → {a b : ℕ} → OnWall E a b → g a ≡ g b
onwall_eq g r here = refl
onwall_eq g r (along {a} {b} m p) = r (same a b) m ∙ onwall_eq g r p
onwall_eq g r (back {a} {b} m p) = sym (r (same a b) m) ∙ onwall_eq g r p

-- numbers that respect the rules rise by at least 1 plus the gap from a wall to one it comes before
pub comes_lt : {E : List Rule} (g : ℕ → ℕ) → Respects E g → {a s x : ℕ} → Comes E a s x → g a + suc x ≤ g s
comes_lt g r {a} {s} {x} k =
    omega (arith, onwall_eq g r k.leaves, onwall_eq g r k.enters, r (before k.tail k.head x) k.rule)

-- a walk moved along its wall
pub walk_along : {E : List Rule} {a b v : ℕ} → OnWall E a b → Walk E a v → Walk E b v
walk_along here w = w
walk_along (along m p) w = walk_along p (on m w)
walk_along (back m p) w = walk_along p (off m w)

-- the last gap of a walk: either there is none, or a wall that comes before, and a walk to it
pub record Last (E : List Rule) (s v : ℕ) : Type 0 where
  pub one : ℕ
  pub gap : ℕ
  pub rest : ℕ
  pub comes : Comes E one s gap
  pub walk : Walk E one rest
  pub total : v ≡ rest + suc gap

-- what comes before a wall comes before it at each of its sides
comes_along : {E : List Rule} {a b c x : ℕ} → Comes E a b x → OnWall E b c → Comes E a c x
comes_along k p = record { tail = k.tail; head = k.head; leaves = k.leaves; rule = k.rule; enters = onwall_trans k.enters p }

-- the last gap of a walk is the same at each side of the wall where the walk ends
last_along : {E : List Rule} {b c v : ℕ} → OnWall E b c → (v ≡ 1) ⊎ Last E b v → (v ≡ 1) ⊎ Last E c v
last_along p (inl e) = inl e
last_along p (inr l) =
    inr (record { one = l.one; gap = l.gap; rest = l.rest; comes = comes_along l.comes p; walk = l.walk; total = l.total })

-- a walk is 1, or it has a last gap, from a wall that comes before
pub walk_last : {E : List Rule} {s v : ℕ} → Walk E s v → (v ≡ 1) ⊎ Last E s v
walk_last start = inl refl
walk_last (on m w) = last_along (along m here) (walk_last w)
walk_last (off m w) = last_along (back m here) (walk_last w)
walk_last (up {a} {b} {x} {v} m w) =
    inr (record {
      one = a;
      gap = x;
      rest = v;
      comes = record { tail = a; head = b; leaves = here; rule = m; enters = here };
      walk = w;
      total = refl;
    })

-- TIGHT: numbers that respect the rules and are reached by walks are the numbers of the definition
module _ (E : List Rule) (f : ℕ → ℕ) (r : Respects E f) (p : Positive f) (w : (s : ℕ) → Walk E s (f s)) where
  -- a side numbered 1, or with a last gap: nothing comes before its wall and it is 1, or it is 1 plus the largest before it
  each_of : (s : ℕ) → (f s ≡ 1) ⊎ Last E s (f s) → First E f s ⊎ After E f s
  each_of s (inl e) = inl (record { nothing = λ a x k. omega (arith, p a, comes_lt f r k); is_one = e })
  each_of s (inr l) =
      inr (record {
        one = l.one;
        gap = l.gap;
        comes = l.comes;
        is_more = omega (arith, walk_le f p r l.walk, comes_lt f r l.comes);
        largest = λ a x k. comes_lt f r k;
      })

  -- so they are the numbers of the definition
  pub tight : Numbers E f
  tight = record { wall = λ a b k. onwall_eq f r k; each = λ s. each_of s (walk_last (w s)) }

-- THE OTHER WAY: the numbers of the definition respect the rules, and walks reach them
module _ (E : List Rule) (f : ℕ → ℕ) (n : Numbers E f) where
  -- the numbers of the definition are at least 1
  pub numbers_positive : Positive f
  numbers_positive s = go (n.each s)
    where
      go : First E f s ⊎ After E f s → 1 ≤ f s
      go (inl h) = omega (arith, h.is_one)
      go (inr h) = omega (arith, h.is_more)

  -- the numbers of the definition respect every rule
  pub numbers_respects : Respects E f
  numbers_respects (same a b) m = n.wall a b (along m here)
  numbers_respects (before a b x) m = go (n.each b)
    where
      k : Comes E a b x
      k = record { tail = a; head = b; leaves = here; rule = m; enters = here }

      go : First E f b ⊎ After E f b → f a + suc x ≤ f b
      go (inl h) = absurd (h.nothing a x k)
      go (inr h) = h.largest a x k

  -- a side numbered at most k + 1 is reached by a walk of its number, where every side numbered at most k is
  walk_of : (k s : ℕ) → f s ≤ suc k → ((a : ℕ) → f a ≤ k → Walk E a (f a)) → First E f s ⊎ After E f s → Walk E s (f s)
  walk_of k s h below (inl e) = rw e.is_one start
  walk_of k s h below (inr e) =
      rw e.is_more
      (walk_along e.comes.enters
      (up e.comes.rule (walk_along e.comes.leaves (below e.one (omega (arith, e.is_more))))))

  -- each side whose number is at most k is reached by a walk of that number
  walk_below : (k s : ℕ) → f s ≤ k → Walk E s (f s)
  walk_below zero s h = absurd (omega (arith, numbers_positive s))
  walk_below (suc k) s h = walk_of k s h (walk_below k) (n.each s)

  -- every side is reached by a walk of its number
  pub numbers_walk : (s : ℕ) → Walk E s (f s)
  numbers_walk s = walk_below (f s) s (omega arith)

-- UNIQUE: there is at most one numbering by the definition
pub unique : (E : List Rule) (f g : ℕ → ℕ) → Numbers E f → Numbers E g → (s : ℕ) → f s ≡ g s
unique E f g m n s =
    omega (
      arith,
      walk_le g (numbers_positive E g n) (numbers_respects E g n) (numbers_walk E f m s),
      walk_le f (numbers_positive E f m)
          (numbers_respects E f m) (numbers_walk E g n s),
    )

-- b is w after a, along a chain of rules
pub data Chain (E : List Rule) (a : ℕ) : ℕ → ℕ → Type 0 where
  stay : Chain E a a 0
  over_to : {b c w : ℕ} → Memᴰ (same b c) E → Chain E a b w → Chain E a c w
  back_to : {b c w : ℕ} → Memᴰ (same b c) E → Chain E a c w → Chain E a b w
  up_to : {b c x w : ℕ} → Memᴰ (before b c x) E → Chain E a b w → Chain E a c (w + suc x)

-- numbers that respect the rules rise along a chain by at least as much as the chain does
pub chain_le : {E : List Rule} (g : ℕ → ℕ) → Respects E g → {a b w : ℕ} → Chain E a b w → g a + w ≤ g b
chain_le g r stay = omega arith
chain_le g r (over_to {b} {c} m k) = omega (arith, chain_le g r k, r (same b c) m)
chain_le g r (back_to {b} {c} m k) = omega (arith, chain_le g r k, r (same b c) m)
chain_le g r (up_to {b} {c} {x} m k) = omega (arith, chain_le g r k, r (before b c x) m)

-- a chain that comes back higher: the walls run in a circle. What fast code shows for a refusal
pub chain_circle : {E : List Rule} {a w : ℕ} → 0 < w → Chain E a a w → Circle E
chain_circle h k g r = omega (arith, chain_le g r k)
