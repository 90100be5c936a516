-- What the tests of sides and lines say, as facts. Assumes nothing.
use Rattle.std.specs.Prelude.{ℕ, zero, suc, ◌+◌, ◌≤◌, ◌<◌, ◌≡◌, refl, Bool, true, false, cond, not, ◌&&◌, leb, ltb, eqb}
use mathlib.Core.List.{List, Memᴰ}
use Rattle.std.proofs.Common.{arith, leb-true, ltb-true, eqb-true, le-leb, lt-ltb, eq-eqb}
use Rattle.std.proofs.Math.Decide.{ℕ_discrete}
use Rattle.floor.proofs.Lists.Laws.{and_parts, and_both, not_of, not_and, any_mem, mem_any}
use Rattle.floor.specs.Registers.{Stretch, built, starts, end_from, between}

-- a side covers the unit of line x from c to c + 1, as a test
abbrev pub covers : ℕ → ℕ → Stretch → Bool
covers x c s = eqb s.line x && leb s.begins c && ltb c s.ends

-- a side that covers the unit lies on line x, begins at c or before, and ends after c
pub covers_of : (x c : ℕ) (s : Stretch) → covers x c s ≡ true → (s.line ≡ x) × (s.begins ≤ c) × (c < s.ends)
covers_of x c s e =
    let (ab, k) = and_parts (eqb s.line x && leb s.begins c) (ltb c s.ends) e in
    let (a, b) = and_parts (eqb s.line x) (leb s.begins c) ab in
    (eqb-true s.line x a, leb-true s.begins c b, ltb-true c s.ends k)

-- a side on line x that begins at c or before and ends after c covers the unit
pub of_covers : (x c : ℕ) (s : Stretch) → s.line ≡ x → s.begins ≤ c → c < s.ends → covers x c s ≡ true
of_covers x c s a b k = and_both _ _ (and_both _ _ (eq-eqb s.line x a) (le-leb s.begins c b)) (lt-ltb c s.ends k)

-- a side found between b and e lies on line x, begins at b or after, and ends at e or before
pub between_of : (x b e : ℕ) (s : Stretch) → between x b e s ≡ true → (s.line ≡ x) × (b ≤ s.begins) × (s.ends ≤ e)
unfolding between
between_of x b e s q =
    let (ab, k) = and_parts (eqb s.line x && leb b s.begins) (leb s.ends e) q in
    let (a, c) = and_parts (eqb s.line x) (leb b s.begins) ab in
    (eqb-true s.line x a, leb-true b s.begins c, leb-true s.ends e k)

-- a side on line x that begins at b or after and ends at e or before is found between them
pub of_between : (x b e : ℕ) (s : Stretch) → s.line ≡ x → b ≤ s.begins → s.ends ≤ e → between x b e s ≡ true
unfolding between
of_between x b e s a c k = and_both _ _ (and_both _ _ (eq-eqb s.line x a) (le-leb b s.begins c)) (le-leb s.ends e k)

-- where all units from b to e are built and the one from e on is not, the wall that goes on from b ends at e
pub end_is : (S : List Stretch) (x m b e : ℕ) → b ≤ e → e ≤ b + m → ((c : ℕ) → b ≤ c → c < e → built S x c ≡ true) → built S x e ≡ false → end_from S x m b ≡ e
unfolding end_from
end_is S x zero b e l h all free = omega arith
end_is S x (suc m) b e l h all free = go (ℕ_discrete b e) (end_is S x m (suc b) e)
  where
    go : Dec (b ≡ e) → (suc b ≤ e → e ≤ suc b + m → ((c : ℕ) → suc b ≤ c → c < e → built S x c ≡ true) → built S x e ≡ false → end_from S x m (suc b) ≡ e)
        → cond (built S x b) (end_from S x m (suc b)) b ≡ e
    go (yes q) below =
        let o : built S x b ≡ false = rw q free in
        rw o q
    go (no q) below =
        let o : built S x b ≡ true = all b (omega arith) (omega arith) in
        rw o (below (omega arith) (omega arith) (λ c i k. all c (omega arith) k) free)

-- no wall ends before it begins
pub end_least : (S : List Stretch) (x m c : ℕ) → c ≤ end_from S x m c
unfolding end_from
end_least S x zero c = omega arith
end_least S x (suc m) c = go (built S x c) (end_least S x m (suc c))
  where
    go : (b : Bool) → suc c ≤ end_from S x m (suc c) → c ≤ cond b (end_from S x m (suc c)) c
    go true h = omega arith
    go false h = omega arith

-- from where a wall goes on to where it ends, every unit is built
pub built_to : (S : List Stretch) (x m b k : ℕ) → b ≤ k → k < end_from S x m b → built S x k ≡ true
unfolding end_from
built_to S x zero b k l h = absurd (omega arith)
built_to S x (suc m) b k l h = go (built S x b) refl h (ℕ_discrete b k) (built_to S x m (suc b) k)
  where
    go : (t : Bool) → built S x b ≡ t → k < cond t (end_from S x m (suc b)) b → Dec (b ≡ k) → (suc b ≤ k → k < end_from S x m (suc b) → built S x k ≡ true)
        → built S x k ≡ true
    go false e h q below = absurd (omega arith)
    go true e h (yes q) below = rw (← q) e
    go true e h (no q) below = below (omega arith) h

-- where a unit of line x is built, some side lies on it
pub built_some : (S : List Stretch) (x c : ℕ) → built S x c ≡ true → (s : Stretch) × Memᴰ s S × (s.line ≡ x) × (s.begins ≤ c) × (c < s.ends)
unfolding built
built_some S x c e = let (s, m, q) = any_mem (covers x c) S e in let (a, b, k) = covers_of x c s q in (s, m, a, b, k)

-- where some side lies on a unit of line x, that unit is built
pub some_built : (S : List Stretch) (x c : ℕ) (s : Stretch) → Memᴰ s S → s.line ≡ x → s.begins ≤ c → c < s.ends → built S x c ≡ true
unfolding built
some_built S x c s m a b k = mem_any (covers x c) S s m (of_covers x c s a b k)

-- a unit that cannot be built is found not built
pub not_built : (S : List Stretch) (x c : ℕ) → (built S x c ≡ true → ⊥) → built S x c ≡ false
not_built S x c h = go (built S x c) refl
  where
    go : (b : Bool) → built S x c ≡ b → built S x c ≡ false
    go true e = absurd (h e)
    go false e = e

-- where the unit from b on is built and the one up to b is not, a wall begins at b
pub starts_is : (S : List Stretch) (x b : ℕ) → built S x b ≡ true → ((c : ℕ) → suc c ≡ b → built S x c ≡ true → ⊥) → starts S x b ≡ true
unfolding starts
starts_is S x zero e h = e
starts_is S x (suc b) e h = and_both _ _ e (not_of (built S x b) (h b refl))

-- where a wall begins at b, the unit from b on is built and the one up to b is not
pub starts_of : (S : List Stretch) (x b : ℕ) → starts S x b ≡ true → (built S x b ≡ true) × ((c : ℕ) → suc c ≡ b → built S x c ≡ true → ⊥)
unfolding starts
starts_of S x zero e = (e, λ c q h. omega arith)
starts_of S x (suc b) e =
    let (k, n) = and_parts (built S x (suc b)) (not (built S x b)) e in
    (k, λ c q h. let z : b ≡ c = omega arith in not_and (built S x b) n (rw z h))

-- where the wall through a unit begins
pub begin_of : (S : List Stretch) (x c : ℕ) → built S x c ≡ true → (b : ℕ) × (b ≤ c) × (starts S x b ≡ true) × ((k : ℕ) → b ≤ k → k ≤ c → built S x k ≡ true)
unfolding starts
begin_of S x zero e = (0, omega arith, e, λ k l h. let z : k ≡ 0 = omega arith in rw z e)
begin_of S x (suc c) e = go (built S x c) refl (begin_of S x c)
  where
    go : (t : Bool) → built S x c ≡ t
        → (built S x c ≡ true → (b : ℕ) × (b ≤ c) × (starts S x b ≡ true) × ((k : ℕ) → b ≤ k → k ≤ c → built S x k ≡ true))
        → (b : ℕ) × (b ≤ suc c) × (starts S x b ≡ true) × ((k : ℕ) → b ≤ k → k ≤ suc c → built S x k ≡ true)
    go false q below = (suc c, omega arith, rw (e, q) refl, λ k l h. let z : k ≡ suc c = omega arith in rw z e)
    go true q below =
        let (b, l, s, h) = below q in
        (b, omega arith, s, λ k i n. last b h k i n (ℕ_discrete k (suc c)))
      where
        last : (b : ℕ) → ((k : ℕ) → b ≤ k → k ≤ c → built S x k ≡ true) → (k : ℕ) → b ≤ k → k ≤ suc c → Dec (k ≡ suc c) → built S x k ≡ true
        last b h k i n (yes z) = rw z e
        last b h k i n (no z) = h k i (omega arith)
