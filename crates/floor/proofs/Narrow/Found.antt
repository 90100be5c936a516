-- A search finds the first pair that passes, and a pair passes exactly where its turn is one that narrows. Assumes nothing.
use Prim.Native.Nat.{ℕ, zero, suc, ◌+◌, ◌≤◌, ◌<◌}
use Rattle.std.specs.Prelude.{◌≡◌, ◌⊎◌, Bool, cond, ◌||◌, length}
use Rattle.std.proofs.Math.Path.{refl, ap}
use Rattle.std.proofs.Common.{sym, ◌∙◌, arith, ltb-true, lt-ltb}
use Rattle.std.proofs.Math.Logic.{inl, inr}
use Rattle.std.proofs.Math.Bool.{true, false}
use mathlib.Core.List.{Memᴰ}
use Rattle.std.proofs.Math.Decide.{ℕ_discrete}
use Rattle.floor.proofs.Lists.Laws.{no_false, and_parts, and_both, or_cases, or_left, or_right}
use Rattle.floor.specs.Jobs.{Job, SizedJob, Room, opposite, star_of, lists}
use Rattle.floor.specs.Jobs.Facts.{Passes}
use Rattle.floor.proofs.Jobs.Facts.{lists_mem, mem_lists}
use Rattle.floor.specs.Jobs.Stars.{entry}
use Rattle.floor.specs.Plans.{Plan, Answer, refused, held}
use Rattle.floor.specs.Turns.{turn}
use Rattle.floor.specs.Narrow.{Stacked, Sooner, Narrows, NoneNarrows, FirstNarrows, stacked, narrower, turn_narrows, Search, nothing, pair, or_else}
use Rattle.floor.specs.Narrow.{first_with, first_pair, turn_found, narrow_once}

module _ (f : ℕ → ℕ → Bool) where
  -- what a search of one row says
  abbrev Row : ℕ → ℕ → ℕ → Search → Type 0
  Row u v k nothing = (b : ℕ) → v ≤ b → b < v + k → f u b ≡ false
  Row u v k (pair a b) = (a ≡ u) × (v ≤ b) × (b < v + k) × (f u b ≡ true) × ((c : ℕ) → v ≤ c → c < b → f u c ≡ false)

  row : (u v k : ℕ) → Row u v k (first_with f u v k)
  unfolding first_with
  row u v zero = λ b l h. absurd (omega arith)
  row u v (suc k) = go (f u v) refl (first_with f u (suc v) k) (row u (suc v) k)
    where
      more : (x : f u v ≡ false) (c : ℕ) → v ≤ c → (suc v ≤ c → f u c ≡ false) → f u c ≡ false
      more x c l h = which (ℕ_discrete c v)
        where
          which : Dec (c ≡ v) → f u c ≡ false
          which (yes e) = ap (f u) e ∙ x
          which (no e) = h (omega arith)

      go : (t : Bool) → f u v ≡ t → (s : Search) → Row u (suc v) k s → Row u v (suc k) (cond t (pair u v) s)
      go true x s below = (refl, omega arith, omega arith, x, λ c l h. absurd (omega arith))
      go false x nothing below = λ b l h. more x b l (λ m. below b m (omega arith))
      go false x (pair a b) below =
          (below.0, omega (arith, below.1), omega (arith, below.2), below.3, λ c l h. more x c l (λ m. below.4 c m h))

  -- what a search of all pairs of k numbers from u on says
  abbrev pub Pairs : ℕ → ℕ → Search → Type 0
  Pairs u k nothing = (a b : ℕ) → u ≤ a → a < b → b < u + k → f a b ≡ false
  Pairs u k (pair a b) =
      (u ≤ a) × (a < b) × (b < u + k) × (f a b ≡ true) × ((c d : ℕ) → u ≤ c → c < d → d < u + k → Sooner c d a b → f c d ≡ false)

  pub pairs : (u k : ℕ) → Pairs u k (first_pair f u k)
  unfolding first_pair or_else
  pairs u zero = λ a b l m h. absurd (omega arith)
  pairs u (suc k) = go (first_with f u (suc u) k) (row u (suc u) k) (first_pair f (suc u) k) (pairs (suc u) k)
    where
      at_u : (c d : ℕ) → c ≡ u → f u d ≡ false → f c d ≡ false
      at_u c d e x = ap (λ z. f z d) e ∙ x

      go : (r : Search) → Row u (suc u) k r → (s : Search) → Pairs (suc u) k s → Pairs u (suc k) (or_else r s)
      go nothing x nothing y = λ c d l m h. which c d l m h (ℕ_discrete c u)
        where
          which : (c d : ℕ) → u ≤ c → c < d → d < u + suc k → Dec (c ≡ u) → f c d ≡ false
          which c d l m h (yes e) = at_u c d e (x d (omega arith) (omega arith))
          which c d l m h (no e) = y c d (omega arith) m (omega arith)
      go nothing x (pair a b) y =
          (omega (arith, y.0), y.1, omega (arith, y.2), y.3, λ c d l m h o. which c d l m h o (ℕ_discrete c u))
        where
          which : (c d : ℕ) → u ≤ c → c < d → d < u + suc k → Sooner c d a b → Dec (c ≡ u) → f c d ≡ false
          which c d l m h o (yes e) = at_u c d e (x d (omega arith) (omega arith))
          which c d l m h o (no e) = y.4 c d (omega arith) m (omega arith) o
      go (pair a b) x s y =
          (omega (arith, x.0), omega (arith, x.0, x.1), omega (arith, x.2), at_u' x.3, λ c d l m h o. which c d l m o)
        where
          at_u' : f u b ≡ true → f a b ≡ true
          at_u' q = ap (λ z. f z b) x.0 ∙ q

          which : (c d : ℕ) → u ≤ c → c < d → Sooner c d a b → f c d ≡ false
          which c d l m (inl o) = absurd (omega (arith, x.0))
          which c d l m (inr (e, o)) = at_u c d (e ∙ x.0) (x.4 d (omega (arith, x.0)) o)

-- a pair passes exactly where its turn is one that narrows
narrower_held : (w : ℕ) (a : Answer) → narrower w a ≡ true → (i : SizedJob) × (q : Plan) × (a ≡ held i q) × (q.width < w)
unfolding narrower
narrower_held w (refused k) e = no_false e
narrower_held w (held i q) e = (i, q, refl, ltb-true q.width w e)

held_narrower : (w : ℕ) (a : Answer) (i : SizedJob) (q : Plan) → a ≡ held i q → q.width < w → narrower w a ≡ true
unfolding narrower
held_narrower w a i q e l = rw e (lt-ltb q.width w l)

module _ (j : Job) (ok : Passes j) where
  pub stacked_of : (u v : ℕ) → Room j u → Room j v → u < v → stacked j u v ≡ true → Stacked j u v
  unfolding stacked
  stacked_of u v ru rv l e = go (or_cases (lists (star_of j u) v 0) (lists (star_of j u) v 2) e)
    where
      go : (lists (star_of j u) v 0 ≡ true) ⊎ (lists (star_of j u) v 2 ≡ true) → Stacked j u v
      go (inl x) = record { room_u = ru; room_v = rv; lower = l; contact = inl (lists_mem (star_of j u) v 0 x) }
      go (inr x) = record {
        room_u = ru;
        room_v = rv;
        lower = l;
        contact = inr (unfold opposite in ok.opposed u ru (entry v 2) (lists_mem (star_of j u) v 2 x) rv.0);
      }

  pub of_stacked : (u v : ℕ) → Stacked j u v → stacked j u v ≡ true
  unfolding stacked
  of_stacked u v s = go s.contact
    where
      go : Memᴰ (entry v 0) (star_of j u) ⊎ Memᴰ (entry u 0) (star_of j v) → (lists (star_of j u) v 0 || lists (star_of j u) v 2) ≡ true
      go (inl m) = or_left (lists (star_of j u) v 0) (lists (star_of j u) v 2) (mem_lists (star_of j u) v 0 m)
      go (inr m) = or_right (lists (star_of j u) v 0) (lists (star_of j u) v 2)
          (mem_lists (star_of j u) v 2 (unfold opposite in ok.opposed v s.room_v (entry u 0) m s.room_u.0))

module _ (o : SizedJob) (ok : Passes o.stars) (p : Plan) where
  pub narrows_of : (u v : ℕ) → Room o.stars u → Room o.stars v → u < v → turn_narrows o p.width u v ≡ true
      → (i : SizedJob) × (q : Plan) × Narrows o p u v i q
  unfolding turn_narrows
  narrows_of u v ru rv l e =
      let (x, y) = and_parts (stacked o.stars u v) (narrower p.width (turn o u v)) e in
      let (i, q, h, m) = narrower_held p.width (turn o u v) y in
      (i, q, record { stacked = stacked_of o.stars ok u v ru rv l x; accepted = h; narrower = m })

  pub of_narrows : (u v : ℕ) (i : SizedJob) (q : Plan) → Narrows o p u v i q → turn_narrows o p.width u v ≡ true
  unfolding turn_narrows
  of_narrows u v i q n =
      and_both _ _ (of_stacked o.stars ok u v n.stacked) (held_narrower p.width (turn o u v) i q n.accepted n.narrower)

  -- WHAT ONE ROUND DOES: the first that narrows is turned, or there is none
  pub data Round : Type 0 where
    turns : (f : FirstNarrows o p) → narrow_once o p ≡ held f.job f.plan → Round
    stops : NoneNarrows o p → (k : ℕ) → narrow_once o p ≡ refused k → Round

  no_pair : (f : Bool) → f ≡ true → f ≡ false → ⊥
  no_pair f x y = no_false (sym y ∙ x)

  pub round : Round
  round = go (first_pair (turn_narrows o p.width) 4 (length o.stars)) refl (pairs (turn_narrows o p.width) 4 (length o.stars))
    where
      is : (s : Search) → first_pair (turn_narrows o p.width) 4 (length o.stars) ≡ s → narrow_once o p ≡ turn_found o s
      is s e = unfold narrow_once in ap (turn_found o) e

      apart : (a b : ℕ) (i : SizedJob) (q : Plan) → Narrows o p a b i q → (4 ≤ a) × (a < b) × (b < 4 + length o.stars)
      apart a b i q n = (n.stacked.room_u.0, n.stacked.lower, omega (arith, n.stacked.room_v.1))

      go : (s : Search) → first_pair (turn_narrows o p.width) 4 (length o.stars) ≡ s → Pairs (turn_narrows o p.width) 4 (length o.stars) s → Round
      go nothing e x =
          stops (λ a b i q n. no_pair _ (of_narrows a b i q n) (x a b (apart a b i q n).0 (apart a b i q n).1 (apart a b i q n).2)) 0
          (is nothing e ∙ unfold turn_found in refl)
      go (pair u v) e x =
          let (i, q, n) = narrows_of u v (x.0, omega (arith, x.1, x.2)) (omega (arith, x.0, x.1), omega (arith, x.2)) x.1 x.3 in
          turns (record {
            u = u;
            v = v;
            job = i;
            plan = q;
            this = n;
            first = λ a b i q o n.
                no_pair _ (of_narrows a b i q n) (x.4 a b (apart a b i q n).0 (apart a b i q n).1 (apart a b i q n).2 o);
          }) (is (pair u v) e ∙ unfold turn_found in n.accepted)
