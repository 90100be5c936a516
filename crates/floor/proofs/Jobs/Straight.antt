-- A star read from its first above-neighbour on, wherever it starts. Assumes nothing.
use Rattle.std.specs.Prelude.{ℕ, ◌≤◌, ◌<◌, ◌≡◌, refl, ◌↔◌, Bool, true, false, cond, get_or, leb, eqb}
use Rattle.std.proofs.Common.{sym, ap, ◌∙◌, arith, le-leb}
use mathlib.Core.List.{[], ◌∷◌, ◌++◌, append-nil, Memᴰ}
use Rattle.std.proofs.lemmas.Bool.{lt-leb}
use Rattle.floor.proofs.Lists.Laws.{count_nil}
use Rattle.floor.specs.Jobs.{Entry, Star, Restarted, star_ok}
use Rattle.floor.proofs.Jobs.Round.{restart_none, restart_back, restart_mem, restart_count}
use Rattle.floor.specs.Jobs.Stars.{named, of_kind, AtMost, Sorted, GoodStar}
use Rattle.floor.proofs.Jobs.Stars.{last_of, first_above, last_right, round_has, good_of, of_good}

-- THE STAR FROM WHERE THE KIND FALLS: the entries behind that place, then those before it
unfoldable pub past_fall : Star → Star
past_fall [] = []
past_fall (d ∷ s) = cond (leb d.kind (get_or s 0 d).kind) (past_fall s) s

-- the entries up to the place where the kind first falls; all of them where it never does
unfoldable pub up_to_fall : Star → Star
up_to_fall [] = []
up_to_fall (d ∷ s) = d ∷ cond (leb d.kind (get_or s 0 d).kind) (up_to_fall s) []

-- the star started behind the place where its kind first falls; as it is where it never does
unfoldable pub straight : Star → Star
straight s = past_fall s ++ up_to_fall s

-- the straight star is the star started elsewhere
pub straight_restarts : (s : Star) → Restarted s (straight s)
unfolding straight past_fall up_to_fall
straight_restarts s = record { front = up_to_fall s; rest = past_fall s; is_one = whole s; is_other = refl }
  where
    whole : (s : Star) → s ≡ up_to_fall s ++ past_fall s
    whole [] = refl
    whole (d ∷ s) = go (leb d.kind (get_or s 0 d).kind) (whole s)
      where
        go : (b : Bool) → s ≡ up_to_fall s ++ past_fall s → d ∷ s ≡ (d ∷ cond b (up_to_fall s) []) ++ cond b (past_fall s) s
        go true e = ap (λ (r : Star). d ∷ r) e
        go false e = refl

-- where it falls
falls_at : (d : Entry) (F : Star) (e : Entry) (R : Star) → Sorted (d ∷ F) → e.kind < (last_of d F).kind
    → (past_fall (d ∷ F ++ e ∷ R) ≡ e ∷ R) × (up_to_fall (d ∷ F ++ e ∷ R) ≡ d ∷ F)
unfolding past_fall up_to_fall
falls_at d [] e R o h = let f : leb d.kind e.kind ≡ false = lt-leb d.kind e.kind h in rw f (refl, refl)
falls_at d (x ∷ F) e R o h =
    let t : leb d.kind x.kind ≡ true = le-leb d.kind x.kind o.0.0 in
    let (a, b) = falls_at x F e R o.1 h in
    (rw t a, rw t (ap (λ (r : Star). d ∷ r) b))

-- where kinds never fall, the part past a fall is empty, and the part up to it is the whole star
falls_not : (d : Entry) (F : Star) → Sorted (d ∷ F) → (past_fall (d ∷ F) ≡ []) × (up_to_fall (d ∷ F) ≡ d ∷ F)
unfolding past_fall up_to_fall
falls_not d [] o = let t : leb d.kind d.kind ≡ true = le-leb d.kind d.kind (omega arith) in rw t (refl, refl)
falls_not d (x ∷ F) o =
    let t : leb d.kind x.kind ≡ true = le-leb d.kind x.kind o.0.0 in
    let (a, b) = falls_not x F o.1 in
    (rw t a, rw t (ap (λ (r : Star). d ∷ r) b))

-- where kinds never fall along two stars together, they never fall along the second
sorted_behind : (P Q : Star) → Sorted (P ++ Q) → Sorted Q
sorted_behind [] Q o = o
sorted_behind (d ∷ P) Q o = sorted_behind P Q o.1

-- the last of two stars, one behind the other, is the last of the second
pub last_behind : (e : Entry) (R : Star) (d : Entry) (F : Star) → last_of e (R ++ d ∷ F) ≡ last_of d F
last_behind e [] d F = refl
last_behind e (x ∷ R) d F = last_behind x R d F

-- A SORTED STAR WITH A FIRST AND A LAST KIND is the straight one of all that start elsewhere
pub straight_is : {s t : Star} → Restarted s t → Sorted t → 1 ≤ of_kind 0 t → 1 ≤ of_kind 3 t → straight s ≡ t
unfolding straight
straight_is {s} {t} r o a b = rw (r.is_one, r.is_other) (go r.front r.rest (rw r.is_other at o) (rw r.is_other at a) (rw r.is_other at b))
  where
    alone : (T : Star) → Sorted T → 1 ≤ of_kind 0 T → past_fall T ++ up_to_fall T ≡ T
    alone [] o a = absurd (omega (arith, count_nil (λ (e : Entry). eqb e.kind 0)))
    alone (d ∷ T) o a = let (x, y) = falls_not d T o in rw (x, y)

    go : (F R : Star) → Sorted (R ++ F) → 1 ≤ of_kind 0 (R ++ F) → 1 ≤ of_kind 3 (R ++ F) → past_fall (F ++ R) ++ up_to_fall (F ++ R) ≡ R ++ F
    go [] R o a b = rw (append-nil R) (alone R (rw (append-nil R) at o) (rw (append-nil R) at a))
    go (d ∷ F) [] o a b = rw (append-nil F) (alone (d ∷ F) o a)
    go (d ∷ F) (e ∷ R) o a b =
        let z : e.kind ≡ 0 = first_above e (R ++ d ∷ F) o a in
        let l : 3 ≤ (last_of e (R ++ d ∷ F)).kind = last_right e (R ++ d ∷ F) o b in
        let m : 3 ≤ (last_of d F).kind = rw (last_behind e R d F) at l in
        let (x, y) = falls_at d F e R (sorted_behind (e ∷ R) (d ∷ F) o) (omega arith) in
        rw (x, y)

-- a star past test 5, made straight, is the one started elsewhere whose kinds never fall
pub straight_good : (s : Star) (g : GoodStar s) → straight s ≡ g.round
straight_good s g = straight_is g.restarts g.sorted (round_has s g 0 (omega arith)) (round_has s g 3 (omega arith))

-- a star past test 5, made straight, has every kind
pub straight_has : (s : Star) (g : GoodStar s) (k : ℕ) → k ≤ 3 → 1 ≤ of_kind k (straight s)
straight_has s g k h = rw (straight_good s g) (round_has s g k h)

-- the kinds of a star past test 5, made straight, never fall
pub straight_sorted : (s : Star) → GoodStar s → Sorted (straight s)
straight_sorted s g = rw (straight_good s g) g.sorted

-- DOCUMENT 01'S RULE of a star that starts with its first above-neighbour: kinds never fall, none is missing, and no neighbour stands twice
pub record FromAbove (s : Star) : Type 0 where
  pub sorted : Sorted s
  pub has : (k : ℕ) → k ≤ 3 → 1 ≤ of_kind k s
  pub once : (e : Entry) → Memᴰ e s → named e.to s ≡ 1

-- TEST 5 IS THAT RULE, read from the first above-neighbour on, wherever the star starts
pub star_rule : (s : Star) → AtMost 3 s → (star_ok s ≡ true) ↔ FromAbove (straight s)
star_rule s small = (λ h. forth (good_of s h small), λ f. of_good s (back f))
  where
    r : Restarted s (straight s)
    r = straight_restarts s

    forth : GoodStar s → FromAbove (straight s)
    forth g = record {
      sorted = straight_sorted s g;
      has = straight_has s g;
      once = λ e m. sym (restart_count r (λ (d : Entry). eqb d.to e.to)) ∙ g.once e (restart_mem (restart_back r) m);
    }

    back : FromAbove (straight s) → GoodStar s
    back f = record {
      round = straight s;
      restarts = r;
      sorted = f.sorted;
      small = small;
      has = λ k h. omega (arith, f.has k h, restart_count r (λ (e : Entry). eqb e.kind k));
      once = λ e m. restart_count r (λ (d : Entry). eqb d.to e.to) ∙ f.once e (restart_mem r m);
    }

-- a star that starts so passes as it always did
pub from_above : (s : Star) → AtMost 3 s → FromAbove s → star_ok s ≡ true
from_above s small f =
    of_good s (record { round = s; restarts = restart_none s; sorted = f.sorted; small = small; has = f.has; once = f.once })
