-- In a held plan, where v stands on side k of u with something else on that side of u and on the other side of v: v stands at an end of u's list, and u at
-- the same
-- end of v's. Assumes nothing.
use Rattle.std.specs.Prelude.{ℕ, zero, suc, ◌+◌, ◌-◌, ◌≤◌, ◌<◌, ◌≡◌, refl, Bool, true, false, length, get_or, eqb}
use Rattle.std.proofs.Common.{sym, ap, ◌∙◌, arith, eqb-true}
use mathlib.Core.List.{[], ◌∷◌, ◌++◌, Memᴰ}
use Rattle.std.proofs.Math.Decide.{dec_lt}
use Rattle.floor.proofs.Lists.Laws.{count_some, count_append}
use Rattle.floor.specs.Jobs.{Entry, Star, Job, Room, opposite, star_of}
use Rattle.floor.specs.Jobs.Stars.{entry, of_kind}
use Rattle.floor.proofs.Jobs.Stars.{kind_self}
use Rattle.floor.proofs.Jobs.Round.{restart_back, restart_mem, restart_count}
use Rattle.floor.proofs.Jobs.Straight.{straight, straight_restarts}
use Rattle.floor.specs.Jobs.Facts.{Passes}
use Rattle.floor.proofs.Jobs.Facts.{star_room}
use Rattle.floor.specs.Plans.{Plan, rect_of}
use Rattle.floor.specs.Floor.{Onward, Earlier, here, there, GoodPlan}
use Rattle.floor.proofs.Floor.Sides.{Side, next, opp, prev, round, Piece, room, Place, size, Meets, Good}
use Rattle.floor.proofs.Floor.Parts.{before_gap}
use Rattle.floor.proofs.Floor.Read.{num, piece, piece_room, kind_side, opposite_num, stars_of, entry_mem, known_piece, entry_ok, lawful}
use Rattle.floor.proofs.Floor.Placed.{place_of, onward_precedes}
use Rattle.floor.proofs.Floor.Order.{InOrder, counterclockwise_order}
use Rattle.floor.proofs.Floor.Bridge.{plan_good}
use Rattle.floor.proofs.Turns.Swing.{AtEnd}

-- what is true of each kind
pub each_kind : (Q : ℕ → Type 0) → Q 0 → Q 1 → Q 2 → Q 3 → (k : ℕ) → k ≤ 3 → Q k
each_kind Q a b c d zero h = a
each_kind Q a b c d (suc zero) h = b
each_kind Q a b c d (suc (suc zero)) h = c
each_kind Q a b c d (suc (suc (suc zero))) h = d
each_kind Q a b c d (suc (suc (suc (suc k)))) h = absurd (omega arith)

-- the opposite of a kind's opposite is the kind
pub opposite_opposite : (k : ℕ) → k ≤ 3 → opposite (opposite k) ≡ k
unfolding opposite
opposite_opposite = each_kind (λ k. opposite (opposite k) ≡ k) refl refl refl refl

-- a kind's opposite is a kind: at most 3
pub opposite_small : (k : ℕ) → k ≤ 3 → opposite k ≤ 3
unfolding opposite
opposite_small = each_kind (λ k. opposite k ≤ 3) (omega arith) (omega arith) (omega arith) (omega arith)

-- who stands before and after an entry of a star
earlier_front : (P : Star) (d e : Entry) (Q : Star) → Memᴰ d P → Earlier d e (P ++ e ∷ Q)
earlier_front [] d e Q x' = elim x' [ ]
earlier_front (c ∷ P) d e Q (mathlib.Core.List.Memᴰ.head q) = rw q (here (mathlib.Core.List.Memᴰ.append_right P (mathlib.Core.List.Memᴰ.head refl)))
earlier_front (c ∷ P) d e Q (mathlib.Core.List.Memᴰ.tail m) = there (earlier_front P d e Q m)

-- an entry stands before each one behind it
earlier_back : (P : Star) (d e : Entry) (Q : Star) → Memᴰ d Q → Earlier e d (P ++ e ∷ Q)
earlier_back [] d e Q m = here m
earlier_back (c ∷ P) d e Q m = there (earlier_back P d e Q m)

module _ (j : Job) (ok : Passes j) (p : Plan) (gp : GoodPlan j p) where
  -- a good plan for the job is a good placement of its stars
  g : Good (stars_of j) (place_of p)
  g = plan_good j ok p gp

  -- of two entries of side k of room i, the earlier ends where the later begins, or before
  gap : (k : Side) (i : ℕ) → i < length j → (d e : Entry) → Memᴰ d (get_or j i []) → Memᴰ e (get_or j i []) → d.kind ≡ num k → e.kind ≡ num k
      → Onward (num k) (rect_of p d.to) (rect_of p e.to) → (place_of p).at (next k) (piece d.to) + (place_of p).at (prev k) (piece e.to) ≤ size
      (place_of p) (next k)
  unfolding stars_of
  gap k i h d e md me kd ke o =
      before_gap (stars_of j) (place_of p) (lawful j ok) g k i h (piece d.to) (piece e.to) (entry_mem (get_or j i []) (num k) d md kd)
      (entry_mem (get_or j i []) (num k) e me ke)
      (onward_precedes j p gp.inside k d.to e.to (entry_ok j ok i h d md).below (entry_ok j ok i h e me).below o)

  -- an entry's neighbour meets the room on the side of the entry's kind
  meet : (k : Side) (i : ℕ) → i < length j → (e : Entry) → Memᴰ e (get_or j i []) → e.kind ≡ num k → Meets (place_of p) k (room i) (piece e.to)
  unfolding stars_of
  meet k i h e m q = g.meets k (room i) (piece e.to) h (known_piece j e.to (entry_ok j ok i h e m).below) (entry_mem (get_or j i []) (num k) e m q)

  -- not both: d before room r on side k of room i, and e after room i on the other side of room r
  crossed : (k : Side) (i r : ℕ) → i < length j → r < length j → (d v u e : Entry) → Memᴰ d (get_or j i []) → Memᴰ v (get_or j i [])
      → Memᴰ u (get_or j r []) → Memᴰ e (get_or j r [])
      → d.kind ≡ num k → v.kind ≡ num k → u.kind ≡ num (opp k) → e.kind ≡ num (opp k) → v.to ≡ 4 + r → u.to ≡ 4 + i
      → Onward (num k) (rect_of p d.to) (rect_of p v.to) → Onward (num (opp k)) (rect_of p u.to) (rect_of p e.to) → ⊥
  crossed k i r hi hr d v u e md mv mu me kd kv ku ke tv tu x y =
      let a : (place_of p).at (next k) (piece d.to) + (place_of p).at (prev k) (room r) ≤ size (place_of p) (next k) =
      rw (tv, piece_room r) at (gap k i hi d v md mv kd kv x) in
      let b : (place_of p).at (prev k) (room i) + (place_of p).at (prev (opp k)) (piece e.to) ≤ size (place_of p) (prev k) =
      rw (tu, piece_room i) at (gap (opp k) r hr u e mu me ku ke y) in
      omega (arith, (meet k i hi d md kd).behind, (meet (opp k) r hr e me ke).ahead)

  -- of two entries of side k of room i, the later falls short of the room at the one end, and the earlier at the other
  short : (k : Side) (i : ℕ) → i < length j → (d e : Entry) → Memᴰ d (get_or j i []) → Memᴰ e (get_or j i []) → d.kind ≡ num k → e.kind ≡ num k
      → Onward (num k) (rect_of p d.to) (rect_of p e.to)
      → ((place_of p).at (prev k) (piece e.to) < (place_of p).at (prev k) (room i)) × ((place_of p).at (next k) (piece d.to) < (place_of p).at (next k) (room i))
  short k i h d e md me kd ke o =
      (omega (arith, gap k i h d e md me kd ke o, (meet k i h d md kd).behind), omega (arith, gap k i h d e md me kd ke o, (meet k i h e me ke).ahead))

-- b stands on side k of a: each goes past the other at one end, b towards the next side (true) or the side before (false)
abbrev pub Beyond : Place → Bool → Side → Piece → Piece → Type 0
Beyond p true k a b = (p.at (next k) a < p.at (next k) b) × (p.at (prev k) b < p.at (prev k) a)
Beyond p false k a b = (p.at (prev k) a < p.at (prev k) b) × (p.at (next k) b < p.at (next k) a)

-- a list of one kind, where one entry is put in
kind_mid : (P : Star) (v k : ℕ) (Q : Star) → of_kind k (P ++ entry v k ∷ Q) ≡ of_kind k P + (1 + of_kind k Q)
kind_mid P v k Q = rw (count_append (λ (e : Entry). eqb e.kind k) P (entry v k ∷ Q), kind_self v k Q)

-- where at least one entry is of kind k, here is one
some_kind : (k : ℕ) (s : Star) → 1 ≤ of_kind k s → (e : Entry) × (Memᴰ e s) × (e.kind ≡ k)
some_kind k s h = let (e, m, q) = count_some (λ (e : Entry). eqb e.kind k) s h in (e, m, eqb-true e.kind k q)

module _ (j : Job) (ok : Passes j) (p : Plan) (gp : GoodPlan j p) where
  -- the order round a room, from the straight start on
  order_at : (u : ℕ) → Room j u → InOrder p (straight (star_of j u))
  order_at u r = counterclockwise_order p (star_of j u) (ok.good u r) (gp.floor.counterclockwise u r)

  -- a star with at least two of a kind, made straight, has at least two of it
  two_straight : (s : Star) (k : ℕ) → 2 ≤ of_kind k s → 2 ≤ of_kind k (straight s)
  two_straight s k h = omega (arith, restart_count (straight_restarts s) (λ (e : Entry). eqb e.kind k))

  -- not both: something before v in u's list, and something after u in v's
  not_both : (u v m : ℕ) → Room j u → Room j v → m ≤ 3 → (P Q P' Q' : Star) → straight (star_of j u) ≡ P ++ entry v m ∷ Q
      → straight (star_of j v) ≡ P' ++ entry u (opposite m) ∷ Q'
      → 1 ≤ of_kind m P → 1 ≤ of_kind (opposite m) Q' → ⊥
  not_both u v m ru rv hm P Q P' Q' su sv hp hq =
      let (d, i, dk) = some_kind m P hp in
      let (e, l, ek) = some_kind (opposite m) Q' hq in
      go d i dk e l ek (kind_side m (omega arith))
    where
      in_u : (e : Entry) → Memᴰ e (P ++ entry v m ∷ Q) → Memᴰ e (get_or j (u - 4) [])
      in_u e x =
          let y : Memᴰ e (straight (star_of j u)) = rw su x in
          rw (star_room j u ru.0) at (restart_mem (restart_back (straight_restarts (star_of j u))) y)

      in_v : (e : Entry) → Memᴰ e (P' ++ entry u (opposite m) ∷ Q') → Memᴰ e (get_or j (v - 4) [])
      in_v e x =
          let y : Memᴰ e (straight (star_of j v)) = rw sv x in
          rw (star_room j v rv.0) at (restart_mem (restart_back (straight_restarts (star_of j v))) y)

      go : (d : Entry) → Memᴰ d P → d.kind ≡ m → (e : Entry) → Memᴰ e Q' → e.kind ≡ opposite m → (k : Side) × (num k ≡ m) → ⊥
      go d i dk e l ek (k, q) =
          let o : opposite m ≡ num (opp k) = ap opposite (sym q) ∙ opposite_num k in
          let x : Onward d.kind (rect_of p d.to) (rect_of p v) = order_at u ru d (entry v m) (rw su (earlier_front P d (entry v m) Q i)) dk in
          let y : Onward (opposite m) (rect_of p u) (rect_of p e.to) = order_at v rv (entry u (opposite m)) e
          (rw sv (earlier_back P' e (entry u (opposite m)) Q' l)) (sym ek) in
          crossed j ok p gp k (u - 4) (v - 4) (omega (arith, ru.0, ru.1)) (omega (arith, rv.0, rv.1)) d (entry v m) (entry u (opposite m)) e
          (in_u d (mathlib.Core.List.Memᴰ.append_left (entry v m ∷ Q) i)) (in_u (entry v m) (mathlib.Core.List.Memᴰ.append_right P (mathlib.Core.List.Memᴰ.head refl)))
          (in_v (entry u (opposite m)) (mathlib.Core.List.Memᴰ.append_right P' (mathlib.Core.List.Memᴰ.head refl))) (in_v e (mathlib.Core.List.Memᴰ.append_right P' (mathlib.Core.List.Memᴰ.tail l)))
          (dk ∙ sym q) (sym q) o (ek ∙ o) (omega (arith, rv.0)) (omega (arith, ru.0)) (rw (dk ∙ sym q) at x) (rw o at y)

  -- BOTH LAST, OR BOTH FIRST
  pub at_ends : (u v m : ℕ) → Room j u → Room j v → m ≤ 3 → (P Q P' Q' : Star) → straight (star_of j u) ≡ P ++ entry v m ∷ Q
      → straight (star_of j v) ≡ P' ++ entry u (opposite m) ∷ Q'
      → 2 ≤ of_kind m (star_of j u) → 2 ≤ of_kind (opposite m) (star_of j v) → (l : Bool) × AtEnd l P Q m × AtEnd l P' Q' (opposite m)
  at_ends u v m ru rv hm P Q P' Q' su sv hu hv = go (dec_lt 0 (of_kind m Q))
    where
      in_u : 2 ≤ of_kind m P + (1 + of_kind m Q)
      in_u = rw (su, kind_mid P v m Q) at (two_straight (star_of j u) m hu)

      in_v : 2 ≤ of_kind (opposite m) P' + (1 + of_kind (opposite m) Q')
      in_v = rw (sv, kind_mid P' u (opposite m) Q') at (two_straight (star_of j v) (opposite m) hv)

      none : (c : ℕ) → (1 ≤ c → ⊥) → c ≡ 0
      none c h = two (dec_lt 0 c)
        where
          two : Dec (0 < c) → c ≡ 0
          two (yes l) = absurd (h l)
          two (no l) = omega arith

      -- the same, seen from v
      other : 1 ≤ of_kind (opposite m) P' → 1 ≤ of_kind m Q → ⊥
      other a b =
          not_both v u (opposite m) rv ru (opposite_small m hm) P' Q' P Q sv (rw (opposite_opposite m hm) su) a (rw (opposite_opposite m hm) b)

      go : Dec (0 < of_kind m Q) → (l : Bool) × AtEnd l P Q m × AtEnd l P' Q' (opposite m)
      go (no l) =
          let a : 1 ≤ of_kind m P = omega (arith, in_u) in
          let b : of_kind (opposite m) Q' ≡ 0 = none (of_kind (opposite m) Q') (λ h. not_both u v m ru rv hm P Q P' Q' su sv a h) in
          (true, (omega arith, a), (b, omega (arith, in_v)))
      go (yes l) =
          let b : of_kind (opposite m) P' ≡ 0 = none (of_kind (opposite m) P') (λ h. other h l) in
          let c : 1 ≤ of_kind (opposite m) Q' = omega (arith, in_v) in
          let a : of_kind m P ≡ 0 = none (of_kind m P) (λ h. not_both u v m ru rv hm P Q P' Q' su sv h c) in
          (false, (a, l), (b, c))

  -- EACH GOES PAST THE OTHER at one end, for both are at that end
  pub go_past : (u v m : ℕ) → Room j u → Room j v → m ≤ 3 → (P Q P' Q' : Star) → straight (star_of j u) ≡ P ++ entry v m ∷ Q
      → straight (star_of j v) ≡ P' ++ entry u (opposite m) ∷ Q' → (l : Bool) → AtEnd l P Q m → AtEnd l P' Q' (opposite m) → (k : Side) → num k ≡ m
      → Beyond (place_of p) l k (piece u) (piece v)
  go_past u v m ru rv hm P Q P' Q' su sv l x y k q = go l x y
    where
      -- what one list says
      one : (k : Side) (u v m : ℕ) → Room j u → m ≤ 3 → num k ≡ m → (P Q : Star) → straight (star_of j u) ≡ P ++ entry v m ∷ Q
          → (1 ≤ of_kind m P → (place_of p).at (prev k) (piece v) < (place_of p).at (prev k) (piece u))
          × (1 ≤ of_kind m Q → (place_of p).at (next k) (piece v) < (place_of p).at (next k) (piece u))
      one k u v m ru hm q P Q su = (λ h. early (some_kind m P h), λ h. late (some_kind m Q h))
        where
          in_u : (e : Entry) → Memᴰ e (P ++ entry v m ∷ Q) → Memᴰ e (get_or j (u - 4) [])
          in_u e x =
              let y : Memᴰ e (straight (star_of j u)) = rw su x in
              rw (star_room j u ru.0) at (restart_mem (restart_back (straight_restarts (star_of j u))) y)

          is_u : room (u - 4) ≡ piece u
          is_u = let z : 4 + (u - 4) ≡ u = omega (arith, ru.0) in rw z at (sym (piece_room (u - 4)))

          here_v : Memᴰ (entry v m) (P ++ entry v m ∷ Q)
          here_v = mathlib.Core.List.Memᴰ.append_right P (mathlib.Core.List.Memᴰ.head refl)

          early : (d : Entry) × (Memᴰ d P) × (d.kind ≡ m) → (place_of p).at (prev k) (piece v) < (place_of p).at (prev k) (piece u)
          early (d, i, dk) =
              let o : Onward d.kind (rect_of p d.to) (rect_of p v) = order_at u ru d (entry v m) (rw su (earlier_front P d (entry v m) Q i)) dk in
              rw is_u at (short j ok p gp k (u - 4) (omega (arith, ru.0, ru.1)) d (entry v m) (in_u d (mathlib.Core.List.Memᴰ.append_left (entry v m ∷ Q) i))
              (in_u (entry v m) here_v) (dk ∙ sym q) (sym q) (rw (dk ∙ sym q) at o)).0

          late : (d : Entry) × (Memᴰ d Q) × (d.kind ≡ m) → (place_of p).at (next k) (piece v) < (place_of p).at (next k) (piece u)
          late (d, i, dk) =
              let o : Onward m (rect_of p v) (rect_of p d.to) = order_at u ru (entry v m) d (rw su (earlier_back P d (entry v m) Q i)) (sym dk) in
              rw is_u at (short j ok p gp k (u - 4) (omega (arith, ru.0, ru.1)) (entry v m) d (in_u (entry v m) here_v)
              (in_u d (mathlib.Core.List.Memᴰ.append_right P (mathlib.Core.List.Memᴰ.tail i))) (sym q) (dk ∙ sym q) (rw (← q) at o)).1

      o : num (opp k) ≡ opposite m
      o = sym (opposite_num k) ∙ ap opposite q

      go : (l : Bool) → AtEnd l P Q m → AtEnd l P' Q' (opposite m) → Beyond (place_of p) l k (piece u) (piece v)
      go true x y = (
        rw (round k) at ((one (opp k) v u (opposite m) rv (opposite_small m hm) o P' Q' sv).0 y.1),
        (one k u v m ru hm q P Q su).0 x.1,
      )
      go false x y = ((one (opp k) v u (opposite m) rv (opposite_small m hm) o P' Q' sv).1 y.1, (one k u v m ru hm q P Q su).1 x.1)
