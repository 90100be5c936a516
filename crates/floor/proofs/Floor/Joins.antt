-- Who is joined to whom: the test, the demand's words and the theory's contacts say the same. Assumes nothing.
use Rattle.std.specs.Prelude.{◌≡◌, refl, ◌⊎◌, true, ◌||◌, ℕ, zero, suc, ◌+◌, ◌%◌, ◌<◌, ltb, eqb, get_or}
use Rattle.std.proofs.Common.{sym, ap, ◌∙◌, inl, inr, arith, eqb-true, ltb-true, eq-eqb}
use mathlib.Core.List.{[], map, Memᴰ}
use Rattle.floor.proofs.Lists.Laws.{and_parts, or_cases, or_left, or_right, any_mem, mem_any}
use Rattle.floor.specs.Jobs.{Entry, Job, star_of, names as names_in}
use Rattle.floor.specs.Jobs.Facts.{Passes}
use Rattle.floor.proofs.Jobs.Facts.{star_at, star_frame}
use Rattle.floor.specs.Plans.{next_side, joined}
use Rattle.floor.specs.Floor.{Names, Around, n_w, w_s, s_e, e_n, Joined, names, named, around, around'}
use Rattle.floor.proofs.Floor.Sides.{Side, up, left, down, right, opp, round, Piece, side, room, Place, size, Stars, Known, Contact, Beside, wn, ws, ne}
use Rattle.floor.proofs.Floor.Sides.{se, nw, sw, en, es, Meets}
use Rattle.floor.proofs.Floor.Whole.{beside_back}
use Rattle.floor.proofs.Floor.Read.{num, number, piece, piece_number, number_same, few_sides, kind_side, standing, stars_of, mem_entry, entry_mem, entry_ok}
use Rattle.floor.proofs.Floor.Read.{lawful}

-- the test whether a star names a vertex
names_of : (j : Job) (u v : ℕ) → names_in (star_of j u) v ≡ true → Names j u v
unfolding names_in
names_of j u v h = let (e, m, q) = any_mem (λ (e : Entry). eqb e.to v) (star_of j u) h in record { entry = e; listed = m; is_to = eqb-true e.to v q }

-- a star that names a vertex passes the test
of_names : (j : Job) (u v : ℕ) → Names j u v → names_in (star_of j u) v ≡ true
unfolding names_in
of_names j u v n = mem_any (λ (e : Entry). eqb e.to v) (star_of j u) n.entry n.listed (eq-eqb n.entry.to v n.is_to)

-- the test whether two sides of the frame are neighbours
around_of : (u v : ℕ) → next_side u v ≡ true → Around u v
unfolding next_side
around_of u v h = let (a, b) = and_parts (ltb u 4) (eqb v ((u + 1) % 4)) h in go u (ltb-true u 4 a) (eqb-true v ((u + 1) % 4) b)
  where
    go : (u : ℕ) → u < 4 → v ≡ (u + 1) % 4 → Around u v
    go zero l e = rw e n_w
    go (suc zero) l e = rw e w_s
    go (suc (suc zero)) l e = rw e s_e
    go (suc (suc (suc zero))) l e = rw e e_n
    go (suc (suc (suc (suc u)))) l e = absurd (omega arith)

-- neighbouring sides of the frame pass the test
of_around : {u v : ℕ} → Around u v → next_side u v ≡ true
unfolding next_side
of_around n_w = refl
of_around w_s = refl
of_around s_e = refl
of_around e_n = refl

-- THE TEST SAYS WHO IS JOINED
pub joined_of : (j : Job) (u v : ℕ) → joined j u v ≡ true → Joined j u v
unfolding joined
joined_of j u v h = go (or_cases (names_in (star_of j u) v || names_in (star_of j v) u || next_side u v) (next_side v u) h)
  where
    two : (names_in (star_of j u) v ≡ true) ⊎ (names_in (star_of j v) u ≡ true) → Joined j u v
    two (inl e) = names (names_of j u v e)
    two (inr e) = named (names_of j v u e)

    three : ((names_in (star_of j u) v || names_in (star_of j v) u) ≡ true) ⊎ (next_side u v ≡ true) → Joined j u v
    three (inl e) = two (or_cases (names_in (star_of j u) v) (names_in (star_of j v) u) e)
    three (inr e) = around (around_of u v e)

    go : ((names_in (star_of j u) v || names_in (star_of j v) u || next_side u v) ≡ true) ⊎ (next_side v u ≡ true) → Joined j u v
    go (inl e) = three (or_cases (names_in (star_of j u) v || names_in (star_of j v) u) (next_side u v) e)
    go (inr e) = around' (around_of v u e)

-- who is joined passes the test
pub of_joined : (j : Job) (u v : ℕ) → Joined j u v → joined j u v ≡ true
unfolding joined
of_joined j u v (names n) = or_left _ _ (or_left _ _ (or_left _ _ (of_names j u v n)))
of_joined j u v (named n) = or_left _ _ (or_left _ _ (or_right (names_in (star_of j u) v) _ (of_names j v u n)))
of_joined j u v (around a) = or_left _ _ (or_right (names_in (star_of j u) v || names_in (star_of j v) u) _ (of_around a))
of_joined j u v (around' a) = or_right (names_in (star_of j u) v || names_in (star_of j v) u || next_side u v) _ (of_around a)

-- who is joined is joined in the other order
pub joined_back : {j : Job} {u v : ℕ} → Joined j u v → Joined j v u
joined_back (names n) = named n
joined_back (named n) = names n
joined_back (around a) = around' a
joined_back (around' a) = around a

-- frame sides that are neighbours, as sides
around_sides : {a b : ℕ} → Around a b → (t : Side) × (r : Side) × (k : Side) × (a ≡ num t) × (b ≡ num r) × Beside k t r
around_sides n_w = (up, left, left, refl, refl, nw)
around_sides w_s = (left, down, right, refl, refl, ws)
around_sides s_e = (down, right, right, refl, refl, se)
around_sides e_n = (right, up, left, refl, refl, en)

-- neighbouring sides of the frame are joined, whatever the job
beside_joined : (j : Job) {k t r : Side} → Beside k t r → Joined j (num t) (num r)
beside_joined j wn = around' n_w
beside_joined j ws = around w_s
beside_joined j ne = around' e_n
beside_joined j se = around s_e
beside_joined j nw = around n_w
beside_joined j sw = around' w_s
beside_joined j en = around e_n
beside_joined j es = around' s_e

module _ (j : Job) (ok : Passes j) where
  -- a contact seen from the other side
  pub contact_back : (k : Side) (u v : Piece) → Known (stars_of j) u → Known (stars_of j) v → Contact (stars_of j) (opp k) u v → Contact (stars_of j) k v u
  unfolding stars_of
  contact_back k (room i) (room r) hu hv m = rw (round k) at ((lawful j ok).back (opp k) i r hu m)
  contact_back k (room i) (side t) hu hv m = m
  contact_back k (side t) (room r) hu hv m = rw (round k) at m
  contact_back k (side t) (side r) hu hv m = beside_back k t r m

  -- a star that names v holds it on some side
  names_contact : (u v : Piece) → Known (stars_of j) u → Names j (number u) (number v) → (c : Side) × Contact (stars_of j) c u v
  unfolding stars_of
  names_contact (side t) v hu n = absurd (none (rw (star_frame j (num t) (few_sides t)) at n.listed))
    where
      none : {e : Entry} → Memᴰ e [] → ⊥
      none m = elim m [ ]
  names_contact (room i) v hu n = go n.entry (rw (star_at j i) at n.listed) n.is_to
    where
      go : (e : Entry) → Memᴰ e (get_or j i []) → e.to ≡ number v → (c : Side) × Memᴰ v (map piece (standing (get_or j i []) (num c)))
      go e m te =
          let (c, q) = kind_side e.kind (omega (arith, (entry_ok j ok i hu e m).small)) in
          (c, rw (ap piece te ∙ piece_number v) at (entry_mem (get_or j i []) (num c) e m (sym {a = num c} q)))

  -- pieces with the numbers of neighbouring frame sides are in contact where those are neighbours
  sides_contact : (k : Side) (u v : Piece) (t r : Side) → number u ≡ num t → number v ≡ num r → Beside k t r → Contact (stars_of j) k u v
  sides_contact k u v t r eu ev b = rw (number_same u (side t) eu, number_same v (side r) ev) b

  -- WHO IS JOINED IS IN CONTACT on some side
  pub joined_contact : (u v : Piece) → Known (stars_of j) u → Known (stars_of j) v → Joined j (number u) (number v) → (c : Side) × Contact (stars_of j) c u v
  joined_contact u v hu hv (names n) = names_contact u v hu n
  joined_contact u v hu hv (named n) = let (c, m) = names_contact v u hv n in (opp c, contact_back (opp c) v u hv hu (rw (round c) m))
  joined_contact u v hu hv (around a) = let (t, r, k, eu, ev, b) = around_sides a in (k, sides_contact k u v t r eu ev b)
  joined_contact u v hu hv (around' a) =
      let (t, r, k, ev, eu, b) = around_sides a in
      (opp k, sides_contact (opp k) u v r t eu ev (beside_back (opp k) t r (rw (round k) b)))

  -- WHO IS IN CONTACT IS JOINED
  pub contact_joined : (k : Side) (u v : Piece) → Contact (stars_of j) k u v → Joined j (number u) (number v)
  unfolding stars_of
  contact_joined k (room i) v m =
      let (e, me, ke, te) = mem_entry v (get_or j i []) (num k) m in
      names (record { entry = e; listed = rw (star_at j i) me; is_to = te })
  contact_joined k (side t) (room r) m =
      let (e, me, ke, te) = mem_entry (side t) (get_or j r []) (num (opp k)) m in
      named (record { entry = e; listed = rw (star_at j r) me; is_to = te })
  contact_joined k (side t) (side r) m = beside_joined j m

-- two pieces meet on one side only
pub meet_once : (p : Place) (k c : Side) (u v : Piece) → size p k < p.at k u + p.at (opp k) u → size p k < p.at k v + p.at (opp k) v → Meets p k u v
    → Meets p c u v → c ≡ k
meet_once p up up u v a b m n = refl
meet_once p left left u v a b m n = refl
meet_once p down down u v a b m n = refl
meet_once p right right u v a b m n = refl
meet_once p up down u v a b m n = absurd (omega (arith, m.touch, n.touch))
meet_once p down up u v a b m n = absurd (omega (arith, m.touch, n.touch))
meet_once p left right u v a b m n = absurd (omega (arith, m.touch, n.touch))
meet_once p right left u v a b m n = absurd (omega (arith, m.touch, n.touch))
meet_once p up left u v a b m n = absurd (omega (arith, m.touch, n.ahead, n.behind))
meet_once p up right u v a b m n = absurd (omega (arith, m.touch, n.ahead, n.behind))
meet_once p down left u v a b m n = absurd (omega (arith, m.touch, n.ahead, n.behind))
meet_once p down right u v a b m n = absurd (omega (arith, m.touch, n.ahead, n.behind))
meet_once p left up u v a b m n = absurd (omega (arith, m.touch, n.ahead, n.behind))
meet_once p left down u v a b m n = absurd (omega (arith, m.touch, n.ahead, n.behind))
meet_once p right up u v a b m n = absurd (omega (arith, m.touch, n.ahead, n.behind))
meet_once p right down u v a b m n = absurd (omega (arith, m.touch, n.ahead, n.behind))

-- where every contact is met on its side, and who meets is in contact on some side, it is on the side where they meet
pub side_of : (s : Stars) (p : Place) → ((k : Side) (v : Piece) → Known s v → size p k < p.at k v + p.at (opp k) v)
    → ((k : Side) (u v : Piece) → Known s u → Known s v → Contact s k u v → Meets p k u v)
    → (k : Side) (u v : Piece) → Known s u → Known s v → (c : Side) × Contact s c u v → Meets p k u v → Contact s k u v
side_of s p thick meets k u v hu hv (c, m) n = rw (meet_once p k c u v (thick k u hu) (thick k v hv) n (meets c u v hu hv m)) at m
