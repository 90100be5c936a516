-- A job's stars as sides and pieces: a vertex is a piece by its number, a kind is a side, and tests 4 to 6 make the stars lawful. Assumes nothing.
use Rattle.std.specs.Prelude.{◌≡◌, refl, ◌⊎◌, Bool, true, false, cond, ℕ, zero, suc, ◌+◌, ◌-◌, ◌<◌, eqb, get_or}
use Rattle.std.proofs.Common.{sym, ap, ◌∙◌, inl, inr, eqb-true, eq-eqb}
use mathlib.Core.List.{List, [], ◌∷◌, map, Memᴰ}
use native.Mathlib.Omega.{arith}
use Rattle.std.proofs.Math.Decide.{dec_lt}
use Rattle.std.proofs.Math.ListN.{length}
use Rattle.floor.specs.Lists.{keep}
use Rattle.floor.proofs.Lists.Laws.{count_some}
use Rattle.floor.specs.Jobs.{Entry, Star, Job, Vertex, opposite, list_of}
use Rattle.floor.proofs.Jobs.Round.{restart_back, restart_mem}
use Rattle.floor.specs.Jobs.Stars.{entry}
use Rattle.floor.proofs.Jobs.Straight.{straight, straight_restarts}
use Rattle.floor.specs.Jobs.Facts.{EntryOk, Passes}
use Rattle.floor.proofs.Jobs.Facts.{star_at}
use Rattle.floor.proofs.Floor.Sides.{Side, up, left, down, right, opp, Piece, side, room, Stars, Known, Named, Lawful}

-- the number of a side and of a piece, and the piece of a number
abbrev pub num : Side → ℕ
num up = 0
num left = 1
num down = 2
num right = 3

-- the number of a piece: a frame side has that of its kind, the rooms go on from 4
abbrev pub number : Piece → ℕ
number (side t) = num t
number (room i) = 4 + i

-- the piece of a number: a frame side, or from 4 on a room
unfoldable pub piece : ℕ → Piece
piece zero = side up
piece (suc zero) = side left
piece (suc (suc zero)) = side down
piece (suc (suc (suc zero))) = side right
piece (suc (suc (suc (suc i)))) = room i

-- number 4 + i is the room at place i
pub piece_room : (i : ℕ) → piece (4 + i) ≡ room i
unfolding piece
piece_room i = rw (let e : 4 + i ≡ suc (suc (suc (suc i))) = omega arith in e)

-- the piece of a number has that number
pub number_piece : (n : ℕ) → number (piece n) ≡ n
unfolding piece
number_piece zero = refl
number_piece (suc zero) = refl
number_piece (suc (suc zero)) = refl
number_piece (suc (suc (suc zero))) = refl
number_piece (suc (suc (suc (suc i)))) = omega arith

-- the piece of a piece's number is that piece
pub piece_number : (v : Piece) → piece (number v) ≡ v
unfolding piece
piece_number (side up) = refl
piece_number (side left) = refl
piece_number (side down) = refl
piece_number (side right) = refl
piece_number (room i) = piece_room i

-- pieces of one number are one
pub number_same : (u v : Piece) → number u ≡ number v → u ≡ v
number_same u v e = sym (piece_number u) ∙ ap piece e ∙ piece_number v

-- numbers of one piece are one
pub piece_same : (u v : ℕ) → piece u ≡ piece v → u ≡ v
piece_same u v e = sym (number_piece u) ∙ ap number e ∙ number_piece v

-- a side by its number
pub few_sides : (k : Side) → num k < 4
few_sides up = omega arith
few_sides left = omega arith
few_sides down = omega arith
few_sides right = omega arith

-- each kind is the number of a side
pub kind_side : (n : ℕ) → n < 4 → (k : Side) × (num k ≡ n)
kind_side zero h = (up, refl)
kind_side (suc zero) h = (left, refl)
kind_side (suc (suc zero)) h = (down, refl)
kind_side (suc (suc (suc zero))) h = (right, refl)
kind_side (suc (suc (suc (suc n)))) h = absurd (omega arith)

-- sides of one number are one
pub num_injective : (t k : Side) → num t ≡ num k → t ≡ k
num_injective t k e = from (number_same (side t) (side k) e)
  where
    from : side t ≡ side k → t ≡ k
    from q = cc

-- the opposite of a side's kind is the kind of the opposite side
pub opposite_num : (k : Side) → opposite (num k) ≡ num (opp k)
unfolding opposite
opposite_num up = refl
opposite_num left = refl
opposite_num down = refl
opposite_num right = refl

-- the neighbours of one kind as they stand round the room, wherever the star starts
abbrev pub standing : Star → ℕ → List ℕ
standing s k = list_of (straight s) k

-- THE STARS OF A JOB
unfoldable pub stars_of : Job → Stars
stars_of j = record { count = length j; list = λ k i. map piece (standing (get_or j i []) (num k)) }

-- what stands in a list is an entry of its kind, and the other way
pub mem_listed : (v : Piece) (s : Star) (n : ℕ) → Memᴰ v (map piece (list_of s n)) → (e : Entry) × Memᴰ e s × (e.kind ≡ n) × (e.to ≡ number v)
unfolding list_of keep
mem_listed v [] n m = elim m [ ]
mem_listed v (e ∷ s) n m = go (eqb e.kind n) refl m (mem_listed v s n)
  where
    go : (b : Bool) → eqb e.kind n ≡ b
        → Memᴰ v (map piece (map (λ d. d.to) (cond b (e ∷ keep (λ d. eqb d.kind n) s) (keep (λ d. eqb d.kind n) s))))
        → (Memᴰ v (map piece (map (λ d. d.to) (keep (λ d. eqb d.kind n) s))) → (d : Entry) × Memᴰ d s × (d.kind ≡ n) × (d.to ≡ number v))
        → (d : Entry) × Memᴰ d (e ∷ s) × (d.kind ≡ n) × (d.to ≡ number v)
    go true h (mathlib.Core.List.Memᴰ.head q) below = (e, mathlib.Core.List.Memᴰ.head refl, eqb-true e.kind n h, sym (number_piece e.to) ∙ ap number (sym q))
    go true h (mathlib.Core.List.Memᴰ.tail m) below = let (d, i, a, b) = below m in (d, mathlib.Core.List.Memᴰ.tail i, a, b)
    go false h m below = let (d, i, a, b) = below m in (d, mathlib.Core.List.Memᴰ.tail i, a, b)

-- an entry of kind n stands in the star's list of that kind
pub listed_mem : (s : Star) (n : ℕ) (e : Entry) → Memᴰ e s → e.kind ≡ n → Memᴰ (piece e.to) (map piece (list_of s n))
unfolding list_of keep
listed_mem [] n e x'' k = elim x'' [ ]
listed_mem (d ∷ s) n e (mathlib.Core.List.Memᴰ.head q) k = rw (eq-eqb d.kind n (ap (λ z. z.kind) (sym q) ∙ k)) (mathlib.Core.List.Memᴰ.head (ap (λ z. piece z.to) q))
listed_mem (d ∷ s) n e (mathlib.Core.List.Memᴰ.tail m) k = go (eqb d.kind n) (listed_mem s n e m k)
  where
    go : (b : Bool) → Memᴰ (piece e.to) (map piece (map (λ d. d.to) (keep (λ d. eqb d.kind n) s)))
        → Memᴰ (piece e.to) (map piece (map (λ d. d.to) (cond b (d ∷ keep (λ d. eqb d.kind n) s) (keep (λ d. eqb d.kind n) s))))
    go true below = mathlib.Core.List.Memᴰ.tail below
    go false below = below

-- what stands in a list is an entry of its kind, and the other way
pub mem_entry : (v : Piece) (s : Star) (n : ℕ) → Memᴰ v (map piece (standing s n)) → (e : Entry) × Memᴰ e s × (e.kind ≡ n) × (e.to ≡ number v)
mem_entry v s n m = let (e, i, a, b) = mem_listed v (straight s) n m in (e, restart_mem (restart_back (straight_restarts s)) i, a, b)

-- an entry of a kind stands in the list of that kind
pub entry_mem : (s : Star) (n : ℕ) (e : Entry) → Memᴰ e s → e.kind ≡ n → Memᴰ (piece e.to) (map piece (standing s n))
entry_mem s n e m k = listed_mem (straight s) n e (restart_mem (straight_restarts s) m) k

-- a piece of the job is a vertex of the job
pub known_vertex : (j : Job) (v : Piece) → Known (stars_of j) v → Vertex j (number v)
unfolding stars_of
known_vertex j (side t) h = omega (arith, few_sides t)
known_vertex j (room i) h = omega arith

-- a vertex of the job is a piece of the job
pub known_piece : (j : Job) (n : ℕ) → Vertex j n → Known (stars_of j) (piece n)
unfolding stars_of piece
known_piece j zero h = tt
known_piece j (suc zero) h = tt
known_piece j (suc (suc zero)) h = tt
known_piece j (suc (suc (suc zero))) h = tt
known_piece j (suc (suc (suc (suc i)))) h = omega arith

module _ (j : Job) (ok : Passes j) where
  -- test 4, by the place of a room
  pub entry_ok : (i : ℕ) → i < length j → (e : Entry) → Memᴰ e (get_or j i []) → EntryOk (length j) (4 + i) e
  entry_ok i h e m = ok.entries (4 + i) (omega arith, omega arith) e (rw (star_at j i) m)

  -- a room has an entry of every kind
  pub every_kind : (k : Side) (i : ℕ) → i < length j → (e : Entry) × Memᴰ e (get_or j i []) × (e.kind ≡ num k)
  every_kind k i h =
      let (e, m, q) = count_some (λ (e : Entry). eqb e.kind (num k)) (get_or j i [])
      (rw (star_at j i) at ((ok.good (4 + i) (omega arith, omega arith)).has (num k) (omega (arith, few_sides k)))) in
      (e, m, eqb-true e.kind (num k) q)

  -- an entry of side k leads to the frame side k, or to a room
  pub leads : (k : Side) (i : ℕ) → i < length j → (e : Entry) → Memᴰ e (get_or j i []) → e.kind ≡ num k
      → (e.to ≡ num k) ⊎ ((r : ℕ) × (r < length j) × (e.to ≡ 4 + r))
  leads k i h e m ke = go (dec_lt e.to 4)
    where
      go : Dec (e.to < 4) → (e.to ≡ num k) ⊎ ((r : ℕ) × (r < length j) × (e.to ≡ 4 + r))
      go (yes l) = inl (sym ((entry_ok i h e m).frame l) ∙ ke)
      go (no l) = inr (e.to - 4, omega (arith, (entry_ok i h e m).below), omega arith)

  -- who stands in the list of a side is the frame side of its kind, or a room of the job
  known : (k : Side) (i : ℕ) (v : Piece) → i < length j → Memᴰ v (map piece (standing (get_or j i []) (num k))) → Named (stars_of j) k v
  unfolding stars_of
  known k i v h m = let (e, me, ke, te) = mem_entry v (get_or j i []) (num k) m in go v e te (leads k i h e me ke)
    where
      go : (v : Piece) (e : Entry) → e.to ≡ number v → (e.to ≡ num k) ⊎ ((r : ℕ) × (r < length j) × (e.to ≡ 4 + r)) → Named (stars_of j) k v
      go (side t) e te (inl q) = num_injective t k (sym te ∙ q)
      go (side t) e te (inr (r, hr, q)) = absurd (omega (arith, few_sides t))
      go (room i) e te (inl q) = absurd (omega (arith, few_sides k))
      go (room i) e te (inr (r, hr, q)) = omega arith

  -- room r, listed by room i
  backed : (k : Side) (i r : ℕ) → i < length j → Memᴰ (room r) (map piece (standing (get_or j i []) (num k)))
      → Memᴰ (room i) (map piece (standing (get_or j r []) (num (opp k))))
  backed k i r h m = let (e, me, ke, te) = mem_entry (room r) (get_or j i []) (num k) m in go e me ke te
    where
      go : (e : Entry) → Memᴰ e (get_or j i []) → e.kind ≡ num k → e.to ≡ 4 + r → Memᴰ (room i) (map piece (standing (get_or j r []) (num (opp k))))
      go e me ke te =
          let n : Memᴰ (entry (4 + i) (opposite e.kind)) (get_or j r []) = rw (te, star_at j r) at (ok.opposed (4 + i) (omega arith, omega arith) e
          (rw (star_at j i) me) (omega arith)) in
          rw (← (piece_room i)) (entry_mem (get_or j r []) (num (opp k)) (entry (4 + i) (opposite e.kind)) n (ap opposite ke ∙ opposite_num k))

  -- TESTS 4 TO 6 MAKE THE STARS LAWFUL
  pub lawful : Lawful (stars_of j)
  unfolding stars_of
  lawful = record {
    known = known;
    back = backed;
    some = λ k i h e. let (d, m, q) = every_kind k i h in empty (rw e at (entry_mem (get_or j i []) (num k) d m q));
  }
    where
      empty : {v : Piece} → Memᴰ v [] → ⊥
      empty m = elim m [ ]
