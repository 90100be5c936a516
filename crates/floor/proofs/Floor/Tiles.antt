-- In a local plan the list of a side tiles that side: every cell beside it lies in exactly one entry. Assumes nothing.
use Rattle.std.specs.Prelude.{◌≡◌, refl, ℕ, ◌+◌, ◌≤◌, ◌<◌}
use Rattle.std.proofs.Common.{sym, ◌∙◌, inl, inr, arith}
use mathlib.Core.List.{List, [], ◌∷◌, Memᴰ}
use Rattle.std.proofs.Math.Decide.{dec_le}
use Rattle.floor.proofs.Floor.Sides.{Side, next, opp, prev, round, Piece, side, room, Place, size, Stars, Known, Named, Lawful, Meets, Tile, In, AtFirst}
use Rattle.floor.proofs.Floor.Sides.{AtLast, Linked, Rounds, Local}

-- the lists' maps
pub first_map : {P Q : Piece → Type 0} (l : List Piece) → ((v : Piece) → Memᴰ v l → P v → Q v) → AtFirst P l → AtFirst Q l
first_map [] f h = absurd h
first_map (v ∷ l) f h = f v (Memᴰ.head refl) h

-- where P gives Q for each of a list, and its last has P, its last has Q
pub last_map : {P Q : Piece → Type 0} (l : List Piece) → ((v : Piece) → Memᴰ v l → P v → Q v) → AtLast P l → AtLast Q l
last_map [] f h = absurd h
last_map (v ∷ []) f h = f v (Memᴰ.head refl) h
last_map (v ∷ w ∷ l) f h = last_map (w ∷ l) (λ x m. f x (Memᴰ.tail m)) h

-- where P gives Q between any two of a list, and each stands in P to the next, each stands in Q to the next
pub linked_map : {P Q : Piece → Piece → Type 0} (l : List Piece) → ((v w : Piece) → Memᴰ v l → Memᴰ w l → P v w → Q v w) → Linked P l → Linked Q l
linked_map [] f h = tt
linked_map (v ∷ []) f h = tt
linked_map (v ∷ w ∷ l) f h = (
  f v w (Memᴰ.head refl) (Memᴰ.tail (Memᴰ.head refl)) h.0,
  linked_map (w ∷ l)
      (λ x y m n. f x y (Memᴰ.tail m) (Memᴰ.tail n)) h.1,
)

-- some P on the first entry, whose list then has one
pub first_some : {P : Piece → Type 0} (l : List Piece) → AtFirst P l → (v : Piece) × Memᴰ v l × P v
first_some [] h = absurd h
first_some (v ∷ l) h = (v, Memᴰ.head refl, h)

-- some P on the last entry, whose list then has one
pub last_some : {P : Piece → Type 0} (l : List Piece) → AtLast P l → (v : Piece) × Memᴰ v l × P v
last_some {P = P} [] h = absurd h
last_some {P = P} (v ∷ []) h = (v, Memᴰ.head refl, h)
last_some {P = P} (v ∷ w ∷ l) h = let (x, m, y) = last_some {P = P} (w ∷ l) h in (x, Memᴰ.tail m, y)

-- a linked list is linked without its first
pub linked_tail : (R : Piece → Piece → Type 0) (v : Piece) (l : List Piece) → Linked R (v ∷ l) → Linked R l
linked_tail R v [] k = tt
linked_tail R v (w ∷ l) k = k.1

-- A: past the start of an entry; B: past its end
module _ (A B : Piece → Type 0) where
  -- where the first is begun, the last not ended, and each begun where the one before is ended, some entry is begun and not ended
  find : ((v : Piece) → Dec (B v)) → (l : List Piece) → Linked (λ a b. B a → A b) l → AtFirst A l → AtLast (λ v. B v → ⊥) l
      → (v : Piece) × Memᴰ v l × A v × (B v → ⊥)
  find dec [] k f z = absurd f
  find dec (v ∷ []) k f z = (v, Memᴰ.head refl, f, z)
  find dec (v ∷ w ∷ l) k f z = go (dec v) (λ h. find dec (w ∷ l) k.1 h z)
    where
      go : Dec (B v) → (A w → (x : Piece) × Memᴰ x (w ∷ l) × A x × (B x → ⊥)) → (x : Piece) × Memᴰ x (v ∷ w ∷ l) × A x × (B x → ⊥)
      go (yes h) below = let (x, m, y, z) = below (k.0 h) in (x, Memᴰ.tail m, y, z)
      go (no h) below = (v, Memᴰ.head refl, f, h)

  -- where none is begun before the one in front is ended, the first is ended as soon as any later one is begun
  pull : (v s : Piece) (l : List Piece) → Linked (λ a b. A b → B a) (v ∷ l) → ((w : Piece) → Memᴰ w l → B w → A w) → Memᴰ s l → A s → B v
  pull v s [] k g x4 h = elim x4 [ ]
  pull v s (w ∷ l) k g (Memᴰ.head e) h = k.0 (rw e at h)
  pull v s (w ∷ l) k g (Memᴰ.tail m) h = k.0 (g w (Memᴰ.head refl) (pull w s l k.1 (λ x n. g x (Memᴰ.tail n)) m h))

  -- where none is begun before the one in front is ended, only one entry is begun and not ended
  only : (l : List Piece) → Linked (λ a b. A b → B a) l → ((w : Piece) → Memᴰ w l → B w → A w) → (r s : Piece) → Memᴰ r l → Memᴰ s l → A r
      → (B r → ⊥) → A s → (B s → ⊥) → r ≡ s
  only [] k g r s x8 _ ra rb sa sb = elim x8 [ ]
  only (v ∷ l) k g r s (Memᴰ.head e) (Memᴰ.head f) ra rb sa sb = e ∙ sym f
  only (v ∷ l) k g r s (Memᴰ.head e) (Memᴰ.tail n) ra rb sa sb =
      absurd (rb (rw e (pull v s l k (λ w m. g w (Memᴰ.tail m)) n sa)))
  only (v ∷ l) k g r s (Memᴰ.tail m) (Memᴰ.head f) ra rb sa sb =
      absurd (sb (rw f (pull v r l k (λ w m. g w (Memᴰ.tail m)) m ra)))
  only (v ∷ l) k g r s (Memᴰ.tail m) (Memᴰ.tail n) ra rb sa sb =
      only l (linked_tail (λ a b. A b → B a) v l k) (λ w m. g w (Memᴰ.tail m)) r s m n ra rb sa sb

-- what may stand in a list is a vertex of the job
pub named_known : (s : Stars) (k : Side) (v : Piece) → Named s k v → Known s v
named_known s k (side t) h = tt
named_known s k (room i) h = h

module _ (s : Stars) (p : Place) (g : Lawful s) (l : Local s p) where
  -- each neighbour of a room is a vertex of the job
  mem_known : (k : Side) (i : ℕ) (v : Piece) → i < s.count → Memᴰ v (s.list k i) → Known s v
  mem_known k i v h m = named_known s k v (g.known k i v h m)

  -- the last of a list reaches the next corner, the first of the next list too
  ends : (k : Side) (i : ℕ) → i < s.count → AtLast (λ a. p.at (next k) (room i) ≤ p.at (next k) a) (s.list k i)
  ends k i h = last_map (s.list k i) (λ a m q. reach (first_some (s.list (next k) i) q).2) (l.turns k i h)
    where
      reach : {a b : Piece} → Rounds p k (room i) a b → p.at (next k) (room i) ≤ p.at (next k) a
      reach (inl e) = omega (arith, e.0)
      reach (inr e) = omega (arith, e.0)

  -- the first of the list on the next side reaches the corner between that side and side k
  starts' : (k : Side) (i : ℕ) → i < s.count → AtFirst (λ b. p.at k (room i) ≤ p.at k b) (s.list (next k) i)
  starts' k i h = first_map (s.list (next k) i) (λ b m q. reach q) (last_some (s.list k i) (l.turns k i h)).2
    where
      reach : {a b : Piece} → Rounds p k (room i) a b → p.at k (room i) ≤ p.at k b
      reach (inl e) = omega (arith, e.1)
      reach (inr e) = omega (arith, e.1)

  -- the first of a list reaches the corner before it
  starts : (k : Side) (i : ℕ) → i < s.count → AtFirst (λ b. p.at (prev k) (room i) ≤ p.at (prev k) b) (s.list k i)
  starts k i h = rw (round k) at (starts' (prev k) i h)

  -- a cell beside a room on side k lies in an entry of that list
  pub beside : (k : Side) (i : ℕ) → i < s.count → (x : Tile p k) → x.a ≡ p.at k (room i) → x.b < p.at (next k) (room i) → x.d < p.at (prev k) (room i)
      → (v : Piece) × Memᴰ v (s.list k i) × In p k x v
  beside k i h x e hb hd = done (find A B (λ v. dec_le (p.at (next k) v) x.b) (s.list k i) links begins finishes)
    where
      A : Piece → Type 0
      A v = x.d < p.at (prev k) v

      B : Piece → Type 0
      B v = p.at (next k) v ≤ x.b

      links : Linked (λ a b. B a → A b) (s.list k i)
      links = linked_map (s.list k i) (λ v w m n q r. omega (arith, x.bd)) (l.linked k i h)

      begins : AtFirst A (s.list k i)
      begins = first_map (s.list k i) (λ v m q. omega arith) (starts k i h)

      finishes : AtLast (λ v. B v → ⊥) (s.list k i)
      finishes = last_map (s.list k i) (λ v m q r. omega arith) (ends k i h)

      done : (v : Piece) × Memᴰ v (s.list k i) × A v × (B v → ⊥) → (v : Piece) × Memᴰ v (s.list k i) × In p k x v
      done q =
          let (v, m, y, z) = q in
          let t : Meets p k (room i) v = l.meets k i v h m in
          let f : size p k < p.at k v + p.at (opp k) v = l.thick k v (mem_known k i v h m) in
          (v, m, record { ina = omega (arith, t.touch); inb = omega (arith, z); inc = omega (arith, t.touch, x.ac); ind = y })

  -- two entries of a list that cover one cell across are one
  pub one_entry : (k : Side) (i : ℕ) → i < s.count → (b d : ℕ) → b + d + 1 ≡ size p (next k) → (r t : Piece) → Memᴰ r (s.list k i)
      → Memᴰ t (s.list k i)
      → b < p.at (next k) r → d < p.at (prev k) r → b < p.at (next k) t → d < p.at (prev k) t → r ≡ t
  one_entry k i h b d e r t mr mt rb rd tb td =
      only (λ v. d < p.at (prev k) v) (λ v. p.at (next k) v ≤ b) (s.list k i)
      (linked_map (s.list k i) (λ v w m n q z. omega arith) (l.linked k i h))
      (λ w m q. omega (arith, l.thick (next k) w (mem_known k i w h m)))
      r t mr mt rd (λ z. omega arith) td (λ z. omega arith)
