-- Contacts and their lists in the held stars, as the code comes by them. Assumes nothing.
use Prim.Native.Nat.{ℕ, zero, suc, ◌+◌, ◌-◌, ◌%◌, ◌<◌, ◌≤◌}
use mathlib.Core.Path.{◌≡◌, refl, sym, ◌∙◌}
use mathlib.Core.Bool.{Bool, true, false, cond, not, ◌&&◌, ◌||◌}
use mathlib.Core.List.{List, [], ◌∷◌, map}
use native.Mathlib.Omega.{arith}
use native.Mathlib.Decide.{dec_lt}
use borrow.Author.Tests.{le-leb, lt-leb, leb-true, leb-false, lt-ltb, le-ltb, eq-eqb, ne_eqb, not-true, not-false}
use mir.Val.{bool_byte}
use lib.Dec.{leb, ltb, eqb}
use lib.ListN.{length, get_or}
use Rattle.floor.specs.Lists.{keep, any}
use Rattle.floor.specs.Lists.Laws.{bit}
use Rattle.floor.proofs.Lists.Laws.{and_parts}
use Rattle.floor.specs.Jobs.{Entry, Star, Job, is_vertex, is_room, star_of, names, kind_of, list_of, changes}
use Rattle.floor.specs.Turns.{ends_at, is_last, turned_kind, in_contact}
use Rattle.stars.specs.Held.{to_at, entry_at, cells, start_of, end_of, held_star, job_in, place_in, place_after, link_at, links_from}
use Rattle.stars.proofs.Holding.{length_stars, star_in, cells_more, cells_done}
use Rattle.stars.proofs.Round.{links_round}
use Rattle.turns.specs.InPlace.{place_of}

-- a number that is a room's
pub low_room : (n v : ℕ) → v < 4 → false ≡ (leb 4 v && leb v (n + 3))
low_room n v h = rw (lt-leb 4 v h)

-- a number from 4 on is a room exactly if it is less than n above 4
pub high_room : (n v : ℕ) → 4 ≤ v → ltb (v - 4) n ≡ (leb 4 v && leb v (n + 3))
high_room n v h = rw (le-leb 4 v h) (go (leb v (n + 3)) refl)
  where
    go : (b : Bool) → leb v (n + 3) ≡ b → ltb (v - 4) n ≡ b
    go true t = let l : v ≤ n + 3 = leb-true v (n + 3) t in lt-ltb (v - 4) n (omega arith)
    go false t = let l : n + 3 < v = leb-false v (n + 3) t in le-ltb (v - 4) n (omega arith)

-- both are rooms, of so many
abbrev pub Rooms : ℕ → ℕ → ℕ → Type 0
Rooms n u v = (4 ≤ u) × (u < 4 + n) × (4 ≤ v) × (v < 4 + n)

-- two that are in contact are rooms
pub contact_rooms : (j : Job) (u v : ℕ) → in_contact j u v ≡ true → Rooms (length j) u v
unfolding in_contact is_room is_vertex
contact_rooms j u v t =
    let (p, _) = and_parts (is_room j u && is_room j v) (names (star_of j u) v) t in
    let (q, r) = and_parts (is_room j u) (is_room j v) p in
    let (a, b) = and_parts (leb 4 u) (leb u (length j + 3)) q in
    let (c, d) = and_parts (leb 4 v) (leb v (length j + 3)) r in
    let ua : 4 ≤ u = leb-true 4 u a in
    let ub : u ≤ length j + 3 = leb-true u _ b in
    let va : 4 ≤ v = leb-true 4 v c in
    let vb : v ≤ length j + 3 = leb-true v _ d in
    (ua, omega arith, va, omega arith)

-- so many stars that lie one behind the other
module _ (n : ℕ) (ends nbr kind : List ℕ) where
  -- which numbers are rooms
  room_test : (v : ℕ) → is_room (job_in n ends nbr kind) v ≡ (leb 4 v && leb v (n + 3))
  unfolding is_room is_vertex
  room_test v = rw (length_stars n 0 ends nbr kind)

  -- the star of a room is one of the held
  pub room_held : (u : ℕ) → 4 ≤ u → u < 4 + n → star_of (job_in n ends nbr kind) u ≡ held_star ends nbr kind (u - 4)
  unfolding star_of
  room_held u l k =
      let z : 0 + (u - 4) ≡ u - 4 = omega arith in
      rw (le-leb 4 u l) (star_in n 0 (u - 4) ends nbr kind (omega arith) ∙ rw z)

  -- two of them that are in contact are rooms
  pub met_rooms : (u v : ℕ) (b : Bool) → b ≡ in_contact (job_in n ends nbr kind) u v → not b ≡ false → Rooms n u v
  met_rooms u v b e f = rw (length_stars n 0 ends nbr kind) at (contact_rooms (job_in n ends nbr kind) u v (sym e ∙ not-false b f))

  -- two rooms in contact
  module _ (u v : ℕ) (a : Bool) (ea : a ≡ (leb 4 u && leb u (n + 3))) where
    -- not in contact, where the first is no room
    pub no_first : not a ≡ true → false ≡ in_contact (job_in n ends nbr kind) u v
    unfolding in_contact
    no_first t = rw (room_test u, ← ea, not-true a t)

    module _ (f : not a ≡ false) (b : Bool) (eb : b ≡ (leb 4 v && leb v (n + 3))) where
      -- not in contact, where the second is no room
      pub no_second : not b ≡ true → false ≡ in_contact (job_in n ends nbr kind) u v
      unfolding in_contact
      no_second t = rw (room_test u, ← ea, not-false a f, room_test v, ← eb, not-true b t)

      -- two rooms are in contact exactly if the star of the first names the second
      pub two_rooms : not b ≡ false → (r : Bool) → r ≡ names (star_of (job_in n ends nbr kind) u) v → r ≡ in_contact (job_in n ends nbr kind) u v
      unfolding in_contact
      two_rooms t r er = rw (room_test u, ← ea, not-false a f, room_test v, ← eb, not-false b t) er

-- the kind at the first place that names a vertex
kind_place : (m k : ℕ) (nbr kind : List ℕ) (v : ℕ)
    → kind_of (cells m k nbr kind) v ≡ cond {A = ℕ} (ltb (place_in m k nbr v) (k + m)) (get_or kind (place_in m k nbr v) 0) 4
unfolding kind_of cells entry_at place_in
kind_place zero k nbr kind v = rw (le-ltb k (k + 0) (omega arith))
kind_place (suc m) k nbr kind v = go (eqb (to_at nbr k) v) (kind_place m (suc k) nbr kind v)
  where
    go : (b : Bool)
        → kind_of (cells m (suc k) nbr kind) v ≡ cond {A = ℕ} (ltb (place_in m (suc k) nbr v) (suc k + m)) (get_or kind (place_in m (suc k) nbr v) 0) 4
        → cond {A = ℕ} b (get_or kind k 0) (kind_of (cells m (suc k) nbr kind) v)
        ≡ cond {A = ℕ} (ltb (cond {A = ℕ} b k (place_in m (suc k) nbr v)) (k + suc m)) (get_or kind (cond {A = ℕ} b k (place_in m (suc k) nbr v)) 0) 4
    go true h = rw (lt-ltb k (k + suc m) (omega arith))
    go false h = let s : k + suc m ≡ suc k + m = omega arith in rw s h

-- the place at which a star names a vertex, and the kind there
pub place_of_lem : (ends nbr : List ℕ) (i v x y p : ℕ) → x ≡ start_of ends (length nbr) i → y ≡ end_of ends (length nbr) i → p ≡ place_in (y - x) x nbr v
    → p ≡ place_of ends nbr i v
unfolding place_of
place_of_lem ends nbr i v x y p ex ey ep = rw (← ex, ← ey) ep

module _ (ends nbr kind : List ℕ) (i v p y : ℕ) (ep : p ≡ place_of ends nbr i v) (ey : y ≡ end_of ends (length nbr) i) where
  -- where the star starts
  abbrev start : ℕ
  start = start_of ends (length nbr) i

  -- the first place of the star's that names v
  is_place : p ≡ place_in (y - start) start nbr v
  unfolding place_of
  is_place = rw ey ep

  -- the kind with which the star names v is that at this place, and 4 where it is none of the star's
  kind_held : kind_of (held_star ends nbr kind i) v ≡ cond {A = ℕ} (ltb p (start + (y - start))) (get_or kind p 0) 4
  unfolding held_star
  kind_held = rw (← ey, is_place) (kind_place (y - start) start nbr kind v)

  -- where a place of the star names v, its kind is the one there
  pub kind_here : (k : ℕ) → p < y → k ≡ get_or kind p 0 → k ≡ kind_of (held_star ends nbr kind i) v
  kind_here k h e = rw (kind_held, lt-ltb p (start + (y - start)) (omega arith)) e

  -- where no place of the star names v, the kind is 4
  pub kind_none : y ≤ p → 4 ≡ kind_of (held_star ends nbr kind i) v
  unfolding place_in
  kind_none h = rw kind_held (go (dec_lt y start))
    where
      go : Dec (y < start) → 4 ≡ cond {A = ℕ} (ltb p (start + (y - start))) (get_or kind p 0) 4
      go (no l) = rw (le-ltb p (start + (y - start)) (omega arith))
      go (yes l) =
          let d : y - start ≡ 0 = omega arith in
          let q : p ≡ start = rw d at is_place in
          rw (le-ltb p (start + (y - start)) (omega arith))

-- above or to the right
pub leads_up : (k : ℕ) → k ≡ 0 → true ≡ (eqb k 0 || eqb k 3)
leads_up k e = rw (eq-eqb k 0 e)

-- a kind other than 0 is above or to the right exactly if it is 3
pub leads_right : (k : ℕ) → (k ≡ 0 → ⊥) → eqb k 3 ≡ (eqb k 0 || eqb k 3)
leads_right k n = rw (ne_eqb k 0 n)

-- the kind that a contact takes
module _ (k n : ℕ) (last : Bool) (e : n ≡ k) where
  -- last of its list: the next side counterclockwise
  pub kind_next : last ≡ true → (n + 1) % 4 ≡ turned_kind k last
  unfolding turned_kind
  kind_next t = rw (t, e)

  -- not last: the side before
  pub kind_before : last ≡ false → (n + 3) % 4 ≡ turned_kind k last
  unfolding turned_kind
  kind_before t = rw (t, e)

-- the entry at a place, and the one behind it
module _ (nbr kind : List ℕ) (first end k v x : ℕ) (ex : x ≡ to_at nbr k) where
  -- an entry that names another vertex is no end of v's list
  pub ends_elsewhere : (x ≡ v → ⊥) → false ≡ ends_at v (link_at first end nbr kind k)
  unfolding ends_at link_at entry_at
  ends_elsewhere n = rw (← ex, ne_eqb x v n)

  -- an entry that names v is the end of its list exactly if the kind behind it is another
  pub ends_here : (n c d : ℕ) → x ≡ v → n ≡ place_after first end k → c ≡ get_or kind k 0 → d ≡ get_or kind n 0
      → not (eqb c d) ≡ ends_at v (link_at first end nbr kind k)
  unfolding ends_at link_at entry_at changes
  ends_here n c d e en ec ed = rw (← ex, eq-eqb x v e, ← en, ← ec, ← ed)

-- a star that starts at x and ends at y
module _ (ends nbr kind : List ℕ) (i x y : ℕ) (ex : x ≡ start_of ends (length nbr) i) (ey : y ≡ end_of ends (length nbr) i) where
  -- its entries from x to y are the held star
  part_star : cells (y - x) x nbr kind ≡ held_star ends nbr kind i
  unfolding held_star
  part_star = rw (← ex, ← ey)

  -- once round it, v is last of its list where it ends at some place
  pub last_first : (v : ℕ) → any (ends_at v) (links_from x y nbr kind x) ≡ is_last (held_star ends nbr kind i) v
  unfolding is_last
  last_first v = rw (← part_star, links_round nbr kind x y)

  -- the entries of a kind, counted: what is known and what is left give the whole
  pub many_first : (want : ℕ) → 0 + length (list_of (cells (y - x) x nbr kind) want) ≡ length (list_of (held_star ends nbr kind i) want)
  many_first want = rw part_star (omega arith)

-- the list of a kind, entry by entry
list_nil : (k : ℕ) → list_of [] k ≡ []
unfolding list_of keep
list_nil k = refl

-- an entry of the kind makes its list one longer, any other leaves it
many_cons : (e : Entry) (s : Star) (k : ℕ) → length (list_of (e ∷ s) k) ≡ bit (eqb e.kind k) + length (list_of s k)
unfolding list_of keep
many_cons e s k = go (eqb e.kind k)
  where
    go : (b : Bool) → length (map (λ (d : Entry). d.to) (cond b (e ∷ keep (λ d. eqb d.kind k) s) (keep (λ d. eqb d.kind k) s)))
        ≡ bit b + length (map (λ (d : Entry). d.to) (keep (λ d. eqb d.kind k) s))
    go true = omega arith
    go false = omega arith

-- a test as a number is one or nothing
same_bit : (t : Bool) → bool_byte t ≡ bit t
same_bit true = refl
same_bit false = refl

module _ (nbr kind : List ℕ) (want y k : ℕ) where
  -- the next entry counted, those behind it are left
  pub many_more : (n w a b : ℕ) → a ≡ get_or kind k 0 → b ≡ bool_byte (eqb a want) → k < y → n + length (list_of (cells (y - k) k nbr kind) want) ≡ w
      → n + b + length (list_of (cells (y - (k + 1)) (k + 1) nbr kind) want) ≡ w
  unfolding entry_at
  many_more n w a b ea e h inv =
      let r : Star = cells (y - (k + 1)) (k + 1) nbr kind in
      let c : length (list_of (cells (y - k) k nbr kind) want) ≡ b + length (list_of r want) =
      rw (cells_more nbr kind y k h, e, same_bit (eqb a want), ea) (many_cons (entry_at nbr kind k) r want) in
      omega arith

  -- behind the last entry nothing is left to count
  pub many_done : (n w : ℕ) → y ≤ k → n + length (list_of (cells (y - k) k nbr kind) want) ≡ w → n ≡ w
  many_done n w h inv =
      let c : n + length {A = ℕ} [] ≡ w = rw (cells_done nbr kind y k h, list_nil want) at inv in
      omega arith
