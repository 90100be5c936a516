-- A contact turned in a good plan: neighbours in a star are still joined to one another, on the sides where they must be. Assumes nothing.
use Rattle.std.specs.Prelude.{ℕ, ◌+◌, ◌<◌, ◌≡◌, refl, ◌⊎◌, Bool, true, false}
use Rattle.std.proofs.Common.{ap, inl, inr, arith}
use mathlib.Core.List.{List, [], ◌∷◌, ◌++◌, Memᴰ}
use Rattle.std.proofs.Math.Decide.{ℕ_discrete}
use Rattle.floor.proofs.Floor.Sides.{Side, up, left, down, right, next, opp, prev, round, Piece, side, room, Place, size, Stars, Known, Lawful, Contact}
use Rattle.floor.proofs.Floor.Sides.{Meets, AtFirst, AtLast, Linked, Good, Base, Tri}
use Rattle.floor.proofs.Floor.Tiles.{named_known, linked_map, linked_tail, last_map, first_map}
use Rattle.floor.proofs.Floor.Cover.{size_opp}
use Rattle.floor.proofs.Floor.Joins.{meet_once}
use Rattle.floor.proofs.Turns.Ends.{Beyond}

-- what holds on a side, the next, the opposite one and the one before holds on every side
all_round : (Q : Side → Type 0) (k : Side) → Q k → Q (next k) → Q (opp k) → Q (prev k) → (c : Side) → Q c
all_round Q k = go k
  where
    each : Q up → Q left → Q down → Q right → (c : Side) → Q c
    each a b c d up = a
    each a b c d left = b
    each a b c d down = c
    each a b c d right = d

    go : (k : Side) → Q k → Q (next k) → Q (opp k) → Q (prev k) → (c : Side) → Q c
    go up a b c d = each a b c d
    go left a b c d = each d a b c
    go down a b c d = each c d a b
    go right a b c d = each b c d a

-- no list with an entry is empty
some_entry : {A : Type 0} {x : A} {l : List A} → (x ∷ l) ≡ [] → ⊥
some_entry e = let z : ◌≡◌ {A = ℕ} 0 1 = cc in omega arith

-- lists with one more at the end, or at the front
module _ (R : Piece → Piece → Type 0) (x : Piece) where
  -- where each stands in R to the next, each still does with x taken from the end
  linked_front : (l : List Piece) → Linked R (l ++ x ∷ []) → Linked R l
  linked_front [] h = tt
  linked_front (v ∷ []) h = tt
  linked_front (v ∷ w ∷ l) h = (h.0, linked_front (w ∷ l) h.1)

  -- the last of a list that is not empty stands in R to x behind it, where each stands in R to the next
  linked_last : (l : List Piece) → (l ≡ [] → ⊥) → Linked R (l ++ x ∷ []) → AtLast (λ z. R z x) l
  linked_last [] n h = absurd (n refl)
  linked_last (v ∷ []) n h = h.0
  linked_last (v ∷ w ∷ l) n h = linked_last (w ∷ l) some_entry h.1

  -- where each stands in R to the next, and the last to x, each does with x put at the end
  linked_back : (l : List Piece) → Linked R l → AtLast (λ z. R z x) l → Linked R (l ++ x ∷ [])
  linked_back [] h e = absurd e
  linked_back (v ∷ []) h e = (e, tt)
  linked_back (v ∷ w ∷ l) h e = (h.0, linked_back (w ∷ l) h.1 e)

  -- where x stands in R to the first, and each to the next, each does with x put in front
  linked_cons : (l : List Piece) → AtFirst (λ z. R x z) l → Linked R l → Linked R (x ∷ l)
  linked_cons [] f h = tt
  linked_cons (v ∷ l) f h = (f, h)

  -- x in front of a list that is not empty stands in R to its first, where each stands in R to the next
  cons_first : (l : List Piece) → (l ≡ [] → ⊥) → Linked R (x ∷ l) → AtFirst (λ z. R x z) l
  cons_first [] n h = absurd (n refl)
  cons_first (v ∷ l) n h = h.0

module _ (P : Piece → Type 0) (x : Piece) where
  -- where the last of a list that ends with x has P, x has it
  last_end : (l : List Piece) → AtLast P (l ++ x ∷ []) → P x
  last_end [] h = h
  last_end (v ∷ []) h = h
  last_end (v ∷ w ∷ l) h = last_end (w ∷ l) h

  -- where x has P, the last of a list that ends with x has it
  end_last : (l : List Piece) → P x → AtLast P (l ++ x ∷ [])
  end_last [] h = h
  end_last (v ∷ []) h = h
  end_last (v ∷ w ∷ l) h = end_last (w ∷ l) h

  -- where the first has P with x put at the end of a list that is not empty, the first of the list itself has it
  first_front : (l : List Piece) → (l ≡ [] → ⊥) → AtFirst P (l ++ x ∷ []) → AtFirst P l
  first_front [] n h = absurd (n refl)
  first_front (v ∷ l) n h = h

  -- where the first of a list has P, the first has it with x put at the end
  front_first : (l : List Piece) → AtFirst P l → AtFirst P (l ++ x ∷ [])
  front_first [] h = absurd h
  front_first (v ∷ l) h = h

  -- where the last of a list has P, the last has it with x put in front
  last_cons : (l : List Piece) → AtLast P l → AtLast P (x ∷ l)
  last_cons [] h = absurd h
  last_cons (v ∷ l) h = h

  -- where the last has P with x put in front of a list that is not empty, the last of the list itself has it
  last_tail : (l : List Piece) → (l ≡ [] → ⊥) → AtLast P (x ∷ l) → AtLast P l
  last_tail [] n h = absurd (n refl)
  last_tail (v ∷ l) n h = h

-- the side to which a contact of side k turns
abbrev pub turn_to : Bool → Side → Side
turn_to true k = next k
turn_to false k = prev k

-- v leaves the end of the list of side k of room a, for the beginning of the next (true); or its beginning, for the end of the one before (false)
abbrev pub Moves : Bool → Stars → Stars → Side → ℕ → Piece → Type 0
Moves true s t k a v =
    (s.list k a ≡ t.list k a ++ v ∷ []) × (t.list (next k) a ≡ v ∷ s.list (next k) a) × (t.list (opp k) a ≡ s.list (opp k) a)
    × (t.list (prev k) a ≡ s.list (prev k) a)
Moves false s t k a v =
    (s.list k a ≡ v ∷ t.list k a) × (t.list (prev k) a ≡ s.list (prev k) a ++ v ∷ []) × (t.list (opp k) a ≡ s.list (opp k) a)
    × (t.list (next k) a ≡ s.list (next k) a)

-- THE STARS t, WHERE IN s ROOM b STOOD ON SIDE k OF ROOM a, and each went past the other at one end
pub record Turns (s t : Stars) (p : Place) (l : Bool) (k : Side) (a b : ℕ) : Type 0 where
  pub count : t.count ≡ s.count
  pub in_a : a < s.count
  pub in_b : b < s.count
  pub contact : Memᴰ (room b) (s.list k a)
  pub contact' : Memᴰ (room a) (s.list (opp k) b)
  pub made : Memᴰ (room b) (t.list (turn_to l k) a)
  pub made' : Memᴰ (room a) (t.list (turn_to l (opp k)) b)
  pub beyond : Beyond p l k (room a) (room b)
  pub moves : Moves l s t k a (room b)
  pub moves' : Moves l s t (opp k) b (room a)
  pub others : (c : Side) (r : ℕ) → (r ≡ a → ⊥) → (r ≡ b → ⊥) → t.list c r ≡ s.list c r
  pub kept : (c : Side) (r : ℕ) (v : Piece) → Memᴰ v (s.list c r) → (r ≡ a → v ≡ room b → ⊥) → (r ≡ b → v ≡ room a → ⊥) → Memᴰ v (t.list c r)
  pub frame : (c : Side) (r : ℕ) (f : Side) → Memᴰ (side f) (t.list c r) → Memᴰ (side f) (s.list c r)

-- the same, seen from b
beyond_back : (p : Place) (l : Bool) (k : Side) (a b : Piece) → Beyond p l k a b → Beyond p l (opp k) b a
beyond_back p true k a b h = (h.1, rw (round k) h.0)
beyond_back p false k a b h = (rw (round k) h.1, h.0)

-- the turned stars seen from b: a stood on the opposite side of it
swap : {s t : Stars} {p : Place} {l : Bool} {k : Side} {a b : ℕ} → Turns s t p l k a b → Turns s t p l (opp k) b a
swap {s} {t} {p} {l} {k} {a} {b} T = record {
  count = T.count;
  in_a = T.in_b;
  in_b = T.in_a;
  contact = T.contact';
  contact' = rw (round k) T.contact;
  made = T.made';
  made' = rw (round k) T.made;
  beyond = beyond_back p l k (room a) (room b) T.beyond;
  moves = T.moves';
  moves' = rw (round k) T.moves;
  others = λ c r x y. T.others c r y x;
  kept = λ c r v m x y. T.kept c r v m y x;
  frame = T.frame;
}

-- a frame side is no room
not_room : {f : Side} {i : ℕ} → side f ≡ room i → ⊥
not_room e = let z : ◌≡◌ {A = ℕ} 0 1 = cc in omega arith

-- a vertex is room a, or it is not
is_a_room : (x : Piece) (a : ℕ) → Dec (x ≡ room a)
is_a_room (side f) a = no not_room
is_a_room (room i) a = go (ℕ_discrete i a)
  where
    same : room i ≡ room a → i ≡ a
    same e = cc

    go : Dec (i ≡ a) → Dec (room i ≡ room a)
    go (yes e) = yes (ap room e)
    go (no e) = no (λ z. e (same z))

-- the star of room r closes round it, on side c and at its end
abbrev Closes : Stars → ℕ → Side → Type 0
Closes t r c =
    Linked (λ x y. Contact t (next c) x y) (t.list c r)
    × AtLast (λ x. AtFirst (λ y. Contact t (next c) x y ⊎ Contact t (opp c) x y) (t.list (next c) r)) (t.list c r)

module _ (s t : Stars) (g : Lawful s) (g' : Lawful t) (p : Place) (q : Good s p) (tri : Tri s) where
  -- what a room lists is a side of the frame or one of the job's rooms
  known : (c : Side) (r : ℕ) (v : Piece) → r < s.count → Memᴰ v (s.list c r) → Known s v
  known c r v h m = named_known s c v (g.known c r v h m)

  -- what a room lists on a side meets it there
  meet : (c : Side) (r : ℕ) (v : Piece) → r < s.count → Memᴰ v (s.list c r) → Meets p c (room r) v
  meet c r v h m = q.meets c (room r) v h (known c r v h m) m

  -- no room lists itself
  not_self : (c : Side) (r : ℕ) (x : Piece) → r < s.count → Memᴰ x (s.list c r) → x ≡ room r → ⊥
  not_self c r x h m e = omega (arith, (rw e at (meet c r x h m)).touch, q.thick c (room r) h)

  module _ (l : Bool) (k : Side) (a b : ℕ) (T : Turns s t p l k a b) where
    -- every other contact stays
    carry : (c : Side) (x y : Piece) → (x ≡ room a → y ≡ room b → ⊥) → (x ≡ room b → y ≡ room a → ⊥) → Contact s c x y → Contact t c x y
    carry c (room i) y n m h = T.kept c i y h (λ e f. n (ap room e) f) (λ e f. m (ap room e) f)
    carry c (side f) (room i) n m h = T.kept (opp c) i (side f) h (λ e z. not_room z) (λ e z. not_room z)
    carry c (side f) (side r) n m h = h

    -- round a: what is in its star is not a
    own : (c : Side) (x y : Piece) → (x ≡ room a → ⊥) → (y ≡ room a → ⊥) → Contact s c x y → Contact t c x y
    own c x y nx ny h = carry c x y (λ e f. nx e) (λ e f. ny f) h

    -- a contact of two that are not a, on one of two sides, is after the turn on one of these two
    own_either : (c d : Side) (x y : Piece) → (x ≡ room a → ⊥) → (y ≡ room a → ⊥) → Contact s c x y ⊎ Contact s d x y → Contact t c x y ⊎ Contact t d x y
    own_either c d x y nx ny (inl h) = inl (own c x y nx ny h)
    own_either c d x y nx ny (inr h) = inr (own d x y nx ny h)

    -- on each side of a as it was, each is still joined to the next, on the next side
    own_linked : (c : Side) → Linked (λ x y. Contact t (next c) x y) (s.list c a)
    own_linked c =
        linked_map (s.list c a) (λ x y mx my h. own (next c) x y (not_self c a x T.in_a mx) (not_self c a y T.in_a my) h) (tri.linked c a T.in_a)

    -- at each corner of a as it was, the last of the one side is still joined to the first of the next
    own_turns : (c : Side) → AtLast (λ x. AtFirst (λ y. Contact t (next c) x y ⊎ Contact t (opp c) x y) (s.list (next c) a)) (s.list c a)
    own_turns c =
        last_map (s.list c a) (λ x mx f. first_map (s.list (next c) a)
        (λ y my h. own_either (next c) (opp c) x y (not_self c a x T.in_a mx) (not_self (next c) a y T.in_a my) h) f) (tri.turns c a T.in_a)

    -- its lists are not empty
    some : (c : Side) → t.list c a ≡ [] → ⊥
    some c = g'.some c a (omega (arith, T.in_a, T.count))

  -- THE STAR OF a, where b was last and becomes first
  star_next : (k : Side) (a b : ℕ) → Turns s t p true k a b → (c : Side) → Closes t a c
  star_next k a b T = all_round (Closes t a) k (
    linked_front _ (room b) (t.list k a) whole,
    rw e1 (last_map (t.list k a) (λ x m h. inl h) (linked_last _ (room b) (t.list k a) (some true k a b T k) whole)),
  ) (
    rw e1 (linked_cons _ (room b) (s.list (next k) a) first (own_linked true k a b T (next k))),
    rw e1 (last_cons _ (room b) (s.list (next k) a) (rw (← e2) at (own_turns true k a b T (next k)))),
  )
      (rw e2 (own_linked true k a b T (opp k)), rw (e2, e3) (own_turns true k a b T (opp k))) (
        rw e3 (own_linked true k a b T (prev k)),
        rw (e3, round k)
            (last_map (s.list (prev k) a) (λ x m h. first_front _ (room b) (t.list k a) (some true k a b T k) h)
            (rw (round k, e0) at (own_turns true k a b T (prev k)))),
      )
    where
      e0 : s.list k a ≡ t.list k a ++ room b ∷ []
      e0 = T.moves.0

      e1 : t.list (next k) a ≡ room b ∷ s.list (next k) a
      e1 = T.moves.1

      e2 : t.list (opp k) a ≡ s.list (opp k) a
      e2 = T.moves.2

      e3 : t.list (prev k) a ≡ s.list (prev k) a
      e3 = T.moves.3

      whole : Linked (λ x y. Contact t (next k) x y) (t.list k a ++ room b ∷ [])
      whole = rw e0 at (own_linked true k a b T k)

      -- b goes past a, so what follows it lies under it
      first : AtFirst (λ y. Contact t (opp k) (room b) y) (s.list (next k) a)
      first =
          first_map (s.list (next k) a) (λ y my h. go y my h) (last_end _ (room b) (t.list k a) (rw e0 at (tri.turns k a T.in_a)))
        where
          go : (y : Piece) → Memᴰ y (s.list (next k) a) → Contact s (next k) (room b) y ⊎ Contact s (opp k) (room b) y → Contact t (opp k) (room b) y
          go y my (inl h) =
              absurd (omega (arith, T.beyond.0, (meet (next k) a y T.in_a my).touch, (meet (next k) b y T.in_b h).touch))
          go y my (inr h) =
              own true k a b T (opp k) (room b) y (not_self k a (room b) T.in_a T.contact) (not_self (next k) a y T.in_a my) h

  -- THE STAR OF a, where b was first and becomes last
  star_prev : (k : Side) (a b : ℕ) → Turns s t p false k a b → (c : Side) → Closes t a c
  star_prev k a b T = all_round (Closes t a) k (
    linked_tail (λ x y. Contact t (next k) x y) (room b) (t.list k a) whole,
    rw e3 (last_tail _ (room b) (t.list k a) (some false k a b T k) (rw e0 at (own_turns false k a b T k))),
  )
      (rw e3 (own_linked false k a b T (next k)), rw (e3, e2) (own_turns false k a b T (next k))) (
        rw e2 (own_linked false k a b T (opp k)),
        rw (e2, e1) (last_map (s.list (opp k) a) (λ x m h. front_first _ (room b) (s.list (prev k) a) h) (own_turns false k a b T (opp k))),
      ) (
        rw (e1, round k) (linked_back _ (room b) (s.list (prev k) a) (rw (round k) at (own_linked false k a b T (prev k))) last),
        rw (e1, round k) (end_last _ (room b) (s.list (prev k) a) (first_map (t.list k a) (λ y m h. inr h)
            (cons_first (Contact t (next k)) (room b) (t.list k a) (some false k a b T k) whole))),
      )
    where
      e0 : s.list k a ≡ room b ∷ t.list k a
      e0 = T.moves.0

      e1 : t.list (prev k) a ≡ s.list (prev k) a ++ room b ∷ []
      e1 = T.moves.1

      e2 : t.list (opp k) a ≡ s.list (opp k) a
      e2 = T.moves.2

      e3 : t.list (next k) a ≡ s.list (next k) a
      e3 = T.moves.3

      whole : Linked (λ x y. Contact t (next k) x y) (room b ∷ t.list k a)
      whole = rw e0 at (own_linked false k a b T k)

      -- b goes past a, so what comes before it lies under it
      last : AtLast (λ x. Contact t k x (room b)) (s.list (prev k) a)
      last = last_map (s.list (prev k) a) (λ x mx h. go x mx h) (rw (round k, e0) at (tri.turns (prev k) a T.in_a))
        where
          go : (x : Piece) → Memᴰ x (s.list (prev k) a) → Contact s k x (room b) ⊎ Contact s (next k) x (room b) → Contact t k x (room b)
          go x mx (inl h) = own false k a b T k x (room b) (not_self (prev k) a x T.in_a mx) (not_self k a (room b) T.in_a T.contact) h
          go x mx (inr h) =
              let m : Meets p (next k) x (room b) = q.meets (next k) x (room b) (known (prev k) a x T.in_a mx) T.in_b h in
              let n : p.at (prev k) (room a) + p.at (next k) x ≡ size p (prev k) = rw (round k) at (meet (prev k) a x T.in_a mx).touch in
              absurd (omega (arith, T.beyond.0, m.touch, size_opp p (next k)))

  -- round any other room: a and b do not both stand on one side of it,
  module _ (l : Bool) (k : Side) (a b : ℕ) (T : Turns s t p l k a b) (c : Side) (r : ℕ) (h : r < s.count) where
    -- where b stands on a side of a, that side is k
    is_side : (d : Side) → Contact s d (room a) (room b) → d ≡ k
    is_side d m =
        meet_once p k d (room a) (room b) (q.thick k (room a) T.in_a) (q.thick k (room b) T.in_b) (meet k a (room b) T.in_a T.contact)
        (meet d a (room b) T.in_a m)

    -- a and b, which go past one another, do not reach equally far towards the next side
    uneven : (l : Bool) → Beyond p l k (room a) (room b) → p.at (next k) (room a) ≡ p.at (next k) (room b) → ⊥
    uneven true o e = omega (arith, o.0)
    uneven false o e = omega (arith, o.1)

    -- a and b do not both stand on side c of room r, with b on the next side of a
    one_side : Memᴰ (room a) (s.list c r) → Memᴰ (room b) (s.list c r) → Contact s (next c) (room a) (room b) → ⊥
    one_side ma mb m =
        let f : p.at (opp c) (room a) ≡ p.at (opp c) (room b) = omega (arith, (meet c r (room a) h ma).touch, (meet c r (room b) h mb).touch) in
        uneven l T.beyond (rw (is_side (next c) m) at f)

    -- and where they stand at a corner of it, they still do
    at_corner : Memᴰ (room a) (s.list c r) → Memᴰ (room b) (s.list (next c) r)
        → Contact s (next c) (room a) (room b) ⊎ Contact s (opp c) (room a) (room b)
        → Contact t (next c) (room a) (room b) ⊎ Contact t (opp c) (room a) (room b)
    at_corner ma mb (inl m) = go l T.beyond T.made
      where
        e : next c ≡ k
        e = is_side (next c) m

        short : p.at (opp c) (room a) < p.at (opp c) (room b)
        short =
            let wide : size p (opp c) < p.at c (room r) + p.at (opp c) (room b) = rw (round c) at (meet (next c) r (room b) h mb).behind in
            omega (arith, (meet c r (room a) h ma).touch, size_opp p c)

        go : (l : Bool) → Beyond p l k (room a) (room b) → Memᴰ (room b) (t.list (turn_to l k) a)
            → Contact t (next c) (room a) (room b) ⊎ Contact t (opp c) (room a) (room b)
        go true o n = inr (rw e n)
        go false o n = absurd (omega (arith, rw e at short, o.1))
    at_corner ma mb (inr m) = go l T.beyond T.made
      where
        e : opp c ≡ k
        e = is_side (opp c) m

        short : p.at (prev c) (room b) < p.at (prev c) (room a)
        short = omega (arith, (meet c r (room a) h ma).ahead, (meet (next c) r (room b) h mb).touch)

        go : (l : Bool) → Beyond p l k (room a) (room b) → Memᴰ (room b) (t.list (turn_to l k) a)
            → Contact t (next c) (room a) (room b) ⊎ Contact t (opp c) (room a) (room b)
        go true o n = absurd (omega (arith, rw e at short, o.0))
        go false o n = inl (rw (← e, round c) at n)

  -- THE STARS CLOSE AGAIN
  module _ (l : Bool) (k : Side) (a b : ℕ) (T : Turns s t p l k a b) where
    -- the same turn, seen from b
    T' : Turns s t p l (opp k) b a
    T' = swap T

    -- the star of every room but a and b closes round it again
    star_other : (r : ℕ) → r < s.count → (r ≡ a → ⊥) → (r ≡ b → ⊥) → (c : Side) → Closes t r c
    star_other r h na nb c = rw (T.others c r na nb, T.others (next c) r na nb) (
      linked_map (s.list c r) (λ x y mx my m. link x y mx my m) (tri.linked c r h),
      last_map (s.list c r) (λ x mx f. first_map (s.list (next c) r) (λ y my m. corner x y mx my m) f) (tri.turns c r h),
    )
      where
        link : (x y : Piece) → Memᴰ x (s.list c r) → Memᴰ y (s.list c r) → Contact s (next c) x y → Contact t (next c) x y
        link x y mx my m =
            carry l k a b T (next c) x y
            (λ e f. one_side l k a b T c r h (rw e at mx) (rw f at my) (rw (e, f) at m))
            (λ e f. one_side l (opp k) b a T' c r h (rw e at mx) (rw f at my) (rw (e, f) at m)) m

        corner : (x y : Piece) → Memᴰ x (s.list c r) → Memᴰ y (s.list (next c) r) → Contact s (next c) x y ⊎ Contact s (opp c) x y
            → Contact t (next c) x y ⊎ Contact t (opp c) x y
        corner x y mx my m = go (is_a_room x a) (is_a_room y b) (is_a_room x b) (is_a_room y a)
          where
            plain : (x ≡ room a → y ≡ room b → ⊥) → (x ≡ room b → y ≡ room a → ⊥) → Contact s (next c) x y ⊎ Contact s (opp c) x y
                → Contact t (next c) x y ⊎ Contact t (opp c) x y
            plain n o (inl m) = inl (carry l k a b T (next c) x y n o m)
            plain n o (inr m) = inr (carry l k a b T (opp c) x y n o m)

            go : Dec (x ≡ room a) → Dec (y ≡ room b) → Dec (x ≡ room b) → Dec (y ≡ room a) → Contact t (next c) x y ⊎ Contact t (opp c) x y
            go (yes e) (yes f) u v = rw (e, f) (at_corner l k a b T c r h (rw e at mx) (rw f at my) (rw (e, f) at m))
            go (no e) f (yes u) (yes v) = rw (u, v) (at_corner l (opp k) b a T' c r h (rw u at mx) (rw v at my) (rw (u, v) at m))
            go (yes e) (no f) (yes u) (yes v) = rw (u, v) (at_corner l (opp k) b a T' c r h (rw u at mx) (rw v at my) (rw (u, v) at m))
            go (no e) f (no u) v = plain (λ z w. e z) (λ z w. u z) m
            go (no e) f (yes u) (no v) = plain (λ z w. e z) (λ z w. v w) m
            go (yes e) (no f) (no u) v = plain (λ z w. f w) (λ z w. u z) m
            go (yes e) (no f) (yes u) (no v) = plain (λ z w. f w) (λ z w. v w) m

    -- the star of a closes round it again, to whichever side b turns
    star_own : (l : Bool) (k : Side) (a b : ℕ) → Turns s t p l k a b → (c : Side) → Closes t a c
    star_own true k a b T = star_next k a b T
    star_own false k a b T = star_prev k a b T

    -- the star of every room closes round it again
    closes : (r : ℕ) → r < t.count → (c : Side) → Closes t r c
    closes r h c = go (ℕ_discrete r a) (ℕ_discrete r b)
      where
        go : Dec (r ≡ a) → Dec (r ≡ b) → Closes t r c
        go (yes e) f = rw e (star_own l k a b T c)
        go (no e) (yes f) = rw f (star_own l (opp k) b a T' c)
        go (no e) (no f) = star_other r (omega (arith, T.count)) e f c

    -- after the turn neighbours in a star are joined to one another, and one room alone lists both W and S
    pub turned_tri : Tri t
    turned_tri = record {
      linked = λ c r h. (closes r h c).0;
      turns = λ c r h. (closes r h c).1;
      base = let (r, z) = tri.base in (r, now r z);
      base_one = λ r r' x y. tri.base_one r r' (was r x) (was r' y);
    }
      where
        now : (r : ℕ) → Base s r → Base t r
        now r (h, m, n) = (
          omega (arith, T.count),
          T.kept left r (side left) m (λ e z. not_room z) (λ e z. not_room z),
          T.kept down r (side down) n (λ e z. not_room z) (λ e z. not_room z),
        )

        was : (r : ℕ) → Base t r → Base s r
        was r (h, m, n) = (omega (arith, T.count), T.frame left r left m, T.frame down r down n)
