-- The drawing test star by star: on a plan by wall numbers three linear checks give the drawing test's own answer. Assumes nothing.
use Rattle.std.specs.Prelude.{◌≡◌, refl, ◌⊎◌, Bool, false, cond, ◌&&◌, ◌||◌, ℕ, ◌+◌, ◌<◌, ltb, eqb, get_or}
use Rattle.std.proofs.Common.{ap, ◌∙◌, inl, inr, arith}
use Rattle.std.proofs.Math.Bool.{true}
use mathlib.Core.List.{List, [], ◌∷◌, map, Memᴰ}
use Rattle.std.proofs.Math.ListN.{length}
use borrow.Author.Tests.{eqb-true, ltb-true, eq-eqb, lt-ltb}
use Rattle.floor.specs.Lists.{all, up_from}
use Rattle.floor.proofs.Lists.Laws.{no_false, same_test, and_parts, or_cases, or_right, all_mem, mem_all, any_mem, mem_any, up_from_mem, mem_up_from}
use Rattle.floor.specs.Jobs.{Star, Job, lists, Sizes}
use Rattle.floor.specs.Jobs.Facts.{Passes}
use Rattle.floor.specs.Walls.{Numbers, upright, level, rules}
use Rattle.floor.specs.Plans.{Plan, plan_of, drawable}
use Rattle.floor.proofs.Floor.Sides.{Side, up, left, down, right, next, prev, Piece, side, room, Place, size, Stars, Lawful, AtFirst, AtLast, Linked}
use Rattle.floor.proofs.Floor.Sides.{Rounds, Local, Fits, Base}
use Rattle.floor.proofs.Floor.Tiles.{named_known}
use Rattle.floor.proofs.Floor.Whole.{local_good}
use Rattle.floor.proofs.Floor.Parts.{good_local}
use Rattle.floor.proofs.Floor.Read.{num, piece, piece_number, standing, stars_of, mem_entry, entry_mem, lawful}
use Rattle.floor.proofs.Floor.Placed.{place_of}
use Rattle.floor.proofs.Floor.Bridge.{good_plan}
use Rattle.floor.proofs.Floor.Area.{total, total_one, total_some, total_unique}
use Rattle.floor.proofs.Floor.Tested.{good_drawable, drawable_good}
use Rattle.floor.proofs.Floor.Ours.{plan_complete, plan_fits}

-- neighbours in a list abut
unfoldable pub abuts : Place → Side → List Piece → Bool
abuts p k [] = true
abuts p k (v ∷ []) = true
abuts p k (v ∷ w ∷ l) = eqb (p.at (next k) v + p.at (prev k) w) (size p (next k)) && abuts p k (w ∷ l)

-- at the corner one ends flush and the other goes past
unfoldable pub turned : Place → Side → Piece → Piece → Piece → Bool
turned p k u a b = eqb (p.at (next k) a) (p.at (next k) u) && ltb (p.at k u) (p.at k b) || ltb (p.at (next k) u) (p.at (next k) a) && eqb
    (p.at k b) (p.at k u)

-- the test whether the list has a first that passes
unfoldable pub at_first : (Piece → Bool) → List Piece → Bool
at_first f [] = false
at_first f (v ∷ l) = f v

-- the test whether the list has a last that passes
unfoldable pub at_last : (Piece → Bool) → List Piece → Bool
at_last f [] = false
at_last f (v ∷ []) = f v
at_last f (v ∷ w ∷ l) = at_last f (w ∷ l)

-- on side k of room i the list abuts, and at the corner to the next side one ends flush and the other goes past
unfoldable pub side_ok : Stars → Place → ℕ → Side → Bool
side_ok s p i k = abuts p k (s.list k i) && at_last (λ a. at_first (λ b. turned p k (room i) a b) (s.list (next k) i)) (s.list k i)

-- all four sides
abbrev pub sides : List Side
sides = up ∷ left ∷ down ∷ right ∷ []

-- the room lists W and S
unfoldable pub is_base : Job → ℕ → Bool
is_base j i = lists (get_or j i []) 1 1 && lists (get_or j i []) 2 2

-- THE LOCAL TEST
unfoldable pub near : Job → Plan → Bool
near j p = all (λ i. all (side_ok (stars_of j) (place_of p) i) sides) (up_from 0 (length j)) && eqb (total (length j) (λ i. cond (is_base j i) 1 0)) 1

-- what the local test is for: each list tiles its side of the room, and one room stands in the corner between W and S
pub record Rest (s : Stars) (p : Place) : Type 0 where
  pub linked : (k : Side) (i : ℕ) → i < s.count → Linked (λ a b. p.at (next k) a + p.at (prev k) b ≡ size p (next k)) (s.list k i)
  pub turns : (k : Side) (i : ℕ) → i < s.count → AtLast (λ a. AtFirst (λ b. Rounds p k (room i) a b) (s.list (next k) i)) (s.list k i)
  pub base : (i : ℕ) × Base s i
  pub base_one : (i j : ℕ) → Base s i → Base s j → i ≡ j

-- the tests say what they should
abuts_linked : (p : Place) (k : Side) (l : List Piece) → abuts p k l ≡ true → Linked (λ a b. p.at (next k) a + p.at (prev k) b ≡ size p (next k)) l
unfolding abuts
abuts_linked p k [] e = tt
abuts_linked p k (v ∷ []) e = tt
abuts_linked p k (v ∷ w ∷ l) e =
    let (a, b) = and_parts (eqb (p.at (next k) v + p.at (prev k) w) (size p (next k))) (abuts p k (w ∷ l)) e in
    (eqb-true (p.at (next k) v + p.at (prev k) w) (size p (next k)) a, abuts_linked p k (w ∷ l) b)

-- a list in which each abuts the next passes the test
linked_abuts : (p : Place) (k : Side) (l : List Piece) → Linked (λ a b. p.at (next k) a + p.at (prev k) b ≡ size p (next k)) l → abuts p k l ≡ true
unfolding abuts
linked_abuts p k [] h = refl
linked_abuts p k (v ∷ []) h = refl
linked_abuts p k (v ∷ w ∷ l) h = rw (eq-eqb (p.at (next k) v + p.at (prev k) w) (size p (next k)) h.0) (linked_abuts p k (w ∷ l) h.1)

-- where what passes has P, a list whose first passes has a first with P
first_test : (f : Piece → Bool) (P : Piece → Type 0) (l : List Piece) → ((v : Piece) → f v ≡ true → P v) → at_first f l ≡ true → AtFirst P l
unfolding at_first
first_test f P [] h e = no_false e
first_test f P (v ∷ l) h e = h v e

-- where what has P passes, a list whose first has P has a first that passes
test_first : (f : Piece → Bool) (P : Piece → Type 0) (l : List Piece) → ((v : Piece) → P v → f v ≡ true) → AtFirst P l → at_first f l ≡ true
unfolding at_first
test_first f P [] h e = absurd e
test_first f P (v ∷ l) h e = h v e

-- where what passes has P, a list whose last passes has a last with P
last_test : (f : Piece → Bool) (P : Piece → Type 0) (l : List Piece) → ((v : Piece) → f v ≡ true → P v) → at_last f l ≡ true → AtLast P l
unfolding at_last
last_test f P [] h e = no_false e
last_test f P (v ∷ []) h e = h v e
last_test f P (v ∷ w ∷ l) h e = last_test f P (w ∷ l) h e

-- where what has P passes, a list whose last has P has a last that passes
test_last : (f : Piece → Bool) (P : Piece → Type 0) (l : List Piece) → ((v : Piece) → P v → f v ≡ true) → AtLast P l → at_last f l ≡ true
unfolding at_last
test_last f P [] h e = absurd e
test_last f P (v ∷ []) h e = h v e
test_last f P (v ∷ w ∷ l) h e = test_last f P (w ∷ l) h e

-- a corner that passes has one that ends flush and another that goes past
turned_turns : (p : Place) (k : Side) (u a b : Piece) → turned p k u a b ≡ true → Rounds p k u a b
unfolding turned
turned_turns p k u a b e = go (or_cases (eqb (p.at (next k) a) (p.at (next k) u) && ltb (p.at k u) (p.at k b))
    (ltb (p.at (next k) u) (p.at (next k) a) && eqb (p.at k b) (p.at k u)) e)
  where
    go : ((eqb (p.at (next k) a) (p.at (next k) u) && ltb (p.at k u) (p.at k b)) ≡ true)
        ⊎ ((ltb (p.at (next k) u) (p.at (next k) a) && eqb (p.at k b) (p.at k u)) ≡ true) → Rounds p k u a b
    go (inl f) = let (x, y) = and_parts (eqb (p.at (next k) a) (p.at (next k) u)) (ltb (p.at k u) (p.at k b)) f in inl
        (eqb-true (p.at (next k) a) (p.at (next k) u) x, ltb-true (p.at k u) (p.at k b) y)
    go (inr f) = let (x, y) = and_parts (ltb (p.at (next k) u) (p.at (next k) a)) (eqb (p.at k b) (p.at k u)) f in inr
        (ltb-true (p.at (next k) u) (p.at (next k) a) x, eqb-true (p.at k b) (p.at k u) y)

-- a corner where one ends flush and the other goes past passes
turns_turned : (p : Place) (k : Side) (u a b : Piece) → Rounds p k u a b → turned p k u a b ≡ true
unfolding turned
turns_turned p k u a b (inl e) = rw (eq-eqb (p.at (next k) a) (p.at (next k) u) e.0, lt-ltb (p.at k u) (p.at k b) e.1)
turns_turned p k u a b (inr e) = or_right (eqb (p.at (next k) a) (p.at (next k) u) && ltb (p.at k u) (p.at k b))
    (ltb (p.at (next k) u) (p.at (next k) a) && eqb (p.at k b) (p.at k u))
    (rw (lt-ltb (p.at (next k) u) (p.at (next k) a) e.0, eq-eqb (p.at k b) (p.at k u) e.1))

-- each side is among the four
side_mem : (k : Side) → Memᴰ k sides
side_mem up = Memᴰ.head refl
side_mem left = Memᴰ.tail (Memᴰ.head refl)
side_mem down = Memᴰ.tail (Memᴰ.tail (Memᴰ.head refl))
side_mem right = Memᴰ.tail (Memᴰ.tail (Memᴰ.tail (Memᴰ.head refl)))

-- the frame side k stands in a star
lists_mem : (s : Star) (k : Side) → lists s (num k) (num k) ≡ true → Memᴰ (side k) (map piece (standing s (num k)))
unfolding lists
lists_mem s k h =
    let (e, m, w) = any_mem (λ e. eqb e.to (num k) && eqb e.kind (num k)) s h in
    let (a, b) = and_parts (eqb e.to (num k)) (eqb e.kind (num k)) w in
    let z : piece e.to ≡ side k = ap piece (eqb-true e.to (num k) a) ∙ piece_number (side k) in
    rw z at (entry_mem s (num k) e m (eqb-true e.kind (num k) b))

-- a star with the frame side k in its list of kind k passes the test
mem_lists : (s : Star) (k : Side) → Memᴰ (side k) (map piece (standing s (num k))) → lists s (num k) (num k) ≡ true
unfolding lists
mem_lists s k h =
    let (e, m, w, t) = mem_entry (side k) s (num k) h in
    mem_any (λ e. eqb e.to (num k) && eqb e.kind (num k)) s e m (rw (eq-eqb e.to (num k) t, eq-eqb e.kind (num k) w))

module _ (j : Job) (ok : Passes j) where
  -- the job's stars are lawful
  g : Lawful (stars_of j)
  g = lawful j ok

  -- a room that passes the test lists W and S
  base_of : (i : ℕ) → i < length j → is_base j i ≡ true → Base (stars_of j) i
  unfolding is_base stars_of
  base_of i h e =
      let (a, b) = and_parts (lists (get_or j i []) 1 1) (lists (get_or j i []) 2 2) e in
      (h, lists_mem (get_or j i []) left a, lists_mem (get_or j i []) down b)

  -- a room that lists W and S passes the test
  of_base : (i : ℕ) → Base (stars_of j) i → is_base j i ≡ true
  unfolding is_base stars_of
  of_base i b = rw (mem_lists (get_or j i []) left b.1, mem_lists (get_or j i []) down b.2)

  -- 1 for a room that lists W and S, else 0
  abbrev one : ℕ → ℕ
  one i = cond (is_base j i) 1 0

  -- a room that counts lists W and S
  one_true : (i : ℕ) → 0 < one i → is_base j i ≡ true
  one_true i h = go (is_base j i) h
    where
      go : (b : Bool) → 0 < cond b 1 0 → b ≡ true
      go true h = refl
      go false h = absurd (omega arith)

  -- a room that lists W and S counts 1
  true_one : (i : ℕ) → is_base j i ≡ true → one i ≡ 1
  true_one i e = rw e

  -- a room that does not list both W and S counts 0
  false_one : (i : ℕ) → (is_base j i ≡ true → ⊥) → one i ≡ 0
  false_one i h = go (is_base j i) h
    where
      go : (b : Bool) → (b ≡ true → ⊥) → ◌≡◌ {A = ℕ} (cond b 1 0) 0
      go true h = absurd (h refl)
      go false h = refl

  module _ (pl : Plan) where
    -- what the local test says, of any plan
    pub near_rest : near j pl ≡ true → Rest (stars_of j) (place_of pl)
    unfolding near side_ok stars_of
    near_rest e =
        let (a, b) = and_parts (all (λ i. all (side_ok (stars_of j) (place_of pl) i) sides) (up_from 0 (length j))) (eqb (total (length j) one) 1) e in
        let t : total (length j) one ≡ 1 = eqb-true (total (length j) one) 1 b in
        let each : (k : Side) (i : ℕ) → i < length j → side_ok (stars_of j) (place_of pl) i k ≡ true = λ k i h. all_mem (side_ok (stars_of j) (place_of pl) i)
        sides (all_mem (λ i. all (side_ok (stars_of j) (place_of pl) i) sides) (up_from 0 (length j)) a i
        (up_from_mem 0 (length j) i (omega arith) (omega arith))) k (side_mem k) in
        record {
          linked = λ k i h. abuts_linked (place_of pl) k ((stars_of j).list k i) (halves k i (each k i h)).0;
          turns = λ k i h. last_test _ _ ((stars_of j).list k i) (λ a x. first_test _ _ ((stars_of j).list (next k) i)
              (λ b y. turned_turns (place_of pl) k (room i) a b y) x) (halves k i (each k i h)).1;
          base = let (i, h, w) = total_some (length j) one (omega arith) in (i, base_of i h (one_true i w));
          base_one = λ i k x y. total_unique (length j) i k one t x.0 y.0 (omega (arith, true_one i (of_base i x)))
              (omega (arith, true_one k (of_base k y)));
        }
      where
        halves : (k : Side) (i : ℕ) → side_ok (stars_of j) (place_of pl) i k ≡ true
            → (abuts (place_of pl) k ((stars_of j).list k i) ≡ true)
            × (at_last (λ a. at_first (λ b. turned (place_of pl) k (room i) a b) ((stars_of j).list (next k) i)) ((stars_of j).list k i) ≡ true)
        halves k i e = and_parts (abuts (place_of pl) k ((stars_of j).list k i))
            (at_last (λ a. at_first (λ b. turned (place_of pl) k (room i) a b) ((stars_of j).list (next k) i)) ((stars_of j).list k i)) e

    -- what passes is local, where the contacts are met
    near_local : Fits (stars_of j) (place_of pl) → near j pl ≡ true → Local (stars_of j) (place_of pl)
    unfolding stars_of
    near_local ft e =
        let r : Rest (stars_of j) (place_of pl) = near_rest e in
        record {
          shape = ft.shape;
          inside = ft.inside;
          thick = ft.thick;
          within = ft.within;
          meets = λ k i v h m. ft.meets k (room i) v h (named_known (stars_of j) k v (g.known k i v h m)) m;
          linked = r.linked;
          turns = r.turns;
          base = r.base;
          base_one = r.base_one;
        }

    -- what is local passes
    pub local_near : Local (stars_of j) (place_of pl) → near j pl ≡ true
    unfolding near side_ok stars_of
    local_near l =
        rw (mem_all (λ i. all (side_ok (stars_of j) (place_of pl) i) sides) (up_from 0 (length j)) (λ i m. mem_all (side_ok (stars_of j) (place_of pl) i) sides
        (λ k n. each k i (omega (arith, mem_up_from 0 (length j) i m)))))
        (eq-eqb (total (length j) one) 1 counted)
      where
        each : (k : Side) (i : ℕ) → i < length j → side_ok (stars_of j) (place_of pl) i k ≡ true
        each k i h =
            rw (linked_abuts (place_of pl) k ((stars_of j).list k i) (l.linked k i h))
            (test_last _ _ ((stars_of j).list k i) (λ a x. test_first _ _ ((stars_of j).list (next k) i) (λ b y. turns_turned (place_of pl) k (room i) a b y)
            x) (l.turns k i h))

        counted : total (length j) one ≡ 1
        counted =
            let (i, b) = l.base in
            total_one (length j) i one b.0 (true_one i (of_base i b)) (λ k h d. false_one k (λ e. d (l.base_one k i (base_of k h e) b)))

  -- THE LOCAL TEST GIVES THE DRAWING TEST'S ANSWER
  pub near_drawable : (z : Sizes) → 0 < length j → (f h : ℕ → ℕ) → Numbers (rules upright j z) f → Numbers (rules level j z) h
      → near j (plan_of j f h) ≡ drawable j (plan_of j f h)
  near_drawable z some_room f h nf nh = same_test (near j p) (drawable j p) forth back
    where
      p : Plan
      p = plan_of j f h

      ft : Fits (stars_of j) (place_of p)
      ft = plan_fits j z ok some_room f h nf nh

      forth : near j p ≡ true → drawable j p ≡ true
      forth e = good_drawable j ok p (plan_complete j f h) (good_plan j ok p (plan_complete j f h) (local_good (stars_of j) (place_of p) g (near_local p ft e)))

      back : drawable j p ≡ true → near j p ≡ true
      back e = local_near p (good_local (stars_of j) (place_of p) g (drawable_good j ok p (plan_complete j f h) some_room ft e))
