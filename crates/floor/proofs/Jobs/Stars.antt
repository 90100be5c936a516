-- One star: what test 5 says of it, and what it is taken apart at an entry. Assumes nothing.
use Rattle.std.specs.Prelude.{ℕ, suc, ◌+◌, ◌-◌, ◌%◌, ◌≤◌, ◌<◌, ◌≡◌, refl, Bool, true, false, cond, not, eqb}
use Rattle.std.proofs.Common.{sym, ap, ◌∙◌, arith, eqb-true, eq-eqb, ne_eqb}
use mathlib.Core.List.{[], ◌∷◌, ◌++◌, append-nil, Memᴰ}
use Rattle.std.proofs.Math.Decide.{dec_lt, ℕ_discrete}
use Rattle.std.proofs.lemmas.Bool.{eqb-false, not-true}
use Rattle.floor.specs.Lists.{all, any, pairwise}
use Rattle.floor.specs.Jobs.{Entry, Star, Link, links_to, links, changes, goes_on, star_ok, names, kind_of}
use Rattle.floor.specs.Lists.Laws.{count}
use Rattle.floor.proofs.Lists.Laws.{no_false, mem_any, and_left, and_right, and_parts, and_both, or_right, implied, bit_most, count_nil, count_cons}
use Rattle.floor.proofs.Lists.Laws.{count_append, mem_count, count_none, none_count, all_mem, mem_all}
use Rattle.floor.proofs.Jobs.Round.{restart_back, restart_mem, restart_count, links_all, links_count}
use Rattle.floor.specs.Jobs.Stars.{entry, named, of_kind, AtLeast, AtMost, Sorted, GoodStar}

-- where every kind is k or more, every kind is m or more for any m up to k
pub least_down : (k m : ℕ) (s : Star) → m ≤ k → AtLeast k s → AtLeast m s
least_down k m [] h a = tt
least_down k m (e ∷ s) h a = (omega (arith, a.0), least_down k m s h a.1)

-- where every kind is k or less, every kind is m or less for any m from k up
pub most_up : (k m : ℕ) (s : Star) → k ≤ m → AtMost k s → AtMost m s
most_up k m [] h a = tt
most_up k m (e ∷ s) h a = (omega (arith, a.0), most_up k m s h a.1)

-- where every kind of a star is k or less, so is the kind of each entry
most_mem : (k : ℕ) (s : Star) → AtMost k s → (e : Entry) → Memᴰ e s → e.kind ≤ k
most_mem k [] a e x'' = elim x'' [ ]
most_mem k (d ∷ s) a e (Memᴰ.head q) = rw q a.0
most_mem k (d ∷ s) a e (Memᴰ.tail m) = most_mem k s a.1 e m

-- where the kind of each entry is k or less, every kind of the star is
pub mem_most : (k : ℕ) (s : Star) → ((e : Entry) → Memᴰ e s → e.kind ≤ k) → AtMost k s
mem_most k [] h = tt
mem_most k (d ∷ s) h = (h d (Memᴰ.head refl), mem_most k s (λ e m. h e (Memᴰ.tail m)))

-- in a star that passes test 5 and has no kind over 3, the kind of each entry is at most 3
pub small_mem : (s : Star) → GoodStar s → (e : Entry) → Memᴰ e s → e.kind ≤ 3
small_mem s g = most_mem 3 s g.small

-- where some entry is of kind k, at least one is of that kind
pub kind_mem : (k : ℕ) (s : Star) (e : Entry) → Memᴰ e s → e.kind ≡ k → 1 ≤ of_kind k s
kind_mem k s e m q = mem_count (λ d. eqb d.kind k) s e m (eq-eqb e.kind k q)

-- none below the least, none above the most
pub least_none : (m k : ℕ) (s : Star) → k < m → AtLeast m s → of_kind k s ≡ 0
least_none m k [] h a = count_nil (λ (e : Entry). eqb e.kind k)
least_none m k (e ∷ s) h a =
    let q : eqb e.kind k ≡ false = ne_eqb e.kind k (λ z. omega (arith, a.0)) in
    let c : of_kind k (e ∷ s) ≡ 0 + of_kind k s = rw q at (count_cons (λ (e : Entry). eqb e.kind k) e s) in
    omega (arith, least_none m k s h a.1)

-- where every kind is m or less, no entry is of a kind above m
pub most_none : (m k : ℕ) (s : Star) → m < k → AtMost m s → of_kind k s ≡ 0
most_none m k [] h a = count_nil (λ (e : Entry). eqb e.kind k)
most_none m k (e ∷ s) h a =
    let q : eqb e.kind k ≡ false = ne_eqb e.kind k (λ z. omega (arith, a.0)) in
    let c : of_kind k (e ∷ s) ≡ 0 + of_kind k s = rw q at (count_cons (λ (e : Entry). eqb e.kind k) e s) in
    omega (arith, most_none m k s h a.1)

-- stars put together
pub least_join : (m : ℕ) (P Q : Star) → AtLeast m P → AtLeast m Q → AtLeast m (P ++ Q)
least_join m [] Q a b = b
least_join m (d ∷ P) Q a b = (a.0, least_join m P Q a.1 b)

-- two stars whose kinds never fall, none over k in the first and none below k in the second: put together they never fall either
sorted_join : (k : ℕ) (P Q : Star) → Sorted P → AtMost k P → AtLeast k Q → Sorted Q → Sorted (P ++ Q)
sorted_join k [] Q p m l q = q
sorted_join k (d ∷ P) Q p m l q = (least_join d.kind P Q p.0 (least_down k d.kind Q m.0 l), sorted_join k P Q p.1 m.1 l q)

-- the kind changes, or it does not, and where to
pub changes_no : (l : Link) → l.this.kind ≡ l.next.kind → changes l ≡ false
unfolding changes
changes_no l e = rw (eq-eqb l.this.kind l.next.kind e)

-- where an entry and the one that follows it are of two kinds, the kind changes
pub changes_yes : (l : Link) → (l.this.kind ≡ l.next.kind → ⊥) → changes l ≡ true
unfolding changes
changes_yes l n = rw (ne_eqb l.this.kind l.next.kind n)

-- where the kind does not change, the entry that follows is of the same kind
pub no_changes : (l : Link) → changes l ≡ false → l.this.kind ≡ l.next.kind
unfolding changes
no_changes l e = go (eqb l.this.kind l.next.kind) refl e
  where
    go : (b : Bool) → eqb l.this.kind l.next.kind ≡ b → not b ≡ false → l.this.kind ≡ l.next.kind
    go true q z = eqb-true l.this.kind l.next.kind q
    go false q z = no_false (sym z)

-- where the entry that follows has the next kind, 0 after 3, the kind goes on as it may
goes_on_lem : (l : Link) → l.next.kind ≡ (l.this.kind + 1) % 4 → goes_on l ≡ true
unfolding goes_on
goes_on_lem l e = or_right (not (changes l)) _ (eq-eqb l.next.kind ((l.this.kind + 1) % 4) e)

-- where the kind does not change, it goes on as it may
goes_stays : (l : Link) → changes l ≡ false → goes_on l ≡ true
unfolding goes_on
goes_stays l e = rw e

-- where the kind goes on as it may, and changes, the entry that follows has the next kind, 0 after 3
goes_to : (l : Link) → goes_on l ≡ true → changes l ≡ true → l.next.kind ≡ (l.this.kind + 1) % 4
unfolding goes_on
goes_to l h e = eqb-true l.next.kind ((l.this.kind + 1) % 4) (implied (changes l) _ h e)

-- how far the kinds rise along part of a star, from a on, with c changes: up to where they fall from 3 to 0, and behind that
record Climbed (a c : ℕ) (s : Star) : Type 0 where
  front : Star
  rest : Star
  whole : s ≡ front ++ rest
  low : AtLeast a front
  rises : Sorted front
  high : AtMost (a + c) front
  falls : Sorted rest
  under : AtMost (a + c - 4) rest
  none : a + c < 4 → rest ≡ []
  has_front : (m : ℕ) → a ≤ m → m < a + c → m ≤ 3 → 1 ≤ of_kind m front
  has_rest : (m : ℕ) → m + 4 < a + c → 1 ≤ of_kind m rest

-- one entry more, of the same kind or the one before
further : (d : Entry) (t : Star) (a c n : ℕ) → Climbed a n t → d.kind ≤ a → a ≤ suc d.kind → a + n ≡ d.kind + c → Climbed d.kind c (d ∷ t)
further d t a c n k h l e = record {
  front = d ∷ k.front;
  rest = k.rest;
  whole = ap (λ (r : Star). d ∷ r) k.whole;
  low = (omega arith, least_down a d.kind k.front h k.low);
  rises = (least_down a d.kind k.front h k.low, k.rises);
  high = (omega arith, rw e at k.high);
  falls = k.falls;
  under = rw e at k.under;
  none = λ z. k.none (omega arith);
  has_front = λ m x y z. front_of m x y z (ℕ_discrete m d.kind);
  has_rest = λ m z. k.has_rest m (omega arith);
}
  where
    front_of : (m : ℕ) → d.kind ≤ m → m < d.kind + c → m ≤ 3 → Dec (m ≡ d.kind) → 1 ≤ of_kind m (d ∷ k.front)
    front_of m x y z (yes q) = kind_mem m (d ∷ k.front) d (Memᴰ.head refl) (sym q)
    front_of m x y z (no q) =
        omega (arith, k.has_front m (omega arith) (omega arith) z, count_cons (λ (e : Entry). eqb e.kind m) d k.front)

-- one entry more, from which the kind falls from 3 to 0
beyond : (d : Entry) (t : Star) (a n : ℕ) → d.kind ≡ 3 → a ≡ 0 → n ≤ 3 → Climbed a n t → Climbed d.kind (suc n) (d ∷ t)
beyond d t a n e z h k = record {
  front = d ∷ [];
  rest = t;
  whole = refl;
  low = (omega arith, tt);
  rises = (tt, tt);
  high = (omega arith, tt);
  falls = rw same k.rises;
  under = rw (same, e) (most_up (a + n) (3 + suc n - 4) k.front (omega arith) k.high);
  none = λ l. absurd (omega arith);
  has_front = λ m x y l. kind_mem m (d ∷ []) d (Memᴰ.head refl) (omega arith);
  has_rest = λ m l. rw same (k.has_front m (omega arith) (omega arith) (omega arith));
}
  where
    same : t ≡ k.front
    same = k.whole ∙ ap (λ (r : Star). k.front ++ r) (k.none (omega arith)) ∙ append-nil k.front

-- a star whose kinds go on, from its first entry on
climb : (s : Star) (d back : Entry) (c : ℕ) → c ≤ 4 → AtMost 3 (d ∷ s) → all goes_on (links_to back (d ∷ s)) ≡ true → count changes (links_to back (d ∷ s)) ≡ c
    → Climbed d.kind c (d ∷ s)
unfolding links_to all
climb [] d back c h small ok e = record {
  front = d ∷ [];
  rest = [];
  whole = refl;
  low = (omega arith, tt);
  rises = (tt, tt);
  high = (omega arith, tt);
  falls = tt;
  under = tt;
  none = λ z. refl;
  has_front = λ m x y z. kind_mem m (d ∷ []) d (Memᴰ.head refl) (omega (arith, few));
  has_rest = λ m z. absurd (omega (arith, few, small.0));
}
  where
    few : c ≤ 1
    few = omega (
      arith,
      e,
      count_cons changes (record { this = d; next = back }) [],
      bit_most (changes (record { this = d; next = back })),
      count_nil changes,
    )
climb (e ∷ s) d back c h small ok q =
    let (now, later) = and_parts _ _ ok in
    go (changes link) refl now (climb s e back (count changes (links_to back (e ∷ s)))) later
  where
    link : Link
    link = record { this = d; next = e }

    n : ℕ
    n = count changes (links_to back (e ∷ s))

    up : goes_on link ≡ true → changes link ≡ true → c ≡ suc n → Climbed e.kind n (e ∷ s) → Dec (d.kind < 3) → Climbed d.kind c (d ∷ e ∷ s)
    up now x z k (yes l) =
        let g : e.kind ≡ (d.kind + 1) % 4 = goes_to link now x in
        further d (e ∷ s) e.kind c n k (omega arith) (omega arith) (omega arith)
    up now x z k (no l) =
        let g : e.kind ≡ (d.kind + 1) % 4 = goes_to link now x in
        rw z (beyond d (e ∷ s) e.kind n (omega (arith, small.0)) (omega (arith, small.0)) (omega arith) k)

    go : (b : Bool) → changes link ≡ b → goes_on link ≡ true
        → (n ≤ 4 → AtMost 3 (e ∷ s) → all goes_on (links_to back (e ∷ s)) ≡ true → n ≡ n → Climbed e.kind n (e ∷ s))
        → all goes_on (links_to back (e ∷ s)) ≡ true → Climbed d.kind c (d ∷ e ∷ s)
    go false x now below later =
        let z : count changes (link ∷ links_to back (e ∷ s)) ≡ 0 + n = rw x at (count_cons changes link (links_to back (e ∷ s))) in
        let y : d.kind ≡ e.kind = no_changes link x in
        further d (e ∷ s) e.kind c n (below (omega arith) small.1 later refl) (omega arith) (omega arith) (omega arith)
    go true x now below later =
        let z : count changes (link ∷ links_to back (e ∷ s)) ≡ 1 + n = rw x at (count_cons changes link (links_to back (e ∷ s))) in
        up now x (omega arith) (below (omega arith) small.1 later refl) (dec_lt d.kind 3)

-- kinds that never fall and of which none is missing go on, with as many changes as are left
climbs : (s : Star) (d back : Entry) → Sorted (d ∷ s) → AtMost 3 (d ∷ s) → ((m : ℕ) → d.kind ≤ m → m ≤ 3 → 1 ≤ of_kind m (d ∷ s)) → back.kind ≡ 0
    → (all goes_on (links_to back (d ∷ s)) ≡ true) × (count changes (links_to back (d ∷ s)) + d.kind ≡ 4)
unfolding links_to all
climbs [] d back o small has z =
    let three : d.kind ≡ 3 = go (dec_lt d.kind 3) in
    let l : Link = record { this = d; next = back } in
    let c : count changes (l ∷ []) ≡ 1 + count changes [] = rw (changes_yes l (λ q. omega arith)) at (count_cons changes l []) in
    (and_both _ _ (goes_on_lem l (omega arith)) refl, omega (arith, count_nil changes))
  where
    go : Dec (d.kind < 3) → d.kind ≡ 3
    go (yes l) = absurd (omega (arith, has 3 (omega arith) (omega arith), most_none d.kind 3 (d ∷ []) l (omega arith, tt)))
    go (no l) = omega (arith, small.0)
climbs (e ∷ s) d back o small has z = go (ℕ_discrete d.kind e.kind) (climbs s e back o.1 small.1)
  where
    link : Link
    link = record { this = d; next = e }

    later : (m : ℕ) → (d.kind ≡ m → ⊥) → d.kind ≤ m → m ≤ 3 → 1 ≤ of_kind m (e ∷ s)
    later m ne l h =
        let c : of_kind m (d ∷ e ∷ s) ≡ 0 + of_kind m (e ∷ s) = rw (ne_eqb d.kind m ne) at (count_cons (λ (x : Entry). eqb x.kind m) d (e ∷ s)) in
        omega (arith, has m l h)

    go : Dec (d.kind ≡ e.kind) → (((m : ℕ) → e.kind ≤ m → m ≤ 3 → 1 ≤ of_kind m (e ∷ s)) → back.kind ≡ 0
        → (all goes_on (links_to back (e ∷ s)) ≡ true) × (count changes (links_to back (e ∷ s)) + e.kind ≡ 4))
        → (all goes_on (link ∷ links_to back (e ∷ s)) ≡ true) × (count changes (link ∷ links_to back (e ∷ s)) + d.kind ≡ 4)
    go (yes q) below =
        let (a, b) = below (λ m l h. same m l h (ℕ_discrete e.kind m)) z in
        let x : changes link ≡ false = changes_no link q in
        let c : count changes (link ∷ links_to back (e ∷ s)) ≡ 0 + count changes (links_to back (e ∷ s)) = rw x at (count_cons changes link
        (links_to back (e ∷ s))) in
        (and_both _ _ (goes_stays link x) a, omega arith)
      where
        same : (m : ℕ) → e.kind ≤ m → m ≤ 3 → Dec (e.kind ≡ m) → 1 ≤ of_kind m (e ∷ s)
        same m l h (yes w) = kind_mem m (e ∷ s) e (Memᴰ.head refl) w
        same m l h (no w) = later m (λ r. w (sym q ∙ r)) (omega arith) h
    go (no q) below =
        let one : e.kind ≡ suc d.kind = next (dec_lt (suc d.kind) e.kind) in
        let (a, b) = below (λ m l h. later m (λ r. omega arith) (omega arith) h) z in
        let c : count changes (link ∷ links_to back (e ∷ s)) ≡ 1 + count changes (links_to back (e ∷ s)) = rw (changes_yes link q) at (count_cons changes link
        (links_to back (e ∷ s))) in
        (and_both _ _ (goes_on_lem link (omega (arith, small.1.0))) a, omega arith)
      where
        next : Dec (suc d.kind < e.kind) → e.kind ≡ suc d.kind
        next (yes l) =
            absurd
            (omega (
              arith,
              small.1.0,
              later (suc d.kind) (λ r. omega arith) (omega arith) (omega (arith, small.1.0)),
              least_none e.kind (suc d.kind) (e ∷ s) l (omega arith, o.1.0),
            ))
        next (no l) = omega (arith, o.0.0)

-- a sorted star with every kind begins above, and ends at the right
pub first_above : (d : Entry) (s : Star) → Sorted (d ∷ s) → 1 ≤ of_kind 0 (d ∷ s) → d.kind ≡ 0
first_above d s o h = go (dec_lt 0 d.kind)
  where
    go : Dec (0 < d.kind) → d.kind ≡ 0
    go (yes l) = absurd (omega (arith, least_none d.kind 0 (d ∷ s) l (omega arith, o.0)))
    go (no l) = omega arith

-- the last of a star that begins with d
abbrev pub last_of : Entry → Star → Entry
last_of d [] = d
last_of d (e ∷ s) = last_of e s

-- where kinds never fall, none is over the kind of the last entry
sorted_top : (d : Entry) (s : Star) → Sorted (d ∷ s) → AtMost (last_of d s).kind (d ∷ s)
sorted_top d [] o = (omega arith, tt)
sorted_top d (e ∷ s) o = let k : AtMost (last_of e s).kind (e ∷ s) = sorted_top e s o.1 in (omega (arith, k.0, o.0.0), k)

-- where kinds never fall and some entry stands at the right, the last entry's kind is 3 or more
pub last_right : (d : Entry) (s : Star) → Sorted (d ∷ s) → 1 ≤ of_kind 3 (d ∷ s) → 3 ≤ (last_of d s).kind
last_right d s o h = go (dec_lt (last_of d s).kind 3)
  where
    go : Dec ((last_of d s).kind < 3) → 3 ≤ (last_of d s).kind
    go (yes l) = absurd (omega (arith, most_none (last_of d s).kind 3 (d ∷ s) l (sorted_top d s o)))
    go (no l) = omega arith

-- no neighbour twice: each is named once
abbrev pub different : Entry → Entry → Bool
different d e = not (eqb d.to e.to)

-- where no two entries name one neighbour, each neighbour is named once
pub once_of : (s : Star) → pairwise different s ≡ true → (e : Entry) → Memᴰ e s → named e.to s ≡ 1
unfolding pairwise
once_of [] h e x'' = elim x'' [ ]
once_of (d ∷ s) h e (Memᴰ.head q) =
    let c : named d.to (d ∷ s) ≡ 1 + named d.to s = rw (eq-eqb d.to d.to refl) at (count_cons (λ (x : Entry). eqb x.to d.to) d s) in
    rw q (omega (arith, none_count (λ (x : Entry). eqb x.to d.to) s (λ x m. other x (all_mem (different d) s (and_left _ _ h) x m))))
  where
    other : (x : Entry) → different d x ≡ true → eqb x.to d.to ≡ false
    other x n = ne_eqb x.to d.to (λ z. eqb-false d.to x.to (not-true (eqb d.to x.to) n) (sym z))
once_of (d ∷ s) h e (Memᴰ.tail m) =
    let f : eqb d.to e.to ≡ false = not-true (eqb d.to e.to) (all_mem (different d) s (and_left _ _ h) e m) in
    let c : named e.to (d ∷ s) ≡ 0 + named e.to s = rw f at (count_cons (λ (x : Entry). eqb x.to e.to) d s) in
    omega (arith, once_of s (and_right (all (different d) s) _ h) e m)

-- where each neighbour is named once, no two entries name one neighbour
pub of_once : (s : Star) → ((e : Entry) → Memᴰ e s → named e.to s ≡ 1) → pairwise different s ≡ true
unfolding pairwise
of_once [] h = refl
of_once (d ∷ s) h = and_both _ _ (mem_all (different d) s apart) (of_once s rest)
  where
    first : named d.to s ≡ 0
    first =
        let c : named d.to (d ∷ s) ≡ 1 + named d.to s = rw (eq-eqb d.to d.to refl) at (count_cons (λ (x : Entry). eqb x.to d.to) d s) in
        omega (arith, h d (Memᴰ.head refl))

    apart : (e : Entry) → Memᴰ e s → different d e ≡ true
    apart e m = rw (ne_eqb d.to e.to (λ z. eqb-false e.to d.to (count_none (λ (x : Entry). eqb x.to d.to) s e m first) (sym z)))

    rest : (e : Entry) → Memᴰ e s → named e.to s ≡ 1
    rest e m =
        omega (
          arith,
          h e (Memᴰ.tail m),
          count_cons (λ (x : Entry). eqb x.to e.to) d s,
          mem_count (λ (x : Entry). eqb x.to e.to) s e m
              (eq-eqb e.to e.to refl),
        )

-- TEST 5 SAYS that the star, started elsewhere, has kinds that never fall, and none missing
pub good_of : (s : Star) → star_ok s ≡ true → AtMost 3 s → GoodStar s
unfolding star_ok links
good_of s h small =
    let (ab, c) = and_parts _ _ h in
    let (a, b) = and_parts _ _ ab in
    go s small a (eqb-true (count changes (links s)) 4 b) (once_of s c)
  where
    go : (s : Star) → AtMost 3 s → all goes_on (links s) ≡ true → count changes (links s) ≡ 4 → ((e : Entry) → Memᴰ e s → named e.to s ≡ 1) → GoodStar s
    go [] small a b once = absurd (omega (arith, count_nil changes))
    go (d ∷ s) small a b once = made (climb s d d 4 (omega arith) small a b)
      where
        made : Climbed d.kind 4 (d ∷ s) → GoodStar (d ∷ s)
        made k = record {
          round = k.rest ++ k.front;
          restarts = record { front = k.front; rest = k.rest; is_one = k.whole; is_other = refl };
          sorted = sorted_join d.kind k.rest k.front k.falls (most_up (d.kind + 4 - 4) d.kind k.rest (omega arith) k.under) k.low
              k.rises;
          small = small;
          has = λ m h. rw k.whole (has_of m h (dec_lt m d.kind));
          once = once;
        }
          where
            has_of : (m : ℕ) → m ≤ 3 → Dec (m < d.kind) → 1 ≤ of_kind m (k.front ++ k.rest)
            has_of m h (yes l) = omega (arith, k.has_rest m (omega arith), count_append (λ (e : Entry). eqb e.kind m) k.front k.rest)
            has_of m h (no l) =
                omega (arith, k.has_front m (omega arith) (omega arith) h, count_append (λ (e : Entry). eqb e.kind m) k.front k.rest)

-- what a good star has, it has wherever it starts
pub round_has : (s : Star) (g : GoodStar s) (k : ℕ) → k ≤ 3 → 1 ≤ of_kind k g.round
round_has s g k h = omega (arith, g.has k h, restart_count g.restarts (λ (e : Entry). eqb e.kind k))

-- AND THE WAY BACK
pub of_good : (s : Star) → GoodStar s → star_ok s ≡ true
unfolding star_ok links
of_good s g =
    let (a, b) = go g.round g.sorted (round_has s g) (mem_most 3 g.round (λ e m. small_mem s g e (restart_mem (restart_back g.restarts) m))) in
    and_both _ _ (and_both _ _ (links_all g.restarts goes_on ∙ a) (eq-eqb (count changes (links s)) 4 (links_count g.restarts changes ∙ b)))
    (of_once s g.once)
  where
    go : (t : Star) → Sorted t → ((k : ℕ) → k ≤ 3 → 1 ≤ of_kind k t) → AtMost 3 t → (all goes_on (links t) ≡ true) × (count changes (links t) ≡ 4)
    go [] o has small = absurd (omega (arith, has 0 (omega arith), count_nil (λ (e : Entry). eqb e.kind 0)))
    go (d ∷ t) o has small =
        let z : d.kind ≡ 0 = first_above d t o (has 0 (omega arith)) in
        let (a, b) = climbs t d d o small (λ m l h. has m h) z in
        (a, omega arith)

-- A STAR TAKEN APART at the entry of v
pub kind_self : (v k : ℕ) (s : Star) → of_kind k (entry v k ∷ s) ≡ 1 + of_kind k s
kind_self v k s = let e : eqb k k ≡ true = eq-eqb k k refl in rw e at (count_cons (λ (d : Entry). eqb d.kind k) (entry v k) s)

-- an entry of another kind in front does not change how many are of kind m
pub kind_other : (v k m : ℕ) (s : Star) → (k ≡ m → ⊥) → of_kind m (entry v k ∷ s) ≡ of_kind m s
kind_other v k m s ne =
    let e : eqb k m ≡ false = ne_eqb k m ne in
    let c : of_kind m (entry v k ∷ s) ≡ 0 + of_kind m s = rw e at (count_cons (λ (d : Entry). eqb d.kind m) (entry v k) s) in
    omega arith

-- a neighbour that some entry names is named at least once
named_mem : (v : ℕ) (s : Star) (e : Entry) → Memᴰ e s → e.to ≡ v → 1 ≤ named v s
named_mem v s e m q = mem_count (λ d. eqb d.to v) s e m (eq-eqb e.to v q)

-- kind_of finds it
pub kind_of_mid : (P : Star) (v k : ℕ) (Q : Star) → named v P ≡ 0 → kind_of (P ++ entry v k ∷ Q) v ≡ k
unfolding kind_of
kind_of_mid [] v k Q h = let e : eqb v v ≡ true = eq-eqb v v refl in rw e
kind_of_mid (d ∷ P) v k Q h = go (eqb d.to v) refl (kind_of_mid P v k Q)
  where
    go : (b : Bool) → eqb d.to v ≡ b → (named v P ≡ 0 → kind_of (P ++ entry v k ∷ Q) v ≡ k)
        → cond (eqb d.to v) d.kind (kind_of (P ++ entry v k ∷ Q) v) ≡ k
    go true e below = absurd (omega (arith, named_mem v (d ∷ P) d (Memᴰ.head refl) (eqb-true d.to v e)))
    go false e below = rw e (below (omega (arith, count_cons (λ (d : Entry). eqb d.to v) d P)))

-- and what it finds is a member
pub kind_of_mem : (s : Star) (v : ℕ) → names s v ≡ true → Memᴰ (entry v (kind_of s v)) s
unfolding names any kind_of
kind_of_mem [] v h = no_false h
kind_of_mem (d ∷ s) v h = go (eqb d.to v) refl (kind_of_mem s v)
  where
    go : (b : Bool) → eqb d.to v ≡ b → (any (λ (e : Entry). eqb e.to v) s ≡ true → Memᴰ (entry v (kind_of s v)) s)
        → Memᴰ (entry v (cond (eqb d.to v) d.kind (kind_of s v))) (d ∷ s)
    go true e below = let a : d.to ≡ v = eqb-true d.to v e in rw e (Memᴰ.head (λ i. record { to = sym a i; kind = d.kind }))
    go false e below = rw e (Memᴰ.tail (below (rw e at h)))

-- a star with an entry for v names v
pub mem_names : (s : Star) (v k : ℕ) → Memᴰ (entry v k) s → names s v ≡ true
unfolding names
mem_names s v k m = mem_any (λ (e : Entry). eqb e.to v) s (entry v k) m (eq-eqb v v refl)
