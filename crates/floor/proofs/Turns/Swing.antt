-- One star when the entry at a list's end takes the next kind, or the kind before, where it stands: it passes test 5 again, and turning the entry back gives
-- the same star.
-- Assumes nothing.
use Rattle.std.specs.Prelude.{ℕ, zero, suc, ◌+◌, ◌≤◌, ◌≡◌, refl, ◌⊎◌, Bool, true, false, cond, not, ◌||◌, length, eqb}
use Rattle.std.proofs.Common.{sym, ap, ◌∙◌, inl, inr, length-append, arith, eq-eqb, ne_eqb}
use mathlib.Core.List.Memᴰ
use mathlib.Core.List.{List, [], ◌∷◌, ◌++◌, map, append-nil, Memᴰ}
use Rattle.std.proofs.lemmas.List.{length-map}
use Rattle.std.proofs.Math.Decide.{ℕ_discrete}
use Rattle.std.proofs.lemmas.Bool.{eqb-false}
use Rattle.floor.specs.Lists.{any, keep}
use Rattle.floor.specs.Lists.Laws.{bit, count}
use Rattle.floor.proofs.Lists.Laws.{Apart, apart_at, count_nil, count_cons, count_append, mem_count, count_none}
use Rattle.floor.specs.Jobs.{Entry, Star, Link, links_to, links, changes, Restarted, kind_of, list_of}
use Rattle.floor.proofs.Jobs.Round.{restart_none, restart_back, restart_twice, restart_mem, restart_count, restart_map, links_any}
use Rattle.floor.specs.Jobs.Stars.{entry, named, of_kind, AtLeast, AtMost, Sorted}
use Rattle.floor.proofs.Jobs.Stars.{least_down, least_join, most_up, least_none, most_none}
use Rattle.floor.specs.Jobs.Stars.{GoodStar}
use Rattle.floor.proofs.Jobs.Stars.{mem_most, small_mem, kind_self, kind_other, kind_mem, kind_of_mid, changes_no, changes_yes, first_above}
use Rattle.floor.proofs.Jobs.Stars.{last_right}
use Rattle.floor.proofs.Jobs.Straight.{last_behind, straight, straight_restarts, straight_is, straight_sorted, straight_has}
use Rattle.floor.specs.Turns.{turned_kind, with_kind, ends_at, is_last}

-- order
least_strict : (k : ℕ) (s : Star) → AtLeast k s → of_kind k s ≡ 0 → AtLeast (suc k) s
least_strict k [] a h = tt
least_strict k (e ∷ s) a h =
    let q : eqb e.kind k ≡ false = count_none (λ (e : Entry). eqb e.kind k) (e ∷ s) e (Memᴰ.head refl) h in
    (omega (arith, a.0, eqb-false e.kind k q), least_strict k s a.1 (omega (arith, count_cons (λ (e : Entry). eqb e.kind k) e s)))

-- where every kind is at most k + 1 and none is k + 1, every kind is at most k
most_strict : (k : ℕ) (s : Star) → AtMost (suc k) s → of_kind (suc k) s ≡ 0 → AtMost k s
most_strict k [] a h = tt
most_strict k (e ∷ s) a h =
    let q : eqb e.kind (suc k) ≡ false = count_none (λ (e : Entry). eqb e.kind (suc k)) (e ∷ s) e (Memᴰ.head refl) h in
    (omega (arith, a.0, eqb-false e.kind (suc k) q), most_strict k s a.1 (omega (arith, count_cons (λ (e : Entry). eqb e.kind (suc k)) e s)))

-- a star with no kind below 4 and none over 3 is empty
none_above : (s : Star) → AtLeast 4 s → AtMost 3 s → s ≡ []
none_above [] a b = refl
none_above (e ∷ s) a b = absurd (omega (arith, a.0, b.0))

-- a star with no kind over 0 and none of kind 0 is empty
none_below : (s : Star) → AtMost 0 s → of_kind 0 s ≡ 0 → s ≡ []
none_below [] a b = refl
none_below (e ∷ s) a b = absurd (omega (arith, a.0, kind_mem 0 (e ∷ s) e (Memᴰ.head refl) (omega (arith, a.0))))

-- where every kind of a star is m or more, so is that of an entry in it, and every kind behind that entry
least_mid : (m : ℕ) (P : Star) (e : Entry) (Q : Star) → AtLeast m (P ++ e ∷ Q) → (m ≤ e.kind) × AtLeast m Q
least_mid m [] e Q a = a
least_mid m (d ∷ P) e Q a = least_mid m P e Q a.1

-- where every kind of a star is m or more, it stays so when one entry takes another kind of m or more
least_change : (m : ℕ) (P : Star) (d e : Entry) (Q : Star) → m ≤ e.kind → AtLeast m (P ++ d ∷ Q) → AtLeast m (P ++ e ∷ Q)
least_change m [] d e Q h a = (h, a.1)
least_change m (c ∷ P) d e Q h a = (a.0, least_change m P d e Q h a.1)

-- where every kind of a star is m or more, so is every kind of its front
least_front : (m : ℕ) (P Q : Star) → AtLeast m (P ++ Q) → AtLeast m P
least_front m [] Q a = tt
least_front m (d ∷ P) Q a = (a.0, least_front m P Q a.1)

-- where every kind of a star is at most m, so is every kind of its back
most_back : (m : ℕ) (P Q : Star) → AtMost m (P ++ Q) → AtMost m Q
most_back m [] Q a = a
most_back m (d ∷ P) Q a = most_back m P Q a.1

-- where kinds never fall, no entry before another has a higher kind
sorted_low : (P : Star) (e : Entry) (Q : Star) → Sorted (P ++ e ∷ Q) → AtMost e.kind P
sorted_low [] e Q h = tt
sorted_low (d ∷ P) e Q h = ((least_mid d.kind P e Q h.0).0, sorted_low P e Q h.1)

-- where kinds never fall, no entry behind another has a lower kind
sorted_high : (P : Star) (e : Entry) (Q : Star) → Sorted (P ++ e ∷ Q) → AtLeast e.kind Q
sorted_high [] e Q h = h.0
sorted_high (d ∷ P) e Q h = sorted_high P e Q h.1

-- where kinds never fall, no entry behind the second of two that follow one another has a lower kind than it
sorted_next : (P : Star) (d e : Entry) (Q : Star) → Sorted (P ++ d ∷ e ∷ Q) → AtLeast e.kind Q
sorted_next [] d e Q h = h.1.0
sorted_next (c ∷ P) d e Q h = sorted_next P d e Q h.1

-- where kinds never fall along a star, they never fall behind any entry of it
sorted_back : (P : Star) (e : Entry) (Q : Star) → Sorted (P ++ e ∷ Q) → Sorted Q
sorted_back [] e Q h = h.1
sorted_back (c ∷ P) e Q h = sorted_back P e Q h.1

-- where kinds never fall along a star, they never fall along its front
sorted_front : (P Q : Star) → Sorted (P ++ Q) → Sorted P
sorted_front [] Q h = tt
sorted_front (d ∷ P) Q h = (least_front d.kind P Q h.0, sorted_front P Q h.1)

-- an entry replaced by one whose kind is no lower than those before and no higher than those behind: kinds still never fall
sorted_stay : (P : Star) (d e : Entry) (Q : Star) → Sorted (P ++ d ∷ Q) → AtMost e.kind P → AtLeast e.kind Q → Sorted (P ++ e ∷ Q)
sorted_stay [] d e Q h a b = (b, h.1)
sorted_stay (c ∷ P) d e Q h a b = (least_change c.kind P d e Q a.0 h.0, sorted_stay P d e Q h.1 a.1 b)

-- an entry of kind 3 at the end of a star, whose kinds never fall and are at most 3: kinds still never fall
sorted_end : (Q : Star) (v : ℕ) → Sorted Q → AtMost 3 Q → Sorted (Q ++ entry v 3 ∷ [])
sorted_end [] v h a = (tt, tt)
sorted_end (d ∷ Q) v h a = (least_join d.kind Q (entry v 3 ∷ []) h.0 (a.0, tt), sorted_end Q v h.1 a.1)

-- every kind is 0 or more
least_zero : (s : Star) → AtLeast 0 s
least_zero [] = tt
least_zero (e ∷ s) = (omega arith, least_zero s)

-- members and counts of a star with one entry put in
count_mid : (p : Entry → Bool) (P : Star) (e : Entry) (Q : Star) → count p (P ++ e ∷ Q) ≡ bit (p e) + count p (P ++ Q)
count_mid p P e Q = omega (arith, count_append p P (e ∷ Q), count_cons p e Q, count_append p P Q)

-- the entry put in is in the star
mem_mid : (P : Star) (e : Entry) (Q : Star) → Memᴰ e (P ++ e ∷ Q)
mem_mid P e Q = Memᴰ.append_right P (Memᴰ.head refl)

-- each other entry is in the star
mem_wide : (P : Star) (e : Entry) (Q : Star) (d : Entry) → Memᴰ d (P ++ Q) → Memᴰ d (P ++ e ∷ Q)
mem_wide P e Q d m = go (Memᴰ.append_cases P m)
  where
    go : Memᴰ d P ⊎ Memᴰ d Q → Memᴰ d (P ++ e ∷ Q)
    go (inl a) = Memᴰ.append_left (e ∷ Q) a
    go (inr b) = Memᴰ.append_right P (Memᴰ.tail b)

-- an entry of the star is the one put in, or one of the others
mem_cases : (P : Star) (e : Entry) (Q : Star) (d : Entry) → Memᴰ d (P ++ e ∷ Q) → (d ≡ e) ⊎ Memᴰ d (P ++ Q)
mem_cases P e Q d m = go (Memᴰ.append_cases P m)
  where
    two : (d ≡ e) ⊎ Memᴰ d Q → (d ≡ e) ⊎ Memᴰ d (P ++ Q)
    two (inl a) = inl a
    two (inr b) = inr (Memᴰ.append_right P b)

    go : Memᴰ d P ⊎ Memᴰ d (e ∷ Q) → (d ≡ e) ⊎ Memᴰ d (P ++ Q)
    go (inl a) = inr (Memᴰ.append_left Q a)
    go (inr b) = two (Memᴰ.cases_cons b)

-- how long a list of one kind is
pub length_list_of : (s : Star) (k : ℕ) → length (list_of s k) ≡ of_kind k s
unfolding list_of
length_list_of s k = length-map (keep (λ e. eqb e.kind k) s) (λ e. e.to)

-- V IS LAST OF ITS LIST, once round a star that is taken apart at v
pub last_restarted : {s u : Star} → Restarted s u → (v : ℕ) → is_last s v ≡ is_last u v
unfolding is_last
last_restarted r v = links_any r (ends_at v)

-- whether the kind changes behind v does not hang on entries in front that do not name v
pass_by : (v : ℕ) (back : Entry) (P Q : Star) → named v P ≡ 0 → any (ends_at v) (links_to back (P ++ Q)) ≡ any (ends_at v) (links_to back Q)
unfolding any links_to ends_at
pass_by v back [] Q h = refl
pass_by v back (d ∷ P) Q h =
    let e : eqb d.to v ≡ false = count_none (λ d. eqb d.to v) (d ∷ P) d (Memᴰ.head refl) h in
    let c : named v P ≡ 0 = omega (arith, count_cons (λ (d : Entry). eqb d.to v) d P) in
    rw e (pass_by v back P Q c)

-- where no entry names v, the kind changes behind v nowhere
not_there : (v : ℕ) (back : Entry) (Q : Star) → named v Q ≡ 0 → any (ends_at v) (links_to back Q) ≡ false
unfolding any links_to ends_at
not_there v back [] h = refl
not_there v back (d ∷ Q) h =
    let e : eqb d.to v ≡ false = count_none (λ d. eqb d.to v) (d ∷ Q) d (Memᴰ.head refl) h in
    let c : named v Q ≡ 0 = omega (arith, count_cons (λ (d : Entry). eqb d.to v) d Q) in
    rw e (not_there v back Q c)

-- where something follows, and where nothing does
last_then : (P : Star) (v k : ℕ) (e : Entry) (Q : Star) (back : Entry) → named v P ≡ 0 → named v (e ∷ Q) ≡ 0 → k ≤ e.kind → AtLeast e.kind Q
    → any (ends_at v) (links_to back (P ++ entry v k ∷ e ∷ Q)) ≡ eqb (of_kind k (e ∷ Q)) 0
unfolding any links_to ends_at
last_then P v k e Q back p q l a =
    pass_by v back P (entry v k ∷ e ∷ Q) p ∙ rw (eq-eqb v v refl, not_there v back (e ∷ Q) q) (go (ℕ_discrete k e.kind))
  where
    link : Link
    link = record { this = entry v k; next = e }

    go : Dec (k ≡ e.kind) → (changes link || false) ≡ eqb (of_kind k (e ∷ Q)) 0
    go (yes z) =
        rw (changes_no link z) (sym (ne_eqb (of_kind k (e ∷ Q)) 0 (λ w. omega (arith, kind_mem k (e ∷ Q) e (Memᴰ.head refl) (sym z)))))
    go (no z) =
        rw (changes_yes link z) (sym (eq-eqb (of_kind k (e ∷ Q)) 0 (least_none e.kind k (e ∷ Q) (omega (arith, z)) (omega arith, a))))

-- v at the end of a star, followed by another kind, is last of its list exactly if no entry behind is of its kind
last_end : (P : Star) (v k : ℕ) (back : Entry) → named v P ≡ 0 → (k ≡ back.kind → ⊥)
    → any (ends_at v) (links_to back (P ++ entry v k ∷ [])) ≡ eqb (of_kind k []) 0
unfolding any links_to ends_at
last_end P v k back p ne =
    pass_by v back P (entry v k ∷ []) p
    ∙ rw (eq-eqb v v refl, changes_yes (record { this = entry v k; next = back }) ne, count_nil (λ (e : Entry). eqb e.kind k))

-- a neighbour not named again behind its entry is last of its list exactly if no entry behind is of its kind
pub last_mid : (P : Star) (v k : ℕ) (Q : Star) → Sorted (P ++ entry v k ∷ Q) → 1 ≤ of_kind 0 (P ++ entry v k ∷ Q) → 1 ≤ of_kind 3 (P ++ entry v k ∷ Q)
    → named v P ≡ 0 → named v Q ≡ 0 → is_last (P ++ entry v k ∷ Q) v ≡ eqb (of_kind k Q) 0
unfolding is_last links
last_mid [] v k [] o a b p q = absurd (omega (arith, first_above (entry v k) [] o a, last_right (entry v k) [] o b))
last_mid [] v k (e ∷ Q) o a b p q = last_then [] v k e Q (entry v k) p q o.0.0 o.1.0
last_mid (d ∷ P) v k [] o a b p q =
    let z : d.kind ≡ 0 = first_above d (P ++ entry v k ∷ []) o a in
    let l : 3 ≤ k = rw (last_behind d P (entry v k) []) at (last_right d (P ++ entry v k ∷ []) o b) in
    last_end (d ∷ P) v k d p (λ w. omega arith)
last_mid (d ∷ P) v k (e ∷ Q) o a b p q =
    let h : AtLeast k (e ∷ Q) = sorted_high (d ∷ P) (entry v k) (e ∷ Q) o in
    last_then (d ∷ P) v k e Q d p q h.0 (sorted_next (d ∷ P) (entry v k) e Q o)

-- v's kind changed, where it stands
abbrev change : ℕ → ℕ → Entry → Entry
change v t e = cond (eqb e.to v) (record { to = v; kind = t }) e

-- a star that does not name v stays as it is when v's kind is changed
change_none : (v t : ℕ) (P : Star) → named v P ≡ 0 → map (change v t) P ≡ P
change_none v t [] h = refl
change_none v t (d ∷ P) h =
    let e : eqb d.to v ≡ false = count_none (λ d. eqb d.to v) (d ∷ P) d (Memᴰ.head refl) h in
    let c : named v P ≡ 0 = omega (arith, count_cons (λ (d : Entry). eqb d.to v) d P) in
    rw (e, change_none v t P c)

-- v's kind changed changes the one entry that names v
change_mid : (P : Star) (v k t : ℕ) (Q : Star) → named v P ≡ 0 → named v Q ≡ 0 → map (change v t) (P ++ entry v k ∷ Q) ≡ P ++ entry v t ∷ Q
change_mid [] v k t Q p q = let e : eqb v v ≡ true = eq-eqb v v refl in rw (e, change_none v t Q q)
change_mid (d ∷ P) v k t Q p q =
    let e : eqb d.to v ≡ false = count_none (λ d. eqb d.to v) (d ∷ P) d (Memᴰ.head refl) p in
    let c : named v P ≡ 0 = omega (arith, count_cons (λ (d : Entry). eqb d.to v) d P) in
    rw (e, change_mid P v k t Q c q)

-- v's kind becomes t in the one entry that names v, and every other entry stays
with_kind_mid : (P : Star) (v k t : ℕ) (Q : Star) → named v P ≡ 0 → named v Q ≡ 0 → with_kind (P ++ entry v k ∷ Q) v t ≡ P ++ entry v t ∷ Q
unfolding with_kind
with_kind_mid P v k t Q p q = change_mid P v k t Q p q

-- a star started elsewhere, with v's kind changed, is the star with v's kind changed, started elsewhere
pub restart_turned : {s u : Star} → Restarted s u → (v t : ℕ) → Restarted (with_kind s v t) (with_kind u v t)
unfolding with_kind
restart_turned r v t = restart_map r (change v t)

-- v stands last (true) or first (false) of the longer list, which has the shorter one besides
abbrev pub Ended : Bool → List ℕ → List ℕ → ℕ → Type 0
Ended true long short v = long ≡ short ++ v ∷ []
Ended false long short v = long ≡ v ∷ short

-- of kind k none stand behind (true), or none before (false)
abbrev Free : Bool → Star → Star → ℕ → Type 0
Free true P Q k = of_kind k Q ≡ 0
Free false P Q k = of_kind k P ≡ 0

-- the entries that pass a test, of two stars one behind the other, are those of the first and then those of the second
keep_append : (p : Entry → Bool) (P Q : Star) → keep p (P ++ Q) ≡ keep p P ++ keep p Q
unfolding keep
keep_append p [] Q = refl
keep_append p (d ∷ P) Q = go (p d) refl (keep_append p P Q)
  where
    go : (b : Bool) → p d ≡ b → keep p (P ++ Q) ≡ keep p P ++ keep p Q → cond (p d) (d ∷ keep p (P ++ Q)) (keep p (P ++ Q)) ≡ cond (p d) (d ∷ keep p P)
        (keep p P) ++ keep p Q
    go true e below = rw (e, below)
    go false e below = rw (e, below)

-- the neighbours along two stars, one behind the other, are those of the first and then those of the second
map_append : (P Q : Star) → map (λ (e : Entry). e.to) (P ++ Q) ≡ map (λ (e : Entry). e.to) P ++ map (λ (e : Entry). e.to) Q
map_append [] Q = refl
map_append (d ∷ P) Q = ap (λ (l : List ℕ). d.to ∷ l) (map_append P Q)

-- the list of a kind along two stars, one behind the other, is that of the first and then that of the second
list_of_append : (P Q : Star) (k : ℕ) → list_of (P ++ Q) k ≡ list_of P k ++ list_of Q k
unfolding list_of
list_of_append P Q k = rw (keep_append (λ e. eqb e.kind k) P Q, map_append)

-- the list of an entry's kind has those before it, its neighbour, then those behind it
list_of_mid : (P : Star) (v k : ℕ) (Q : Star) → list_of (P ++ entry v k ∷ Q) k ≡ list_of P k ++ v ∷ list_of Q k
unfolding list_of keep
list_of_mid P v k Q =
    let e : eqb k k ≡ true = eq-eqb k k refl in
    let a : keep (λ e. eqb e.kind k) (P ++ entry v k ∷ Q) ≡ keep (λ e. eqb e.kind k) P ++ keep (λ e. eqb e.kind k) (entry v k ∷ Q) =
    keep_append (λ e. eqb e.kind k) P (entry v k ∷ Q) in
    rw (a, map_append, e)

-- where no entry is of a kind, the list of that kind is empty
list_of_none : (P : Star) (k : ℕ) → of_kind k P ≡ 0 → list_of P k ≡ []
list_of_none P k h = go (list_of P k) (length_list_of P k ∙ h)
  where
    go : (l : List ℕ) → length l ≡ 0 → l ≡ []
    go [] e = refl
    go (x ∷ l) e = absurd (omega arith)

-- what an entry put in does to the lists
put_end : (l : Bool) (P Q : Star) (v k : ℕ) → Free l P Q k → Ended l (list_of (P ++ entry v k ∷ Q) k) (list_of (P ++ Q) k) v
put_end true P Q v k h = rw (list_of_mid P v k Q, list_of_append P Q k, list_of_none Q k h, append-nil (list_of P k))
put_end false P Q v k h = rw (list_of_mid P v k Q, list_of_append P Q k, list_of_none P k h)

-- an entry put in leaves the lists of the other kinds as they were
put_other : (P Q : Star) (v k c : ℕ) → (k ≡ c → ⊥) → list_of (P ++ entry v k ∷ Q) c ≡ list_of (P ++ Q) c
unfolding list_of keep
put_other P Q v k c h =
    let e : eqb k c ≡ false = ne_eqb k c h in
    rw (keep_append (λ e. eqb e.kind c) P (entry v k ∷ Q), keep_append (λ e. eqb e.kind c) P Q, e)

-- THE TURNED STAR, and what becomes of its lists, as they stand round the room
pub record Swing (s : Star) (v k t : ℕ) (l : Bool) : Type 0 where
  pub star : Star
  pub turns : with_kind s v t ≡ star
  pub back : with_kind star v k ≡ s
  pub good : GoodStar star
  pub kind : kind_of star v ≡ t
  pub long : length star ≡ length s
  pub two : 2 ≤ of_kind t star
  pub counts : (w : ℕ) → named w star ≡ named w s
  pub into : (e : Entry) → Memᴰ e star → (e ≡ entry v t) ⊎ ((e.to ≡ v → ⊥) × Memᴰ e s)
  pub from : (e : Entry) → Memᴰ e s → (e.to ≡ v → ⊥) → Memᴰ e star
  pub here : Memᴰ (entry v t) star
  pub ends : is_last star v ≡ l
  pub gives : Ended (not l) (list_of (straight s) k) (list_of (straight star) k) v
  pub takes : Ended l (list_of (straight star) t) (list_of (straight s) t) v
  pub others : (c : ℕ) → (k ≡ c → ⊥) → (t ≡ c → ⊥) → list_of (straight star) c ≡ list_of (straight s) c

module _ (P Q : Star) (v k : ℕ) (g : GoodStar (P ++ entry v k ∷ Q)) where
  -- the other entries of the star do not name v
  named_rest : named v (P ++ Q) ≡ 0
  named_rest =
      let e : eqb v v ≡ true = eq-eqb v v refl in
      let c : named v (P ++ entry v k ∷ Q) ≡ 1 + named v (P ++ Q) = rw e at (count_mid (λ (d : Entry). eqb d.to v) P (entry v k) Q) in
      omega (arith, g.once (entry v k) (mem_mid P (entry v k) Q))

  -- the entries before v's do not name v
  pub named_front : named v P ≡ 0
  named_front = omega (arith, named_rest, count_append (λ (d : Entry). eqb d.to v) P Q)

  -- the entries behind v's do not name v
  pub named_back : named v Q ≡ 0
  named_back = omega (arith, named_rest, count_append (λ (d : Entry). eqb d.to v) P Q)

  -- none of the other entries leads to v
  not_rest : (e : Entry) → Memᴰ e (P ++ Q) → e.to ≡ v → ⊥
  not_rest e m q = omega (arith, named_rest, mem_count (λ (d : Entry). eqb d.to v) (P ++ Q) e m (eq-eqb e.to v q))

  module _ (t : ℕ) (l : Bool) (differ : k ≡ t → ⊥) (tle : t ≤ 3) (more : 2 ≤ of_kind k (P ++ entry v k ∷ Q)) (P' Q' : Star)
      (restarts : Restarted (P ++ entry v t ∷ Q) (P' ++ entry v t ∷ Q')) (sorted : Sorted (P' ++ entry v t ∷ Q')) (last : eqb (of_kind t Q') 0 ≡ l)
      (A B : Star) (was : straight (P ++ entry v k ∷ Q) ≡ A ++ entry v k ∷ B) (rest : A ++ B ≡ P' ++ Q') (free : Free (not l) A B k × Free l P' Q' t) where
    -- of each kind the new star has as many as there are of the other entries, and one more if it is v's new kind
    new_kind : (m : ℕ) → of_kind m (P ++ entry v t ∷ Q) ≡ bit (eqb t m) + of_kind m (P ++ Q)
    new_kind m = count_mid (λ (e : Entry). eqb e.kind m) P (entry v t) Q

    -- of each kind the old star has as many as there are of the other entries, and one more if it is v's old kind
    old_kind : (m : ℕ) → of_kind m (P ++ entry v k ∷ Q) ≡ bit (eqb k m) + of_kind m (P ++ Q)
    old_kind m = count_mid (λ (e : Entry). eqb e.kind m) P (entry v k) Q

    -- the new star names each vertex as often as the old
    same_named : (w : ℕ) → named w (P ++ entry v t ∷ Q) ≡ named w (P ++ entry v k ∷ Q)
    same_named w = count_mid (λ (e : Entry). eqb e.to w) P (entry v t) Q ∙ sym (count_mid (λ (e : Entry). eqb e.to w) P (entry v k) Q)

    -- v's new entry, or one of the others: these lead elsewhere than to v and stood in the old star
    into_of : (e : Entry) → (e ≡ entry v t) ⊎ Memᴰ e (P ++ Q) → (e ≡ entry v t) ⊎ ((e.to ≡ v → ⊥) × Memᴰ e (P ++ entry v k ∷ Q))
    into_of e (inl q) = inl q
    into_of e (inr m) = inr (not_rest e m, mem_wide P (entry v k) Q e m)

    -- an entry of the old star that leads elsewhere than to v stands in the new one
    from_of : (e : Entry) → (e ≡ entry v k) ⊎ Memᴰ e (P ++ Q) → (e.to ≡ v → ⊥) → Memᴰ e (P ++ entry v t ∷ Q)
    from_of e (inl q) ne = absurd (ne (ap (λ (d : Entry). d.to) q))
    from_of e (inr m) ne = mem_wide P (entry v t) Q e m

    -- no kind is missing in the new star
    has_of : (m : ℕ) → m ≤ 3 → 1 ≤ of_kind m (P ++ entry v t ∷ Q)
    has_of m h = go (ℕ_discrete k m) (ℕ_discrete t m)
      where
        go : Dec (k ≡ m) → Dec (t ≡ m) → 1 ≤ of_kind m (P ++ entry v t ∷ Q)
        go (yes a) b =
            let c : of_kind k (P ++ entry v k ∷ Q) ≡ 1 + of_kind k (P ++ Q) = rw (eq-eqb k k refl) at (old_kind k) in
            rw (← a) (omega (arith, new_kind k, more))
        go (no a) (yes b) = let c : of_kind m (P ++ entry v t ∷ Q) ≡ 1 + of_kind m (P ++ Q) = rw (eq-eqb t m b) at (new_kind m) in omega arith
        go (no a) (no b) = let c : of_kind m (P ++ entry v k ∷ Q) ≡ 0 + of_kind m (P ++ Q) =
            rw (ne_eqb k m a) at (old_kind m) in omega (arith, g.has m h, new_kind m)

    -- the new star names each of its neighbours once
    once_of : (e : Entry) → (e ≡ entry v t) ⊎ Memᴰ e (P ++ Q) → named e.to (P ++ entry v t ∷ Q) ≡ 1
    once_of e (inl q) =
        let a : named v (P ++ entry v k ∷ Q) ≡ 1 = g.once (entry v k) (mem_mid P (entry v k) Q) in
        let b : e.to ≡ v = ap (λ (d : Entry). d.to) q in
        rw b (same_named v ∙ a)
    once_of e (inr m) = same_named e.to ∙ g.once e (mem_wide P (entry v k) Q e m)

    -- no kind in the new star is over 3
    small_of : (e : Entry) → (e ≡ entry v t) ⊎ Memᴰ e (P ++ Q) → e.kind ≤ 3
    small_of e (inl q) = omega (arith, ap (λ (d : Entry). d.kind) q)
    small_of e (inr m) = small_mem (P ++ entry v k ∷ Q) g e (mem_wide P (entry v k) Q e m)

    -- the new star has at least two of v's new kind
    two_of : 2 ≤ of_kind t (P ++ entry v t ∷ Q)
    two_of =
        let a : of_kind t (P ++ entry v t ∷ Q) ≡ 1 + of_kind t (P ++ Q) = rw (eq-eqb t t refl) at (new_kind t) in
        let b : of_kind t (P ++ entry v k ∷ Q) ≡ 0 + of_kind t (P ++ Q) = rw (ne_eqb k t differ) at (old_kind t) in
        omega (arith, g.has t tle)

    -- no kind is missing in the new star, made straight
    round_has : (m : ℕ) → m ≤ 3 → 1 ≤ of_kind m (P' ++ entry v t ∷ Q')
    round_has m h = omega (arith, has_of m h, restart_count restarts (λ (e : Entry). eqb e.kind m))

    -- the other entries of the new star, made straight, do not name v
    round_named : named v (P' ++ Q') ≡ 0
    round_named =
        let e : eqb v v ≡ true = eq-eqb v v refl in
        let c : named v (P' ++ entry v t ∷ Q') ≡ 1 + named v (P' ++ Q') = rw e at (count_mid (λ (d : Entry). eqb d.to v) P' (entry v t) Q') in
        omega (
          arith,
          restart_count restarts (λ (d : Entry). eqb d.to v),
          same_named v,
          g.once (entry v k) (mem_mid P (entry v k) Q),
        )

    -- whether v is last of its list in the new star is what l says
    ends_of : is_last (P ++ entry v t ∷ Q) v ≡ l
    ends_of =
        last_restarted restarts v
        ∙ last_mid P' v t Q' sorted (round_has 0 (omega arith)) (round_has 3 (omega arith))
        (omega (arith, round_named, count_append (λ (d : Entry). eqb d.to v) P' Q'))
        (omega (arith, round_named, count_append (λ (d : Entry). eqb d.to v) P' Q'))
        ∙ last

    -- the new star, made straight, has v's new entry between the two parts given
    is_now : straight (P ++ entry v t ∷ Q) ≡ P' ++ entry v t ∷ Q'
    is_now = straight_is restarts sorted (round_has 0 (omega arith)) (round_has 3 (omega arith))

    -- the new star is the old one turned: it passes test 5, and turning the entry back gives the old star
    swing_of : Swing (P ++ entry v k ∷ Q) v k t l
    swing_of = record {
      star = P ++ entry v t ∷ Q;
      turns = with_kind_mid P v k t Q named_front named_back;
      back = with_kind_mid P v t k Q named_front named_back;
      good = record {
        round = P' ++ entry v t ∷ Q';
        restarts = restarts;
        sorted = sorted;
        small = mem_most 3 (P ++ entry v t ∷ Q) (λ e m. small_of e (mem_cases P (entry v t) Q e m));
        has = has_of;
        once = λ e m. once_of e (mem_cases P (entry v t) Q e m);
      };
      kind = kind_of_mid P v t Q named_front;
      long = omega (arith, length-append P (entry v t ∷ Q), length-append P (entry v k ∷ Q));
      two = two_of;
      counts = same_named;
      into = λ e m. into_of e (mem_cases P (entry v t) Q e m);
      from = λ e m. from_of e (mem_cases P (entry v k) Q e m);
      here = mem_mid P (entry v t) Q;
      ends = ends_of;
      gives = rw (was, is_now, put_other P' Q' v t k (λ e. differ (sym e)), ← rest) (put_end (not l) A B v k free.0);
      takes = rw (was, is_now, put_other A B v k t differ, rest) (put_end l P' Q' v t free.1);
      others = λ c a b. rw (was, is_now, put_other P' Q' v t c b, put_other A B v k c a, rest);
    }

-- THE TURNED STAR, STRAIGHT: where the entry stands in it
record Straight (P Q : Star) (v k t : ℕ) (l : Bool) : Type 0 where
  before : Star
  behind : Star
  restarts : Restarted (P ++ entry v t ∷ Q) (before ++ entry v t ∷ behind)
  sorted : Sorted (before ++ entry v t ∷ behind)
  last : eqb (of_kind t behind) 0 ≡ l
  rest : P ++ Q ≡ before ++ behind
  free : Free (not l) P Q k × Free l before behind t

module _ (P Q : Star) (v : ℕ) where
  -- the last of a list becomes the first of the next
  ahead : (k : ℕ) → Sorted (P ++ entry v k ∷ Q) → 1 ≤ of_kind (suc k) (P ++ entry v k ∷ Q) → of_kind k Q ≡ 0 → Straight P Q v k (suc k) false
  ahead k o has none =
      let low : AtMost k P = sorted_low P (entry v k) Q o in
      let high : AtLeast (suc k) Q = least_strict k Q (sorted_high P (entry v k) Q o) none in
      let c : of_kind (suc k) (P ++ entry v k ∷ Q) ≡ of_kind (suc k) P + of_kind (suc k) (entry v k ∷ Q) =
      count_append (λ (e : Entry). eqb e.kind (suc k)) P (entry v k ∷ Q) in
      let n : 1 ≤ of_kind (suc k) Q = omega (arith, kind_other v k (suc k) Q (λ e. omega arith), most_none k (suc k) P (omega arith) low) in
      record {
        before = P;
        behind = Q;
        restarts = restart_none (P ++ entry v (suc k) ∷ Q);
        sorted = sorted_stay P (entry v k) (entry v (suc k)) Q o (most_up k (suc k) P (omega arith) low) high;
        last = ne_eqb (of_kind (suc k) Q) 0 (λ e. omega arith);
        rest = refl;
        free = (none, most_none k (suc k) P (omega arith) low);
      }

  -- the first of a list becomes the last of the one before
  astern : (k : ℕ) → Sorted (P ++ entry v (suc k) ∷ Q) → of_kind (suc k) P ≡ 0 → Straight P Q v (suc k) k true
  astern k o none =
      let low : AtMost k P = most_strict k P (sorted_low P (entry v (suc k)) Q o) none in
      let high : AtLeast (suc k) Q = sorted_high P (entry v (suc k)) Q o in
      record {
        before = P;
        behind = Q;
        restarts = restart_none (P ++ entry v k ∷ Q);
        sorted = sorted_stay P (entry v (suc k)) (entry v k) Q o low (least_down (suc k) k Q (omega arith) high);
        last = eq-eqb (of_kind k Q) 0 (least_none (suc k) k Q (omega arith) high);
        rest = refl;
        free = (none, least_none (suc k) k Q (omega arith) high);
      }

  -- the last of the right-list becomes the first of the above-list: the straight star starts with it
  ahead3 : Sorted (P ++ entry v 3 ∷ Q) → AtMost 3 (P ++ entry v 3 ∷ Q) → 1 ≤ of_kind 0 (P ++ entry v 3 ∷ Q) → of_kind 3 Q ≡ 0
      → Straight P Q v 3 0 false
  ahead3 o small has none = rw empty (record {
    before = [];
    behind = P;
    restarts = record { front = P; rest = entry v 0 ∷ []; is_one = refl; is_other = refl };
    sorted = (least_zero P, sorted_front P (entry v 3 ∷ Q) o);
    last = ne_eqb (of_kind 0 P) 0 (λ e. omega (arith, some));
    rest = append-nil P;
    free = (count_nil (λ (e : Entry). eqb e.kind 3), count_nil (λ (e : Entry). eqb e.kind 0));
  })
    where
      empty : Q ≡ []
      empty = none_above Q (least_strict 3 Q (sorted_high P (entry v 3) Q o) none) (most_back 3 P (entry v 3 ∷ Q) small).1

      some : 1 ≤ of_kind 0 P
      some =
          let c : of_kind 0 (P ++ entry v 3 ∷ Q) ≡ of_kind 0 P + of_kind 0 (entry v 3 ∷ Q) = count_append (λ (e : Entry). eqb e.kind 0) P (entry v 3 ∷ Q) in
          let z : of_kind 0 Q ≡ 0 = rw empty (count_nil (λ (e : Entry). eqb e.kind 0)) in
          omega (arith, kind_other v 3 0 Q (λ e. omega arith))

  -- the first of the above-list becomes the last of the right-list: the straight star ends with it
  astern0 : Sorted (P ++ entry v 0 ∷ Q) → AtMost 3 (P ++ entry v 0 ∷ Q) → of_kind 0 P ≡ 0 → Straight P Q v 0 3 true
  astern0 o small none = rw empty (record {
    before = Q;
    behind = [];
    restarts = record { front = entry v 3 ∷ []; rest = Q; is_one = refl; is_other = refl };
    sorted = sorted_end Q v (sorted_back P (entry v 0) Q o) (most_back 3 P (entry v 0 ∷ Q) small).1;
    last = rw (count_nil (λ (e : Entry). eqb e.kind 3));
    rest = sym (append-nil Q);
    free = (count_nil (λ (e : Entry). eqb e.kind 0), count_nil (λ (e : Entry). eqb e.kind 3));
  })
    where
      empty : P ≡ []
      empty = none_below P (sorted_low P (entry v 0) Q o) none

-- v stands at the end of its list of kind k: the last (true) or the first (false), and not alone
abbrev pub AtEnd : Bool → Star → Star → ℕ → Type 0
AtEnd true P Q k = (of_kind k Q ≡ 0) × (1 ≤ of_kind k P)
AtEnd false P Q k = (of_kind k P ≡ 0) × (1 ≤ of_kind k Q)

-- a list with v at one end of it, and not alone, has at least two
at_end_two : (l : Bool) (P Q : Star) (v k : ℕ) → AtEnd l P Q k → 2 ≤ of_kind k (P ++ entry v k ∷ Q)
at_end_two true P Q v k e = omega (arith, e.1, count_append (λ (e : Entry). eqb e.kind k) P (entry v k ∷ Q), kind_self v k Q)
at_end_two false P Q v k e = omega (arith, e.1, count_append (λ (e : Entry). eqb e.kind k) P (entry v k ∷ Q), kind_self v k Q)

-- at any kind
straight_turned : (l : Bool) (P Q : Star) (v k : ℕ) → k ≤ 3 → Sorted (P ++ entry v k ∷ Q) → AtMost 3 (P ++ entry v k ∷ Q)
    → ((m : ℕ) → m ≤ 3 → 1 ≤ of_kind m (P ++ entry v k ∷ Q)) → AtEnd l P Q k → Straight P Q v k (turned_kind k l) (not l)
unfolding turned_kind
straight_turned true P Q v zero h o s has e = ahead P Q v 0 o (has 1 (omega arith)) e.0
straight_turned true P Q v (suc zero) h o s has e = ahead P Q v 1 o (has 2 (omega arith)) e.0
straight_turned true P Q v (suc (suc zero)) h o s has e = ahead P Q v 2 o (has 3 (omega arith)) e.0
straight_turned true P Q v (suc (suc (suc zero))) h o s has e = ahead3 P Q v o s (has 0 (omega arith)) e.0
straight_turned true P Q v (suc (suc (suc (suc k)))) h o s has e = absurd (omega arith)
straight_turned false P Q v zero h o s has e = astern0 P Q v o s e.0
straight_turned false P Q v (suc zero) h o s has e = astern P Q v 0 o e.0
straight_turned false P Q v (suc (suc zero)) h o s has e = astern P Q v 1 o e.0
straight_turned false P Q v (suc (suc (suc zero))) h o s has e = astern P Q v 2 o e.0
straight_turned false P Q v (suc (suc (suc (suc k)))) h o s has e = absurd (omega arith)

-- the kind that a contact takes is at most 3
pub turned_small : (k : ℕ) (l : Bool) → turned_kind k l ≤ 3
unfolding turned_kind
turned_small k l = omega arith

-- the kind that a contact takes is not the one it had
kind_differs : (l : Bool) (k : ℕ) → k ≤ 3 → k ≡ turned_kind k l → ⊥
unfolding turned_kind
kind_differs true k h e = omega arith
kind_differs false k h e = omega arith

module _ (l : Bool) (s P Q : Star) (v k : ℕ) (h : k ≤ 3) (g : GoodStar s) (is : straight s ≡ P ++ entry v k ∷ Q) (at_end : AtEnd l P Q k) where
  -- the straight star, taken apart at v
  sorted_mid : Sorted (P ++ entry v k ∷ Q)
  sorted_mid = rw is at (straight_sorted s g)

  -- the straight star is the star started elsewhere
  restarts_mid : Restarted s (P ++ entry v k ∷ Q)
  restarts_mid = rw is at (straight_restarts s)

  -- no kind is missing in the straight star
  has_mid : (m : ℕ) → m ≤ 3 → 1 ≤ of_kind m (P ++ entry v k ∷ Q)
  has_mid m l = rw is at (straight_has s g m l)

  -- no kind in the straight star is over 3
  small_mid : AtMost 3 (P ++ entry v k ∷ Q)
  small_mid = mem_most 3 (P ++ entry v k ∷ Q) (λ e m. small_mem s g e (restart_mem (restart_back restarts_mid) m))

  -- the other entries of the straight star do not name v
  named_mid : named v (P ++ Q) ≡ 0
  named_mid =
      let e : eqb v v ≡ true = eq-eqb v v refl in
      let c : named v (P ++ entry v k ∷ Q) ≡ 1 + named v (P ++ Q) = rw e at (count_mid (λ (d : Entry). eqb d.to v) P (entry v k) Q) in
      omega (
        arith,
        g.once (entry v k) (restart_mem (restart_back restarts_mid) (mem_mid P (entry v k) Q)),
        restart_count restarts_mid (λ (d : Entry). eqb d.to v),
      )

  -- the entries before v's do not name v
  front_mid : named v P ≡ 0
  front_mid = omega (arith, named_mid, count_append (λ (d : Entry). eqb d.to v) P Q)

  -- the entries behind v's do not name v
  back_mid : named v Q ≡ 0
  back_mid = omega (arith, named_mid, count_append (λ (d : Entry). eqb d.to v) P Q)

  -- whether v is last of its list
  pub is_the_last : is_last s v ≡ l
  is_the_last =
      last_restarted restarts_mid v
      ∙ last_mid P v k Q sorted_mid (has_mid 0 (omega arith)) (has_mid 3 (omega arith)) front_mid back_mid
      ∙ go l at_end
    where
      go : (l : Bool) → AtEnd l P Q k → eqb (of_kind k Q) 0 ≡ l
      go true e = eq-eqb (of_kind k Q) 0 e.0
      go false e = ne_eqb (of_kind k Q) 0 (λ z. omega (arith, e.1))

  -- THE ENTRY AT A LIST'S END TURNED: the last becomes first of the next list, the first last of the list before
  pub swing : Swing s v k (turned_kind k l) (not l)
  swing =
      let a : Apart (entry v k) s = apart_at (entry v k) s (restart_mem (restart_back restarts_mid) (mem_mid P (entry v k) Q)) in
      made a.front a.rest a.whole
    where
      t : ℕ
      t = turned_kind k l

      x : Straight P Q v k t (not l)
      x = straight_turned l P Q v k h sorted_mid small_mid has_mid at_end

      two : 2 ≤ of_kind k s
      two = omega (arith, at_end_two l P Q v k at_end, restart_count restarts_mid (λ (e : Entry). eqb e.kind k))

      now : (F R : Star) → GoodStar (F ++ entry v k ∷ R) → Restarted (F ++ entry v k ∷ R) (P ++ entry v k ∷ Q)
          → Restarted (F ++ entry v t ∷ R) (P ++ entry v t ∷ Q)
      now F R g' r =
          rw (with_kind_mid F v k t R (named_front F R v k g') (named_back F R v k g'), with_kind_mid P v k t Q front_mid back_mid) at (restart_turned r v t)

      made : (F R : Star) → s ≡ F ++ entry v k ∷ R → Swing s v k t (not l)
      made F R e =
          let g' : GoodStar (F ++ entry v k ∷ R) = rw e at g in
          rw e (swing_of F R v k g' t (not l) (kind_differs l k h) (turned_small k l) (rw e at two) x.before x.behind
          (restart_twice (now F R g' (rw e at restarts_mid)) x.restarts) x.sorted x.last P Q (rw e at is) x.rest x.free)
