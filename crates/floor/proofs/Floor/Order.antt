-- The order round a star: once round it, from one entry to the next, and from its straight start on, from any entry to any later one. Assumes nothing.
use Rattle.std.specs.Prelude.{◌≡◌, ◌||◌, ℕ, zero, suc, ◌≤◌, get_or, eqb}
use Rattle.std.proofs.Math.Path.{refl}
use Rattle.std.proofs.Common.{sym, ap, ◌∙◌, arith, ltb-true, lt-ltb}
use Rattle.std.proofs.Math.Bool.{true}
use mathlib.Core.List.{[], ◌∷◌, Memᴰ}
use Rattle.std.proofs.Math.Decide.{ℕ_discrete}
use Rattle.floor.specs.Lists.{all}
use Rattle.floor.proofs.Lists.Laws.{and_parts, and_both, or_left, or_right}
use Rattle.floor.specs.Jobs.{Entry, Star, links_to, links, changes}
use Rattle.floor.proofs.Jobs.Round.{restart_count, links_all}
use Rattle.floor.specs.Jobs.Stars.{AtLeast, Sorted, GoodStar, of_kind}
use Rattle.floor.proofs.Jobs.Stars.{changes_no, changes_yes, last_of, first_above, last_right}
use Rattle.floor.proofs.Jobs.Straight.{straight, straight_restarts, straight_is, straight_sorted, straight_has}
use Rattle.floor.specs.Plans.{Rect, Plan, rect_of, follows, in_order, round_in_order}
use Rattle.floor.specs.Floor.{Onward, Earlier, here, there, Counterclockwise}

-- those of one kind stand in order, each before every later one
abbrev pub InOrder : Plan → Star → Type 0
InOrder p s = (d e : Entry) → Earlier d e s → d.kind ≡ e.kind → Onward d.kind (rect_of p d.to) (rect_of p e.to)

-- the order of a kind
onward_of : (k : ℕ) (r s : Rect) → follows k r s ≡ true → Onward k r s
unfolding follows
onward_of zero r s h = ltb-true s.x1 r.x1 h
onward_of (suc zero) r s h = ltb-true s.y1 r.y1 h
onward_of (suc (suc zero)) r s h = ltb-true r.x1 s.x1 h
onward_of (suc (suc (suc k))) r s h = ltb-true r.y1 s.y1 h

-- where s comes after r among the neighbours of kind k, the test says so
of_onward : (k : ℕ) (r s : Rect) → Onward k r s → follows k r s ≡ true
unfolding follows
of_onward zero r s h = lt-ltb s.x1 r.x1 h
of_onward (suc zero) r s h = lt-ltb s.y1 r.y1 h
of_onward (suc (suc zero)) r s h = lt-ltb r.x1 s.x1 h
of_onward (suc (suc (suc k))) r s h = lt-ltb r.y1 s.y1 h

-- where s comes after r and t after s, t comes after r
onward_on : (k : ℕ) (r s t : Rect) → Onward k r s → Onward k s t → Onward k r t
onward_on zero r s t a b = omega arith
onward_on (suc zero) r s t a b = omega arith
onward_on (suc (suc zero)) r s t a b = omega arith
onward_on (suc (suc (suc k))) r s t a b = omega arith

-- kinds that never fall, by any two entries
least_mem : (k : ℕ) (s : Star) → AtLeast k s → (e : Entry) → Memᴰ e s → k ≤ e.kind
least_mem k [] a e x'' = elim x'' [ ]
least_mem k (d ∷ s) a e (Memᴰ.head q) = rw q a.0
least_mem k (d ∷ s) a e (Memᴰ.tail m) = least_mem k s a.1 e m

-- where the kind of each entry is k or more, every kind of the star is
mem_least : (k : ℕ) (s : Star) → ((e : Entry) → Memᴰ e s → k ≤ e.kind) → AtLeast k s
mem_least k [] h = tt
mem_least k (d ∷ s) h = (h d (Memᴰ.head refl), mem_least k s (λ e m. h e (Memᴰ.tail m)))

-- where kinds never fall, an entry that stands before another has no higher kind
rising : (s : Star) → Sorted s → (d e : Entry) → Earlier d e s → d.kind ≤ e.kind
rising [] o d e x'' = elim x'' [ ]
rising (x ∷ s) o d e (there r) = rising s o.1 d e r
rising (x ∷ s) o d e (here m) = least_mem x.kind s o.0 e m

-- where no entry that stands before another has a higher kind, kinds never fall
of_rising : (s : Star) → ((d e : Entry) → Earlier d e s → d.kind ≤ e.kind) → Sorted s
of_rising [] h = tt
of_rising (x ∷ s) h = (mem_least x.kind s (λ e m. h x e (here m)), of_rising s (λ d e r. h d e (there r)))

-- one entry and the next of its kind
linked : (p : Plan) (d e : Entry) → in_order p (record { this = d; next = e }) ≡ true → d.kind ≡ e.kind
    → Onward d.kind (rect_of p d.to) (rect_of p e.to)
unfolding in_order
linked p d e h q =
    onward_of d.kind (rect_of p d.to) (rect_of p e.to) (rw (changes_no (record { this = d; next = e }) q) at h)

-- where kinds never fall and each entry stands in order with the next, the first does with every later one of its kind
links_first : (p : Plan) (back : Entry) (s : Star) (d : Entry) → Sorted (d ∷ s) → all (in_order p) (links_to back (d ∷ s)) ≡ true
    → (e : Entry) → Memᴰ e s → d.kind ≡ e.kind → Onward d.kind (rect_of p d.to) (rect_of p e.to)
unfolding links_to all
links_first p back [] d o h e x4 same = elim x4 [ ]
links_first p back (c ∷ s) d o h e (Memᴰ.head q) same = rw q (linked p d c (and_parts _ _ h).0 (same ∙ ap (λ (x : Entry). x.kind) q))
links_first p back (c ∷ s) d o h e (Memᴰ.tail m) same =
    let (now, later) = and_parts (in_order p (record { this = d; next = c })) _ h in
    let k : d.kind ≡ c.kind = omega (arith, o.0.0, least_mem c.kind s o.1.0 e m) in
    let x : Onward c.kind (rect_of p c.to) (rect_of p e.to) = links_first p back s c o.1 later e m (sym k ∙ same) in
    onward_on d.kind (rect_of p d.to) (rect_of p c.to) (rect_of p e.to) (linked p d c now k) (rw (sym k) at x)

-- where kinds never fall and each entry stands in order with the next, each does with every later one of its kind
links_order : (p : Plan) (back : Entry) (s : Star) → Sorted s → all (in_order p) (links_to back s) ≡ true → InOrder p s
unfolding links_to all
links_order p back [] o h d e x4 same = elim x4 [ ]
links_order p back (c ∷ s) o h d e (here m) same = links_first p back s c o h e m same
links_order p back (c ∷ s) o h d e (there r) same =
    links_order p back s o.1 (and_parts (in_order p (record { this = c; next = get_or s 0 back })) _ h).1 d e r same

-- where each stands in order with every later one of its kind, and the last is followed by another kind, each does with the next
order_links : (p : Plan) (back : Entry) (s : Star) (d : Entry) → InOrder p (d ∷ s) → ((last_of d s).kind ≡ back.kind → ⊥)
    → all (in_order p) (links_to back (d ∷ s)) ≡ true
unfolding links_to all in_order
order_links p back [] d h ne = and_both _ _ (or_left _ _ (changes_yes (record { this = d; next = back }) ne)) refl
order_links p back (e ∷ s) d h ne = and_both _ _ (go (ℕ_discrete d.kind e.kind)) (order_links p back s e (λ x y r. h x y (there r)) ne)
  where
    go : Dec (d.kind ≡ e.kind)
        → (changes (record { this = d; next = e }) || follows d.kind (rect_of p d.to) (rect_of p e.to)) ≡ true
    go (yes q) = or_right (changes (record { this = d; next = e })) _ (of_onward d.kind (rect_of p d.to) (rect_of p e.to)
        (h d e (here (Memᴰ.head refl)) q))
    go (no q) = or_left _ _ (changes_yes (record { this = d; next = e }) q)

module _ (p : Plan) (s : Star) (g : GoodStar s) where
  -- ONCE ROUND THE STAR, and from its straight start on, the order is one
  pub round_order : round_in_order p s ≡ true → InOrder p (straight s)
  unfolding round_in_order links
  round_order h = go (straight s) (straight_sorted s g) (sym (links_all (straight_restarts s) (in_order p)) ∙ h)
    where
      go : (t : Star) → Sorted t → all (in_order p) (links t) ≡ true → InOrder p t
      go (d ∷ t) o h = links_order p d (d ∷ t) o h
      go [] o h = λ d e x. elim x [ ]

  -- those of one kind that stand in order from the straight start on do so once round the star
  pub order_round : InOrder p (straight s) → round_in_order p s ≡ true
  unfolding round_in_order links all
  order_round h =
      links_all (straight_restarts s) (in_order p)
      ∙ go (straight s) (straight_sorted s g) (straight_has s g 0 (omega arith)) (straight_has s g 3 (omega arith)) h
    where
      go : (t : Star) → Sorted t → 1 ≤ of_kind 0 t → 1 ≤ of_kind 3 t → InOrder p t → all (in_order p) (links t) ≡ true
      go [] o a b h = refl
      go (d ∷ t) o a b h = order_links p d t d h (λ q. omega (arith, first_above d t o a, last_right d t o b))

  -- COUNTERCLOCKWISE, IN THE CUSTOMER'S WORDS, is the order from the straight start on
  pub order_counterclockwise : InOrder p (straight s) → Counterclockwise p s
  order_counterclockwise h = record { round = straight s; restarts = straight_restarts s; sides = rising (straight s) (straight_sorted s g); order = h }

  -- where the neighbours stand counterclockwise, those of one kind are in order from the straight start on
  pub counterclockwise_order : Counterclockwise p s → InOrder p (straight s)
  counterclockwise_order c = rw same c.order
    where
      has : (k : ℕ) → k ≤ 3 → 1 ≤ of_kind k c.round
      has k l = omega (arith, g.has k l, restart_count c.restarts (λ (e : Entry). eqb e.kind k))

      same : straight s ≡ c.round
      same = straight_is c.restarts (of_rising c.round c.sides) (has 0 (omega arith)) (has 3 (omega arith))
