-- How two rectangles touch: what the side and the length say, that the other way round the side is opposite and the length equal. Assumes nothing.
use Prim.Native.Nat.{ℕ, zero, suc, ◌+◌, ◌-◌, ◌≤◌, ◌<◌, max}
use Rattle.std.specs.Prelude.{◌≡◌, refl, ◌↔◌, Bool, true, false, cond, ◌&&◌, leb, eqb}
use Rattle.std.proofs.Common.{sym, ap, ◌∙◌, arith, leb-true, le-leb, eqb-true, eq-eqb}
use Rattle.floor.proofs.Lists.Laws.{no_false, and_parts, and_both}
use Rattle.floor.specs.Jobs.{opposite}
use Rattle.floor.specs.Plans.{Rect, overlap, Touch, clear, wall, is_wall, on_line, facing, touch_on, touch_of}
use Rattle.floor.specs.Floor.{Wall, Stands, Shares, Solid, Spans, Borders}
use Rattle.floor.proofs.Floor.Placed.{wall_at}

-- a touch tells one side and one length
pub one_side : {k l n m : ℕ} → wall k n ≡ wall l m → k ≡ l
one_side e = cc

-- the length is one as well
pub one_length : {k l n m : ℕ} → wall k n ≡ wall l m → n ≡ m
one_length e = cc

-- no touch is clear and a wall at once
pub not_clear : {X : Type 0} {k n : ℕ} → clear ≡ wall k n → X
not_clear e = let z : ◌≡◌ {A = ℕ} 0 1 = cc in absurd (omega arith)

-- the test of one side
abbrev pub on : ℕ → Rect → Rect → Bool
on k r s = on_line k r s && leb 1 (facing k r s)

-- where it passes, they reach over one another by at least 1
on_long : (k : ℕ) (r s : Rect) → on k r s ≡ true → 1 ≤ facing k r s
on_long k r s e = leb-true 1 (facing k r s) (and_parts (on_line k r s) (leb 1 (facing k r s)) e).1

-- a shared stretch, along either line
wall_of : (a from to b from' to' : ℕ) → eqb a b ≡ true → leb 1 (overlap from to from' to') ≡ true → Wall a from to b from' to'
unfolding overlap
wall_of a from to b from' to' e l =
    let o : 1 ≤ overlap from to from' to' = leb-true 1 (overlap from to from' to') l in
    wall_at a from to b from' to' (eqb-true a b e) (omega arith) (omega arith) (omega arith) (omega arith)

-- who shares a stretch reaches over the other by at least 1
of_wall : {a from to b from' to' : ℕ} → Wall a from to b from' to' → leb 1 (overlap from to from' to') ≡ true
unfolding overlap
of_wall {a} {from} {to} {b} {from'} {to'} w = le-leb 1 (overlap from to from' to') (omega (arith, w.starts, w.ends, w.starts', w.ends'))

-- it matters not which stretch is named first
pub overlap_back : (a b c d : ℕ) → overlap a b c d ≡ overlap c d a b
unfolding overlap
overlap_back a b c d = omega arith

-- where the test of side k passes, s stands on side k of r
pub on_stands : (k : ℕ) (r s : Rect) → on k r s ≡ true → Stands k r s
unfolding on_line facing
on_stands zero r s e = let (a, b) = and_parts _ _ e in wall_of r.y2 r.x1 r.x2 s.y1 s.x1 s.x2 a b
on_stands (suc zero) r s e =
    let (a, b) = and_parts _ _ e in
    wall_of s.x2 s.y1 s.y2 r.x1 r.y1 r.y2 a (rw (overlap_back r.y1 r.y2 s.y1 s.y2) at b)
on_stands (suc (suc zero)) r s e =
    let (a, b) = and_parts _ _ e in
    wall_of s.y2 s.x1 s.x2 r.y1 r.x1 r.x2 a (rw (overlap_back r.x1 r.x2 s.x1 s.x2) at b)
on_stands (suc (suc (suc k))) r s e = let (a, b) = and_parts _ _ e in wall_of r.x2 r.y1 r.y2 s.x1 s.y1 s.y2 a b

-- where s stands on side k of r, the test of side k passes
pub stands_on_lem : (k : ℕ) (r s : Rect) → Stands k r s → on k r s ≡ true
unfolding on_line facing
stands_on_lem zero r s w = and_both _ _ (eq-eqb r.y2 s.y1 w.line) (of_wall w)
stands_on_lem (suc zero) r s w =
    and_both _ _ (eq-eqb s.x2 r.x1 w.line) (rw (overlap_back r.y1 r.y2 s.y1 s.y2) (of_wall w))
stands_on_lem (suc (suc zero)) r s w =
    and_both _ _ (eq-eqb s.y2 r.y1 w.line) (rw (overlap_back r.x1 r.x2 s.x1 s.x2) (of_wall w))
stands_on_lem (suc (suc (suc k))) r s w = and_both _ _ (eq-eqb r.x2 s.x1 w.line) (of_wall w)

-- what a touch was found by
on_of : (r s : Rect) (k n : ℕ) → touch_of r s ≡ wall k n → (k < 4) × (on k r s ≡ true) × (n ≡ facing k r s)
unfolding touch_of touch_on
on_of r s k n e = go (on 0 r s) refl (on 1 r s) refl (on 2 r s) refl (on 3 r s) refl e
  where
    found : (m : ℕ) → m < 4 → on m r s ≡ true → wall m (facing m r s) ≡ wall k n → (k < 4) × (on k r s ≡ true) × (n ≡ facing k r s)
    found m l h q = rw (sym (one_side q)) (l, h, sym (one_length q))

    go : (a : Bool) → on 0 r s ≡ a → (b : Bool) → on 1 r s ≡ b → (c : Bool) → on 2 r s ≡ c → (d : Bool) → on 3 r s ≡ d
        → cond a (wall 0 (facing 0 r s)) (cond b (wall 1 (facing 1 r s)) (cond c (wall 2 (facing 2 r s)) (cond d (wall 3 (facing 3 r s)) clear))) ≡ wall k n
        → (k < 4) × (on k r s ≡ true) × (n ≡ facing k r s)
    go true h b i c j d l q = found 0 (omega arith) h q
    go false h true i c j d l q = found 1 (omega arith) i q
    go false h false i true j d l q = found 2 (omega arith) j q
    go false h false i false j true l q = found 3 (omega arith) l q
    go false h false i false j false l q = not_clear q

-- the side is one of four, and the length at least 1
pub touch_fair : (r s : Rect) (k n : ℕ) → touch_of r s ≡ wall k n → (k < 4) × (1 ≤ n)
touch_fair r s k n e = let (few, q, l) = on_of r s k n e in (few, omega (arith, on_long k r s q))

-- A WALL IS FOUND EXACTLY WHERE TWO SHARE ONE
pub shares_of : (r s : Rect) → is_wall (touch_of r s) ≡ true → Shares r s
unfolding is_wall
shares_of r s h = go (touch_of r s) refl h
  where
    go : (t : Touch) → touch_of r s ≡ t → is_wall t ≡ true → Shares r s
    go clear e h = no_false h
    go (wall k n) e h = let (few, q, l) = on_of r s k n e in record { side = k; few = few; stands = on_stands k r s q }

-- and where two share a wall, one is found
pub of_shares : (r s : Rect) → Shares r s → is_wall (touch_of r s) ≡ true
unfolding is_wall touch_of touch_on
of_shares r s h = go h.side h.few (stands_on_lem h.side r s h.stands) (on 0 r s) refl (on 1 r s) refl (on 2 r s) refl (on 3 r s) refl
  where
    go : (k : ℕ) → k < 4 → on k r s ≡ true → (a : Bool) → on 0 r s ≡ a → (b : Bool) → on 1 r s ≡ b → (c : Bool) → on 2 r s ≡ c → (d : Bool) → on 3 r s ≡ d
        → is_wall (cond a (wall 0 (facing 0 r s)) (cond b (wall 1 (facing 1 r s)) (cond c (wall 2 (facing 2 r s)) (cond d (wall 3 (facing 3 r s)) clear))))
        ≡ true
    go k l q true e b f c g d h = refl
    go k l q false e true f c g d h = refl
    go k l q false e false f true g d h = refl
    go k l q false e false f false g true h = refl
    go zero l q false e false f false g false h = no_false (sym e ∙ q)
    go (suc zero) l q false e false f false g false h = no_false (sym f ∙ q)
    go (suc (suc zero)) l q false e false f false g false h = no_false (sym g ∙ q)
    go (suc (suc (suc zero))) l q false e false f false g false h = no_false (sym h ∙ q)
    go (suc (suc (suc (suc k)))) l q false e false f false g false h = absurd (omega arith)

-- rectangles that have cells stand on one side only
module _ (r s : Rect) (hr : Solid r) (hs : Solid s) where
  -- the test of a side fails where s does not stand on it
  off : (k : ℕ) → (Stands k r s → ⊥) → on k r s ≡ false
  off k h = go (on k r s) refl
    where
      go : (b : Bool) → on k r s ≡ b → on k r s ≡ false
      go true e = absurd (h (on_stands k r s e))
      go false e = e

  -- the side on which s stands is the one that is told, with how far they reach over one another there
  found : (k : ℕ) → k < 4 → Stands k r s → touch_of r s ≡ wall k (facing k r s)
  unfolding touch_of touch_on
  found zero l w = rw (stands_on_lem 0 r s w)
  found (suc zero) l w =
      rw (off 0 (λ v. omega (arith, v.line, w.starts, w.ends, w.starts', w.ends')), stands_on_lem 1 r s w)
  found (suc (suc zero)) l w =
      rw (
        off 0 (λ v. omega (arith, v.line, w.line, hr.tall, hs.tall)),
        off 1 (λ v. omega (arith, v.line, w.starts, w.ends, w.starts', w.ends')),
        stands_on_lem 2 r s w,
      )
  found (suc (suc (suc zero))) l w =
      rw (
        off 0 (λ v. omega (arith, v.line, w.starts, w.ends, w.starts', w.ends')),
        off 1 (λ v. omega (arith, v.line, w.line, hr.wide, hs.wide)),
        off 2 (λ v. omega (arith, v.line, w.starts, w.ends, w.starts', w.ends')),
        stands_on_lem 3 r s w,
      )
  found (suc (suc (suc (suc k)))) l w = absurd (omega arith)

-- the stretch that two reach over one another
spans_both : (k : ℕ) (r s : Rect) → 1 ≤ facing k r s
    → (a : ℕ) × ((c : ℕ) → (Spans k r c × Spans k s c) ↔ ((a ≤ c) × (c < a + facing k r s)))
unfolding facing overlap
spans_both zero r s h = (
  max r.x1 s.x1,
  λ c. (
    λ b. (omega (arith, b.0.0, b.1.0), omega (arith, b.0.1, b.1.1)),
    λ b. ((omega (arith, b.0), omega (arith, b.1)), (omega (arith, b.0), omega (arith, b.1))),
  ),
)
spans_both (suc zero) r s h = (
  max r.y1 s.y1,
  λ c. (
    λ b. (omega (arith, b.0.0, b.1.0), omega (arith, b.0.1, b.1.1)),
    λ b. ((omega (arith, b.0), omega (arith, b.1)), (omega (arith, b.0), omega (arith, b.1))),
  ),
)
spans_both (suc (suc zero)) r s h = (
  max r.x1 s.x1,
  λ c. (
    λ b. (omega (arith, b.0.0, b.1.0), omega (arith, b.0.1, b.1.1)),
    λ b. ((omega (arith, b.0), omega (arith, b.1)), (omega (arith, b.0), omega (arith, b.1))),
  ),
)
spans_both (suc (suc (suc k))) r s h = (
  max r.y1 s.y1,
  λ c. (
    λ b. (omega (arith, b.0.0, b.1.0), omega (arith, b.0.1, b.1.1)),
    λ b. ((omega (arith, b.0), omega (arith, b.1)), (omega (arith, b.0), omega (arith, b.1))),
  ),
)

-- two stretches of the same units are equally long
same_long : (P : ℕ → Type 0) (a n b m : ℕ) → 1 ≤ n → ((c : ℕ) → P c ↔ ((a ≤ c) × (c < a + n))) → ((c : ℕ) → P c ↔ ((b ≤ c) × (c < b + m))) → n ≡ m
same_long P a n b m h x y =
    let (p, q) = (y a).0 ((x a).1 (omega arith, omega arith)) in
    let (p', q') = (x b).0 ((y b).1 (omega arith, omega arith)) in
    let (l, u) = (y (a + n - 1)).0 ((x (a + n - 1)).1 (omega arith, omega arith)) in
    let (l', u') = (x (b + m - 1)).0 ((y (b + m - 1)).1 (omega arith, omega arith)) in
    omega arith

module _ (r s : Rect) (hr : Solid r) (hs : Solid s) where
  -- WHAT A TOUCH TELLS: side and length exactly as the rectangles stand
  pub touch_exactly : (k n : ℕ) → (touch_of r s ≡ wall k n) ↔ Borders k n r s
  touch_exactly k n = (forth, back)
    where
      as_long : k < 4 → on k r s ≡ true → (n : ℕ) → n ≡ facing k r s → Borders k n r s
      as_long few q n l =
          let (a, x) = spans_both k r s (on_long k r s q) in
          rw l (record { few = few; stands = on_stands k r s q; start = a; exactly = x })

      forth : touch_of r s ≡ wall k n → Borders k n r s
      forth e =
          let (few, q, l) = on_of r s k n e in
          as_long few q n l

      back : Borders k n r s → touch_of r s ≡ wall k n
      back b =
          let h : 1 ≤ facing k r s = on_long k r s (stands_on_lem k r s b.stands) in
          let (a, x) = spans_both k r s h in
          found r s hr hs k b.few b.stands ∙ ap (wall k) (same_long (λ c. Spans k r c × Spans k s c) a (facing k r s) b.start n h x b.exactly)

  -- who stands on side k touches there
  pub touch_stands : (k : ℕ) → k < 4 → Stands k r s → (n : ℕ) × (touch_of r s ≡ wall k n)
  touch_stands k l w = (facing k r s, found r s hr hs k l w)

-- THE OTHER WAY ROUND the side is opposite and the length equal
pub touch_back : (r s : Rect) → Solid r → Solid s → (k n : ℕ) → touch_of r s ≡ wall k n → touch_of s r ≡ wall (opposite k) n
unfolding opposite facing
touch_back r s hr hs k n e = let (few, q, l) = on_of r s k n e in go k few (on_stands k r s q) l
  where
    go : (k : ℕ) → k < 4 → Stands k r s → n ≡ facing k r s → touch_of s r ≡ wall (opposite k) n
    go zero l w q = found s r hs hr 2 (omega arith) w ∙ ap (wall 2) (overlap_back s.x1 s.x2 r.x1 r.x2 ∙ sym q)
    go (suc zero) l w q = found s r hs hr 3 (omega arith) w ∙ ap (wall 3) (overlap_back s.y1 s.y2 r.y1 r.y2 ∙ sym q)
    go (suc (suc zero)) l w q = found s r hs hr 0 (omega arith) w ∙ ap (wall 0) (overlap_back s.x1 s.x2 r.x1 r.x2 ∙ sym q)
    go (suc (suc (suc zero))) l w q = found s r hs hr 1 (omega arith) w ∙ ap (wall 1) (overlap_back s.y1 s.y2 r.y1 r.y2 ∙ sym q)
    go (suc (suc (suc (suc k)))) l w q = absurd (omega arith)
