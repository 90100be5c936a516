-- WHICH CUT IS TAKEN FIRST DOES NOT MATTER: of a sliceable set, both parts of any straight cut are sliceable. Assumes nothing.
use Rattle.std.specs.Prelude.{ℕ, ◌≤◌, ◌<◌, ◌≡◌, refl, ◌⊎◌, Bool, true, false, cond, leb}
use Rattle.std.proofs.Common.{sym, ◌∙◌, inl, inr, arith, le-leb}
use mathlib.Core.List.Memᴰ
use mathlib.Core.List.{List, [], ◌∷◌, Memᴰ}
use Rattle.floor.specs.Lists.{keep}
use Rattle.floor.specs.Plans.{Rect}
use Rattle.floor.specs.Cuts.{Direction, begin, end, Fills, Beside, Cut, low_box, high_box, low_part, high_part, Sliceable, one, sliced}
use Rattle.floor.proofs.Lists.Laws.{mem_keep}
use Rattle.floor.proofs.Cuts.Keeping.{keep_all, keep_swap}
use Rattle.floor.proofs.Cuts.Filled.{within_long, low_mem, high_mem, fills_low, fills_high, fills_some}

-- the line passes beside every room
abbrev Clear : Direction → ℕ → List Rect → Type 0
Clear a c rs = (r : Rect) → Memᴰ r rs → Beside a c r

-- sliceable without the rectangles
data Slices : List Rect → Type 0 where
  whole : {r : Rect} → Slices (r ∷ [])
  parted : {rs : List Rect} (a : Direction) (c : ℕ) → Clear a c rs → Slices (low_part a c rs) → Slices (high_part a c rs) → Slices rs

-- no rooms at all, or sliceable
abbrev Perhaps : List Rect → Type 0
Perhaps rs = (rs ≡ []) ⊎ Slices rs

-- a sliceable set has a room
slices_some : (rs : List Rect) → Slices rs → (r : Rect) × Memᴰ r rs
slices_some _ (whole {r}) = (r, Memᴰ.head refl)
slices_some rs (parted a c k s t) = let (r, m) = slices_some (low_part a c rs) s in (r, (low_mem a c rs r m).0)

-- a room that ends at place c or before it is in the left or lower part
low_has : (a : Direction) (c : ℕ) (rs : List Rect) (r : Rect) → Memᴰ r rs → end a r ≤ c → Memᴰ r (low_part a c rs)
unfolding low_part
low_has a c rs r m h = mem_keep (λ r. leb (end a r) c) rs r m (le-leb (end a r) c h)

-- a room that begins at place c or behind it is in the right or upper part
high_has : (a : Direction) (c : ℕ) (rs : List Rect) (r : Rect) → Memᴰ r rs → c ≤ begin a r → Memᴰ r (high_part a c rs)
unfolding high_part
high_has a c rs r m h = mem_keep (λ r. leb c (begin a r)) rs r m (le-leb c (begin a r) h)

-- a set of no rooms has no member
no_member : {X : Type 0} (rs : List Rect) (r : Rect) → rs ≡ [] → Memᴰ r rs → X
no_member rs r e m = absurd (Memᴰ.not-nil (rw e at m))

-- where the right or upper part of a clear line is empty, the left or lower part is the whole set
low_all : (a : Direction) (c : ℕ) (rs : List Rect) → Clear a c rs → high_part a c rs ≡ [] → low_part a c rs ≡ rs
unfolding low_part
low_all a c rs k e = keep_all (λ r. leb (end a r) c) rs (λ r m. go r m (k r m))
  where
    go : (r : Rect) → Memᴰ r rs → Beside a c r → leb (end a r) c ≡ true
    go r m (inl h) = le-leb (end a r) c h
    go r m (inr h) = no_member (high_part a c rs) r e (high_has a c rs r m h)

-- where the left or lower part of a clear line is empty, the right or upper part is the whole set
high_all : (a : Direction) (c : ℕ) (rs : List Rect) → Clear a c rs → low_part a c rs ≡ [] → high_part a c rs ≡ rs
unfolding high_part
high_all a c rs k e = keep_all (λ r. leb c (begin a r)) rs (λ r m. go r m (k r m))
  where
    go : (r : Rect) → Memᴰ r rs → Beside a c r → leb c (begin a r) ≡ true
    go r m (inl h) = no_member (low_part a c rs) r e (low_has a c rs r m h)
    go r m (inr h) = le-leb c (begin a r) h

-- parts put together again
rejoin : (a : Direction) (c : ℕ) (rs : List Rect) → Clear a c rs → Perhaps (low_part a c rs) → Perhaps (high_part a c rs) → Perhaps rs
rejoin a c rs k (inl e) (inl f) = inl (sym (high_all a c rs k e) ∙ f)
rejoin a c rs k (inl e) (inr t) = inr (rw (high_all a c rs k e) at t)
rejoin a c rs k (inr s) (inl f) = inr (rw (low_all a c rs k f) at s)
rejoin a c rs k (inr s) (inr t) = inr (parted a c k s t)

-- the low part by one line of the low part by another is the same in either order
low_low : (a d : Direction) (c e : ℕ) (rs : List Rect) → low_part a c (low_part d e rs) ≡ low_part d e (low_part a c rs)
unfolding low_part
low_low a d c e rs = keep_swap _ _ rs

-- the low part by one line of the high part by another is the same in either order
low_high : (a d : Direction) (c e : ℕ) (rs : List Rect) → low_part a c (high_part d e rs) ≡ high_part d e (low_part a c rs)
unfolding low_part high_part
low_high a d c e rs = keep_swap _ _ rs

-- the high part by one line of the high part by another is the same in either order
high_high : (a d : Direction) (c e : ℕ) (rs : List Rect) → high_part a c (high_part d e rs) ≡ high_part d e (high_part a c rs)
unfolding high_part
high_high a d c e rs = keep_swap _ _ rs

-- of one room, the left or lower part of any line is empty or sliceable
one_low : (a : Direction) (c : ℕ) (r : Rect) → Perhaps (low_part a c (r ∷ []))
unfolding low_part keep
one_low a c r = go (leb (end a r) c)
  where
    go : (b : Bool) → Perhaps (cond b (r ∷ []) [])
    go true = inr whole
    go false = inl refl

-- of one room, the right or upper part of any line is empty or sliceable
one_high : (a : Direction) (c : ℕ) (r : Rect) → Perhaps (high_part a c (r ∷ []))
unfolding high_part keep
one_high a c r = go (leb c (begin a r))
  where
    go : (b : Bool) → Perhaps (cond b (r ∷ []) [])
    go true = inr whole
    go false = inl refl

-- of a sliceable set, both parts of any line are empty or sliceable
perhaps : (rs : List Rect) → Slices rs → (a : Direction) (c : ℕ) → Perhaps (low_part a c rs) × Perhaps (high_part a c rs)
perhaps _ (whole {r}) a c = (one_low a c r, one_high a c r)
perhaps rs (parted d e k s t) a c =
    let (p, q) = perhaps (low_part d e rs) s a c in
    let (u, v) = perhaps (high_part d e rs) t a c in (
      rejoin d e (low_part a c rs) (λ r m. k r (low_mem a c rs r m).0) (rw (low_low a d c e rs) at p) (rw (low_high a d c e rs) at u),
      rejoin d e (high_part a c rs) (λ r m. k r (high_mem a c rs r m).0) (rw (← low_high d a e c rs) at q) (rw (high_high a d c e rs) at v),
    )

-- a set that is sliceable in a rectangle is sliceable without it
forget : (b : Rect) (rs : List Rect) → Sliceable b rs → Slices rs
forget b _ one = whole
forget b rs (sliced a c f k s t) = parted a c k.clear (forget (low_box a c b) (low_part a c rs) s) (forget (high_box a c b) (high_part a c rs) t)

-- a set that is sliceable without the rectangles, and fills one, is sliceable in it
refit : (b : Rect) (rs : List Rect) → Slices rs → Fills b rs → Sliceable b rs
refit b _ whole f = one
refit b rs (parted a c k s t) f =
    let cut : Cut a c b rs = across in
    sliced a c f cut (refit (low_box a c b) (low_part a c rs) s (fills_low a c b rs f cut))
    (refit (high_box a c b) (high_part a c rs) t (fills_high a c b rs f cut))
  where
    across : Cut a c b rs
    across =
        let (r, m) = slices_some (low_part a c rs) s in
        let (q, n) = slices_some (high_part a c rs) t in
        let (i, h) = low_mem a c rs r m in
        let (j, g) = high_mem a c rs q n in
        let w : (begin a r < end a r) × (begin a b ≤ begin a r) × (end a r ≤ end a b) = within_long a b r (f.within r i) in
        let v : (begin a q < end a q) × (begin a b ≤ begin a q) × (end a q ≤ end a b) = within_long a b q (f.within q j) in
        record { after = omega (arith, w.0, w.1); before = omega (arith, v.0, v.1); clear = k }

-- A SLICEABLE SET CUT STRAIGHT ANYWHERE HAS SLICEABLE PARTS: the yes or no does not depend on which cut is taken first
pub any_cut : (b : Rect) (rs : List Rect) → Fills b rs → Sliceable b rs → (a : Direction) (c : ℕ) → Cut a c b rs
    → Sliceable (low_box a c b) (low_part a c rs) × Sliceable (high_box a c b) (high_part a c rs)
any_cut b rs f s a c k =
    let (p, q) = perhaps rs (forget b rs s) a c in (low p, high q)
  where
    low : Perhaps (low_part a c rs) → Sliceable (low_box a c b) (low_part a c rs)
    low (inl e) = absurd (fills_some (low_box a c b) (rw e at (fills_low a c b rs f k)))
    low (inr t) = refit (low_box a c b) (low_part a c rs) t (fills_low a c b rs f k)

    high : Perhaps (high_part a c rs) → Sliceable (high_box a c b) (high_part a c rs)
    high (inl e) = absurd (fills_some (high_box a c b) (rw e at (fills_high a c b rs f k)))
    high (inr t) = refit (high_box a c b) (high_part a c rs) t (fills_high a c b rs f k)
