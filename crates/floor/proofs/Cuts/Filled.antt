-- A set that fills a rectangle, cut straight: both parts fill theirs. Assumes nothing.
use Rattle.std.specs.Prelude.{ℕ, ◌+◌, ◌≤◌, ◌<◌, ◌≡◌, true, ltb}
use Rattle.std.proofs.Math.Path.{ap}
use Rattle.std.proofs.Common.{◌∙◌, inl, inr, arith}
use mathlib.Core.List.{List, [], Memᴰ}
use Rattle.std.proofs.Math.ListN.{length}
use Rattle.std.proofs.Math.Dec.{leb}
use borrow.Author.Tests.{leb-true, ltb-true, le-leb, lt-leb, lt-ltb}
use Rattle.floor.specs.Lists.{keep}
use Rattle.floor.specs.Lists.Laws.{bit}
use Rattle.floor.proofs.Lists.Laws.{keep_mem, and_parts}
use Rattle.floor.specs.Plans.{Rect}
use Rattle.floor.specs.Floor.{Cell}
use Rattle.floor.specs.Cuts.{Direction, upright, level, begin, end, holds, Within, Fills, Beside, Cut, low_box, high_box, low_part, high_part}
use Rattle.floor.proofs.Cuts.Keeping.{keep_under}

-- a cell that passes the test lies in r
pub holds_cell : (x y : ℕ) (r : Rect) → holds x y r ≡ true → Cell r x y
unfolding holds
holds_cell x y r e =
    let (f, d) = and_parts _ (ltb y r.y2) e in
    let (g, c) = and_parts _ (leb r.y1 y) f in
    let (a, b) = and_parts (leb r.x1 x) (ltb x r.x2) g in
    record { left = leb-true r.x1 x a; right = ltb-true x r.x2 b; lower = leb-true r.y1 y c; upper = ltb-true y r.y2 d }

-- a cell that lies in r passes the test
pub cell_holds : (x y : ℕ) (r : Rect) → Cell r x y → holds x y r ≡ true
unfolding holds
cell_holds x y r c = rw (le-leb r.x1 x c.left, lt-ltb x r.x2 c.right, le-leb r.y1 y c.lower, lt-ltb y r.y2 c.upper)

-- a room has at least a cell along either direction, and lies in its rectangle
pub within_long : (a : Direction) (b r : Rect) → Within b r → (begin a r < end a r) × (begin a b ≤ begin a r) × (end a r ≤ end a b)
within_long upright b r w = (w.wide, w.left, w.right)
within_long level b r w = (w.tall, w.lower, w.upper)

-- a room of the left or lower part is one of the whole set, and ends at place c or before it
pub low_mem : (a : Direction) (c : ℕ) (rs : List Rect) (r : Rect) → Memᴰ r (low_part a c rs) → Memᴰ r rs × (end a r ≤ c)
unfolding low_part
low_mem a c rs r m = let (i, e) = keep_mem (λ r. leb (end a r) c) rs r m in (i, leb-true (end a r) c e)

-- a room of the right or upper part is one of the whole set, and begins at place c or behind it
pub high_mem : (a : Direction) (c : ℕ) (rs : List Rect) (r : Rect) → Memᴰ r (high_part a c rs) → Memᴰ r rs × (c ≤ begin a r)
unfolding high_part
high_mem a c rs r m = let (i, e) = keep_mem (λ r. leb c (begin a r)) rs r m in (i, leb-true c (begin a r) e)

-- a room of the rectangle that ends at place c or before it lies in the left or lower part
pub low_within : (a : Direction) (c : ℕ) (b r : Rect) → Within b r → end a r ≤ c → Within (low_box a c b) r
low_within upright c b r w h = record { wide = w.wide; tall = w.tall; left = w.left; right = h; lower = w.lower; upper = w.upper }
low_within level c b r w h = record { wide = w.wide; tall = w.tall; left = w.left; right = w.right; lower = w.lower; upper = h }

-- a room of the rectangle that begins at place c or behind it lies in the right or upper part
pub high_within : (a : Direction) (c : ℕ) (b r : Rect) → Within b r → c ≤ begin a r → Within (high_box a c b) r
high_within upright c b r w h = record { wide = w.wide; tall = w.tall; left = h; right = w.right; lower = w.lower; upper = w.upper }
high_within level c b r w h = record { wide = w.wide; tall = w.tall; left = w.left; right = w.right; lower = h; upper = w.upper }

-- each room stands in one part and not in both
pub one_part : (a : Direction) (c : ℕ) (b r : Rect) → Within b r → Beside a c r → bit (leb (end a r) c) + bit (leb c (begin a r)) ≡ 1
one_part a c b r w (inl h) =
    let l : begin a r < end a r = (within_long a b r w).0 in
    rw (le-leb (end a r) c h, lt-leb c (begin a r) (omega arith))
one_part a c b r w (inr h) =
    let l : begin a r < end a r = (within_long a b r w).0 in
    rw (le-leb c (begin a r) h, lt-leb (end a r) c (omega arith))

-- a room beside the line that has a cell of the left or lower part ends at place c or before it
low_cell : (a : Direction) (c x y : ℕ) (b r : Rect) → c < end a b → Cell (low_box a c b) x y → Beside a c r → Cell r x y → end a r ≤ c
low_cell upright c x y b r h d (inl k) e = k
low_cell upright c x y b r h d (inr k) e = absurd (omega (arith, d.right, e.left))
low_cell level c x y b r h d (inl k) e = k
low_cell level c x y b r h d (inr k) e = absurd (omega (arith, d.upper, e.lower))

-- a room beside the line that has a cell of the right or upper part begins at place c or behind it
high_cell : (a : Direction) (c x y : ℕ) (b r : Rect) → begin a b < c → Cell (high_box a c b) x y → Beside a c r → Cell r x y → c ≤ begin a r
high_cell upright c x y b r h d (inr k) e = k
high_cell upright c x y b r h d (inl k) e = absurd (omega (arith, d.left, e.right))
high_cell level c x y b r h d (inr k) e = k
high_cell level c x y b r h d (inl k) e = absurd (omega (arith, d.lower, e.upper))

-- a cell of the left or lower part is a cell of the rectangle
low_whole : (a : Direction) (c x y : ℕ) (b : Rect) → c < end a b → Cell (low_box a c b) x y → Cell b x y
low_whole upright c x y b h d = record { left = d.left; right = omega (arith, d.right); lower = d.lower; upper = d.upper }
low_whole level c x y b h d = record { left = d.left; right = d.right; lower = d.lower; upper = omega (arith, d.upper) }

-- a cell of the right or upper part is a cell of the rectangle
high_whole : (a : Direction) (c x y : ℕ) (b : Rect) → begin a b < c → Cell (high_box a c b) x y → Cell b x y
high_whole upright c x y b h d = record { left = omega (arith, d.left); right = d.right; lower = d.lower; upper = d.upper }
high_whole level c x y b h d = record { left = d.left; right = d.right; lower = omega (arith, d.lower); upper = d.upper }

-- where the rectangle has a cell and begins before place c, its left or lower part has a cell
low_wide : (a : Direction) (c : ℕ) (b : Rect) → b.x1 < b.x2 → b.y1 < b.y2 → begin a b < c
    → ((low_box a c b).x1 < (low_box a c b).x2) × ((low_box a c b).y1 < (low_box a c b).y2)
low_wide upright c b w t h = (h, t)
low_wide level c b w t h = (w, h)

-- where the rectangle has a cell and ends behind place c, its right or upper part has a cell
high_wide : (a : Direction) (c : ℕ) (b : Rect) → b.x1 < b.x2 → b.y1 < b.y2 → c < end a b
    → ((high_box a c b).x1 < (high_box a c b).x2) × ((high_box a c b).y1 < (high_box a c b).y2)
high_wide upright c b w t h = (h, t)
high_wide level c b w t h = (w, h)

module _ (a : Direction) (c : ℕ) (b : Rect) (rs : List Rect) (f : Fills b rs) (k : Cut a c b rs) where
  -- CUT STRAIGHT, THE ROOMS OF THE LEFT OR LOWER PART FILL ITS RECTANGLE
  pub fills_low : Fills (low_box a c b) (low_part a c rs)
  unfolding low_part
  fills_low = record {
    wide = (low_wide a c b f.wide f.tall k.after).0;
    tall = (low_wide a c b f.wide f.tall k.after).1;
    within = λ r m. let (i, e) = low_mem a c rs r m in low_within a c b r (f.within r i) e;
    once = λ x y d.
        ap (λ (l : List Rect). length l) (keep_under (holds x y) (λ r. leb (end a r) c) rs
        (λ r m h. le-leb (end a r) c (low_cell a c x y b r k.before d (k.clear r m) (holds_cell x y r h))))
        ∙ f.once x y (low_whole a c x y b k.before d);
  }

  -- CUT STRAIGHT, THE ROOMS OF THE RIGHT OR UPPER PART FILL ITS RECTANGLE
  pub fills_high : Fills (high_box a c b) (high_part a c rs)
  unfolding high_part
  fills_high = record {
    wide = (high_wide a c b f.wide f.tall k.before).0;
    tall = (high_wide a c b f.wide f.tall k.before).1;
    within = λ r m. let (i, e) = high_mem a c rs r m in high_within a c b r (f.within r i) e;
    once = λ x y d.
        ap (λ (l : List Rect). length l) (keep_under (holds x y) (λ r. leb c (begin a r)) rs
        (λ r m h. le-leb c (begin a r) (high_cell a c x y b r k.after d (k.clear r m) (holds_cell x y r h))))
        ∙ f.once x y (high_whole a c x y b k.after d);
  }

-- no rectangle is filled by no rooms
pub fills_some : (b : Rect) → Fills b [] → ⊥
unfolding keep
fills_some b f = omega (arith, f.once b.x1 b.y1 (record { left = omega arith; right = f.wide; lower = omega arith; upper = f.tall }))
