-- A tree's bytes are bytes, where the places of its rectangle and the numbers of its rooms are. Assumes nothing.
use Rattle.std.specs.Prelude.{ℕ, zero, suc, ◌≤◌, ◌<◌, ◌≡◌, refl, length}
use Rattle.std.proofs.Math.Option.{some}
use mathlib.Core.List.{List, [], ◌∷◌, ◌++◌, Memᴰ}
use Rattle.std.proofs.Common.{arith}
use Rattle.floor.specs.Fields.{Bytes, write_field}
use Rattle.floor.proofs.Fields.Laws.{bytes_append, bytes_field}
use Rattle.floor.specs.Plans.{Rect}
use Rattle.floor.specs.Cuts.{Direction, upright, level, end, Cut, low_box, high_box, low_part, high_part, Tree, leaf, cut, span, tree_of, way_byte, write_tree}
use Rattle.floor.proofs.Cuts.Filled.{low_mem, high_mem}
use Rattle.floor.proofs.Cuts.Grown.{chosen_cut, low_span, high_span, Divides, tree_none, tree_leaf, tree_divides}

-- the rectangle ends at 256 or before it, so that no place inside it is over 255
abbrev pub Reach : Rect → Type 0
Reach b = (b.x2 ≤ 256) × (b.y2 ≤ 256)

-- no room's number is over 255
abbrev pub Numbers : List Rect → Type 0
Numbers rs = (r : Rect) → Memᴰ r rs → r.vertex < 256

-- the left or lower part of a cut reaches no further than the rectangle
low_reach : (a : Direction) (c : ℕ) (b : Rect) → c < end a b → Reach b → Reach (low_box a c b)
low_reach upright c b h w = (omega (arith, w.0), w.1)
low_reach level c b h w = (w.0, omega (arith, w.1))

-- the right or upper part of a cut reaches no further than the rectangle
high_reach : (a : Direction) (c : ℕ) (b : Rect) → Reach b → Reach (high_box a c b)
high_reach upright c b w = w
high_reach level c b w = w

-- the place of a cut across such a rectangle is not over 255
place_reach : (a : Direction) (c : ℕ) (b : Rect) → c < end a b → Reach b → c < 256
place_reach upright c b h w = omega (arith, w.0)
place_reach level c b h w = omega (arith, w.1)

-- a direction's number is a byte
way_byte_lem : (a : Direction) → way_byte a < 256
unfolding way_byte
way_byte_lem upright = omega arith
way_byte_lem level = omega arith

-- a leaf is written in bytes, where its room's number is one
leaf_bytes : (v : ℕ) → v < 256 → Bytes (write_tree (leaf v))
unfolding write_tree
leaf_bytes v h = bytes_field 6 (v ∷ []) (omega arith) (omega arith) (h, tt)

-- a cut is written in bytes, where its place is one and its two parts are written in bytes
cut_bytes_lem : (a : Direction) (c : ℕ) (s t : Tree) → c < 256 → Bytes (write_tree s) → Bytes (write_tree t) → Bytes (write_tree (cut a c s t))
unfolding write_tree
cut_bytes_lem a c s t h x y =
    bytes_append (write_field 5 (way_byte a ∷ c ∷ [])) (write_tree s ++ write_tree t)
    (bytes_field 5 (way_byte a ∷ c ∷ []) (omega arith) (omega arith) (way_byte_lem a, (h, tt))) (bytes_append (write_tree s) (write_tree t) x y)

-- the tree of one room is written in bytes, where the room's number is one
of_leaf : (r : Rect) (t : Tree) → r.vertex < 256 → leaf r.vertex ≡ t → Bytes (write_tree t)
of_leaf r t h e = rw (← e) (leaf_bytes r.vertex h)

-- a tree of two rooms or more is written in bytes, if the trees of smaller rectangles are
of_cut : (b : Rect) (rs : List Rect) (t : Tree) → Reach b → Numbers rs → 2 ≤ length rs → tree_of b rs ≡ some t
    → ((b' : Rect) (l : List Rect) → span b' < span b → Reach b' → Numbers l → (u : Tree) → tree_of b' l ≡ some u → Bytes (write_tree u))
    → Bytes (write_tree t)
of_cut b rs t w n h e below =
    let d : Divides b rs t = tree_divides b rs t h e in
    let a : Direction = d.way in
    let c : ℕ = d.place in
    let k : Cut a c b rs = chosen_cut b rs a c d.is_chosen in
    let x : Bytes (write_tree d.low) = below (low_box a c b) (low_part a c rs) (low_span a c b k.after k.before) (low_reach a c b k.before w)
    (λ r m. n r (low_mem a c rs r m).0) d.low d.is_low in
    let y : Bytes (write_tree d.high) = below (high_box a c b) (high_part a c rs) (high_span a c b k.after k.before) (high_reach a c b w)
    (λ r m. n r (high_mem a c rs r m).0) d.high d.is_high in
    rw d.is (cut_bytes_lem a c d.low d.high (place_reach a c b k.before w) x y)

-- A TREE'S BYTES
pub tree_bytes : (n : ℕ) (b : Rect) (rs : List Rect) → span b ≤ n → Reach b → Numbers rs → (t : Tree) → tree_of b rs ≡ some t → Bytes (write_tree t)
tree_bytes zero b [] h w m t e = let z : ◌≡◌ {A = ℕ} 0 1 = cc (tree_none b) in absurd (omega arith)
tree_bytes zero b (r ∷ []) h w m t e = of_leaf r t (m r (Memᴰ.head refl)) (let q : leaf r.vertex ≡ t = cc (tree_leaf b r) in q)
tree_bytes zero b (r ∷ s ∷ rs) h w m t e = of_cut b (r ∷ s ∷ rs) t w m (omega arith) e (λ b' l k. absurd (omega arith))
tree_bytes (suc n) b [] h w m t e = let z : ◌≡◌ {A = ℕ} 0 1 = cc (tree_none b) in absurd (omega arith)
tree_bytes (suc n) b (r ∷ []) h w m t e = of_leaf r t (m r (Memᴰ.head refl)) (let q : leaf r.vertex ≡ t = cc (tree_leaf b r) in q)
tree_bytes (suc n) b (r ∷ s ∷ rs) h w m t e =
    of_cut b (r ∷ s ∷ rs) t w m (omega arith) e (λ b' l k w' m' u e'. tree_bytes n b' l (omega arith) w' m' u e')
