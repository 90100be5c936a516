-- The tree's leaves are the rooms, each once; it has one cut fewer, and its bytes are so many. Assumes nothing.
use Rattle.std.specs.Prelude.{ℕ, zero, suc, ◌+◌, ◌*◌, ◌≤◌, ◌<◌, ◌≡◌, refl, Bool, true, leb, eqb}
use Rattle.std.proofs.Math.Path.{ap}
use Rattle.std.proofs.Common.{◌∙◌, arith}
use Rattle.std.proofs.Math.Option.{some}
use mathlib.Core.List.{List, [], ◌∷◌, ◌++◌, Memᴰ}
use Rattle.std.proofs.Math.ListN.{length, length-append}
use Rattle.floor.specs.Lists.Laws.{bit, count}
use Rattle.floor.proofs.Lists.Laws.{count_nil, count_cons, count_append}
use Rattle.floor.specs.Fields.{write_field}
use Rattle.floor.proofs.Fields.Laws.{length_field}
use Rattle.floor.specs.Plans.{Rect}
use Rattle.floor.specs.Cuts.{Direction, begin, end, Within, Cut, low_box, high_box, low_part, high_part, Tree, leaf, cut, span, tree_of, cuts, leaves, way_byte}
use Rattle.floor.specs.Cuts.{write_tree}
use Rattle.floor.proofs.Cuts.Keeping.{count_parts, keep_all}
use Rattle.floor.proofs.Cuts.Filled.{low_mem, high_mem, low_within, high_within, one_part}
use Rattle.floor.proofs.Cuts.Grown.{chosen_cut, low_span, high_span, Divides, tree_none, tree_leaf, tree_divides}

-- rooms within a rectangle, counted in the parts of a cut
pub parts_count : (p : Rect → Bool) (a : Direction) (c : ℕ) (b : Rect) (rs : List Rect) → ((r : Rect) → Memᴰ r rs → Within b r) → Cut a c b rs
    → count p rs ≡ count p (low_part a c rs) + count p (high_part a c rs)
unfolding low_part high_part
parts_count p a c b rs w k = count_parts p (λ r. leb (end a r) c) (λ r. leb c (begin a r)) rs (λ r m. one_part a c b r (w r m) (k.clear r m))

-- a measure of sets that a leaf has of its room, and a cut of its parts together, is the tree's own
module _ (p : Rect → Bool) (m : Tree → ℕ) (at_leaf : (r : Rect) → m (leaf r.vertex) ≡ bit (p r))
    (at_cut : (a : Direction) (c : ℕ) (s t : Tree) → m (cut a c s t) ≡ m s + m t) where
  -- the tree of one room measures how many of that one pass
  of_leaf : (r : Rect) (t : Tree) → leaf r.vertex ≡ t → m t ≡ count p (r ∷ [])
  of_leaf r t e = rw (← e) (omega (arith, at_leaf r, count_cons p r [], count_nil p))

  -- a tree of two rooms or more measures how many of them pass, if the trees of smaller rectangles do
  of_cut : (b : Rect) (rs : List Rect) (t : Tree) → ((r : Rect) → Memᴰ r rs → Within b r) → 2 ≤ length rs → tree_of b rs ≡ some t
      → ((b' : Rect) (l : List Rect) → span b' < span b → ((r : Rect) → Memᴰ r l → Within b' r) → (u : Tree) → tree_of b' l ≡ some u → m u ≡ count p l)
      → m t ≡ count p rs
  of_cut b rs t w h e below =
      let d : Divides b rs t = tree_divides b rs t h e in
      let a : Direction = d.way in
      let c : ℕ = d.place in
      let k : Cut a c b rs = chosen_cut b rs a c d.is_chosen in
      let i : m d.low ≡ count p (low_part a c rs) = below (low_box a c b) (low_part a c rs) (low_span a c b k.after k.before)
      (λ r j. let (q, l) = low_mem a c rs r j in low_within a c b r (w r q) l) d.low d.is_low in
      let g : m d.high ≡ count p (high_part a c rs) = below (high_box a c b) (high_part a c rs) (high_span a c b k.after k.before)
      (λ r j. let (q, l) = high_mem a c rs r j in high_within a c b r (w r q) l) d.high d.is_high in
      rw d.is (omega (arith, at_cut a c d.low d.high, parts_count p a c b rs w k))

  -- EVERY TREE measures how many of its rooms pass
  pub measured : (n : ℕ) (b : Rect) (rs : List Rect) → span b ≤ n → ((r : Rect) → Memᴰ r rs → Within b r) → (t : Tree) → tree_of b rs ≡ some t
      → m t ≡ count p rs
  measured zero b [] h w t e = let z : ◌≡◌ {A = ℕ} 0 1 = cc (tree_none b) in absurd (omega arith)
  measured zero b (r ∷ []) h w t e = of_leaf r t (let q : leaf r.vertex ≡ t = cc (tree_leaf b r) in q)
  measured zero b (r ∷ s ∷ rs) h w t e = of_cut b (r ∷ s ∷ rs) t w (omega arith) e (λ b' l k. absurd (omega arith))
  measured (suc n) b [] h w t e = let z : ◌≡◌ {A = ℕ} 0 1 = cc (tree_none b) in absurd (omega arith)
  measured (suc n) b (r ∷ []) h w t e = of_leaf r t (let q : leaf r.vertex ≡ t = cc (tree_leaf b r) in q)
  measured (suc n) b (r ∷ s ∷ rs) h w t e =
      of_cut b (r ∷ s ∷ rs) t w (omega arith) e (λ b' l k w' u e'. measured n b' l (omega arith) w' u e')

-- a tree is written in five bytes for each cut and four for each leaf
pub tree_length : (t : Tree) → length (write_tree t) ≡ 5 * cuts t + 4 * length (leaves t)
unfolding write_tree cuts leaves
tree_length (leaf v) = length_field 6 (v ∷ [])
tree_length (cut a c s t) =
    omega (
      arith,
      length-append (write_field 5 (way_byte a ∷ c ∷ [])) (write_tree s ++ write_tree t),
      length-append (write_tree s) (write_tree t),
      length_field 5 (way_byte a ∷ c ∷ []),
      length-append (leaves s) (leaves t),
      tree_length s,
      tree_length t,
    )

-- a tree has one cut fewer than leaves
pub cuts_leaves : (t : Tree) → suc (cuts t) ≡ length (leaves t)
unfolding cuts leaves
cuts_leaves (leaf v) = refl
cuts_leaves (cut a c s t) = omega (arith, length-append (leaves s) (leaves t), cuts_leaves s, cuts_leaves t)

-- of rooms within a rectangle
module _ (b : Rect) (rs : List Rect) (w : (r : Rect) → Memᴰ r rs → Within b r) (t : Tree) (e : tree_of b rs ≡ some t) where
  -- EACH ROOM STANDS AT A LEAF AS OFTEN AS IN THE SET
  pub leaves_rooms : (v : ℕ) → count (eqb v) (leaves t) ≡ count (λ r. eqb v r.vertex) rs
  leaves_rooms v = measured (λ r. eqb v r.vertex) (λ t. count (eqb v) (leaves t)) at_leaf at_cut (span b) b rs (omega arith) w t e
    where
      at_leaf : (r : Rect) → count (eqb v) (leaves (leaf r.vertex)) ≡ bit (eqb v r.vertex)
      at_leaf r = unfold leaves in omega (arith, count_cons (eqb v) r.vertex [], count_nil (eqb v))

      at_cut : (a : Direction) (c : ℕ) (s t : Tree) → count (eqb v) (leaves (cut a c s t)) ≡ count (eqb v) (leaves s) + count (eqb v) (leaves t)
      at_cut a c s t = unfold leaves in count_append (eqb v) (leaves s) (leaves t)

  -- AS MANY LEAVES AS ROOMS
  pub leaves_count : length (leaves t) ≡ length rs
  leaves_count =
      measured (λ r. true) (λ t. length (leaves t)) (λ r. unfold leaves in refl) (λ a c s t. unfold leaves in length-append (leaves s) (leaves t)) (span b) b rs
      (omega arith) w t e
      ∙ ap (λ (l : List Rect). length l) (keep_all (λ (r : Rect). true) rs (λ r m. refl))

  -- ONE CUT FEWER than rooms
  pub cuts_count : suc (cuts t) ≡ length rs
  cuts_count = cuts_leaves t ∙ leaves_count

  -- NINE BYTES FOR EACH ROOM, less five
  pub bytes_count : 5 + length (write_tree t) ≡ 9 * length rs
  bytes_count = omega (arith, tree_length t, cuts_leaves t, leaves_count)
