-- The stack of rectangles that wait: what one step does to the bytes, and that there are never too many. Assumes nothing.
use Prim.Native.Nat.{ℕ, zero, suc, ◌+◌, ◌-◌, ◌*◌, ◌%◌, ◌≤◌, ◌<◌}
use mathlib.Core.Path.{◌≡◌, refl, sym, ap, ◌∙◌}
use mathlib.Core.Bool.{Bool, true, false, cond}
use mathlib.Core.Option.{Option, none, some}
use Rattle.std.specs.Prelude.{Option as Answer, Some, None}
use mathlib.Core.List.{List, [], ◌∷◌, ◌++◌, append_assoc, append-nil}
use lib.ListN.{length, get_or, set, take, drop, replicate, length-append, length-set}
use lib.Seq.{sets, sets-eq, take_at, get_or-set_same, get_or-set_other, length-take-le}
use native.Mathlib.Omega.{arith}
use borrow.Author.Tests.{le-leb, lt-leb}
use Rattle.floor.specs.Fields.{write_field}
use Rattle.floor.specs.Plans.{Rect}
use Rattle.floor.specs.Registers.{Partition}
use Rattle.floor.specs.Cuts.{Direction, upright, level, low_box, high_box, Tree, leaf, cut, Choice, no_cut, takes, both, leaves, way_byte, write_tree}
use Rattle.floor.proofs.Cuts.Counted.{tree_length, cuts_leaves}
use Rattle.floor.specs.Cuts.ByWalls.{same_box, leaf_of, wall_choice, tree_by, capped}
use Rattle.floor.proofs.Cuts.ByWalls.{by_leaf, by_none, by_cut}
use Rattle.drawing.specs.declared.Rect.{Rect as HeldRect}
use Rattle.drawing.specs.Rects.{rect_in, in_bytes}
use Rattle.cuts.specs.declared.Task.{Task}
use Rattle.cuts.specs.declared.Task.TheVariants.{Leaf, Upright, Level}
use Rattle.cuts.specs.declared.Act.{Act}
use Rattle.fields.specs.Found.{with_head}
use Rattle.cuts.specs.Tasks.{cut_task, task_of}
use Rattle.cuts.specs.Runs.{tree_bytes, bytes_by, glue, runs, act_of, act_bytes, no_rect, stacked, SlicedAs}

-- bytes of bytes
bytes_append : (a b : List ℕ) → in_bytes (a ++ b) ≡ in_bytes a ++ in_bytes b
unfolding in_bytes
bytes_append [] b = refl
bytes_append (x ∷ a) b = rw (bytes_append a b)

-- as many as before
length_bytes : (a : List ℕ) → length (in_bytes a) ≡ length a
unfolding in_bytes
length_bytes [] = refl
length_bytes (x ∷ a) = ap suc (length_bytes a)

-- glued together in any grouping
glue_glue : (x y z : Option (List ℕ)) → glue (glue x y) z ≡ glue x (glue y z)
unfolding glue
glue_glue none y z = refl
glue_glue (some x) none z = refl
glue_glue (some x) (some y) none = refl
glue_glue (some x) (some y) (some z) = ap some (append_assoc x y z)

-- the bytes of a cut
abbrev pub cut_bytes : Direction → ℕ → List ℕ
cut_bytes a c = in_bytes (write_field 5 (way_byte a ∷ c ∷ []))

-- and then those of both parts
both_bytes : (a : Direction) (c : ℕ) (o q : Option Tree) → tree_bytes (both a c o q) ≡ glue (some (cut_bytes a c)) (glue (tree_bytes o) (tree_bytes q))
unfolding tree_bytes both glue write_tree
both_bytes a c none q = refl
both_bytes a c (some s) none = refl
both_bytes a c (some s) (some t) =
    ap some (bytes_append (write_field 5 (way_byte a ∷ c ∷ [])) (write_tree s ++ write_tree t)
    ∙ ap (λ (l : List ℕ). cut_bytes a c ++ l) (bytes_append (write_tree s) (write_tree t)))

-- a leaf is no cut
never_cut : (b : Rect) (rs : List Rect) (a : Direction) (c : ℕ) (s t : Tree) → leaf_of b rs ≡ some (cut a c s t) → ⊥
unfolding leaf_of
never_cut b [] a c s t e = let z : ◌≡◌ {A = ℕ} 0 1 = cc in omega arith
never_cut b (r ∷ rs) a c s t e = go (same_box b r) e (never_cut b rs a c s t)
  where
    go : (x : Bool) → cond x (some (leaf r.vertex)) (leaf_of b rs) ≡ some (cut a c s t) → (leaf_of b rs ≡ some (cut a c s t) → ⊥) → ⊥
    go true e below = let z : ◌≡◌ {A = ℕ} 0 1 = cc in omega arith
    go false e below = below e

-- what is to be done says what the tree's bytes are
module _ (ws : List Partition) (rs : List Rect) (b : Rect) where
  -- a cut's bytes, and then those of both parts
  cut_bytes_lem : (a : Direction) (c : ℕ) → leaf_of b rs ≡ none → wall_choice b ws ≡ takes a c
      → bytes_by ws rs b ≡ glue (some (cut_bytes a c)) (glue (bytes_by ws rs (low_box a c b)) (bytes_by ws rs (high_box a c b)))
  unfolding bytes_by
  cut_bytes_lem a c e f = ap tree_bytes (by_cut ws rs b a c e f) ∙ both_bytes a c (tree_by ws rs (low_box a c b)) (tree_by ws rs (high_box a c b))

  -- what a task means for the bytes
  abbrev Means : Answer Task → Type 0
  Means None = bytes_by ws rs b ≡ none
  Means (Some (Leaf v)) = bytes_by ws rs b ≡ some (in_bytes (write_field 6 (v ∷ [])))
  Means (Some (Upright c)) = bytes_by ws rs b ≡ glue (some (cut_bytes upright c)) (glue (bytes_by ws rs (low_box upright c b)) (bytes_by ws rs (high_box upright c b)))
  Means (Some (Level c)) = bytes_by ws rs b ≡ glue (some (cut_bytes level c)) (glue (bytes_by ws rs (low_box level c b)) (bytes_by ws rs (high_box level c b)))

  -- without a leaf there is a cut or nothing
  cut_means : leaf_of b rs ≡ none → Means (cut_task (wall_choice b ws))
  unfolding cut_task
  cut_means e = go (wall_choice b ws) refl
    where
      go : (k : Choice) → wall_choice b ws ≡ k → Means (cut_task k)
      go no_cut f = unfold bytes_by tree_bytes in ap tree_bytes (by_none ws rs b e f)
      go (takes upright c) f = cut_bytes_lem upright c e f
      go (takes level c) f = cut_bytes_lem level c e f

  -- what is to be done means what it says
  means : Means (task_of (leaf_of b rs) (wall_choice b ws))
  unfolding task_of
  means = go (leaf_of b rs) refl
    where
      go : (o : Option Tree) → leaf_of b rs ≡ o → Means (task_of o (wall_choice b ws))
      go none e = cut_means e
      go (some (leaf v)) e = unfold bytes_by tree_bytes write_tree in ap tree_bytes (by_leaf ws rs b (leaf v) e)
      go (some (cut a c s t)) e = absurd (never_cut b rs a c s t e)

  -- by its name
  pub task_means : (k : Answer Task) → k ≡ task_of (leaf_of b rs) (wall_choice b ws) → Means k
  task_means k e = rw e means

-- how many bytes
bytes_leaves : (t : Tree) → 5 + length (in_bytes (write_tree t)) ≡ 9 * length (leaves t)
bytes_leaves t = omega (arith, length_bytes (write_tree t), tree_length t, cuts_leaves t)

-- bytes come from a tree
tree_there : (o : Option Tree) (w : List ℕ) → tree_bytes o ≡ some w → (t : Tree) × (o ≡ some t) × (w ≡ in_bytes (write_tree t))
unfolding tree_bytes
tree_there none w e = let z : ◌≡◌ {A = ℕ} 0 1 = cc in absurd (omega arith)
tree_there (some t) w e = (t, refl, cc)

-- four at least
some_length : (o : Option Tree) (w : List ℕ) → tree_bytes o ≡ some w → 4 ≤ length w
some_length o w e =
    let (t, p, q) = tree_there o w e in
    omega (arith, ap (λ (l : List ℕ). length l) q, bytes_leaves t, cuts_leaves t)

-- A TREE OF MORE THAN SIXTY LEAVES HAS MORE THAN 535 BYTES, and counts as none
long_none : (o : Option Tree) (w : List ℕ) → tree_bytes o ≡ some w → 535 < length w → capped 60 o ≡ none
unfolding capped
long_none o w e h =
    let (t, p, q) = tree_there o w e in
    rw (p, lt-leb (length (leaves t)) 60 (omega (arith, ap (λ (l : List ℕ). length l) q, bytes_leaves t)))

-- a tree of at most 535 bytes is kept
short_some : (o : Option Tree) (w : List ℕ) → tree_bytes o ≡ some w → length w ≤ 535 → tree_bytes (capped 60 o) ≡ some w
unfolding capped
short_some o w e h =
    let (t, p, q) = tree_there o w e in
    rw (p, le-leb (length (leaves t)) 60 (omega (arith, ap (λ (l : List ℕ). length l) q, bytes_leaves t))) (ap tree_bytes (sym p) ∙ e)

-- no tree stays none
none_none : (o : Option Tree) → tree_bytes o ≡ none → capped 60 o ≡ none
unfolding tree_bytes capped
none_none none e = refl
none_none (some t) e = let z : ◌≡◌ {A = ℕ} 0 1 = cc in absurd (omega arith)

-- what is glued has both
glue_some : (x y : Option (List ℕ)) (w : List ℕ) → glue x y ≡ some w → (u : List ℕ) × (v : List ℕ) × (x ≡ some u) × (y ≡ some v) × (w ≡ u ++ v)
unfolding glue
glue_some none y w e = let z : ◌≡◌ {A = ℕ} 0 1 = cc in absurd (omega arith)
glue_some (some u) none w e = let z : ◌≡◌ {A = ℕ} 0 1 = cc in absurd (omega arith)
glue_some (some u) (some v) w e = (u, v, refl, refl, cc)

-- each that waits has four bytes at least
runs_length : (ws : List Partition) (rs bs : List Rect) (w : List ℕ) → runs ws rs bs ≡ some w → 4 * length bs ≤ length w
unfolding runs bytes_by
runs_length ws rs [] w e = omega arith
runs_length ws rs (b ∷ bs) w e =
    let (u, v, p, q, r) = glue_some (bytes_by ws rs b) (runs ws rs bs) w e in
    let n : length w ≡ length u + length v = ap (λ (l : List ℕ). length l) r ∙ length-append u v in
    omega (arith, some_length (tree_by ws rs b) u p, runs_length ws rs bs v q)

-- as many as wait
length_stacked : (n : ℕ) (l : List HeldRect) → length (stacked n l) ≡ n
unfolding stacked
length_stacked zero l = refl
length_stacked (suc n) l = ap suc (length_stacked n l)

-- the bytes so far, and those of the rectangles that wait, are the whole
abbrev pub Sofar : List Partition → List Rect → Rect → List ℕ → ℕ → List HeldRect → ℕ → Type 0
Sofar ws rs b buf at stack n = glue (some (take at buf)) (runs ws rs (stacked n stack)) ≡ bytes_by ws rs b

-- MORE BYTES THAN SIXTY ROOMS HAVE: there is no such tree
too_many : (ws : List Partition) (rs : List Rect) (b : Rect) (buf : List ℕ) (at n : ℕ) (stack : List HeldRect) → at ≤ length buf → Sofar ws rs b buf at stack n
    → 535 < at + 4 * n → capped 60 (tree_by ws rs b) ≡ none
unfolding bytes_by
too_many ws rs b buf at n stack fits inv h = go (tree_bytes (tree_by ws rs b)) refl
  where
    go : (o : Option (List ℕ)) → tree_bytes (tree_by ws rs b) ≡ o → capped 60 (tree_by ws rs b) ≡ none
    go none e = none_none (tree_by ws rs b) e
    go (some w) e =
        let (u, v, p, q, r) = glue_some (some (take at buf)) (runs ws rs (stacked n stack)) w (inv ∙ e) in
        let i : take at buf ≡ u = cc in
        let k : length u ≡ at = ap (λ (l : List ℕ). length l) (sym i) ∙ length-take-le at buf fits in
        let m : length w ≡ length u + length v = ap (λ (l : List ℕ). length l) r ∙ length-append u v in
        long_none (tree_by ws rs b) w e (omega (arith, runs_length ws rs (stacked n stack) v q, length_stacked n stack))

-- a rectangle put on the stack does not touch those below
stacked_set : (n i : ℕ) (l : List HeldRect) (r : HeldRect) → n ≤ i → stacked n (set l i r) ≡ stacked n l
unfolding stacked
stacked_set zero i l r h = refl
stacked_set (suc n) i l r h = rw (get_or-set_other l i n r no_rect (λ e. omega arith), stacked_set n i l r (omega arith))

-- two put on top
stacked_two : (n : ℕ) (l : List HeldRect) (x y : HeldRect) → n + 1 < length l
    → stacked (suc (suc n)) (set (set l n x) (n + 1) y) ≡ rect_in y ∷ rect_in x ∷ stacked n l
unfolding stacked
stacked_two n l x y h =
    let e : n + 1 ≡ suc n = omega arith in
    let k : suc n < length (set l n x) = omega (arith, length-set l n x) in
    rw (
      e,
      get_or-set_same (set l n x) (suc n) y no_rect k,
      get_or-set_other (set l n x) (suc n) n y no_rect (λ e. omega arith),
      get_or-set_same l n x no_rect (omega arith),
      stacked_set n (suc n) (set l n x) y (omega arith),
      stacked_set n n l x (omega arith),
    )

-- bytes put behind the front
front_put : (buf k : List ℕ) (at : ℕ) → at + length k ≤ length buf → take (at + length k) (sets buf at k) ≡ take at buf ++ k
front_put buf k at h =
    let n : length (take at buf ++ k) ≡ at + length k = length-append (take at buf) k ∙ ap (λ m. m + length k) (length-take-le at buf (omega arith)) in
    ap (take (at + length k)) (sets-eq k buf at h) ∙ take_at (take at buf ++ k) (drop (at + length k) buf) (at + length k) n

-- how much it puts and how many wait
pub act_size : (k : Task) (b : HeldRect) (r : Act) → r ≡ act_of k b → (r.bytes ≤ 5) × (r.grown ≤ 2) × (4 ≤ r.bytes)
unfolding act_of
act_size (Leaf v) b r e = rw e (omega arith, omega arith, omega arith)
act_size (Upright c) b r e = rw e (omega arith, omega arith, omega arith)
act_size (Level c) b r e = rw e (omega arith, omega arith, omega arith)

-- a byte of a byte
again : (v : ℕ) → in_bytes (write_field 6 (v % 256 ∷ [])) ≡ in_bytes (write_field 6 (v ∷ []))
unfolding in_bytes write_field
again v = let y : v % 256 % 256 ≡ v % 256 = omega arith in rw y

-- a cut's bytes, by the number of its direction
way_bytes : (a : Direction) (c w : ℕ) → way_byte a ≡ w → cut_bytes a c ≡ in_bytes (write_field 5 (w ∷ c ∷ []))
way_bytes a c w e = rw e

-- upright is 0
zero_up : way_byte upright ≡ 0
unfolding way_byte
zero_up = refl

-- level is 1
one_level : way_byte level ≡ 1
unfolding way_byte
one_level = refl

module _ (ws : List Partition) (rs : List Rect) where
  -- a cut: its bytes, and then those of both parts
  grown : (c : ℕ) (h : HeldRect) (stack : List HeldRect) (n : ℕ) → n + 1 < length stack → (x y : HeldRect) (w : ℕ) (k : List ℕ)
      → bytes_by ws rs (rect_in h) ≡ glue (some k) (glue (bytes_by ws rs (rect_in y)) (bytes_by ws rs (rect_in x))) → k ≡ in_bytes (write_field 5 (w ∷ c ∷ []))
      → runs ws rs (rect_in h ∷ stacked n stack) ≡ glue (some (in_bytes (write_field 5 (w ∷ c ∷ [])))) (runs ws rs (stacked (n + 2) (set (set stack n x) (n + 1) y)))
  unfolding runs
  grown c h stack n l x y w k m f =
      let i : n + 2 ≡ suc (suc n) = omega arith in
      ap (λ (o : Option (List ℕ)). glue o (runs ws rs (stacked n stack))) m
      ∙ glue_glue (some k) (glue (bytes_by ws rs (rect_in y)) (bytes_by ws rs (rect_in x))) (runs ws rs (stacked n stack))
      ∙ ap (glue (some k)) (glue_glue (bytes_by ws rs (rect_in y)) (bytes_by ws rs (rect_in x)) (runs ws rs (stacked n stack)))
      ∙ rw (i, stacked_two n stack x y l, f)

  -- a leaf: its bytes
  single : (h : HeldRect) (stack : List HeldRect) (n : ℕ) (k : List ℕ) → bytes_by ws rs (rect_in h) ≡ some k
      → runs ws rs (rect_in h ∷ stacked n stack) ≡ glue (some k) (runs ws rs (stacked n stack))
  unfolding runs
  single h stack n k m = rw m

  -- one step: what is put, and the bytes of what waits then
  onward : (k : Task) (h : HeldRect) (stack : List HeldRect) (n : ℕ) → Some k ≡ task_of (leaf_of (rect_in h) rs) (wall_choice (rect_in h) ws)
      → n + 1 < length stack
      → runs ws rs (rect_in h ∷ stacked n stack) ≡ glue (some (act_bytes (act_of k h).first (act_of k h).second))
      (runs ws rs (stacked (n + (act_of k h).grown) (set (set stack n (act_of k h).high) (n + 1) (act_of k h).low)))
  unfolding act_of act_bytes rect_in
  onward (Leaf v) h stack n e l =
      let m : bytes_by ws rs (rect_in h) ≡ some (in_bytes (write_field 6 (v ∷ []))) = task_means ws rs (rect_in h) (Some (Leaf v)) e in
      let q : in_bytes (write_field 6 (v % 256 ∷ [])) ≡ in_bytes (write_field 6 (v ∷ [])) = again v in
      let i : n + 0 ≡ n = omega arith in
      single h stack n (in_bytes (write_field 6 (v ∷ []))) m
      ∙ rw (q, i, stacked_set n (n + 1) (set stack n h) h (omega arith), stacked_set n n stack h (omega arith))
  onward (Upright c) h stack n e l =
      let m : bytes_by ws rs (rect_in h) ≡ glue (some (cut_bytes upright c)) (glue (bytes_by ws rs (low_box upright c (rect_in h))) (bytes_by ws rs (high_box upright c (rect_in h))))
      = task_means ws rs (rect_in h) (Some (Upright c)) e in
      grown c h stack n l (act_of (Upright c) h).high (act_of (Upright c) h).low 0 (cut_bytes upright c) m (way_bytes upright c 0 zero_up)
  onward (Level c) h stack n e l =
      let m : bytes_by ws rs (rect_in h) ≡ glue (some (cut_bytes level c)) (glue (bytes_by ws rs (low_box level c (rect_in h))) (bytes_by ws rs (high_box level c (rect_in h))))
      = task_means ws rs (rect_in h) (Some (Level c)) e in
      grown c h stack n l (act_of (Level c) h).high (act_of (Level c) h).low 1 (cut_bytes level c) m (way_bytes level c 1 one_level)

-- a field put
module _ (o h : List ℕ) (at a x : ℕ) (q : Answer ℕ) (fits : at + 5 ≤ length o) (ex : x ≡ a % 256) where
  -- a leaf's
  pub put_leaf : q ≡ None → h ≡ with_head o at 6 1 → set h (at + 3) x ≡ sets o at (act_bytes a q)
  unfolding act_bytes in_bytes write_field with_head
  put_leaf en eh =
      let e₃ : at + 3 ≡ suc (suc (suc at)) = omega arith in
      rw (eh, le-leb (at + 3) (length o) (omega arith), en, e₃, ex)

  -- a cut's
  pub put_cut : (c y : ℕ) → q ≡ Some c → h ≡ with_head o at 5 2 → y ≡ c % 256 → set (set h (at + 3) x) (at + 4) y ≡ sets o at (act_bytes a q)
  unfolding act_bytes in_bytes write_field with_head
  put_cut c y en eh ey =
      let e₃ : at + 3 ≡ suc (suc (suc at)) = omega arith in
      let e₄ : at + 4 ≡ suc (suc (suc (suc at))) = omega arith in
      rw (eh, le-leb (at + 3) (length o) (omega arith), en, e₃, e₄, ex, ey)

-- as many bytes as are said
act_length : (k : Task) (b : HeldRect) (r : Act) → r ≡ act_of k b → length (act_bytes r.first r.second) ≡ r.bytes
unfolding act_of act_bytes in_bytes write_field
act_length (Leaf v) b r e = rw e
act_length (Upright c) b r e = rw e
act_length (Level c) b r e = rw e

-- a front of two parts
fold : (x y : List ℕ) (o : Option (List ℕ)) → glue (some (x ++ y)) o ≡ glue (some x) (glue (some y) o)
fold x y o = glue_of x y o ∙ glue_glue (some x) (some y) o
  where
    glue_of : (x y : List ℕ) (o : Option (List ℕ)) → glue (some (x ++ y)) o ≡ glue (glue (some x) (some y)) o
    glue_of x y o = unfold glue in refl

-- THE RUN, from its start to its ends: b waits first, and nothing is put
pub run_start : (ws : List Partition) (rs : List Rect) (buf : List ℕ) (b : HeldRect) → Sofar ws rs (rect_in b) buf 0 (replicate 136 b) 1
unfolding stacked runs
run_start ws rs buf b = go (bytes_by ws rs (rect_in b))
  where
    go : (o : Option (List ℕ)) → glue (some []) (glue o (some [])) ≡ o
    go none = unfold glue in refl
    go (some w) = unfold glue in ap some (append-nil w)

module _ (ws : List Partition) (rs : List Rect) (b : HeldRect) (buf : List ℕ) (at n : ℕ) (stack : List HeldRect) (long : length stack ≡ 136) (wide : length buf ≡ 544)
    (fits : at ≤ 544) (sofar : Sofar ws rs (rect_in b) buf at stack n) where
  -- too many wait, or too much is put
  pub run_many : (x : List ℕ) → 535 < at + 4 * n → SlicedAs None x (capped 60 (tree_by ws rs (rect_in b)))
  unfolding SlicedAs
  run_many x h = too_many ws rs (rect_in b) buf at n stack (omega arith) sofar h

  -- too much was put
  pub run_long : (x : List ℕ) → 535 < at → SlicedAs None x (capped 60 (tree_by ws rs (rect_in b)))
  run_long x h = run_many x (omega arith)

  -- nothing waits
  pub run_done : n ≤ 0 → at ≤ 535 → SlicedAs (Some at) buf (capped 60 (tree_by ws rs (rect_in b)))
  unfolding SlicedAs stacked runs glue bytes_by
  run_done h g =
      let z : n ≡ 0 = omega arith in
      let e : tree_bytes (tree_by ws rs (rect_in b)) ≡ some (take at buf) = sym (rw z at sofar) ∙ ap some (append-nil (take at buf)) in
      (short_some (tree_by ws rs (rect_in b)) (take at buf) e (omega (arith, length-take-le at buf (omega arith))), omega arith)

  module _ (h : HeldRect) (some_wait : 0 < n) (eh : h ≡ get_or stack (n - 1) no_rect) where
    -- the top, and what waits below
    top_first : stacked n stack ≡ rect_in h ∷ stacked (n - 1) stack
    unfolding stacked
    top_first = let i : n ≡ suc (n - 1) = omega arith in ap (λ m. stacked m stack) i ∙ rw eh

    -- nothing can be done with the top
    pub run_stuck : (x : List ℕ) (t : Answer Task) → t ≡ task_of (leaf_of (rect_in h) rs) (wall_choice (rect_in h) ws) → t ≡ None → SlicedAs None x (capped 60 (tree_by ws rs (rect_in b)))
    unfolding SlicedAs runs bytes_by
    run_stuck x t et z =
        none_none (tree_by ws rs (rect_in b)) (sym sofar ∙ rw (top_first) (none_of (bytes_by ws rs (rect_in h))
        (task_means ws rs (rect_in h) None (sym z ∙ et)) (runs ws rs (stacked (n - 1) stack))))
      where
        none_of : (o : Option (List ℕ)) → o ≡ none → (q : Option (List ℕ)) → glue (some (take at buf)) (glue o q) ≡ none
        none_of o e q = unfold glue in rw e

    -- one step on
    pub run_on : (x : List ℕ) (k : Task) (t : Answer Task) (r : Act) → t ≡ task_of (leaf_of (rect_in h) rs) (wall_choice (rect_in h) ws) → t ≡ Some k → r ≡ act_of k h
        → at + 4 * n ≤ 535 → x ≡ sets buf at (act_bytes r.first r.second)
        → Sofar ws rs (rect_in b) x (at + r.bytes) (set (set stack (n - 1) r.high) (n - 1 + 1) r.low) (n - 1 + r.grown)
    run_on x k t r et ek er m ex =
        let y : length (act_bytes r.first r.second) ≡ r.bytes = act_length k h r er in
        let o : runs ws rs (stacked n stack) ≡ glue (some (act_bytes r.first r.second))
        (runs ws rs (stacked (n - 1 + r.grown) (set (set stack (n - 1) r.high) (n - 1 + 1) r.low)))
        = ap (runs ws rs) top_first ∙ (rw (← er) at (onward ws rs k h stack (n - 1) (sym ek ∙ et) (omega arith))) in
        let q : take (at + r.bytes) x ≡ take at buf ++ act_bytes r.first r.second
        = ap (take (at + r.bytes)) ex ∙ (rw y at (front_put buf (act_bytes r.first r.second) at (omega (arith, (act_size k h r er).0)))) in
        rw q (fold (take at buf) (act_bytes r.first r.second)
        (runs ws rs (stacked (n - 1 + r.grown) (set (set stack (n - 1) r.high) (n - 1 + 1) r.low)))
        ∙ sym (ap (glue (some (take at buf))) o) ∙ sofar)

-- at most five bytes are put
pub act_few_bytes : (k : Task) (b : HeldRect) (r : Act) → r ≡ act_of k b → r.bytes ≤ 5
act_few_bytes k b r e = (act_size k b r e).0

-- at most two rectangles wait for one
pub act_few_grown : (k : Task) (b : HeldRect) (r : Act) → r ≡ act_of k b → r.grown ≤ 2
act_few_grown k b r e = (act_size k b r e).1

-- at least four
pub act_some_bytes : (k : Task) (b : HeldRect) (r : Act) → r ≡ act_of k b → 4 ≤ r.bytes
act_some_bytes k b r e = (act_size k b r e).2

-- two stores leave the stack as long as it is
pub twice_set : (s : List HeldRect) (i k : ℕ) (x y : HeldRect) → length s ≡ 136 → length (set (set s i x) k y) ≡ 136
twice_set s i k x y h = length-set (set s i x) k y ∙ length-set s i x ∙ h
