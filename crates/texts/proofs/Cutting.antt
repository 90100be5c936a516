-- The cuts of a plan as lines, read from their bytes. Assumes nothing.
use Prim.Native.Nat.{ℕ, suc, ◌-◌, ◌*◌, ◌≤◌, ◌<◌}
use mathlib.Core.Path.{◌≡◌, refl, sym, ap, ◌∙◌}
use mathlib.Core.Bool.{Bool, true, false}
use mathlib.Core.Option.{Option, none, some}
use mathlib.Core.List.{List, [], ◌∷◌, ◌++◌, append_assoc, append-nil}
use native.Mathlib.Omega.{arith}
use borrow.Author.Tests.{le-leb}
use lib.Dec.{leb}
use lib.ListN.{length, get_or, take, drop, length-append, length-drop}
use lib.Seq.{take-append_seam}
use Rattle.std.proofs.Common.{take_all}
use Rattle.std.specs.Prelude.{Result, Ok, Err}
use Rattle.floor.specs.Fields.{Bytes, write_field}
use Rattle.floor.proofs.Fields.Laws.{bytes_behind}
use Rattle.floor.specs.Jobs.{SizedJob}
use Rattle.floor.specs.Plans.{Plan}
use Rattle.floor.specs.Quoted.{plain}
use Rattle.floor.specs.Cuts.{Direction, upright, level, Tree, leaf, cut, way_byte, write_tree, plan_tree}
use Rattle.floor.specs.Calls.{empty, holding, refusal, wrote, refuse, writes, writes_tree, step}
use Rattle.floor.proofs.Calls.Bytes.{limits}
use Rattle.floor.specs.Calls.Sound.{Sound}
use Rattle.floor.proofs.Calls.Sliced.{so_many_bytes, cuts_bytes}
use Rattle.floor.specs.Texts.{line, refused_word, answer_text, tree_lines, cut_lines}
use Rattle.refusals.specs.declared.Refusal.{Refusal}
use Rattle.refusals.specs.Numbers.{number_of}
use Rattle.fields.specs.Writes.{replied, writing as written}
use Rattle.cuts.specs.Runs.{tree_bytes, cut_tree, writing}
use Rattle.cuts.proofs.Corollaries.{held_writes}
use Rattle.letters.specs.Puts.{Puts}
use Rattle.letters.proofs.Rows.{both_puts, none_put, named}
use Rattle.texts.proofs.Rows.{one_short, two_short}

-- ---- trees that wait

-- some trees, written one behind the other
unfoldable pub write_all : List Tree → List ℕ
write_all [] = []
write_all (t ∷ ts) = write_tree t ++ write_all ts

-- their lines
unfoldable pub lines_all : List Tree → List ℕ
lines_all [] = []
lines_all (t ∷ ts) = tree_lines t ++ lines_all ts

-- a cut is its own field, and then its parts
bytes_parts : (a : Direction) (c : ℕ) (u v : Tree) (ts : List Tree) → write_all (cut a c u v ∷ ts) ≡ write_field 5 (way_byte a ∷ c ∷ []) ++ write_all (u ∷ v ∷ ts)
unfolding write_all write_tree
bytes_parts a c u v ts =
    append_assoc (write_field 5 (way_byte a ∷ c ∷ [])) (write_tree u ++ write_tree v) (write_all ts)
    ∙ ap (λ (l : List ℕ). write_field 5 (way_byte a ∷ c ∷ []) ++ l) (append_assoc (write_tree u) (write_tree v) (write_all ts))

-- its lines are its own, and then those of its parts
lines_parts : (a : Direction) (c : ℕ) (u v : Tree) (ts : List Tree) → lines_all (cut a c u v ∷ ts) ≡ line (way_byte a ∷ c ∷ []) ++ lines_all (u ∷ v ∷ ts)
unfolding lines_all tree_lines
lines_parts a c u v ts =
    append_assoc (line (way_byte a ∷ c ∷ [])) (tree_lines u ++ tree_lines v) (lines_all ts)
    ∙ ap (λ (l : List ℕ). line (way_byte a ∷ c ∷ []) ++ l) (append_assoc (tree_lines u) (tree_lines v) (lines_all ts))

-- what stands in a cut's field, and behind it
cut_reads : (d g : ℕ) (r : List ℕ)
    → (get_or (write_field 5 (d ∷ g ∷ []) ++ r) 3 0 ≡ d) × (drop 4 (write_field 5 (d ∷ g ∷ []) ++ r) ≡ g ∷ r)
unfolding write_field
cut_reads d g r = (refl, refl)

-- what stands in a leaf's field, and behind it
leaf_reads : (v : ℕ) (r : List ℕ) → (get_or (write_field 6 (v ∷ []) ++ r) 3 0 ≡ v) × (drop 4 (write_field 6 (v ∷ []) ++ r) ≡ r)
unfolding write_field
leaf_reads v r = (refl, refl)

-- A TREE READ SO FAR: some lines are put, and the bytes that are left are those of trees whose lines make up the tree's
pub record Walked (t : Tree) (rest o : List ℕ) (at : ℕ) (x : List ℕ) (m : ℕ) : Type 0 where
  pub done : List ℕ
  pub waits : List Tree
  pub bytes : rest ≡ write_all waits
  pub lines : done ++ lines_all waits ≡ tree_lines t
  pub puts : Puts o at done x m

-- at first the tree itself waits
pub walked_first : (t : Tree) (s o : List ℕ) (at : ℕ) → s ≡ write_tree t → Walked t s o at o at
unfolding write_all lines_all
walked_first t s o at e = record {
  done = [];
  waits = t ∷ [];
  bytes = e ∙ sym (append-nil (write_tree t));
  lines = append-nil (tree_lines t);
  puts = none_put o at;
}

-- what a pattern of so many bytes and the rest leaves
abbrev pub behind : ℕ → List ℕ → List ℕ
behind n s = take (length s - n) (drop n s)

-- it is what stands behind so many
behind_is : (n : ℕ) (s : List ℕ) → n ≤ length s → behind n s ≡ drop n s
behind_is n s h = take_all (length s - n) (drop n s) (simp length-drop (omega arith))

module _ (t : Tree) (s : List ℕ) (o : List ℕ) (at : ℕ) (x : List ℕ) (m : ℕ) (w : Walked t s o at x m) where
  module _ (h : 4 ≤ length s) where
    -- some trees wait
    some_wait : s ≡ [] → ⊥
    some_wait e = let z : length s ≡ 0 = ap (λ (l : List ℕ). length l) e in omega (arith, h)

    module _ (a : ℕ) (ea : a ≡ get_or s 3 0) where
      -- what a tag of 5 tells: a cut's line and its parts
      module _ (five : get_or s 0 0 ≡ 5) where
        -- a cut is read
        abbrev Cut : Type 0
        Cut = (d : Direction) × (g : ℕ) × (u : Tree) × (v : Tree) × (ts : List Tree) × (a ≡ way_byte d) × (behind 4 s ≡ g ∷ write_all (u ∷ v ∷ ts))
            × (w.done ++ (line (way_byte d ∷ g ∷ []) ++ lines_all (u ∷ v ∷ ts)) ≡ tree_lines t)

        cut_read : Cut
        cut_read = go w.waits w.bytes w.lines
          where
            go : (ts : List Tree) → s ≡ write_all ts → w.done ++ lines_all ts ≡ tree_lines t → Cut
            go [] e l = absurd (some_wait (unfold write_all in e))
            go (leaf v ∷ ts) e l =
                unfold write_all write_tree write_field in let z : ◌≡◌ {A = ℕ} 6 5 = sym (ap (λ (r : List ℕ). get_or r 0 0) e) ∙ five in absurd (omega arith)
            go (cut d g u v ∷ ts) e l =
                let f : s ≡ write_field 5 (way_byte d ∷ g ∷ []) ++ write_all (u ∷ v ∷ ts) = e ∙ bytes_parts d g u v ts in
                let (at3, left) = cut_reads (way_byte d) g (write_all (u ∷ v ∷ ts)) in (
                  d,
                  g,
                  u,
                  v,
                  ts,
                  ea ∙ ap (λ (r : List ℕ). get_or r 3 0) f ∙ at3,
                  behind_is 4 s h ∙ ap (λ (r : List ℕ). drop 4 r) f ∙ left,
                  ap (λ (r : List ℕ). w.done ++ r) (sym (lines_parts d g u v ts)) ∙ l,
                )

        -- it has a place
        pub cut_placed : (length (behind 4 s) < 1) → ⊥
        cut_placed k =
            let (d, g, u, v, ts, ew, r, l) = cut_read in
            let z : length (behind 4 s) ≡ suc (length (write_all (u ∷ v ∷ ts))) = ap (λ (r : List ℕ). length r) r in
            omega (arith, z, k)

        -- its line put, its parts wait
        pub walked_cut : (c : ℕ) (y : List ℕ) (k : ℕ) → 1 ≤ length (behind 4 s) → c ≡ get_or (behind 4 s) 0 0 → Puts x m (line (a ∷ c ∷ [])) y k
            → Walked t (behind 1 (behind 4 s)) o at y k
        walked_cut c y k one ec p =
            let (d, g, u, v, ts, ew, r, l) = cut_read in
            let eg : c ≡ g = ec ∙ ap (λ (z : List ℕ). get_or z 0 0) r in
            record {
              done = w.done ++ line (way_byte d ∷ g ∷ []);
              waits = u ∷ v ∷ ts;
              bytes = behind_is 1 (behind 4 s) one ∙ ap (λ (z : List ℕ). drop 1 z) r;
              lines = append_assoc w.done (line (way_byte d ∷ g ∷ [])) (lines_all (u ∷ v ∷ ts)) ∙ l;
              puts = both_puts o x y w.done (line (way_byte d ∷ g ∷ [])) at m k w.puts (rw (ew, eg) at p);
            }

      -- a leaf's line put, the next tree waits
      pub walked_leaf : (y : List ℕ) (k : ℕ) → (get_or s 0 0 ≡ 5 → ⊥) → Puts x m (line (a ∷ [])) y k → Walked t (behind 4 s) o at y k
      walked_leaf y k five p = go w.waits w.bytes w.lines
        where
          go : (ts : List Tree) → s ≡ write_all ts → w.done ++ lines_all ts ≡ tree_lines t → Walked t (behind 4 s) o at y k
          go [] e l = absurd (some_wait (unfold write_all in e))
          go (cut d g u v ∷ ts) e l = absurd (five (unfold write_field in ap (λ (r : List ℕ). get_or r 0 0) (e ∙ bytes_parts d g u v ts)))
          go (leaf v ∷ ts) e l =
              let f : s ≡ write_field 6 (v ∷ []) ++ write_all ts = unfold write_all write_tree in e in
              let (at3, left) = leaf_reads v (write_all ts) in
              let fa : a ≡ v = ea ∙ ap (λ (r : List ℕ). get_or r 3 0) f ∙ at3 in
              let more : w.done ++ (line (v ∷ []) ++ lines_all ts) ≡ tree_lines t = unfold lines_all tree_lines in l in
              record {
                done = w.done ++ line (v ∷ []);
                waits = ts;
                bytes = behind_is 4 s h ∙ ap (λ (r : List ℕ). drop 4 r) f ∙ left;
                lines = append_assoc w.done (line (v ∷ [])) (lines_all ts) ∙ more;
                puts = both_puts o x y w.done (line (v ∷ [])) at m k w.puts (rw fa at p);
              }

  -- with less than a field left, the tree's lines are put
  pub walked_done : length s < 4 → Puts o at (tree_lines t) x m
  walked_done h = go w.waits w.bytes w.lines
    where
      go : (ts : List Tree) → s ≡ write_all ts → w.done ++ lines_all ts ≡ tree_lines t → Puts o at (tree_lines t) x m
      go [] e l = named o w.done (tree_lines t) x at m (sym (append-nil w.done) ∙ unfold lines_all in l) w.puts
      go (leaf v ∷ ts) e l = unfold write_all write_tree write_field in let z = ap (λ (r : List ℕ). length r) e in absurd (omega arith)
      go (cut d g u v ∷ ts) e l = unfold write_field in let z = ap (λ (r : List ℕ). length r) (e ∙ bytes_parts d g u v ts) in absurd (omega arith)

-- ---- how long the lines are

-- the front of bytes is bytes
bytes_before : (a b : List ℕ) → Bytes (a ++ b) → Bytes a
bytes_before [] b h = tt
bytes_before (x ∷ a) b (h, r) = (h, bytes_before a b r)

-- a direction's number is below 2
way_small : (a : Direction) → way_byte a < 2
unfolding way_byte
way_small upright = omega arith
way_small level = omega arith

-- where a tree's numbers are bytes, its lines have at most three times as many bytes as its writing
lines_short : (t : Tree) → Bytes (write_tree t) → length (tree_lines t) ≤ 3 * length (write_tree t)
unfolding write_tree tree_lines write_field
lines_short (leaf v) (_, (_, (_, (h, _)))) = omega (arith, one_short v (omega arith))
lines_short (cut a c s t) (_, (_, (_, (_, (h, hs))))) =
    omega (
      arith,
      length-append (line (way_byte a ∷ c ∷ [])) (tree_lines s ++ tree_lines t),
      length-append (tree_lines s) (tree_lines t),
      length-append (write_tree s) (write_tree t),
      two_short (way_byte a) c (omega (arith, way_small a)) (omega arith),
      lines_short s (bytes_before (write_tree s) (write_tree t) hs),
      lines_short t (bytes_behind (write_tree s) (write_tree t) hs),
    )

module _ (j : SizedJob) (p : Plan) (s : Sound j p) where
  -- THE LINES OF A HELD PLAN'S CUTS have at most 1,605 bytes
  pub cuts_short : length (cut_lines (plan_tree p)) ≤ 1605
  cuts_short = go (plan_tree p) refl
    where
      go : (o : Option Tree) → plan_tree p ≡ o → length (cut_lines o) ≤ 1605
      go none e = unfold cut_lines answer_text refused_word plain in omega (arith, one_short 15 (omega arith))
      go (some t) e = unfold cut_lines in omega (arith, lines_short t (cuts_bytes j p s t e), so_many_bytes j p s t e, (limits j p s).0)

  -- what the writing of a held plan's cuts to some bytes tells of its tree
  module _ (buf : List ℕ) (w : Result ℕ Refusal) (x : List ℕ)
      (e : (replied w ≡ (writing (tree_bytes (cut_tree p)) buf).reply) × (x ≡ (writing (tree_bytes (cut_tree p)) buf).buffer)) where
    -- it is as the rules say
    told : (replied w ≡ (writes_tree (holding j p) (plan_tree p) buf).reply) × (x ≡ (writes_tree (holding j p) (plan_tree p) buf).buffer)
    unfolding step
    told = let h = held_writes j p s buf in (e.0 ∙ h.0, e.1 ∙ h.1)

    -- where so many bytes are written, they are those of the plan's tree
    pub wrote_tree : (n : ℕ) → w ≡ Ok n → (t : Tree) × (plan_tree p ≡ some t) × (take n x ≡ write_tree t)
    wrote_tree n ew = go (plan_tree p) refl told.0 told.1
      where
        of : (t : Tree) (b : Bool) → plan_tree p ≡ some t → replied w ≡ (writes (holding j p) b (write_tree t) buf).reply
            → x ≡ (writes (holding j p) b (write_tree t) buf).buffer → (u : Tree) × (plan_tree p ≡ some u) × (take n x ≡ write_tree u)
        of t true f g h =
            unfold writes replied in
            let m : n ≡ length (write_tree t) = cc in
            (t, f, rw (h, m) (take-append_seam (write_tree t) (drop (length (write_tree t)) buf)))
        of t false f g h = unfold writes refuse replied in let z : ◌≡◌ {A = ℕ} 0 1 = cc in absurd (omega arith)

        go : (o : Option Tree) → plan_tree p ≡ o → replied w ≡ (writes_tree (holding j p) o buf).reply → x ≡ (writes_tree (holding j p) o buf).buffer
            → (u : Tree) × (plan_tree p ≡ some u) × (take n x ≡ write_tree u)
        go none f g h = unfold writes_tree refuse replied in let z : ◌≡◌ {A = ℕ} 0 1 = cc in absurd (omega arith)
        go (some t) f g h = unfold writes_tree in of t (leb (length (write_tree t)) (length buf)) f g h

    -- 535 bytes are never too short: what is refused is refused by 15, and has no tree
    pub no_tree : length buf ≡ 535 → (k : Refusal) → w ≡ Err k → (number_of k ≡ 15) × (plan_tree p ≡ none)
    no_tree l k ew = go (plan_tree p) refl told.0
      where
        one_number : {m n : ℕ} → refusal m ≡ refusal n → m ≡ n
        one_number q = cc

        go : (o : Option Tree) → plan_tree p ≡ o → replied w ≡ (writes_tree (holding j p) o buf).reply → (number_of k ≡ 15) × (plan_tree p ≡ none)
        go none f g =
            unfold writes_tree refuse replied in
            let q : refusal (number_of k) ≡ refusal 15 = rw ew at g in
            (one_number q, f)
        go (some t) f g =
            unfold writes_tree writes replied in
            let z : leb (length (write_tree t)) (length buf) ≡ true
            = le-leb (length (write_tree t)) (length buf) (omega (arith, l, so_many_bytes j p s t f, (limits j p s).0)) in
            let q : refusal (number_of k) ≡ wrote (length (write_tree t)) = rw (ew, z) at g in
            let n : ◌≡◌ {A = ℕ} 0 1 = cc in absurd (omega arith)

    -- ---- what is put

    -- the lines of what was written are those of the plan's cuts
    pub cuts_put : (n : ℕ) (o y : List ℕ) (at r : ℕ) → ((t : Tree) → take n x ≡ write_tree t → Puts o at (tree_lines t) y r) → w ≡ Ok n
        → Puts o at (cut_lines (plan_tree p)) y r
    unfolding cut_lines
    cuts_put n o y at r f ew = let (t, q, g) = wrote_tree n ew in rw q (f t g)

    -- 15 is what is put of a plan without a tree
    pub none_puts : length buf ≡ 535 → (k : Refusal) → w ≡ Err k → (n : ℕ) → n ≡ number_of k → (o y : List ℕ) (at r : ℕ)
        → Puts o at (refused_word ++ line (n ∷ [])) y r → Puts o at (cut_lines (plan_tree p)) y r
    unfolding cut_lines answer_text
    none_puts l k ew n en o y at r f = let (e, z) = no_tree l k ew in rw z (rw (en, e) at f)

-- as many bytes as are told stand there
pub fits_bytes : (o : Option (List ℕ)) (buf x : List ℕ) (w : Result ℕ Refusal) (n : ℕ) → (replied w ≡ (writing o buf).reply) × (x ≡ (writing o buf).buffer) → w ≡ Ok n
    → n ≤ length x
fits_bytes none buf x w n e ew = unfold writing refuse replied in let q = e.0 in let z : ◌≡◌ {A = ℕ} 0 1 = cc in absurd (omega arith)
fits_bytes (some bs) buf x w n e ew = unfold writing written in go (leb (length bs) (length buf)) e.0 e.1
  where
    go : (b : Bool) → replied w ≡ (writes empty b bs buf).reply → x ≡ (writes empty b bs buf).buffer → n ≤ length x
    go true g h =
        unfold writes replied in
        let m : n ≡ length bs = cc in
        let l : length x ≡ length (bs ++ drop (length bs) buf) = ap (λ (z : List ℕ). length z) h in
        omega (arith, l, length-append bs (drop (length bs) buf))
    go false g h = unfold writes refuse replied in let z : ◌≡◌ {A = ℕ} 0 1 = cc in absurd (omega arith)
