-- The cuts of a held plan, whatever calls were made: it is said to be sliceable exactly if it is, and its tree has every room once. Assumes nothing.
use Rattle.std.specs.Prelude.{ℕ, suc, ◌+◌, ◌*◌, ◌≤◌, ◌↔◌, Bool, List, length, leb, eqb}
use Rattle.std.proofs.Math.Path.{◌≡◌, refl, sym, ap}
use Rattle.std.proofs.Common.{◌∙◌, le-leb}
use Rattle.std.proofs.Math.Bool.{true, false}
use Rattle.std.proofs.Math.Option.{Option, none, some}
use native.Mathlib.Omega.{arith}
use Rattle.floor.specs.Lists.Laws.{count}
use Rattle.floor.proofs.Lists.Laws.{no_false}
use Rattle.floor.specs.Fields.{Bytes}
use Rattle.floor.specs.Jobs.{Room, SizedJob}
use Rattle.floor.specs.Plans.{Plan}
use Rattle.floor.specs.Cuts.{Fills, Sliceable, Tree, span, tree_of, cuts, leaves, write_tree, rooms_of, inner, plan_tree, is_tree}
use Rattle.floor.proofs.Cuts.Grown.{yes_or_no}
use Rattle.floor.proofs.Cuts.Counted.{leaves_rooms, leaves_count, cuts_count, bytes_count}
use Rattle.floor.proofs.Cuts.Bytes.{tree_bytes}
use Rattle.floor.specs.Registers.{register}
use Rattle.floor.specs.Cuts.ByWalls.{tree_by, capped}
use Rattle.floor.proofs.Cuts.Spanned.{tree_by_walls}
use Rattle.floor.proofs.Cuts.Held.{rooms_count, rooms_fill, corners_apart, room_number, room_once}
use Rattle.floor.specs.Calls.{holding, slices, writes_cuts, refusal, says, refuse, asks, writes, writes_tree, step}
use Rattle.floor.specs.Calls.Sound.{Sound}
use Rattle.floor.proofs.Calls.Sound.{some_room, sound_good, sound_thin}
use Rattle.floor.proofs.Calls.Bytes.{limits}

module _ (o : SizedJob) (p : Plan) (s : Sound o p) where
  -- THE ROOMS OF THE HELD PLAN FILL THE RECTANGLE INSIDE THE FRAME
  pub held_fill : Fills (inner p) (rooms_of p)
  held_fill = rooms_fill o.stars s.passes p (sound_good o p s) (sound_thin o p s) (some_room o p s)

  -- THE HELD PLAN HAS A TREE EXACTLY IF ITS FLOOR IS SLICEABLE, whichever cuts are taken first
  pub held_cuts : Sliceable (inner p) (rooms_of p) ↔ ((t : Tree) × (plan_tree p ≡ some t))
  unfolding plan_tree
  held_cuts = yes_or_no (inner p) (rooms_of p) held_fill

  -- THE ANSWER IS YES EXACTLY IF THE FLOOR IS SLICEABLE
  pub slices_exactly : ((step (holding o p) slices).reply ≡ says true) ↔ Sliceable (inner p) (rooms_of p)
  unfolding step asks
  slices_exactly = (λ e. held_cuts.1 (tree_of_lem (plan_tree p) (one_answer e)), λ h. let (t, e) = held_cuts.0 h in unfold is_tree in rw e)
    where
      one_answer : {b c : Bool} → says b ≡ says c → b ≡ c
      one_answer e = cc

      tree_of_lem : (x : Option Tree) → is_tree x ≡ true → (t : Tree) × (x ≡ some t)
      tree_of_lem none e = unfold is_tree in no_false e
      tree_of_lem (some t) e = (t, refl)

  -- the tree is refused by 15 exactly where the floor is not sliceable
  pub unsliceable_exactly : (buf : List ℕ) → ((step (holding o p) (writes_cuts buf)).reply ≡ refusal 15) ↔ (Sliceable (inner p) (rooms_of p) → ⊥)
  unfolding step
  unsliceable_exactly buf = (λ e h. let (t, q) = held_cuts.0 h in no_fifteen t (rw q at e), λ n. go (plan_tree p) refl n)
    where
      one_number : {m n : ℕ} → refusal m ≡ refusal n → m ≡ n
      one_number e = cc

      no_fifteen : (t : Tree) → (writes_tree (holding o p) (some t) buf).reply ≡ refusal 15 → ⊥
      no_fifteen t e = unfold writes_tree in two (leb (length (write_tree t)) (length buf)) e
        where
          two : (b : Bool) → (writes (holding o p) b (write_tree t) buf).reply ≡ refusal 15 → ⊥
          two true e = unfold writes in let z : ◌≡◌ {A = ℕ} 0 1 = cc in omega arith
          two false e = unfold writes refuse in let z : ◌≡◌ {A = ℕ} 14 15 = one_number e in omega arith

      go : (x : Option Tree) → plan_tree p ≡ x → (Sliceable (inner p) (rooms_of p) → ⊥) → (writes_tree (holding o p) x buf).reply ≡ refusal 15
      go none e n = unfold writes_tree refuse in refl
      go (some t) e n = absurd (n (held_cuts.1 (t, e)))

  -- THE TREE of the held plan, where there is one
  module _ (t : Tree) (e : plan_tree p ≡ some t) where
    -- it is the tree of the rooms in the rectangle inside the frame
    tree : tree_of (inner p) (rooms_of p) ≡ some t
    tree = unfold plan_tree in e

    -- EACH ROOM STANDS AT ONE LEAF
    pub each_room_once : (v : ℕ) → Room o.stars v → count (eqb v) (leaves t) ≡ 1
    each_room_once v r =
        leaves_rooms (inner p) (rooms_of p) held_fill.within t tree v ∙ room_once o.stars s.passes p (sound_good o p s) (sound_thin o p s) v r

    -- it has as many leaves as the job has rooms
    pub as_many_leaves : length (leaves t) ≡ length o.stars
    as_many_leaves = leaves_count (inner p) (rooms_of p) held_fill.within t tree ∙ rooms_count o.stars s.passes p (sound_good o p s) (sound_thin o p s)

    -- it has one cut fewer than the job has rooms
    pub one_cut_fewer : suc (cuts t) ≡ length o.stars
    one_cut_fewer = cuts_count (inner p) (rooms_of p) held_fill.within t tree ∙ rooms_count o.stars s.passes p (sound_good o p s) (sound_thin o p s)

    -- written, it has nine bytes for each room, less five
    pub so_many_bytes : 5 + length (write_tree t) ≡ 9 * length o.stars
    so_many_bytes =
        bytes_count (inner p) (rooms_of p) held_fill.within t tree
        ∙ ap (λ n. 9 * n) (rooms_count o.stars s.passes p (sound_good o p s) (sound_thin o p s))

    -- written, it is bytes
    pub cuts_bytes : Bytes (write_tree t)
    unfolding inner
    cuts_bytes =
        tree_bytes (span (inner p)) (inner p) (rooms_of p) (omega arith) (omega (arith, (limits o p s).2), omega (arith, (limits o p s).3))
        (λ r m. omega (arith, (limits o p s).0, room_number o.stars s.passes p (sound_good o p s) (sound_thin o p s) r m)) t tree

  -- THE TREE BY THE WALLS of the plan's register is the plan's tree,
  pub held_by_walls : tree_by (register p) (rooms_of p) (inner p) ≡ plan_tree p
  held_by_walls = tree_by_walls p held_fill (corners_apart o.stars s.passes p (sound_good o p s) (sound_thin o p s))

  -- and none of a tree with room for as many leaves as there are rooms is cut off
  pub held_capped : (n : ℕ) → length o.stars ≤ n → capped n (tree_by (register p) (rooms_of p) (inner p)) ≡ plan_tree p
  unfolding capped
  held_capped n h = ap (capped n) held_by_walls ∙ go (plan_tree p) refl
    where
      go : (t : Option Tree) → plan_tree p ≡ t → capped n t ≡ plan_tree p
      go none e = sym e
      go (some t) e = rw (le-leb (length (leaves t)) n (omega (arith, as_many_leaves t e))) (sym e)
