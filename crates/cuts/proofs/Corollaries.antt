-- What follows from the promises of `sliceable` and `write_cuts`. Assumes nothing.
use Prim.Native.Nat.{ℕ}
use mathlib.Core.Path.{◌≡◌, refl, sym, ap, ◌∙◌}
use mathlib.Core.Bool.{Bool, true, false}
use mathlib.Core.Option.{Option, none, some}
use mathlib.Core.List.{List}
use lib.Dec.{leb}
use lib.ListN.{length, take}
use lib.Seq.{take_all}
use native.Mathlib.Omega.{arith}
use Rattle.std.specs.Prelude.{Result, Ok, Err}
use Rattle.floor.specs.Jobs.{SizedJob}
use Rattle.floor.specs.Plans.{Plan}
use Rattle.floor.specs.Registers.{Partition, register}
use Rattle.floor.specs.Calls.{empty, Reply, holding, says, refuse, asks, writes, writes_tree, slices, writes_cuts, step}
use Rattle.floor.specs.Calls.Sound.{Sound}
use Rattle.floor.proofs.Calls.Bytes.{limits}
use Rattle.floor.proofs.Calls.Registered.{held_walls}
use Rattle.floor.proofs.Calls.Sliced.{held_capped, cuts_bytes}
use Rattle.floor.specs.Cuts.{Tree, write_tree, rooms_of, inner, plan_tree, is_tree}
use Rattle.floor.specs.Cuts.ByWalls.{tree_by, capped}
use Rattle.refusals.specs.declared.Refusal.{Refusal}
use Rattle.refusals.specs.Numbers.{number_of}
use Rattle.refusals.proofs.Same.{same_refusal}
use Rattle.fields.specs.Writes.{replied, writing as written}
use Rattle.drawing.proofs.Corollaries.{bytes_kept}
use Rattle.registers.proofs.Corollaries.{kept_right}
use Rattle.cuts.specs.Runs.{tree_bytes, cut_tree, writing}

-- answers to a writing that say the same are one
same_reply : (a b : Result ℕ Refusal) (x : Reply) → replied a ≡ x → replied b ≡ x → a ≡ b
unfolding replied
same_reply (Ok n) (Ok m) x p q = let e : n ≡ m = cc in cc
same_reply (Ok n) (Err e) x p q = absurd (let z : ◌≡◌ {A = ℕ} 0 1 = cc in omega arith)
same_reply (Err e) (Ok m) x p q = absurd (let z : ◌≡◌ {A = ℕ} 0 1 = cc in omega arith)
same_reply (Err e) (Err f) x p q = ap Err (same_refusal e f (let z : number_of e ≡ number_of f = cc in z))

-- THE PROMISE OF `sliceable` ALLOWS ONE ANSWER
pub one_slices : (p : Plan) (a b : Bool) → a ≡ is_tree (cut_tree p) → b ≡ is_tree (cut_tree p) → a ≡ b
one_slices p a b e f = e ∙ sym f

-- THE PROMISE OF `write_cuts` ALLOWS ONE ANSWER AND ONE BUFFER
pub one_cuts_writing : (p : Plan) (o : List ℕ) (a b : Result ℕ Refusal) (x y : List ℕ)
    → (replied a ≡ (writing (tree_bytes (cut_tree p)) o).reply) × (x ≡ (writing (tree_bytes (cut_tree p)) o).buffer)
    → (replied b ≡ (writing (tree_bytes (cut_tree p)) o).reply) × (y ≡ (writing (tree_bytes (cut_tree p)) o).buffer) → (a ≡ b) × (x ≡ y)
one_cuts_writing p o a b x y v w = (same_reply a b (writing (tree_bytes (cut_tree p)) o).reply v.0 w.0, v.1 ∙ sym w.1)

-- OF EVERY PLAN THAT IS HELD
module _ (o : SizedJob) (p : Plan) (s : Sound o p) where
  -- OF A HELD PLAN THE TREE IS THE PLAN'S TREE by the stated choice
  pub held_tree : cut_tree p ≡ plan_tree p
  unfolding cut_tree
  held_tree =
      ap (λ (ws : List Partition). capped 60 (tree_by ws (rooms_of p) (inner p)))
      (ap (take 64) (kept_right o p s) ∙ take_all 64 (register p) (omega (arith, held_walls o p s, (limits o p s).0)))
      ∙ held_capped o p s 60 (omega (arith, (limits o p s).0))

  -- so the answer of `sliceable` is the one that the call asks for
  pub held_slices : says (is_tree (cut_tree p)) ≡ (step (holding o p) slices).reply
  unfolding step asks
  held_slices = ap (λ (x : Option Tree). says (is_tree x)) held_tree

  -- AND WHAT `write_cuts` WRITES IS WHAT THE CALL WRITES
  pub held_writes : (buf : List ℕ)
      → ((writing (tree_bytes (cut_tree p)) buf).reply ≡ (step (holding o p) (writes_cuts buf)).reply)
      × ((writing (tree_bytes (cut_tree p)) buf).buffer ≡ (step (holding o p) (writes_cuts buf)).buffer)
  unfolding step
  held_writes buf = rw held_tree (go (plan_tree p) refl)
    where
      same : (bs cs : List ℕ) → bs ≡ cs
          → ((written bs buf).reply ≡ (writes (holding o p) (leb (length cs) (length buf)) cs buf).reply)
          × ((written bs buf).buffer ≡ (writes (holding o p) (leb (length cs) (length buf)) cs buf).buffer)
      same bs cs e = unfold written in rw e (two (leb (length cs) (length buf)))
        where
          two : (t : Bool) → ((writes empty t cs buf).reply ≡ (writes (holding o p) t cs buf).reply) × ((writes empty t cs buf).buffer ≡ (writes (holding o p) t cs buf).buffer)
          two true = unfold writes in (refl, refl)
          two false = unfold writes refuse in (refl, refl)

      go : (x : Option Tree) → plan_tree p ≡ x
          → ((writing (tree_bytes x) buf).reply ≡ (writes_tree (holding o p) x buf).reply)
          × ((writing (tree_bytes x) buf).buffer ≡ (writes_tree (holding o p) x buf).buffer)
      go none e = unfold writing tree_bytes writes_tree refuse in (refl, refl)
      go (some t) e = unfold writing tree_bytes writes_tree in same _ _ (bytes_kept (write_tree t) (cuts_bytes o p s t e))
