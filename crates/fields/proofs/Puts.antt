-- Bytes put into a lent buffer, as the code comes by them. Assumes nothing.
use Prim.Native.Nat.{ℕ, suc, ◌+◌, ◌≤◌, ◌<◌}
use mathlib.Core.Path.{◌≡◌, ◌∙◌}
use mathlib.Core.Bool.{true, false}
use mathlib.Core.List.{List, [], ◌∷◌, ◌++◌}
use native.Mathlib.Omega.{arith}
use borrow.Author.Tests.{le-leb, lt-leb}
use lib.Dec.{leb}
use lib.ListN.{length, set}
use lib.Seq.{sets, sets-eq}
use Rattle.floor.specs.Calls.{refuse, writes}
use Rattle.std.specs.Prelude.{Ok, Err}
use Rattle.refusals.specs.declared.Refusal.TheVariants.{TooShort}
use Rattle.refusals.specs.Numbers.{number_of}
use Rattle.fields.specs.Writes.{replied, writing}

-- bytes put at a place and others put behind them are the two put as one
pub sets_append : (l : List ℕ) (i : ℕ) (xs ys : List ℕ) → sets l i (xs ++ ys) ≡ sets (sets l i xs) (i + length xs) ys
sets_append l i [] ys = let e : i + 0 ≡ i = omega arith in rw e
sets_append l i (x ∷ xs) ys =
    let e : i + suc (length xs) ≡ suc i + length xs = omega arith in
    rw e (sets_append (set l i x) (suc i) xs ys)

-- a writing refuses, or fills the front
module _ (bs o : List ℕ) where
  -- too short a buffer: refused, and the buffer as it was
  pub short_writes : length o < length bs → (replied (Err TooShort) ≡ (writing bs o).reply) × (o ≡ (writing bs o).buffer)
  unfolding replied number_of writing writes refuse
  short_writes k =
      let z : leb (length bs) (length o) ≡ false = lt-leb (length bs) (length o) k in
      (rw z, rw z)

  -- a buffer with room: the length is told, and the front filled
  pub front_writes : (x : List ℕ) (l : ℕ) → l ≡ length bs → x ≡ sets o 0 bs → length bs ≤ length o
      → (replied (Ok l) ≡ (writing bs o).reply) × (x ≡ (writing bs o).buffer)
  unfolding replied number_of writing writes
  front_writes x l e ex k =
      let z : leb (length bs) (length o) ≡ true = le-leb (length bs) (length o) k in
      let d : 0 + length bs ≡ length bs = omega arith in
      (rw (z, ← e), rw z (ex ∙ sets-eq bs o 0 (omega arith) ∙ rw d))
