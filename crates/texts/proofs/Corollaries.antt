-- What follows from the promises of `list_doors` and `list_cuts`. Assumes nothing.
use Prim.Native.Nat.{ℕ, ◌≤◌}
use mathlib.Core.Path.{◌≡◌}
use mathlib.Core.List.{List}
use lib.ListN.{length}
use lib.Seq.{sets}
use Rattle.floor.specs.Doors.{doors_listing}
use Rattle.floor.specs.Texts.{cuts_listing}
use Rattle.letters.proofs.Corollaries.{one_text}

-- THE PROMISE OF `list_doors` ALLOWS ONE LENGTH AND ONE PAGE
pub one_doors : (bs o x y : List ℕ) (r s : ℕ) → (r ≡ length (doors_listing bs)) × (x ≡ sets o 0 (doors_listing bs)) × (r ≤ 49152)
    → (s ≡ length (doors_listing bs)) × (y ≡ sets o 0 (doors_listing bs)) × (s ≤ 49152) → (r ≡ s) × (x ≡ y)
one_doors bs o x y r s p q = one_text (doors_listing bs) o r s x y p q

-- THE PROMISE OF `list_cuts` ALLOWS ONE LENGTH AND ONE PAGE
pub one_cuts : (bs o x y : List ℕ) (r s : ℕ) → (r ≡ length (cuts_listing bs)) × (x ≡ sets o 0 (cuts_listing bs)) × (r ≤ 8192)
    → (s ≡ length (cuts_listing bs)) × (y ≡ sets o 0 (cuts_listing bs)) × (s ≤ 8192) → (r ≡ s) × (x ≡ y)
one_cuts bs o x y r s p q = one_text (cuts_listing bs) o r s x y p q
