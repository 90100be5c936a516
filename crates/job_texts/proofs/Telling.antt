-- A wrong line told in words, as the code comes by it. Assumes nothing.
use Prim.Native.Nat.{ℕ, ◌≤◌, ◌<◌}
use mathlib.Core.Path.{◌≡◌}
use mathlib.Core.List.{List, [], ◌∷◌, ◌++◌}
use native.Mathlib.Omega.{arith}
use lib.ListN.{length, length-append}
use Rattle.floor.specs.Quoted.{plain}
use Rattle.floor.specs.Texts.{decimal}
use Rattle.floor.specs.JobTexts.{Expected, room_number, colon, side, neighbour, comma, least_size, no_room, no_contact, wrong_line, expected_text, job_answer}
use Rattle.letters.specs.Puts.{Puts}
use Rattle.letters.proofs.Rows.{both_puts}
use Rattle.letters.proofs.Numbers.{decimal_short}
use Rattle.job_texts.specs.declared.Lack.{Lack}
use Rattle.job_texts.specs.declared.Lack.TheVariants.{RoomNumber}
use Rattle.job_texts.specs.Reads.{lack_of, number_in}

-- what is lacking, in words
pub lack_told : (l k : Lack) {o x : List ℕ} {at r : ℕ} → l ≡ k → Puts o at (expected_text (lack_of k)) x r → Puts o at (expected_text (lack_of l)) x r
lack_told l k e p = rw e p

-- a room's number
pub room_told : (l : Lack) (n d : ℕ) {o x y : List ℕ} {at m r : ℕ} → l ≡ RoomNumber n → d ≡ n → Puts o at (plain "the number of room ") x m → Puts x m (decimal d) y r
    → Puts o at (expected_text (lack_of l)) y r
unfolding expected_text lack_of
room_told l n d e f p q = rw (e, ← f) (both_puts _ _ _ _ _ _ _ _ p q)

-- the whole line
pub line_told : (n : ℕ) (x : Expected) {o p q s t u : List ℕ} {a b c d r : ℕ} → Puts o 0 (plain "line ") p a → Puts p a (decimal n) q b
    → Puts q b (plain ": expected ") s c → Puts s c (expected_text x) t d → Puts t d (10 ∷ []) u r → Puts o 0 (job_answer (wrong_line n x)) u r
unfolding job_answer plain
line_told n x e f g h k = both_puts _ _ _ _ _ _ _ _ e (both_puts _ _ _ _ _ _ _ _ f (both_puts _ _ _ _ _ _ _ _ g (both_puts _ _ _ _ _ _ _ _ h k)))

-- what is lacking takes no more than 60 bytes
lack_short : (x : Expected) → number_in x < 100000 → length (expected_text x) ≤ 60
unfolding number_in expected_text plain
lack_short (room_number r) h = omega (arith, length-append (plain "the number of room ") (decimal r), decimal_short 4 r h)
lack_short colon h = omega arith
lack_short side h = omega arith
lack_short neighbour h = omega arith
lack_short comma h = omega arith
lack_short least_size h = omega arith
lack_short no_room h = omega arith
lack_short no_contact h = omega arith

-- a wrong line told takes no more than 82 bytes, where the numbers in it are below 100,000
pub line_short : (n : ℕ) (x : Expected) → n < 100000 → number_in x < 100000 → length (job_answer (wrong_line n x)) ≤ 82
unfolding job_answer plain
line_short n x l h =
    omega (
      arith,
      length-append (decimal n) (plain ": expected " ++ (expected_text x ++ (10 ∷ []))),
      length-append (expected_text x) (10 ∷ []),
      decimal_short 4 n l,
      lack_short x h,
    )
