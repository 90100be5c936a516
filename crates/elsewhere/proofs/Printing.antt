-- What is printed of an answer, as the code comes by it. Assumes nothing.
use Prim.Native.Nat.{ℕ, ◌+◌, ◌-◌, ◌*◌, ◌≤◌, ◌<◌}
use mathlib.Core.Path.{◌≡◌, ap}
use mathlib.Core.Bool.{Bool, true, false}
use mathlib.Core.List.{List, [], ◌∷◌, ◌++◌}
use native.Mathlib.Omega.{arith}
use borrow.Author.Tests.{le-leb, lt-leb}
use lib.Dec.{leb}
use lib.ListN.{length, get_or, take, drop, length-append, length-drop}
use lib.Seq.{sets, take_all, drop-drop}
use Rattle.floor.specs.Quoted.{plain}
use Rattle.floor.specs.Texts.{decimal, line, refused_word, too_long}
use Rattle.floor.specs.Foreign.{answers, judged}
use Rattle.floor.specs.Verdicts.{yes_line, no_line, verdict_text, job_length, judged_together, check_listing}
use Rattle.letters.specs.Puts.{Puts}
use Rattle.letters.proofs.Numbers.{decimal_short}
use Rattle.letters.proofs.Rows.{front_put}
use Rattle.std.specs.Prelude.{Result, Ok, Err}
use Rattle.refusals.specs.declared.Refusal.{Refusal}
use Rattle.refusals.specs.declared.Refusal.TheVariants.{NotAJob}
use Rattle.refusals.specs.Numbers.{number_of}
use Rattle.elsewhere.specs.Answers.{verdict}

-- either is short
answer_short : (b : Bool) → length (verdict_text (answers b)) ≤ 20
unfolding verdict_text yes_line no_line plain
answer_short true = omega arith
answer_short false = omega arith

-- a job behind its length, and then a plan
module _ (bs : List ℕ) where
  -- there is no length
  pub no_length : length bs < 2 → verdict (Err NotAJob) ≡ judged_together bs
  unfolding verdict judged_together number_of
  no_length h = let z : leb (2 + job_length bs) (length bs) ≡ false = lt-leb (2 + job_length bs) (length bs) (omega arith) in rw z

  module _ (a b : ℕ) (ea : a ≡ get_or bs 0 0) (eb : b ≡ get_or bs 1 0) where
    -- the length in front
    length_is : 256 * a + b ≡ job_length bs
    unfolding job_length
    length_is = rw (ea, eb)

    -- what stands behind it
    abbrev both : List ℕ
    both = take (length bs - 2) (drop 2 bs)

    both_is : both ≡ drop 2 bs
    both_is = take_all (length bs - 2) (drop 2 bs) (omega (arith, length-drop 2 bs))

    -- the job is cut short
    pub job_cut : 2 ≤ length bs → length both < 256 * a + b → verdict (Err NotAJob) ≡ judged_together bs
    unfolding verdict judged_together number_of
    job_cut l h =
        let z : leb (2 + job_length bs) (length bs) ≡ false
        = lt-leb (2 + job_length bs) (length bs) (omega (arith, length_is, ap length both_is, length-drop 2 bs)) in
        rw z

    -- both are there
    pub both_there : (r : Result Bool Refusal) → 2 ≤ length bs → 256 * a + b ≤ length both
        → verdict r ≡ judged (take (256 * a + b) both) (take (length both - (256 * a + b)) (drop (256 * a + b) both)) → verdict r ≡ judged_together bs
    unfolding judged_together
    both_there r l h e =
        let z : leb (2 + job_length bs) (length bs) ≡ true
        = le-leb (2 + job_length bs) (length bs) (omega (arith, length_is, ap length both_is, length-drop 2 bs)) in
        let w : take (length both - (256 * a + b)) (drop (256 * a + b) both) ≡ drop (256 * a + b) both
        = take_all (length both - (256 * a + b)) (drop (256 * a + b) both) (omega (arith, length-drop (256 * a + b) both)) in
        rw (z, ← length_is) (rw (w, both_is, drop-drop) at e)

-- what the program prints: a text at the front of a page
module _ (bs o x : List ℕ) (r : ℕ) (l : length o ≡ 8192) where
  -- what is promised of it
  abbrev Prints : Type 0
  Prints = (r ≡ length (check_listing bs)) × (x ≡ sets o 0 (check_listing bs)) × (r ≤ 8192)

  -- that the input is too long,
  pub prints_long : 16384 < length bs → Puts o 0 too_long x r → Prints
  unfolding check_listing too_long plain
  prints_long h p = let z : leb (length bs) 16384 ≡ false = lt-leb (length bs) 16384 h in rw z (front_put o too_long x r p l (omega arith))

  -- or the verdict:
  module _ (v : Result Bool Refusal) (h : length bs ≤ 16384) (e : verdict v ≡ judged_together bs) where
    -- that of its text
    prints_as : check_listing bs ≡ verdict_text (verdict v)
    unfolding check_listing
    prints_as = let z : leb (length bs) 16384 ≡ true = le-leb (length bs) 16384 h in rw (z, e)

    -- a refusal,
    pub prints_refused : (k : Refusal) (n : ℕ) → n ≡ number_of k → Puts o 0 (refused_word ++ line (n ∷ [])) x r → v ≡ Err k → n < 256 → Prints
    unfolding verdict verdict_text refused_word plain line
    prints_refused k n e p q f =
        rw (prints_as, q, ← e) (front_put o (refused_word ++ line (n ∷ [])) x r p l (omega (arith, length-append (decimal n) (10 ∷ []), decimal_short 2 n (omega arith))))

    -- or yes or no
    pub prints_says : (b : Bool) → Puts o 0 (verdict_text (answers b)) x r → v ≡ Ok b → Prints
    unfolding verdict
    prints_says b p q = rw (prints_as, q) (front_put o (verdict_text (answers b)) x r p l (omega (arith, answer_short b)))
