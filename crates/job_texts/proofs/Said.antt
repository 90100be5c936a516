-- What a word says, as the code comes by it. Assumes nothing.
use Prim.Native.Nat.{ℕ, suc, ◌+◌, ◌-◌, ◌*◌, ◌<◌, ◌≤◌}
use mathlib.Core.Path.{◌≡◌, refl, sym, ◌∙◌, ap}
use mathlib.Core.Bool.{Bool, true, false, cond, not}
use mathlib.Core.Option.{Option as Maybe, none, some}
use mathlib.Core.List.{List, [], ◌∷◌, map}
use denote.Ref.{Bor}
use native.Mathlib.Omega.{arith}
use borrow.Author.Tests.{lt-ltb, le-ltb, ltb-true, ltb-false, ne_eqb}
use lib.Dec.{ltb, eqb}
use lib.ListN.{length, get_or, drop, drop_of_length-le}
use lib.Seq.{drop-cons}
use Rattle.std.specs.Prelude.{Option, None, Some, Result, Ok, Err, OkIff}
use Rattle.std.specs.Option.{option_or}
use Rattle.std.specs.Result.{result_ok}
use Rattle.std.specs.List.{position_or_len}
use Rattle.floor.specs.Lists.{same_numbers}
use Rattle.floor.specs.Quoted.{plain}
use Rattle.floor.specs.JobTexts.{side_words, frame_words, digit, digits_on, number_of, place_of, kind_of_word, a_byte, or_else, vertex_of_word, says}
use Rattle.job_texts.specs.Reads.{said, said_on}

-- a number that no byte holds only grows
too_large : (n : ℕ) (t : List ℕ) → 256 ≤ n → a_byte (digits_on n t) ≡ none
unfolding a_byte digits_on
too_large n [] h = rw (le-ltb n 256 h)
too_large n (b ∷ t) h = go (digit b) (too_large (10 * n + (b - 48)) t (omega arith))
  where
    go : (x : Bool) → a_byte (digits_on (10 * n + (b - 48)) t) ≡ none → a_byte (cond x (digits_on (10 * n + (b - 48)) t) none) ≡ none
    go true e = e
    go false e = refl

-- a number with a digit more
module _ (n b : ℕ) (t : List ℕ) where
  -- a byte that is no digit leaves no number
  pub no_digit : digit b ≡ false → said_on None t ≡ a_byte (digits_on n (b ∷ t))
  unfolding said_on digits_on a_byte
  no_digit f = rw f

  -- a digit makes ten times the number and the digit, where a byte holds that
  pub digit_said : {E : Type 0} (r : Result ℕ E) (m : ℕ) → OkIff r (m < 256) m → m ≡ 10 * n + (b - 48) → digit b ≡ true
      → said_on (result_ok r) t ≡ a_byte (digits_on n (b ∷ t))
  unfolding said_on digits_on
  digit_said (Ok x) m h e f = let z : x ≡ 10 * n + (b - 48) = omega arith in rw (f, z)
  digit_said (Err x) m h e f = rw (f, too_large (10 * n + (b - 48)) t (omega arith))

-- no digits, no number
pub no_number : (w : List ℕ) → length w ≡ 0 → said None ≡ a_byte (number_of w)
unfolding said number_of a_byte
no_number [] e = refl
no_number (b ∷ w) e = absurd (omega arith)

-- a word that is not empty says what its digits say behind a 0
pub number_first : (w : List ℕ) → (length w ≡ 0 → ⊥) → a_byte (digits_on 0 w) ≡ a_byte (number_of w)
unfolding number_of
number_first [] n = absurd (n refl)
number_first (b ∷ w) n = refl

-- a number, digit by digit
module _ (w : List ℕ) (n i : ℕ) (v : Maybe ℕ) (inv : a_byte (digits_on n (drop i w)) ≡ v) where
  module _ (r : Option ℕ) (e : (t : List ℕ) → said_on r t ≡ a_byte (digits_on n (get_or w i 0 ∷ t))) (h : i < length w) where
    digit_here : said_on r (drop (i + 1) w) ≡ v
    digit_here = let s : i + 1 ≡ suc i = omega arith in rw (s, e (drop (suc i) w)) (rw (drop-cons w i 0 h) at inv)

    pub number_next : (m : ℕ) → r ≡ Some m → a_byte (digits_on m (drop (i + 1) w)) ≡ v
    unfolding said_on
    number_next m s = rw s at digit_here

    pub number_stops : r ≡ None → said None ≡ v
    unfolding said_on said
    number_stops s = rw s at digit_here

  pub number_done : length w ≤ i → n < 256 → said (Some n) ≡ v
  unfolding said digits_on a_byte
  number_done h l = rw (drop_of_length-le w h, lt-ltb n 256 l) at inv

-- just this number below 256 is said where a byte says it
said_byte : (r : ℕ) (x : Maybe ℕ) → r < 256 → says r x ≡ says r (a_byte x)
unfolding says a_byte
said_byte r none h = refl
said_byte r (some n) h = go (ltb n 256) refl
  where
    go : (b : Bool) → ltb n 256 ≡ b → eqb n r ≡ says r (cond b (some n) none)
    go true t = refl
    go false t = ne_eqb n r (λ e. omega (arith, ltb-false n 256 t))

-- where the code tells the byte that is said, just this number below 256 is said exactly if the code tells it
pub said_number : (k : Option ℕ) (r : ℕ) (x : Maybe ℕ) → said k ≡ a_byte x → r < 256 → says r x ≡ says r (said k)
said_number k r x e h = said_byte r x h ∙ ap (says r) (sym e)

-- the place of a word among some, as `position` finds it
place_lem : (i : ℕ) (w : List ℕ) (ws : List (Bor (List ℕ)))
    → place_of i w (map (λ x. x.now) ws) ≡ cond (ltb (position_or_len (λ x. same_numbers w x.now) ws) (length ws)) (some (i + position_or_len (λ x. same_numbers w x.now) ws)) none
unfolding place_of
place_lem i w [] = refl
place_lem i w (x ∷ ws) = go (same_numbers w x.now) (place_lem (suc i) w ws)
  where
    n : ℕ
    n = position_or_len (λ y. same_numbers w y.now) ws

    more : (c : Bool) → ltb n (length ws) ≡ c → cond c (some (suc i + n)) none ≡ cond (ltb (1 + n) (suc (length ws))) (some (i + (1 + n))) none
    more true t = let z : suc i + n ≡ i + (1 + n) = omega arith in rw (lt-ltb (1 + n) (suc (length ws)) (omega (arith, ltb-true n (length ws) t)), z)
    more false t = rw (le-ltb (1 + n) (suc (length ws)) (omega (arith, ltb-false n (length ws) t)))

    go : (c : Bool) → place_of (suc i) w (map (λ y. y.now) ws) ≡ cond (ltb n (length ws)) (some (suc i + n)) none
        → cond c (some i) (place_of (suc i) w (map (λ y. y.now) ws)) ≡ cond (ltb (cond (not c) (1 + n) 0) (suc (length ws))) (some (i + cond (not c) (1 + n) 0)) none
    go true h = let z : i + 0 ≡ i = omega arith in rw (lt-ltb 0 (suc (length ws)) (omega arith), z)
    go false h = h ∙ more (ltb n (length ws)) refl

module _ (w : List ℕ) (ws : List (Bor (List ℕ))) (r : Option ℕ)
    (e : r ≡ cond (ltb (position_or_len (λ x. same_numbers w x.now) ws) (length ws)) (Some (position_or_len (λ x. same_numbers w x.now) ws)) None) where
  -- the answer of `position` is the place
  pub place_said : said r ≡ place_of 0 w (map (λ x. x.now) ws)
  unfolding said
  place_said = rw (e, place_lem 0 w ws) (go (ltb n (length ws)))
    where
      n : ℕ
      n = position_or_len (λ x. same_numbers w x.now) ws

      go : (c : Bool) → said (cond c (Some n) None) ≡ cond c (some (0 + n)) none
      go true = let z : 0 + n ≡ n = omega arith in rw z
      go false = refl

-- a kind, and a vertex, by the place of its word
pub kind_said : (w : List ℕ) (x : Maybe ℕ) → x ≡ place_of 0 w (plain "above" ∷ plain "left" ∷ plain "below" ∷ plain "right" ∷ []) → x ≡ kind_of_word w
unfolding kind_of_word side_words
kind_said w x e = e

pub vertex_said : (w : List ℕ) (o q r : Option ℕ) → said o ≡ place_of 0 w (plain "N" ∷ plain "W" ∷ plain "S" ∷ plain "E" ∷ []) → said q ≡ a_byte (number_of w)
    → r ≡ option_or o q → said r ≡ vertex_of_word w
unfolding vertex_of_word frame_words or_else said
vertex_said w None q r e h f = rw (f, ← e) h
vertex_said w (Some n) q r e h f = rw (f, ← e)
