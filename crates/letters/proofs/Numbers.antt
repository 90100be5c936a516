-- Numbers in decimal, from the last digit to the first, as the code comes by them. Assumes nothing.
use Prim.Native.Nat.{ℕ, zero, suc, ◌+◌, ◌-◌, ◌/◌, ◌%◌, ◌^◌, ◌<◌, ◌≤◌}
use mathlib.Core.Path.{◌≡◌, ◌∙◌}
use mathlib.Core.List.{List, [], ◌∷◌}
use native.Mathlib.Omega.{arith}
use native.Mathlib.Decide.{dec_lt}
use borrow.Author.Tests.{lt-ltb, le-ltb}
use lib.ListN.{length, set, take, drop, length-set, length-drop, drop_of_length-le}
use lib.Seq.{take_all, drop-cons, drop-set-lt, get_or-set_same}
use Rattle.floor.specs.Texts.{digits, decimal}

-- fuel left over changes nothing
same_fuel : (f g n : ℕ) (t : List ℕ) → n < f → n < g → digits f n t ≡ digits g n t
unfolding digits
same_fuel zero g n t h k = absurd (omega arith)
same_fuel (suc f) zero n t h k = absurd (omega arith)
same_fuel (suc f) (suc g) n t h k = go (dec_lt n 10) (same_fuel f g (n / 10) ((48 + n % 10) ∷ t))
  where
    go : Dec (n < 10) → (n / 10 < f → n / 10 < g → digits f (n / 10) ((48 + n % 10) ∷ t) ≡ digits g (n / 10) ((48 + n % 10) ∷ t))
        → digits (suc f) n t ≡ digits (suc g) n t
    go (yes l) rest = rw (lt-ltb n 10 l)
    go (no l) rest = rw (le-ltb n 10 (omega arith)) (rest (omega arith) (omega arith))

-- the digits of what is left of a number, put before those that stand on the page
module _ (page w : List ℕ) (start n : ℕ) (l : length page ≡ 20) where
  -- a byte put just before the digits on the page stands in front of them
  put_before : (b : ℕ) → 0 < start → start ≤ 20 → drop (start - 1) (set page (start - 1) b) ≡ b ∷ drop start page
  put_before b h k =
      let e : suc (start - 1) ≡ start = omega arith in
      let m : start - 1 < length (set page (start - 1) b) = omega (arith, length-set page (start - 1) b) in
      drop-cons (set page (start - 1) b) (start - 1) 0 m
      ∙ rw (get_or-set_same page (start - 1) b 0 (omega arith), e, drop-set-lt start page (start - 1) b (omega arith))

  pub digit_more : digits (suc n) n (drop start page) ≡ w → 10 ≤ n → 0 < start → start ≤ 20
      → digits (suc (n / 10)) (n / 10) (drop (start - 1) (set page (start - 1) (48 + n % 10))) ≡ w
  unfolding digits
  digit_more inv h s k =
      rw (put_before (48 + n % 10) s k)
      (same_fuel (suc (n / 10)) n (n / 10) ((48 + n % 10) ∷ drop start page) (omega arith) (omega arith) ∙ next)
    where
      next : digits n (n / 10) ((48 + n % 10) ∷ drop start page) ≡ w
      next = rw (le-ltb n 10 h) at inv

  pub digit_last : digits (suc n) n (drop start page) ≡ w → n < 10 → 0 < start → start ≤ 20 → drop (start - 1) (set page (start - 1) (48 + n % 10)) ≡ w
  unfolding digits
  digit_last inv h s k = let e : n % 10 ≡ n = omega arith in rw e (put_before (48 + n) s k ∙ (rw (lt-ltb n 10 h) at inv))

-- before any digit stands on the page, all the digits of the number are left to put
pub digits_first : (page : List ℕ) (n : ℕ) → length page ≡ 20 → digits (suc n) n (drop 20 page) ≡ decimal n
unfolding decimal
digits_first page n l = let k : length page ≤ 20 = omega arith in rw (drop_of_length-le page k)

-- there is room for a digit while one is left
module _ (start n : ℕ) where
  -- a number of 10 or more that is below 10 ^ start has two digits to put, so start is at least 2
  two_left : 10 ≤ n → n < 10 ^ start → 2 ≤ start
  two_left h k = room start k
    where
      room : (s : ℕ) → n < 10 ^ s → 2 ≤ s
      room zero l = absurd (omega arith)
      room (suc zero) l = absurd (omega arith)
      room (suc (suc s)) l = omega arith

  -- so there is a place left behind the next digit
  pub room_left : 10 ≤ n → n < 10 ^ start → 0 < start - 1
  room_left h k = omega (arith, two_left h k)

  -- a tenth of the number is below the power one smaller
  pub tenth_fits : 10 ≤ n → n < 10 ^ start → n / 10 < 10 ^ (start - 1)
  tenth_fits h k =
      let e : start ≡ suc (start - 1) = omega (arith, two_left h k) in
      let l : n < 10 ^ suc (start - 1) = rw e at k in
      omega (arith, l)

-- the page from where the digits start to its end
pub page_end : (page w : List ℕ) (start : ℕ) → length page ≡ 20 → drop start page ≡ w → take (20 - start) (drop start page) ≡ w
page_end page w start l e = take_all (20 - start) (drop start page) (omega (arith, length-drop start page)) ∙ e

-- a number below 10 ^ (k + 1) has k + 1 digits at most
digits_short : (f k n : ℕ) (t : List ℕ) → n < 10 ^ suc k → length (digits f n t) ≤ suc k + length t
unfolding digits
digits_short zero k n t h = omega arith
digits_short (suc f) k n t h = go (dec_lt n 10) k h (λ i. digits_short f i (n / 10) ((48 + n % 10) ∷ t))
  where
    go : Dec (n < 10) → (m : ℕ) → n < 10 ^ suc m
        → ((i : ℕ) → n / 10 < 10 ^ suc i → length (digits f (n / 10) ((48 + n % 10) ∷ t)) ≤ suc i + length ((48 + n % 10) ∷ t))
        → length (digits (suc f) n t) ≤ suc m + length t
    go (yes l) m g rest = rw (lt-ltb n 10 l) (omega arith)
    go (no l) zero g rest = absurd (omega arith)
    go (no l) (suc i) g rest = rw (le-ltb n 10 (omega arith)) (omega (arith, rest i (omega arith)))

-- a number below 10 ^ (k + 1) is written in at most k + 1 digits
pub decimal_short : (k n : ℕ) → n < 10 ^ suc k → length (decimal n) ≤ suc k
unfolding decimal
decimal_short k n h = omega (arith, digits_short (suc n) k n [] h)
