-- Numbers on one line, as the code comes by them. Assumes nothing.
use Prim.Native.Nat.{ℕ, suc, ◌+◌, ◌^◌, ◌<◌, ◌≤◌}
use mathlib.Core.Path.{◌≡◌}
use mathlib.Core.List.{List, [], ◌∷◌, ◌++◌, append_assoc}
use native.Mathlib.Omega.{arith}
use lib.ListN.{length, length-append}
use Rattle.floor.specs.Texts.{decimal, line}
use Rattle.letters.specs.Puts.{Puts}
use Rattle.letters.proofs.Numbers.{decimal_short}
use Rattle.letters.proofs.Rows.{both_puts}

-- a number with others behind it
line_more : (n m : ℕ) (ns : List ℕ) → (decimal n ++ (32 ∷ [])) ++ line (m ∷ ns) ≡ line (n ∷ m ∷ ns)
unfolding line
line_more n m ns = append_assoc (decimal n) (32 ∷ []) (line (m ∷ ns))

-- a number, a space and the line of the others, put one behind the other, are the line of all
pub more_puts : (n m i : ℕ) (ns o x y : List ℕ) (at k r : ℕ) → i ≡ n → Puts o at (decimal i ++ (32 ∷ [])) x k → Puts x k (line (m ∷ ns)) y r
    → Puts o at (line (n ∷ m ∷ ns)) y r
more_puts n m i ns o x y at k r e p q = rw line_more at (both_puts o x y (decimal n ++ (32 ∷ [])) (line (m ∷ ns)) at k r (rw e at p) q)

-- how long a line of numbers below 100,000 is at most
pub one_short : (n : ℕ) → n < 100000 → length (line (n ∷ [])) ≤ 6
unfolding line
one_short n h = omega (arith, length-append (decimal n) (10 ∷ []), decimal_short 4 n h)

-- a number below 100,000 before a line makes it at most 6 bytes longer
more_short : (n m k : ℕ) (ns : List ℕ) → n < 100000 → length (line (m ∷ ns)) ≤ k → length (line (n ∷ m ∷ ns)) ≤ 6 + k
unfolding line
more_short n m k ns h l = omega (arith, length-append (decimal n) (32 ∷ line (m ∷ ns)), decimal_short 4 n h)

-- two numbers: at most 12 bytes
pub two_short : (a b : ℕ) → a < 100000 → b < 100000 → length (line (a ∷ b ∷ [])) ≤ 12
two_short a b ha hb = more_short a b 6 [] ha (one_short b hb)

-- five numbers: at most 30 bytes
pub five_short : (v a b c d : ℕ) → v < 100000 → a < 100000 → b < 100000 → c < 100000 → d < 100000 → length (line (v ∷ a ∷ b ∷ c ∷ d ∷ [])) ≤ 30
five_short v a b c d hv ha hb hc hd =
    more_short v a 24 (b ∷ c ∷ d ∷ []) hv (more_short a b 18 (c ∷ d ∷ []) ha (more_short b c 12 (d ∷ []) hb (two_short c d hc hd)))

-- a number of at most d digits before a line makes it at most d + 1 bytes longer
digits_more : (d n m k : ℕ) (ns : List ℕ) → n < 10 ^ suc d → length (line (m ∷ ns)) ≤ k → length (line (n ∷ m ∷ ns)) ≤ suc d + 1 + k
unfolding line
digits_more d n m k ns h l = omega (arith, length-append (decimal n) (32 ∷ line (m ∷ ns)), decimal_short d n h)

-- two numbers below 100, a digit and three below 100,000: at most 26 bytes
pub six_short : (u v k a b n : ℕ) → u < 100 → v < 100 → k < 10 → a < 100000 → b < 100000 → n < 100000 → length (line (u ∷ v ∷ k ∷ a ∷ b ∷ n ∷ [])) ≤ 26
six_short u v k a b n hu hv hk ha hb hn =
    digits_more 1 u v 23 (k ∷ a ∷ b ∷ n ∷ []) hu
    (digits_more 1 v k 20 (a ∷ b ∷ n ∷ []) hv (digits_more 0 k a 18 (b ∷ n ∷ []) hk (more_short a b 12 (n ∷ []) ha (two_short b n hb hn))))
