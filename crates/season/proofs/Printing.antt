-- The figures, a line each, as the code comes by them. Assumes nothing.
use Rattle.std.proofs.Common.{◌≡◌, ℕ, suc, ◌+◌, ◌*◌, ◌^◌, ◌<◌, ◌≤◌, List, [], ◌∷◌, ◌++◌, length, get_or, take, refl, ap, append_assoc, append-nil, arith, length-append, take_all, take-suc}
use lib.Seq.{sets}
use Rattle.floor.specs.Texts.{decimal, line}
use Rattle.floor.specs.Totals.{figure_lines}
use Rattle.letters.specs.Puts.{Puts}
use Rattle.letters.proofs.Numbers.{decimal_short}
use Rattle.letters.proofs.Rows.{both_puts, none_put, front_put}

-- the lines of some figures and of others behind them
lines_append : (a b : List ℕ) → figure_lines (a ++ b) ≡ figure_lines a ++ figure_lines b
unfolding figure_lines
lines_append [] b = refl
lines_append (n ∷ a) b = rw (lines_append a b, append_assoc (line (n ∷ [])) (figure_lines a) (figure_lines b))

-- a figure is written in at most twenty digits
line_short : (n : ℕ) → n < 2 ^ 64 → length (line (n ∷ [])) ≤ 21
unfolding line
line_short n h = omega (arith, length-append (decimal n) (10 ∷ []), decimal_short 19 n (omega arith))

-- at first none are put
pub lines_none : (o : List ℕ) → Puts o 0 (figure_lines []) o 0
unfolding figure_lines
lines_none o = none_put o 0

-- and nothing has no bytes
pub none_short : length (figure_lines []) ≤ 21 * 0
unfolding figure_lines
none_short = omega arith

-- the lines of the first i figures
module _ (l : List ℕ) (i : ℕ) where
  -- those of one figure more
  lines_next : i < length l → figure_lines (take (i + 1) l) ≡ figure_lines (take i l) ++ line (get_or l i 0 ∷ [])
  unfolding figure_lines
  lines_next h =
      let s : i + 1 ≡ suc i = omega arith in
      rw (s, take-suc l i 0 h, lines_append) (ap (λ (t : List ℕ). figure_lines (take i l) ++ t) (append-nil (line (get_or l i 0 ∷ []))))

  -- one line more put
  pub lines_more : (o x y : List ℕ) (m r : ℕ) → Puts o 0 (figure_lines (take i l)) x m → Puts x m (line (get_or l i 0 ∷ [])) y r → i < length l
      → Puts o 0 (figure_lines (take (i + 1) l)) y r
  lines_more o x y m r p q h = rw (lines_next h) (both_puts o x y (figure_lines (take i l)) (line (get_or l i 0 ∷ [])) 0 m r p q)

  -- is at most 21 bytes more
  pub more_short : i < length l → get_or l i 0 < 2 ^ 64 → length (figure_lines (take i l)) ≤ 21 * i → length (figure_lines (take (i + 1) l)) ≤ 21 * (i + 1)
  more_short h n s =
      omega (
        arith,
        ap (λ (t : List ℕ). length t) (lines_next h),
        length-append (figure_lines (take i l)) (line (get_or l i 0 ∷ [])),
        line_short (get_or l i 0) n,
      )

  -- behind the last, all are put
  pub lines_done : (o x : List ℕ) (m : ℕ) → length l ≤ i → Puts o 0 (figure_lines (take i l)) x m → Puts o 0 (figure_lines l) x m
  lines_done o x m h p = rw (take_all i l h) at p

  -- and are short
  pub done_short : length l ≤ i → i ≤ length l → length (figure_lines (take i l)) ≤ 21 * i → length (figure_lines l) ≤ 21 * length l
  done_short h g s = omega (arith, rw (take_all i l h) at s)

-- sixteen lines fit a page
pub figures_page : (l o x : List ℕ) (m : ℕ) → Puts o 0 (figure_lines l) x m → length (figure_lines l) ≤ 21 * length l → length l ≡ 16 → length o ≡ 8192
    → (m ≡ length (figure_lines l)) × (x ≡ sets o 0 (figure_lines l)) × (m ≤ 8192)
figures_page l o x m p s e f = front_put o (figure_lines l) x m p f (omega arith)
