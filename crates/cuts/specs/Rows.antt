-- The rows of a register, and the first of them that runs from side to side of a rectangle. Assumes nothing.
use Rattle.std.specs.Prelude.{ℕ, zero, suc, ◌+◌, ◌*◌, ◌≤◌, ◌<◌, Bool, cond, ◌&&◌, List, ltb, eqb, get_or, Option, Some, None}

-- the number of row k
unfoldable pub row_number : List ℕ → ℕ → ℕ
row_number l k = get_or l (4 * k) 0

-- row k lies between two numbers, and begins at one place and ends at another
unfoldable pub row_reaches : ℕ → ℕ → ℕ → ℕ → List ℕ → ℕ → Bool
row_reaches after before low high l k =
    ltb after (get_or l (4 * k) 0) && ltb (get_or l (4 * k) 0) before && eqb (get_or l (4 * k + 1) 0) low && eqb (get_or l (4 * k + 2) 0) high

-- the number of the first of m rows from row k on that does
unfoldable pub row_cut : ℕ → ℕ → ℕ → ℕ → ℕ → ℕ → List ℕ → Option ℕ
row_cut after before low high zero k l = None
row_cut after before low high (suc m) k l = cond (row_reaches after before low high l k) (Some (get_or l (4 * k) 0)) (row_cut after before low high m (suc k) l)

-- the rows from i to before n stand in order of number
abbrev pub Rising : List ℕ → ℕ → ℕ → Type 0
Rising l i n = (a b : ℕ) → i ≤ a → a ≤ b → b < n → row_number l a ≤ row_number l b
