-- An entry, and what is asked of entries, by name. Assumes nothing.
use Rattle.std.specs.Prelude.{ℕ, Bool, cond, not, List, length, get_or, eqb}
use Rattle.floor.specs.Lists.{all, keep}
use Rattle.floor.specs.Jobs.{Entry, Link, changes, goes_on}

-- the entry of a neighbour and its kind
abbrev pub pair : ℕ → ℕ → Entry
pair v k = record { to = v; kind = k }

-- the two entries name two neighbours
abbrev pub apart : Entry → Entry → Bool
apart d e = not (eqb d.to e.to)

-- the first entry of some bytes
abbrev pub here : List ℕ → Entry
here s = pair (get_or s 0 0) (get_or s 1 0)

-- two kinds, one behind the other
abbrev pub kinds_link : ℕ → ℕ → Link
kinds_link k n = record { this = pair 0 k; next = pair 0 n }

-- how often the kind changes along some links; 0 where it changes to another than the next
unfoldable pub changes_in : List Link → ℕ
changes_in ls = cond (all goes_on ls) (length (keep changes ls)) 0
