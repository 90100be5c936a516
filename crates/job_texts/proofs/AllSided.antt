-- Whether every kind is a side, as the code comes by it. Assumes nothing.
use Prim.Native.Nat.{ℕ, zero, suc, ◌+◌, ◌-◌}
use mathlib.Core.Path.{◌≡◌, refl, ap}
use mathlib.Core.Bool.{Bool, ◌&&◌}
use mathlib.Core.List.{List}
use native.Mathlib.Omega.{arith}
use lib.Dec.{ltb}
use lib.ListN.{length, get_or}
use Rattle.std.specs.List.{list_all, range_with_len}
use Rattle.floor.specs.Lists.{all}
use Rattle.floor.specs.JobTexts.{sided}
use Rattle.stars.specs.Held.{entry_at, cells, start_of, end_of, held_star, stars_in, job_in}
use Rattle.job_texts.specs.Writes.{star_sided}

-- every kind from a place on is a side, exactly if every kind of the star that lies there is
kinds_sided : (nbr kind : List ℕ) (m k : ℕ) → list_all (λ j. ltb (get_or kind j 0) 4) (range_with_len k m) ≡ star_sided (cells m k nbr kind)
unfolding star_sided all cells entry_at
kinds_sided nbr kind zero k = refl
kinds_sided nbr kind (suc m) k =
    let z : k + 1 ≡ suc k = omega arith in
    ap (λ (b : Bool). ltb (get_or kind k 0) 4 && b) (rw z (kinds_sided nbr kind m (suc k)))

-- the same, of a star by its ends
pub star_kinds : (ends nbr kind : List ℕ) (i x y : ℕ) → x ≡ start_of ends (length nbr) i → y ≡ end_of ends (length nbr) i → (r : Bool)
    → r ≡ list_all (λ j. ltb (get_or kind j 0) 4) (range_with_len x (y - x)) → r ≡ star_sided (held_star ends nbr kind i)
unfolding held_star
star_kinds ends nbr kind i x y ex ey r e = rw (← ex, ← ey, ← kinds_sided nbr kind (y - x) x) e

-- every star from one on has sides only
stars_sided : (ends nbr kind : List ℕ) (m i : ℕ)
    → list_all (λ j. star_sided (held_star ends nbr kind j)) (range_with_len i m) ≡ all star_sided (stars_in m i ends nbr kind)
unfolding all stars_in
stars_sided ends nbr kind zero i = refl
stars_sided ends nbr kind (suc m) i =
    let z : i + 1 ≡ suc i = omega arith in
    ap (λ (b : Bool). star_sided (held_star ends nbr kind i) && b) (rw z (stars_sided ends nbr kind m (suc i)))

-- the same, of a whole job
pub job_kinds : (ends nbr kind : List ℕ) (n : ℕ) (r : Bool) → r ≡ list_all (λ j. star_sided (held_star ends nbr kind j)) (range_with_len 0 n)
    → r ≡ sided (job_in n ends nbr kind)
unfolding sided star_sided
job_kinds ends nbr kind n r e = rw (← stars_sided ends nbr kind n 0) e
