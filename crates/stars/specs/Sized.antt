-- Which least sizes are held beside the stars. Assumes nothing.
use Rattle.std.specs.Prelude.{ℕ, zero, suc, ◌+◌, ◌*◌, List, [], ◌∷◌, length, get_or, replicate}
use Rattle.std.proofs.lemmas.List.Edits.{sets}
use Rattle.floor.specs.Jobs.{Size, Sizes, size_bytes}
use Rattle.stars.specs.declared.Sizes.{Sizes as HeldSizes}
use Rattle.stars.specs.declared.least.Least.{Least}

-- the size of a width and a height
abbrev pub size : ℕ → ℕ → Size
size w h = record { wide = w; tall = h }

-- the size at a place: a width and a height
unfoldable pub size_at : List ℕ → ℕ → Size
size_at l i = size (get_or l (2 * i) 0) (get_or l (2 * i + 1) 0)

-- the m sizes from place i on
unfoldable pub sizes_from : ℕ → ℕ → List ℕ → Sizes
sizes_from zero i l = []
sizes_from (suc m) i l = size_at l i ∷ sizes_from m (suc i) l

-- THE SIZES OF SO MANY ROOMS that lie one behind the other, whatever stands there
abbrev pub sizes_in : ℕ → List ℕ → Sizes
sizes_in told l = sizes_from told 0 l

-- the sizes as they are lent
abbrev pub sizes_lent : Least → Sizes
sizes_lent z = sizes_in z.told z.list.now

-- THE SIZES THAT ARE HELD
unfoldable pub sizes_of : HeldSizes → Sizes
sizes_of h = sizes_in h.told h.list

-- no sizes told
unfoldable pub no_sizes : HeldSizes
no_sizes = record { told = 0; list = replicate 120 0 }

-- SIZES AS THEY ARE HELD
unfoldable pub held_sizes : Sizes → HeldSizes
held_sizes z = record { told = length z; list = sets (replicate 120 0) 0 (size_bytes z) }
