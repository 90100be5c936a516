-- The register as it is kept, four numbers to a wall, and as it is read. Assumes nothing.
use Rattle.std.specs.Prelude.{ℕ, zero, suc, ◌+◌, ◌*◌, Bool, cond, List, [], ◌∷◌, length, get_or, take, replicate, ltb, eqb}
use Rattle.std.proofs.lemmas.List.Edits.{sets}
use Rattle.floor.specs.Lists.{keep}
use Rattle.floor.specs.Registers.{Partition}
use Rattle.registers.specs.declared.Register.{Register}
use Rattle.registers.specs.declared.held.Wall.{Wall}

-- the numbers of some walls: number, beginning, end and sides
unfoldable pub rows_of : List Partition → List ℕ
rows_of [] = []
rows_of (w ∷ ws) = w.number ∷ w.begins ∷ w.ends ∷ w.sides ∷ rows_of ws

-- the numbers of a wall put in a row
unfoldable pub row : List ℕ → ℕ → ℕ → ℕ → ℕ → ℕ → List ℕ
row l at x b e n = sets l (4 * at) (x ∷ b ∷ e ∷ n ∷ [])

-- some walls put in rows, from one on
unfoldable pub written : List ℕ → ℕ → List Partition → List ℕ
written l at ws = sets l (4 * at) (rows_of ws)

-- how many walls are kept
abbrev pub walls : ℕ
walls = 64

-- noughts, four for each wall
abbrev pub noughts : List ℕ
noughts = replicate 256 0

-- a wall stands upright
unfoldable pub is_upright : Partition → Bool
is_upright w = eqb w.direction 0

-- no walls
unfoldable pub no_register : Register
no_register = record { uprights = 0; many = 0; rows = noughts }

-- THE REGISTER AS IT IS KEPT: the first 64 walls, noughts behind them
unfoldable pub kept_register : List Partition → Register
kept_register ws =
    record { uprights = length (keep is_upright (take walls ws)); many = length (take walls ws); rows = sets noughts 0 (rows_of (take walls ws)) }

-- a wall that was read, in the words of the register
unfoldable pub wall_in : Wall → Partition
wall_in w = record { direction = w.direction; number = w.number; begins = w.begins; ends = w.ends; sides = w.sides }

-- wall i of the rows: upright where it is one of the first u, level otherwise
unfoldable pub wall_at : ℕ → List ℕ → ℕ → Partition
wall_at u l i =
    record {
      direction = cond (ltb i u) 0 1;
      number = get_or l (4 * i) 0;
      begins = get_or l (4 * i + 1) 0;
      ends = get_or l (4 * i + 2) 0;
      sides = get_or l (4 * i + 3) 0;
    }

-- the m walls from wall i on
unfoldable pub walls_in : ℕ → ℕ → ℕ → List ℕ → List Partition
walls_in u zero i l = []
walls_in u (suc m) i l = wall_at u l i ∷ walls_in u m (suc i) l

-- THE WALLS THAT ARE KEPT, whatever stands in the register
unfoldable pub register_in : Register → List Partition
register_in r = walls_in r.uprights r.many 0 r.rows
