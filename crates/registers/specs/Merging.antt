-- A wall that is begun, in the words of the register. Assumes nothing.
use Rattle.std.specs.Prelude.{ℕ}
use Rattle.floor.specs.Registers.{Partition}
use Rattle.registers.specs.declared.merge.Begun.{Begun}

-- the wall so far
unfoldable pub wall_of : ℕ → Begun → Partition
wall_of d w = record { direction = d; number = w.line; begins = w.begins; ends = w.ends; sides = w.sides }
