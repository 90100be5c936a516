-- `walls::lift` meets its contract.
-- Assumes nothing.
use mathlib.Core.Path.{refl, ap}
use Prim.Native.Nat.{ℕ}
use lib.ListN.{set}
use native.Mathlib.Omega.{arith}
use Rattle.walls.proofs.Grow.{at_get_d}
use Rattle.walls.proofs.steps.lift.Goals as goal

pub returns-then-v-from : goal.returns-then-v-from
returns-then-v-from c =
    (refl, omega (arith, at_get_d c.args.f.now c.args.a c.requires.0, at_get_d c.args.f.now c.args.b c.requires.1))

pub returns-then-from-v : goal.returns-then-from-v
returns-then-from-v c =
    (refl, omega (arith, at_get_d c.args.f.now c.args.a c.requires.0))

pub returns : goal.returns
returns c = (
  ap (λ (v : ℕ). set c.args.f.now c.args.b v) (omega (arith, at_get_d c.args.f.now c.args.a c.requires.0)),
  omega (arith, at_get_d c.args.f.now c.args.a c.requires.0, at_get_d c.args.f.now c.args.b c.requires.1),
  omega (arith, at_get_d c.args.f.now c.args.a c.requires.0),
)
