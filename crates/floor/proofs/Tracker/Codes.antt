-- A touch as one number tells the touch. Assumes nothing.
use Rattle.std.specs.Prelude.{ℕ, ◌≤◌, ◌<◌, ◌≡◌, refl, Bool, true, false, cond, eqb}
use Rattle.std.proofs.Common.{arith}
use Rattle.floor.specs.Plans.{Plan, rect_of, Touch, clear, wall, touch_of}
use Rattle.floor.proofs.Floor.Touches.{touch_fair}
use Rattle.floor.specs.Calls.{touching}
use Rattle.floor.specs.Tracker.{touch_code}

-- a touch that can be: no wall, or one of four sides and a length of at least 1
abbrev pub Fair : Touch → Type 0
Fair clear = Unit {0}
Fair (wall k n) = (k < 4) × (1 ≤ n)

-- ONE NUMBER, ONE TOUCH
pub touch_code_lem : (s t : Touch) → Fair s → Fair t → touch_code s ≡ touch_code t → s ≡ t
unfolding touch_code
touch_code_lem clear clear a b e = refl
touch_code_lem clear (wall l m) a b e = absurd (omega (arith, b.1))
touch_code_lem (wall k n) clear a b e = absurd (omega (arith, a.1))
touch_code_lem (wall k n) (wall l m) a b e =
    let x : k ≡ l = omega (arith, a.0, b.0) in
    let y : n ≡ m = omega (arith, a.0, b.0) in
    rw (x, y) refl

-- every touch that is told is one
pub touching_fair : (p : Plan) (u v : ℕ) → Fair (touching p u v)
unfolding touching
touching_fair p u v = go (eqb u v)
  where
    of : (t : Touch) → touch_of (rect_of p u) (rect_of p v) ≡ t → Fair t
    of clear e = tt
    of (wall k n) e = touch_fair (rect_of p u) (rect_of p v) k n e

    go : (b : Bool) → Fair (cond b clear (touch_of (rect_of p u) (rect_of p v)))
    go true = tt
    go false = of (touch_of (rect_of p u) (rect_of p v)) refl
