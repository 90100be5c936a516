-- How large a number can be: 1 plus what the heads of the `before` rules have room for. W1: n + 1, where the heads are the right sides of n rooms.
-- Assumes nothing.
use Rattle.std.specs.Prelude.{◌≡◌, refl, Bool, true, false, ℕ, suc, ◌+◌, ◌≤◌, ◌<◌, leb}
use mathlib.Core.List.{List, [], ◌∷◌, Memᴰ}
use Rattle.std.proofs.Common.{arith, leb-true, le-leb}
use Rattle.std.proofs.lemmas.Bool.{lt-leb}
use Rattle.floor.specs.Walls.{Rule, same, before, Respects}
use Rattle.floor.specs.Walls.Walk.{Walk, start, on, off, up}

-- a side at which `before` rules end, with the largest gap of those
pub record Head : Type 0 where
  pub side : ℕ
  pub most : ℕ

-- every `before` rule ends at a head of the list, and asks for no more than the head's gap
abbrev pub Heads : List Rule → List Head → Type 0
Heads E T = (a b x : ℕ) → Memᴰ (before a b x) E → (h : Head) × (Memᴰ h T) × (h.side ≡ b) × (suc x ≤ h.most)

-- a gap that counts where a test passes, and else nothing
part : Bool → ℕ → ℕ
part true c = c
part false c = 0

-- the gaps of the heads whose number is at most x
room : List Head → (ℕ → ℕ) → ℕ → ℕ
room [] g x = 0
room (h ∷ T) g x = part (leb (g h.side) x) h.most + room T g x

-- the gaps of all heads together
abbrev pub all_room : List Head → ℕ
all_room [] = 0
all_room (h ∷ T) = h.most + all_room T

-- a gap that may count adds no more than itself
part_le : (p : Bool) (c : ℕ) → part p c ≤ c
unfolding part
part_le true c = omega arith
part_le false c = omega arith

-- a gap adds no less under a test that passes whenever the other does
part_mono : (p q : Bool) (c : ℕ) → (p ≡ true → q ≡ true) → part p c ≤ part q c
unfolding part
part_mono true q c h = rw (h refl) (omega arith)
part_mono false q c h = omega arith

-- the heads numbered at most x have no more room than all of them
room_le : (T : List Head) (g : ℕ → ℕ) (x : ℕ) → room T g x ≤ all_room T
unfolding room
room_le [] g x = omega arith
room_le (h ∷ T) g x = omega (arith, part_le (leb (g h.side) x) h.most, room_le T g x)

-- what is at most x is at most any larger number
leb_up : (n x y : ℕ) → x ≤ y → leb n x ≡ true → leb n y ≡ true
leb_up n x y h e = le-leb n y (omega (arith, leb-true n x e))

-- the heads numbered at most y have no less room than those numbered at most x, where x is at most y
room_mono : (T : List Head) (g : ℕ → ℕ) (x y : ℕ) → x ≤ y → room T g x ≤ room T g y
unfolding room
room_mono [] g x y l = omega arith
room_mono (h ∷ T) g x y l =
    omega (arith, part_mono (leb (g h.side) x) (leb (g h.side) y) h.most (leb_up (g h.side) x y l), room_mono T g x y l)

-- a head numbered above x and at most y adds its gap between x and y
part_new : (n x y c : ℕ) → x < n → n ≤ y → part (leb n x) c + c ≤ part (leb n y) c
unfolding part
part_new n x y c l u = rw (lt-leb n x l, le-leb n y u) (omega arith)

-- from x to y the heads gain at least the room of one that is numbered above x and at most y
room_step : (T : List Head) (g : ℕ → ℕ) (x y : ℕ) (h : Head) → Memᴰ h T → x < g h.side → g h.side ≤ y → room T g x + h.most ≤ room T g y
unfolding room
room_step [] g x y h x5 l u = elim x5 [ ]
room_step (k ∷ T) g x y h (Memᴰ.head e) l u =
    rw (← e) (omega (arith, part_new (g h.side) x y h.most l u, room_mono T g x y (omega arith)))
room_step (k ∷ T) g x y h (Memᴰ.tail m) l u =
    omega (arith, part_mono (leb (g k.side) x) (leb (g k.side) y) k.most (leb_up (g k.side) x y (omega arith)), room_step T g x y h m l u)

-- where the numbers respect the rules, a walk to a side is at most 1 plus the room of the heads numbered no higher than that side
walk_room : (E : List Rule) (T : List Head) (g : ℕ → ℕ) → Heads E T → Respects E g → {s v : ℕ} → Walk E s v → v ≤ 1 + room T g (g s)
walk_room E T g hs r start = omega arith
walk_room E T g hs r (on {a} {b} m w) = rw (← (r (same a b) m)) (walk_room E T g hs r w)
walk_room E T g hs r (off {a} {b} m w) = rw (r (same a b) m) (walk_room E T g hs r w)
walk_room E T g hs r (up {a} {b} {x} {v} m w) =
    let (h, i, e, c) = hs a b x m in
    let lower : g a + suc x ≤ g b = r (before a b x) m in
    let below : g a < g h.side = rw e (omega arith) in
    let within : g h.side ≤ g b = rw e (omega arith) in
    omega (arith, walk_room E T g hs r w, room_step T g (g a) (g b) h i below within)

-- W1: where numbers can be put on the walls, no walk passes 1 plus all the heads' gaps
pub walk_bound : (E : List Rule) (T : List Head) (g : ℕ → ℕ) → Heads E T → Respects E g → {s v : ℕ} → Walk E s v → v ≤ 1 + all_room T
walk_bound E T g hs r {s} w = omega (arith, walk_room E T g hs r w, room_le T g (g s))
