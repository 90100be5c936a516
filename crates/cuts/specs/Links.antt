-- Rooms linked by their corners. Assumes nothing.
use Rattle.std.specs.Prelude.{ℕ, suc, ◌+◌, ◌*◌, ◌%◌, ◌≤◌, ◌<◌, ◌≡◌, ◌⊎◌, List, length, get_or}
use Rattle.cuts.specs.declared.links.Rooms.{Rooms}

-- a corner's mark: its two numbers as one under 127, a prime, so that corners in line seldom share a mark
unfoldable pub mark_of : ℕ → ℕ → ℕ
mark_of x y = (11 * x + y) % 127

-- the mark of the lower left corner of vertex v
unfoldable pub corner_at : List ℕ → ℕ → ℕ
corner_at l v = mark_of (get_or l (4 * v) 0) (get_or l (4 * v + 1) 0)

-- w is the first vertex from v on, before vertex last, with the mark x; 0 where there is none
pub record FirstAt (l : List ℕ) (last v x w : ℕ) : Type 0 where
  pub none_before : (u : ℕ) → v ≤ u → u < last → (w ≡ 0) ⊎ (u < w) → corner_at l u ≡ x → ⊥
  pub there : (w ≡ 0 → ⊥) → (v ≤ w) × (w < last) × (corner_at l w ≡ x)

-- w is a room before vertex last with the mark x
pub record RoomAt (l : List ℕ) (last x w : ℕ) : Type 0 where
  pub lower : 4 ≤ w
  pub upper : w < last
  pub corner : corner_at l w ≡ x

-- each room with the mark x is linked to the next
abbrev pub Follows : List ℕ → ℕ → ℕ → List ℕ → Type 0
Follows l last x next = (u : ℕ) → 4 ≤ u → u < last → corner_at l u ≡ x → FirstAt l last (suc u) x (get_or next u 0)

-- the rooms from vertex v on are linked: the first of each mark, and each room's next
pub record Linked (l : List ℕ) (last v : ℕ) (heads next : List ℕ) : Type 0 where
  pub firsts : (x : ℕ) → x < length heads → FirstAt l last v x (get_or heads x 0)
  pub follows : (u : ℕ) → v ≤ u → u < last → corner_at l u < length heads → FirstAt l last (suc u) (corner_at l u) (get_or next u 0)

-- THE ROOMS from the fifth vertex on, linked
abbrev pub Joined : Rooms → Type 0
Joined r = (4 ≤ r.last) × (r.last < 65536) × (length r.heads.now ≡ 127) × Linked r.rects.now r.last 4 r.heads.now r.next.now
