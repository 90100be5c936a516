-- Sides, vertices and placements. Each coordinate is read as how far a side reaches, from the opposite edge of the sheet: x2 to the right, width - x1 to the
-- left,
-- y2 upward, height - y1 downward. Then the four sides obey one rule. Assumes nothing.
use Rattle.std.specs.Prelude.{◌≡◌, refl, ◌⊎◌, ℕ, ◌+◌, ◌≤◌, ◌<◌}
use mathlib.Core.List.{List, [], ◌∷◌, Memᴰ}

-- the four sides, in the order of the kinds
pub data Side : Type 0 where
  up left down right : Side

-- counterclockwise
abbrev pub next : Side → Side
next up = left
next left = down
next down = right
next right = up

-- the opposite side
abbrev pub opp : Side → Side
opp k = next (next k)

-- the side before, clockwise
abbrev pub prev : Side → Side
prev k = next (next (next k))

-- the side after the one before a side is that side
pub round : (k : Side) → next (prev k) ≡ k
round up = refl
round left = refl
round down = refl
round right = refl

-- what holds on one side, and on a side where it holds on the next, holds on every side
pub around : (Q : Side → Type 0) → ((k : Side) → Q (next k) → Q k) → Q left → (k : Side) → Q k
around Q f q left = q
around Q f q up = f up q
around Q f q right = f right (f up q)
around Q f q down = f down (f right (f up q))

-- a frame side (N up, W left, S down, E right), or a room
pub data Piece : Type 0 where
  side : Side → Piece
  room : ℕ → Piece

-- a placement: the sheet's width and height, and each vertex on it
pub record Place : Type 0 where
  pub width : ℕ
  pub height : ℕ
  -- how far side k of a vertex reaches
  pub at : Side → Piece → ℕ

-- how large the sheet is in the direction of a side
abbrev pub size : Place → Side → ℕ
size p up = p.height
size p left = p.width
size p down = p.height
size p right = p.width

-- how many rooms, and each room's neighbours of a kind, counterclockwise
pub record Stars : Type 0 where
  pub count : ℕ
  pub list : Side → ℕ → List Piece

-- a frame side, or one of the job's rooms
abbrev pub Known : Stars → Piece → Type 0
Known s (side t) = Unit {0}
Known s (room i) = i < s.count

-- what may stand in a list of kind k
abbrev pub Named : Stars → Side → Piece → Type 0
Named s k (side t) = t ≡ k
Named s k (room i) = i < s.count

-- tests 4 to 6
pub record Lawful (s : Stars) : Type 0 where
  pub known : (k : Side) (i : ℕ) (v : Piece) → i < s.count → Memᴰ v (s.list k i) → Named s k v
  pub back : (k : Side) (i j : ℕ) → i < s.count → Memᴰ (room j) (s.list k i) → Memᴰ (room i) (s.list (opp k) j)
  pub some : (k : Side) (i : ℕ) → i < s.count → s.list k i ≡ [] → ⊥

-- the frame sides that meet: `Beside k t r` says that r lies on side k of t
pub data Beside : Side → Side → Side → Type 0 where
  wn : Beside right left up
  ws : Beside right left down
  ne : Beside right up right
  se : Beside right down right
  nw : Beside left up left
  sw : Beside left down left
  en : Beside left right up
  es : Beside left right down

-- the job says that v lies on side k of u
abbrev pub Contact : Stars → Side → Piece → Piece → Type 0
Contact s k (room i) v = Memᴰ v (s.list k i)
Contact s k (side t) (room j) = Memᴰ (side t) (s.list (opp k) j)
Contact s k (side t) (side r) = Beside k t r

-- v lies on side k of u with a cell's length of wall
pub record Meets (p : Place) (k : Side) (u v : Piece) : Type 0 where
  pub touch : p.at k u + p.at (opp k) v ≡ size p k
  pub ahead : size p (next k) < p.at (next k) u + p.at (prev k) v
  pub behind : size p (next k) < p.at (prev k) u + p.at (next k) v

-- a cell, seen in direction k: how many cells lie beyond it towards opp k, prev k, k and next k
pub record Tile (p : Place) (k : Side) : Type 0 where
  pub a : ℕ
  pub b : ℕ
  pub c : ℕ
  pub d : ℕ
  pub ac : a + c + 1 ≡ size p k
  pub bd : b + d + 1 ≡ size p (next k)

-- v covers the cell
pub record In (p : Place) (k : Side) (x : Tile p k) (v : Piece) : Type 0 where
  pub ina : x.a < p.at k v
  pub inb : x.b < p.at (next k) v
  pub inc : x.c < p.at (opp k) v
  pub ind : x.d < p.at (prev k) v

-- lists
abbrev pub AtFirst : (Piece → Type 0) → List Piece → Type 0
AtFirst P [] = ⊥
AtFirst P (v ∷ l) = P v

-- the list has a last, which has P
abbrev pub AtLast : (Piece → Type 0) → List Piece → Type 0
AtLast P [] = ⊥
AtLast P (v ∷ []) = P v
AtLast P (v ∷ w ∷ l) = AtLast P (w ∷ l)

-- each of the list stands in R to the next
abbrev pub Linked : (Piece → Piece → Type 0) → List Piece → Type 0
Linked R [] = Unit {0}
Linked R (v ∷ []) = Unit {0}
Linked R (v ∷ w ∷ l) = R v w × Linked R (w ∷ l)

-- each of the list stands in R to every later one
abbrev pub Ordered : (Piece → Piece → Type 0) → List Piece → Type 0
Ordered R [] = Unit {0}
Ordered R (v ∷ l) = ((w : Piece) → Memᴰ w l → R v w) × Ordered R l

-- W and E full height, N and S between
pub record Shape (p : Place) : Type 0 where
  pub w_left : p.at left (side left) ≡ p.width
  pub w_up : p.at up (side left) ≡ p.height
  pub w_down : p.at down (side left) ≡ p.height
  pub e_right : p.at right (side right) ≡ p.width
  pub e_up : p.at up (side right) ≡ p.height
  pub e_down : p.at down (side right) ≡ p.height
  pub n_up : p.at up (side up) ≡ p.height
  pub n_left : p.at left (side up) + p.at right (side left) ≡ p.width
  pub n_right : p.at right (side up) + p.at left (side right) ≡ p.width
  pub s_down : p.at down (side down) ≡ p.height
  pub s_left : p.at left (side down) + p.at right (side left) ≡ p.width
  pub s_right : p.at right (side down) + p.at left (side right) ≡ p.width

-- in the list of kind k, v stands before w: document 01 asks the one for kinds 0 and 1, the other for 2 and 3
abbrev pub Precedes : Place → Side → Piece → Piece → Type 0
Precedes p k v w = (p.at (next k) v < p.at (next k) w) ⊎ (p.at (prev k) w < p.at (prev k) v)

-- W8: a plan that is good for a job
pub record Good (s : Stars) (p : Place) : Type 0 where
  pub shape : Shape p
  pub inside : (k : Side) (v : Piece) → Known s v → p.at k v ≤ size p k
  pub thick : (k : Side) (v : Piece) → Known s v → size p k < p.at k v + p.at (opp k) v
  pub cover : (k : Side) (x : Tile p k) → (v : Piece) × Known s v × In p k x v
  pub alone : (k : Side) (x : Tile p k) (u v : Piece) → Known s u → Known s v → In p k x u → In p k x v → u ≡ v
  pub corner : (k : Side) (u v : Piece) → Known s u → Known s v → p.at k u + p.at (opp k) v ≡ size p k
      → p.at (next k) u + p.at (prev k) v ≡ size p (next k) → ⊥
  pub joined : (k : Side) (u v : Piece) → Known s u → Known s v → Meets p k u v → Contact s k u v
  pub meets : (k : Side) (u v : Piece) → Known s u → Known s v → Contact s k u v → Meets p k u v
  pub order : (k : Side) (i : ℕ) → i < s.count → Ordered (Precedes p k) (s.list k i)

-- at the corner of u between sides k and next k, where a ends the one list and b begins the next: one of them ends flush, the other goes past
abbrev pub Rounds : Place → Side → Piece → Piece → Piece → Type 0
Rounds p k u a b =
    ((p.at (next k) a ≡ p.at (next k) u) × (p.at k u < p.at k b))
    ⊎ ((p.at (next k) u < p.at (next k) a) × (p.at k b ≡ p.at k u))

-- the room in the corner between W and S
abbrev pub Base : Stars → ℕ → Type 0
Base s i = (i < s.count) × Memᴰ (side left) (s.list left i) × Memᴰ (side down) (s.list down i)

-- the local form: each list tiles its side of the room
pub record Local (s : Stars) (p : Place) : Type 0 where
  pub shape : Shape p
  pub inside : (k : Side) (v : Piece) → Known s v → p.at k v ≤ size p k
  pub thick : (k : Side) (v : Piece) → Known s v → size p k < p.at k v + p.at (opp k) v
  pub within : (k : Side) (i : ℕ) → i < s.count → p.at k (room i) + p.at (opp k) (side k) ≤ size p k
  pub meets : (k : Side) (i : ℕ) (v : Piece) → i < s.count → Memᴰ v (s.list k i) → Meets p k (room i) v
  pub linked : (k : Side) (i : ℕ) → i < s.count → Linked (λ a b. p.at (next k) a + p.at (prev k) b ≡ size p (next k)) (s.list k i)
  pub turns : (k : Side) (i : ℕ) → i < s.count → AtLast (λ a. AtFirst (λ b. Rounds p k (room i) a b) (s.list (next k) i)) (s.list k i)
  pub base : (i : ℕ) × Base s i
  pub base_one : (i j : ℕ) → Base s i → Base s j → i ≡ j

-- what a good plan shows of the job alone: neighbours in a star are joined to one another
pub record Tri (s : Stars) : Type 0 where
  pub linked : (k : Side) (i : ℕ) → i < s.count → Linked (λ a b. Contact s (next k) a b) (s.list k i)
  pub turns : (k : Side) (i : ℕ) → i < s.count → AtLast (λ a. AtFirst (λ b. Contact s (next k) a b ⊎ Contact s (opp k) a b) (s.list (next k) i))
      (s.list k i)
  pub base : (i : ℕ) × Base s i
  pub base_one : (i j : ℕ) → Base s i → Base s j → i ≡ j

-- what wall numbers give: the frame, rooms inside it, and every contact met on its labelled side
pub record Fits (s : Stars) (p : Place) : Type 0 where
  pub shape : Shape p
  pub inside : (k : Side) (v : Piece) → Known s v → p.at k v ≤ size p k
  pub thick : (k : Side) (v : Piece) → Known s v → size p k < p.at k v + p.at (opp k) v
  pub within : (k : Side) (i : ℕ) → i < s.count → p.at k (room i) + p.at (opp k) (side k) ≤ size p k
  pub meets : (k : Side) (u v : Piece) → Known s u → Known s v → Contact s k u v → Meets p k u v
