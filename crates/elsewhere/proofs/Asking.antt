-- Once round each star, room by room, as the code comes by it. Assumes nothing.
use Prim.Native.Nat.{ℕ, suc, ◌+◌, ◌-◌, ◌≤◌, ◌<◌}
use mathlib.Core.Path.{◌≡◌, refl}
use mathlib.Core.Bool.{Bool, true, false, not, ◌&&◌}
use mathlib.Core.List.{List}
use native.Mathlib.Omega.{arith}
use native.Mathlib.Nat.{sub-zero}
use borrow.Author.Tests.{eq-eqb, ne_eqb, not-true, not-false}
use lib.ListN.{length, get_or}
use Rattle.floor.specs.Lists.{all, keep, up_from}
use Rattle.floor.specs.Lists.Laws.{bit}
use Rattle.floor.proofs.Lists.Laws.{count_nil, count_cons}
use Rattle.floor.specs.Jobs.{sized_job, links, changes, rooms, star_of, lists, size_of}
use Rattle.floor.specs.Plans.{Plan, rect_of}
use Rattle.floor.specs.Foreign.{stands_on, abut_on, corner_on, between, large, star_stands, step_on, star_round, in_corner, room_good}
use Rattle.stars.specs.Held.{to_at, entry_at, cells, place_after, link_at, links_from, start_of, end_of, held_star, stars_in, job_in}
use Rattle.stars.specs.Sized.{sizes_in}
use Rattle.stars.proofs.Holding.{cells_more, cells_done, held_more, held_done, length_stars, room_star}
use Rattle.stars.proofs.Round.{links_round, links_false, links_next, links_all}
use Rattle.drawing.specs.declared.Rect.{Rect as HeldRect}
use Rattle.drawing.specs.Rects.{rect_in}
use Rattle.drawing.specs.Tests.{two_at}
use Rattle.elsewhere.specs.Placed.{stands_at}

-- the neighbour at a place, at its labelled side
pub entry_is : (p : Plan) (nbr kind : List ℕ) (u k v x : ℕ) (r s : HeldRect) (b : Bool) → rect_in r ≡ rect_of p u → v ≡ to_at nbr k → rect_in s ≡ rect_of p v
    → x ≡ get_or kind k 0 → b ≡ stands_on x (rect_in r) (rect_in s) → b ≡ stands_at p u (entry_at nbr kind k)
unfolding stands_at entry_at
entry_is p nbr kind u k v x r s b er ev es ex eb = rw (← ev, ← ex, ← er, ← es) eb

-- the neighbours from a place to an end, one by one
module _ (p : Plan) (nbr kind : List ℕ) (u end k : ℕ) (w : Bool) (inv : all (stands_at p u) (cells (end - k) k nbr kind) ≡ w) where
  module _ (b : Bool) (h : k < end) (e : b ≡ stands_at p u (entry_at nbr kind k)) where
    -- where the next does not stand there, not all do
    pub stand_false : not b ≡ true → false ≡ w
    unfolding all
    stand_false t = rw (cells_more nbr kind end k h, ← e, not-true b t) at inv

    -- where it does, all do exactly if those behind it do
    pub stand_next : not b ≡ false → all (stands_at p u) (cells (end - (k + 1)) (k + 1) nbr kind) ≡ w
    unfolding all
    stand_next t = rw (cells_more nbr kind end k h, ← e, not-false b t) at inv

  -- behind the last there is none left
  pub stand_all : end ≤ k → true ≡ w
  unfolding all
  stand_all h = rw (cells_done nbr kind end k h) at inv

-- from the neighbour at one place to that at another
module _ (p : Plan) (nbr kind : List ℕ) (u a b k m x y : ℕ) (r s : HeldRect) (t : Bool) (ek : k ≡ get_or kind a 0) (ex : x ≡ to_at nbr a)
    (er : rect_in r ≡ rect_of p x) (ey : y ≡ to_at nbr b) (es : rect_in s ≡ rect_of p y) (em : m ≡ get_or kind b 0) where
  -- on one side,
  pub step_same : k ≡ m → t ≡ abut_on k (rect_in r) (rect_in s) → t ≡ step_on p u (two_at nbr kind a b)
  unfolding step_on changes entry_at
  step_same h e = rw (← ek, ← em, eq-eqb k m h, ← ex, ← er, ← ey, ← es) e

  -- or round a corner
  pub step_corner : (q : HeldRect) → (k ≡ m → ⊥) → rect_in q ≡ rect_of p u → t ≡ corner_on k (rect_in q) (rect_in r) (rect_in s) → t ≡ step_on p u (two_at nbr kind a b)
  unfolding step_on changes entry_at
  step_corner q h eq e = rw (← ek, ← em, ne_eqb k m h, ← ex, ← er, ← ey, ← es, ← eq) e

-- once round, a place at a time: n is the place behind k
module _ (p : Plan) (nbr kind : List ℕ) (u start end k : ℕ) (w : Bool) where
  module _ (n : ℕ) (b : Bool) (inv : all (step_on p u) (links_from start end nbr kind k) ≡ w) (h : k < end) (en : n ≡ place_after start end k)
      (g : b ≡ step_on p u (two_at nbr kind k n)) where
    -- the answer is that of the neighbour at k and the one that follows it
    here : b ≡ step_on p u (link_at start end nbr kind k)
    unfolding link_at
    here = rw (← en) g

    -- where there is a gap between these two, there is one
    pub round_false : not b ≡ true → false ≡ w
    round_false = links_false nbr kind start end k w (step_on p u) b inv h here

    -- where there is none, it comes to those from the next place on
    pub round_next : not b ≡ false → all (step_on p u) (links_from start end nbr kind (k + 1)) ≡ w
    round_next = links_next nbr kind start end k w (step_on p u) b inv h here

  -- behind the last place there is no gap left
  pub round_all : all (step_on p u) (links_from start end nbr kind k) ≡ w → end ≤ k → true ≡ w
  round_all = links_all nbr kind start end k w (step_on p u)

-- the whole star is what is left from its first place on
pub round_first : (p : Plan) (nbr kind : List ℕ) (u start end : ℕ)
    → all (step_on p u) (links_from start end nbr kind start) ≡ all (step_on p u) (links (cells (end - start) start nbr kind))
round_first p nbr kind u start end = rw (links_round nbr kind start end)

-- the star of the i-th room
pub star_there : (ends nbr kind : List ℕ) (n i x y : ℕ) → i < n → x ≡ start_of ends (length nbr) i → y ≡ end_of ends (length nbr) i
    → star_of (job_in n ends nbr kind) (4 + i) ≡ cells (y - x) x nbr kind
star_there ends nbr kind n i x y h ex ey =
    let e : 4 + i - 4 ≡ i = omega arith in
    room_star ends nbr kind n (4 + i) 0 0 x y (omega arith) (omega arith) (rw e ex) (rw e ey)

-- what is asked of a room, in turn
pub room_is : (ends nbr kind l : List ℕ) (n t i : ℕ) (p : Plan) → i < n
    → room_good (sized_job (job_in n ends nbr kind) (sizes_in t l)) p (4 + i)
    ≡ (between p (rect_of p (4 + i)) && large (size_of (sizes_in t l) (4 + i)) (rect_of p (4 + i))
    && all (stands_at p (4 + i)) (cells (end_of ends (length nbr) i - start_of ends (length nbr) i) (start_of ends (length nbr) i) nbr kind)
    && all (step_on p (4 + i)) (links (cells (end_of ends (length nbr) i - start_of ends (length nbr) i) (start_of ends (length nbr) i) nbr kind)))
unfolding room_good star_stands stands_at star_round
room_is ends nbr kind l n t i p h = rw (star_there ends nbr kind n i _ _ h refl refl)

-- the rooms, one by one
module _ (q : ℕ → Bool) (m i : ℕ) (w : Bool) (inv : all q (up_from (4 + i) (m - i)) ≡ w) where
  module _ (b : Bool) (h : i < m) (e : b ≡ q (4 + i)) where
    -- where the next fails, not all pass
    pub rooms_false : not b ≡ true → false ≡ w
    unfolding all up_from
    rooms_false t =
        let d : m - i ≡ suc (m - (i + 1)) = omega arith in
        rw (d, ← e, not-true b t) at inv

    -- where it passes, all pass exactly if those behind it do
    pub rooms_next : not b ≡ false → all q (up_from (4 + (i + 1)) (m - (i + 1))) ≡ w
    unfolding all up_from
    rooms_next t =
        let d : m - i ≡ suc (m - (i + 1)) = omega arith in
        let s : 4 + (i + 1) ≡ suc (4 + i) = omega arith in
        rw s (rw (d, ← e, not-false b t) at inv)

  -- behind the last there is none left
  pub rooms_all : m ≤ i → true ≡ w
  unfolding all up_from
  rooms_all h =
      let d : m - i ≡ 0 = omega arith in
      rw d at inv

-- before the first all are left
pub rooms_first : (q : ℕ → Bool) (ends nbr kind : List ℕ) (n : ℕ) → all q (up_from (4 + 0) (n - 0)) ≡ all q (rooms (job_in n ends nbr kind))
unfolding rooms
rooms_first q ends nbr kind n = rw (length_stars n 0 ends nbr kind, sub-zero)

-- a room in the corner, by the two contacts that put it there
module _ (ends nbr kind : List ℕ) (n i : ℕ) (h : i < n) where
  -- its star
  star_held : star_of (job_in n ends nbr kind) (4 + i) ≡ held_star ends nbr kind i
  unfolding held_star
  star_held = star_there ends nbr kind n i _ _ h refl refl

  -- W is not at its left,
  pub corner_west : lists (star_of (job_in n ends nbr kind) (4 + i)) 1 1 ≡ false → false ≡ in_corner (held_star ends nbr kind i)
  unfolding in_corner
  corner_west t = rw (← star_held, t)

  -- or else it comes to S below
  pub corner_south : lists (star_of (job_in n ends nbr kind) (4 + i)) 1 1 ≡ true
      → lists (star_of (job_in n ends nbr kind) (4 + i)) 2 2 ≡ in_corner (held_star ends nbr kind i)
  unfolding in_corner
  corner_south t = rw (← star_held, t)

-- the rooms in the corner, counted one by one
module _ (ends nbr kind : List ℕ) (m i f w : ℕ) (inv : f + length (keep in_corner (stars_in (m - i) i ends nbr kind)) ≡ w) where
  -- the next, and those behind it
  pub corner_next : (b : Bool) (x : ℕ) → i < m → b ≡ in_corner (held_star ends nbr kind i) → x ≡ bit b
      → f + x + length (keep in_corner (stars_in (m - (i + 1)) (i + 1) ends nbr kind)) ≡ w
  corner_next b x h g e =
      let c : f + (bit (in_corner (held_star ends nbr kind i)) + length (keep in_corner (stars_in (m - (i + 1)) (i + 1) ends nbr kind))) ≡ w
      = rw (held_more ends nbr kind m i h, count_cons in_corner (held_star ends nbr kind i) (stars_in (m - (i + 1)) (i + 1) ends nbr kind)) at inv in
      let y : x ≡ bit (in_corner (held_star ends nbr kind i)) = rw g at e in
      omega arith

  -- behind the last, those found are all
  pub corner_done : m ≤ i → f ≡ w
  corner_done h = let c : f + 0 ≡ w = rw (held_done ends nbr kind m i h, count_nil in_corner) at inv in omega arith
