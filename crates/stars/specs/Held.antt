-- Which job the held stars are. Assumes nothing.
use Rattle.std.specs.Prelude.{ℕ, zero, suc, ◌+◌, ◌-◌, ◌%◌, min, Bool, cond, not, ◌||◌, List, [], ◌∷◌, map, length, get_or, set, replicate, leb, ltb, eqb}
use Rattle.std.proofs.lemmas.List.Edits.{sets}
use Rattle.floor.specs.Lists.{all}
use Rattle.floor.specs.Jobs.{Entry, Star, Link, links_to, Job, opposite, star_of, lists}
use Rattle.stars.specs.declared.Stars.{Stars}
use Rattle.stars.specs.declared.held.Held.{Held}

-- the neighbour at a place; one byte of it counts
unfoldable pub to_at : List ℕ → ℕ → ℕ
to_at nbr k = get_or nbr k 0 % 256

-- the entry at a place
unfoldable pub entry_at : List ℕ → List ℕ → ℕ → Entry
entry_at nbr kind k = record { to = to_at nbr k; kind = get_or kind k 0 }

-- the m entries from a place on
unfoldable pub cells : ℕ → ℕ → List ℕ → List ℕ → Star
cells zero k nbr kind = []
cells (suc m) k nbr kind = entry_at nbr kind k ∷ cells m (suc k) nbr kind

-- the place behind one of a star that lies from a place to an end; behind the last the first
unfoldable pub place_after : ℕ → ℕ → ℕ → ℕ
place_after start end k = cond (ltb (k + 1) end) (k + 1) start

-- the entry at a place of such a star, and the one that follows it
unfoldable pub link_at : ℕ → ℕ → List ℕ → List ℕ → ℕ → Link
link_at start end nbr kind k = record { this = entry_at nbr kind k; next = entry_at nbr kind (place_after start end k) }

-- the rest of once round such a star, from a place of it on
unfoldable pub links_from : ℕ → ℕ → List ℕ → List ℕ → ℕ → List Link
links_from start end nbr kind k = links_to (entry_at nbr kind start) (cells (end - k) k nbr kind)

-- where star i ends, of stars that lie in so many places at most
unfoldable pub end_of : List ℕ → ℕ → ℕ → ℕ
end_of ends most i = min (get_or ends i 0) most

-- where star i starts
unfoldable pub start_of : List ℕ → ℕ → ℕ → ℕ
start_of ends most zero = 0
start_of ends most (suc i) = end_of ends most i

-- star i
unfoldable pub held_star : List ℕ → List ℕ → List ℕ → ℕ → Star
held_star ends nbr kind i =
    let start : ℕ = start_of ends (length nbr) i in
    cells (end_of ends (length nbr) i - start) start nbr kind

-- the m stars from star i on
unfoldable pub stars_in : ℕ → ℕ → List ℕ → List ℕ → List ℕ → Job
stars_in zero i ends nbr kind = []
stars_in (suc m) i ends nbr kind = held_star ends nbr kind i ∷ stars_in m (suc i) ends nbr kind

-- THE JOB OF SO MANY STARS that lie one behind the other, whatever stands there
abbrev pub job_in : ℕ → List ℕ → List ℕ → List ℕ → Job
job_in count ends nbr kind = stars_in count 0 ends nbr kind

-- the job of stars as they are lent
abbrev pub job_held : Held → Job
job_held h = job_in h.count h.ends.now h.nbr.now h.kind.now

-- THE JOB THAT STARS HOLD
unfoldable pub job_of : Stars → Job
job_of h = job_in h.count h.ends h.nbr h.kind

-- the first of m places, from place k on, whose entry names v; the place behind them where none does
unfoldable pub place_in : ℕ → ℕ → List ℕ → ℕ → ℕ
place_in zero k nbr v = k
place_in (suc m) k nbr v = cond (eqb (to_at nbr k) v) k (place_in m (suc k) nbr v)

-- where the entry of room u names a room, that room lists u with the opposite kind
unfoldable pub answers : Job → ℕ → Entry → Bool
answers j u e = not (leb 4 e.to) || lists (star_of j e.to) u (opposite e.kind)

-- every entry of room u's star is answered
unfoldable pub star_answers : Job → ℕ → Star → Bool
star_answers j u s = all (answers j u) s

-- no stars
unfoldable pub no_stars : Stars
no_stars = record { count = 0; ends = replicate 60 0; nbr = replicate 360 0; kind = replicate 360 0 }

-- a neighbour
abbrev pub to_of : Entry → ℕ
to_of e = e.to

-- its kind
abbrev pub kind_of : Entry → ℕ
kind_of e = e.kind

-- one star more, its entries from place m on
unfoldable pub put_star : Stars → ℕ → Star → Stars
put_star h m s =
    record {
      count = h.count + 1;
      ends = set h.ends h.count (m + length s);
      nbr = sets h.nbr m (map to_of s);
      kind = sets h.kind m (map kind_of s);
    }

-- some stars more, their entries from place m on
unfoldable pub put_all : Stars → ℕ → Job → Stars
put_all h m [] = h
put_all h m (s ∷ j) = put_all (put_star h m s) (m + length s) j

-- THE STARS THAT HOLD A JOB
unfoldable pub held_of : Job → Stars
held_of j = put_all no_stars 0 j
