-- Visits: some rules of a job, wherever they stand. Assumes nothing.
use mathlib.Core.Path.{◌≡◌, refl, ap}
use mathlib.Core.Bool.{true}
use mathlib.Core.List.{List, [], ◌∷◌, Memᴰ}
use Prim.Native.Nat.{ℕ, suc, zero, ◌+◌, ◌-◌, ◌*◌, ◌≤◌, ◌<◌}
use native.Mathlib.Omega.{arith}
use native.Mathlib.Decide.{ℕ_discrete}
use borrow.Author.Tests.{ltb-true}
use lib.ListN.{length, get_or}
use Rattle.floor.proofs.Lists.Laws.{all_mem, mem_get_or}
use Rattle.floor.specs.Jobs.{Entry, Job, Sizes, rooms}
use Rattle.floor.specs.Walls.{Rule, before, low, high, extra, top_of, entry_rules, rules}
use Rattle.floor.proofs.Walls.Rules.{Told, Named, entry_every, every_told, job_walk}
use Rattle.stars.specs.Held.{to_at, entry_at, cells, start_of, end_of, held_star, job_in}
use Rattle.stars.specs.Pairs.{pair}
use Rattle.stars.specs.Sized.{sizes_lent}
use Rattle.stars.proofs.Holding.{star_in, length_stars}
use Rattle.walls.specs.declared.Step.{Step}
use Rattle.walls.specs.declared.Step.TheVariants.{Kept}
use Rattle.walls.specs.declared.Direction.{Direction}
use Rattle.walls.specs.declared.rules.Rules.{Rules}
use Rattle.walls.specs.Steps.{Among, Ran, Climbs, Enough, both, rules_of, sides_of}
use Rattle.walls.specs.Jobs.{axis_of, entry_named, star_named, named, top_of_rooms}
use Rattle.walls.proofs.Running.{ran_climbs, climbs_both}

-- nothing was done
pub climbs_none : (E : List Rule) (f : List ℕ) (top : ℕ) → Climbs Kept E f f top
climbs_none E f top = record { len = refl; reach = λ k. k; capped = λ c. c }

-- every neighbour of a job with so many sides is a vertex
module _ (m : ℕ) (j : Job) (b : named m j ≡ true) where
  -- each entry's neighbour has its sides among them
  pub named_entry : (i : ℕ) → i < length j → (e : Entry) → Memᴰ e (get_or j i []) → high e.to < m
  unfolding named star_named
  named_entry i h e q = ltb-true (high e.to) m (all_mem (entry_named m) (get_or j i []) (all_mem (star_named m) j b (get_or j i []) (mem_get_or j i [] h)) e q)

  -- with two sides for each vertex of the job, each entry's neighbour is a vertex
  pub all_named : m ≡ 2 * (length j + 4) → Named j
  all_named q i h e p = omega (arith, named_entry i h e p)

-- an entry between a star's start and its end is one of the star's
cells_mem : (nbr kind : List ℕ) (n from k : ℕ) → from ≤ k → k < from + n → Memᴰ (entry_at nbr kind k) (cells n from nbr kind)
unfolding cells
cells_mem nbr kind zero from k l h = absurd (omega arith)
cells_mem nbr kind (suc n) from k l h = go (ℕ_discrete k from) (λ a. cells_mem nbr kind n (suc from) k a (omega arith))
  where
    go : Dec (k ≡ from) → (suc from ≤ k → Memᴰ (entry_at nbr kind k) (cells n (suc from) nbr kind))
        → Memᴰ (entry_at nbr kind k) (entry_at nbr kind from ∷ cells n (suc from) nbr kind)
    go (yes e) later = rw e (Memᴰ.head refl)
    go (no e) later = Memᴰ.tail (later (omega arith))

-- the rules of an entry with a neighbour and a kind that were read at a place are those of the entry there
pub visit_ran : (nbr kind : List ℕ) (w : Direction) (u k : ℕ) (s : Step) (f f' : List ℕ) (top v x : ℕ) → v ≡ to_at nbr k → x ≡ get_or kind k 0
    → Ran s (entry_rules (axis_of w) u (pair v x)) f f' top → Ran s (entry_rules (axis_of w) u (entry_at nbr kind k)) f f' top
unfolding entry_at
visit_ran nbr kind w u k s f f' top v x ev ex p = rw (ev, ex) at p

module _ (ends nbr kind : List ℕ) (n : ℕ) where
  -- the job of the held stars
  abbrev job : Job
  job = job_in n ends nbr kind

  module _ (i k : ℕ) (h : i < n) (lf : start_of ends (length nbr) i ≤ k) (le : k < end_of ends (length nbr) i) where
    -- the entry at a place between the start and the end of star i is one of the star's
    here : Memᴰ (entry_at nbr kind k) (get_or job i [])
    unfolding held_star
    here =
        let z : 0 + i ≡ i = omega arith in
        rw (star_in n 0 i ends nbr kind h, z)
        (cells_mem nbr kind (end_of ends (length nbr) i - start_of ends (length nbr) i) (start_of ends (length nbr) i) k lf (omega arith))

    -- its neighbour has its sides among so many, where every neighbour of the job does
    pub visit_named : (m v x : ℕ) → named m job ≡ true → v ≡ to_at nbr k → x ≡ m → high v < x
    unfolding entry_at
    visit_named m v x b e q = rw (e, q) (named_entry m job b i (omega (arith, length_stars n 0 ends nbr kind)) (entry_at nbr kind k) here)

  -- what the job says is among its rules
  module _ (w : Direction) (z : Sizes) where
    -- it is a rule of the job
    abbrev Ours : Rule → Type 0
    Ours r = Memᴰ r (rules (axis_of w) job z)

    -- all that its rooms say is
    all_told : Told Ours (axis_of w) (extra (axis_of w) z) 4 job
    all_told = every_told Ours (axis_of w) (extra (axis_of w) z) 4 job (λ r m. m)

    -- the rules of an entry, run, are some rules of the job run
    pub visit_climbs : (i k : ℕ) (s : Step) (f f' : List ℕ) (top : ℕ) → i < n → start_of ends (length nbr) i ≤ k → k < end_of ends (length nbr) i
        → Ran s (entry_rules (axis_of w) (4 + i) (entry_at nbr kind k)) f f' top → Climbs s (rules (axis_of w) job z) f f' top
    visit_climbs i k s f f' top h lf le p =
        ran_climbs (entry_rules (axis_of w) (4 + i) (entry_at nbr kind k)) (rules (axis_of w) job z) f f' top s
        (entry_every Ours (axis_of w) (4 + i) (entry_at nbr kind k)
        (all_told.each i (omega (arith, length_stars n 0 ends nbr kind)) (entry_at nbr kind k) (here i k h lf le))) p

    -- a room's own rule, run, is some rule of the job run
    pub own_climbs : (i : ℕ) (s : Step) (f f' : List ℕ) (top : ℕ) → i < n
        → Ran s (before (low (4 + i)) (high (4 + i)) (extra (axis_of w) z (4 + i)) ∷ []) f f' top → Climbs s (rules (axis_of w) job z) f f' top
    own_climbs i s f f' top h p =
        ran_climbs (before (low (4 + i)) (high (4 + i)) (extra (axis_of w) z (4 + i)) ∷ []) (rules (axis_of w) job z) f f' top s
        (only (all_told.own i (omega (arith, length_stars n 0 ends nbr kind)))) p
      where
        only : Ours (before (low (4 + i)) (high (4 + i)) (extra (axis_of w) z (4 + i)))
            → Among (before (low (4 + i)) (high (4 + i)) (extra (axis_of w) z (4 + i)) ∷ []) (rules (axis_of w) job z)
        only m r (Memᴰ.tail x4) = elim x4 [ ]
        only m r (Memᴰ.head e) = rw e m

-- and one visit more
pub climbs_more : (E : List Rule) (f f₁ f₂ : List ℕ) (top : ℕ) (s t r : Step) → Climbs s E f f₁ top → Climbs t E f₁ f₂ top → r ≡ both s t
    → Climbs r E f f₂ top
climbs_more E f f₁ f₂ top s t r p q e = rw e (climbs_both E f f₁ f₂ top s t p q)

-- a place of a star, by where the star starts and ends
pub place_low : (ends : List ℕ) (most i start k : ℕ) → start ≡ start_of ends most i → start ≤ k → start_of ends most i ≤ k
place_low ends most i start k e h = rw (← e) h

-- a place before the end that was read is before the star's end
pub place_high : (ends : List ℕ) (most i end k : ℕ) → end ≡ end_of ends most i → k < end → k < end_of ends most i
place_high ends most i end k e h = rw (← e) h

-- where numbers can be put on a job's walls, no walk passes the top of its rooms
pub job_enough : (ends nbr kind : List ℕ) (n m top : ℕ) (w : Direction) (z : Sizes) → named m (job_in n ends nbr kind) ≡ true → m ≡ 2 * (n + 4)
    → top ≡ top_of_rooms (axis_of w) n z → Enough (rules (axis_of w) (job_in n ends nbr kind) z) top
unfolding top_of_rooms top_of rooms
job_enough ends nbr kind n m top w z b e q g r s v walk =
    let j : Job = job_in n ends nbr kind in
    let l : length j ≡ n = length_stars n 0 ends nbr kind in
    let k : top_of (axis_of w) j z ≡ top_of_rooms (axis_of w) n z = ap (λ (x : ℕ). top_of_rooms (axis_of w) x z) l in
    omega (arith, k, q, job_walk (axis_of w) j z (all_named m j b (omega arith)) g r s v walk)

-- where numbers can be put on the walls, no walk passes the top
pub rules_enough : (r : Rules) → Enough (rules_of r) r.top
rules_enough r =
    job_enough r.stars.ends.now r.stars.nbr.now r.stars.kind.now r.stars.count (sides_of r) r.top r.way (sizes_lent r.sizes) r.in_job refl r.is_top
