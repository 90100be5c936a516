-- Narrowing held stars, whatever stands there: a pair is tried by turning it where it stands and numbering the stars, with tests 7 and 18. Assumes nothing.
use Rattle.std.specs.Prelude.{ℕ, zero, suc, Bool, ◌&&◌, List, ltb}
use Rattle.floor.specs.Jobs.{Sizes, sized_job}
use Rattle.floor.specs.Plans.{Plan, Answer, refused, rect_of, overlap}
use Rattle.floor.specs.Narrow.{Search, nothing, pair, first_pair, stacked, narrower}
use Rattle.stars.specs.declared.Stars.{Stars}
use Rattle.stars.specs.declared.held.Held.{Held}
use Rattle.stars.specs.Held.{job_of}
use Rattle.drawing.specs.declared.Plan.{Plan as HeldPlan}
use Rattle.drawing.specs.Rects.{plan_in}
use Rattle.drawing.specs.Drawn.{numbered_any, kept}
use Rattle.turns.specs.InPlace.{Swing, stops, swings, swing_of, turned_in}

-- so many stars that lie one behind the other
abbrev pub stars_of : ℕ → List ℕ → List ℕ → List ℕ → Stars
stars_of count ends nbr kind = record { count = count; ends = ends; nbr = nbr; kind = kind }

-- stars as they are lent
abbrev pub stars_lent : Held → Stars
stars_lent h = stars_of h.count h.ends.now h.nbr.now h.kind.now

-- the stars with a contact turned where it stands; as they are where it is refused
unfoldable pub turned_stars : Stars → ℕ → ℕ → Stars
turned_stars h u v = stars_of h.count h.ends h.nbr (turned_in h.count h.ends h.nbr h.kind u v)

-- two rooms reach less than two cells' length over one another
unfoldable pub brief : Plan → ℕ → ℕ → Bool
brief p u v = ltb (overlap (rect_of p u).x1 (rect_of p u).x2 (rect_of p v).x1 (rect_of p v).x2) 2

-- what the turned stars come to: their plan by tests 7 and 18, or the number of the refusal
unfoldable pub swung_to : Stars → Sizes → ℕ → ℕ → Swing → Answer
swung_to h z u v (stops k) = refused k
swung_to h z u v (swings a b t) = numbered_any (sized_job (job_of (turned_stars h u v)) z)

-- what trying a pair comes to
unfoldable pub tried : Stars → Sizes → ℕ → ℕ → Answer
tried h z u v = swung_to h z u v (swing_of (job_of h) u v)

-- THE TEST OF ONE PAIR: one lies above the other, by less than two cells' length, and turned they make the sheet narrower
unfoldable pub slims_by : Stars → Sizes → HeldPlan → ℕ → ℕ → Bool
slims_by h z p u v = stacked (job_of h) u v && (brief (plan_in p) u v && narrower p.width (tried h z u v))

-- the first pair to pass
unfoldable pub first_slims : Stars → Sizes → HeldPlan → Search
first_slims h z p = first_pair (slims_by h z p) 4 h.count

-- what is held while a floor is narrowed, and after how many turns
pub record Slimmer : Type 0 where
  pub stars : Stars
  pub plan : HeldPlan
  pub turns : ℕ

-- one turn more
abbrev pub once_more : Slimmer → Slimmer
once_more r = record { stars = r.stars; plan = r.plan; turns = suc r.turns }

-- after a round that found a pair, the rounds that follow; else what is held stays
unfoldable pub onward_from : Stars → Sizes → HeldPlan → Search → (Stars → HeldPlan → Slimmer) → Slimmer
onward_from h z p nothing next = record { stars = h; plan = p; turns = 0 }
onward_from h z p (pair u v) next = once_more (next (turned_stars h u v) (kept (tried h z u v)))

-- no more than so many rounds
unfoldable pub rounds_from : ℕ → Stars → Sizes → HeldPlan → Slimmer
rounds_from zero h z p = record { stars = h; plan = p; turns = 0 }
rounds_from (suc f) h z p = onward_from h z p (first_slims h z p) (λ i q. rounds_from f i z q)

-- STARS AND THEIR PLAN NARROWED: a sheet cannot get narrower more often than it is wide
unfoldable pub slimmed : Stars → Sizes → HeldPlan → Slimmer
slimmed h z p = rounds_from p.width h z p
