-- A job with a good plan drawn elsewhere, its rooms of at least their least sizes, is one that our load accepts, but for the sheet's limit. Assumes nothing.
use Rattle.std.specs.Prelude.{ℕ, ◌+◌, ◌≤◌, ◌≡◌, Bool, List, [], leb}
use Rattle.std.proofs.Math.Path.{refl}
use Rattle.std.proofs.Common.{◌∙◌, arith}
use Rattle.std.proofs.Math.Bool.{true, false}
use Rattle.std.proofs.Math.ListN.{length}
use borrow.Author.Tests.{leb-true, le-leb}
use Rattle.floor.proofs.Lists.Laws.{and_parts, and_both}
use Rattle.floor.specs.Jobs.{SizedJob, SizesPassed, test2, read_job}
use Rattle.floor.specs.Jobs.Facts.{Passes}
use Rattle.floor.proofs.Jobs.Facts.{passes_of}
use Rattle.floor.proofs.Jobs.Written.{read_test2}
use Rattle.floor.specs.Walls.{Numbers, upright, level, rules, at}
use Rattle.floor.proofs.Walls.Rules.{numbers_are, to_vertex}
use Rattle.floor.specs.Plans.{Plan, plan_of, drawable, held, test18, tested}
use Rattle.floor.proofs.Plans.Held.{past_true, past_false, drawn_is, width_bound, height_bound}
use Rattle.floor.specs.Floor.{GoodPlan, Roomy}
use Rattle.floor.proofs.Floor.Tested.{good_drawable}
use Rattle.floor.proofs.Floor.Ours.{plan_complete}
use Rattle.floor.proofs.Floor.Elsewhere.{Ours, good_ours}
use Rattle.floor.specs.Calls.{load, Loads, accepts, too_large}
use Rattle.floor.proofs.Calls.Sound.{load_drawn}

module _ (bs : List ℕ) (o : SizedJob) (s : SizesPassed (read_job bs) o) (q : Plan) (good : GoodPlan o.stars q) (roomy : Roomy o.stars o.sizes q) where
  -- what tests 4 to 6 tell
  ok : Passes o.stars
  ok = passes_of o.stars s.six.pass4 s.six.pass5 s.six.pass6

  -- its numbers, by the plan drawn elsewhere
  ours : Ours o.stars o.sizes
  ours = good_ours o.stars o.sizes ok q good roomy

  -- our plan
  abbrev p : Plan
  p = plan_of o.stars (at ours.xs) (at ours.ys)

  -- it is loaded as our plan is tested,
  loads_tested : load bs ≡ tested o p
  loads_tested = load_drawn bs o s ∙ drawn_is o ours.xs ours.ys ours.is_upright ours.is_level

  -- it passes the drawing test,
  draws : drawable o.stars p ≡ true
  draws = good_drawable o.stars ok p (plan_complete o.stars (at ours.xs) (at ours.ys)) ours.good

  -- and it is held where its sheet is not too large
  small_loads : test18 p ≡ true → load bs ≡ held o p
  unfolding tested
  small_loads y = loads_tested ∙ past_true (test18 p) 18 _ y ∙ past_true (drawable o.stars p) 9 _ draws

  -- IT IS LOADED, but for the sheet's limit
  pub good_plan_loads : Loads bs o
  unfolding tested
  good_plan_loads = go (test18 p) refl
    where
      go : (b : Bool) → test18 p ≡ b → Loads bs o
      go false y = too_large (loads_tested ∙ past_false (test18 p) 18 _ y)
      go true y = accepts p (small_loads y)

  -- WITHOUT SIZES IT IS ALWAYS LOADED: sixty rooms do not reach the limit
  pub good_plan_loads_plain : o.sizes ≡ [] → (p : Plan) × (load bs ≡ held o p)
  unfolding test2 test18
  good_plan_loads_plain e = (
    p,
    small_loads (and_both _ _ (le-leb p.width 250 (omega (arith, few, narrow))) (le-leb p.height 250 (omega (arith, few, low)))),
  )
    where
      few : length o.stars ≤ 60
      few = leb-true (length o.stars) 60 (and_parts (leb 1 (length o.stars)) _ (read_test2 bs o s.six.reading)).1

      nx : Numbers (rules upright o.stars o.sizes) (at ours.xs)
      nx = numbers_are upright o.stars o.sizes (to_vertex o.stars ok) ours.xs ours.is_upright

      ny : Numbers (rules level o.stars o.sizes) (at ours.ys)
      ny = numbers_are level o.stars o.sizes (to_vertex o.stars ok) ours.ys ours.is_level

      narrow : p.width ≤ length o.stars + 2
      narrow = width_bound o ok (at ours.xs) (at ours.ys) nx ny e

      low : p.height ≤ length o.stars + 2
      low = height_bound o ok (at ours.xs) (at ours.ys) nx ny e
