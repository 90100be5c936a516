-- The rounds of a narrowing, whatever stands in the stars and in the plan, as the code comes by them. Assumes nothing.
use Prim.Native.Nat.{ℕ, zero, suc, ◌+◌, ◌≤◌, ◌<◌}
use mathlib.Core.Path.{◌≡◌, refl, sym, ap, ◌∙◌}
use mathlib.Core.Bool.{true}
use mathlib.Core.List.{List, []}
use native.Mathlib.Omega.{arith}
use borrow.Author.Tests.{ne_eqb, ltb-true}
use Rattle.floor.proofs.Lists.Laws.{no_false, and_parts}
use Rattle.floor.specs.Jobs.{Sizes}
use Rattle.floor.specs.Plans.{Answer, refused, held}
use Rattle.floor.specs.Narrow.{Search, nothing, pair, stacked, narrower}
use Rattle.floor.proofs.Narrow.Found.{Pairs, pairs}
use Rattle.floor.specs.Calls.{narrows}
use Rattle.stars.specs.declared.Stars.{Stars}
use Rattle.stars.specs.declared.Sizes.{Sizes as HeldSizes}
use Rattle.stars.specs.Held.{job_of}
use Rattle.stars.specs.Sized.{sizes_of}
use Rattle.std.specs.Prelude.{Option, Some, None, Ok}
use Rattle.drawing.specs.declared.Plan.{Plan as HeldPlan}
use Rattle.drawing.specs.Rects.{plan_in, held_plan}
use Rattle.drawing.specs.Drawn.{kept}
use Rattle.registers.specs.declared.Register.{Register}
use Rattle.registers.specs.Sorting.{kept_walls}
use Rattle.registers.specs.Kept.{kept_register}
use Rattle.narrowing.specs.Slims.{stars_of, turned_stars, brief, tried, slims_by, first_slims, Slimmer, once_more, onward_from, rounds_from, slimmed}
use Rattle.narrowing.specs.Rounds.{plan_across, found_drawing, found_kinds, Rounds}
use Rattle.narrowing.proofs.Corollaries.{any_height}
use Rattle.board.specs.declared.Board.{Board as HeldBoard}
use Rattle.board.specs.declared.Slim.{Slim}
use Rattle.board.specs.declared.Reply.TheVariants.{Made}
use Rattle.board.specs.Boards.{reply_of, slim_in, swung_slim, once_slim, slimmed_on, slim_board, slimmed_to, outcome, Tells}

-- ---- rounds

-- a plan that is narrower than so much is kept so
kept_narrower : (w : ℕ) (a : Answer) → narrower w a ≡ true → (kept a).width < w
unfolding narrower kept held_plan
kept_narrower w (refused k) e = no_false e
kept_narrower w (held i q) e = ltb-true q.width w e

module _ (h : Stars) (z : Sizes) (p : HeldPlan) where
  -- the pair that a search finds makes the sheet narrower
  pub pair_narrows : (u v : ℕ) → first_slims h z p ≡ pair u v → (kept (tried h z u v)).width < p.width
  unfolding first_slims slims_by
  pair_narrows u v e =
      let x : Pairs (slims_by h z p) 4 h.count (pair u v) = rw e at (pairs (slims_by h z p) 4 h.count) in
      let (_, y) = and_parts (stacked (job_of h) u v) _ x.3 in
      let (_, n) = and_parts (brief (plan_in p) u v) _ y in
      kept_narrower p.width (tried h z u v) n

-- so many rounds as the sheet is wide, or more, all come to the same
enough : (f g : ℕ) (h : Stars) (z : Sizes) (p : HeldPlan) → p.width ≤ f → p.width ≤ g → rounds_from f h z p ≡ rounds_from g h z p
unfolding rounds_from onward_from
enough zero zero h z p l m = refl
enough zero (suc g) h z p l m = go (first_slims h z p) refl
  where
    go : (x : Search) → first_slims h z p ≡ x → record { stars = h; plan = p; turns = 0 } ≡ onward_from h z p x (λ i q. rounds_from g i z q)
    go nothing e = refl
    go (pair u v) e = absurd (omega (arith, pair_narrows h z p u v e))
enough (suc f) zero h z p l m = go (first_slims h z p) refl
  where
    go : (x : Search) → first_slims h z p ≡ x → onward_from h z p x (λ i q. rounds_from f i z q) ≡ record { stars = h; plan = p; turns = 0 }
    go nothing e = refl
    go (pair u v) e = absurd (omega (arith, pair_narrows h z p u v e))
enough (suc f) (suc g) h z p l m = go (first_slims h z p) refl (enough f g)
  where
    go : (x : Search) → first_slims h z p ≡ x
        → ((i : Stars) (z : Sizes) (q : HeldPlan) → q.width ≤ f → q.width ≤ g → rounds_from f i z q ≡ rounds_from g i z q)
        → onward_from h z p x (λ i q. rounds_from f i z q) ≡ onward_from h z p x (λ i q. rounds_from g i z q)
    go nothing e below = refl
    go (pair u v) e below =
        ap once_more
        (below (turned_stars h u v) z (kept (tried h z u v)) (omega (arith, pair_narrows h z p u v e)) (omega (arith, pair_narrows h z p u v e)))

module _ (h : Stars) (z : Sizes) (p : HeldPlan) where
  -- a search that finds nothing ends the rounds
  slimmed_stops : first_slims h z p ≡ nothing → slimmed h z p ≡ record { stars = h; plan = p; turns = 0 }
  unfolding slimmed
  slimmed_stops e = go p.width
    where
      go : (f : ℕ) → rounds_from f h z p ≡ record { stars = h; plan = p; turns = 0 }
      go zero = unfold rounds_from in refl
      go (suc f) = unfold rounds_from onward_from in ap (λ x. onward_from h z p x (λ i q. rounds_from f i z q)) e

  -- one that finds a pair makes one turn more than the rounds that follow
  slimmed_turns : (u v : ℕ) → first_slims h z p ≡ pair u v → slimmed h z p ≡ once_more (slimmed (turned_stars h u v) z (kept (tried h z u v)))
  unfolding slimmed
  slimmed_turns u v e = go p.width (pair_narrows h z p u v e)
    where
      go : (f : ℕ) → (kept (tried h z u v)).width < f → rounds_from f h z p ≡ once_more (rounds_from (kept (tried h z u v)).width (turned_stars h u v) z (kept (tried h z u v)))
      go zero l = absurd (omega arith)
      go (suc f) l =
          unfold rounds_from onward_from in
          ap (λ x. onward_from h z p x (λ i q. rounds_from f i z q)) e
          ∙ ap once_more (enough f (kept (tried h z u v)).width (turned_stars h u v) z (kept (tried h z u v)) (omega arith) (omega arith))

-- one of each makes one slimmer
same_slim : {s s' : Stars} {p p' : HeldPlan} {n m : ℕ} → s ≡ s' → p ≡ p' → n ≡ m
    → ◌≡◌ {A = Slimmer} (record { stars = s; plan = p; turns = n }) (record { stars = s'; plan = p'; turns = m })
same_slim e f g = rw (e, f, g)

-- ---- one round after the other

module _ (z : Sizes) (held next : Slimmer) (e : next ≡ once_slim z held) where
  -- what a round comes to, by what its search finds
  found : (x : Search) → first_slims held.stars z held.plan ≡ x → next ≡ swung_slim z held x
  unfolding once_slim
  found x f = e ∙ ap (swung_slim z held) f

  -- a round that makes no turn ends them
  pub round_stops : next.turns ≡ held.turns → held ≡ slimmed_on z held
  unfolding slimmed_on swung_slim
  round_stops t = go (first_slims held.stars z held.plan) refl
    where
      go : (x : Search) → first_slims held.stars z held.plan ≡ x → held ≡ slimmed_on z held
      go nothing f =
          let q = slimmed_stops held.stars z held.plan f in
          same_slim (sym (ap (λ (s : Slimmer). s.stars) q)) (sym (ap (λ (s : Slimmer). s.plan) q)) (omega (arith, ap (λ (s : Slimmer). s.turns) q))
      go (pair u v) f = absurd (omega (arith, ap (λ (s : Slimmer). s.turns) (found (pair u v) f)))

  -- one that makes a turn makes the sheet narrower, and the rounds that follow come to the same
  pub round_turns : (next.turns ≡ held.turns → ⊥)
      → (next.plan.width < held.plan.width) × (next.turns ≡ held.turns + 1) × (slimmed_on z next ≡ slimmed_on z held)
  unfolding slimmed_on swung_slim
  round_turns t = go (first_slims held.stars z held.plan) refl
    where
      go : (x : Search) → first_slims held.stars z held.plan ≡ x
          → (next.plan.width < held.plan.width) × (next.turns ≡ held.turns + 1) × (slimmed_on z next ≡ slimmed_on z held)
      go nothing f = absurd (t (ap (λ (s : Slimmer). s.turns) (found nothing f)))
      go (pair u v) f =
          let n = found (pair u v) f in
          let q = slimmed_turns held.stars z held.plan u v f in
          let w : next.plan.width ≡ (kept (tried held.stars z u v)).width = ap (λ (s : Slimmer). s.plan.width) n in (
            omega (arith, w, pair_narrows held.stars z held.plan u v f),
            ap (λ (s : Slimmer). s.turns) n,
            ap (slimmed_on z) n
                ∙ same_slim (sym (ap (λ (s : Slimmer). s.stars) q)) (sym (ap (λ (s : Slimmer). s.plan) q)) (omega (arith, ap (λ (s : Slimmer). s.turns) q)),
          )

-- ---- one round, as the code comes by it

-- stars lent part by part are the stars
pub stars_same : (c : ℕ) (ends nbr kind : List ℕ) (s : Stars) → (c ≡ s.count) × (ends ≡ s.ends) × (nbr ≡ s.nbr) × (kind ≡ s.kind) → stars_of c ends nbr kind ≡ s
stars_same c ends nbr kind s e = rw (e.0, e.1, e.2, e.3)

-- so is a plan, but for its height
pub plan_same : (r w h : ℕ) (l : List ℕ) (p : HeldPlan) → (r ≡ p.rooms) × (w ≡ p.width) × (h ≡ p.height) × (l ≡ p.rects) → plan_across r w l ≡ plan_across p.rooms p.width p.rects
plan_same r w h l p e = rw (e.0, e.1, e.3)

module _ (held : Slim) (sizes : HeldSizes) (h : Stars) (z : Sizes) (q : HeldPlan) (eh : h ≡ held.stars) (ez : z ≡ sizes_of sizes)
    (eq : q ≡ plan_across held.plan.rooms held.plan.width held.plan.rects) (d : Option HeldPlan) (ks : List ℕ) (so : Rounds d ks h z q) where
  -- what it searches
  abbrev search_of : Search
  search_of = first_slims held.stars (sizes_of sizes) held.plan

  round_so : Rounds d ks held.stars (sizes_of sizes) (plan_across held.plan.rooms held.plan.width held.plan.rects)
  round_so = rw (eh, ez, eq) at so

  drew : d ≡ found_drawing held.stars (sizes_of sizes) search_of
  drew = rw (any_height held.stars (sizes_of sizes) held.plan) at round_so.answers

  left : ks ≡ found_kinds held.stars search_of
  left = rw (any_height held.stars (sizes_of sizes) held.plan) at round_so.leaves

  -- none is not some
  not_both : {p : HeldPlan} → ◌≡◌ {A = Option HeldPlan} None (Some p) → ⊥
  not_both e = let z : ◌≡◌ {A = ℕ} 0 1 = cc in omega arith

  -- plans that are there are one where the answers are equal
  some_same : {p r : HeldPlan} → ◌≡◌ {A = Option HeldPlan} (Some p) (Some r) → p ≡ r
  some_same e = cc

  -- a pair found: it is turned
  pub once_turns : (p : HeldPlan) → d ≡ Some p
      → slim_in (record { stars = record { count = held.stars.count; ends = held.stars.ends; nbr = held.stars.nbr; kind = ks }; plan = p; turns = held.turns + 1 })
      ≡ once_slim (sizes_of sizes) (slim_in held)
  unfolding once_slim swung_slim found_drawing found_kinds turned_stars
  once_turns p a = go search_of (sym a ∙ drew) left
    where
      go : (x : Search) → Some p ≡ found_drawing held.stars (sizes_of sizes) x → ks ≡ found_kinds held.stars x
          → ◌≡◌ {A = Slimmer} (record { stars = record { count = held.stars.count; ends = held.stars.ends; nbr = held.stars.nbr; kind = ks }; plan = p; turns = held.turns + 1 })
          (swung_slim (sizes_of sizes) (slim_in held) x)
      go nothing e f = absurd (not_both (sym e))
      go (pair u v) e f = same_slim (ap (λ (ks : List ℕ). stars_of held.stars.count held.stars.ends held.stars.nbr ks) f) (some_same e) refl

  -- none found: all stays
  pub once_stops : d ≡ None → slim_in held ≡ once_slim (sizes_of sizes) (slim_in held)
  unfolding once_slim swung_slim found_drawing
  once_stops a = go search_of (sym a ∙ drew)
    where
      go : (x : Search) → None ≡ found_drawing held.stars (sizes_of sizes) x → slim_in held ≡ swung_slim (sizes_of sizes) (slim_in held) x
      go nothing e = refl
      go (pair u v) e = absurd (not_both e)

-- ---- what the call answers

-- what a narrowing left, held
pub slim_held : (b : HeldBoard) (r : Slim) (g : Register) → g ≡ kept_register (kept_walls (plan_in r.plan))
    → record { stars = r.stars; sizes = b.sizes; plan = r.plan; register = g } ≡ slim_board b (slim_in r)
unfolding slim_board
slim_held b r g e = rw e

module _ (b : HeldBoard) (n : b.stars.count ≡ 0 → ⊥) (r : Slim)
    (e : slim_in r ≡ slimmed_on (sizes_of b.sizes) (slim_in (record { stars = b.stars; plan = b.plan; turns = 0 }))) where
  -- the turns made before are none
  slim_is : slimmed b.stars (sizes_of b.sizes) b.plan ≡ slim_in r
  unfolding slimmed_on
  slim_is = same_slim refl refl (omega arith) ∙ sym e

  -- no turn: the very board
  pub narrow_none : r.turns ≡ 0 → Tells (record { board = b; reply = Ok (Made 0) }) [] (outcome b narrows)
  unfolding outcome slimmed_to reply_of
  narrow_none t = rw (ne_eqb b.stars.count 0 n, slim_is, t) (record { reply = refl; board = refl; buffer = refl })

  -- some turns: what the last of them left
  pub narrow_some : (r.turns ≡ 0 → ⊥) → (c : HeldBoard) → c ≡ slim_board b (slim_in r) → Tells (record { board = c; reply = Ok (Made r.turns) }) [] (outcome b narrows)
  unfolding outcome slimmed_to reply_of
  narrow_some t c k = rw (ne_eqb b.stars.count 0 n, slim_is, ne_eqb r.turns 0 t) (record { reply = refl; board = k; buffer = refl })
