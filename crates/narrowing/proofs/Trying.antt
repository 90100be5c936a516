-- One pair tried. Assumes nothing.
use Prim.Native.Nat.{ℕ, ◌+◌, ◌≤◌, ◌<◌}
use mathlib.Core.Path.{◌≡◌, refl, sym, ap, subst, ◌∙◌}
use mathlib.Core.Bool.{Bool, true, false, cond, not, ◌&&◌}
use mathlib.Core.Option.{Option, none, some}
use mathlib.Core.List.{List}
use native.Mathlib.Omega.{arith}
use borrow.Author.Tests.{lt-ltb, le-ltb, not-true, not-false}
use lib.Dec.{ltb}
use lib.ListN.{length, get_or, length-set}
use Rattle.floor.proofs.Lists.Laws.{no_false}
use Rattle.floor.specs.Jobs.{Sizes, SizedJob, sized_job}
use Rattle.floor.specs.Walls.{upright, low, at}
use Rattle.floor.specs.Plans.{nowhere, plan_of, rect_of, overlap, Answer, refused, held, past, test18}
use Rattle.floor.specs.Narrow.{pair, nothing, narrower}
use Rattle.stars.specs.Held.{job_in, job_of}
use Rattle.walls.specs.Numbers.{numbers_in, width_in}
use Rattle.std.specs.Prelude.{Option as Optional, Some, None, Result, Ok, Err}
use Rattle.std.specs.Result.{is_ok, result_ok}
use Rattle.refusals.specs.declared.Refusal.{Refusal}
use Rattle.drawing.specs.declared.Plan.{Plan as HeldPlan}
use Rattle.drawing.specs.declared.Rect.{Rect as HeldRect}
use Rattle.drawing.specs.Rects.{rect_in, rects_in, plan_from, plan_in}
use Rattle.drawing.specs.Drawn.{fitted, by_numbers, numbered_any, said, kept, Draws}
use Rattle.turns.specs.declared.Swing.{Swing as Turned}
use Rattle.turns.specs.InPlace.{Swing, stops, swings, swing_of, swing_said, two_set, swung_in, turned_in}
use Rattle.narrowing.specs.Slims.{stars_of, turned_stars, brief, swung_to, tried}
use Rattle.narrowing.specs.Rounds.{plan_across, found_drawing, found_kinds, does_swing, Finds}

-- a contact turns exactly where turning it is not refused
pub turns_ok : (r : Result Turned Refusal) (s : Swing) (b : Bool) → swing_said r ≡ s → b ≡ is_ok r → b ≡ does_swing s
unfolding swing_said does_swing
turns_ok (Ok x) s b e q = q ∙ rw (← e)
turns_ok (Err k) s b e q = q ∙ rw (← e)

-- the rectangles of two rooms, across
pub two_brief : (w h m : ℕ) (l : List ℕ) (u v : ℕ) (a b : HeldRect) (x : ℕ) → rect_in a ≡ get_or (rects_in m 0 l) u nowhere → rect_in b ≡ get_or (rects_in m 0 l) v nowhere
    → x ≡ overlap a.x1 a.x2 b.x1 b.x2 → ltb x 2 ≡ brief (plan_from w h m l) u v
unfolding brief rect_of rect_in
two_brief w h m l u v a b x p q e = rw (← p, ← q, e)

-- an answer holds a plan
abbrev is_held : Answer → Bool
is_held (refused k) = false
is_held (held o p) = true

-- a plan by numbers is as wide as its upright numbers say: not narrower, where they say so
not_narrower : (o : SizedJob) (w m : ℕ) (a b : Option (List ℕ)) → Some m ≡ width_in a → w ≤ m → narrower w (by_numbers o a b) ≡ false
unfolding narrower by_numbers fitted past width_in plan_of
not_narrower o w m (some f) (some g) e l = go (test18 (plan_of o.stars (at f) (at g)))
  where
    wide : m ≡ at f (low 3) + 1
    wide = cc

    go : (t : Bool) → narrower w (past t 18 (λ _. held o (plan_of o.stars (at f) (at g)))) ≡ false
    go true = le-ltb (at f (low 3) + 1) w (omega (arith, wide))
    go false = refl
not_narrower o w m (some f) none e l = refl
not_narrower o w m none (some g) e l = refl
not_narrower o w m none none e l = refl

-- nor where there are none
none_narrower : (o : SizedJob) (w : ℕ) (a b : Option (List ℕ)) → None ≡ width_in a → narrower w (by_numbers o a b) ≡ false
unfolding narrower by_numbers width_in
none_narrower o w (some f) b e = let x : ◌≡◌ {A = ℕ} 0 1 = cc in absurd (omega arith)
none_narrower o w none (some g) e = refl
none_narrower o w none none e = refl

-- narrower, where they say so, if there is one
is_narrower : (o : SizedJob) (w m : ℕ) (a b : Option (List ℕ)) → Some m ≡ width_in a → m < w → narrower w (by_numbers o a b) ≡ is_held (by_numbers o a b)
unfolding narrower by_numbers fitted past width_in plan_of
is_narrower o w m (some f) (some g) e l = go (test18 (plan_of o.stars (at f) (at g)))
  where
    wide : m ≡ at f (low 3) + 1
    wide = cc

    go : (t : Bool) → narrower w (past t 18 (λ _. held o (plan_of o.stars (at f) (at g)))) ≡ is_held (past t 18 (λ _. held o (plan_of o.stars (at f) (at g))))
    go true = lt-ltb (at f (low 3) + 1) w (omega (arith, wide))
    go false = refl
is_narrower o w m (some f) none e l = refl
is_narrower o w m none (some g) e l = refl
is_narrower o w m none none e l = refl

-- what a drawing says holds a plan exactly where it is one
said_held : (d : Result HeldPlan Refusal) (o : SizedJob) → is_held (said d o) ≡ is_ok d
unfolding said
said_held (Ok p) o = refl
said_held (Err k) o = refl

module _ (n : ℕ) (ends nbr kind : List ℕ) (z : Sizes) (u v : ℕ) where
  -- turning keeps how many kinds there are
  length_turned : length (turned_in n ends nbr kind u v) ≡ length kind
  unfolding turned_in swung_in two_set
  length_turned = go (swing_of (job_in n ends nbr kind) u v)
    where
      go : (s : Swing) → length (swung_in ends nbr kind s) ≡ length kind
      go (stops k) = refl
      go (swings a b t) = simp length-set

  -- the job of the turned stars
  abbrev next : SizedJob
  next = sized_job (job_in n ends nbr (turned_in n ends nbr kind u v)) z

  -- what trying comes to, where the contact turns
  tried_turns : does_swing (swing_of (job_in n ends nbr kind) u v) ≡ true → tried (stars_of n ends nbr kind) z u v ≡ numbered_any next
  unfolding tried swung_to job_of turned_stars does_swing
  tried_turns e = go (swing_of (job_in n ends nbr kind) u v) e
    where
      go : (s : Swing) → does_swing s ≡ true → swung_to (stars_of n ends nbr kind) z u v s ≡ numbered_any next
      go (stops k) e = no_false e
      go (swings a b t) e = refl

  -- and where it does not
  tried_stops : (w : ℕ) → does_swing (swing_of (job_in n ends nbr kind) u v) ≡ false → narrower w (tried (stars_of n ends nbr kind) z u v) ≡ false
  unfolding tried swung_to job_of does_swing narrower
  tried_stops w e = go (swing_of (job_in n ends nbr kind) u v) e
    where
      go : (s : Swing) → does_swing s ≡ false → narrower w (swung_to (stars_of n ends nbr kind) z u v s) ≡ false
      go (stops k) e = refl
      go (swings a b t) e = no_false (sym e)

  module _ (rooms width height : ℕ) (rects : List ℕ) where
    -- the test of the pair
    abbrev slim : Bool
    slim = brief (plan_in (plan_across rooms width rects)) u v && narrower width (tried (stars_of n ends nbr kind) z u v)

    -- what trying it is to answer and to leave
    abbrev Came : Optional HeldPlan → List ℕ → Type 0
    Came r ks = Finds (cond slim (pair u v) nothing) r ks (stars_of n ends nbr kind) z

    -- it fails
    fails_so : slim ≡ false → (r : Optional HeldPlan) (ks : List ℕ) → r ≡ None → length ks ≡ length kind → Came r ks
    unfolding Finds
    fails_so e r ks q l = rw e (rw q, l)

    -- how far the rooms reach over one another does not hang on the sheet
    same_brief : brief (plan_from width height (rooms + 4) rects) u v ≡ brief (plan_in (plan_across rooms width rects)) u v
    unfolding brief rect_of plan_in
    same_brief = refl

    module _ (b : Bool) (eb : b ≡ brief (plan_from width height (rooms + 4) rects) u v) where
      -- not brief
      pub long_fails : not b ≡ true → (r : Optional HeldPlan) (ks : List ℕ) → r ≡ None → length ks ≡ length kind → Came r ks
      long_fails t = fails_so (rw (← same_brief, ← eb, not-true b t))

      module _ (is_brief : not b ≡ false) (k₀ : List ℕ) (copied : k₀ ≡ kind) (t : Bool) (ks : List ℕ)
          (turns : (t ≡ does_swing (swing_of (job_in n ends nbr k₀) u v)) × (ks ≡ turned_in n ends nbr k₀ u v)) where
        is_so : slim ≡ narrower width (tried (stars_of n ends nbr kind) z u v)
        is_so = rw (← same_brief, ← eb, not-false b is_brief)

        does : t ≡ does_swing (swing_of (job_in n ends nbr kind) u v)
        does = rw copied at turns.0

        left : ks ≡ turned_in n ends nbr kind u v
        left = rw copied at turns.1

        long : length ks ≡ length kind
        long = ap length left ∙ length_turned

        -- it does not turn
        pub stops_fails : not t ≡ true → (r : Optional HeldPlan) → r ≡ None → Came r ks
        stops_fails f r q = fails_so (is_so ∙ tried_stops width (sym does ∙ not-true t f)) r ks q long

        module _ (swung : not t ≡ false) (x : ℕ) (ex : x ≡ width) (ow : Optional ℕ) (ew : ow ≡ width_in (numbers_in upright (job_in n ends nbr ks) z)) where
          comes : tried (stars_of n ends nbr kind) z u v ≡ numbered_any next
          comes = tried_turns (sym does ∙ not-false t swung)

          wide : ow ≡ width_in (numbers_in upright (job_in n ends nbr (turned_in n ends nbr kind u v)) z)
          wide = rw left at ew

          -- there are no walls
          pub none_fails : ow ≡ None → (r : Optional HeldPlan) → r ≡ None → Came r ks
          unfolding numbered_any
          none_fails e r q = fails_so (is_so ∙ (ap (narrower width) comes ∙ none_narrower next width _ _ (sym e ∙ wide))) r ks q long

          module _ (w : ℕ) (some_wide : ow ≡ Some w) where
            -- the sheet is as wide, or wider
            pub wide_fails : x ≤ w → (r : Optional HeldPlan) → r ≡ None → Came r ks
            unfolding numbered_any
            wide_fails l r q = fails_so (is_so ∙ (ap (narrower width) comes ∙ not_narrower next width w _ _ (sym some_wide ∙ wide) (omega (arith, ex)))) r ks q long

            -- the sheet is narrower: what is drawn is found
            pub thin_found : w < x → (d : Result HeldPlan Refusal) → Draws d (sized_job (job_in n ends nbr ks) z) (numbered_any (sized_job (job_in n ends nbr ks) z))
                → (r : Optional HeldPlan) → r ≡ result_ok d → Came r ks
            unfolding Finds found_drawing found_kinds turned_stars
            thin_found l d dd r er = rw (same, er) (go d refl)
              where
                numbered : Draws d next (numbered_any next)
                numbered = subst (λ (l : List ℕ). Draws d (sized_job (job_in n ends nbr l) z) (numbered_any (sized_job (job_in n ends nbr l) z))) left dd

                same : slim ≡ is_ok d
                same = is_so ∙ (ap (narrower width) comes ∙ (unfold numbered_any in is_narrower next width w _ _ (sym some_wide ∙ wide) (omega (arith, ex))
                    ∙ (ap is_held (sym numbered.says) ∙ said_held d next)))

                go : (c : Result HeldPlan Refusal) → d ≡ c → Finds (cond (is_ok c) (pair u v) nothing) (result_ok c) ks (stars_of n ends nbr kind) z
                go (Ok p) e = (ap Some (numbered.keeps p e ∙ ap kept (sym comes)), left)
                go (Err k) e = (refl, long)
