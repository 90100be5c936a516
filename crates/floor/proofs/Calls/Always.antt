-- A turn of what is held is accepted exactly where the contact can be turned and the sheet stays within its limit, and refused by 11, 12 or 18 everywhere
-- else: never by 7 or 9. Without sizes it is never refused by 18 either. Assumes nothing.
use Rattle.std.specs.Prelude.{ℕ, ◌+◌, ◌≤◌, ◌⊎◌, ◌↔◌, Bool, ◌&&◌, ◌||◌, List, [], eqb}
use Rattle.std.proofs.Math.Path.{◌≡◌, refl, ap, subst, fun_ext}
use Rattle.std.proofs.Common.{sym, ◌∙◌, arith}
use Rattle.std.proofs.Math.Logic.{inl, inr}
use Rattle.std.proofs.Math.Bool.{true, false}
use Rattle.std.proofs.Math.Option.{some}
use Rattle.std.proofs.Math.ListN.{length}
use Rattle.std.proofs.Math.Dec.{leb}
use borrow.Author.Tests.{leb-true}
use Rattle.floor.proofs.Lists.Laws.{no_false, and_parts, and_both}
use Rattle.floor.specs.Jobs.{Job, opposite, is_room, star_of, names, kind_of, list_of, fails, reads, passing, SizedJob, sized_job, Reading, with_sizes, test2}
use Rattle.floor.specs.Jobs.Stars.{entry}
use Rattle.floor.proofs.Jobs.Stars.{kind_of_mem, mem_names}
use Rattle.floor.specs.Jobs.Facts.{Passes}
use Rattle.floor.proofs.Jobs.Facts.{is_a_room, room_is, passing_true, labelling_passes}
use Rattle.floor.specs.Walls.{upright, level, at, job_numbers, Numbers, rules}
use Rattle.floor.proofs.Walls.Walk.{unique}
use Rattle.floor.proofs.Walls.Rules.{numbers_are, to_vertex}
use Rattle.floor.specs.Plans.{Plan, plan_of, refused, held, drawn, draw_read, drawable, past, test18, tested, Planned, Fits, Over}
use Rattle.floor.proofs.Plans.Held.{not_held, one_number, past_true, past_false, drawn_is, fits_or, fits_passes}
use Rattle.floor.proofs.Plans.Held.{over_fails, width_bound, height_bound}
use Rattle.floor.specs.Floor.{Names}
use Rattle.floor.proofs.Floor.Elsewhere.{Ours}
use Rattle.floor.specs.Turns.{turned, turning_at, turning_from, in_contact, turning, turn, InContact, Turnable, turned_by, turned_with, Kept}
use Rattle.floor.proofs.Turns.Restore.{turnable, turned_keeps}
use Rattle.floor.proofs.Turns.Always.{turned_ours, turned_draws}
use Rattle.floor.specs.Calls.{holding, turns, refusal, done, step, refuse, after}
use Rattle.floor.specs.Calls.Sound.{Sound}
use Rattle.floor.proofs.Calls.Sound.{sound_good, sound_roomy}
use Rattle.floor.proofs.Calls.Exact.{turn_drawn}

-- where the test says so, the two numbers are two rooms in contact
contact_of : (j : Job) (u v : ℕ) → in_contact j u v ≡ true → InContact j u v
unfolding in_contact
contact_of j u v c =
    let (xy, n) = and_parts (is_room j u && is_room j v) (names (star_of j u) v) c in
    let (x, y) = and_parts (is_room j u) (is_room j v) xy in
    record {
      room_u = is_a_room j u x;
      room_v = is_a_room j v y;
      listed = record { entry = entry v (kind_of (star_of j u) v); listed = kind_of_mem (star_of j u) v n; is_to = refl };
    }

-- two rooms in contact pass that test
of_contact : (j : Job) (u v : ℕ) → InContact j u v → in_contact j u v ≡ true
unfolding in_contact
of_contact j u v c = and_both _ _ (and_both _ _ (room_is j u c.room_u) (room_is j v c.room_v)) (go c.listed)
  where
    go : Names j u v → names (star_of j u) v ≡ true
    go n = rw (← n.is_to) (mem_names (star_of j u) n.entry.to n.entry.kind n.listed)

-- a labelling has one
planned_once : (o : SizedJob) (p q : Plan) → Planned o p → Planned o q → p ≡ q
planned_once o p q x y =
    x.is_plan
    ∙ ap (λ f. plan_of o.stars f x.ys) (fun_ext (unique (rules upright o.stars o.sizes) x.xs y.xs x.are_upright y.are_upright))
    ∙ ap (plan_of o.stars y.xs) (fun_ext (unique (rules level o.stars o.sizes) x.ys y.ys x.are_level y.are_level))
    ∙ sym y.is_plan

module _ (o : SizedJob) (p : Plan) (s : Sound o p) (u v : ℕ) where
  -- the turned labelling has its numbers,
  pub ours : (t : Turnable o.stars u v) → Ours (turned_by t) o.sizes
  ours t = turned_ours o.stars o.sizes s.passes p (sound_good o p s) (sound_roomy o p s) t

  -- the plan by them
  abbrev pub planned_by : (t : Turnable o.stars u v) → Plan
  planned_by t = plan_of (turned_by t) (at (ours t).xs) (at (ours t).ys)

  -- and is drawn by them, but for the sheet's limit
  tested_of : (i : Job) (t : Turnable o.stars u v) → turned_by t ≡ i → (f g : List ℕ) → job_numbers upright i o.sizes ≡ some f
      → job_numbers level i o.sizes ≡ some g
      → drawn (sized_job i o.sizes) ≡ past (test18 (plan_of i (at f) (at g))) 18 (λ _. held (sized_job i o.sizes) (plan_of i (at f) (at g)))
  unfolding tested
  tested_of i t e f g ef eg = drawn_is (sized_job i o.sizes) f g ef eg ∙ two (test18 (plan_of i (at f) (at g)))
    where
      ok : Passes i
      ok = subst (λ (i : Job). Passes i) e (labelling_passes (turned_by t) (turned_keeps o.stars s.passes p (sound_good o p s) t).labelling)

      draws : drawable i (plan_of i (at f) (at g)) ≡ true
      draws =
          subst (λ (i : Job). Numbers (rules upright i o.sizes) (at f) → Numbers (rules level i o.sizes) (at g)
          → drawable i (plan_of i (at f) (at g)) ≡ true)
          e (turned_draws o.stars o.sizes s.passes p (sound_good o p s) (sound_roomy o p s) t (at f) (at g))
          (numbers_are upright i o.sizes (to_vertex i ok) f ef) (numbers_are level i o.sizes (to_vertex i ok) g eg)

      two : (b : Bool)
          → past b 18 (λ _. past (drawable i (plan_of i (at f) (at g))) 9 (λ _. held (sized_job i o.sizes) (plan_of i (at f) (at g))))
          ≡ past b 18 (λ _. held (sized_job i o.sizes) (plan_of i (at f) (at g)))
      two true = unfold past in rw draws
      two false = unfold past in refl

  -- the turn is tested by the sheet alone, and that plan is held
  turned_tested : (t : Turnable o.stars u v) → turn o u v ≡ past (test18 (planned_by t)) 18 (λ _. held (turned_with t o.sizes) (planned_by t))
  turned_tested t = turn_drawn o p s u v t ∙ tested_of (turned_by t) t refl (ours t).xs (ours t).ys (ours t).is_upright (ours t).is_level

  -- that plan is the plan by wall numbers of the turned labelling
  turned_planned : (t : Turnable o.stars u v) → Planned (turned_with t o.sizes) (planned_by t)
  turned_planned t =
      let k : Passes (turned_by t) = labelling_passes (turned_by t) (turned_keeps o.stars s.passes p (sound_good o p s) t).labelling in
      record {
        xs = at (ours t).xs;
        ys = at (ours t).ys;
        are_upright = numbers_are upright (turned_by t) o.sizes (to_vertex (turned_by t) k) (ours t).xs (ours t).is_upright;
        are_level = numbers_are level (turned_by t) o.sizes (to_vertex (turned_by t) k) (ours t).ys (ours t).is_level;
        is_plan = refl;
      }

  -- A CONTACT THAT CAN BE TURNED, IS, where the turned sheet stays within the limit; else it is refused by 18
  turned_by_lem : (t : Turnable o.stars u v) (q : Plan) → Planned (turned_with t o.sizes) q
      → turn o u v ≡ past (test18 q) 18 (λ _. held (turned_with t o.sizes) q)
  turned_by_lem t q x = rw (planned_once (turned_with t o.sizes) (planned_by t) q (turned_planned t) x) at (turned_tested t)

  -- A CONTACT THAT CAN BE TURNED, IS, where the sheet of the plan by wall numbers is within the limit
  pub always_turned : (t : Turnable o.stars u v) (q : Plan) → Planned (turned_with t o.sizes) q → Fits q
      → turn o u v ≡ held (turned_with t o.sizes) q
  always_turned t q x f = turned_by_lem t q x ∙ past_true (test18 q) 18 _ (fits_passes q f)

  -- where it is over the limit, the turn is refused by 18
  pub over_refused : (t : Turnable o.stars u v) (q : Plan) → Planned (turned_with t o.sizes) q → Over q → turn o u v ≡ refused 18
  over_refused t q x g = turned_by_lem t q x ∙ past_false (test18 q) 18 _ (over_fails q g)

  -- without sizes the turned sheet is always within the limit
  pub plain_fits : o.sizes ≡ [] → (t : Turnable o.stars u v) → Fits (planned_by t)
  unfolding test2
  plain_fits e t =
      let k : Kept o.stars (turned_by t) = turned_keeps o.stars s.passes p (sound_good o p s) t in
      let n : length o.stars ≤ 60 = leb-true (length o.stars) 60 (and_parts (leb 1 (length o.stars)) (leb (length o.stars) 60) s.pass2).1 in
      let x : Planned (turned_with t o.sizes) (planned_by t) = turned_planned t in
      let w : (planned_by t).width ≤ length (turned_by t) + 2 =
      rw x.is_plan (width_bound (turned_with t o.sizes) (labelling_passes (turned_by t) k.labelling) x.xs x.ys x.are_upright x.are_level e) in
      let h : (planned_by t).height ≤ length (turned_by t) + 2 =
      rw x.is_plan (height_bound (turned_with t o.sizes) (labelling_passes (turned_by t) k.labelling) x.xs x.ys x.are_upright x.are_level e) in
      (omega (arith, k.rooms), omega (arith, k.rooms))

  -- FOR CODE: the turned job that `turning` reads has its numbers, and its plan by them, if the sheet passes test 18, is the answer; no drawing test is asked
  pub reads_numbered : (i : Job) → turning o.stars u v ≡ reads i → Ours i o.sizes
  reads_numbered i h =
      let (t, e) = turnable o.stars u v s.passes i h in
      rw e at (ours t)

  -- where turning comes to a turned job, the answer is test 18 of the plan by its computed numbers, and that job and plan held
  pub reads_held : (i : Job) → turning o.stars u v ≡ reads i → (f g : List ℕ) → job_numbers upright i o.sizes ≡ some f
      → job_numbers level i o.sizes ≡ some g
      → turn o u v ≡ past (test18 (plan_of i (at f) (at g))) 18 (λ _. held (sized_job i o.sizes) (plan_of i (at f) (at g)))
  reads_held i h f g ef eg =
      let (t, e) = turnable o.stars u v s.passes i h in
      let x : turn o u v ≡ drawn (sized_job i o.sizes) = unfold turn draw_read with_sizes in ap (λ (r : Reading Job). draw_read (with_sizes o.sizes r)) h in
      x ∙ tested_of i t e f g ef eg

  -- where the two numbers are not two rooms in contact, the turn is refused by 11
  no_contact : in_contact o.stars u v ≡ false → turn o u v ≡ refused 11
  unfolding turn turning passing with_sizes draw_read
  no_contact e = rw e

  -- WHAT BECOMES OF A TURN
  pub data Outcome : Type 0 where
    eleven : (InContact o.stars u v → ⊥) → turn o u v ≡ refused 11 → Outcome
    twelve : InContact o.stars u v → (Turnable o.stars u v → ⊥) → turn o u v ≡ refused 12 → Outcome
    eighteen : (t : Turnable o.stars u v) (q : Plan) → Planned (turned_with t o.sizes) q → Over q → turn o u v ≡ refused 18 → Outcome
    accepted : (t : Turnable o.stars u v) (q : Plan) → Planned (turned_with t o.sizes) q → Fits q
        → turn o u v ≡ held (turned_with t o.sizes) q → Outcome

  -- a contact that can be turned comes to one of the last two
  of_turnable : Turnable o.stars u v → Outcome
  of_turnable t = go (fits_or (planned_by t))
    where
      go : Fits (planned_by t) ⊎ Over (planned_by t) → Outcome
      go (inl f) = accepted t (planned_by t) (turned_planned t) f (always_turned t (planned_by t) (turned_planned t) f)
      go (inr f) = eighteen t (planned_by t) (turned_planned t) f (over_refused t (planned_by t) (turned_planned t) f)

  -- it is refused by nothing but 18
  only_eighteen : Turnable o.stars u v → (k : ℕ) → turn o u v ≡ refused k → k ≡ 18
  only_eighteen t k e = go (fits_or (planned_by t))
    where
      go : Fits (planned_by t) ⊎ Over (planned_by t) → k ≡ 18
      go (inl f) = not_held (sym e ∙ always_turned t (planned_by t) (turned_planned t) f)
      go (inr f) = one_number (sym e ∙ over_refused t (planned_by t) (turned_planned t) f)

  -- every turn of what is held comes to one of these four
  pub outcome : Outcome
  outcome = first (in_contact o.stars u v) refl
    where
      reading : (c : Bool) (k : ℕ) → (turning_from c o.stars u v k ≡ fails 12) ⊎ ((i : Job) × (turning_from c o.stars u v k ≡ reads i))
      reading c k = unfold turning_from in which c
        where
          at_two : (a b m : ℕ) → (turning_at o.stars a b m ≡ fails 12) ⊎ ((i : Job) × (turning_at o.stars a b m ≡ reads i))
          at_two a b m = unfold turning_at in go
              (leb 2 (length (list_of (star_of o.stars a) m)) && leb 2 (length (list_of (star_of o.stars b) (opposite m))))
            where
              go : (t : Bool) → (passing t 12 (reads (turned o.stars a b m)) ≡ fails 12)
                  ⊎ ((i : Job) × (passing t 12 (reads (turned o.stars a b m)) ≡ reads i))
              go true = unfold passing in inr (turned o.stars a b m, refl)
              go false = unfold passing in inl refl

          which : (c : Bool) → (turning_from c o.stars u v k ≡ fails 12) ⊎ ((i : Job) × (turning_from c o.stars u v k ≡ reads i))
          which true = unfold turning_from in at_two u v k
          which false = unfold turning_from in at_two v u (opposite k)

      first : (c : Bool) → in_contact o.stars u v ≡ c → Outcome
      first false e = eleven (λ c. no_false (sym e ∙ of_contact o.stars u v c)) (no_contact e)
      first true e = second (reading up kind)
        where
          kind : ℕ
          kind = kind_of (star_of o.stars u) v

          up : Bool
          up = eqb kind 0 || eqb kind 3

          is : turning o.stars u v ≡ turning_from up o.stars u v kind
          is = unfold turning in passing_true (in_contact o.stars u v) 11 _ e

          second : (turning_from up o.stars u v kind ≡ fails 12) ⊎ ((i : Job) × (turning_from up o.stars u v kind ≡ reads i)) → Outcome
          second (inl f) =
              let h : turn o u v ≡ refused 12 = unfold turn draw_read with_sizes in ap (λ (r : Reading Job). draw_read (with_sizes o.sizes r)) (is ∙ f) in
              twelve (contact_of o.stars u v e) (λ t. omega (arith, only_eighteen t 12 h)) h
          second (inr (i, f)) = let (t, x) = turnable o.stars u v s.passes i (is ∙ f) in of_turnable t

  -- ACCEPTED EXACTLY where the contact can be turned, and the turned sheet stays within the limit
  pub turn_done : ((step (holding o p) (turns u v)).reply ≡ done)
      ↔ ((t : Turnable o.stars u v) × (q : Plan) × Planned (turned_with t o.sizes) q × Fits q)
  unfolding step after refuse
  turn_done = (λ e. forth outcome e, λ (t, q, x, f). rw (always_turned t q x f))
    where
      no_refusal : {X : Type 0} {k : ℕ} → refusal k ≡ done → X
      no_refusal e = let z : ◌≡◌ {A = ℕ} 0 1 = cc in absurd (omega arith)

      forth : Outcome → (after (holding o p) (turn o u v)).reply ≡ done
          → (t : Turnable o.stars u v) × (q : Plan) × Planned (turned_with t o.sizes) q × Fits q
      forth (eleven n h) e = no_refusal {k = 11} (rw h at e)
      forth (twelve c n h) e = no_refusal {k = 12} (rw h at e)
      forth (eighteen t q x f h) e = no_refusal {k = 18} (rw h at e)
      forth (accepted t q x f h) e = (t, q, x, f)

  -- without sizes: exactly where the contact can be turned
  pub plain_done : o.sizes ≡ [] → ((step (holding o p) (turns u v)).reply ≡ done) ↔ Turnable o.stars u v
  plain_done e = (λ h. (turn_done.0 h).0, λ t. turn_done.1 (t, planned_by t, turned_planned t, plain_fits e t))

  -- WHY A TURN IS REFUSED: 11 where the two are not two rooms in contact, 12 where they are and cannot be turned, 18 where they can and the turned sheet is over
  -- the limit
  abbrev pub Refusal : ℕ → Type 0
  Refusal k =
      ((k ≡ 11) × (InContact o.stars u v → ⊥))
      ⊎ (((k ≡ 12) × InContact o.stars u v × (Turnable o.stars u v → ⊥))
      ⊎ ((k ≡ 18) × ((t : Turnable o.stars u v) × (q : Plan) × Planned (turned_with t o.sizes) q × Over q)))

  -- REFUSED EXACTLY FOR THESE, and for nothing else
  pub turn_refused : (k : ℕ) → (turn o u v ≡ refused k) ↔ Refusal k
  turn_refused k = (λ e. forth outcome e, λ x. back outcome x)
    where
      forth : Outcome → turn o u v ≡ refused k → Refusal k
      forth (eleven n h) e = inl (one_number (sym e ∙ h), n)
      forth (twelve c n h) e = inr (inl (one_number (sym e ∙ h), c, n))
      forth (eighteen t q x f h) e = inr (inr (one_number (sym e ∙ h), (t, q, x, f)))
      forth (accepted t q x f h) e = not_held (sym e ∙ h)

      both : Turnable o.stars u v → InContact o.stars u v
      both t = contact_of o.stars u v (go (in_contact o.stars u v) refl)
        where
          go : (b : Bool) → in_contact o.stars u v ≡ b → in_contact o.stars u v ≡ true
          go true x = x
          go false x = absurd (omega (arith, only_eighteen t 11 (no_contact x)))

      back : Outcome → Refusal k → turn o u v ≡ refused k
      back x (inr (inr (e, (t, q, y, g)))) = rw e (over_refused t q y g)
      back (eleven n h) (inl (e, m)) = rw e h
      back (eleven n h) (inr (inl (e, c, m))) = absurd (n c)
      back (twelve c n h) (inl (e, m)) = absurd (m c)
      back (twelve c n h) (inr (inl (e, d, m))) = rw e h
      back (eighteen t q x f h) (inl (e, m)) = absurd (m (both t))
      back (eighteen t q x f h) (inr (inl (e, d, m))) = absurd (m t)
      back (accepted t q x f h) (inl (e, m)) = absurd (m (both t))
      back (accepted t q x f h) (inr (inl (e, d, m))) = absurd (m t)
