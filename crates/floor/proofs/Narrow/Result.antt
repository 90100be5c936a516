-- What narrowing comes to on any held plan: the description's own result, joined as before, narrower by as many cells as turns were made, and with no turn left
-- that narrows. Assumes nothing.
use Rattle.std.specs.Prelude.{ℕ, zero, suc, ◌+◌, ◌≤◌, ◌<◌, ◌≡◌, ◌⊎◌, Bool, ◌&&◌, length}
use Rattle.std.proofs.Math.Path.{refl, ap}
use Rattle.std.proofs.Common.{sym, ◌∙◌, inl, inr, arith}
use Rattle.std.proofs.Math.Bool.{true, false}
use Rattle.std.proofs.Math.Option.{some}
use mathlib.Core.List.{List, [], ◌∷◌, Memᴰ}
use Rattle.std.proofs.Math.Dec.{ltb}
use Rattle.std.proofs.Math.Decide.{dec_lt}
use Rattle.floor.specs.Jobs.{Job, SizedJob, sized_job, opposite, star_of, fails, reads, kind_of, with_sizes}
use Rattle.floor.specs.Jobs.Facts.{Passes}
use Rattle.floor.specs.Jobs.Stars.{entry}
use Rattle.floor.specs.Walls.{upright, level, low, at, job_numbers}
use Rattle.floor.specs.Plans.{Plan, plan_of, joined, refused, held, past, test18, draw_read}
use Rattle.floor.proofs.Plans.Held.{not_held, drawn_held}
use Rattle.floor.proofs.Floor.Elsewhere.{Ours}
use Rattle.floor.specs.Turns.{turning, turn, Kept, Turnable, turned_with}
use Rattle.floor.proofs.Turns.Restore.{asked, turned_keeps}
use Rattle.floor.specs.Calls.{holding, Call, turns, after, step, run}
use Rattle.floor.specs.Calls.Sound.{Sound}
use Rattle.floor.proofs.Calls.Sound.{sound_good, turn_held}
use Rattle.floor.proofs.Calls.Exact.{kind_found}
use Rattle.floor.proofs.Calls.Always.{reads_numbered, reads_held}
use Rattle.floor.proofs.Calls.Narrows.{narrows_by_one}
use Rattle.floor.specs.Narrow.{Stacked, Sooner, Narrows, NoneNarrows, FirstNarrows, Described, stacked, narrower, turn_narrows, Slim, one_more}
use Rattle.floor.specs.Narrow.{narrow_once, onward, rounds, narrowed}
use Rattle.floor.proofs.Narrow.Found.{Round, turns as round_turns, stops as round_stops, round}

-- ONE TURN THAT NARROWS
module _ (o : SizedJob) (p : Plan) (s : Sound o p) (u v : ℕ) (i : SizedJob) (q : Plan) (n : Narrows o p u v i q) where
  pub narrows_sound : Sound i q
  narrows_sound = turn_held o p u v i q s n.accepted

  -- which contact it is
  pub by : (t : Turnable o.stars u v) × (i ≡ turned_with t o.sizes)
  by = let (t, d) = asked o u v i q s.passes n.accepted in (t, (drawn_held (turned_with t o.sizes) i q d).0)

  pub narrows_keeps : Kept o.stars i.stars
  narrows_keeps = let (t, e) = by in rw e (turned_keeps o.stars s.passes p (sound_good o p s) t)

  pub narrows_sizes : i.sizes ≡ o.sizes
  narrows_sizes = let (t, e) = by in ap (λ (i : SizedJob). i.sizes) e

  abbrev j : Job
  j = o.stars

  -- one contact has one kind
  pub above : (t : Turnable o.stars u v) → t.m ≡ 0
  above t = go t.a t.b t.m t.who t.above_or_right t.contact n.stacked.contact
    where
      ok : Passes j
      ok = s.passes

      S : Stacked j u v
      S = n.stacked

      -- from u and from v
      at_u : (k : ℕ) → Memᴰ (entry v k) (star_of j u) → kind_of (star_of j u) v ≡ k
      at_u k m = kind_found (star_of j u) v k (ok.good u S.room_u) m

      at_v : (k : ℕ) → Memᴰ (entry u k) (star_of j v) → kind_of (star_of j v) u ≡ k
      at_v k m = kind_found (star_of j v) u k (ok.good v S.room_v) m

      over : (k : ℕ) → Memᴰ (entry v k) (star_of j u) → Memᴰ (entry u (opposite k)) (star_of j v)
      over k m = ok.opposed u S.room_u (entry v k) m S.room_v.0

      back : (k : ℕ) → Memᴰ (entry u k) (star_of j v) → Memᴰ (entry v (opposite k)) (star_of j u)
      back k m = ok.opposed v S.room_v (entry u k) m S.room_u.0

      from_u : (m : ℕ) → m ≡ 3 → Memᴰ (entry v m) (star_of j u) → Memᴰ (entry v 0) (star_of j u) ⊎ Memᴰ (entry u 0) (star_of j v) → ⊥
      from_u m e c (inl x) = omega (arith, at_u m c, at_u 0 x)
      from_u m e c (inr x) = unfold opposite in omega (arith, at_u m c, at_u 2 (back 0 x))

      from_v : (m : ℕ) → m ≡ 3 → Memᴰ (entry u m) (star_of j v) → Memᴰ (entry v 0) (star_of j u) ⊎ Memᴰ (entry u 0) (star_of j v) → ⊥
      from_v m e c (inl x) = unfold opposite in omega (arith, at_v m c, at_v 2 (over 0 x))
      from_v m e c (inr x) = omega (arith, at_v m c, at_v 0 x)

      go : (a b m : ℕ) → ((a ≡ u) × (b ≡ v)) ⊎ ((a ≡ v) × (b ≡ u)) → (m ≡ 0) ⊎ (m ≡ 3) → Memᴰ (entry b m) (star_of j a)
          → Memᴰ (entry v 0) (star_of j u) ⊎ Memᴰ (entry u 0) (star_of j v) → m ≡ 0
      go a b m who (inl e) c x = e
      go a b m (inl (ea, eb)) (inr e) c x = absurd (from_u m e (rw (ea, eb) at c) x)
      go a b m (inr (ea, eb)) (inr e) c x = absurd (from_v m e (rw (ea, eb) at c) x)

  -- narrower by exactly one
  pub narrows_one : q.width + 1 ≡ p.width
  narrows_one = let (t, e) = by in narrows_by_one o p s u v t q (rw e at n.accepted) (above t) n.narrower

-- WHAT IS SO OF THE RESULT
pub record Slimmed (o : SizedJob) (p : Plan) (r : Slim) : Type 0 where
  -- it is the description's, in the description's number of turns
  pub described : Described r.turns o p r.job r.plan
  -- it is held as any plan is, so it is a floor plan for the job now held
  pub sound : Sound r.job r.plan
  -- it has the same least sizes,
  pub sizes : r.job.sizes ≡ o.sizes
  -- it joins the same pairs,
  pub rooms : length r.job.stars ≡ length o.stars
  pub joins : (u v : ℕ) → joined r.job.stars u v ≡ joined o.stars u v
  -- it is never wider, and narrower by 1 for each turn,
  pub width : r.plan.width + r.turns ≡ p.width
  -- and no single turn of such a contact narrows it further
  pub none : NoneNarrows r.job r.plan
  -- it is what so many turns, called one after the other, lead to
  pub calls : List Call
  pub many : length calls ≡ r.turns
  pub leads : run (holding o p) calls ≡ holding r.job r.plan

stays : (o : SizedJob) (p : Plan) → Sound o p → NoneNarrows o p → Slimmed o p (record { job = o; plan = p; turns = 0 })
unfolding run
stays o p s h = record {
  described = (refl, refl, h);
  sound = s;
  sizes = refl;
  rooms = refl;
  joins = λ u v. refl;
  width = omega arith;
  none = h;
  calls = [];
  many = refl;
  leads = refl;
}

-- so many rounds as the sheet is wide, or more, come to an end
pub rounds_slim : (f : ℕ) (o : SizedJob) (p : Plan) → Sound o p → p.width ≤ f → Slimmed o p (rounds f o p)
unfolding rounds
rounds_slim zero o p s l = stays o p s (λ u v i q n. omega (arith, n.narrower))
rounds_slim (suc f) o p s l = go (round o s.passes p) (rounds_slim f)
  where
    go : Round o s.passes p → ((i : SizedJob) (q : Plan) → Sound i q → q.width ≤ f → Slimmed i q (rounds f i q))
        → Slimmed o p (onward o p (narrow_once o p) (λ i q. rounds f i q))
    go (round_stops none k e) below = unfold onward in rw e (stays o p s none)
    go (round_turns x e) below = unfold onward in rw e (more (below x.job x.plan sx (omega (arith, one))))
      where
        sx : Sound x.job x.plan
        sx = narrows_sound o p s x.u x.v x.job x.plan x.this

        one : x.plan.width + 1 ≡ p.width
        one = narrows_one o p s x.u x.v x.job x.plan x.this

        kept : Kept o.stars x.job.stars
        kept = narrows_keeps o p s x.u x.v x.job x.plan x.this

        called : (step (holding o p) (turns x.u x.v)).board ≡ holding x.job x.plan
        called = unfold step after in rw x.this.accepted

        more : Slimmed x.job x.plan (rounds f x.job x.plan)
            → Slimmed o p (one_more (rounds f x.job x.plan))
        more b = record {
          described = (x, b.described);
          sound = b.sound;
          sizes = b.sizes ∙ narrows_sizes o p s x.u x.v x.job x.plan x.this;
          rooms = b.rooms ∙ kept.rooms;
          joins = λ u v. b.joins u v ∙ kept.joins u v;
          width = omega (arith, one, b.width);
          none = b.none;
          calls = turns x.u x.v ∷ b.calls;
          many = ap suc b.many;
          leads = unfold run in ap (λ c. run c b.calls) called ∙ b.leads;
        }

-- NARROWED
pub narrowed_slim : (o : SizedJob) (p : Plan) → Sound o p → Slimmed o p (narrowed o p)
unfolding narrowed
narrowed_slim o p s = rounds_slim p.width o p s (omega arith)

-- what is held is one job and one plan
one_job : {i k : SizedJob} {q r : Plan} → held i q ≡ held k r → i ≡ k
one_job e = cc

one_plan : {i k : SizedJob} {q r : Plan} → held i q ≡ held k r → q ≡ r
one_plan e = cc

-- THE DESCRIPTION HAS ONE RESULT
same_first : (o : SizedJob) (p : Plan) (f g : FirstNarrows o p) → (f.job ≡ g.job) × (f.plan ≡ g.plan)
same_first o p f g = go (dec_lt f.u g.u) (dec_lt g.u f.u) (dec_lt f.v g.v) (dec_lt g.v f.v)
  where
    no_f : Sooner g.u g.v f.u f.v → ⊥
    no_f o = f.first g.u g.v g.job g.plan o g.this

    no_g : Sooner f.u f.v g.u g.v → ⊥
    no_g o = g.first f.u f.v f.job f.plan o f.this

    go : Dec (f.u < g.u) → Dec (g.u < f.u) → Dec (f.v < g.v) → Dec (g.v < f.v) → (f.job ≡ g.job) × (f.plan ≡ g.plan)
    go (yes a) b c d = absurd (no_g (inl a))
    go (no a) (yes b) c d = absurd (no_f (inl b))
    go (no a) (no b) (yes c) d = absurd (no_g (inr (omega arith, c)))
    go (no a) (no b) (no c) (yes d) = absurd (no_f (inr (omega arith, d)))
    go (no a) (no b) (no c) (no d) =
        let eu : f.u ≡ g.u = omega arith in
        let ev : f.v ≡ g.v = omega arith in
        let e : held f.job f.plan ≡ held g.job g.plan =
        sym f.this.accepted ∙ ap (λ a. turn o a f.v) eu ∙ ap (λ b. turn o g.u b) ev ∙ g.this.accepted in
        (one_job e, one_plan e)

pub record SameEnd (n m : ℕ) (i k : SizedJob) (q r : Plan) : Type 0 where
  pub turns : n ≡ m
  pub job : i ≡ k
  pub plan : q ≡ r

pub described_one : (n m : ℕ) (o : SizedJob) (p : Plan) (i k : SizedJob) (q r : Plan) → Described n o p i q → Described m o p k r → SameEnd n m i k q r
described_one zero zero o p i k q r x y = record { turns = refl; job = x.0 ∙ sym y.0; plan = x.1 ∙ sym y.1 }
described_one zero (suc m) o p i k q r x y =
    absurd (x.2 y.0.u y.0.v y.0.job y.0.plan y.0.this)
described_one (suc n) zero o p i k q r x y =
    absurd (y.2 x.0.u x.0.v x.0.job x.0.plan x.0.this)
described_one (suc n) (suc m) o p i k q r (f, x) (g, y) =
    let (ej, ep) = same_first o p f g in
    let s : SameEnd n m i k q r = described_one n m g.job g.plan i k q r (rw (ej, ep) at x) y in
    record { turns = ap suc s.turns; job = s.job; plan = s.plan }

-- so any number of rounds that is large enough gives the same
same_slim : (a b : Slim) → SameEnd a.turns b.turns a.job b.job a.plan b.plan → a ≡ b
same_slim a b e = λ i. record { job = e.job i; plan = e.plan i; turns = e.turns i }

pub slimmed_one : (o : SizedJob) (p : Plan) (a b : Slim) → Slimmed o p a → Slimmed o p b → a ≡ b
slimmed_one o p a b x y =
    same_slim a b (described_one a.turns b.turns o p a.job b.job a.plan b.plan x.described y.described)

-- FOR CODE, of a held plan: a round that turns, and one that stops
module _ (o : SizedJob) (p : Plan) (s : Sound o p) where
  pub narrowed_turns : (i : SizedJob) (q : Plan) → narrow_once o p ≡ held i q
      → Sound i q × (narrowed o p ≡ one_more (narrowed i q))
  narrowed_turns i q e = go (round o s.passes p)
    where
      go : Round o s.passes p
          → Sound i q × (narrowed o p ≡ one_more (narrowed i q))
      go (round_stops none k h) = not_held (sym h ∙ e)
      go (round_turns x h) =
          let sx : Sound x.job x.plan = narrows_sound o p s x.u x.v x.job x.plan x.this in
          let ej : x.job ≡ i = one_job (sym h ∙ e) in
          let ep : x.plan ≡ q = one_plan (sym h ∙ e) in
          rw (← ej, ← ep) (sx, whole x sx h)
        where
          whole : (x : FirstNarrows o p) → Sound x.job x.plan → narrow_once o p ≡ held x.job x.plan
              → narrowed o p ≡ one_more (narrowed x.job x.plan)
          whole x sx h =
              same_slim (narrowed o p) (one_more (narrowed x.job x.plan))
              (described_one (narrowed o p).turns (suc (narrowed x.job x.plan).turns) o p (narrowed o p).job (narrowed x.job x.plan).job
              (narrowed o p).plan (narrowed x.job x.plan).plan (narrowed_slim o p s).described (x, (narrowed_slim x.job x.plan sx).described))

  pub narrowed_stops : (k : ℕ) → narrow_once o p ≡ refused k → narrowed o p ≡ record { job = o; plan = p; turns = 0 }
  narrowed_stops k e = go (round o s.passes p)
    where
      go : Round o s.passes p → narrowed o p ≡ record { job = o; plan = p; turns = 0 }
      go (round_turns x h) = not_held (sym e ∙ h)
      go (round_stops none m h) = slimmed_one o p (narrowed o p) (record { job = o; plan = p; turns = 0 }) (narrowed_slim o p s) (stays o p s none)

  -- a pair that is no contact of kind 0, or whose turn 11 or 12 refuses, is passed over
  pub over_apart : (w u v : ℕ) → stacked o.stars u v ≡ false → turn_narrows o w u v ≡ false
  unfolding turn_narrows
  over_apart w u v e = rw e

  pub over_refused : (w u v k : ℕ) → turning o.stars u v ≡ fails k → turn_narrows o w u v ≡ false
  unfolding turn_narrows turn draw_read with_sizes narrower
  over_refused w u v k e = go (stacked o.stars u v)
    where
      go : (b : Bool) → (b && narrower w (draw_read (with_sizes o.sizes (turning o.stars u v)))) ≡ false
      go true = rw e
      go false = refl

  -- THE TRIAL: E's left wall of the turned labelling, and test 18,
  pub trial : (u v : ℕ) → stacked o.stars u v ≡ true → (i : Job) → turning o.stars u v ≡ reads i
      → (f g : List ℕ) → job_numbers upright i o.sizes ≡ some f → job_numbers level i o.sizes ≡ some g
      → turn_narrows o p.width u v ≡ (test18 (plan_of i (at f) (at g)) && ltb (at f (low 3) + 1) p.width)
  unfolding turn_narrows
  trial u v e i r f g ef eg = rw (e, reads_held o p s u v i r f g ef eg) (go (test18 (plan_of i (at f) (at g))))
    where
      go : (b : Bool) → narrower p.width (past b 18 (λ _. held (sized_job i o.sizes) (plan_of i (at f) (at g)))) ≡ (b && ltb (at f (low 3) + 1) p.width)
      go true = unfold narrower past plan_of in refl
      go false = unfold narrower past in refl

  -- by the upright numbers alone where they do not narrow
  pub over_wide : (u v : ℕ) (i : Job) → turning o.stars u v ≡ reads i → (f : List ℕ) → job_numbers upright i o.sizes ≡ some f
      → ltb (at f (low 3) + 1) p.width ≡ false → turn_narrows o p.width u v ≡ false
  over_wide u v i r f ef h = go (stacked o.stars u v) refl (reads_numbered o p s u v i r)
    where
      and_no : (b : Bool) → (b && ltb (at f (low 3) + 1) p.width) ≡ false
      and_no true = h
      and_no false = refl

      go : (b : Bool) → stacked o.stars u v ≡ b → Ours i o.sizes → turn_narrows o p.width u v ≡ false
      go false e x = over_apart p.width u v e
      go true e x = trial u v e i r f x.ys ef x.is_level ∙ and_no (test18 (plan_of i (at f) (at x.ys)))
