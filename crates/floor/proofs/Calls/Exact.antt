-- Exactly which labellings are drawn and which jobs are loaded, by the text's numbers alone; and that every call answers. Assumes nothing.
use Rattle.std.specs.Prelude.{ℕ, ◌≤◌, ◌≡◌, ◌⊎◌, ◌↔◌, Bool, true, cond, ◌&&◌, ◌||◌, eqb, length, get_or}
use Rattle.std.proofs.Math.Path.{refl, fun_ext}
use Rattle.std.proofs.Common.{sym, ap, ◌∙◌, inl, inr, le-leb}
use Rattle.std.proofs.Math.Bool.{false}
use Rattle.std.proofs.Math.Option.{Option, none, some}
use mathlib.Core.List.{List, ◌∷◌, ◌++◌, Memᴰ}
use Rattle.floor.specs.Lists.{any}
use Rattle.floor.proofs.Lists.Laws.{and_both, Apart, apart_at}
use Rattle.floor.specs.Fields.{Field, broken, field, read_field, after_fields}
use Rattle.floor.specs.Jobs.{passing, first_six, Star, Room, star_of, kind_of, Job, opposite, read_stars, test2, test3, test4, test5, test6, Reading, fails}
use Rattle.floor.specs.Jobs.{SixPassed, reads, read_rest, read_rooms, read_first, read_job, sizes_pass, with_sizes, Sizes, SizedJob, read_sizes, test17}
use Rattle.floor.specs.Jobs.Stars.{entry, GoodStar}
use Rattle.floor.proofs.Jobs.Stars.{kind_of_mid, mem_names}
use Rattle.floor.specs.Jobs.Facts.{Passes}
use Rattle.floor.proofs.Jobs.Facts.{room_is, labelling_passes, passes_of, passing_true}
use Rattle.floor.specs.Walls.{Numbers, Axis, upright, level, rules, at, job_numbers}
use Rattle.floor.proofs.Walls.Walk.{unique, numbers_respects}
use Rattle.floor.proofs.Walls.Rules.{numbered, numbers_are, to_vertex}
use Rattle.floor.specs.Plans.{Plan, plan_of, drawable, Answer, held, past, tested, planned, drawn, draw_read, Numbered, test18}
use Rattle.floor.specs.Plans.Held.{Drawn}
use Rattle.floor.proofs.Plans.Held.{drawn_held, drawn_again}
use Rattle.floor.proofs.Turns.Swing.{named_front}
use Rattle.floor.proofs.Turns.Ends.{opposite_opposite}
use Rattle.floor.proofs.Turns.Restore.{asked, turned_keeps}
use Rattle.floor.specs.Turns.{in_contact, turn, turning, turning_at, turning_from, turned, Turnable, turned_by, turned_with}
use Rattle.floor.specs.Calls.{load, Accepted, Answers, Turned, OneOf, of_load, of_turn}
use Rattle.floor.specs.Calls.Sound.{Sound}
use Rattle.floor.proofs.Calls.Sound.{sound_good, load_held, load_six}

-- the text's numbers are the computed ones
computed : (a : Axis) (j : Job) (z : Sizes) → Passes j → (f : ℕ → ℕ) → Numbers (rules a j z) f → (l : List ℕ) × (job_numbers a j z ≡ some l) × (f ≡ at l)
computed a j z ok f n =
    let (l, e) = numbered a j z (to_vertex j ok) f (numbers_respects (rules a j z) f n) in
    (l, e, fun_ext (λ s. unique (rules a j z) f (at l) n (numbers_are a j z (to_vertex j ok) l e) s))

module _ (o : SizedJob) (ok : Passes o.stars) (p : Plan) where
  -- a plan that the computed numbers give, past tests 18 and 9, is one that the text's numbers give
  pub drawn_numbered : Drawn o p → Numbered o p
  drawn_numbered d = record {
    xs = at d.xs;
    ys = at d.ys;
    are_upright = numbers_are upright o.stars o.sizes (to_vertex o.stars ok) d.xs d.is_upright;
    are_level = numbers_are level o.stars o.sizes (to_vertex o.stars ok) d.ys d.is_level;
    is_plan = d.is_plan;
    sheet = d.sheet;
    draws = d.draws;
  }

  -- a plan that the text's numbers give, past tests 18 and 9, is one that the computed numbers give
  pub numbered_drawn : Numbered o p → Drawn o p
  numbered_drawn n =
      let (f, ef, qf) = computed upright o.stars o.sizes ok n.xs n.are_upright in
      let (g, eg, qg) = computed level o.stars o.sizes ok n.ys n.are_level in
      record {
        xs = f;
        ys = g;
        is_upright = ef;
        is_level = eg;
        is_plan = n.is_plan ∙ ap (λ x. plan_of o.stars x n.ys) qf ∙ ap (λ y. plan_of o.stars (at f) y) qg;
        sheet = n.sheet;
        draws = n.draws;
      }

-- LOADED EXACTLY WHEN THE RULES SAY SO
pub accepted : (bs : List ℕ) (o : SizedJob) (p : Plan) → (load bs ≡ held o p) ↔ Accepted bs o p
accepted bs o p = (forth, back)
  where
    forth : load bs ≡ held o p → Accepted bs o p
    forth h = let (k, s) = load_held bs o p h in record { passed = k; is_numbered = drawn_numbered o s.passes p s.is_drawn }

    back : Accepted bs o p → load bs ≡ held o p
    back a =
        let s : SixPassed (read_job bs) o = a.passed.six in
        load_six bs o p a.passed (numbered_drawn o (passes_of o.stars s.pass4 s.pass5 s.pass6) p a.is_numbered)

-- a test that fails gives its number, one of these
past_answers : (ks : List ℕ) (t : Bool) (k : ℕ) (next : Unit {0} → Answer) → OneOf ks k → Answers ks (next tt) → Answers ks (past t k next)
unfolding past
past_answers ks true k next h n = n
past_answers ks false k next h n = h

-- a labelling numbered and tested is a plan, or 7, 18 or 9
drawn_answers : (ks : List ℕ) → OneOf ks 7 → OneOf ks 18 → OneOf ks 9 → (o : SizedJob) → Answers ks (drawn o)
unfolding drawn
drawn_answers ks h7 h18 h9 o = go (job_numbers upright o.stars o.sizes) (job_numbers level o.stars o.sizes)
  where
    go : (a b : Option (List ℕ)) → Answers ks (planned o a b)
    go none none = unfold planned in h7
    go none (some g) = unfold planned in h7
    go (some f) none = unfold planned in h7
    go (some f) (some g) = unfold planned tested in past_answers ks (test18 (plan_of o.stars (at f) (at g))) 18 _ h18
        (past_answers ks (drawable o.stars (plan_of o.stars (at f) (at g))) 9 _ h9 tt)

-- what fails, fails by one of these numbers
abbrev Fails : List ℕ → Reading SizedJob → Type 0
Fails ks (fails k) = OneOf ks k
Fails ks (reads o) = Unit {0}

-- bytes that are no job fail by 1 or 2
read_answers : (ks : List ℕ) → OneOf ks 1 → OneOf ks 2 → (f : Field) → Fails ks (read_first f)
unfolding read_first
read_answers ks h1 h2 broken = h1
read_answers ks h1 h2 (field t v rest) = go (eqb t 1 && eqb (length v) 1) (test2 (get_or v 0 0)) (get_or v 0 0)
  where
    rest_answers : (a : Option Job) (b : Option Sizes) → Fails ks (read_rest a b)
    rest_answers none b = unfold read_rest in h1
    rest_answers (some j) none = unfold read_rest in h1
    rest_answers (some j) (some z) = unfold read_rest in tt

    rooms_answers : (b : Bool) (n : ℕ) → Fails ks (read_rooms b n rest)
    rooms_answers true n = unfold read_rooms in rest_answers (read_stars n rest) (read_sizes n (after_fields n rest))
    rooms_answers false n = unfold read_rooms in h2

    go : (a b : Bool) (n : ℕ) → Fails ks (cond a (read_rooms b n rest) (fails 1))
    go true b n = rooms_answers b n
    go false b n = h1

-- a test that fails, fails by its number
passing_fails : (ks : List ℕ) (b : Bool) (k : ℕ) (r : Reading SizedJob) → OneOf ks k → Fails ks r → Fails ks (passing b k r)
unfolding passing
passing_fails ks true k r h f = f
passing_fails ks false k r h f = h

-- a job that was read passes tests 3 to 6, or fails by one of their numbers
six_answers : (ks : List ℕ) → OneOf ks 3 → OneOf ks 4 → OneOf ks 5 → OneOf ks 6 → (r : Reading SizedJob) → Fails ks r → Fails ks (first_six r)
unfolding first_six
six_answers ks h3 h4 h5 h6 (fails k) h = h
six_answers ks h3 h4 h5 h6 (reads o) h =
    passing_fails ks (test3 o.stars) 3 _ h3
    (passing_fails ks (test4 o.stars) 4 _ h4 (passing_fails ks (test5 o.stars) 5 _ h5 (passing_fails ks (test6 o.stars) 6 (reads o) h6 tt)))

-- and passes test 17, or fails by that number
sizes_answers : (ks : List ℕ) → OneOf ks 17 → (r : Reading SizedJob) → Fails ks r → Fails ks (sizes_pass r)
unfolding sizes_pass
sizes_answers ks h17 (fails k) h = h
sizes_answers ks h17 (reads o) h = passing_fails ks (test17 o.sizes) 17 (reads o) h17 tt

-- EVERY LOAD ANSWERS: a plan, or one of the refusals of a load
pub load_answers : (bs : List ℕ) → Answers of_load (load bs)
unfolding load read_job any
load_answers bs =
    go (sizes_pass (first_six (read_job bs)))
    (sizes_answers of_load refl (first_six (read_job bs)) (six_answers of_load refl refl refl refl (read_job bs) (read_answers of_load refl refl (read_field bs))))
  where
    go : (r : Reading SizedJob) → Fails of_load r → Answers of_load (draw_read r)
    go (fails k) h = unfold draw_read in h
    go (reads o) h = unfold draw_read in drawn_answers of_load refl refl refl o

-- a turn that fails a test is refused by its number
passing_answers : (ks : List ℕ) (z : Sizes) (b : Bool) (k : ℕ) (r : Reading Job) → OneOf ks k → Answers ks (draw_read (with_sizes z r))
    → Answers ks (draw_read (with_sizes z (passing b k r)))
unfolding passing draw_read with_sizes
passing_answers ks z true k r h a = a
passing_answers ks z false k r h a = h

-- EVERY TURN of a held plan ANSWERS: a plan, or one of the refusals of a turn
pub turn_answers : (o : SizedJob) (u v : ℕ) → Answers of_turn (turn o u v)
unfolding turn any
turn_answers o u v = unfold turning in passing_answers of_turn o.sizes _ 11 _ refl (go _ u v _)
  where
    reads_answers : (i : Job) → Answers of_turn (draw_read (with_sizes o.sizes (reads i)))
    reads_answers i = unfold draw_read with_sizes in drawn_answers of_turn refl refl refl (record { stars = i; sizes = o.sizes })

    at_answers : (a b k : ℕ) → Answers of_turn (draw_read (with_sizes o.sizes (turning_at o.stars a b k)))
    at_answers a b k = unfold turning_at in passing_answers of_turn o.sizes _ 12 _ refl (reads_answers (turned o.stars a b k))

    go : (c : Bool) (u v k : ℕ) → Answers of_turn (draw_read (with_sizes o.sizes (turning_from c o.stars u v k)))
    go true u v k = unfold turning_from in at_answers u v k
    go false u v k = unfold turning_from in at_answers v u (opposite k)

-- in a star that names each once, an entry's kind is found
pub kind_found : (s : Star) (v k : ℕ) → GoodStar s → Memᴰ (entry v k) s → kind_of s v ≡ k
kind_found s v k g m = let c : Apart (entry v k) s = apart_at (entry v k) s m in go c.front c.rest c.whole
  where
    go : (P Q : Star) → s ≡ P ++ entry v k ∷ Q → kind_of s v ≡ k
    go P Q e = rw e (kind_of_mid P v k Q (named_front P Q v k (rw e at g)))

-- which of the two asks
asks_up : (m : ℕ) → (m ≡ 0) ⊎ (m ≡ 3) → ((eqb m 0 || eqb m 3) ≡ true) × ((eqb (opposite m) 0 || eqb (opposite m) 3) ≡ false)
unfolding opposite
asks_up m (inl e) = rw e (refl, refl)
asks_up m (inr e) = rw e (refl, refl)

module _ (o : SizedJob) (p : Plan) (s : Sound o p) where
  -- the stars of the held job
  abbrev j : Job
  j = o.stars

  -- the held job has the facts that tests 4 to 6 tell
  ok : Passes j
  ok = s.passes

  -- a turn, asked from the lower or the left room, or from the other
  turn_at : (a b m : ℕ) → Room j a → Room j b → (m ≡ 0) ⊎ (m ≡ 3) → Memᴰ (entry b m) (star_of j a)
      → (turning j a b ≡ turning_at j a b m) × (turning j b a ≡ turning_at j a b m)
  unfolding turning turning_from in_contact
  turn_at a b m ra rb up i =
      let (x, y) = asks_up m up in
      let small : m ≤ 3 = (ok.entries a ra (entry b m) i).small in
      let back : Memᴰ (entry a (opposite m)) (star_of j b) = ok.opposed a ra (entry b m) i rb.0 in
      let ka : kind_of (star_of j a) b ≡ m = kind_found (star_of j a) b m (ok.good a ra) i in
      let kb : kind_of (star_of j b) a ≡ opposite m = kind_found (star_of j b) a (opposite m) (ok.good b rb) back in (
        passing_true _ 11 _ (and_both _ _ (and_both _ _ (room_is j a ra) (room_is j b rb)) (mem_names (star_of j a) b m i)) ∙ rw (ka, x),
        passing_true _ 11 _ (and_both _ _ (and_both _ _ (room_is j b rb) (room_is j a ra)) (mem_names (star_of j b) a (opposite m) back))
            ∙ rw (kb, y, opposite_opposite m small),
      )

  -- A CONTACT THAT CAN BE TURNED: what becomes of it is its turned labelling, with the same sizes, numbered and tested
  pub turn_drawn : (u v : ℕ) (t : Turnable o.stars u v) → turn o u v ≡ drawn (turned_with t o.sizes)
  turn_drawn u v t = two t.a t.b t.who (turn_at t.a t.b t.m t.room_a t.room_b t.above_or_right t.contact)
    where
      sized : Reading Job → Answer
      sized r = draw_read (with_sizes o.sizes r)

      drawn_is : sized (turning_at j t.a t.b t.m) ≡ drawn (turned_with t o.sizes)
      drawn_is = unfold turning_at draw_read with_sizes in
          (ap sized (passing_true _ 12 _ (and_both _ _ (le-leb 2 _ t.many_a) (le-leb 2 _ t.many_b))))

      two : (a b : ℕ) → ((a ≡ u) × (b ≡ v)) ⊎ ((a ≡ v) × (b ≡ u))
          → (turning j a b ≡ turning_at j t.a t.b t.m) × (turning j b a ≡ turning_at j t.a t.b t.m)
          → turn o u v ≡ drawn (turned_with t o.sizes)
      two a b (inl (x, y)) both = unfold turn in (rw (← x, ← y) (ap sized both.0 ∙ drawn_is))
      two a b (inr (x, y)) both = unfold turn in (rw (← x, ← y) (ap sized both.1 ∙ drawn_is))

  -- TURNED EXACTLY WHEN THE RULES SAY SO
  pub turned_exactly : (u v : ℕ) (i : SizedJob) (q : Plan) → (turn o u v ≡ held i q) ↔ Turned o u v i q
  turned_exactly u v i q = (forth, back)
    where
      keeps : (t : Turnable j u v) → Passes (turned_by t)
      keeps t = labelling_passes (turned_by t) (turned_keeps j ok p (sound_good o p s) t).labelling

      back : Turned o u v i q → turn o u v ≡ held i q
      back r = go r.contact r.is_job
        where
          go : (t : Turnable j u v) → i ≡ turned_with t o.sizes → turn o u v ≡ held i q
          go t e = turn_drawn u v t ∙ ap drawn (sym e) ∙ drawn_again i q (numbered_drawn i (rw e (keeps t)) q r.is_numbered)

      forth : turn o u v ≡ held i q → Turned o u v i q
      forth h =
          let (t, c) = asked o u v i q ok h in
          let (e, d) = drawn_held (turned_with t o.sizes) i q c in
          record { contact = t; is_job = e; is_numbered = rw e (drawn_numbered (turned_with t o.sizes) (keeps t) q d) }
