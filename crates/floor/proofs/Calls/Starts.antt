-- Jobs that differ only in their starts: every test, the numbers, the plan and every turn answer them alike. Assumes nothing.
use Prim.Native.Nat.{ℕ, zero, suc, ◌-◌}
use Rattle.std.proofs.Math.Path.{◌≡◌, refl, ap, fun_ext, subst}
use Rattle.std.proofs.Common.{sym, ◌∙◌, length-append, arith}
use Rattle.std.proofs.Math.Bool.{Bool, true, false, not}
use Rattle.std.specs.Prelude.{cond, ◌&&◌, ◌||◌, length, get_or, set, leb}
use Rattle.std.proofs.Math.Option.{Option, none, some}
use mathlib.Core.List.{List, [], ◌∷◌}
use Rattle.std.proofs.Math.Dec.{eqb}
use Rattle.floor.specs.Lists.{all, pairwise, sum}
use Rattle.floor.proofs.Lists.Laws.{same_test, and_parts}
use Rattle.floor.specs.Jobs.{Entry, Star, changes, Restarted, Job, OnlyStarts, no_room, one_more, opposite, rooms, is_vertex, is_room, star_of, names}
use Rattle.floor.specs.Jobs.{SixPassed, lists, kind_of, list_of, pairs_in, goes_on, star_ok, test3, entry_ok, test4, test5, test6, Reading, fails, reads}
use Rattle.floor.specs.Jobs.{read_job, passing, first_six, write_job, Sizes, SizedJob, sized_job, SameButStarts, same_sizes, sizes_pass, test17, with_sizes}
use Rattle.floor.specs.Jobs.{write_sizes, write_sized}
use Rattle.floor.proofs.Jobs.Round.{restart_none, restart_back, restart_mem, restart_count, restart_all, restart_any, links_all, links_count}
use Rattle.floor.proofs.Jobs.Stars.{once_of, of_once, kind_of_mem}
use Rattle.floor.specs.Jobs.Facts.{Passes}
use Rattle.floor.proofs.Jobs.Facts.{is_a_room, passes_of, six_passed, labelling_passes, sizes_passed}
use Rattle.floor.proofs.Jobs.Written.{length_write_job}
use Rattle.floor.specs.Walls.{Axis, upright, level, Respects, rules, at, job_numbers}
use Rattle.floor.proofs.Walls.Walk.{numbers_respects, numbers_positive}
use Rattle.floor.proofs.Walls.Rules.{obeys_respects, respects_obeys, numbered, numbers_are, numbers_least, to_vertex}
use Rattle.floor.specs.Plans.{Plan, plan_of, joined, shares_joined, in_order, round_in_order, drawable, Answer, refused, held, past, tested, planned, Alike}
use Rattle.floor.specs.Plans.{one_plan, one_refusal, drawn, draw_read, write_plan, test18}
use Rattle.floor.specs.Cuts.{Tree, write_tree, plan_tree}
use Rattle.floor.specs.Registers.{register, write_register}
use Rattle.floor.specs.Turns.{turned, turning_at, turning_from, in_contact, turning, turn, turned_by}
use Rattle.floor.proofs.Turns.Swing.{last_restarted, restart_turned, length_list_of}
use Rattle.floor.proofs.Turns.Restore.{turnable, turned_keeps}
use Rattle.floor.specs.Narrow.{stacked, narrower, turn_narrows, first_pair, Search, nothing, pair, turn_found, narrow_once, onward, rounds, narrowed, Slim}
use Rattle.floor.specs.Calls.{load, Board, empty, holding, Call, loads, turns, narrows, rectangle, writes_job, writes_plan, Reply, wrote, refuse, BoardsAlike}
use Rattle.floor.specs.Calls.{StepsAlike, both_empty, both_hold, after, asks, writes, step, run, touches, writes_register, slices, writes_cuts, writes_tree}
use Rattle.floor.specs.Calls.{made, slims}
use Rattle.floor.specs.Calls.Sound.{Sound, SoundBoard}
use Rattle.floor.proofs.Calls.Sound.{sound_good, once_sound, step_sound}
use Rattle.floor.proofs.Calls.Exact.{kind_found}

-- WHAT JOBS THAT DIFFER ONLY IN THEIR STARTS HAVE IN COMMON
pub starts_back : {j i : Job} → OnlyStarts j i → OnlyStarts i j
starts_back no_room = no_room
starts_back (one_more r o) = one_more (restart_back r) (starts_back o)

-- jobs that differ only in their starts have equally many rooms
pub starts_length : {j i : Job} → OnlyStarts j i → length j ≡ length i
starts_length no_room = refl
starts_length (one_more r o) = ap suc (starts_length o)

-- place by place, the star of the other job is the star of the one, started elsewhere
starts_at : {j i : Job} → OnlyStarts j i → (n : ℕ) → Restarted (get_or j n []) (get_or i n [])
starts_at no_room n = restart_none []
starts_at (one_more r o) zero = r
starts_at (one_more r o) (suc n) = starts_at o n

-- each vertex's star in the other job is its star in the one, started elsewhere
pub starts_star : {j i : Job} → OnlyStarts j i → (v : ℕ) → Restarted (star_of j v) (star_of i v)
unfolding star_of
starts_star {j} {i} o v = go (leb 4 v)
  where
    go : (b : Bool) → Restarted (cond b (get_or j (v - 4) []) []) (cond b (get_or i (v - 4) []) [])
    go true = starts_at o (v - 4)
    go false = restart_none []

-- a test of every star
starts_all : (p : Star → Bool) → ((s t : Star) → Restarted s t → p s ≡ p t) → {j i : Job} → OnlyStarts j i → all p j ≡ all p i
unfolding all
starts_all p h no_room = refl
starts_all p h (one_more {s} {t} r o) = rw (h s t r, starts_all p h o)

-- TESTS 3 TO 6
length_restarted : {s t : Star} → Restarted s t → length s ≡ length t
length_restarted r =
    omega (
      arith,
      ap (λ (s : Star). length s) r.is_one,
      ap (λ (s : Star). length s) r.is_other,
      length-append r.front r.rest,
      length-append r.rest r.front,
    )

-- jobs that differ only in their starts have equally many pairs
pairs_same : {j i : Job} → OnlyStarts j i → pairs_in j ≡ pairs_in i
unfolding pairs_in sum
pairs_same no_room = refl
pairs_same (one_more r o) = omega (arith, length_restarted r, pairs_same o)

-- where no neighbour stands twice in a star, none does in that star started elsewhere
twice_same : (s t : Star) → Restarted s t → pairwise (λ d e. not (eqb d.to e.to)) s ≡ true → pairwise (λ d e. not (eqb d.to e.to)) t ≡ true
twice_same s t r h =
    of_once t (λ e m. sym (restart_count r (λ (d : Entry). eqb d.to e.to)) ∙ once_of s h e (restart_mem (restart_back r) m))

-- whether those of one kind stand in order once round a star does not hang on where it starts
order_same : (p : Plan) (s t : Star) → Restarted s t → round_in_order p s ≡ round_in_order p t
unfolding round_in_order
order_same p s t r = links_all r (in_order p)

-- whether a star passes test 5 does not hang on where it starts
star_ok_same : (s t : Star) → Restarted s t → star_ok s ≡ star_ok t
unfolding star_ok
star_ok_same s t r =
    rw (
      links_all r goes_on,
      links_count r changes,
      same_test (pairwise (λ d e. not (eqb d.to e.to)) s) (pairwise (λ d e. not (eqb d.to e.to)) t) (twice_same s t r)
          (twice_same t s (restart_back r)),
    )

module _ {j i : Job} (o : OnlyStarts j i) where
  -- the two jobs have the same rooms
  rooms_same : rooms j ≡ rooms i
  unfolding rooms
  rooms_same = rw (starts_length o)

  -- test 3 answers both alike
  test3_same : test3 j ≡ test3 i
  unfolding test3
  test3_same = rw (pairs_same o)

  -- test 4 answers both alike
  test4_same : test4 j ≡ test4 i
  unfolding test4
  test4_same =
      ap (λ (l : List ℕ). all (λ u. all (entry_ok (length j) u) (star_of j u)) l) rooms_same ∙ ap (λ (p : ℕ → Bool). all p (rooms i)) (fun_ext each)
    where
      each : (u : ℕ) → all (entry_ok (length j) u) (star_of j u) ≡ all (entry_ok (length i) u) (star_of i u)
      each u = restart_all (starts_star o u) (entry_ok (length j) u) ∙ ap (λ n. all (entry_ok n u) (star_of i u)) (starts_length o)

  -- test 5 answers both alike
  test5_same : test5 j ≡ test5 i
  unfolding test5
  test5_same = starts_all star_ok star_ok_same o

  -- the star of a vertex lists another with a kind in the one job exactly if it does in the other
  lists_same : (v u k : ℕ) → lists (star_of j v) u k ≡ lists (star_of i v) u k
  unfolding lists
  lists_same v u k = restart_any (starts_star o v) (λ e. eqb e.to u && eqb e.kind k)

  -- test 6 answers both alike
  test6_same : test6 j ≡ test6 i
  unfolding test6
  test6_same = ap (λ (l : List ℕ). all (asked j) l) rooms_same ∙ ap (λ (p : ℕ → Bool). all p (rooms i)) (fun_ext each)
    where
      asks : Job → ℕ → Entry → Bool
      asks h u e = not (leb 4 e.to) || lists (star_of h e.to) u (opposite e.kind)

      asked : Job → ℕ → Bool
      asked h u = all (asks h u) (star_of h u)

      each : (u : ℕ) → asked j u ≡ asked i u
      each u =
          restart_all (starts_star o u) (asks j u)
          ∙ ap (λ (p : Entry → Bool). all p (star_of i u)) (fun_ext (λ e. ap (λ b. not (leb 4 e.to) || b) (lists_same e.to u (opposite e.kind))))

  -- THE NUMBERS
  respects_same : (a : Axis) (z : Sizes) (g : ℕ → ℕ) → Respects (rules a j z) g → Respects (rules a i z) g
  respects_same a z g r =
      let t = respects_obeys a g j z r in
      obeys_respects a g i z (record {
        own = λ n h. t.own n (omega (arith, starts_length o));
        each = λ n h e m. t.each n (omega (arith, starts_length o)) e (restart_mem (restart_back (starts_at o n)) m);
      })

  -- WHO IS JOINED, AND THE DRAWING TEST
  names_same : (u v : ℕ) → names (star_of j u) v ≡ names (star_of i u) v
  unfolding names
  names_same u v = restart_any (starts_star o u) (λ e. eqb e.to v)

  -- whether two rectangles that share a wall are joined is the same for both
  shares_same : shares_joined j ≡ shares_joined i
  unfolding shares_joined joined
  shares_same = fun_ext (λ r. fun_ext (λ s. rw (names_same r.vertex s.vertex, names_same s.vertex r.vertex)))

  -- a plan passes the drawing test for the one exactly if it does for the other
  drawable_same : (p : Plan) → drawable j p ≡ drawable i p
  unfolding drawable
  drawable_same p = rw (shares_same, starts_all (round_in_order p) (order_same p) o)

  -- the plan by given wall numbers is the same for both
  plan_same : (f g : ℕ → ℕ) → plan_of j f g ≡ plan_of i f g
  unfolding plan_of
  plan_same f g = rw rooms_same

-- the numbers of both
numbers_same : {j i : Job} → OnlyStarts j i → Passes j → Passes i → (a : Axis) (z : Sizes) (f : List ℕ) → job_numbers a j z ≡ some f
    → (g : List ℕ) × (job_numbers a i z ≡ some g) × (at f ≡ at g)
numbers_same {j} {i} o ok ok' a z f e =
    let nf = numbers_are a j z (to_vertex j ok) f e in
    let (g, q) = numbered a i z (to_vertex i ok') (at f) (respects_same o a z (at f) (numbers_respects (rules a j z) (at f) nf)) in
    let ng = numbers_are a i z (to_vertex i ok') g q in (
      g,
      q,
      fun_ext (λ s. omega (
        arith,
        numbers_least a j z (at f) (at g) nf (numbers_positive (rules a i z) (at g) ng)
            (respects_same (starts_back o) a z (at g) (numbers_respects (rules a i z) (at g) ng)) s,
        numbers_least a i z (at g) (at f) ng (numbers_positive (rules a j z) (at f) nf)
            (respects_same o a z (at f) (numbers_respects (rules a j z) (at f) nf)) s,
      )),
    )

-- TESTS 7, 18 AND 9: numbered and drawn alike
pub drawn_alike : {o i : SizedJob} → SameButStarts o i → Passes o.stars → Passes i.stars → Alike (drawn o) (drawn i)
unfolding drawn
drawn_alike (same_sizes {j} {i} {z} o) ok ok' =
    go (job_numbers upright j z) refl (job_numbers level j z) refl (job_numbers upright i z) refl (job_numbers level i z) refl
  where
    no_none : {X : Type 0} {f : List ℕ} → none ≡ some f → X
    no_none e = let z : ◌≡◌ {A = ℕ} 0 1 = cc in absurd (omega arith)

    same_list : {f g : List ℕ} → some f ≡ some g → f ≡ g
    same_list e = cc

    gone : (a : Axis) → job_numbers a j z ≡ none → (g : List ℕ) → job_numbers a i z ≡ some g → ⊥
    gone a e g q = let (f, x, y) = numbers_same (starts_back o) ok' ok a z g q in no_none (sym e ∙ x)

    there : (a : Axis) (f : List ℕ) → job_numbers a j z ≡ some f → job_numbers a i z ≡ none → ⊥
    there a f e q = let (g, x, y) = numbers_same o ok ok' a z f e in no_none (sym q ∙ x)

    both : (a : Axis) (f g : List ℕ) → job_numbers a j z ≡ some f → job_numbers a i z ≡ some g → at f ≡ at g
    both a f g e q = let (h, x, y) = numbers_same o ok ok' a z f e in y ∙ ap at (same_list (sym x ∙ q))

    one_test : (p : Plan) → Alike (tested (sized_job j z) p) (tested (sized_job i z) p)
    one_test p = unfold tested in sheet (test18 p)
      where
        two : (b : Bool) → Alike (past b 9 (λ _. held (sized_job j z) p)) (past b 9 (λ _. held (sized_job i z) p))
        two true = unfold past in one_plan (same_sizes o)
        two false = unfold past in one_refusal

        sheet : (b : Bool) → Alike (past b 18 (λ _. past (drawable j p) 9 (λ _. held (sized_job j z) p)))
            (past b 18 (λ _. past (drawable i p) 9 (λ _. held (sized_job i z) p)))
        sheet true = unfold past in rw (drawable_same o p) (two (drawable i p))
        sheet false = unfold past in one_refusal

    no_numbers : (h : SizedJob) (y : Option (List ℕ)) → planned h none y ≡ refused 7
    no_numbers h none = unfold planned in refl
    no_numbers h (some g) = unfold planned in refl

    go : (x : Option (List ℕ)) → job_numbers upright j z ≡ x → (y : Option (List ℕ)) → job_numbers level j z ≡ y
        → (v : Option (List ℕ)) → job_numbers upright i z ≡ v → (w : Option (List ℕ)) → job_numbers level i z ≡ w
        → Alike (planned (sized_job j z) x y) (planned (sized_job i z) v w)
    go none a y b none c w d = rw (no_numbers (sized_job j z) y, no_numbers (sized_job i z) w) one_refusal
    go none a y b (some g) c w d = absurd (gone upright a g c)
    go (some f) a y b none c w d = absurd (there upright f a c)
    go (some f) a none b (some g) c none d = unfold planned in one_refusal
    go (some f) a none b (some g) c (some h) d = absurd (gone level b h d)
    go (some f) a (some e) b (some g) c none d = absurd (there level e b d)
    go (some f) a (some e) b (some g) c (some h) d =
        unfold planned in rw (both upright f g a c, both level e h b d, plan_same o (at g) (at h)) (one_test (plan_of i (at g) (at h)))

-- A JOB READ, OR TURNED, alike: the same number, or jobs that differ only in their starts
data ReadAlike {A : Type 0} (R : A → A → Type 0) : Reading A → Reading A → Type 0 where
  one_number : {k : ℕ} → ReadAlike R (fails k) (fails k)
  one_job : {j i : A} → R j i → ReadAlike R (reads j) (reads i)

-- a test that answers both alike, and what follows it alike where it is passed: what comes of them is alike
passing_alike : {A : Type 0} {R : A → A → Type 0} (a b : Bool) (k : ℕ) (r q : Reading A) → a ≡ b → (b ≡ true → ReadAlike R r q)
    → ReadAlike R (passing a k r) (passing b k q)
unfolding passing
passing_alike a true k r q e h = rw e (h refl)
passing_alike a false k r q e h = rw e one_number

-- what was read alike is drawn alike, where the jobs read are
draw_alike : {r q : Reading SizedJob} → ReadAlike SameButStarts r q
    → ((o i : SizedJob) → r ≡ reads o → q ≡ reads i → SameButStarts o i → Alike (drawn o) (drawn i)) → Alike (draw_read r) (draw_read q)
unfolding draw_read
draw_alike one_number h = one_refusal
draw_alike (one_job {j} {i} x) h = h j i refl refl x

-- past tests 3 to 6,
six_alike : {o i : SizedJob} → SameButStarts o i → ReadAlike SameButStarts (first_six (reads o)) (first_six (reads i))
unfolding first_six
six_alike (same_sizes {j} {i} {z} o) =
    passing_alike (test3 j) (test3 i) 3 _ _ (test3_same o)
    (λ _. passing_alike (test4 j) (test4 i) 4 _ _ (test4_same o)
    (λ _. passing_alike (test5 j) (test5 i) 5 _ _ (test5_same o)
    (λ _. passing_alike (test6 j) (test6 i) 6 _ _ (test6_same o) (λ _. one_job (same_sizes o)))))

-- and past 17
sizes_alike : {r q : Reading SizedJob} → ReadAlike SameButStarts r q → ReadAlike SameButStarts (sizes_pass r) (sizes_pass q)
unfolding sizes_pass
sizes_alike one_number = one_number
sizes_alike (one_job (same_sizes {j} {i} {z} o)) = passing_alike (test17 z) (test17 z) 17 _ _ refl (λ _. one_job (same_sizes o))

-- LOADED ALIKE
pub load_alike : (bs cs : List ℕ) (o i : SizedJob) → read_job bs ≡ reads o → read_job cs ≡ reads i → SameButStarts o i → Alike (load bs) (load cs)
unfolding load
load_alike bs cs o i e q x = rw (e, q) (draw_alike (sizes_alike (six_alike x)) (λ h g y w z. drawn_alike z (passes (reads o) h y) (passes (reads i) g w)))
  where
    passes : (r : Reading SizedJob) (h : SizedJob) → sizes_pass (first_six r) ≡ reads h → Passes h.stars
    passes r h x =
        let (y, t) = sizes_passed (first_six r) h x in
        let s : SixPassed r h = six_passed r h y in
        passes_of h.stars s.pass4 s.pass5 s.pass6

-- TURNED ALIKE
starts_set : {j i : Job} → OnlyStarts j i → (n : ℕ) {s t : Star} → Restarted s t → OnlyStarts (set j n s) (set i n t)
starts_set no_room n r = no_room
starts_set (one_more q o) zero r = one_more r o
starts_set (one_more q o) (suc n) r = one_more q (starts_set o n r)

module _ {j i : Job} (o : OnlyStarts j i) where
  -- turned at one and the same contact, the two jobs still differ only in their starts
  turned_starts : (u v k : ℕ) → OnlyStarts (turned j u v k) (turned i u v k)
  unfolding turned
  turned_starts u v k = rw (last_restarted (starts_star o u) v) (starts_set (starts_set o (u - 4) (restart_turned (starts_star o u) v _)) (v - 4)
      (restart_turned (starts_star o v) u _))

  -- the list of each kind of each vertex is as long in the one as in the other
  many_same : (u k : ℕ) → length (list_of (star_of j u) k) ≡ length (list_of (star_of i u) k)
  many_same u k =
      length_list_of (star_of j u) k ∙ restart_count (starts_star o u) (λ (e : Entry). eqb e.kind k) ∙ sym (length_list_of (star_of i u) k)

  -- both fail by 12, or both give turned jobs, and these differ only in their starts
  at_alike : (u v k : ℕ) → ReadAlike OnlyStarts (turning_at j u v k) (turning_at i u v k)
  unfolding turning_at
  at_alike u v k =
      passing_alike _ _ 12 _ _ (rw (many_same u k, many_same v (opposite k))) (λ _. one_job (turned_starts u v k))

  -- the same, from whichever of the two rooms the contact is read
  from_alike : (b : Bool) (u v k : ℕ) → ReadAlike OnlyStarts (turning_from b j u v k) (turning_from b i u v k)
  unfolding turning_from
  from_alike true u v k = at_alike u v k
  from_alike false u v k = at_alike v u (opposite k)

  -- a number is a room of the one exactly if it is a room of the other
  room_same : (v : ℕ) → is_room j v ≡ is_room i v
  unfolding is_room is_vertex
  room_same v = rw (starts_length o)

  -- a number is a vertex of the one exactly if it is a vertex of the other
  vertex_same : (v : ℕ) → is_vertex j v ≡ is_vertex i v
  unfolding is_vertex
  vertex_same v = rw (starts_length o)

  -- written, the two jobs have equally many bytes
  written_same : length (write_job j) ≡ length (write_job i)
  written_same = omega (arith, length_write_job j, length_write_job i, starts_length o, pairs_same o)

  -- where the other passes tests 4 to 6, turning comes to the same: 11, 12, or turned jobs that differ only in their starts
  turning_alike : Passes i → (u v : ℕ) → ReadAlike OnlyStarts (turning j u v) (turning i u v)
  unfolding turning in_contact
  turning_alike ok u v = passing_alike _ _ 11 _ _ (rw (room_same u, room_same v, names_same o u v)) go
    where
      go : (is_room i u && is_room i v && names (star_of i u) v) ≡ true
          → ReadAlike OnlyStarts (turning_from (eqb (kind_of (star_of j u) v) 0 || eqb (kind_of (star_of j u) v) 3) j u v (kind_of (star_of j u) v))
          (turning_from (eqb (kind_of (star_of i u) v) 0 || eqb (kind_of (star_of i u) v) 3) i u v (kind_of (star_of i u) v))
      go c =
          let (xy, n) = and_parts (is_room i u && is_room i v) (names (star_of i u) v) c in
          let (x, y) = and_parts (is_room i u) (is_room i v) xy in
          let e : kind_of (star_of i u) v ≡ kind_of (star_of j u) v = kind_found (star_of i u) v (kind_of (star_of j u) v) (ok.good u (is_a_room i u x))
          (restart_mem (starts_star o u) (kind_of_mem (star_of j u) v (names_same o u v ∙ n))) in
          rw e (from_alike (eqb (kind_of (star_of j u) v) 0 || eqb (kind_of (star_of j u) v) 3) u v (kind_of (star_of j u) v))

-- with one and the same sizes, stars read alike are jobs read alike
sized_alike : {r q : Reading Job} (z : Sizes) → ReadAlike OnlyStarts r q → ReadAlike SameButStarts (with_sizes z r) (with_sizes z q)
unfolding with_sizes
sized_alike z one_number = one_number
sized_alike z (one_job o) = one_job (same_sizes o)

-- such jobs, each held with a plan, answer a turn alike: by the same refusal, or with equal plans
pub turn_alike : {o i : SizedJob} → SameButStarts o i → (p q : Plan) → Sound o p → Sound i q → (u v : ℕ) → Alike (turn o u v) (turn i u v)
unfolding turn
turn_alike (same_sizes {j} {i} {z} o) p q s t u v =
    draw_alike (sized_alike z (turning_alike o t.passes u v)) (λ h g x y r. drawn_alike r (kept (sized_job j z) p s h x) (kept (sized_job i z) q t g y))
  where
    kept : (o : SizedJob) (p : Plan) → Sound o p → (h : SizedJob) → with_sizes o.sizes (turning o.stars u v) ≡ reads h → Passes h.stars
    kept o p s h x = go (turning o.stars u v) refl x
      where
        same_job : {a b : SizedJob} → reads a ≡ reads b → a ≡ b
        same_job e = cc

        go : (r : Reading Job) → turning o.stars u v ≡ r → with_sizes o.sizes r ≡ reads h → Passes h.stars
        go (fails k) e x = unfold with_sizes in let z : ◌≡◌ {A = ℕ} 0 1 = cc in absurd (omega arith)
        go (reads l) e x = unfold with_sizes in
            let (t, f) = turnable o.stars u v s.passes l e in
            subst (λ (l : Job). Passes l) (f ∙ ap (λ (h : SizedJob). h.stars) (same_job x))
            (labelling_passes (turned_by t) (turned_keeps o.stars s.passes p (sound_good o p s) t).labelling)

-- a job differs from itself in no start
starts_none : (j : Job) → OnlyStarts j j
starts_none [] = no_room
starts_none (s ∷ j) = one_more (restart_none s) (starts_none j)

-- nor does a job with its sizes
itself : (o : SizedJob) → SameButStarts o o
itself o = same_sizes (starts_none o.stars)

-- the stars of such jobs differ only in their starts
stars_of : {o i : SizedJob} → SameButStarts o i → OnlyStarts o.stars i.stars
stars_of (same_sizes o) = o

-- and their writings are equally long
written_alike : {o i : SizedJob} → SameButStarts o i → length (write_sized o) ≡ length (write_sized i)
unfolding write_sized
written_alike (same_sizes {j} {i} {z} o) =
    omega (arith, length-append (write_job j) (write_sizes z), length-append (write_job i) (write_sizes z), written_same o)

-- every answer is the same as itself
answer_itself : (r : Answer) → Alike r r
answer_itself (refused k) = one_refusal
answer_itself (held o p) = one_plan (itself o)

-- boards alike, given the same answer, give the same reply and are alike again
pub after_alike : (b c : Board) {r q : Answer} → BoardsAlike b c → Alike r q → StepsAlike (after b r) (after c q)
unfolding after refuse
after_alike b c x one_refusal = record { one_reply = refl; boards = x }
after_alike b c x (one_plan o) = record { one_reply = refl; boards = both_hold o }

-- a question with one answer, allowed on both boards or on neither, gets the same reply and leaves them alike
asks_alike : (b c : Board) (x y : Bool) (r : Reply) → x ≡ y → BoardsAlike b c → StepsAlike (asks b x r) (asks c y r)
unfolding asks refuse
asks_alike b c x true r e h = rw e (record { one_reply = refl; boards = h })
asks_alike b c x false r e h = rw e (record { one_reply = refl; boards = h })

-- two writings of one length into one buffer get the same reply and leave the boards alike
writes_alike : (b c : Board) (bs cs buf : List ℕ) → length bs ≡ length cs → BoardsAlike b c
    → StepsAlike (writes b (leb (length bs) (length buf)) bs buf) (writes c (leb (length cs) (length buf)) cs buf)
unfolding writes refuse
writes_alike b c bs cs buf e h = rw e (go (leb (length cs) (length buf)))
  where
    go : (x : Bool) → StepsAlike (writes b x bs buf) (writes c x cs buf)
    go true = record { one_reply = ap wrote e; boards = h }
    go false = record { one_reply = refl; boards = h }

-- a writing of one tree of cuts, or of none, gets the same reply on boards alike and leaves them alike
tree_alike : (b c : Board) (o : Option Tree) (buf : List ℕ) → BoardsAlike b c → StepsAlike (writes_tree b o buf) (writes_tree c o buf)
unfolding writes_tree refuse
tree_alike b c none buf h = record { one_reply = refl; boards = h }
tree_alike b c (some t) buf h = writes_alike b c (write_tree t) (write_tree t) buf refl h

-- every board is like itself
boards_itself : (b : Board) → BoardsAlike b b
boards_itself empty = both_empty
boards_itself (holding o p) = both_hold (itself o)

-- NARROWING of two such: as many turns, and one plan
record SlimsAlike (a b : Slim) : Type 0 where
  as_many : a.turns ≡ b.turns
  plans : a.plan ≡ b.plan
  jobs : SameButStarts a.job b.job

narrower_alike : (w : ℕ) {r q : Answer} → Alike r q → narrower w r ≡ narrower w q
unfolding narrower
narrower_alike w one_refusal = refl
narrower_alike w (one_plan o) = refl

stacked_same : {j i : Job} → OnlyStarts j i → (u v : ℕ) → stacked j u v ≡ stacked i u v
unfolding stacked
stacked_same o u v = rw (lists_same o u v 0, lists_same o u v 2)

module _ {o i : SizedJob} (x : SameButStarts o i) (p : Plan) (s : Sound o p) (t : Sound i p) where
  narrows_same : turn_narrows o p.width ≡ turn_narrows i p.width
  unfolding turn_narrows
  narrows_same = fun_ext (λ u. fun_ext (λ v. rw (stacked_same (stars_of x) u v, narrower_alike p.width (turn_alike x p p s t u v))))

  found_alike : (f : Search) → Alike (turn_found o f) (turn_found i f)
  unfolding turn_found
  found_alike nothing = one_refusal
  found_alike (pair u v) = turn_alike x p p s t u v

  once_alike : Alike (narrow_once o p) (narrow_once i p)
  unfolding narrow_once
  once_alike = rw (narrows_same, starts_length (stars_of x)) (found_alike (first_pair (turn_narrows i p.width) 4 (length i.stars)))

rounds_alike : (f : ℕ) (h l : SizedJob) → SameButStarts h l → (r : Plan) → Sound h r → Sound l r → SlimsAlike (rounds f h r) (rounds f l r)
unfolding rounds
rounds_alike zero h l x r s t = record { as_many = refl; plans = refl; jobs = x }
rounds_alike (suc f) h l x r s t = go (narrow_once h r) (narrow_once l r) refl refl (once_alike x r s t) (rounds_alike f)
  where
    go : (a b : Answer) → narrow_once h r ≡ a → narrow_once l r ≡ b → Alike a b
        → ((o i : SizedJob) → SameButStarts o i → (q : Plan) → Sound o q → Sound i q → SlimsAlike (rounds f o q) (rounds f i q))
        → SlimsAlike (onward h r a (λ o q. rounds f o q)) (onward l r b (λ o q. rounds f o q))
    go a b ea eb one_refusal below = unfold onward in record { as_many = refl; plans = refl; jobs = x }
    go a b ea eb (one_plan {o} {i} {p} y) below = unfold onward in
        let n : SlimsAlike (rounds f o p) (rounds f i p) = below o i y p (once_sound h r s o p ea) (once_sound l r t i p eb) in
        record { as_many = ap suc n.as_many; plans = n.plans; jobs = n.jobs }

slims_alike : (a b : Slim) → SlimsAlike a b → StepsAlike (slims a) (slims b)
unfolding slims
slims_alike a b r = record { one_reply = ap made r.as_many; boards = rw r.plans (both_hold r.jobs) }

-- such jobs loaded into one board
pub loaded_alike : (b : Board) (bs cs : List ℕ) (o i : SizedJob) → read_job bs ≡ reads o → read_job cs ≡ reads i → SameButStarts o i
    → BoardsAlike (step b (loads bs)).board (step b (loads cs)).board
unfolding step
loaded_alike b bs cs o i e q x = (after_alike b b (boards_itself b) (load_alike bs cs o i e q x)).boards

-- ONE CALL on two such boards
pub step_alike : {b c : Board} (k : Call) → SoundBoard b → SoundBoard c → BoardsAlike b c → StepsAlike (step b k) (step c k)
unfolding step refuse
step_alike {b} {c} (loads bs) s t x = loaded b c x
  where
    loaded : (b c : Board) → BoardsAlike b c → StepsAlike (after b (load bs)) (after c (load bs))
    loaded b c x = after_alike b c x (answer_itself (load bs))
step_alike (turns u v) s t both_empty = record { one_reply = refl; boards = both_empty }
step_alike narrows s t both_empty = record { one_reply = refl; boards = both_empty }
step_alike (rectangle v) s t both_empty = record { one_reply = refl; boards = both_empty }
step_alike (touches u v) s t both_empty = record { one_reply = refl; boards = both_empty }
step_alike (writes_job buf) s t both_empty = record { one_reply = refl; boards = both_empty }
step_alike (writes_plan buf) s t both_empty = record { one_reply = refl; boards = both_empty }
step_alike (writes_register buf) s t both_empty = record { one_reply = refl; boards = both_empty }
step_alike slices s t both_empty = record { one_reply = refl; boards = both_empty }
step_alike (writes_cuts buf) s t both_empty = record { one_reply = refl; boards = both_empty }
step_alike (turns u v) s t (both_hold {o} {i} {p} x) =
    after_alike (holding o p) (holding i p) (both_hold x) (turn_alike x p p s t u v)
step_alike narrows s t (both_hold {o} {i} {p} x) =
    slims_alike (narrowed o p) (narrowed i p) (unfold narrowed in rounds_alike p.width o i x p s t)
step_alike (rectangle v) s t (both_hold {o} {i} {p} x) =
    asks_alike (holding o p) (holding i p) _ _ _ (vertex_same (stars_of x) v) (both_hold x)
step_alike (touches u v) s t (both_hold {o} {i} {p} x) =
    asks_alike (holding o p) (holding i p) _ _ _ (rw (vertex_same (stars_of x) u, vertex_same (stars_of x) v)) (both_hold x)
step_alike (writes_job buf) s t (both_hold {o} {i} {p} x) =
    writes_alike (holding o p) (holding i p) (write_sized o) (write_sized i) buf (written_alike x) (both_hold x)
step_alike (writes_plan buf) s t (both_hold {o} {i} {p} x) =
    writes_alike (holding o p) (holding i p) (write_plan p) (write_plan p) buf refl (both_hold x)
step_alike (writes_register buf) s t (both_hold {o} {i} {p} x) =
    writes_alike (holding o p) (holding i p) (write_register (register p)) (write_register (register p)) buf refl (both_hold x)
step_alike slices s t (both_hold {o} {i} {p} x) = asks_alike (holding o p) (holding i p) _ _ _ refl (both_hold x)
step_alike (writes_cuts buf) s t (both_hold {o} {i} {p} x) = tree_alike (holding o p) (holding i p) (plan_tree p) buf (both_hold x)

-- ANY CALLS on two such boards
pub run_alike : (b c : Board) (ks : List Call) → SoundBoard b → SoundBoard c → BoardsAlike b c → BoardsAlike (run b ks) (run c ks)
unfolding run
run_alike b c [] s t x = x
run_alike b c (k ∷ ks) s t x =
    run_alike (step b k).board (step c k).board ks (step_sound b k s) (step_sound c k t) (step_alike k s t x).boards
