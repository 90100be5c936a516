-- What tests 4, 5 and 6 say of a job, as facts about its entries; and the way back. Assumes nothing.
use Rattle.std.specs.Prelude.{ℕ, zero, suc, ◌+◌, ◌-◌, ◌≤◌, ◌<◌, ◌≡◌, refl, ◌⊎◌, Bool, true, false, not, ◌&&◌, ◌||◌, length, get_or, leb, eqb}
use Rattle.std.proofs.Common.{sym, ap, ◌∙◌, inl, inr, arith, leb-true, eqb-true, le-leb, eq-eqb, ne_eqb}
use mathlib.Core.List.Memᴰ
use mathlib.Core.List.{[], Memᴰ, ◌∷◌}
use Rattle.std.proofs.Math.ListN.{get_or-eq_default}
use Rattle.std.proofs.Math.Decide.{dec_lt}
use Rattle.std.proofs.lemmas.Bool.{eqb-false, lt-leb, not-true}
use Rattle.floor.specs.Lists.{all}
use Rattle.floor.proofs.Lists.Laws.{and_parts, and_both, or_cases, or_left, or_right, any_mem, mem_any, all_mem, mem_all, mem_get_or, get_or_mem, up_from_mem}
use Rattle.floor.proofs.Lists.Laws.{mem_up_from, implies, implied, and_left}
use Rattle.floor.specs.Jobs.{Reading, fails, reads, passing, first_six, Labelling, SixPassed, test3, Entry, Star, Job, Room, Vertex, opposite, frame_kind}
use Rattle.floor.specs.Jobs.{rooms, is_vertex, is_room, star_of, lists, entry_ok, test4, star_ok, test5, test6, sizes_pass, Size, Sizes, SizedJob, one_cell}
use Rattle.floor.specs.Jobs.{size_of, size_ok, test17}
use Rattle.floor.specs.Jobs.Stars.{entry}
use Rattle.floor.proofs.Jobs.Stars.{good_of, of_good, mem_most}
use Rattle.floor.specs.Jobs.Facts.{EntryOk, Passes}

-- rooms and vertices
pub is_a_room : (j : Job) (v : ℕ) → is_room j v ≡ true → Room j v
unfolding is_room is_vertex
is_a_room j v e = let (a, b) = and_parts _ _ e in (leb-true 4 v a, omega (arith, leb-true v (length j + 3) b))

-- a vertex passes the test whether it is one
pub vertex_is : (j : Job) (v : ℕ) → Vertex j v → is_vertex j v ≡ true
unfolding is_vertex
vertex_is j v h = le-leb v (length j + 3) (omega arith)

-- a room passes the test whether it is one
pub room_is : (j : Job) (v : ℕ) → Room j v → is_room j v ≡ true
unfolding is_room
room_is j v r = and_both _ _ (le-leb 4 v r.0) (vertex_is j v r.1)

-- a room is among the numbers of the job's rooms
pub room_mem : (j : Job) (u : ℕ) → Room j u → Memᴰ u (rooms j)
unfolding rooms
room_mem j u r = up_from_mem 4 (length j) u r.0 (omega (arith, r.1))

-- each of the numbers of a job's rooms is a room
pub mem_room : (j : Job) (u : ℕ) → Memᴰ u (rooms j) → Room j u
unfolding rooms
mem_room j u m = let h : (4 ≤ u) × (u < 4 + length j) = mem_up_from 4 (length j) u m in (h.0, omega (arith, h.1))

-- the star of a room, and of a frame side
pub star_room : (j : Job) (v : ℕ) → 4 ≤ v → star_of j v ≡ get_or j (v - 4) []
unfolding star_of
star_room j v h = rw (le-leb 4 v h)

-- a frame side has an empty star
pub star_frame : (j : Job) (v : ℕ) → v < 4 → star_of j v ≡ []
unfolding star_of
star_frame j v h = rw (lt-leb 4 v h)

-- the star at a place of the job
pub star_at : (j : Job) (i : ℕ) → star_of j (4 + i) ≡ get_or j i []
star_at j i = star_room j (4 + i) (omega arith) ∙ ap (λ n. get_or j n []) (omega arith)

-- an entry is listed
pub lists_mem : (s : Star) (v k : ℕ) → lists s v k ≡ true → Memᴰ (entry v k) s
unfolding lists
lists_mem s v k h =
    let (e, m, q) = any_mem (λ e. eqb e.to v && eqb e.kind k) s h in
    let (x, y) = and_parts (eqb e.to v) (eqb e.kind k) q in
    let a : e.to ≡ v = eqb-true e.to v x in
    let b : e.kind ≡ k = eqb-true e.kind k y in
    Memᴰ.cast (λ i. record { to = sym a i; kind = sym b i }) m

-- an entry of a star is found by the test whether the star lists it
pub mem_lists : (s : Star) (v k : ℕ) → Memᴰ (entry v k) s → lists s v k ≡ true
unfolding lists
mem_lists s v k m = mem_any (λ e. eqb e.to v && eqb e.kind k) s (entry v k) m (and_both (eqb v v) (eqb k k) (eq-eqb v v refl) (eq-eqb k k refl))

-- a frame side's kind is its number
frame_kind_lem : (v : ℕ) → v < 4 → frame_kind v ≡ v
unfolding frame_kind
frame_kind_lem zero h = refl
frame_kind_lem (suc zero) h = refl
frame_kind_lem (suc (suc zero)) h = refl
frame_kind_lem (suc (suc (suc zero))) h = refl
frame_kind_lem (suc (suc (suc (suc v)))) h = absurd (omega arith)

-- an entry that passes test 4 has its neighbour a vertex other than the room, its kind at most 3, and a frame side's own kind
entry_facts : (n u : ℕ) (e : Entry) → entry_ok n u e ≡ true → EntryOk n u e
unfolding entry_ok
entry_facts n u e h =
    let (abc, d) = and_parts _ _ h in
    let (ab, c) = and_parts _ _ abc in
    let (a, b) = and_parts _ _ ab in
    let l : e.to ≤ n + 3 = leb-true e.to (n + 3) a in
    record {
      below = omega arith;
      other = eqb-false e.to u (not-true (eqb e.to u) b);
      small = leb-true e.kind 3 c;
      frame = λ l. go l (or_cases (leb 4 e.to) (eqb e.kind (frame_kind e.to)) d);
    }
  where
    go : e.to < 4 → (leb 4 e.to ≡ true) ⊎ (eqb e.kind (frame_kind e.to) ≡ true) → e.kind ≡ e.to
    go l (inl q) = absurd (omega (arith, leb-true 4 e.to q))
    go l (inr q) = eqb-true e.kind (frame_kind e.to) q ∙ frame_kind_lem e.to l

-- an entry of which these facts hold passes test 4
facts_entry : (n u : ℕ) (e : Entry) → EntryOk n u e → entry_ok n u e ≡ true
unfolding entry_ok
facts_entry n u e k =
    and_both _ _
    (and_both _ _ (and_both _ _ (le-leb e.to (n + 3) (omega (arith, k.below))) (rw (ne_eqb e.to u k.other))) (le-leb e.kind 3 k.small))
    (go (dec_lt e.to 4))
  where
    go : Dec (e.to < 4) → (leb 4 e.to || eqb e.kind (frame_kind e.to)) ≡ true
    go (yes l) = or_right (leb 4 e.to) _ (eq-eqb e.kind (frame_kind e.to) (k.frame l ∙ sym (frame_kind_lem e.to l)))
    go (no l) = or_left (leb 4 e.to) _ (le-leb 4 e.to (omega arith))

-- the test of one entry against the star it leads to
abbrev backed : Job → ℕ → Entry → Bool
backed j u e = not (leb 4 e.to) || lists (star_of j e.to) u (opposite e.kind)

-- a job that passes tests 4, 5 and 6 has the facts that they tell of its entries and stars
pub passes_of : (j : Job) → test4 j ≡ true → test5 j ≡ true → test6 j ≡ true → Passes j
unfolding test4 test5 test6
passes_of j t4 t5 t6 = record {
  entries = entries_of;
  good = λ u r.
      good_of (star_of j u) (all_mem star_ok j t5 (star_of j u) (rw (star_room j u r.0) (mem_get_or j (u - 4) [] (omega (arith, r.0, r.1)))))
      (mem_most 3 (star_of j u) (λ e m. (entries_of u r e m).small));
  opposed = λ u r e m l.
      lists_mem (star_of j e.to) u (opposite e.kind)
      (implied (leb 4 e.to) _ (all_mem (backed j u) (star_of j u) (all_mem (λ u. all (backed j u) (star_of j u)) (rooms j) t6 u (room_mem j u r)) e m)
      (le-leb 4 e.to l));
}
  where
    entries_of : (u : ℕ) → Room j u → (e : Entry) → Memᴰ e (star_of j u) → EntryOk (length j) u e
    entries_of u r e m =
        entry_facts (length j) u e
        (all_mem (entry_ok (length j) u) (star_of j u) (all_mem (λ u. all (entry_ok (length j) u) (star_of j u)) (rooms j) t4 u (room_mem j u r)) e m)

-- the tests, as they are told of a labelling
pub labelling_passes : (j : Job) → Labelling j → Passes j
labelling_passes j l = passes_of j l.pass4 l.pass5 l.pass6

-- a job of which these facts hold passes tests 4, 5 and 6
pub of_passes : (j : Job) → Passes j → (test4 j ≡ true) × (test5 j ≡ true) × (test6 j ≡ true)
unfolding test4 test5 test6
of_passes j k = (
  mem_all (λ u. all (entry_ok (length j) u) (star_of j u)) (rooms j)
      (λ u m. mem_all (entry_ok (length j) u) (star_of j u) (λ e i. facts_entry (length j) u e (k.entries u (mem_room j u m) e i))),
  mem_all star_ok j (λ s m. star_ok_lem s (get_or_mem j s [] m)),
  mem_all (λ u. all (backed j u) (star_of j u)) (rooms j)
      (λ u m.
      mem_all (backed j u) (star_of j u)
      (λ e i. implies (leb 4 e.to) _ (λ l. mem_lists (star_of j e.to) u (opposite e.kind)
      (k.opposed u (mem_room j u m) e i (leb-true 4 e.to l))))),
)
  where
    star_ok_lem : (s : Star) → (i : ℕ) × (i < length j) × (get_or j i [] ≡ s) → star_ok s ≡ true
    star_ok_lem s (i, l, e) = of_good s (rw (star_at j i, e) at (k.good (4 + i) (omega arith, omega arith)))

-- a labelling, by its facts
pub passes_labelling : (j : Job) → Passes j → Labelling j
passes_labelling j k = let (a, b, c) = of_passes j k in record { pass4 = a; pass5 = b; pass6 = c }

-- TESTS 3 TO 6 PASSED, one after the other
pub passing_true : {A : Type 0} (b : Bool) (k : ℕ) (r : Reading A) → b ≡ true → passing b k r ≡ r
unfolding passing
passing_true {A} b k r e = rw e

-- where a job comes out behind a test, the test was passed, and what follows the test gave that job
pub passing_reads : {A : Type 0} (b : Bool) (k : ℕ) (r : Reading A) (j : A) → passing b k r ≡ reads j → (b ≡ true) × (r ≡ reads j)
unfolding passing
passing_reads {A} true k r j e = (refl, e)
passing_reads {A} false k r j e = let z : ◌≡◌ {A = ℕ} 0 1 = cc in absurd (omega arith)

-- a job that comes out of tests 3 to 6 was read, and passed each of them
pub six_passed : (r : Reading SizedJob) (o : SizedJob) → first_six r ≡ reads o → SixPassed r o
unfolding first_six
six_passed (fails k) o e = let z : ◌≡◌ {A = ℕ} 0 1 = cc in absurd (omega arith)
six_passed (reads i) o e =
    let (t3, e4) = passing_reads (test3 i.stars) 3 _ o e in
    let (t4, e5) = passing_reads (test4 i.stars) 4 _ o e4 in
    let (t5, e6) = passing_reads (test5 i.stars) 5 _ o e5 in
    let (t6, q) = passing_reads (test6 i.stars) 6 _ o e6 in
    go i q t3 t4 t5 t6
  where
    go : (i : SizedJob) → reads i ≡ reads o → test3 i.stars ≡ true → test4 i.stars ≡ true → test5 i.stars ≡ true → test6 i.stars ≡ true
        → SixPassed (reads i) o
    go i q t3 t4 t5 t6 = let x : i ≡ o = cc in rw x (record {
      reading = refl;
      pass3 = rw x at t3;
      pass4 = rw x at t4;
      pass5 = rw x at t5;
      pass6 = rw x at t6;
    })

-- a job that was read, and that passes each of tests 3 to 6, comes out of them
pub passed_six : (r : Reading SizedJob) (o : SizedJob) → SixPassed r o → first_six r ≡ reads o
unfolding first_six passing
passed_six r o s = rw (s.reading, s.pass3, s.pass4, s.pass5, s.pass6)

-- TEST 17 PASSED
pub sizes_passed : (r : Reading SizedJob) (o : SizedJob) → sizes_pass r ≡ reads o → (r ≡ reads o) × (test17 o.sizes ≡ true)
unfolding sizes_pass
sizes_passed (fails k) o e = let z : ◌≡◌ {A = ℕ} 0 1 = cc in absurd (omega arith)
sizes_passed (reads i) o e = let (t, q) = passing_reads (test17 i.sizes) 17 _ o e in (q, go i q t)
  where
    go : (i : SizedJob) → reads i ≡ reads o → test17 i.sizes ≡ true → test17 o.sizes ≡ true
    go i q t = let x : i ≡ o = cc in rw x at t

-- a job that was read, and that passes test 17, comes out of it
pub passed_sizes : (r : Reading SizedJob) (o : SizedJob) → r ≡ reads o → test17 o.sizes ≡ true → sizes_pass r ≡ reads o
unfolding sizes_pass passing
passed_sizes r o e t = rw (e, t)

-- a least size of 1 to 15, either way
pub record Fair (s : Size) : Type 0 where
  pub some_width : 1 ≤ s.wide
  pub most_width : s.wide ≤ 15
  pub some_height : 1 ≤ s.tall
  pub most_height : s.tall ≤ 15

-- a size that passes the test of one size
fair_of : (s : Size) → size_ok s ≡ true → Fair s
unfolding size_ok
fair_of s h =
    let (abc, d) = and_parts _ (leb s.tall 15) h in
    let (ab, c) = and_parts _ (leb 1 s.tall) abc in
    let (a, b) = and_parts (leb 1 s.wide) (leb s.wide 15) ab in
    record {
      some_width = leb-true 1 s.wide a;
      most_width = leb-true s.wide 15 b;
      some_height = leb-true 1 s.tall c;
      most_height = leb-true s.tall 15 d;
    }

-- WHAT TEST 17 SAYS of every size told,
pub sizes_fair : (z : Sizes) → test17 z ≡ true → (s : Size) → Memᴰ s z → Fair s
unfolding test17
sizes_fair [] h s m = elim m [ ]
sizes_fair (r ∷ z) h s m = fair_of s (all_mem size_ok (r ∷ z) (and_left (all size_ok (r ∷ z)) _ h) s m)

-- and of every room's
pub room_fair : (z : Sizes) → test17 z ≡ true → (v : ℕ) → Fair (size_of z v)
unfolding size_of
room_fair z h v = go (dec_lt (v - 4) (length z))
  where
    go : Dec (v - 4 < length z) → Fair (get_or z (v - 4) one_cell)
    go (yes l) = sizes_fair z h (get_or z (v - 4) one_cell) (mem_get_or z (v - 4) one_cell l)
    go (no l) = rw (get_or-eq_default z one_cell {n = v - 4} (omega arith)) (record {
      some_width = omega arith;
      most_width = omega arith;
      some_height = omega arith;
      most_height = omega arith;
    })
