-- Two stars turned at one contact: the job so changed passes tests 4 to 6 again, joins the same pairs, and turned again is the job. Assumes nothing.
use Rattle.std.specs.Prelude.{ℕ, ◌-◌, ◌≤◌, ◌<◌, ◌≡◌, refl, ◌⊎◌, ◌≢◌, Bool, true, false, not, ◌||◌, cond, set, leb}
use Rattle.std.proofs.Math.Path.{sym, ap}
use Rattle.std.proofs.Common.{◌∙◌, inl, inr, length-set, get_or-set_same, set-set, arith, le-leb, eqb-true}
use mathlib.Core.List.{[], Memᴰ, List, ◌∷◌, map}
use Rattle.std.proofs.Math.ListN.{length, get_or, get_or-map}
use Rattle.std.proofs.Math.Seq.{get_or-set_other, map-set_same}
use Rattle.std.proofs.lemmas.List.{set-get_or, set_comm}
use Rattle.std.proofs.Math.Dec.{eqb}
use Rattle.std.proofs.Math.Decide.{dec_lt, ℕ_discrete}
use Rattle.floor.specs.Lists.{sum}
use Rattle.floor.proofs.Lists.Laws.{and_both, any_count}
use Rattle.floor.specs.Jobs.{Entry, Star, Job, Room, opposite, is_room, star_of, names, kind_of, list_of, pairs_in, Reading, reads, Sizes, sized_job, with_sizes}
use Rattle.floor.specs.Jobs.Stars.{entry, named, GoodStar}
use Rattle.floor.proofs.Jobs.Stars.{mem_names}
use Rattle.floor.specs.Jobs.Facts.{EntryOk, Passes}
use Rattle.floor.proofs.Jobs.Facts.{passes_labelling, room_is, star_room, star_frame, passing_true}
use Rattle.floor.specs.Plans.{drawn, draw_read, joined}
use Rattle.floor.specs.Turns.{turned_kind, turned, turning_at, turning_from, in_contact, turning, turn, Kept, with_kind, is_last}
use Rattle.floor.proofs.Turns.Swing.{Swing, length_list_of, turned_small}
use Rattle.floor.proofs.Turns.Ends.{each_kind, opposite_opposite, opposite_small}

-- TURNED KINDS
turned_opposite : (l : Bool) (k : ℕ) → k ≤ 3 → opposite (turned_kind k l) ≡ turned_kind (opposite k) l
unfolding turned_kind opposite
turned_opposite true = each_kind (λ k. opposite (turned_kind k true) ≡ turned_kind (opposite k) true) refl refl refl refl
turned_opposite false = each_kind (λ k. opposite (turned_kind k false) ≡ turned_kind (opposite k) false) refl refl refl refl

-- a kind turned at one end and then at the other is the kind
turned_back : (l : Bool) (k : ℕ) → k ≤ 3 → turned_kind (turned_kind k l) (not l) ≡ k
unfolding turned_kind
turned_back true = each_kind (λ k. turned_kind (turned_kind k true) false ≡ k) refl refl refl refl
turned_back false = each_kind (λ k. turned_kind (turned_kind k false) true ≡ k) refl refl refl refl

-- TWO STARS CHANGED: i is j but that in the star of u the entry of v has kind t, and in the star of v the entry of u has kind o
record Two (j i : Job) (u v t o : ℕ) : Type 0 where
  room_u : Room j u
  room_v : Room j v
  differ : u ≡ v → ⊥
  long : length i ≡ length j
  t_small : t ≤ 3
  o_small : o ≤ 3
  t_o : opposite t ≡ o
  o_t : opposite o ≡ t
  into_u : (e : Entry) → Memᴰ e (star_of i u) → (e ≡ entry v t) ⊎ ((e.to ≡ v → ⊥) × Memᴰ e (star_of j u))
  into_v : (e : Entry) → Memᴰ e (star_of i v) → (e ≡ entry u o) ⊎ ((e.to ≡ u → ⊥) × Memᴰ e (star_of j v))
  from_u : (e : Entry) → Memᴰ e (star_of j u) → (e.to ≡ v → ⊥) → Memᴰ e (star_of i u)
  from_v : (e : Entry) → Memᴰ e (star_of j v) → (e.to ≡ u → ⊥) → Memᴰ e (star_of i v)
  here_u : Memᴰ (entry v t) (star_of i u)
  here_v : Memᴰ (entry u o) (star_of i v)
  good_u : GoodStar (star_of i u)
  good_v : GoodStar (star_of i v)
  same : (w : ℕ) → (w ≡ u → ⊥) → (w ≡ v → ⊥) → star_of i w ≡ star_of j w

-- two stars so changed, the rooms named the other way round
swap : {j i : Job} {u v t o : ℕ} → Two j i u v t o → Two j i v u o t
swap c = record {
  room_u = c.room_v;
  room_v = c.room_u;
  differ = λ e. c.differ (sym e);
  long = c.long;
  t_small = c.o_small;
  o_small = c.t_small;
  t_o = c.o_t;
  o_t = c.t_o;
  into_u = c.into_v;
  into_v = c.into_u;
  from_u = c.from_v;
  from_v = c.from_u;
  here_u = c.here_v;
  here_v = c.here_u;
  good_u = c.good_v;
  good_v = c.good_u;
  same = λ w a b. c.same w b a;
}

module _ (j i : Job) (ok : Passes j) where
  -- an entry that may stand in a job may stand in any job of as many rooms
  still : (u : ℕ) (e : Entry) → length i ≡ length j → EntryOk (length j) u e → EntryOk (length i) u e
  still u e q x = record { below = omega (arith, x.below); other = x.other; small = x.small; frame = x.frame }

  -- each entry of the changed star of u may stand there
  entries_at : (u v t o : ℕ) → Two j i u v t o → (e : Entry) → Memᴰ e (star_of i u) → EntryOk (length i) u e
  entries_at u v t o c e m = go (c.into_u e m)
    where
      go : (e ≡ entry v t) ⊎ ((e.to ≡ v → ⊥) × Memᴰ e (star_of j u)) → EntryOk (length i) u e
      go (inl q) =
          let a : e.to ≡ v = ap (λ (d : Entry). d.to) q in
          let b : e.kind ≡ t = ap (λ (d : Entry). d.kind) q in
          record {
            below = omega (arith, c.room_v.1, c.long);
            other = λ z. c.differ (sym z ∙ a);
            small = omega (arith, c.t_small);
            frame =
                λ l. absurd (omega (arith, c.room_v.0));
          }
      go (inr (ne, m)) = still u e c.long (ok.entries u c.room_u e m)

  -- each room that the changed star of u lists lists u with the opposite kind
  opposed_at : (u v t o : ℕ) → Two j i u v t o → (e : Entry) → Memᴰ e (star_of i u) → 4 ≤ e.to
      → Memᴰ (entry u (opposite e.kind)) (star_of i e.to)
  opposed_at u v t o c e m l = go (c.into_u e m)
    where
      go : (e ≡ entry v t) ⊎ ((e.to ≡ v → ⊥) × Memᴰ e (star_of j u)) → Memᴰ (entry u (opposite e.kind)) (star_of i e.to)
      go (inl q) =
          let a : e.to ≡ v = ap (λ (d : Entry). d.to) q in
          let b : e.kind ≡ t = ap (λ (d : Entry). d.kind) q in
          rw (a, b, c.t_o) c.here_v
      go (inr (ne, m)) = rw (c.same e.to (ok.entries u c.room_u e m).other ne) (ok.opposed u c.room_u e m l)

  -- each room that the star of a third room lists still lists that room with the opposite kind
  opposed_else : (u v t o : ℕ) → Two j i u v t o → (w : ℕ) → Room j w → (w ≡ u → ⊥) → (w ≡ v → ⊥) → (e : Entry) → Memᴰ e (star_of j w) → 4 ≤ e.to
      → Memᴰ (entry w (opposite e.kind)) (star_of i e.to)
  opposed_else u v t o c w r nu nv e m l = go (ℕ_discrete e.to u) (ℕ_discrete e.to v)
    where
      old : Memᴰ (entry w (opposite e.kind)) (star_of j e.to)
      old = ok.opposed w r e m l

      go : Dec (e.to ≡ u) → Dec (e.to ≡ v) → Memᴰ (entry w (opposite e.kind)) (star_of i e.to)
      go (yes a) b = rw a (c.from_u (entry w (opposite e.kind)) (rw a at old) nv)
      go (no a) (yes b) = rw b (c.from_v (entry w (opposite e.kind)) (rw b at old) nu)
      go (no a) (no b) = rw (c.same e.to a b) old

  -- A JOB WITH TWO STARS SO CHANGED PASSES tests 4, 5 and 6
  two_passes : (u v t o : ℕ) → Two j i u v t o → Passes i
  two_passes u v t o c = record {
    entries = λ w r e m. entries_of w r (ℕ_discrete w u) (ℕ_discrete w v) e m;
    good = λ w r. good_of w r (ℕ_discrete w u) (ℕ_discrete w v);
    opposed = λ w r e m l. opposed_of w r (ℕ_discrete w u) (ℕ_discrete w v) e m l;
  }
    where
      old : (w : ℕ) → Room i w → Room j w
      old w r = (r.0, omega (arith, r.1, c.long))

      entries_of : (w : ℕ) → Room i w → Dec (w ≡ u) → Dec (w ≡ v) → (e : Entry) → Memᴰ e (star_of i w) → EntryOk (length i) w e
      entries_of w r (yes a) b e m = rw a (entries_at u v t o c e (rw a at m))
      entries_of w r (no a) (yes b) e m = rw b (entries_at v u o t (swap c) e (rw b at m))
      entries_of w r (no a) (no b) e m = still w e c.long (ok.entries w (old w r) e (rw (c.same w a b) at m))

      good_of : (w : ℕ) → Room i w → Dec (w ≡ u) → Dec (w ≡ v) → GoodStar (star_of i w)
      good_of w r (yes a) b = rw a c.good_u
      good_of w r (no a) (yes b) = rw b c.good_v
      good_of w r (no a) (no b) = rw (c.same w a b) (ok.good w (old w r))

      opposed_of : (w : ℕ) → Room i w → Dec (w ≡ u) → Dec (w ≡ v) → (e : Entry) → Memᴰ e (star_of i w) → 4 ≤ e.to
          → Memᴰ (entry w (opposite e.kind)) (star_of i e.to)
      opposed_of w r (yes a) b e m l = rw a (opposed_at u v t o c e (rw a at m) l)
      opposed_of w r (no a) (yes b) e m l = rw b (opposed_at v u o t (swap c) e (rw b at m) l)
      opposed_of w r (no a) (no b) e m l = opposed_else u v t o c w (old w r) a b e (rw (c.same w a b) at m) l

-- two stars of a job put anew
module _ (j : Job) (a b : ℕ) (ra : Room j a) (rb : Room j b) (differ : a ≡ b → ⊥) (A B : Star) where
  -- the job with star A for room a and star B for room b
  abbrev put : Job
  put = set (set j (a - 4) A) (b - 4) B

  -- the two rooms have different places in the job
  apart_ab : (b - 4) ≢ (a - 4)
  apart_ab e = differ (omega (arith, ra.0, rb.0))

  -- it has as many rooms as before
  put_length : length put ≡ length j
  put_length = length-set (set j (a - 4) A) (b - 4) B ∙ length-set j (a - 4) A

  -- its star of a is A
  put_a : star_of put a ≡ A
  put_a =
      star_room put a ra.0
      ∙ get_or-set_other (set j (a - 4) A) (b - 4) (a - 4) B [] (λ e. apart_ab (sym e))
      ∙ get_or-set_same j (a - 4) A [] (omega (arith, ra.0, ra.1))

  -- its star of b is B
  put_b : star_of put b ≡ B
  put_b = star_room put b rb.0 ∙ get_or-set_same (set j (a - 4) A) (b - 4) B [] (omega (arith, rb.0, rb.1, length-set j (a - 4) A))

  -- every other vertex has its star as before
  put_else : (w : ℕ) → (w ≡ a → ⊥) → (w ≡ b → ⊥) → star_of put w ≡ star_of j w
  put_else w na nb = go (dec_lt w 4)
    where
      go : Dec (w < 4) → star_of put w ≡ star_of j w
      go (yes l) = star_frame put w l ∙ sym (star_frame j w l)
      go (no l) =
          star_room put w (omega arith)
          ∙ get_or-set_other (set j (a - 4) A) (b - 4) (w - 4) B [] (λ e. nb (omega (arith, rb.0)))
          ∙ get_or-set_other j (a - 4) (w - 4) A [] (λ e. na (omega (arith, ra.0)))
          ∙ sym (star_room j w (omega arith))

  -- it has as many pairs as before, where the new stars are as long as the old
  put_pairs : length A ≡ length (star_of j a) → length B ≡ length (star_of j b) → pairs_in put ≡ pairs_in j
  unfolding pairs_in
  put_pairs la lb =
      let e : get_or (set j (a - 4) A) (b - 4) [] ≡ star_of j b = get_or-set_other j (a - 4) (b - 4) A [] apart_ab ∙ sym (star_room j b rb.0) in
      ap sum
      (map-set_same (λ (s : Star). length s) (set j (a - 4) A) (b - 4) B [] (lb ∙ ap (λ (s : Star). length s) (sym e))
      ∙ map-set_same (λ (s : Star). length s) j (a - 4) A [] (la ∙ ap (λ (s : Star). length s) (star_room j a ra.0)))

  -- putting the old stars back, in either order
  put_back : set (set put (a - 4) (star_of j a)) (b - 4) (star_of j b) ≡ j
  put_back =
      rw (
        star_room j a ra.0,
        star_room j b rb.0,
        set_comm (set j (a - 4) A) (b - 4) (a - 4) B (get_or j (a - 4) []) apart_ab,
        set-set j (a - 4) A
            (get_or j (a - 4) []),
        set-get_or j (a - 4) [],
        set-set j (b - 4) B (get_or j (b - 4) []),
        set-get_or j (b - 4) [],
      )

  -- putting the old stars back, that of b first, gives the job
  put_back' : set (set put (b - 4) (star_of j b)) (a - 4) (star_of j a) ≡ j
  put_back' = set_comm put (b - 4) (a - 4) (star_of j b) (star_of j a) apart_ab ∙ put_back

-- NO ENTRY MOVES: each star names whom it named, in the same places
same_place : (v k : ℕ) (s : Star) → map (λ (e : Entry). e.to) (with_kind s v k) ≡ map (λ (e : Entry). e.to) s
unfolding with_kind
same_place v k [] = refl
same_place v k (d ∷ s) = go (eqb d.to v) refl (same_place v k s)
  where
    go : (b : Bool) → eqb d.to v ≡ b
        → map (λ (e : Entry). e.to) (map (λ e. cond (eqb e.to v) (record { to = v; kind = k }) e) s) ≡ map (λ (e : Entry). e.to) s
        → (cond b (record { to = v; kind = k }) d).to ∷ map (λ (e : Entry). e.to) (map (λ e. cond (eqb e.to v) (record { to = v; kind = k }) e) s)
        ≡ d.to ∷ map (λ (e : Entry). e.to) s
    go true e below = rw (eqb-true d.to v e, below)
    go false e below = ap (λ (l : List ℕ). d.to ∷ l) below

-- a turn of any job moves no entry: each star names whom it named, in the same places
pub turned_places : (j : Job) (u v k : ℕ) → 4 ≤ u → 4 ≤ v
    → map (λ (s : Star). map (λ (e : Entry). e.to) s) (turned j u v k) ≡ map (λ (s : Star). map (λ (e : Entry). e.to) s) j
unfolding turned
turned_places j u v k hu hv = second ∙ first
  where
    to : Star → List ℕ
    to s = map (λ (e : Entry). e.to) s

    t : ℕ
    t = turned_kind k (is_last (star_of j u) v)

    first : map to (set j (u - 4) (with_kind (star_of j u) v t)) ≡ map to j
    first = map-set_same to j (u - 4) (with_kind (star_of j u) v t) [] (same_place v t (star_of j u) ∙ ap to (star_room j u hu))

    kept : to (get_or (set j (u - 4) (with_kind (star_of j u) v t)) (v - 4) []) ≡ to (get_or j (v - 4) [])
    kept =
        sym (get_or-map to (set j (u - 4) (with_kind (star_of j u) v t)) (v - 4) [])
        ∙ ap (λ (l : List (List ℕ)). get_or l (v - 4) []) first
        ∙ get_or-map to j (v - 4) []

    second : map to (set (set j (u - 4) (with_kind (star_of j u) v t)) (v - 4) (with_kind (star_of j v) u (opposite t)))
        ≡ map to (set j (u - 4) (with_kind (star_of j u) v t))
    second =
        map-set_same to (set j (u - 4) (with_kind (star_of j u) v t)) (v - 4) (with_kind (star_of j v) u (opposite t)) []
        (same_place u (opposite t) (star_of j v) ∙ ap to (star_room j v hv) ∙ sym kept)

-- A CONTACT TURNED: b stands on side m of a, and both entries swing at the same end of their lists
pub record Turn (j : Job) (a b m : ℕ) : Type 0 where
  pub last : Bool
  pub room_a : Room j a
  pub room_b : Room j b
  pub differ : a ≡ b → ⊥
  pub small : m ≤ 3
  pub swing_a : Swing (star_of j a) b m (turned_kind m last) (not last)
  pub swing_b : Swing (star_of j b) a (opposite m) (turned_kind (opposite m) last) (not last)
  pub is_the_last : is_last (star_of j a) b ≡ last

-- the turned job, where it is known whether b is last
turned_is : (j : Job) (a b m t : ℕ) (l : Bool) → is_last (star_of j a) b ≡ l → turned_kind m l ≡ t
    → turned j a b m ≡ set (set j (a - 4) (with_kind (star_of j a) b t)) (b - 4) (with_kind (star_of j b) a (opposite t))
unfolding turned
turned_is j a b m t l e q = rw (e, q)

module _ (j : Job) (a b m : ℕ) (T : Turn j a b m) where
  -- the kind that b takes in the star of a
  abbrev t : ℕ
  t = turned_kind m T.last

  -- the kind that a takes in the star of b
  abbrev o : ℕ
  o = turned_kind (opposite m) T.last

  -- the opposite of b's new kind is a's
  t_o : opposite t ≡ o
  t_o = turned_opposite T.last m T.small

  -- the opposite of a's new kind is b's
  o_t : opposite o ≡ t
  o_t = turned_opposite T.last (opposite m) (opposite_small m T.small) ∙ ap (λ k. turned_kind k T.last) (opposite_opposite m T.small)

  -- the job after the turn
  abbrev next : Job
  next = set (set j (a - 4) T.swing_a.star) (b - 4) T.swing_b.star

  -- the turned job of the rules is this job
  next_is : turned j a b m ≡ next
  next_is = turned_is j a b m t T.last T.is_the_last refl ∙ rw (t_o, T.swing_a.turns, T.swing_b.turns)

  -- after the turn the star of a is its turned star
  star_a : star_of next a ≡ T.swing_a.star
  star_a = put_a j a b T.room_a T.room_b T.differ T.swing_a.star T.swing_b.star

  -- after the turn the star of b is its turned star
  star_b : star_of next b ≡ T.swing_b.star
  star_b = put_b j a b T.room_a T.room_b T.differ T.swing_a.star T.swing_b.star

  -- there are as many rooms after the turn
  long : length next ≡ length j
  long = put_length j a b T.room_a T.room_b T.differ T.swing_a.star T.swing_b.star

  -- every other star is as before the turn
  else : (w : ℕ) → (w ≡ a → ⊥) → (w ≡ b → ⊥) → star_of next w ≡ star_of j w
  else = put_else j a b T.room_a T.room_b T.differ T.swing_a.star T.swing_b.star

  -- the turn changes two stars, and in each the kind of one entry
  turn_two : Two j next a b t o
  turn_two = record {
    room_u = T.room_a;
    room_v = T.room_b;
    differ = T.differ;
    long = long;
    t_small = turned_small m T.last;
    o_small = turned_small (opposite m) T.last;
    t_o = t_o;
    o_t = o_t;
    into_u = λ e i. T.swing_a.into e (rw star_a at i);
    into_v = λ e i. T.swing_b.into e (rw star_b at i);
    from_u = λ e i ne. rw star_a (T.swing_a.from e i ne);
    from_v = λ e i ne. rw star_b (T.swing_b.from e i ne);
    here_u = rw star_a T.swing_a.here;
    here_v = rw star_b T.swing_b.here;
    good_u = rw star_a T.swing_a.good;
    good_v = rw star_b T.swing_b.good;
    same = else;
  }

  -- there are as many pairs after the turn
  turn_pairs : pairs_in next ≡ pairs_in j
  turn_pairs = put_pairs j a b T.room_a T.room_b T.differ T.swing_a.star T.swing_b.star T.swing_a.long T.swing_b.long

  -- each star names the same vertices as before
  turn_named : (w x : ℕ) → named x (star_of next w) ≡ named x (star_of j w)
  turn_named w x = go (ℕ_discrete w a) (ℕ_discrete w b)
    where
      go : Dec (w ≡ a) → Dec (w ≡ b) → named x (star_of next w) ≡ named x (star_of j w)
      go (yes e) f = rw (e, star_a) (T.swing_a.counts x)
      go (no e) (yes f) = rw (f, star_b) (T.swing_b.counts x)
      go (no e) (no f) = rw (else w e f)

  -- the test whether a star names a vertex says the same after the turn
  turn_names : (w x : ℕ) → names (star_of next w) x ≡ names (star_of j w) x
  unfolding names
  turn_names w x =
      any_count (λ (e : Entry). eqb e.to x) (star_of next w) ∙ ap (leb 1) (turn_named w x) ∙ sym (any_count (λ (e : Entry). eqb e.to x) (star_of j w))

  -- the same vertices are joined after the turn
  turn_joined : (u v : ℕ) → joined next u v ≡ joined j u v
  unfolding joined
  turn_joined u v = rw (turn_names u v, turn_names v u)

  -- TURNED AGAIN, from either room
  again_a : turned next a b t ≡ j
  again_a =
      turned_is next a b t m (not T.last) (rw star_a T.swing_a.ends) (turned_back T.last m T.small)
      ∙ rw (star_a, star_b, T.swing_a.back, T.swing_b.back) (put_back j a b T.room_a T.room_b T.differ T.swing_a.star T.swing_b.star)

  -- the turned job turned again from b is the job
  again_b : turned next b a o ≡ j
  again_b =
      turned_is next b a o (opposite m) (not T.last) (rw star_b T.swing_b.ends) (turned_back T.last (opposite m) (opposite_small m T.small))
      ∙ rw (star_a, star_b, opposite_opposite m T.small, T.swing_a.back, T.swing_b.back) (put_back' j a b T.room_a T.room_b T.differ
      T.swing_a.star T.swing_b.star)

  -- after the turn a has at least two on the list where b stands
  two_a : 2 ≤ length (list_of (star_of next a) t)
  two_a = rw (length_list_of (star_of next a) t, star_a) T.swing_a.two

  -- after the turn b has at least two on the list where a stands
  two_b : 2 ≤ length (list_of (star_of next b) o)
  two_b = rw (length_list_of (star_of next b) o, star_b) T.swing_b.two

  -- turned again from a, the lists are long enough, and it comes to the job
  at_a : turning_at next a b t ≡ reads j
  unfolding turning_at
  at_a = passing_true _ 12 _ (rw t_o (and_both _ _ (le-leb 2 _ two_a) (le-leb 2 _ two_b))) ∙ ap reads again_a

  -- turned again from b, the lists are long enough, and it comes to the job
  at_b : turning_at next b a o ≡ reads j
  unfolding turning_at
  at_b = passing_true _ 12 _ (rw o_t (and_both _ _ (le-leb 2 _ two_b) (le-leb 2 _ two_a))) ∙ ap reads again_b

  -- a room of the job is a room after the turn
  room_next : (w : ℕ) → Room j w → is_room next w ≡ true
  room_next w r = room_is next w (r.0, omega (arith, r.1, long))

-- a turn asked for from either side, where both ways of asking give one answer
asked_either : (i : Job) (u v k : ℕ) (r : Reading Job) → in_contact i u v ≡ true → kind_of (star_of i u) v ≡ k → turning_at i u v k ≡ r
    → turning_at i v u (opposite k) ≡ r → turning i u v ≡ r
unfolding turning turning_from
asked_either i u v k r c e x y = passing_true (in_contact i u v) 11 _ c ∙ rw e (go (eqb k 0 || eqb k 3))
  where
    go : (b : Bool) → turning_from b i u v k ≡ r
    go true = x
    go false = y

-- THE TURNED JOB TURNED AGAIN is the job, drawn, in either order of the numbers
turning_again : (j : Job) (a b m : ℕ) (T : Turn j a b m) → (turning (turned j a b m) a b ≡ reads j) × (turning (turned j a b m) b a ≡ reads j)
unfolding in_contact
turning_again j a b m T = rw (next_is j a b m T) (
  asked_either (next j a b m T) a b (t j a b m T) (reads j)
      (and_both _ _ (and_both _ _ (room_next j a b m T a T.room_a) (room_next j a b m T b T.room_b))
      (mem_names (star_of (next j a b m T) a) b (t j a b m T) (rw (star_a j a b m T) T.swing_a.here)))
      (rw (star_a j a b m T) T.swing_a.kind) (at_a j a b m T) (rw (t_o j a b m T) (at_b j a b m T)),
  asked_either (next j a b m T) b a (o j a b m T) (reads j)
      (and_both _ _ (and_both _ _ (room_next j a b m T b T.room_b) (room_next j a b m T a T.room_a))
      (mem_names (star_of (next j a b m T) b) a (o j a b m T) (rw (star_b j a b m T) T.swing_b.here)))
      (rw (star_b j a b m T) T.swing_b.kind) (at_b j a b m T) (rw (o_t j a b m T) (at_a j a b m T)),
)

-- the turn made again, in either order of the numbers, answers as the old job numbered and tested does
pub turn_again : (j : Job) (z : Sizes) (a b m : ℕ) (T : Turn j a b m)
    → (turn (sized_job (turned j a b m) z) a b ≡ drawn (sized_job j z)) × (turn (sized_job (turned j a b m) z) b a ≡ drawn (sized_job j z))
unfolding turn draw_read with_sizes
turn_again j z a b m T =
    let (x, y) = turning_again j a b m T in
    (ap (λ (r : Reading Job). draw_read (with_sizes z r)) x, ap (λ (r : Reading Job). draw_read (with_sizes z r)) y)

-- AN ENTRY OF A TURNED STAR, that of w: b's at a, a's at b, or one that was there and is neither
pub data Entered (j : Job) (a b t o w : ℕ) (e : Entry) : Type 0 where
  new_a : w ≡ a → e.to ≡ b → e.kind ≡ t → Entered j a b t o w e
  new_b : w ≡ b → e.to ≡ a → e.kind ≡ o → Entered j a b t o w e
  old : Memᴰ e (star_of j w) → (w ≡ a → e.to ≡ b → ⊥) → (w ≡ b → e.to ≡ a → ⊥) → Entered j a b t o w e

-- the same, the two rooms exchanged
pub entered_swap : {j : Job} {a b t o w : ℕ} {e : Entry} → Entered j a b t o w e → Entered j b a o t w e
entered_swap (new_a x y z) = new_b x y z
entered_swap (new_b x y z) = new_a x y z
entered_swap (old m x y) = old m y x

-- every entry of a turned star is b's at a, a's at b, or one that was there and is neither
pub turn_entered : (j : Job) (a b m : ℕ) (T : Turn j a b m) (w : ℕ) (e : Entry) → Memᴰ e (star_of (turned j a b m) w)
    → Entered j a b (turned_kind m T.last) (turned_kind (opposite m) T.last) w e
turn_entered j a b m T w e i = go (ℕ_discrete w a) (ℕ_discrete w b)
  where
    c : Two j (next j a b m T) a b (t j a b m T) (o j a b m T)
    c = turn_two j a b m T

    n : Memᴰ e (star_of (next j a b m T) w)
    n = rw (next_is j a b m T) at i

    from_a : w ≡ a → (e ≡ entry b (t j a b m T)) ⊎ ((e.to ≡ b → ⊥) × Memᴰ e (star_of j a))
        → Entered j a b (t j a b m T) (o j a b m T) w e
    from_a x (inl q) = new_a x (ap (λ (d : Entry). d.to) q) (ap (λ (d : Entry). d.kind) q)
    from_a x (inr (ne, k)) = old (rw x k) (λ y z. ne z) (λ y z. T.differ (sym x ∙ y))

    from_b : w ≡ b → (e ≡ entry a (o j a b m T)) ⊎ ((e.to ≡ a → ⊥) × Memᴰ e (star_of j b))
        → Entered j a b (t j a b m T) (o j a b m T) w e
    from_b x (inl q) = new_b x (ap (λ (d : Entry). d.to) q) (ap (λ (d : Entry). d.kind) q)
    from_b x (inr (ne, k)) = old (rw x k) (λ y z. T.differ (sym y ∙ x)) (λ y z. ne z)

    go : Dec (w ≡ a) → Dec (w ≡ b) → Entered j a b (t j a b m T) (o j a b m T) w e
    go (yes x) y = from_a x (c.into_u e (rw x at n))
    go (no x) (yes y) = from_b y (c.into_v e (rw y at n))
    go (no x) (no y) = old (rw (c.same w x y) at n) (λ z q. x z) (λ z q. y z)

-- what was there and is neither, is there still; the stars of a and b are those that swung, and every other is what it was
module _ (j : Job) (a b m : ℕ) (T : Turn j a b m) where
  -- an entry that is neither b's at a nor a's at b is still there after the turn
  pub turn_kept : (w : ℕ) (e : Entry) → Memᴰ e (star_of j w) → (w ≡ a → e.to ≡ b → ⊥) → (w ≡ b → e.to ≡ a → ⊥)
      → Memᴰ e (star_of (turned j a b m) w)
  turn_kept w e i na nb = rw (next_is j a b m T) (go (ℕ_discrete w a) (ℕ_discrete w b))
    where
      c : Two j (next j a b m T) a b (t j a b m T) (o j a b m T)
      c = turn_two j a b m T

      go : Dec (w ≡ a) → Dec (w ≡ b) → Memᴰ e (star_of (next j a b m T) w)
      go (yes x) y = rw x (c.from_u e (rw x at i) (na x))
      go (no x) (yes y) = rw y (c.from_v e (rw y at i) (nb y))
      go (no x) (no y) = rw (c.same w x y) i

  -- in the turned job the star of a is the one that swung
  pub turn_star_a : star_of (turned j a b m) a ≡ T.swing_a.star
  turn_star_a = rw (next_is j a b m T) (star_a j a b m T)

  -- in the turned job the star of b is the one that swung
  pub turn_star_b : star_of (turned j a b m) b ≡ T.swing_b.star
  turn_star_b = rw (next_is j a b m T) (star_b j a b m T)

  -- in the turned job the star of every other vertex is what it was
  pub turn_else : (w : ℕ) → (w ≡ a → ⊥) → (w ≡ b → ⊥) → star_of (turned j a b m) w ≡ star_of j w
  turn_else w x y = rw (next_is j a b m T) (else j a b m T w x y)

-- what a turn keeps
pub turn_keeps : (j : Job) (a b m : ℕ) → Turn j a b m → Passes j → Kept j (turned j a b m)
turn_keeps j a b m T ok = rw (next_is j a b m T) (record {
  labelling = passes_labelling (next j a b m T) (two_passes j (next j a b m T) ok a b (t j a b m T) (o j a b m T) (turn_two j a b m T));
  rooms = long j a b m T;
  pairs = turn_pairs j a b m T;
  joins = turn_joined j a b m T;
})
