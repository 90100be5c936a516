-- A held plan, seen upright and level: its contacts are its rules. Assumes nothing.
use Rattle.std.specs.Prelude.{ℕ, zero, suc, ◌+◌, ◌≤◌, ◌<◌, ◌≡◌, ◌⊎◌, length, get_or}
use Rattle.std.proofs.Math.Path.{refl}
use Rattle.std.proofs.Common.{sym, ◌∙◌, inl, inr, arith}
use mathlib.Core.List.{[], Memᴰ}
use Rattle.floor.specs.Jobs.{Entry, Job, Vertex, Room}
use Rattle.floor.specs.Jobs.Facts.{Passes}
use Rattle.floor.proofs.Jobs.Facts.{star_at}
use Rattle.floor.specs.Walls.{Rule, same, before, low, high, extra}
use Rattle.floor.proofs.Walls.Rules.{Told, Asks, told_every, every_told}
use Rattle.floor.specs.Plans.{Plan, rect_of}
use Rattle.floor.specs.Floor.{Point, Wall, Stands, Floor, Framed, GoodPlan}
use Rattle.floor.proofs.Floor.Sides.{Side, up, right, opp, Piece, side, room, Known, Meets, Contact, Good}
use Rattle.floor.proofs.Floor.Read.{num, number, piece, number_piece, few_sides, stars_of, mem_entry, known_piece, entry_ok}
use Rattle.floor.proofs.Floor.Placed.{place_of, stands_meets}
use Rattle.floor.proofs.Floor.Bridge.{covered, once, plan_good}
use Rattle.floor.proofs.Floor.Inner.{Thin, Inner, inner_room}
use Rattle.floor.specs.Registers.{joins, low_side, high_side, wide_of, long_of, axis_of}
use Rattle.floor.proofs.Registers.Runs.{View, Along, On, Ruled, Seen}

-- a plan of so many vertices, seen in one direction
abbrev pub view_of : ℕ → ℕ → Plan → View
view_of n d p = record {
  count = n;
  wide = wide_of d p;
  long = long_of d p;
  lo = λ v. (low_side d (rect_of p v)).line;
  hi = λ v. (high_side d (rect_of p v)).line;
  start = λ v. (low_side d (rect_of p v)).begins;
  stop = λ v. (low_side d (rect_of p v)).ends;
}

module _ (j : Job) (ok : Passes j) (some_room : 0 < length j) (p : Plan) (gp : GoodPlan j p) (thin : Thin p) where
  -- the plan is a floor plan for the job
  f : Floor j p
  f = gp.floor

  -- its frame lies as it should: W and E full height, N and S between
  fr : Framed p
  fr = gp.framed

  -- A CONTACT IS A RULE, where one of the two is a room
  contact_rule : (d : ℕ) (k : Side) → (axis_of d).far ≡ num k → (axis_of d).near ≡ num (opp k) → (u v : Piece) → Known (stars_of j) u → Known (stars_of j) v
      → (4 ≤ number u) ⊎ (4 ≤ number v) → Contact (stars_of j) k u v → Memᴰ (same (high (number u)) (low (number v))) (joins d j)
  unfolding stars_of
  contact_rule d k ef en u v hu hv one m = go u v hu hv one m
    where
      told : Told (λ r. Memᴰ r (joins d j)) (axis_of d) (extra (axis_of d) []) 4 j
      told = every_told (λ r. Memᴰ r (joins d j)) (axis_of d) (extra (axis_of d) []) 4 j (λ r m. m)

      go : (u v : Piece) → Known (stars_of j) u → Known (stars_of j) v → (4 ≤ number u) ⊎ (4 ≤ number v) → Contact (stars_of j) k u v
          → Memᴰ (same (high (number u)) (low (number v))) (joins d j)
      go (room i) v hu hv one m =
          let (e, me, ke, te) = mem_entry v (get_or j i []) (num k) m in
          rw (← te) ((told.each i hu e me).if_far (ke ∙ sym ef))
      go (side t) (room r) hu hv one m =
          let (e, me, ke, te) = mem_entry (side t) (get_or j r []) (num (opp k)) m in
          near e te ((told.each r hv e me).if_near (ke ∙ sym en))
        where
          near : (e : Entry) → e.to ≡ num t → Memᴰ (same (high e.to) (low (4 + r))) (joins d j)
              → Memᴰ (same (high (num t)) (low (4 + r))) (joins d j)
          near e te x = rw te at x
      go (side t) (side r) hu hv (inl l) m = absurd (omega (arith, few_sides t))
      go (side t) (side r) hu hv (inr l) m = absurd (omega (arith, few_sides r))

  -- where v stands right of u (direction 0) or above it (1), and one of them is a room, a rule joins u's high side and v's low side
  stands_rule : (d : ℕ) (k : Side) → (axis_of d).far ≡ num k → (axis_of d).near ≡ num (opp k) → (u v : ℕ) → Vertex j u → Vertex j v → (4 ≤ u) ⊎ (4 ≤ v)
      → Stands (num k) (rect_of p u) (rect_of p v) → Memᴰ (same (high u) (low v)) (joins d j)
  stands_rule d k ef en u v hu hv one s =
      let g : Good (stars_of j) (place_of p) = plan_good j ok p gp in
      let m : Meets (place_of p) k (piece u) (piece v) = stands_meets j p gp.inside k (piece u) (piece v) (known_piece j u hu) (known_piece j v hv)
      (rw (number_piece u, number_piece v) s) in
      rw (number_piece u, number_piece v) at
      (contact_rule d k ef en (piece u) (piece v) (known_piece j u hu) (known_piece j v hv) (rw (number_piece u, number_piece v) one)
      (g.joined k (piece u) (piece v) (known_piece j u hu) (known_piece j v hv) m))

  -- the plan seen in direction d
  abbrev view : ℕ → View
  view d = view_of (length j + 4) d p

  -- a wall between two, seen in direction d
  abbrev Walled : ℕ → ℕ → ℕ → Type 0
  Walled d u v = Wall ((view d).hi u) ((view d).start u) ((view d).stop u) ((view d).lo v) ((view d).start v) ((view d).stop v)

  -- what a rule says of the plan: one that joins two sides is a contact, and one that puts walls in order says nothing here
  abbrev Joint : ℕ → Rule → Type 0
  Joint d (same s t) = Ruled (view d) s t
  Joint d (before s t x) = Unit {0}

  -- A RULE THAT JOINS TWO SIDES IS A CONTACT, with a unit along both inside the frame
  ruled_of : (d : ℕ) (k : Side) → (axis_of d).far ≡ num k → (axis_of d).near ≡ num (opp k)
      → ((u v : ℕ) → Stands (num k) (rect_of p u) (rect_of p v) → Walled d u v) → ((u v : ℕ) → Stands (num (opp k)) (rect_of p u) (rect_of p v) → Walled d v u)
      → ((v : ℕ) → Room j v → (1 ≤ (view d).start v) × ((view d).stop v < (view d).long))
      → (s t : ℕ) → Memᴰ (same s t) (joins d j) → Ruled (view d) s t
  ruled_of d k ef en ahead behind inside s t m =
      told_every (Joint d) (axis_of d) (extra (axis_of d) []) 4 j (record { own = λ i h. tt; each = each }) (same s t) m
    where
      each : (i : ℕ) → i < length j → (e : Entry) → Memᴰ e (get_or j i []) → Asks (Joint d) (axis_of d) (4 + i) e
      each i h e n = record { if_far = far; if_near = near; if_cross = λ q l. (tt, tt) }
        where
          r : Room j (4 + i)
          r = (omega arith, omega arith)

          z : (1 ≤ (view d).start (4 + i)) × ((view d).stop (4 + i) < (view d).long)
          z = inside (4 + i) r

          on : (k : ℕ) → e.kind ≡ k → Stands k (rect_of p (4 + i)) (rect_of p e.to)
          on k q = rw q at (f.stands (4 + i) r e (rw (star_at j i) n))

          joint : (u v : ℕ) → Vertex j u → Vertex j v → (w : Walled d u v) → (1 ≤ w.c) × (suc w.c < (view d).long) → Ruled (view d) (high u) (low v)
          joint u v hu hv w b = record {
            u = u;
            v = v;
            c = w.c;
            is_u = refl;
            is_v = refl;
            known_u = hu;
            known_v = hv;
            line = w.line;
            along_u = record { lower = w.starts; upper = w.ends };
            along_v = record { lower = w.starts'; upper = w.ends' };
            after_frame = b.0;
            before_frame = b.1;
          }

          far : e.kind ≡ (axis_of d).far → Ruled (view d) (high (4 + i)) (low e.to)
          far q =
              let w : Walled d (4 + i) e.to = ahead (4 + i) e.to (on (num k) (q ∙ ef)) in
              joint (4 + i) e.to r.1 (entry_ok j ok i h e n).below w (omega (arith, w.starts, z.0), omega (arith, w.ends, z.1))

          near : e.kind ≡ (axis_of d).near → Ruled (view d) (high e.to) (low (4 + i))
          near q =
              let w : Walled d e.to (4 + i) = behind (4 + i) e.to (on (num (opp k)) (q ∙ en)) in
              joint e.to (4 + i) (entry_ok j ok i h e n).below r.1 w (omega (arith, w.starts', z.0), omega (arith, w.ends', z.1))

  -- UPRIGHT
  pub seen_upright : Seen (view 0) (joins 0 j)
  unfolding low_side high_side wide_of long_of
  seen_upright = record {
    across = λ v h. ((gp.inside v h).wide, (gp.inside v h).in_width);
    lengthwise = λ v h. ((gp.inside v h).tall, (gp.inside v h).in_height);
    cover = λ x c hx hc. let (v, h, n) = covered j ok p gp x c hx hc in
        (v, h, record { left = n.left; right = n.right; unit = record { lower = n.lower; upper = n.upper } });
    once = λ x c u v hu hv m n. once j ok p gp x c u v hu hv
        (record { left = m.left; right = m.right; lower = m.unit.lower; upper = m.unit.upper })
        (record { left = n.left; right = n.right; lower = n.unit.lower; upper = n.unit.upper });
    no_four = λ x y a b c d ha hb hc hd q ma mb mc md. f.no_four x y a b c d ha hb hc hd q (point ma) (point mb) (point mc) (point md);
    three = omega (arith, thin.w_x2, thin.e_x1, fr.n_x1, fr.n_x2, (gp.inside 0 (omega arith)).wide);
    room_across = λ v l h. let i : Inner p v = inner_room j ok p gp thin v (l, h) in (i.left, i.right);
    room_along = λ v l h. let i : Inner p v = inner_room j ok p gp thin v (l, h) in (i.lower, i.upper);
    frame = frame;
    joins = λ u v c hu hv one e a b. stands_rule 0 right refl refl u v hu hv one
        (record { line = e; c = c; starts = a.lower; ends = a.upper; starts' = b.lower; ends' = b.upper });
    ruled = ruled_of 0 right refl refl (λ u v w. w) (λ u v w. w) (λ v r. let i : Inner p v = inner_room j ok p gp thin v r in (i.lower, i.upper));
  }
    where
      point : {v x y : ℕ} → On (view 0) v x y → Point (rect_of p v) x y
      point m = record { left = m.left; right = m.right; lower = m.lower; upper = m.upper }

      frame : (v : ℕ) → v < 4 → (c : ℕ) → Along (view 0) v c → 1 ≤ c → suc c < (view 0).long → ((view 0).hi v ≡ 1) ⊎ ((view 0).lo v + 1 ≡ (view 0).wide)
      frame zero h c a l k = absurd (omega (arith, a.lower, thin.n_y1))
      frame (suc zero) h c a l k = inl thin.w_x2
      frame (suc (suc zero)) h c a l k = absurd (omega (arith, a.upper, thin.s_y2))
      frame (suc (suc (suc zero))) h c a l k = inr thin.e_x1
      frame (suc (suc (suc (suc v)))) h c a l k = absurd (omega arith)

  -- LEVEL
  pub seen_level : Seen (view 1) (joins 1 j)
  unfolding low_side high_side wide_of long_of
  seen_level = record {
    across = λ v h. ((gp.inside v h).tall, (gp.inside v h).in_height);
    lengthwise = λ v h. ((gp.inside v h).wide, (gp.inside v h).in_width);
    cover = λ y c hy hc. let (v, h, n) = covered j ok p gp c y hc hy in
        (v, h, record { left = n.lower; right = n.upper; unit = record { lower = n.left; upper = n.right } });
    once = λ y c u v hu hv m n. once j ok p gp c y u v hu hv
        (record { left = m.unit.lower; right = m.unit.upper; lower = m.left; upper = m.right })
        (record { left = n.unit.lower; right = n.unit.upper; lower = n.left; upper = n.right });
    no_four = λ y x a b c d ha hb hc hd q ma mb mc md. f.no_four x y a b c d ha hb hc hd q (point ma) (point mb) (point mc) (point md);
    three = gap;
    room_across = λ v l h. let i : Inner p v = inner_room j ok p gp thin v (l, h) in (i.lower, i.upper);
    room_along = λ v l h. let i : Inner p v = inner_room j ok p gp thin v (l, h) in (i.left, i.right);
    frame = frame;
    joins = λ u v c hu hv one e a b. stands_rule 1 up refl refl u v hu hv one
        (record { line = e; c = c; starts = a.lower; ends = a.upper; starts' = b.lower; ends' = b.upper });
    ruled = ruled_of 1 up refl refl (λ u v w. w) (λ u v w. w) (λ v r. let i : Inner p v = inner_room j ok p gp thin v r in (i.left, i.right));
  }
    where
      point : {v x y : ℕ} → On (view 1) v y x → Point (rect_of p v) x y
      point m = record { left = m.lower; right = m.upper; lower = m.left; upper = m.right }

      -- a room lies between S and N
      gap : 3 ≤ p.height
      gap = let i : Inner p 4 = inner_room j ok p gp thin 4 (omega arith, omega arith) in omega (arith, i.lower, i.upper, (gp.inside 4 (omega arith)).tall)

      frame : (v : ℕ) → v < 4 → (c : ℕ) → Along (view 1) v c → 1 ≤ c → suc c < (view 1).long → ((view 1).hi v ≡ 1) ⊎ ((view 1).lo v + 1 ≡ (view 1).wide)
      frame zero h c a l k = inr thin.n_y1
      frame (suc zero) h c a l k = absurd (omega (arith, a.upper, thin.w_x2))
      frame (suc (suc zero)) h c a l k = inl thin.s_y2
      frame (suc (suc (suc zero))) h c a l k = absurd (omega (arith, a.lower, thin.e_x1))
      frame (suc (suc (suc (suc v)))) h c a l k = absurd (omega arith)
