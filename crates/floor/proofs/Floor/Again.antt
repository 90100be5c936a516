-- W8: a good plan shows that neighbours in a star are joined; then every placement that meets the contacts is good. Assumes nothing.
use Rattle.std.specs.Prelude.{◌≡◌, ◌⊎◌, ℕ, ◌+◌, ◌<◌}
use Rattle.std.proofs.Common.{inl, inr, arith}
use mathlib.Core.List.{Memᴰ}
use Rattle.floor.proofs.Floor.Sides.{Side, next, opp, prev, round, Piece, room, Place, size, Stars, Known, Lawful, Meets, Rounds, Local, Good, Tri, Fits}
use Rattle.floor.proofs.Floor.Sides.{Contact}
use Rattle.floor.proofs.Floor.Tiles.{named_known, linked_map, last_map, first_map}
use Rattle.floor.proofs.Floor.Cover.{size_opp}
use Rattle.floor.proofs.Floor.Parts.{good_local}
use Rattle.floor.proofs.Floor.Whole.{local_good}

module _ (s : Stars) (g : Lawful s) where
  -- each neighbour of a room is a vertex of the job
  known : (k : Side) (i : ℕ) (v : Piece) → i < s.count → Memᴰ v (s.list k i) → Known s v
  known k i v h m = named_known s k v (g.known k i v h m)

  -- GOOD SHOWS THE STARS
  pub good_tri : (p : Place) → Good s p → Tri s
  good_tri p q = record {
    linked = λ k i h. linked_map (s.list k i) (link k i h) (l.linked k i h);
    turns = λ k i h. last_map (s.list k i) (λ a ma f. first_map (s.list (next k) i) (λ b mb t. round_corner k i h a b ma mb t) f) (l.turns k i h);
    base = l.base;
    base_one = l.base_one;
  }
    where
      l : Local s p
      l = good_local s p g q

      link : (k : Side) (i : ℕ) → i < s.count → (a b : Piece) → Memᴰ a (s.list k i) → Memᴰ b (s.list k i)
          → p.at (next k) a + p.at (prev k) b ≡ size p (next k) → Contact s (next k) a b
      link k i h a b ma mb e =
          let ha : Known s a = known k i a h ma in
          let hb : Known s b = known k i b h mb in
          let na : Meets p k (room i) a = l.meets k i a h ma in
          let nb : Meets p k (room i) b = l.meets k i b h mb in
          q.joined (next k) a b ha hb
          (record {
            touch = e;
            ahead = rw (round k) (omega (arith, na.touch, nb.touch, l.thick k b hb, size_opp p k));
            behind = rw (round k) (omega (arith, na.touch, nb.touch, l.thick k a ha, size_opp p k));
          })

      round_corner : (k : Side) (i : ℕ) → i < s.count → (a b : Piece) → Memᴰ a (s.list k i) → Memᴰ b (s.list (next k) i)
          → Rounds p k (room i) a b → Contact s (next k) a b ⊎ Contact s (opp k) a b
      round_corner k i h a b ma mb t = go t
        where
          ha : Known s a
          ha = known k i a h ma

          hb : Known s b
          hb = known (next k) i b h mb

          na : Meets p k (room i) a
          na = l.meets k i a h ma

          nb : Meets p (next k) (room i) b
          nb = l.meets (next k) i b h mb

          wide : size p (opp k) < p.at k (room i) + p.at (opp k) b
          wide = rw (round k) at nb.behind

          go : Rounds p k (room i) a b → Contact s (next k) a b ⊎ Contact s (opp k) a b
          go (inl f) =
              inl (q.joined (next k) a b ha hb
              (record {
                touch = omega (arith, nb.touch, f.0);
                ahead = rw (round k) (omega (arith, na.touch, f.1, size_opp p k));
                behind = rw (round k) (omega (arith, na.touch, l.thick k a ha, wide, size_opp p k));
              }))
          go (inr f) =
              inr (q.joined (opp k) a b ha hb
              (record {
                touch = rw (round k) (omega (arith, na.touch, f.1, size_opp p k));
                ahead = rw (round k) (omega (arith, na.ahead, nb.touch, l.thick (next k) b hb, size_opp p (next k)));
                behind = rw (round k) (omega (arith, nb.touch, f.0, size_opp p (next k)));
              }))

  -- THE STARS MAKE IT LOCAL
  pub fits_local : Tri s → (p : Place) → Fits s p → Local s p
  fits_local t p f = record {
    shape = f.shape;
    inside = f.inside;
    thick = f.thick;
    within = f.within;
    meets = λ k i v h m. f.meets k (room i) v h (known k i v h m) m;
    linked = λ k i h. linked_map (s.list k i) (λ a b ma mb e. (f.meets (next k) a b (known k i a h ma) (known k i b h mb) e).touch) (t.linked k i h);
    turns = λ k i h. last_map (s.list k i) (λ a ma w. first_map (s.list (next k) i) (λ b mb e. go k i h a b ma mb e) w) (t.turns k i h);
    base = t.base;
    base_one = t.base_one;
  }
    where
      go : (k : Side) (i : ℕ) → i < s.count → (a b : Piece) → Memᴰ a (s.list k i) → Memᴰ b (s.list (next k) i)
          → Contact s (next k) a b ⊎ Contact s (opp k) a b → Rounds p k (room i) a b
      go k i h a b ma mb (inl e) =
          let m : Meets p (next k) a b = f.meets (next k) a b (known k i a h ma) (known (next k) i b h mb) e in
          let over : size p (opp k) < p.at (opp k) a + p.at k b = rw (round k) at m.ahead in
          inl (
            omega (arith, m.touch, (f.meets (next k) (room i) b h (known (next k) i b h mb) mb).touch),
            omega (arith, (f.meets k (room i) a h (known k i a h ma) ma).touch, size_opp p k),
          )
      go k i h a b ma mb (inr e) =
          let m : Meets p (opp k) a b = f.meets (opp k) a b (known k i a h ma) (known (next k) i b h mb) e in
          let flush : p.at (opp k) a + p.at k b ≡ size p (opp k) = rw (round k) at m.touch in
          let over : size p (prev k) < p.at (next k) a + p.at (prev k) b = rw (round k) at m.behind in
          inr (
            omega (arith, (f.meets (next k) (room i) b h (known (next k) i b h mb) mb).touch, size_opp p (next k)),
            omega (arith, (f.meets k (room i) a h (known k i a h ma) ma).touch, size_opp p k),
          )

  -- W8: where one plan is good, so is every placement that meets the contacts
  pub good_again : (p r : Place) → Good s p → Fits s r → Good s r
  good_again p r q f = local_good s r g (fits_local (good_tri p q) r f)
