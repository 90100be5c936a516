-- The totals wrapper by wrapper, as the code comes by them. Assumes nothing.
use Rattle.std.proofs.Common.{◌≡◌, ℕ, suc, ◌+◌, ◌-◌, ◌%◌, ◌^◌, ◌<◌, ◌≤◌, List, [], ◌∷◌, ◌++◌, map, length, get_or, take, drop, replicate, sym, refl, ◌∙◌, arith, length-append, drop_of_length-le, drop-cons}
use mathlib.Core.List.{Memᴰ}
use Rattle.floor.specs.Lists.{sum}
use Rattle.floor.specs.Fields.{field, read_field}
use Rattle.floor.specs.Plans.{Answer}
use Rattle.floor.specs.Calls.{load}
use Rattle.floor.specs.Totals.{Jobs, unwrap, refusals, over, measures, figures, refuses_all, tells, season}
use Rattle.floor.specs.Totals.Wrapped.{tell_with}
use Rattle.floor.proofs.Totals.Wrapped.{tell_start, tell_end, tell_over, tell_broken, tell_other, tell_job}
use Rattle.floor.proofs.Totals.Figures.{over_nil, over_cons, over_append, figures_small}
use Rattle.std.specs.Prelude.{Option, None, Some, Ok, Err}
use Rattle.fields.specs.declared.Field.{Field as Place}
use Rattle.refusals.specs.declared.Refusal.TheVariants.{NoSeason}
use Rattle.refusals.specs.Numbers.{number_of}
use Rattle.fields.specs.Found.{found}
use Rattle.fields.proofs.Laws.{no_field, the_field}
use Rattle.season.specs.Counted.{counted, added}
use Rattle.season.specs.Summed.{told}

-- ---- the figures of one job more

-- those of no job
pub figures_none : figures [] ≡ replicate 16 0
unfolding figures measures refusals over sum
figures_none = refl

-- there are sixteen
pub figures_sixteen : (js : Jobs) → length (figures js) ≡ 16
unfolding figures measures refusals
figures_sixteen js = refl

-- a figure of one job more is the sum
over_one : (m : Answer → ℕ) (js : Jobs) (b : List ℕ) → over m (js ++ b ∷ []) ≡ over m js + m (load b)
over_one m js b = omega (arith, over_append m js (b ∷ []), over_cons m b [], over_nil m)

-- and is small, so that nothing is lost
added_over : (js : Jobs) (b : List ℕ) (l : List (Answer → ℕ)) → ((n : ℕ) → Memᴰ n (map (λ m. over m (js ++ b ∷ [])) l) → n ≤ 12500000)
    → added (map (λ m. over m js) l) (map (λ m. m (load b)) l) ≡ map (λ m. over m (js ++ b ∷ [])) l
unfolding added
added_over js b [] h = refl
added_over js b (m ∷ l) h =
    let s : over m (js ++ b ∷ []) ≤ 12500000 = h (over m (js ++ b ∷ [])) (Memᴰ.head refl) in
    let e : (over m js + m (load b)) % 2 ^ 64 ≡ over m (js ++ b ∷ []) = omega (arith, over_one m js b) in
    rw (e, added_over js b l (λ n i. h n (Memᴰ.tail i)))

-- THE FIGURES OF ONE JOB MORE, of at most 200
pub figures_more : (js : Jobs) (b : List ℕ) → length js < 200 → added (figures js) (counted (load b)) ≡ figures (js ++ b ∷ [])
unfolding figures counted
figures_more js b h = added_over js b measures (unfold figures in figures_small (js ++ b ∷ []) (omega (arith, length-append js (b ∷ []))))

-- ---- wrapper by wrapper

-- what is told of a season that cannot be read: nineteen
no_season : told (Err NoSeason) ≡ refuses_all 19
unfolding told number_of
no_season = refl

-- the jobs before a place of the bytes are read, their figures are these, and so many more may come
pub record Past (bs : List ℕ) (at left : ℕ) (sums : List ℕ) : Type 0 where
  pub past : Jobs
  pub whole : season bs ≡ tell_with past (unwrap left (drop at bs))
  pub are : sums ≡ figures past
  pub many : length past + left ≡ 200

-- at first none are
pub past_none : (bs : List ℕ) (left : ℕ) (sums : List ℕ) → left ≡ 200 → sums ≡ replicate 16 0 → Past bs 0 left sums
past_none bs left sums e z = record { past = []; whole = rw e (tell_start bs); are = z ∙ sym figures_none; many = omega arith }

module _ (bs : List ℕ) (at left : ℕ) (sums : List ℕ) (p : Past bs at left sums) where
  -- behind the last byte: the figures
  pub past_end : length bs ≤ at → told (Ok sums) ≡ season bs
  unfolding told
  past_end h =
      let d : drop at bs ≡ [] = drop_of_length-le bs h in
      let w : season bs ≡ tells (figures p.past) = (rw d at p.whole) ∙ tell_end p.past left in
      rw p.are (sym w)

  module _ (h : at < length bs) where
    -- the bytes from the place on are not none
    here : drop at bs ≡ get_or bs at 0 ∷ drop (suc at) bs
    here = drop-cons bs at 0 h

    -- one wrapper too many
    pub past_over : left ≡ 0 → told (Err NoSeason) ≡ season bs
    past_over z = no_season ∙ sym ((rw (here, z) at p.whole) ∙ tell_over p.past (get_or bs at 0) (drop (suc at) bs))

    module _ (ne : left ≡ 0 → ⊥) (f : Option Place) (q : found f bs ≡ read_field (drop at bs)) where
      -- there is room for one more
      room : left ≡ suc (left - 1)
      room = omega arith

      -- a broken wrapper
      pub past_broken : f ≡ None → told (Err NoSeason) ≡ season bs
      past_broken e =
          no_season ∙ sym ((rw (here, room) at p.whole) ∙ tell_broken p.past (left - 1) (get_or bs at 0) (drop (suc at) bs) (rw here at (no_field bs at f e q)))

      module _ (w : Place) (o : f ≡ Some w) where
        -- what is wrapped, and what is behind it
        abbrev value : List ℕ
        value = take (w.end - w.start) (drop w.start bs)

        -- as it is read
        is_read : read_field (get_or bs at 0 ∷ drop (suc at) bs) ≡ field w.tag value (drop w.end bs)
        is_read = rw here at (the_field bs at f w o q)

        -- another field
        pub past_other : (w.tag ≡ 9 → ⊥) → told (Err NoSeason) ≡ season bs
        past_other n =
            no_season ∙ sym ((rw (here, room) at p.whole) ∙ tell_other p.past (left - 1) (get_or bs at 0) (drop (suc at) bs) w.tag value (drop w.end bs) is_read n)

        -- a job: its figures are added
        pub past_job : (next : List ℕ) → w.tag ≡ 9 → next ≡ added sums (counted (load value)) → Past bs w.end (left - 1) next
        past_job next n s = record {
          past = p.past ++ value ∷ [];
          whole = (rw (here, room) at p.whole) ∙ tell_job p.past (left - 1) (get_or bs at 0) (drop (suc at) bs) value (drop w.end bs) (rw n at is_read);
          are = s ∙ (rw p.are (figures_more p.past value (omega (arith, p.many))));
          many = omega (arith, p.many, length-append p.past (value ∷ []));
        }
