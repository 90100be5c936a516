-- Whole answers as text, as the code comes by them. Assumes nothing.
use Prim.Native.Nat.{ℕ, ◌*◌, ◌≤◌, ◌<◌}
use mathlib.Core.Path.{◌≡◌, sym, ap, ◌∙◌}
use mathlib.Core.Bool.{true, false, cond}
use mathlib.Core.List.{List, [], ◌∷◌, ◌++◌}
use native.Mathlib.Omega.{arith}
use borrow.Author.Tests.{le-leb, lt-leb}
use lib.Dec.{leb}
use lib.ListN.{length}
use lib.Seq.{sets}
use Rattle.std.specs.Prelude.{Result, Ok, Err}
use Rattle.floor.specs.Jobs.{SizedJob}
use Rattle.floor.specs.Plans.{Plan, Answer, refused, held}
use Rattle.floor.specs.Registers.{Partition}
use Rattle.floor.specs.Cuts.{plan_tree}
use Rattle.floor.specs.Calls.{load}
use Rattle.floor.specs.Calls.Sound.{Sound}
use Rattle.floor.proofs.Calls.Sound.{load_held as loaded_sound}
use Rattle.floor.specs.Quoted.{plain}
use Rattle.floor.specs.Texts.{line, refused_word, too_long, plan_text, answer_text, listing, wall_lines, walls_text, walls_listing, cut_lines, cuts_text, cuts_listing}
use Rattle.refusals.specs.declared.Refusal.{Refusal}
use Rattle.refusals.specs.Numbers.{number_of}
use Rattle.drawing.specs.Rects.{plan_in}
use Rattle.registers.specs.Kept.{walls_in}
use Rattle.registers.proofs.Corollaries.{walls_held}
use Rattle.board.specs.declared.Board.{Board as HeldBoard}
use Rattle.board.specs.Boards.{held_job, said, Plans}
use Rattle.board.proofs.Corollaries.{planned_register, planned_few}
use Rattle.letters.specs.Puts.{Puts}
use Rattle.letters.proofs.Rows.{front_put}
use Rattle.texts.proofs.Rows.{one_short}
use Rattle.texts.proofs.Cutting.{cuts_short}

-- a refusal, and what is said of input that is too long, at the front of a page
module _ (o x : List ℕ) (r : ℕ) (l : length o ≡ 8192) where
  -- a refusal's line put there is its whole text at the front, and fits the page
  pub refusal_front : (k : ℕ) → k < 256 → Puts o 0 (refused_word ++ line (k ∷ [])) x r
      → (r ≡ length (answer_text (refused k))) × (x ≡ sets o 0 (answer_text (refused k))) × (r ≤ 8192)
  unfolding answer_text refused_word plain
  refusal_front k h p = front_put o (refused_word ++ line (k ∷ [])) x r p l (omega (arith, one_short k (omega arith)))

  -- that the input is too long, put there, is at the front, and fits the page
  pub too_long_front : Puts o 0 too_long x r → (r ≡ length too_long) × (x ≡ sets o 0 too_long) × (r ≤ 8192)
  unfolding too_long plain
  too_long_front p = front_put o too_long x r p l (omega arith)

-- a text at the front of a page, and how many bytes it takes
abbrev Fronts : List ℕ → List ℕ → List ℕ → ℕ → Type 0
Fronts o t x r = (r ≡ length t) × (x ≡ sets o 0 t) × (r ≤ 8192)

-- the listing, the joiner's list and the contractor's go by what they print of an answer
module _ (bs : List ℕ) (text : Answer → List ℕ) where
  -- what is printed for some input
  abbrev printed : List ℕ
  printed = cond (leb (length bs) 8192) (text (load bs)) too_long

  -- over 8,192 bytes: that it is too long
  long : 8192 < length bs → printed ≡ too_long
  long h = let z : leb (length bs) 8192 ≡ false = lt-leb (length bs) 8192 h in rw z

  module _ (l : length bs ≤ 8192) (q : Result HeldBoard Refusal) (p : Plans q (load bs)) where
    -- a job that is drawn: the text of its job and plan
    drawn : (b : HeldBoard) → q ≡ Ok b → printed ≡ text (held (held_job b) (plan_in b.plan))
    unfolding said
    drawn b d =
        let z : leb (length bs) 8192 ≡ true = le-leb (length bs) 8192 l in
        let h : load bs ≡ held (held_job b) (plan_in b.plan) = sym (rw d at p.says) in
        rw (z, h)

    -- a job that is refused: the text of the refusal
    undrawn : (k : Refusal) (n : ℕ) → n ≡ number_of k → q ≡ Err k → printed ≡ text (refused n)
    unfolding said
    undrawn k n e d =
        let z : leb (length bs) 8192 ≡ true = le-leb (length bs) 8192 l in
        let h : load bs ≡ refused n = rw e (sym (rw d at p.says)) in
        rw (z, h)

-- each of them
module _ (bs : List ℕ) where
  -- over 8,192 bytes the listing says that it is too long
  pub long_text : 8192 < length bs → listing bs ≡ too_long
  unfolding listing
  long_text = long bs answer_text

  -- and so does the joiner's list
  pub long_walls : 8192 < length bs → walls_listing bs ≡ too_long
  unfolding walls_listing
  long_walls = long bs walls_text

  -- and the contractor's
  pub long_cuts : 8192 < length bs → cuts_listing bs ≡ too_long
  unfolding cuts_listing
  long_cuts = long bs cuts_text

  module _ (l : length bs ≤ 8192) (q : Result HeldBoard Refusal) (p : Plans q (load bs)) where
    -- a job that is drawn
    module _ (b : HeldBoard) (d : q ≡ Ok b) where
      -- its job and plan are what loading it holds
      loaded : load bs ≡ held (held_job b) (plan_in b.plan)
      unfolding said
      loaded = sym (rw d at p.says)

      -- the walls that are kept, by their numbers
      abbrev walls : List Partition
      walls = walls_in b.register.uprights b.register.many 0 b.register.rows

      -- for the joiner, at the front of the page: a line for each wall that is kept
      pub walls_text_lem : (o x : List ℕ) (r : ℕ) → length o ≡ 8192 → Puts o 0 (wall_lines walls) x r × (length (wall_lines walls) ≤ 30 * b.register.many)
          → Fronts o (walls_listing bs) x r
      unfolding walls_listing walls_text
      walls_text_lem o x r e (puts, short) =
          let h : Plans (Ok b) (load bs) = rw d at p in
          let t : wall_lines walls ≡ walls_listing bs
          = ap (λ (ws : List Partition). wall_lines ws) (walls_held b.register ∙ planned_register bs b h) ∙ sym (drawn bs walls_text l q p b d) in
          rw t at (front_put o (wall_lines walls) x r puts e (omega (arith, short, planned_few bs b h)))

      -- its plan, as it is lent
      module _ (a : Plan) (ea : a ≡ plan_in b.plan) where
        -- for the listing: the text of the plan
        pub plan_text_lem : listing bs ≡ plan_text a
        unfolding listing answer_text
        plan_text_lem = drawn bs answer_text l q p b d ∙ ap plan_text (sym ea)

        -- and for the contractor, at the front of the page: the lines of its cuts
        pub cuts_text_lem : (o x : List ℕ) (r : ℕ) → length o ≡ 8192 → ((j : SizedJob) → Sound j a → Puts o 0 (cut_lines (plan_tree a)) x r)
            → Fronts o (cuts_listing bs) x r
        unfolding cuts_listing cuts_text
        cuts_text_lem o x r e puts =
            let s : Sound (held_job b) a = rw ea (loaded_sound bs _ _ loaded).1 in
            let t : cut_lines (plan_tree a) ≡ cuts_listing bs
            = ap (λ (c : Plan). cut_lines (plan_tree c)) ea ∙ sym (drawn bs cuts_text l q p b d) in
            rw t at (front_put o (cut_lines (plan_tree a)) x r (puts _ s) e (omega (arith, cuts_short _ _ s)))

    -- a job that is refused, the text of the refusal at the front of the page
    module _ (k : Refusal) (d : q ≡ Err k) (n : ℕ) (en : n ≡ number_of k) (o x : List ℕ) (r : ℕ) (e : Fronts o (answer_text (refused n)) x r) where
      -- for the listing
      pub refusal_text : Fronts o (listing bs) x r
      unfolding listing
      refusal_text = rw (undrawn bs answer_text l q p k n en d) e

      -- for the joiner
      pub refusal_walls : Fronts o (walls_listing bs) x r
      unfolding walls_listing walls_text
      refusal_walls = rw (undrawn bs walls_text l q p k n en d) e

      -- and for the contractor
      pub refusal_cuts : Fronts o (cuts_listing bs) x r
      unfolding cuts_listing cuts_text
      refusal_cuts = rw (undrawn bs cuts_text l q p k n en d) e
