-- The contacts of a line, one by one, as the code comes by them. Assumes nothing.
use Prim.Native.Nat.{ℕ, zero, suc, ◌+◌, ◌-◌, ◌<◌, ◌≤◌}
use mathlib.Core.Path.{◌≡◌, refl, sym, ◌∙◌}
use mathlib.Core.Bool.{Bool, true, false, cond, not}
use mathlib.Core.Option.{Option as Maybe, none, some}
use mathlib.Core.List.{List, [], ◌∷◌}
use native.Mathlib.Omega.{arith}
use borrow.Author.Tests.{eq-eqb, ne_eqb, not-true, not-false}
use lib.Dec.{eqb}
use lib.ListN.{length, drop}
use Rattle.std.specs.Prelude.{Option, None, Some, Result, Ok, Err, ok_or, IfOk, MatchOption}
use Rattle.std.specs.List.{IsFirstAndRest}
use denote.Ref.{Bor}
use Rattle.floor.specs.Lists.{same_numbers}
use Rattle.floor.specs.Quoted.{plain}
use Rattle.floor.specs.Jobs.{Entry}
use Rattle.floor.specs.JobTexts.{word, next, number_of, a_byte, kind_of_word, vertex_of_word, nothing, skip, followed, behind_contact, contact, size_said, size_at, size_or, contacts}
use Rattle.floor.specs.JobTexts.{least_size, no_contact, Line, lacks, star}
use Rattle.stars.specs.Pairs.{pair}
use Rattle.job_texts.specs.declared.entries.Held.{Held}
use Rattle.job_texts.specs.declared.Lack.{Lack}
use Rattle.job_texts.specs.declared.Lack.TheVariants.{Side, Neighbour, Comma, LeastSize, NoContact}
use Rattle.job_texts.specs.declared.Contact.{Contact}
use Rattle.job_texts.specs.declared.Measure.{Measure}
use Rattle.job_texts.specs.declared.Row.{Row}
use Rattle.job_texts.specs.Reads.{said, lack_of, piece_from, piece_of, piece_in, on_piece, size_begins, size_words, measured, Put, put_entry, put_entries, put_contacts}
use Rattle.job_texts.specs.Reads.{row_of}

-- an answer that is asked for, or else an error
pub asked_some : {A E : Type 0} (k : Option A) (y : E) (o : Result A E) (n : A) → o ≡ ok_or k y → o ≡ Ok n → k ≡ Some n
asked_some None y o n e f = absurd (cc)
asked_some (Some m) y o n e f = cc

pub asked_none : {A E : Type 0} (k : Option A) (y : E) (o : Result A E) (z : E) → o ≡ ok_or k y → o ≡ Err z → (k ≡ None) × (z ≡ y)
asked_none None y o z e f = (refl, cc)
asked_none (Some m) y o z e f = absurd (cc)

-- what is asked of an answer is asked of no error
pub if_err : {A E : Type 0} (P : A → Type 0) (r : Result A E) (y : E) → r ≡ Err y → IfOk r P
if_err P r y e = rw e tt

-- where there is no first, there is none
pub none_left : (s : List ℕ) (r : Option (Bor ℕ × Bor (List ℕ))) → r ≡ None → MatchOption r (length s ≡ 0) (λ p. IsFirstAndRest s p.0.now p.1.now) → s ≡ []
none_left s r e h = go s (rw e at h)
  where
    go : (l : List ℕ) → length l ≡ 0 → l ≡ []
    go [] q = refl
    go (x ∷ l) q = absurd (omega arith)

-- one contact
module _ (t w : List ℕ) (ew : w ≡ word t) (k : Option ℕ) (ek : said k ≡ kind_of_word w) where
  pub no_side : (r : Result Contact Lack) → k ≡ None → r ≡ Err Side → piece_in r ≡ piece_of t
  unfolding piece_in piece_of piece_from lack_of said
  no_side r e f = rw (f, ← ew, ← ek, e)

  module _ (s x : List ℕ) (es : s ≡ next t) (ex : x ≡ word s) (v : Option ℕ) (ev : said v ≡ vertex_of_word x) (n : ℕ) (en : k ≡ Some n) where
    pub no_neighbour : (r : Result Contact Lack) → v ≡ None → r ≡ Err Neighbour → piece_in r ≡ piece_of t
    unfolding piece_in piece_of piece_from lack_of said
    no_neighbour r e f = rw (f, ← ew, ← ek, en, ← es, ← ex, ← ev, e)

    pub both_stand : (c : Contact) → v ≡ Some c.to → n ≡ c.kind → c.rest.now ≡ next s → piece_in (Ok c) ≡ piece_of t
    unfolding piece_in piece_of piece_from said
    both_stand c e f g = rw (← ew, ← ek, en, ← es, ← ex, ← ev, e, f, g)

-- where there are no bytes nothing stands
pub no_length : (c : List ℕ) → length c ≡ 0 → nothing c ≡ true
unfolding nothing
no_length [] l = refl
no_length (x ∷ c) l = absurd (omega arith)

-- where there are bytes something stands
pub some_length : (c : List ℕ) → (length c ≡ 0 → ⊥) → nothing c ≡ false
unfolding nothing
some_length [] n = absurd (n refl)
some_length (x ∷ c) n = refl

-- nothing stands where there are no bytes
empty_lem : (c : List ℕ) → eqb (length c) 0 ≡ nothing c
unfolding nothing
empty_lem [] = refl
empty_lem (x ∷ c) = ne_eqb (suc (length c)) 0 (λ e. omega arith)

-- the word `at` stands in front
pub size_begins_lem : (t w : List ℕ) (b : Bool) → w ≡ word t → b ≡ same_numbers w (plain "at") → b ≡ size_begins t
unfolding size_begins
size_begins_lem t w b ew eb = rw (← ew) eb

-- the words of a least size
module _ (t w : List ℕ) (ew : w ≡ word t) (a : Bool) (ea : a ≡ same_numbers w (plain "least")) where
  -- another word than `least`
  pub no_least : not a ≡ true → false ≡ size_words t
  unfolding size_words
  no_least na = rw (← ew, ← ea, not-true a na)

  module _ (na : not a ≡ false) (s u v : List ℕ) (es : s ≡ next t) (eu : u ≡ next s) (ev : v ≡ word u) (b : Bool) (eb : b ≡ same_numbers v (plain "by")) where
    -- another word than `by`
    pub no_by : not b ≡ true → false ≡ size_words t
    unfolding size_words
    no_by nb = rw (← ew, ← ea, not-false a na, ← es, ← eu, ← ev, ← eb, not-true b nb)

    -- else it is the end of the line that decides
    pub by_end : not b ≡ false → (x e : List ℕ) → x ≡ next u → e ≡ next x → eqb (length e) 0 ≡ size_words t
    unfolding size_words
    by_end nb x e ex ee = rw (← ew, ← ea, not-false a na, ← es, ← eu, ← ev, ← eb, not-false b nb, ← ex, ← ee) (empty_lem e)

-- a least size by its words and its numbers
size_by : (t : List ℕ)
    → size_at t ≡ cond (size_words t) (size_said (a_byte (number_of (word (next t)))) (a_byte (number_of (word (next (next (next t))))))) (lacks least_size)
unfolding size_at size_words
size_by t = refl

-- a least size, by what its words say
module _ (t : List ℕ) (a : Bool) (ea : a ≡ size_words t) where
  -- its words do not stand there
  pub no_words : not a ≡ true → measured None ≡ size_at t
  unfolding measured
  no_words na = rw (size_by t, ← ea, not-true a na)

  module _ (na : not a ≡ false) (s x : List ℕ) (es : s ≡ next t) (ex : x ≡ word s) (w : Option ℕ) (ew : said w ≡ a_byte (number_of x)) where
    -- its width is no number that a byte holds
    pub width_none : (r : Option Measure) → w ≡ None → r ≡ None → measured r ≡ size_at t
    unfolding measured size_said said
    width_none r e f = rw (f, size_by t, ← ea, not-false a na, ← es, ← ex, ← ew, e)

    module _ (j u y : List ℕ) (ej : j ≡ next s) (eu : u ≡ next j) (ey : y ≡ word u) (h : Option ℕ) (eh : said h ≡ a_byte (number_of y)) (n : ℕ) (en : w ≡ Some n) where
      -- its height is no number that a byte holds
      pub height_none : (r : Option Measure) → h ≡ None → r ≡ None → measured r ≡ size_at t
      unfolding measured size_said said
      height_none r e f = rw (f, size_by t, ← ea, not-false a na, ← es, ← ex, ← ew, en, ← ej, ← eu, ← ey, ← eh, e)

      -- both are said
      pub both_said : (m : Measure) → n ≡ m.wide → h ≡ Some m.tall → measured (Some m) ≡ size_at t
      unfolding measured size_said said
      both_said m f e = rw (size_by t, ← ea, not-false a na, ← es, ← ex, ← ew, en, ← ej, ← eu, ← ey, ← eh, e, f)

-- where `at` stands, a least size ends the contacts, however many are left
at_size : (left : ℕ) (t : List ℕ) → size_begins t ≡ true → contacts left t ≡ size_at (next t)
unfolding contacts size_or size_begins
at_size zero t e = rw e
at_size (suc left) t e = rw e

-- else the contacts of a line go by the first of them
by_piece : (left : ℕ) (t : List ℕ) → size_begins t ≡ false → contacts (suc left) t ≡ on_piece (piece_of t) left
unfolding contacts contact size_or size_begins piece_of piece_from on_piece
by_piece left t e = rw e (go (kind_of_word (word t)) (vertex_of_word (word (next t))))
  where
    u : List ℕ
    u = next (next t)

    go : (k v : Maybe ℕ) → contact k v (λ e. behind_contact e (followed u (contacts left (skip (drop 1 u))))) ≡ on_piece (piece_from k v u) left
    go none v = refl
    go (some k) none = refl
    go (some k) (some v) = refl

-- or there is none left
no_more : (t : List ℕ) → size_begins t ≡ false → contacts zero t ≡ lacks no_contact
unfolding contacts size_or size_begins
no_more t e = rw e

-- a contact put before the others of its line
put_first : (h : Held) (e : Entry) (l : Line) → put_contacts h (behind_contact e l) ≡ put_contacts (put_entry h e.to e.kind) l
unfolding put_contacts behind_contact put_entries
put_first h e (lacks x) = refl
put_first h e (star s z) = refl

-- an entry put moves the place on
pub next_put : (h g : Held) (v e : ℕ) → g ≡ put_entry h v e → g.next ≡ h.next + 1
unfolding put_entry
next_put h g v e q = rw q

-- as many stars as before
pub count_kept : (h g : Held) (v e n : ℕ) → g ≡ put_entry h v e → h.stars.count ≡ n → g.stars.count ≡ n
unfolding put_entry
count_kept h g v e n eg q = rw eg q

-- one turn: a least size, or a contact, is read
module _ (t : List ℕ) (h : Held) (w : Put) (inv : put_contacts h (contacts (360 - h.next) t) ≡ w) (b : Bool) (eb : b ≡ size_begins t) where
  -- where `at` stands, the size behind it ends the contacts
  module _ (e : b ≡ true) (s : List ℕ) (es : s ≡ next t) (f : Option Measure) (ef : measured f ≡ size_at s) where
    -- what is put of the contacts, by the size
    sized : put_contacts h (measured f) ≡ w
    sized = rw (ef, es, ← at_size (360 - h.next) t (sym eb ∙ e)) inv

    -- none is said
    pub size_lacks : (r : Result Row Lack) → f ≡ None → r ≡ Err LeastSize → row_of r ≡ w
    unfolding measured put_contacts lack_of row_of
    size_lacks r n q = rw q (rw n at sized)

    -- one is said
    pub size_stands : (m : Measure) → f ≡ Some m → row_of (Ok (record { held = h; size = m })) ≡ w
    unfolding measured put_contacts put_entries row_of
    size_stands m n = rw n at sized

  module _ (nb : b ≡ false) where
    -- no contact is left
    pub contacts_over : 360 ≤ h.next → row_of (Err NoContact) ≡ w
    unfolding put_contacts lack_of row_of
    contacts_over l =
        let z : 360 - h.next ≡ 0 = omega arith in
        rw (z, no_more t (sym eb ∙ nb)) at inv

    module _ (f : Result Contact Lack) (ef : piece_in f ≡ piece_of t) (l : h.next < 360) where
      -- what is put of the contacts, by the first of them
      whole : put_contacts h (on_piece (piece_in f) (360 - (h.next + 1))) ≡ w
      whole =
          let z : 360 - h.next ≡ suc (360 - (h.next + 1)) = omega arith in
          rw (ef, ← by_piece (360 - (h.next + 1)) t (sym eb ∙ nb), ← z) inv

      -- it is none
      pub contact_lacks : (y : Lack) (r : Result Row Lack) → f ≡ Err y → r ≡ Err y → row_of r ≡ w
      unfolding on_piece piece_in put_contacts row_of
      contact_lacks y r e q = rw q (rw e at whole)

      module _ (c : Contact) (es : f ≡ Ok c) (g : Held) (eg : g ≡ put_entry h c.to c.kind) where
        -- it is put, and what follows it is left
        entry_put : put_contacts g (followed c.rest.now (contacts (360 - g.next) (skip (drop 1 c.rest.now)))) ≡ w
        unfolding on_piece piece_in
        entry_put =
            let n : ℕ = 360 - (h.next + 1) in
            let p : put_contacts (put_entry h c.to c.kind) (followed c.rest.now (contacts n (skip (drop 1 c.rest.now)))) ≡ w =
            sym (put_first h (pair c.to c.kind) (followed c.rest.now (contacts n (skip (drop 1 c.rest.now))))) ∙ (rw es at whole) in
            rw (← eg, ← next_put h g c.to c.kind eg) at p

        -- nothing follows it
        pub contact_last : c.rest.now ≡ [] → row_of (Ok (record { held = g; size = record { wide = 1; tall = 1 } })) ≡ w
        unfolding followed put_contacts put_entries row_of
        contact_last q = rw q at entry_put

        module _ (x : ℕ) (s : List ℕ) (q : c.rest.now ≡ x ∷ s) where
          -- something else than a comma follows it
          pub comma_lacks : (x ≡ 44 → ⊥) → row_of (Err Comma) ≡ w
          unfolding followed put_contacts lack_of row_of
          comma_lacks n = rw (q, ne_eqb x 44 n) at entry_put

          -- behind a comma the others are left
          pub contact_next : (u : List ℕ) → x ≡ 44 → u ≡ skip s → put_contacts g (contacts (360 - g.next) u) ≡ w
          unfolding followed
          contact_next u e d = rw d (rw (q, eq-eqb x 44 e) at entry_put)
