-- What follows from the promises: one answer, and what a reader of a stream knows wrapper by wrapper. Assumes nothing.
use Rattle.std.proofs.Common.{◌≡◌, ℕ, suc, ◌+◌, ◌*◌, ◌<◌, ◌≤◌, Bool, true, false, cond, eqb, leb, ◌⊎◌, ◌↔◌, List, [], ◌∷◌, ◌++◌, length, take, drop, replicate, sym, refl, ap, ◌∙◌, inl, inr, append_assoc, append-nil, arith, length-append, take_at, drop_at, eq-eqb, eqb-true, le-leb, leb-false, leb-true}
use mathlib.Core.Option.{Option, none, some}
use borrow.Author.Tests.{lt-leb}
use Rattle.floor.specs.Fields.{broken, field, read_field}
use Rattle.floor.specs.Calls.{load}
use Rattle.floor.specs.Totals.{Jobs, unwrap, Season, refuses_all, tells, tell, season, season_in, figures, figure_lines, season_text, totals}
use Rattle.floor.specs.Totals.Wrapped.{tell_with}
use Rattle.floor.proofs.Totals.Wrapped.{tell_start, tell_end, tell_over, tell_broken, tell_other, tell_job}
use Rattle.std.specs.Prelude.{Option as Found, None, Some}
use Rattle.season.specs.Counted.{counted, added}
use Rattle.season.specs.Heads.{head_in}
use Rattle.season.specs.Known.{Known}
use Rattle.season.proofs.Telling.{figures_none, figures_sixteen, figures_more}

-- THE PROMISE OF `totals` ALLOWS ONE ANSWER AND ONE BUFFER
pub one_totals : (bs buf : List ℕ) (r t : ℕ) (x y : List ℕ) → (r ≡ (season_in (season bs) buf).number) × (x ≡ (season_in (season bs) buf).figures)
    → (t ≡ (season_in (season bs) buf).number) × (y ≡ (season_in (season bs) buf).figures) → (r ≡ t) × (x ≡ y)
one_totals bs buf r t x y p q = (p.0 ∙ sym q.0, p.1 ∙ sym q.1)

-- HOW ITS NUMBER IS READ: 19 for what cannot be read, 14 for a buffer too short for sixteen figures, and else 272
pub record Reads (n room : ℕ) (s : Season) : Type 0 where
  pub unread : (n ≡ 19) ↔ (s ≡ refuses_all 19)
  pub short : n ≡ 14 → room < 16
  pub long : n ≡ 272 → 16 ≤ room
  pub one_of : (n ≡ 19) ⊎ ((n ≡ 14) ⊎ (n ≡ 272))

-- figures are no refusal
no_tells : {X : Type 0} {k : ℕ} {ns : List ℕ} → tells ns ≡ refuses_all k → X
no_tells e = let z : ◌≡◌ {A = ℕ} 0 1 = cc in absurd (omega arith)

-- the number of sixteen figures
reads_tells : (ns buf : List ℕ) (n : ℕ) → length ns ≡ 16 → (b : Bool) → leb (length ns) (length buf) ≡ b → n ≡ (season_in (tells ns) buf).number
    → Reads n (length buf) (tells ns)
unfolding season_in
reads_tells ns buf n l true q e =
    let z : n ≡ 272 = e ∙ rw (q, l) in
    record {
      unread = (λ x. absurd (omega arith), λ x. no_tells x);
      short = λ x. absurd (omega arith);
      long = λ x. omega (arith, leb-true (length ns) (length buf) q);
      one_of = inr (inr z);
    }
reads_tells ns buf n l false q e =
    let z : n ≡ 14 = e ∙ rw q in
    record {
      unread = (λ x. absurd (omega arith), λ x. no_tells x);
      short = λ x. omega (arith, leb-false (length ns) (length buf) q);
      long = λ x. absurd (omega arith);
      one_of = inr (inl z);
    }

-- and of those that were read, if any
reads_told : (o : Option Jobs) (buf : List ℕ) (n : ℕ) → n ≡ (season_in (tell o) buf).number → Reads n (length buf) (tell o)
unfolding tell season_in
reads_told none buf n e =
    record { unread = (λ x. refl, λ x. e); short = λ x. absurd (omega arith); long = λ x. absurd (omega arith); one_of = inl e }
reads_told (some js) buf n e = reads_tells (figures js) buf n (figures_sixteen js) (leb (length (figures js)) (length buf)) refl e

pub reads_number : (bs buf : List ℕ) (n : ℕ) → n ≡ (season_in (season bs) buf).number → Reads n (length buf) (season bs)
unfolding season
reads_number bs buf n e = reads_told (unwrap 200 bs) buf n e

-- what is printed where anything is broken
abbrev pub nineteen : List ℕ
nineteen = season_text (refuses_all 19)

-- one head
no_head : {X : Type 0} {n : ℕ} → ◌≡◌ {A = Found ℕ} None (Some n) → X
no_head e = let z : ◌≡◌ {A = ℕ} 0 1 = cc in absurd (omega arith)

-- the three bytes of the head of a job, and its length
record Nine (head : List ℕ) (n : ℕ) : Type 0 where
  h : ℕ
  l : ℕ
  is : head ≡ 9 ∷ h ∷ l ∷ []
  long : n ≡ 256 * h + l

nine : (head : List ℕ) (n : ℕ) → length head ≡ 3 → head_in head ≡ Some n → Nine head n
unfolding head_in
nine [] n k e = absurd (omega arith)
nine (t ∷ []) n k e = absurd (omega arith)
nine (t ∷ h ∷ []) n k e = absurd (omega arith)
nine (t ∷ h ∷ l ∷ x ∷ s) n k e = absurd (omega arith)
nine (t ∷ h ∷ l ∷ []) n k e = go (eqb t 9) refl e
  where
    go : (b : Bool) → eqb t 9 ≡ b → cond b (Some (256 * h + l)) None ≡ Some n → Nine (t ∷ h ∷ l ∷ []) n
    go false q e = no_head e
    go true q e = record { h = h; l = l; is = ap (λ (x : ℕ). x ∷ h ∷ l ∷ []) (eqb-true t 9 q); long = cc }

-- a value of the length that its head says, and one that is shorter
read_whole : (h l : ℕ) (v rest : List ℕ) → length v ≡ 256 * h + l → read_field (9 ∷ h ∷ l ∷ (v ++ rest)) ≡ field 9 v rest
unfolding read_field
read_whole h l v rest e =
    let z : leb (256 * h + l) (length (v ++ rest)) ≡ true = le-leb (256 * h + l) (length (v ++ rest)) (omega (arith, length-append v rest)) in
    rw (z, take_at v rest (256 * h + l) e, drop_at v rest (256 * h + l) e)

read_cut : (h l : ℕ) (v : List ℕ) → length v < 256 * h + l → read_field (9 ∷ h ∷ l ∷ v) ≡ broken
unfolding read_field
read_cut h l v k = let z : leb (256 * h + l) (length v) ≡ false = lt-leb (256 * h + l) (length v) k in rw z

-- one byte is no whole field
one_byte : (t : ℕ) → read_field (t ∷ []) ≡ broken
unfolding read_field
one_byte t = refl

-- nor are two
two_bytes : (t x : ℕ) → read_field (t ∷ x ∷ []) ≡ broken
unfolding read_field
two_bytes t x = refl

-- a head with enough bytes behind it is a whole field, whatever its tag
read_long : (t x y : ℕ) (rest : List ℕ) → leb (256 * x + y) (length rest) ≡ true
    → read_field (t ∷ x ∷ y ∷ rest) ≡ field t (take (256 * x + y) rest) (drop (256 * x + y) rest)
unfolding read_field
read_long t x y rest q = rw q

-- and with too few none
read_less : (t x y : ℕ) (rest : List ℕ) → leb (256 * x + y) (length rest) ≡ false → read_field (t ∷ x ∷ y ∷ rest) ≡ broken
unfolding read_field
read_less t x y rest q = rw q

-- AT FIRST no job is read
pub known_start : Known 200 (replicate 16 0) []
known_start = record { past = []; whole = λ rest. tell_start rest; are = sym figures_none; many = omega arith }

-- what is told is what is printed
prints : (s : Season) (bs : List ℕ) → season bs ≡ s → totals bs ≡ season_text s
unfolding totals
prints s bs e = rw e

module _ (left : ℕ) (sums bs : List ℕ) where
  -- A JOB: its head of three bytes, and as many bytes as that says
  pub known_job : Known (suc left) sums bs → (head v : List ℕ) (n : ℕ) → length head ≡ 3 → head_in head ≡ Some n → length v ≡ n
      → Known left (added sums (counted (load v))) (bs ++ head ++ v)
  known_job k head v n three e long = let x : Nine head n = nine head n three e in record {
    past = k.past ++ v ∷ [];
    whole = λ rest. ap season (parts x rest) ∙ k.whole (9 ∷ x.h ∷ x.l ∷ (v ++ rest))
        ∙ tell_job k.past left 9 (x.h ∷ x.l ∷ (v ++ rest)) v rest (read_whole x.h x.l v rest (long ∙ x.long));
    are = rw k.are (figures_more k.past v (omega (arith, k.many)));
    many = omega (arith, k.many, length-append k.past (v ∷ []));
  }
    where
      parts : (x : Nine head n) (rest : List ℕ) → bs ++ head ++ v ++ rest ≡ bs ++ (9 ∷ x.h ∷ x.l ∷ (v ++ rest))
      parts x rest = rw (append_assoc (bs ++ head) v rest, append_assoc bs head (v ++ rest), x.is)

  -- THE END: the lines of the figures
  pub known_end : Known left sums bs → totals bs ≡ figure_lines sums
  unfolding season_text
  known_end k =
      let w : season bs ≡ tells (figures k.past) = ap season (sym (append-nil bs)) ∙ k.whole [] ∙ tell_end k.past left in
      prints _ bs w ∙ rw k.are

  -- BROKEN, whatever follows: three bytes that are no head of a job, or fewer at the end
  pub known_before : Known (suc left) sums bs → (head rest : List ℕ) → head_in head ≡ None → 0 < length head → length head ≤ 3
      → (length head ≡ 3) ⊎ (rest ≡ []) → totals (bs ++ (head ++ rest)) ≡ nineteen
  known_before k head rest e any few three = prints _ _ (k.whole (head ++ rest) ∙ go head e any few three)
    where
      other : (t x y : ℕ) (b : Bool) → leb (256 * x + y) (length rest) ≡ b → (t ≡ 9 → ⊥)
          → tell_with k.past (unwrap (suc left) (t ∷ x ∷ y ∷ rest)) ≡ refuses_all 19
      other t x y true q n = tell_other k.past left t (x ∷ y ∷ rest) t (take (256 * x + y) rest) (drop (256 * x + y) rest) (read_long t x y rest q) n
      other t x y false q n = tell_broken k.past left t (x ∷ y ∷ rest) (read_less t x y rest q)

      no_tag : (t x y : ℕ) → head_in (t ∷ x ∷ y ∷ []) ≡ None → t ≡ 9 → ⊥
      no_tag t x y e n = unfold head_in in no_head (sym (rw (eq-eqb t 9 n) at e))

      go : (head : List ℕ) → head_in head ≡ None → 0 < length head → length head ≤ 3 → (length head ≡ 3) ⊎ (rest ≡ [])
          → tell_with k.past (unwrap (suc left) (head ++ rest)) ≡ refuses_all 19
      go [] e any few three = absurd (omega arith)
      go (t ∷ []) e any few (inl l) = absurd (omega arith)
      go (t ∷ []) e any few (inr z) = rw z (tell_broken k.past left t [] (one_byte t))
      go (t ∷ x ∷ []) e any few (inl l) = absurd (omega arith)
      go (t ∷ x ∷ []) e any few (inr z) = rw z (tell_broken k.past left t (x ∷ []) (two_bytes t x))
      go (t ∷ x ∷ y ∷ []) e any few three = other t x y (leb (256 * x + y) (length rest)) refl (no_tag t x y e)
      go (t ∷ x ∷ y ∷ a ∷ s) e any few three = absurd (omega arith)

  -- BROKEN at the end: one to three bytes that are no head of a job
  pub known_broken : Known (suc left) sums bs → (head : List ℕ) → head_in head ≡ None → 0 < length head → length head ≤ 3 → totals (bs ++ head) ≡ nineteen
  known_broken k head e any few = rw (append-nil head) at (known_before k head [] e any few (inr refl))

  -- CUT SHORT: the head of a job, and fewer bytes behind it than it says
  pub known_short : Known (suc left) sums bs → (head v : List ℕ) (n : ℕ) → length head ≡ 3 → head_in head ≡ Some n → length v < n
      → totals (bs ++ head ++ v) ≡ nineteen
  known_short k head v n three e short =
      let x : Nine head n = nine head n three e in
      prints _ _
      (ap season (parts x)
      ∙ k.whole (9 ∷ x.h ∷ x.l ∷ v)
      ∙ tell_broken k.past left 9 (x.h ∷ x.l ∷ v) (read_cut x.h x.l v (omega (arith, x.long))))
    where
      parts : (x : Nine head n) → bs ++ head ++ v ≡ bs ++ (9 ∷ x.h ∷ x.l ∷ v)
      parts x = rw (append_assoc bs head v, x.is)

-- ONE TOO MANY: anything at all behind 200 jobs
pub known_over : (sums bs : List ℕ) → Known 0 sums bs → (more : List ℕ) → 0 < length more → totals (bs ++ more) ≡ nineteen
known_over sums bs k [] any = absurd (omega arith)
known_over sums bs k (b ∷ more) any = prints _ _ (k.whole (b ∷ more) ∙ tell_over k.past b more)
