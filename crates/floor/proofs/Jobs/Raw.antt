-- The star question: the very bytes of the field's value, a stretch of the job; empty where the bytes fail test 1 or 2, or the number is no room.
-- Assumes nothing.
use Rattle.std.specs.Prelude.{ℕ, zero, suc, ◌-◌, ◌%◌, ◌<◌, ◌≡◌, refl, Bool, true, false, List, [], ◌∷◌, ◌++◌, length, get_or}
use Rattle.std.proofs.Common.{sym, ap, ◌∙◌, append_assoc, arith}
use Rattle.std.proofs.Math.Option.{some}
use Rattle.floor.specs.Fields.{Field, field, read_field, value_of, rest_of, after_fields}
use Rattle.floor.proofs.Fields.Laws.{Whole, whole_field}
use Rattle.floor.specs.Jobs.{Job, Room, is_room, star_of, entries, read_stars, fails, reads, read_job, raw_from, raw_star, star_bytes, SizedJob}
use Rattle.floor.proofs.Jobs.Facts.{is_a_room, room_is, star_room}
use Rattle.floor.proofs.Jobs.Written.{bytes_entries, Split, split, Counted, counted, read_length}

-- part stands somewhere in bs
pub record Stretch (part bs : List ℕ) : Type 0 where
  pub front : List ℕ
  pub back : List ℕ
  pub whole : bs ≡ front ++ (part ++ back)

-- a field's value is a stretch of the bytes; so is a stretch of what follows it
value_stretch : {bs : List ℕ} {t : ℕ} {v rest : List ℕ} → Whole bs t v rest → Stretch v bs
value_stretch {bs} {t} {v} {rest} w = record { front = t ∷ w.h ∷ w.l ∷ []; back = rest; whole = w.is }

-- a stretch of what follows the first field is a stretch of the bytes
rest_stretch : {bs : List ℕ} {t : ℕ} {v rest part : List ℕ} → Whole bs t v rest → Stretch part rest → Stretch part bs
rest_stretch {bs} {t} {v} {rest} {part} w s = record {
  front = t ∷ w.h ∷ w.l ∷ (v ++ s.front);
  back = s.back;
  whole = w.is ∙ ap (λ (q : List ℕ). t ∷ w.h ∷ w.l ∷ q) (ap (λ (q : List ℕ). v ++ q) s.whole ∙ sym (append_assoc v s.front (part ++ s.back)));
}

-- the value behind i stars
raw_stars : (n : ℕ) (bs : List ℕ) (j : Job) (i : ℕ) → read_stars n bs ≡ some j → i < n
    → (value_of (read_field (after_fields i bs)) ≡ star_bytes (get_or j i [])) × Stretch (value_of (read_field (after_fields i bs))) bs
unfolding read_stars after_fields value_of rest_of
raw_stars zero bs j i e l = absurd (omega arith)
raw_stars (suc n) bs j zero e l =
    let k : Split (read_field bs) (read_stars n (rest_of (read_field bs))) j = split (read_field bs) (read_stars n (rest_of (read_field bs))) j e in
    one k.value k.rest k.more k.is_field k.even k.is_job
  where
    one : (v rest : List ℕ) (more : Job) → read_field bs ≡ field 2 v rest → length v % 2 ≡ 0 → j ≡ entries v ∷ more
        → (value_of (read_field bs) ≡ star_bytes (get_or j 0 [])) × Stretch (value_of (read_field bs)) bs
    one v rest more ef ev ej = rw ef (rw (ej, bytes_entries v ev), value_stretch (whole_field bs 2 v rest ef))
raw_stars (suc n) bs j (suc i) e l =
    let k : Split (read_field bs) (read_stars n (rest_of (read_field bs))) j = split (read_field bs) (read_stars n (rest_of (read_field bs))) j e in
    two k.value k.rest k.more k.is_field k.is_job
    (raw_stars n (rest_of (read_field bs)) k.more i k.is_more (omega arith))
  where
    two : (v rest : List ℕ) (more : Job) → read_field bs ≡ field 2 v rest → j ≡ entries v ∷ more
        → (value_of (read_field (after_fields i (rest_of (read_field bs)))) ≡ star_bytes (get_or more i []))
        × Stretch (value_of (read_field (after_fields i (rest_of (read_field bs))))) (rest_of (read_field bs))
        → (value_of (read_field (after_fields i (rest_of (read_field bs)))) ≡ star_bytes (get_or j (suc i) [])) × Stretch
        (value_of (read_field (after_fields i (rest_of (read_field bs))))) bs
    two v rest more ef ej below = let (x, s) = rw ef at below in rw (ef, ej) (x, rest_stretch (whole_field bs 2 v rest ef) s)

-- THE VERY BYTES of the field's value
pub raw_star_lem : (bs : List ℕ) (o : SizedJob) (v : ℕ) → read_job bs ≡ reads o → Room o.stars v
    → (raw_star bs v ≡ star_bytes (star_of o.stars v)) × Stretch (raw_star bs v) bs
unfolding raw_star raw_from read_job after_fields rest_of
raw_star_lem bs o v e r = let k : Counted (read_field bs) o = counted (read_field bs) o e in one k.count k.rest k.is_field k.is_stars
  where
    one : (n : ℕ) (rest : List ℕ) → read_field bs ≡ field 1 (n ∷ []) rest → read_stars n rest ≡ some o.stars
        → (raw_from (read_job bs) bs v ≡ star_bytes (star_of o.stars v)) × Stretch (raw_from (read_job bs) bs v) bs
    one n rest ef es =
        let (x, s) = raw_stars n rest o.stars (v - 4) es (omega (arith, r.0, r.1, read_length n rest o.stars es)) in
        let q : v - 3 ≡ suc (v - 4) = omega (arith, r.0) in
        let b : after_fields (v - 3) bs ≡ after_fields (v - 4) rest = ap (λ (n : ℕ). after_fields n bs) q ∙ ap (λ (f : Field). after_fields (v - 4)
        (rest_of f)) ef in
        rw (e, room_is o.stars v r, b, star_room o.stars v r.0) (x, rest_stretch (whole_field bs 1 (n ∷ []) rest ef) s)

-- and empty otherwise
pub raw_fails : (bs : List ℕ) (k v : ℕ) → read_job bs ≡ fails k → raw_star bs v ≡ []
unfolding raw_star raw_from
raw_fails bs k v e = rw e

-- empty where the number is no room of the job
pub raw_no_room : (bs : List ℕ) (o : SizedJob) (v : ℕ) → read_job bs ≡ reads o → (Room o.stars v → ⊥) → raw_star bs v ≡ []
unfolding raw_star raw_from
raw_no_room bs o v e h = go (is_room o.stars v) refl
  where
    go : (c : Bool) → is_room o.stars v ≡ c → raw_from (read_job bs) bs v ≡ []
    go false q = rw (e, q)
    go true q = absurd (h (is_a_room o.stars v q))
