-- Wrappers: what is read is what was wrapped, no more jobs than asked, and what a reader sees at each wrapper. Assumes nothing.
use Prim.Native.Nat.{ℕ, zero, suc, ◌≤◌}
use Rattle.std.specs.Prelude.{◌≡◌, ◌↔◌, Bool, true, false, cond, List, [], ◌∷◌, ◌++◌, length, eqb}
use Rattle.std.proofs.Math.Path.{refl, ap}
use Rattle.std.proofs.Common.{sym, ◌∙◌, append_assoc, append-nil, arith}
use Rattle.std.proofs.Math.Option.{Option, none, some}
use borrow.Author.Tests.{eqb-true, ne_eqb}
use Rattle.floor.specs.Fields.{Bytes, Field, broken, field, read_field, rest_of, write_field}
use Rattle.floor.proofs.Fields.Laws.{bytes_rest, read_write_field, write_read_field}
use Rattle.floor.specs.Totals.{Jobs, job_then, unwrap, wrap, figures, refuses_all, tells, tell, season}
use Rattle.floor.specs.Totals.Wrapped.{tell_with}

-- none is not some
no_jobs : {X : Type 0} (js : Jobs) → none ≡ some js → X
no_jobs js e = let z : ◌≡◌ {A = ℕ} 0 1 = cc in absurd (omega arith)

one_jobs : {a b : Jobs} → some a ≡ some b → a ≡ b
one_jobs e = cc

-- READ WHAT IS WRAPPED
pub unwrap_wrap : (n : ℕ) (js : Jobs) → length js ≤ n → unwrap n (wrap js) ≡ some js
unfolding unwrap wrap
unwrap_wrap zero [] h = refl
unwrap_wrap (suc n) [] h = refl
unwrap_wrap zero (b ∷ js) h = absurd (omega arith)
unwrap_wrap (suc n) (b ∷ js) h = first (unwrap_wrap n js (omega arith))
  where
    then : unwrap n (wrap js) ≡ some js
        → job_then (read_field (write_field 9 b ++ wrap js)) (unwrap n (rest_of (read_field (write_field 9 b ++ wrap js)))) ≡ some (b ∷ js)
    then e = unfold job_then rest_of in rw (read_write_field 9 b (wrap js), e)

    first : unwrap n (wrap js) ≡ some js → unwrap (suc n) (write_field 9 b ++ wrap js) ≡ some (b ∷ js)
    first e = unfold write_field in then e

-- what a job and those behind it were read from
record Split (f : Field) (o : Option Jobs) (js : Jobs) : Type 0 where
  value : List ℕ
  rest : List ℕ
  more : Jobs
  is_field : f ≡ field 9 value rest
  is_more : o ≡ some more
  is_jobs : js ≡ value ∷ more

split : (f : Field) (o : Option Jobs) (js : Jobs) → job_then f o ≡ some js → Split f o js
unfolding job_then
split broken o js e = no_jobs js e
split (field t v rest) none js e = no_jobs js e
split (field t v rest) (some more) js e = go (eqb t 9) refl e
  where
    go : (b : Bool) → eqb t 9 ≡ b → cond b (some (v ∷ more)) none ≡ some js → Split (field t v rest) (some more) js
    go false q e = no_jobs js e
    go true q e = record {
      value = v;
      rest = rest;
      more = more;
      is_field = ap (λ (k : ℕ). field k v rest) (eqb-true t 9 q);
      is_more = refl;
      is_jobs = sym (one_jobs e);
    }

-- WHAT IS READ WAS WRAPPED, and is no more than n
pub record Read (n : ℕ) (bs : List ℕ) (js : Jobs) : Type 0 where
  pub few : length js ≤ n
  pub wrapped : Bytes bs → wrap js ≡ bs

pub unwrap_read : (n : ℕ) (bs : List ℕ) (js : Jobs) → unwrap n bs ≡ some js → Read n bs js
unfolding unwrap wrap
unwrap_read zero [] js e = rw (← (one_jobs e)) (record { few = omega arith; wrapped = λ b. refl })
unwrap_read zero (b ∷ bs) js e = no_jobs js e
unwrap_read (suc n) [] js e = rw (← (one_jobs e)) (record { few = omega arith; wrapped = λ b. refl })
unwrap_read (suc n) (b ∷ bs) js e =
    let s : Split (read_field (b ∷ bs)) (unwrap n (rest_of (read_field (b ∷ bs)))) js = split _ _ js e in
    let m : Read n (rest_of (read_field (b ∷ bs))) s.more = unwrap_read n (rest_of (read_field (b ∷ bs))) s.more s.is_more in
    rw s.is_jobs (record { few = omega (arith, m.few); wrapped = λ ok. whole s m.wrapped ok })
  where
    whole : (s : Split (read_field (b ∷ bs)) (unwrap n (rest_of (read_field (b ∷ bs)))) js)
        → (Bytes (rest_of (read_field (b ∷ bs))) → wrap s.more ≡ rest_of (read_field (b ∷ bs)))
        → Bytes (b ∷ bs) → write_field 9 s.value ++ wrap s.more ≡ b ∷ bs
    whole s h ok =
        let is_rest : rest_of (read_field (b ∷ bs)) ≡ s.rest = unfold rest_of in ap rest_of s.is_field in
        let more : wrap s.more ≡ s.rest = h (rw is_rest (bytes_rest (b ∷ bs) 9 s.value s.rest ok s.is_field)) ∙ is_rest in
        rw more (write_read_field (b ∷ bs) 9 s.value s.rest ok s.is_field)

pub unwrap_exactly : (n : ℕ) (bs : List ℕ) (js : Jobs) → Bytes bs → (unwrap n bs ≡ some js) ↔ ((length js ≤ n) × (wrap js ≡ bs))
unwrap_exactly n bs js ok = (
  λ e. let r : Read n bs js = unwrap_read n bs js e in (r.few, r.wrapped ok),
  λ h. rw h.1 at (unwrap_wrap n js h.0),
)

-- one season
no_tells : {X : Type 0} {k : ℕ} {ns : List ℕ} → refuses_all k ≡ tells ns → X
no_tells e = let z : ◌≡◌ {A = ℕ} 0 1 = cc in absurd (omega arith)

-- THE TOTALS of wrapped jobs, no more than 200, are their figures
pub season_wrap : (js : Jobs) → length js ≤ 200 → season (wrap js) ≡ tells (figures js)
unfolding season tell
season_wrap js h = rw (unwrap_wrap 200 js h)

-- NINETEEN exactly where the bytes are not the wrapping of any 200 jobs or fewer
pub nineteen : (bs : List ℕ) → Bytes bs → (season bs ≡ refuses_all 19) ↔ ((js : Jobs) → length js ≤ 200 → wrap js ≡ bs → ⊥)
unfolding season
nineteen bs ok = (λ e js l w. forth e js l w, λ h. back h (unwrap 200 bs) refl)
  where
    forth : tell (unwrap 200 bs) ≡ refuses_all 19 → (js : Jobs) → length js ≤ 200 → wrap js ≡ bs → ⊥
    forth e js l w = unfold tell in no_tells (sym e ∙ ap tell (rw w at (unwrap_wrap 200 js l)))

    back : ((js : Jobs) → length js ≤ 200 → wrap js ≡ bs → ⊥) → (o : Option Jobs) → unwrap 200 bs ≡ o → tell (unwrap 200 bs) ≡ refuses_all 19
    back h none e = unfold tell in ap tell e
    back h (some js) e = let (l, w) = (unwrap_exactly 200 bs js ok).0 e in absurd (h js l w)

-- at the start there are none so far
pub tell_start : (bs : List ℕ) → season bs ≡ tell_with [] (unwrap 200 bs)
unfolding season
tell_start bs = go (unwrap 200 bs)
  where
    go : (o : Option Jobs) → tell o ≡ tell_with [] o
    go none = unfold tell tell_with in refl
    go (some js) = unfold tell tell_with in refl

-- what becomes of the totals at each wrapper, with the jobs before it
module _ (past : Jobs) where
  pub tell_end : (n : ℕ) → tell_with past (unwrap n []) ≡ tells (figures past)
  unfolding unwrap tell_with
  tell_end zero = rw (append-nil past)
  tell_end (suc n) = rw (append-nil past)

  pub tell_over : (b : ℕ) (bs : List ℕ) → tell_with past (unwrap 0 (b ∷ bs)) ≡ refuses_all 19
  unfolding unwrap tell_with
  tell_over b bs = refl

  pub tell_broken : (n b : ℕ) (bs : List ℕ) → read_field (b ∷ bs) ≡ broken → tell_with past (unwrap (suc n) (b ∷ bs)) ≡ refuses_all 19
  unfolding unwrap tell_with job_then
  tell_broken n b bs e = rw e

  pub tell_other : (n b : ℕ) (bs : List ℕ) (t : ℕ) (v rest : List ℕ) → read_field (b ∷ bs) ≡ field t v rest → (t ≡ 9 → ⊥)
      → tell_with past (unwrap (suc n) (b ∷ bs)) ≡ refuses_all 19
  unfolding unwrap
  tell_other n b bs t v rest e h = go (unwrap n (rest_of (read_field (b ∷ bs))))
    where
      go : (o : Option Jobs) → tell_with past (job_then (read_field (b ∷ bs)) o) ≡ refuses_all 19
      go none = unfold tell_with job_then in rw e
      go (some js) = unfold tell_with job_then in rw (e, ne_eqb t 9 h)

  pub tell_job : (n b : ℕ) (bs : List ℕ) (v rest : List ℕ) → read_field (b ∷ bs) ≡ field 9 v rest
      → tell_with past (unwrap (suc n) (b ∷ bs)) ≡ tell_with (past ++ v ∷ []) (unwrap n rest)
  unfolding unwrap rest_of
  tell_job n b bs v rest e = rw e (go (unwrap n rest))
    where
      go : (o : Option Jobs) → tell_with past (job_then (field 9 v rest) o) ≡ tell_with (past ++ v ∷ []) o
      go none = unfold tell_with job_then in refl
      go (some js) = unfold tell_with job_then in rw (append_assoc past (v ∷ []) js)
