-- A text, line by line, as the code comes by it. Assumes nothing.
use Prim.Native.Nat.{ℕ, suc, ◌+◌, ◌-◌, ◌*◌, ◌<◌, ◌≤◌}
use mathlib.Core.Path.{◌≡◌, refl, sym, ◌∙◌, ap}
use mathlib.Core.Bool.{Bool, true, false, cond}
use mathlib.Core.List.{List, [], ◌∷◌}
use native.Mathlib.Omega.{arith}
use borrow.Author.Tests.{eq-eqb, ne_eqb}
use lib.Dec.{eqb}
use lib.ListN.{length, get_or, drop, replicate, drop_of_length-le}
use lib.Seq.{sets, drop-cons}
use Rattle.std.specs.Prelude.{Result, Ok, Err}
use Rattle.std.specs.List.{slice_split, onto_first}
use Rattle.floor.specs.Lists.{any}
use Rattle.floor.specs.Jobs.{Star, Job, Size, Sizes, SizedJob, sized_job, larger, size_bytes}
use Rattle.floor.specs.JobTexts.{skip, uncommented, nothing, room_line, longer, lines, behind_room, taken, read_lines, told_sizes, told_job, read_text}
use Rattle.floor.specs.JobTexts.{room_number, Line, lacks, star, TextRead, wrong_line, a_job}
use Rattle.stars.specs.declared.Stars.{Stars}
use Rattle.stars.specs.Held.{job_of, no_stars, put_star, put_all, held_of}
use Rattle.stars.specs.Sized.{sizes_from, sizes_in, sizes_of, held_sizes}
use Rattle.stars.proofs.Back.{given_back}
use Rattle.stars.proofs.Holding.{length_stars}
use Rattle.stars.proofs.Sized.{sizes_back}
use Rattle.job_texts.specs.declared.Lack.{Lack}
use Rattle.job_texts.specs.declared.Lack.TheVariants.{RoomNumber}
use Rattle.job_texts.specs.declared.Slip.{Slip}
use Rattle.job_texts.specs.declared.Rooms.{Rooms}
use Rattle.jobs.specs.declared.Job.{Job as Taken}
use Rattle.job_texts.specs.Reads.{lack_of, LinePut, bad_line, good_line, no_rooms, put_size, put_room, put_line, on_line, lined_of, Kept, wrong_at, all_held}
use Rattle.job_texts.specs.Reads.{put_rooms, finish, on_lines, gathered_of, taken_of}
use Rattle.job_texts.proofs.Limits.{Within, text_lines}

-- the lines of a text are its parts between the ends of lines
pub lines_parts : (t : List ℕ) → slice_split (λ b. eqb b 10) t ≡ lines t
unfolding lines longer
lines_parts [] = refl
lines_parts (b ∷ t) = rw (lines_parts t) (ap (λ (ls : List (List ℕ)). cond (eqb b 10) ([] ∷ lines t) ls) (go (lines t)))
  where
    go : (ls : List (List ℕ)) → onto_first b ls ≡ longer b ls
    go [] = refl
    go (l ∷ ls) = refl

-- the line of a turn, by how many lines were before it
pub turn_here : (t l : List ℕ) (i n : ℕ) → i ≡ n → (n < length (slice_split (λ b. eqb b 10) t)) × (l ≡ get_or (slice_split (λ b. eqb b 10) t) n l)
    → (i < length (lines t)) × (l ≡ get_or (lines t) i l)
turn_here t l i n e h = rw (e, ← lines_parts t) h

-- behind the last turn no line is left
pub turn_last : (t : List ℕ) (i n : ℕ) → i ≡ n → n ≡ length (slice_split (λ b. eqb b 10) t) → length (lines t) ≤ i
turn_last t i n e h = let z : n ≡ length (lines t) = rw (lines_parts t) at h in omega arith

-- what comes of the lines behind one that is put
after_line : ℕ → List (List ℕ) → LinePut → Kept
after_line i ls (bad_line x) = wrong_at i x
after_line i ls (good_line h) = on_lines h i ls

-- a room in front of what is left of a text is put, and then the rest is
finish_room : (h : Rooms) (s : Star) (z : Size) (x : TextRead) → finish h (behind_room s z x) ≡ finish (put_room h s z) x
unfolding finish behind_room put_rooms
finish_room h s z (wrong_line i x) = refl
finish_room h s z (a_job o) = refl

-- one room more is counted
room_count : (h : Rooms) (s : Star) (z : Size) → (put_room h s z).held.stars.count ≡ h.held.stars.count + 1
unfolding put_room put_star
room_count h s z = refl

-- its entries are put
room_next : (h : Rooms) (s : Star) (z : Size) → (put_room h s z).held.next ≡ h.held.next + length s
unfolding put_room
room_next h s z = refl

-- some lines put behind held rooms: the first of them, then the others
line_put : (h : Rooms) (i : ℕ) (l : List ℕ) (ls : List (List ℕ)) → on_lines h i (l ∷ ls) ≡ after_line (i + 1) ls (on_line h (skip (uncommented l)))
unfolding on_lines on_line read_lines taken finish put_line after_line
line_put h i l ls = go (nothing t) (room_line left (4 + h.held.stars.count) t)
  where
    left : ℕ
    left = 360 - h.held.next

    t : List ℕ
    t = skip (uncommented l)

    rest : Star → Size → TextRead
    rest s z = behind_room s z (read_lines (suc i) (suc (4 + h.held.stars.count)) (left - length s) ls)

    n : i + 1 ≡ suc i
    n = omega arith

    go : (x : Bool) (y : Line) → finish h (cond x (read_lines (suc i) (4 + h.held.stars.count) left ls) (taken (suc i) y rest))
        ≡ after_line (i + 1) ls (cond x (good_line h) (put_line h y))
    go true y = rw n
    go false (lacks x) = rw n
    go false (star s z) =
        let e₁ : suc (4 + h.held.stars.count) ≡ 4 + (h.held.stars.count + 1) = omega arith in
        let e₂ : left - length s ≡ 360 - (h.held.next + length s) = omega arith in
        finish_room h s z (read_lines (suc i) (suc (4 + h.held.stars.count)) (left - length s) ls) ∙ rw (n, e₁, e₂, ← room_count h s z, ← room_next h s z)

-- no rooms, by their stars
pub none_yet : (a : Stars) → a ≡ no_stars → ◌≡◌ {A = Rooms} (record { held = record { stars = a; next = 0 }; list = replicate 120 0 }) no_rooms
unfolding no_rooms
none_yet a e = rw e

-- nothing put yet
pub lines_first : (ls : List (List ℕ)) (h : Rooms) → h ≡ no_rooms → on_lines h 0 ls ≡ finish no_rooms (read_lines 0 4 360 ls)
unfolding on_lines no_rooms no_stars
lines_first ls h e = rw e

-- one turn: a line is put
module _ (ls : List (List ℕ)) (h : Rooms) (i : ℕ) (w : Kept) (inv : on_lines h i (drop i ls) ≡ w) (l : List ℕ) (t : (i < length ls) × (l ≡ get_or ls i l))
    (r : Result Rooms Lack) (er : lined_of r ≡ on_line h (skip (uncommented l))) where
  -- what the line comes to, and then the lines behind it
  after_row : after_line (i + 1) (drop (i + 1) ls) (lined_of r) ≡ w
  after_row =
      let z : i + 1 ≡ suc i = omega arith in
      rw er (sym (line_put h i l (drop (i + 1) ls)) ∙ rw z (rw (drop-cons ls i l t.0, ← t.1) at inv))

  -- it is wrong
  pub lines_wrong : (x : Lack) → r ≡ Err x → gathered_of (Err (record { line = i + 1; lack = x })) ≡ w
  unfolding gathered_of lined_of after_line
  lines_wrong x e = rw e at after_row

  -- it is right, and the lines behind it are left
  pub lines_next : (p : Rooms) → r ≡ Ok p → on_lines p (i + 1) (drop (i + 1) ls) ≡ w
  unfolding lined_of after_line
  lines_next p e = rw e at after_row

-- no line is left
module _ (ls : List (List ℕ)) (h : Rooms) (i : ℕ) (w : Kept) (l : length ls ≤ i) (inv : on_lines h i (drop i ls) ≡ w) where
  -- there are rooms, or there is none
  no_lines : finish h (cond (eqb (4 + h.held.stars.count) 4) (wrong_line i (room_number 4)) (a_job (sized_job [] []))) ≡ w
  unfolding on_lines read_lines
  no_lines = rw (drop_of_length-le ls l) at inv

  -- there is none: room 4 is lacking
  pub no_rooms_lem : h.held.stars.count ≡ 0 → gathered_of (Err (record { line = i; lack = RoomNumber 4 })) ≡ w
  unfolding gathered_of lack_of finish
  no_rooms_lem e = rw (eq-eqb (4 + h.held.stars.count) 4 (omega arith)) at no_lines

  -- there are rooms, and they are held
  pub lines_done : (h.held.stars.count ≡ 0 → ⊥) → gathered_of (Ok h) ≡ w
  unfolding gathered_of finish put_rooms
  lines_done n = rw (ne_eqb (4 + h.held.stars.count) 4 (λ e. n (omega arith))) at no_lines

-- ---- the sizes that are told

module _ (l : List ℕ) (n : ℕ) (b : Bool) (e : b ≡ any larger (sizes_in n l)) where
  -- where some size is more than one cell, all are told
  pub all_told : b ≡ true → sizes_in n l ≡ told_sizes (sizes_in n l)
  unfolding told_sizes
  all_told t = rw (← e, t)

  -- else none is
  pub none_told : b ≡ false → sizes_in 0 l ≡ told_sizes (sizes_in n l)
  unfolding told_sizes sizes_from
  none_told t = rw (← e, t)

-- ---- rooms held, and given back

-- rooms put behind others, as many sizes as stars: the stars of all, and the sizes one behind the other
rooms_put : (h : Rooms) (j : Job) (z : Sizes) → length z ≡ length j
    → ((put_rooms h j z).held.stars ≡ put_all h.held.stars h.held.next j) × ((put_rooms h j z).list ≡ sets h.list (2 * h.held.stars.count) (size_bytes z))
unfolding put_rooms put_all size_bytes put_room put_size put_star
rooms_put h [] [] e = (refl, refl)
rooms_put h [] (x ∷ z) e = absurd (omega arith)
rooms_put h (s ∷ j) [] e = absurd (omega arith)
rooms_put h (s ∷ j) (x ∷ z) e =
    let n : ℕ = h.held.stars.count in
    let e₁ : 2 * n + 1 ≡ suc (2 * n) = omega arith in
    let e₂ : 2 * (n + 1) ≡ suc (suc (2 * n)) = omega arith in
    let p = rooms_put (put_room h s x) j z (omega arith) in
    (p.0, p.1 ∙ rw (e₁, e₂))

-- the rooms of a job, put behind none, hold its stars and its sizes
rooms_held : (j : Job) (z : Sizes) → length z ≡ length j → ((put_rooms no_rooms j z).held.stars ≡ held_of j) × ((put_rooms no_rooms j z).list ≡ (held_sizes z).list)
unfolding no_rooms no_stars held_of held_sizes
rooms_held j z e = rooms_put no_rooms j z e

-- as many stars are held as the job has, where it is given back
held_count : (j : Job) → job_of (held_of j) ≡ j → (held_of j).count ≡ length j
unfolding job_of
held_count j e =
    let h : Stars = held_of j in
    sym (length_stars h.count 0 h.ends h.nbr h.kind) ∙ ap (λ (i : Job). length i) e

-- the job that held rooms give back, where as many sizes are read as there are rooms
rooms_back : (g : Rooms) (o : SizedJob) → g ≡ put_rooms no_rooms o.stars o.sizes → Within 0 4 360 (a_job o)
    → (job_of g.held.stars ≡ o.stars) × (sizes_in g.held.stars.count g.list ≡ o.sizes)
unfolding sizes_of held_sizes
rooms_back g o e w =
    let j : Job = o.stars in
    let (a, b) = rooms_held j o.sizes w.3 in
    let h : g.held.stars ≡ held_of j = rw e a in
    let l : g.list ≡ (held_sizes o.sizes).list = rw e b in
    let k : job_of (held_of j) ≡ j = given_back j (omega (arith, w.0)) w.1 w.2 in
    let n : (held_of j).count ≡ length o.sizes = held_count j k ∙ sym w.3 in
    (rw h k, rw (h, l, n) (sizes_back o.sizes (omega (arith, w.0, w.3))))

-- what is told of a text is what it is read as
module _ (t : List ℕ) (q : Result Rooms Slip) (e : gathered_of q ≡ finish no_rooms (read_lines 0 4 360 (lines t))) where
  -- a line is wrong
  pub text_wrong : (y : Slip) (r : Result Taken Slip) → q ≡ Err y → r ≡ Err y → taken_of r ≡ read_text t
  unfolding read_text told_job taken_of gathered_of finish
  text_wrong y r f g = rw g (go (read_lines 0 4 360 (lines t)) (rw f at e))
    where
      go : (x : TextRead) → wrong_at y.line (lack_of y.lack) ≡ finish no_rooms x → wrong_line y.line (lack_of y.lack) ≡ told_job x
      go (wrong_line i z) h = let a : y.line ≡ i = cc in let b : lack_of y.lack ≡ z = cc in rw (a, b)
      go (a_job o) h = let z : ◌≡◌ {A = ℕ} 0 1 = cc in absurd (omega arith)

  -- none is
  pub text_right : (h : Rooms) (n : ℕ) → q ≡ Ok h → sizes_in n h.list ≡ told_sizes (sizes_in h.held.stars.count h.list)
      → taken_of (Ok (record { stars = h.held.stars; sizes = record { told = n; list = h.list } })) ≡ read_text t
  unfolding read_text told_job taken_of gathered_of finish sizes_of
  text_right h n f k = go (read_lines 0 4 360 (lines t)) (text_lines t) (rw f at e)
    where
      go : (x : TextRead) → Within (length t + 1) 4 360 x → all_held h ≡ finish no_rooms x → a_job (sized_job (job_of h.held.stars) (sizes_in n h.list)) ≡ told_job x
      go (wrong_line i y) w g = let z : ◌≡◌ {A = ℕ} 0 1 = cc in absurd (omega arith)
      go (a_job o) w g =
          let u : h ≡ put_rooms no_rooms o.stars o.sizes = cc in
          let (a, b) = rooms_back h o u w in
          rw (k, a, b)
