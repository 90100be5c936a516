-- Texts put at a place, and one behind another, as the code comes by them. Assumes nothing.
use Prim.Native.Nat.{ℕ, suc, ◌+◌, ◌-◌, ◌<◌, ◌≤◌, min}
use mathlib.Core.Path.{◌≡◌, refl, sym, ap, ◌∙◌}
use mathlib.Core.List.{List, [], ◌∷◌, ◌++◌, append_assoc}
use native.Mathlib.Omega.{arith}
use native.Mathlib.Decide.{dec_lt}
use lib.ListN.{length, set, take, drop, drop_of_length-le, take-append-drop, length-append}
use lib.Seq.{sets, sets-eq, length-sets, length-take-le, set_out, drop-drop}
use borrow.Rule.Slice.PartMut.{put_mid}
use Rattle.floor.specs.Texts.{line, refused_word}
use Rattle.fields.proofs.Puts.{sets_append}
use Rattle.letters.specs.Puts.{behind, Puts}

-- nothing is put behind the end
sets_out : (l vs : List ℕ) (i : ℕ) → length l ≤ i → sets l i vs ≡ l
sets_out l [] i h = refl
sets_out l (v ∷ vs) i h = rw (set_out l i v h) (sets_out l vs (suc i) (omega arith))

-- a text that there is room for, put at the front
pub front_whole : (o t x : List ℕ) (r : ℕ) → Puts o 0 t x r → length t ≤ length o → (r ≡ length t) × (x ≡ sets o 0 t)
unfolding behind
front_whole o t x r p h = (omega (arith, p.place), p.buffer)

-- the same on a page of n bytes
pub front_put : (o t x : List ℕ) (r : ℕ) {n : ℕ} → Puts o 0 t x r → length o ≡ n → length t ≤ n → (r ≡ length t) × (x ≡ sets o 0 t) × (r ≤ n)
front_put o t x r p l h = let (e, q) = front_whole o t x r p (omega arith) in (e, q, omega arith)

-- a text put behind another: the two, put as one
pub both_puts : (o x y vs ws : List ℕ) (at m r : ℕ) → Puts o at vs x m → Puts x m ws y r → Puts o at (vs ++ ws) y r
unfolding behind
both_puts o x y vs ws at m r p q =
    let l : length x ≡ length o = ap (λ (z : List ℕ). length z) p.buffer ∙ length-sets o at vs in
    record { buffer = q.buffer ∙ seam (dec_lt (length o) (at + length vs)) ∙ sym (sets_append o at vs ws); place = omega (arith, p.place, q.place, length-append vs ws) }
  where
    seam : Dec (length o < at + length vs) → sets x m ws ≡ sets (sets o at vs) (at + length vs) ws
    seam (yes h) =
        let l : length (sets o at vs) ≡ length o = length-sets o at vs in
        rw p.buffer (sets_out (sets o at vs) ws m (omega (arith, p.place)) ∙ sym (sets_out (sets o at vs) ws (at + length vs) (omega arith)))
    seam (no h) =
        let e : m ≡ at + length vs = omega (arith, p.place) in
        rw (p.buffer, e)

-- what there is no room for is not put
sets_cut : (o s : List ℕ) (at n : ℕ) → n ≡ min (length s) (length o - at) → sets o at s ≡ sets o at (take n s)
sets_cut o s at n e =
    ap (λ (l : List ℕ). sets o at l) (sym (take-append-drop n s)) ∙ sets_append o at (take n s) (drop n s) ∙ rest (dec_lt n (length s))
  where
    rest : Dec (n < length s) → sets (sets o at (take n s)) (at + length (take n s)) (drop n s) ≡ sets o at (take n s)
    rest (yes h) = sets_out (sets o at (take n s)) (drop n s) (at + length (take n s)) (omega (arith, length-sets o at (take n s), length-take-le n s (omega arith)))
    rest (no h) = let k : length s ≤ n = omega arith in rw (drop_of_length-le s k) refl

-- a word, as far as there is room, written over the bytes behind a place is the word put there
pub word_put : (o s ys : List ℕ) (at start many : ℕ) → start ≡ min at (length o) → many ≡ min (length s) (length o - at) → ys ≡ take many s
    → Puts o at s (put_mid start (start + many - start) o ys) (at + many)
unfolding behind
word_put o s ys at start many es em ey = record { buffer = go (dec_lt (length o) at); place = omega arith }
  where
    long : length (take many s) ≡ many
    long = length-take-le many s (omega arith)

    there : put_mid start (start + many - start) o ys ≡ sets o start (take many s)
    there = let ek : start + many - start ≡ many = omega arith in rw (ey, ek) (ap (λ (l : List ℕ). take start o ++ (take many s ++ l)) (drop-drop many start o ∙ ap (λ (m : ℕ). drop (start + m) o) (sym long)) ∙ sym (append_assoc (take start o) (take many s) _) ∙ sym (sets-eq (take many s) o start (omega (arith, long))))

    go : Dec (length o < at) → put_mid start (start + many - start) o ys ≡ sets o at s
    go (yes h) = let e : many ≡ 0 = omega arith in there ∙ rw e (sym (sets_out o s at (omega arith)))
    go (no h) = let e : start ≡ at = omega arith in there ∙ rw e (sym (sets_cut o s at many em))

-- nothing, put
pub none_put : (o : List ℕ) (at : ℕ) → Puts o at [] o at
unfolding behind
none_put o at = record { buffer = refl; place = omega arith }

-- one byte, put or not
module _ (o : List ℕ) (at b : ℕ) where
  -- a byte is put where there is room, and the place behind it is the next
  pub byte_put : at < length o → Puts o at (b ∷ []) (set o at b) (at + 1)
  unfolding behind
  byte_put h = record { buffer = refl; place = omega arith }

  -- past the end no byte is put, and the place stays
  pub byte_out : length o ≤ at → Puts o at (b ∷ []) o at
  unfolding behind
  byte_out h = record { buffer = sym (set_out o at b h); place = omega arith }

-- a text under another name
pub named : (o t w x : List ℕ) (at r : ℕ) → t ≡ w → Puts o at t x r → Puts o at w x r
named o t w x at r e p = rw e at p

-- a refusal: the word, then its number on the same line
pub refusal_put : (o x y : List ℕ) (at m r n k : ℕ) → Puts o at refused_word x m → n ≡ k → Puts x m (line (n ∷ [])) y r
    → Puts o at (refused_word ++ line (k ∷ [])) y r
refusal_put o x y at m r n k p e q = both_puts o x y refused_word (line (k ∷ [])) at m r p (rw e at q)
