-- What follows from the promises: two answers that one allows are equal. Assumes nothing.
use Prim.Native.Nat.{ℕ, ◌≤◌}
use mathlib.Core.Path.{◌≡◌, refl, sym, ◌∙◌, ap}
use mathlib.Core.List.{List}
use native.Mathlib.Omega.{arith}
use lib.ListN.{length, drop, length-drop}
use denote.Ref.{Bor}
use Rattle.floor.specs.Fields.{read_field}
use Rattle.floor.specs.Calls.{Reply}
use Rattle.std.specs.Prelude.{Option, Some, None, Result, Ok, Err}
use Rattle.fields.specs.declared.Field.{Field}
use Rattle.fields.specs.declared.reader.Reader.{Reader}
use Rattle.fields.specs.Found.{found, Stands}
use Rattle.refusals.specs.declared.Refusal.{Refusal}
use Rattle.refusals.specs.Numbers.{number_of}
use Rattle.refusals.proofs.Same.{same_refusal}
use Rattle.fields.specs.Writes.{replied, writing}

-- places within some bytes that have the same bytes behind them are one
rest_length : (s : List ℕ) (e e' : ℕ) → e ≤ length s → e' ≤ length s → drop e s ≡ drop e' s → e ≡ e'
rest_length s e e' h h' q = omega (arith, simp length-drop at (ap (λ (l : List ℕ). length l) q))

-- fields of one tag, from one place to one end, are one
same_field : (t u a b x y : ℕ) → t ≡ u → a ≡ b → x ≡ y → ◌≡◌ {A = Field} (record { tag = t; start = a; end = x }) (record { tag = u; start = b; end = y })
same_field t u a b x y p q r = rw (p, q, r)

-- the promise of `read_at`, which is that of `next` too, allows one answer
pub one_field : (s : List ℕ) (at : ℕ) (f g : Option Field) → found f s ≡ read_field (drop at s) → Stands f at (length s)
    → found g s ≡ read_field (drop at s) → Stands g at (length s) → f ≡ g
unfolding found Stands
one_field s at None None p a q b = refl
one_field s at None (Some g) p a q b = absurd (let z : ◌≡◌ {A = ℕ} 0 1 = cc in omega arith)
one_field s at (Some f) None p a q b = absurd (let z : ◌≡◌ {A = ℕ} 0 1 = cc in omega arith)
one_field s at (Some f) (Some g) p a q b =
    let d : drop f.end s ≡ drop g.end s = cc in
    let tag : f.tag ≡ g.tag = cc in
    let start : f.start ≡ g.start = a.0 ∙ sym b.0 in
    let end : f.end ≡ g.end = rest_length s f.end g.end a.2 b.2 d in
    ap Some (same_field f.tag g.tag f.start g.start f.end g.end tag start end)

-- readers of the same bytes at the same place are one
same_reader : (s t : Bor (List ℕ)) (a b : ℕ) → s ≡ t → a ≡ b → ◌≡◌ {A = Reader} (record { bytes = s; place = a }) (record { bytes = t; place = b })
same_reader s t a b p q = rw (p, q)

-- the promise of `start` allows one reader
pub one_reader : (s : Bor (List ℕ)) (n : ℕ) (r t : Reader) → (r.bytes ≡ s) × (r.place ≡ n) → (t.bytes ≡ s) × (t.place ≡ n) → r ≡ t
one_reader s n r t p q = same_reader r.bytes t.bytes r.place t.place (p.0 ∙ sym q.0) (p.1 ∙ sym q.1)

-- a promise that is an equation, as those of `value_at`, `after_at` and `put_head`, allows one answer
pub one_answer : {A : Type 0} (r t w : A) → r ≡ w → t ≡ w → r ≡ t
one_answer r t w p q = p ∙ sym q

-- answers to a writing that say the same are one
same_reply : (a b : Result ℕ Refusal) (x : Reply) → replied a ≡ x → replied b ≡ x → a ≡ b
unfolding replied
same_reply (Ok n) (Ok m) x p q = let e : n ≡ m = cc in cc
same_reply (Ok n) (Err e) x p q = absurd (let z : ◌≡◌ {A = ℕ} 0 1 = cc in omega arith)
same_reply (Err e) (Ok m) x p q = absurd (let z : ◌≡◌ {A = ℕ} 0 1 = cc in omega arith)
same_reply (Err e) (Err f) x p q = ap Err (same_refusal e f (let z : number_of e ≡ number_of f = cc in z))

-- a promise on writing some bytes allows one answer and one buffer
pub one_written : (bs o : List ℕ) (a b : Result ℕ Refusal) (x y : List ℕ) → (replied a ≡ (writing bs o).reply) × (x ≡ (writing bs o).buffer)
    → (replied b ≡ (writing bs o).reply) × (y ≡ (writing bs o).buffer) → (a ≡ b) × (x ≡ y)
one_written bs o a b x y p q = (same_reply a b (writing bs o).reply p.0 q.0, p.1 ∙ sym q.1)
