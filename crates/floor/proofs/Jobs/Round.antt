-- Stars started elsewhere: who stands in them, and what once round them says. Assumes nothing.
use Rattle.std.specs.Prelude.{ℕ, zero, suc, ◌<◌, ◌≡◌, refl, ◌⊎◌, Bool, length, get_or, drop}
use Rattle.std.proofs.Common.{sym, ap, ◌∙◌, inl, inr, arith}
use mathlib.Core.List.Memᴰ
use mathlib.Core.List.{List, [], ◌∷◌, ◌++◌, map, append-nil, append_assoc, Memᴰ}
use Rattle.floor.specs.Lists.{all, any}
use Rattle.floor.specs.Lists.Laws.{count}
use Rattle.floor.proofs.Lists.Laws.{count_exchange, all_exchange, any_exchange, Cut, cuts}
use Rattle.floor.specs.Jobs.{Entry, Star, Link, links_to, links, Restarted}

-- THE SAME START, BACK AGAIN, AND ONE START AFTER ANOTHER
pub restart_none : (s : Star) → Restarted s s
restart_none s = record { front = []; rest = s; is_one = refl; is_other = sym (append-nil s) }

-- where t is the star s started elsewhere, s is the star t started elsewhere
pub restart_back : {s t : Star} → Restarted s t → Restarted t s
restart_back r = record { front = r.rest; rest = r.front; is_one = r.is_other; is_other = r.is_one }

-- a star started elsewhere, and once more elsewhere, is the first one started elsewhere
pub restart_twice : {s t u : Star} → Restarted s t → Restarted t u → Restarted s u
restart_twice {s} {t} {u} r q = go (cuts r.rest r.front q.front q.rest (sym r.is_other ∙ q.is_one))
  where
    go : Cut r.rest r.front q.front q.rest ⊎ Cut q.front q.rest r.rest r.front → Restarted s u
    go (inl c) = record {
      front = c.between;
      rest = q.rest ++ r.rest;
      is_one = r.is_one ∙ ap (λ (l : Star). l ++ r.rest) c.shorter ∙ append_assoc c.between q.rest r.rest;
      is_other = q.is_other ∙ ap (λ (l : Star). q.rest ++ l) c.longer ∙ sym (append_assoc q.rest r.rest c.between);
    }
    go (inr c) = record {
      front = r.front ++ q.front;
      rest = c.between;
      is_one = r.is_one ∙ ap (λ (l : Star). r.front ++ l) c.longer ∙ sym (append_assoc r.front q.front c.between);
      is_other = q.is_other ∙ ap (λ (l : Star). l ++ q.front) c.shorter ∙ append_assoc c.between r.front q.front;
    }

-- WHO STANDS IN IT
pub restart_mem : {s t : Star} → Restarted s t → {e : Entry} → Memᴰ e s → Memᴰ e t
restart_mem r {e} m = rw r.is_other (go (Memᴰ.append_cases r.front (rw r.is_one at m)))
  where
    go : Memᴰ e r.front ⊎ Memᴰ e r.rest → Memᴰ e (r.rest ++ r.front)
    go (inl m) = Memᴰ.append_right r.rest m
    go (inr m) = Memᴰ.append_left r.front m

-- how many entries pass a test does not hang on where the star starts
pub restart_count : {s t : Star} → Restarted s t → (p : Entry → Bool) → count p s ≡ count p t
restart_count r p = ap (count p) r.is_one ∙ count_exchange p r.front r.rest ∙ ap (count p) (sym r.is_other)

-- whether all entries pass a test does not hang on where the star starts
pub restart_all : {s t : Star} → Restarted s t → (p : Entry → Bool) → all p s ≡ all p t
restart_all r p = ap (all p) r.is_one ∙ all_exchange p r.front r.rest ∙ ap (all p) (sym r.is_other)

-- whether some entry passes a test does not hang on where the star starts
pub restart_any : {s t : Star} → Restarted s t → (p : Entry → Bool) → any p s ≡ any p t
restart_any r p = ap (any p) r.is_one ∙ any_exchange p r.front r.rest ∙ ap (any p) (sym r.is_other)

-- two stars one behind the other, each entry changed: those of the first changed, then those of the second
map_append : (f : Entry → Entry) (s t : Star) → map f (s ++ t) ≡ map f s ++ map f t
map_append f [] t = refl
map_append f (e ∷ s) t = ap (λ (l : Star). f e ∷ l) (map_append f s t)

-- a star started elsewhere, each entry changed, is the star with each entry changed, started elsewhere
pub restart_map : {s t : Star} → Restarted s t → (f : Entry → Entry) → Restarted (map f s) (map f t)
restart_map r f = record {
  front = map f r.front;
  rest = map f r.rest;
  is_one = ap (map f) r.is_one ∙ map_append f r.front r.rest;
  is_other = ap (map f) r.is_other ∙ map_append f r.rest r.front;
}

-- ONCE ROUND
next_of : (s t : Star) (back : Entry) → get_or (s ++ t) 0 back ≡ get_or s 0 (get_or t 0 back)
next_of [] t back = refl
next_of (e ∷ s) t back = refl

-- the links of two stars, one behind the other: those of the first, led on to the second, then those of the second
pub links_append : (s t : Star) (back : Entry) → links_to back (s ++ t) ≡ links_to (get_or t 0 back) s ++ links_to back t
unfolding links_to
links_append [] t back = refl
links_append (e ∷ s) t back = rw (next_of s t back, links_append s t back)

-- the links from a place on: the first of them, and those from the next place on
pub links_drop : (back d : Entry) (s : Star) (i : ℕ) → i < length s
    → links_to back (drop i s) ≡ record { this = get_or s i d; next = get_or s (suc i) back } ∷ links_to back (drop (suc i) s)
unfolding links_to
links_drop back d [] i h = absurd (omega arith)
links_drop back d (e ∷ s) zero h = refl
links_drop back d (e ∷ s) (suc i) h = links_drop back d s i (omega arith)

-- the links of a star started elsewhere: the same, started elsewhere
record Exchanged (s t : Star) : Type 0 where
  one : List Link
  two : List Link
  is_one : links s ≡ one ++ two
  is_other : links t ≡ two ++ one

-- the two parts of a star put the other way round: its links are the same, started elsewhere
exchanged : (s t : Star) → Exchanged (s ++ t) (t ++ s)
unfolding links
exchanged [] t = record { one = []; two = links t; is_one = refl; is_other = ap links (append-nil t) ∙ sym (append-nil (links t)) }
exchanged (d ∷ s) [] =
    record { one = links (d ∷ s); two = []; is_one = ap (λ (l : Star). links (d ∷ l)) (append-nil s) ∙ sym (append-nil (links (d ∷ s))); is_other = refl }
exchanged (d ∷ s) (e ∷ t) = record {
  one = links_to e (d ∷ s);
  two = links_to d (e ∷ t);
  is_one = links_append (d ∷ s) (e ∷ t) d;
  is_other = links_append (e ∷ t) (d ∷ s) e;
}

module _ {s t : Star} (r : Restarted s t) where
  -- the links of the two stars are the same, started elsewhere
  x : Exchanged s t
  x = rw (r.is_one, r.is_other) (exchanged r.front r.rest)

  -- whether all pass a test, once round the star, does not hang on where it starts
  pub links_all : (p : Link → Bool) → all p (links s) ≡ all p (links t)
  links_all p = ap (all p) x.is_one ∙ all_exchange p x.one x.two ∙ ap (all p) (sym x.is_other)

  -- whether some link passes a test, once round the star, does not hang on where it starts
  pub links_any : (p : Link → Bool) → any p (links s) ≡ any p (links t)
  links_any p = ap (any p) x.is_one ∙ any_exchange p x.one x.two ∙ ap (any p) (sym x.is_other)

  -- how many pass a test, once round the star, does not hang on where it starts
  pub links_count : (p : Link → Bool) → count p (links s) ≡ count p (links t)
  links_count p = ap (count p) x.is_one ∙ count_exchange p x.one x.two ∙ ap (count p) (sym x.is_other)
