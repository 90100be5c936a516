-- The head of a wrapper, as it stands first in some bytes. Assumes nothing.
use Rattle.std.specs.Prelude.{ℕ, ◌+◌, ◌*◌, ◌<◌, cond, List, [], ◌∷◌, ◌==◌, Option, None, Some}

-- THE HEAD OF A WRAPPER: the tag 9 and the length of a job, high byte first
unfoldable pub head_in : List ℕ → Option ℕ
head_in [] = None
head_in (t ∷ []) = None
head_in (t ∷ h ∷ []) = None
head_in (t ∷ h ∷ l ∷ rest) = cond (t == 9) (Some (256 * h + l)) None

-- a job's length is one of two bytes
unfoldable pub fits : Option ℕ → Type 0
fits (Some n) = n < 65536
fits None = Unit {0}
