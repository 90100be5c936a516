-- Quoted text as bytes. Assumes nothing.
use Rattle.std.specs.Prelude.{ℕ, List, [] as nil, ◌∷◌ as cons}
use Prim.Native.Char.{code}
use Prim.Native.String.{String, [], ◌∷◌}

-- the letters of a quoted text, by their numbers
unfoldable pub plain : String → List ℕ
plain [] = nil
plain (c ∷ t) = cons (code c) (plain t)
