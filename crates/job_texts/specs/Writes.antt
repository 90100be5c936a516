-- The pieces in which a job's text is put. Assumes nothing.
use Rattle.std.specs.Prelude.{ℕ, Bool, List, [], ◌∷◌, ◌++◌, ltb}
use Rattle.floor.specs.Lists.{all}
use Rattle.floor.specs.Jobs.{Star}
use Rattle.floor.specs.Quoted.{plain}
use Rattle.floor.specs.JobTexts.{side_word, contact_text}

-- a kind's side, a blank before and behind it
unfoldable pub side_text : ℕ → List ℕ
side_text k = plain " " ++ (side_word k ++ plain " ")

-- contacts, a comma before each
unfoldable pub more_text : Star → List ℕ
more_text [] = []
more_text (e ∷ s) = plain "," ++ (contact_text e ++ more_text s)

-- every kind of a star is a side
unfoldable pub star_sided : Star → Bool
star_sided s = all (λ e. ltb e.kind 4) s
