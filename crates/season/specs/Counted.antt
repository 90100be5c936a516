-- What a job counts for in each figure, and figures added. Assumes nothing.
use Rattle.std.specs.Prelude.{ℕ, ◌+◌, ◌-◌, ◌*◌, ◌%◌, ◌^◌, cond, List, [], ◌∷◌, ◌++◌, map, ◌==◌}
use Rattle.floor.specs.Plans.{Answer}
use Rattle.floor.specs.Totals.{refusals, measures}

-- WHAT A JOB COUNTS FOR, by its answer: one number for each figure
unfoldable pub counted : Answer → List ℕ
counted a = map (λ m. m a) measures

-- the same by numbers: whether it is accepted, the refusal that it fell to, its sheet, and the cells of its frame
unfoldable pub listed : ℕ → ℕ → ℕ → ℕ → ℕ → List ℕ
listed a k w h f = a ∷ (map (λ n. cond (k == n) 1 0) refusals ++ (w ∷ h ∷ (w * h - f) ∷ f ∷ (w * h) ∷ []))

-- figures added to others, place by place, modulo 2 ^ 64
unfoldable pub added : List ℕ → List ℕ → List ℕ
added [] ns = []
added (m ∷ ms) [] = m ∷ ms
added (m ∷ ms) (n ∷ ns) = (m + n) % 2 ^ 64 ∷ added ms ns
