-- What is to be done with a rectangle: a cut, a leaf, or nothing can be. Assumes nothing.
use Rattle.std.specs.Prelude.{ℕ, ◌-◌, List, Option as Answer, Some, None}
use Rattle.std.proofs.Math.Option.{Option, none, some}
use Rattle.floor.specs.Plans.{Rect}
use Rattle.floor.specs.Cuts.{upright, level, Tree, leaf, cut, Choice, no_cut, takes}
use Rattle.drawing.specs.Rects.{rects_in}
use Rattle.cuts.specs.declared.Task.{Task}
use Rattle.cuts.specs.declared.Task.TheVariants.{Leaf, Upright, Level}

-- the rooms that stand in held numbers from vertex v to before vertex n
unfoldable pub rooms_from : ℕ → ℕ → List ℕ → List Rect
rooms_from n v l = rects_in (n - v) v l

-- the room of a leaf
unfoldable pub leaf_room : Option Tree → Answer ℕ
leaf_room none = None
leaf_room (some (leaf v)) = Some v
leaf_room (some (cut a c s t)) = None

-- the chosen cut, or nothing
unfoldable pub cut_task : Choice → Answer Task
cut_task no_cut = None
cut_task (takes upright c) = Some (Upright c)
cut_task (takes level c) = Some (Level c)

-- the leaf if there is one, else the chosen cut
unfoldable pub task_of : Option Tree → Choice → Answer Task
task_of none k = cut_task k
task_of (some (leaf v)) k = Some (Leaf v)
task_of (some (cut a c s t)) k = None
