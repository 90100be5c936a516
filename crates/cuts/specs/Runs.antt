-- The bytes of the trees of rectangles that wait on a stack, and what is answered. Assumes nothing.
use Rattle.std.specs.Prelude.{ℕ, zero, suc, ◌%◌, ◌≤◌, ◌≡◌, List, [], ◌∷◌, ◌++◌, length, get_or, take, Option as Answer, Some, None}
use Rattle.std.proofs.Math.Option.{Option, none, some}
use Rattle.floor.specs.Fields.{write_field}
use Rattle.floor.specs.Plans.{Rect, Plan}
use Rattle.floor.specs.Registers.{Partition}
use Rattle.floor.specs.Calls.{empty, Step, refuse}
use Rattle.floor.specs.Cuts.{Tree, write_tree, rooms_of, inner}
use Rattle.floor.specs.Cuts.ByWalls.{tree_by, capped}
use Rattle.fields.specs.Writes.{writing as written}
use Rattle.drawing.specs.declared.Rect.{Rect as HeldRect}
use Rattle.drawing.specs.Rects.{rect_in, in_bytes}
use Rattle.registers.specs.Sorting.{rooms, kept_walls}
use Rattle.registers.specs.Kept.{walls}
use Rattle.cuts.specs.declared.Task.{Task}
use Rattle.cuts.specs.declared.Task.TheVariants.{Leaf, Upright, Level}
use Rattle.cuts.specs.declared.Act.{Act}

-- a tree's bytes
unfoldable pub tree_bytes : Option Tree → Option (List ℕ)
tree_bytes none = none
tree_bytes (some t) = some (in_bytes (write_tree t))

-- the bytes of the tree of a rectangle, by walls
unfoldable pub bytes_by : List Partition → List Rect → Rect → Option (List ℕ)
bytes_by ws rs b = tree_bytes (tree_by ws rs b)

-- bytes and further bytes, if there are both
unfoldable pub glue : Option (List ℕ) → Option (List ℕ) → Option (List ℕ)
glue none o = none
glue (some x) none = none
glue (some x) (some y) = some (x ++ y)

-- the bytes of the trees of several rectangles, one behind the other
unfoldable pub runs : List Partition → List Rect → List Rect → Option (List ℕ)
runs ws rs [] = some []
runs ws rs (b ∷ bs) = glue (bytes_by ws rs b) (runs ws rs bs)

-- what a task puts and what waits next
unfoldable pub act_of : Task → HeldRect → Act
act_of (Leaf v) b = record { bytes = 4; first = v % 256; second = None; grown = 0; low = b; high = b }
act_of (Upright c) b = record {
  bytes = 5;
  first = 0;
  second = Some c;
  grown = 2;
  low = record { vertex = b.vertex; x1 = b.x1; y1 = b.y1; x2 = c; y2 = b.y2 };
  high = record { vertex = b.vertex; x1 = c; y1 = b.y1; x2 = b.x2; y2 = b.y2 };
}
act_of (Level c) b = record {
  bytes = 5;
  first = 1;
  second = Some c;
  grown = 2;
  low = record { vertex = b.vertex; x1 = b.x1; y1 = b.y1; x2 = b.x2; y2 = c };
  high = record { vertex = b.vertex; x1 = b.x1; y1 = c; x2 = b.x2; y2 = b.y2 };
}

-- the field that is put
unfoldable pub act_bytes : ℕ → Answer ℕ → List ℕ
act_bytes a None = in_bytes (write_field 6 (a ∷ []))
act_bytes a (Some c) = in_bytes (write_field 5 (a ∷ c ∷ []))

-- no rectangle, as it is held
abbrev pub no_rect : HeldRect
no_rect = record { vertex = 0; x1 = 0; y1 = 0; x2 = 0; y2 = 0 }

-- the rectangles on a stack of so many, the top first
unfoldable pub stacked : ℕ → List HeldRect → List Rect
stacked zero l = []
stacked (suc n) l = rect_in (get_or l n no_rect) ∷ stacked n l

-- what is said of a tree: there is none; or its bytes are the front of the buffer
unfoldable pub SlicedAs : Answer ℕ → List ℕ → Option Tree → Type 0
SlicedAs None buf o = o ≡ none
SlicedAs (Some n) buf o = (tree_bytes o ≡ some (take n buf)) × (n ≤ length buf)

-- THE TREE OF ANY PLAN, by its walls as they are kept; none with more leaves than rooms are held
unfoldable pub cut_tree : Plan → Option Tree
cut_tree p = capped rooms (tree_by (take walls (kept_walls p)) (rooms_of p) (inner p))

-- what writing a tree comes to: 15 where there is none, then 14 where the buffer is too short
unfoldable pub writing : Option (List ℕ) → List ℕ → Step
writing none buf = refuse empty 15 buf
writing (some bs) buf = written bs buf
