use Prim.Native.Nat.{◌-◌}
use mathlib.Core.Path.{◌≡◌}
use Rattle.floor.specs.Cuts.ByWalls.{leaf_of}
use Rattle.drawing.specs.Rects.{rect_in}
use Rattle.cuts.specs.Tasks.{rooms_from}
use Rattle.cuts.specs.Links.{mark_of, RoomAt}
use Rattle.cuts.proofs.links.Rooms.room_from.Given as goal

abbrev pub invariant-loop-w : goal.invariant-loop-w
invariant-loop-w l = RoomAt l.self.rects.now l.self.last (mark_of l.b.x1 l.b.y1) l.w × (leaf_of (rect_in l.b) (rooms_from l.self.last l.w l.self.rects.now) ≡ leaf_of (rect_in l.b) (rooms_from l.self.last 4 l.self.rects.now))

abbrev pub decreases-loop-w : goal.decreases-loop-w
decreases-loop-w l = l.self.last - l.w
