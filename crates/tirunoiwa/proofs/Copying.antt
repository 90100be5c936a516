-- The star of a room, put to the front of a buffer. Assumes nothing.
use Prim.Native.Nat.{ℕ, ◌*◌, ◌^◌, ◌<◌, ◌≤◌}
use mathlib.Core.Path.{◌≡◌}
use mathlib.Core.List.{List}
use native.Mathlib.Omega.{arith}
use lib.ListN.{length}
use Rattle.floor.specs.Jobs.{raw_star}
use Rattle.floor.specs.Tracker.{star_of_job}
use Rattle.std.specs.Prelude.{Ok, Err}
use Rattle.refusals.specs.declared.Refusal.TheVariants.{TooShort}
use Rattle.board.specs.declared.Reply.TheVariants.{Wrote}
use Rattle.board.specs.Boards.{reply_of}
use Rattle.fields.specs.Writes.{replied, writing}
use Rattle.fields.proofs.Puts.{short_writes, front_writes}
use Rattle.letters.specs.Puts.{Puts}
use Rattle.tirunoiwa.specs.Answers.{Gives}
use Rattle.letters.proofs.Rows.{front_whole}

-- a room's star: 14, or its length and its bytes
module _ (bs s buf : List ℕ) (room : ℕ) (e : s ≡ raw_star bs room) where
  -- too short a buffer: 14, and the buffer as it was
  pub star_short : length buf < length s → Gives (Err TooShort) buf (star_of_job bs room buf)
  unfolding star_of_job writing replied reply_of
  star_short h =
      let (x, y) = short_writes (raw_star bs room) buf (rw e at h) in
      record { reply = x; buffer = y; fits = rw (← x) tt }

  -- a buffer with room: the length, and the front filled
  pub star_put : (x : List ℕ) (n : ℕ) → length s ≤ length buf → length buf * 1 < 2 ^ 63 → Puts buf 0 s x n → Gives (Ok (Wrote n)) x (star_of_job bs room buf)
  unfolding star_of_job writing replied reply_of
  star_put x n h m p =
      let (l, ex) = front_whole buf (raw_star bs room) x n (rw e at p) (rw e at h) in
      let (y, z) = front_writes (raw_star bs room) buf x n l ex (rw e at h) in
      let k : length (raw_star bs room) ≤ length buf = rw e at h in
      record { reply = y; buffer = z; fits = rw (← y) (omega arith) }
