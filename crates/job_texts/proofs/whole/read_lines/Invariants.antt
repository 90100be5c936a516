use mathlib.Core.Path.{◌≡◌}
use lib.ListN.{length, drop}
use Rattle.floor.specs.JobTexts.{lines, read_lines}
use Rattle.job_texts.specs.Reads.{no_rooms, on_lines, finish}
use Rattle.job_texts.proofs.whole.read_lines.Given as goal

abbrev pub invariant-loop-bytes : goal.invariant-loop-bytes
invariant-loop-bytes l = (l.line ≡ length l.yielded) × (on_lines l.rooms l.line (drop l.line (lines l.text)) ≡ finish no_rooms (read_lines 0 4 360 (lines l.text)))
