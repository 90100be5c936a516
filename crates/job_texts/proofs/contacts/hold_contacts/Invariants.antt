use Prim.Native.Nat.{◌-◌}
use mathlib.Core.Path.{◌≡◌}
use Rattle.floor.specs.JobTexts.{contacts}
use Rattle.job_texts.specs.Reads.{put_contacts}
use Rattle.job_texts.proofs.contacts.hold_contacts.Given as goal

abbrev pub invariant-loop-rest : goal.invariant-loop-rest
invariant-loop-rest l =
    (l.held.stars.count ≡ l.initial.held.stars.count)
    × (put_contacts l.held (contacts (360 - l.held.next) l.rest) ≡ put_contacts l.initial.held (contacts (360 - l.initial.held.next) l.text))

abbrev pub decreases-loop-rest : goal.decreases-loop-rest
decreases-loop-rest l = 360 - l.held.next
