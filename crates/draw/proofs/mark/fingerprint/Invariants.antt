use Rattle.draw.proofs.mark.fingerprint.Given as goal

abbrev pub decreases-loop-count : goal.decreases-loop-count
decreases-loop-count l = l.count
