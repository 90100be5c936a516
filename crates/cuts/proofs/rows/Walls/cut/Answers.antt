use native.Mathlib.Omega.{arith}
use Rattle.cuts.proofs.Looking.{cut_past, cut_found, cut_lost}
use Rattle.cuts.proofs.rows.Walls.cut.Goals as goal

pub returns-then-n-at : goal.returns-then-n-at
returns-then-n-at c =
    cut_past _ _ _ _ _ _ _ _ _ _ (omega (arith, c.ranges.begin)) (omega (arith, c.ranges.high)) c.requires.0 c.requires.3 c.key_of.ensures.0 c.first_past-at.ensures.2 c.if-n-at.true

pub returns-then-reaches_at : goal.returns-then-reaches_at
returns-then-reaches_at c =
    cut_found _ _ _ _ _ _ _ _ _ _ (omega (arith, c.ranges.begin)) (omega (arith, c.ranges.high)) c.requires.0 c.requires.3 c.key_of.ensures.0 c.first_past-at.ensures.2
    (omega (arith, c.ranges.end)) c.requires.2 c.first_past-at.ensures.0 c.first_past-at.ensures.3 _ _ c.from-k.ensures c.reaches_at.ensures c.if-n-at.false _ c.if-reaches_at.true c.number_at.ensures

pub returns : goal.returns
returns c =
    cut_lost _ _ _ _ _ _ _ _ _ _ (omega (arith, c.ranges.begin)) (omega (arith, c.ranges.high)) c.requires.0 c.requires.3 c.key_of.ensures.0 c.first_past-at.ensures.2
    (omega (arith, c.ranges.end)) c.requires.2 c.first_past-at.ensures.0 c.first_past-at.ensures.3 _ _ c.from-k.ensures c.reaches_at.ensures c.if-n-at.false c.if-reaches_at.false
