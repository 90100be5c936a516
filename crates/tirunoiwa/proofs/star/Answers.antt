use Rattle.tirunoiwa.proofs.Copying.{star_short, star_put}
use native.Mathlib.Omega.{arith}
use Rattle.tirunoiwa.proofs.star.Goals as goal

pub returns-then-out-star : goal.returns-then-out-star
returns-then-out-star c = star_short _ _ _ _ c.raw_star-star.ensures c.if-out-star.true

pub returns : goal.returns
returns c = star_put _ _ _ _ c.raw_star-star.ensures _ _ c.if-out-star.false (omega arith) c.put_word.ensures
