use mathlib.Core.Path.{refl}
use Rattle.stars.specs.Held.{no_stars}
use Rattle.stars.proofs.held.none_held.Goals as goal

pub returns : goal.returns
unfolding no_stars
returns c = refl
