use mathlib.Core.Path.{refl}
use Rattle.stars.specs.Sized.{no_sizes}
use Rattle.stars.proofs.least.none_told.Goals as goal

pub returns : goal.returns
unfolding no_sizes
returns c = refl
