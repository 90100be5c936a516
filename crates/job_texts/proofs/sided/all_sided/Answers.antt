use mathlib.Core.Path.{refl}
use native.Mathlib.Omega.{arith}
use borrow.Author.Rules.{rules}
use Rattle.stars.specs.Held.{held_star}
use Rattle.std.proofs.lemmas.Iterator.{YieldsList-from_range}
use Rattle.std.proofs.lemmas.Iterator.Search.{all_from_yields_List}
use Rattle.job_texts.specs.Writes.{star_sided}
use Rattle.job_texts.proofs.AllSided.{job_kinds}
use Rattle.job_texts.proofs.sided.all_sided.Goals as goal

pub returns : goal.returns
returns c = job_kinds _ _ _ _ _ (all_from_yields_List (λ j. star_sided (held_star c.args.stars.now.ends.now c.args.stars.now.nbr.now c.args.stars.now.kind.now j)) _ _ _
    c.all.ensures.ran (YieldsList-from_range 0 c.args.stars.now.count c.args.stars.now.count refl (omega arith)) (λ x b q k. search rules))
