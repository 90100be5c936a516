use mathlib.Core.Path.{refl}
use borrow.Author.Rules.{rules}
use lib.Dec.{ltb}
use lib.ListN.{get_or}
use Rattle.std.proofs.lemmas.Iterator.{YieldsList-from_range}
use Rattle.std.proofs.lemmas.Iterator.Search.{all_from_yields_List}
use Rattle.job_texts.proofs.AllSided.{star_kinds}
use Rattle.job_texts.proofs.sided.star_sided.Goals as goal

pub returns : goal.returns
returns c = star_kinds _ _ _ _ _ _ c.start_of.ensures.0 c.end_of.ensures.0 _
    (all_from_yields_List (λ j. ltb (get_or c.args.stars.now.kind.now j 0) 4) _ _ _ c.all.ensures.ran (YieldsList-from_range c.start_of.result c.end_of.result _ refl refl) (λ x b q k. search rules))
