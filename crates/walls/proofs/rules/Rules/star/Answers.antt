use mathlib.Core.Path.{refl}
use Rattle.walls.proofs.Running.{going_start}
use Rattle.walls.proofs.Telling.{named_here, named_later, star_next, star_done}
use borrow.Author.Rules.{rules}
use Rattle.walls.proofs.rules.Rules.star.Goals as goal

pub loop-k-init : goal.loop-k-init
loop-k-init c = (refl, search rules, going_start _ _ _)

pub entry-did-requires : goal.entry-did-requires
entry-did-requires c = (search rules, search (named_here, rules))

pub loop-k-preserved : goal.loop-k-preserved
loop-k-preserved c = (search rules, search (named_later, rules), search (star_next, rules))

pub returns : goal.returns
returns c = search (star_done, rules)
