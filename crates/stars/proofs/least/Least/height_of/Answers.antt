use Rattle.stars.proofs.Sized.{height_untold, height_told}
use borrow.Author.Rules.{rules}
use Rattle.stars.proofs.least.Least.height_of.Goals as goal

pub returns-then-self-i : goal.returns-then-self-i
returns-then-self-i c = search (height_untold, rules)

pub returns : goal.returns
returns c = search (height_told, rules)
