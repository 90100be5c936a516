use Rattle.elsewhere.proofs.Placing.{inside_next}
use borrow.Author.Rules.{rules}
use Rattle.elsewhere.proofs.Drawn.all_inside.Goals as goal

pub loop-v-preserved : goal.loop-v-preserved
loop-v-preserved c = search (inside_next, rules)
