use Rattle.walls.proofs.Settling.{settled, falls, still_reached, still_capped, ran_circle}
use Rattle.walls.proofs.Visiting.{rules_enough}
use borrow.Author.Rules.{rules}
use Rattle.walls.proofs.rules.Rules.settle.Goals as goal

pub returns-in-Kept : goal.returns-in-Kept
returns-in-Kept c = search (settled, rules)

pub loop-smaller : goal.loop-smaller
loop-smaller c = search (falls, rules)

pub loop-preserved : goal.loop-preserved
loop-preserved c = (search rules, search (still_reached, rules), search (still_capped, rules))

pub returns-in-Over : goal.returns-in-Over
returns-in-Over c = search (ran_circle, rules_enough, rules)
