use mathlib.Core.Path.{◌≡◌}
use lib.ListN.{length, replicate}
use Rattle.walls.proofs.Sizing.{top_positive}
use Rattle.walls.proofs.Visiting.{rules_enough}
use Rattle.walls.proofs.Settling.{climbed_reached, climbed_capped, climbed_circle}
use borrow.Author.Rules.{rules}
use Rattle.walls.proofs.rules.Rules.number.Goals as goal

pub settle-requires : goal.settle-requires
settle-requires c =
    let ones : c.fill.new.self ≡ replicate (length c.args.f.now) 1 = c.fill.ensures.after (λ y e. e) in (
      search rules,
      climbed_reached _ _ _ _ _ _ ones c.climb_all.ensures c.in-Kept.is,
      climbed_capped _ _ _ _ _ _ ones c.climb_all.ensures c.in-Kept.is (top_positive _ _ _ _ c.args.self.now.is_top),
    )

pub returns-in-Over : goal.returns-in-Over
returns-in-Over c =
    let ones : c.fill.new.self ≡ replicate (length c.args.f.now) 1 = c.fill.ensures.after (λ y e. e) in
    climbed_circle _ _ _ _ _ _ ones c.climb_all.ensures c.in-Over.is (rules_enough c.args.self.now)
