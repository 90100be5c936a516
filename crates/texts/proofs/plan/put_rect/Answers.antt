use Rattle.texts.proofs.Plans.{rect_put}
use Rattle.texts.proofs.plan.put_rect.Goals as goal

pub returns : goal.returns
returns c = rect_put _ _ _ _ c.rectangle-r.ensures c.requires _ _ _ _ c.put_five.ensures
