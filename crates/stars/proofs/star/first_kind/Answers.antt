use Rattle.stars.proofs.Entries.{kind_first, kind_none}
use Rattle.stars.proofs.star.first_kind.Goals as goal

pub returns-in-len2-up : goal.returns-in-len2-up
returns-in-len2-up c = kind_first _ _ c.in-len2-up.len_at_least

pub returns-in_default : goal.returns-in_default
returns-in_default c = kind_none _ _ c.in_default.len_below
