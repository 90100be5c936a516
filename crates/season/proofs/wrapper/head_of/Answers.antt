use Rattle.season.proofs.Heading.{head_short, head_other, head_job}
use Rattle.std.proofs.Common.{rules}
use Rattle.season.proofs.wrapper.head_of.Goals as goal

pub returns-in_default : goal.returns-in_default
returns-in_default c = head_short _ c.in_default.len_below

pub returns-then-tag-ne9 : goal.returns-then-tag-ne9
returns-then-tag-ne9 c = head_other _ (search rules) c.if-tag-ne9.true

pub returns : goal.returns
returns c = head_job _ _ _ (search rules) c.if-tag-ne9.false c.from.ensures (search rules) c.from-2.ensures (search rules)
