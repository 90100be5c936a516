use Rattle.std.proofs.Common.{ap, not}
use Rattle.job_texts.proofs.Put.{behind_none, behind_bare, behind_comma}
use Rattle.job_texts.proofs.write.put_behind.Goals as goal

pub returns-then-not-is_larger : goal.returns-then-not-is_larger
returns-then-not-is_larger c = λ nbr kind. behind_none _ _ _ _ c.is_larger.ensures nbr kind (ap not c.if-not-is_larger.true)

pub returns-then-end-from : goal.returns-then-end-from
returns-then-end-from c = λ nbr kind. behind_bare _ _ _ _ c.is_larger.ensures nbr kind (ap not c.if-not-is_larger.false) c.if-end-from.true c.put_size.ensures

pub returns : goal.returns
returns c = λ nbr kind. behind_comma _ _ _ _ c.is_larger.ensures nbr kind (ap not c.if-not-is_larger.false) c.if-end-from.false c.put_byte-next.ensures
    c.put_size-2.ensures
