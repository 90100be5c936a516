use Rattle.floor.specs.Jobs.{first_three}
use Rattle.jobs.proofs.Testing.{fits, shaped, three_fails}
use Rattle.std.proofs.Common.{◌≡◌, Err}
use borrow.Author.Rules.{rules}
use Rattle.jobs.proofs.hold_job.Goals as goal

pub returns-in_err-shape : goal.returns-in_err-shape
returns-in_err-shape c =
    let r : c.from_residual.result ≡ Err c.in_err-shape.field-0.0 = search rules in
    rw r (three_fails _ _ _ c.in_err-shape.was c.shape_of.ensures.0)

pub kept-requires : goal.kept-requires
kept-requires c = fits _ _ _ c.in_ok-shape.was c.shape_of.ensures.1

pub returns : goal.returns
returns c = shaped _ _ _ c.in_ok-shape.was first_three _ c.shape_of.ensures.0 c.kept.ensures
