use Rattle.texts.proofs.Answers.{too_long_front}
use borrow.Author.Rules.{rules}
use Rattle.texts.proofs.list_too_long.Goals as goal

pub returns : goal.returns
returns c = too_long_front _ _ _ (search rules) c.put_too_long.ensures
