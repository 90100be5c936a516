use Rattle.texts.proofs.Answers.{refusal_front}
use borrow.Author.Rules.{rules}
use Rattle.texts.proofs.list_refusal.Goals as goal

pub returns : goal.returns
returns c = refusal_front _ _ _ (search rules) _ (search rules) c.put_refusal.ensures
