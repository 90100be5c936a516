use Rattle.job_texts.proofs.Put.{contact_put}
use borrow.Author.Rules.{rules}
use Rattle.job_texts.proofs.write.put_contact.Goals as goal

pub returns : goal.returns
returns c = search (contact_put, rules)
