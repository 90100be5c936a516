use Rattle.job_texts.proofs.Put.{contacts_none, contacts_put}
use borrow.Author.Rules.{rules}
use Rattle.job_texts.proofs.write.put_contacts.Goals as goal

pub returns-then-end-from : goal.returns-then-end-from
returns-then-end-from c = search (contacts_none, rules)

pub returns : goal.returns
returns c = search (contacts_put, rules)
