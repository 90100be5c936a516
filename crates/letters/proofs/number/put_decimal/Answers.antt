use Rattle.letters.proofs.Numbers.{page_end}
use Rattle.letters.proofs.Rows.{named}
use borrow.Author.Rules.{rules}
use Rattle.letters.proofs.number.put_decimal.Goals as goal

pub returns : goal.returns
returns c = named _ _ _ _ _ _ (search (page_end, rules)) c.put_word.ensures
