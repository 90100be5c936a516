use Rattle.floor.specs.Texts.{line}
use borrow.Author.Rules.{rules}
use Rattle.letters.proofs.line.put_one.Goals as goal

pub returns : goal.returns
unfolding line
returns c = search rules
