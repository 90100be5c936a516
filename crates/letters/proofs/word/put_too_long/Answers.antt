use Rattle.floor.specs.Quoted.{plain}
use Rattle.floor.specs.Texts.{too_long}
use borrow.Author.Rules.{rules}
use Rattle.letters.proofs.word.put_too_long.Goals as goal

pub returns : goal.returns
unfolding too_long plain
returns c = search rules
