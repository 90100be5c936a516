use Rattle.floor.specs.Quoted.{plain}
use Rattle.floor.specs.Texts.{refused_word}
use borrow.Author.Rules.{rules}
use Rattle.letters.proofs.word.put_refused.Goals as goal

pub returns : goal.returns
unfolding refused_word plain
returns c = search rules
