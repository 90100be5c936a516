use Rattle.letters.proofs.Rows.{named}
use Rattle.job_texts.proofs.Put.{frame_word, number_word}
use borrow.Author.Rules.{rules}
use Rattle.job_texts.proofs.write.put_vertex.Goals as goal

pub returns-then-v-lt4 : goal.returns-then-v-lt4
returns-then-v-lt4 c = search (named, frame_word, rules)

pub returns : goal.returns
returns c = search (named, number_word, rules)
