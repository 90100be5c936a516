use Rattle.floor.specs.Quoted.{plain}
use Rattle.floor.specs.JobTexts.{expected_text}
use Rattle.job_texts.specs.Reads.{lack_of}
use Rattle.job_texts.proofs.Telling.{room_told, lack_told}
use borrow.Author.Rules.{rules}
use Rattle.job_texts.proofs.wrong.put_lack.Goals as goal

pub returns-in-RoomNumber : goal.returns-in-RoomNumber
unfolding plain
returns-in-RoomNumber c = search (room_told, rules)

pub returns-in-Colon : goal.returns-in-Colon
unfolding expected_text lack_of plain
returns-in-Colon c = search (lack_told, rules)

pub returns-in-Side : goal.returns-in-Side
unfolding expected_text lack_of plain
returns-in-Side c = search (lack_told, rules)

pub returns-in-Neighbour : goal.returns-in-Neighbour
unfolding expected_text lack_of plain
returns-in-Neighbour c = search (lack_told, rules)

pub returns-in-Comma : goal.returns-in-Comma
unfolding expected_text lack_of plain
returns-in-Comma c = search (lack_told, rules)

pub returns-in-LeastSize : goal.returns-in-LeastSize
unfolding expected_text lack_of plain
returns-in-LeastSize c = search (lack_told, rules)

pub returns-in-NoRoom : goal.returns-in-NoRoom
unfolding expected_text lack_of plain
returns-in-NoRoom c = search (lack_told, rules)

pub returns-in-NoContact : goal.returns-in-NoContact
unfolding expected_text lack_of plain
returns-in-NoContact c = search (lack_told, rules)
