use Rattle.texts.proofs.Fitting.{door_none, none_short, door_put}
use borrow.Author.Rules.{rules}
use Rattle.texts.proofs.doors.put_door.Goals as goal

pub returns-in_default : goal.returns-in_default
returns-in_default c = (search (door_none, rules), search (none_short, rules))

pub returns : goal.returns
returns c = door_put _ _ _ c.touch-touch.ensures _ _ _ _ c.in-Wall.is c.start_on-start.ensures c.stop_on-stop.ensures c.requires _ _ _ _ c.put_six.ensures
