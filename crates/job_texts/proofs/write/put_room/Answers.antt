use Rattle.job_texts.proofs.Put.{room_put}
use Rattle.job_texts.proofs.write.put_room.Goals as goal

pub returns : goal.returns
returns c = room_put _ _ _ _ _ _ _ _ _ _ c.start_of-from.ensures.0 c.end_of-end.ensures.0 c.width_of.ensures c.height_of.ensures
    c.put_then-first.ensures c.put_contacts-next.ensures c.put_behind-last.ensures c.put_byte.ensures
