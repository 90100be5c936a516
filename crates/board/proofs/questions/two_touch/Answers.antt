use Rattle.board.proofs.Answering.{touch_twice, touch_two}
use Rattle.board.proofs.questions.two_touch.Goals as goal

pub returns-then-u-v : goal.returns-then-u-v
returns-then-u-v c = touch_twice _ _ _ _ _ _ c.if-u-v.true

pub returns : goal.returns
returns c = touch_two _ _ _ _ _ _ _ _ _ c.if-u-v.false c.rectangle.ensures c.rectangle-2.ensures c.touch.ensures
