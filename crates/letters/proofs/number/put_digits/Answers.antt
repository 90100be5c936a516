use Rattle.std.proofs.Common.{rules}
use Rattle.letters.proofs.Numbers.{digits_first, digit_more, digit_last, room_left, tenth_fits}
use Rattle.letters.proofs.number.put_digits.Goals as goal

pub loop-start-init : goal.loop-start-init
loop-start-init c = (search rules, search rules, search (digits_first, rules))

pub returns-then-rest-eq0 : goal.returns-then-rest-eq0
returns-then-rest-eq0 c = (search (digit_last, rules), search rules)

pub loop-start-preserved : goal.loop-start-preserved
loop-start-preserved c = (search (room_left, rules), search (tenth_fits, rules), search (digit_more, rules))
