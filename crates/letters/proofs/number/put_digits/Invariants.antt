use Rattle.std.proofs.Common.{◌≡◌, ◌<◌, ◌^◌, suc, drop}
use Rattle.floor.specs.Texts.{digits, decimal}
use Rattle.letters.proofs.number.put_digits.Given as goal

abbrev pub invariant-loop-start : goal.invariant-loop-start
invariant-loop-start l = (0 < l.start) × (l.rest < 10 ^ l.start) × (digits (suc l.rest) l.rest (drop l.start l.page) ≡ decimal l.n)
