-- Definitions; what is proved of them stands in proofs/ under the same name. Assumes nothing.
use Rattle.std.specs.Prelude.{◌++◌}
use Rattle.std.proofs.Math.Option.{Option, none, some}
use Rattle.floor.specs.Totals.{Jobs, figures, Season, refuses_all, tells}

-- FOR CODE: the figures of the jobs so far and those still to come; 19 where these are none
unfoldable pub tell_with : Jobs → Option Jobs → Season
tell_with past none = refuses_all 19
tell_with past (some js) = tells (figures (past ++ js))
