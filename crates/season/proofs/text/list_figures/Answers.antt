use Rattle.season.proofs.Printing.{figures_page}
use Rattle.std.proofs.Common.{rules}
use Rattle.season.proofs.text.list_figures.Goals as goal

pub returns : goal.returns
returns c = figures_page _ _ _ _ c.put_figures.ensures.0 c.put_figures.ensures.1 (search rules) (search rules)
