use mathlib.Core.Path.{sym}
use lib.Seq.{length-take-le}
use Rattle.texts.proofs.Cutting.{fits_bytes, cuts_put, none_puts}
use borrow.Author.Rules.{rules}
use Rattle.texts.proofs.trees.put_cuts.Goals as goal

pub slice_bounds-bytes-end : goal.slice_bounds-bytes-end
slice_bounds-bytes-end c = fits_bytes _ _ _ _ _ c.write_cuts-written.ensures c.in-Ok.is

pub slice_bounds-put_tree-end : goal.slice_bounds-put_tree-end
slice_bounds-put_tree-end c = sym (length-take-le _ _ (fits_bytes _ _ _ _ _ c.write_cuts-written.ensures c.in-Ok.is))

pub returns-in-Ok : goal.returns-in-Ok
returns-in-Ok c =
    let n = c.in-Ok.n in
    λ j s. cuts_put j _ s _ _ _ c.write_cuts-written.ensures n _ _ _ _ c.put_tree.ensures c.in-Ok.is

pub returns-in-Err : goal.returns-in-Err
returns-in-Err c = λ j s. none_puts j _ s _ _ _ c.write_cuts-written.ensures (search rules) _ c.in-Err.is _ c.number.ensures _ _ _ _ c.put_refusal.ensures
