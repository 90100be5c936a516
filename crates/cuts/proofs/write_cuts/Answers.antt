use Rattle.cuts.proofs.Writing.{written_fits, same_taken, all_taken, wrote_none, wrote_short, wrote_front}
use borrow.Author.Rules.{rules}
use Rattle.cuts.proofs.write_cuts.Goals as goal

pub returns-in_default : goal.returns-in_default
returns-in_default c = wrote_none _ _ _ c.run.ensures.0 _ (search rules)

pub returns-then-out-n : goal.returns-then-out-n
returns-then-out-n c = wrote_short _ _ _ c.run.ensures.0 _ c.in-Some.is _ (search rules)

pub slice_bounds-buf-end : goal.slice_bounds-buf-end
slice_bounds-buf-end c = written_fits _ _ _ c.run.ensures.0 _ c.in-Some.is

pub slice_bounds-copy_from_slice-end-3 : goal.slice_bounds-copy_from_slice-end-3
slice_bounds-copy_from_slice-end-3 c = all_taken _ _ _ c.run.ensures.0 _ c.in-Some.is

pub copy_from_slice-requires : goal.copy_from_slice-requires
copy_from_slice-requires c = same_taken _ _ _ c.run.ensures.0 _ c.in-Some.is _ c.if-out-n.false

pub returns : goal.returns
returns c = wrote_front _ _ _ c.run.ensures.0 _ c.in-Some.is _ _ c.if-out-n.false c.copy_from_slice.ensures.after
