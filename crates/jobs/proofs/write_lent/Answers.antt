use native.Mathlib.Omega.{arith}
use lib.ListN.{length-set}
use Rattle.jobs.proofs.Writing.{length_job, write_short, write_done}
use borrow.Author.Rules.{rules}
use Rattle.jobs.proofs.write_lent.Goals as goal

pub returns-then-out-length : goal.returns-then-out-length
returns-then-out-length c = let stars = c.args.stars.now in
    write_short stars.count stars.ends.now stars.nbr.now stars.kind.now _ c.args.sizes.now.list.now _ _ _
    (c.job_length-behind.ensures.0 stars.kind.now) (c.sizes_length.ensures.0 c.args.sizes.now.list.now) c.if-out-length.true

pub bounds-out-3 : goal.bounds-out-3
bounds-out-3 c = let stars = c.args.stars.now in
    omega (
      arith,
      length_job stars.count stars.ends.now stars.nbr.now stars.kind.now,
      c.job_length-behind.ensures.0 stars.kind.now,
      c.put_head.auto.out,
    )

pub put_stars-requires : goal.put_stars-requires
put_stars-requires c = let stars = c.args.stars.now in (
  search rules,
  simp length-set (omega (
    arith,
    length_job stars.count stars.ends.now stars.nbr.now stars.kind.now,
    c.job_length-behind.ensures.0 stars.kind.now,
    c.put_head.auto.out,
  )),
)

pub put_sizes-requires : goal.put_sizes-requires
put_sizes-requires c = (
  search rules,
  omega (arith, c.sizes_length.ensures.0 c.args.sizes.now.list.now, rw length-set at c.put_stars.auto.out, c.put_head.auto.out),
)

pub returns : goal.returns
returns c = let stars = c.args.stars.now in
    write_done stars.count stars.ends.now stars.nbr.now stars.kind.now _ c.args.sizes.now.list.now _ _ _
    (c.job_length-behind.ensures.0 stars.kind.now) (c.sizes_length.ensures.0 c.args.sizes.now.list.now) _ _ _ c.put_head.ensures
    c.put_stars.ensures c.put_sizes.ensures c.if-out-length.false
