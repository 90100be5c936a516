use native.Mathlib.Omega.{arith}
use Rattle.jobs.proofs.Filling.{sizes_few, sizes_room, sizes_held}
use Rattle.jobs.proofs.fill.hold_sizes.Goals as goal

pub put_sizes-requires : goal.put_sizes-requires
put_sizes-requires c = sizes_room c.args.job.now _ c.args.at c.value_at-bytes.ensures c.requires _ c.none_told-sizes.ensures

pub overflow_cast-sizes : goal.overflow_cast-sizes
overflow_cast-sizes c = omega (arith, sizes_few c.args.job.now _ c.args.at c.value_at-bytes.ensures c.requires)

pub returns : goal.returns
returns c = sizes_held c.args.job.now _ c.args.at c.value_at-bytes.ensures c.requires _
    c.none_told-sizes.ensures _ c.put_sizes.ensures
