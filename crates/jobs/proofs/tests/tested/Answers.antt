use Rattle.std.proofs.Common.{ap, not}
use Rattle.jobs.proofs.Testing.{few_rooms, tells_3, tells_4, tells_5, tells_6, tells_17, tells_job}
use borrow.Author.Rules.{rules}
use Rattle.jobs.proofs.tests.tested.Goals as goal

pub returns-then-shape-gt-MOST_PAIRS : goal.returns-then-shape-gt-MOST_PAIRS
returns-then-shape-gt-MOST_PAIRS c = search (tells_3, rules)

pub returns-then-not-entries_pass : goal.returns-then-not-entries_pass
returns-then-not-entries_pass c = search (tells_4, rules)

pub returns-then-not-stars_pass : goal.returns-then-not-stars_pass
returns-then-not-stars_pass c = search (tells_5, rules)

pub hold-stars-requires : goal.hold-stars-requires
hold-stars-requires c = (few_rooms _ c.requires.0, search rules)

pub returns-then-not-answered : goal.returns-then-not-answered
returns-then-not-answered c =
    let shape = c.args.shape in
    tells_6 c.args.job.now shape.rooms shape.first shape.pairs (few_rooms _ c.requires.0) c.requires.1 c.if-shape-gt-MOST_PAIRS.false _ _ _
    c.entries_pass.ensures (ap not c.if-not-entries_pass.false) c.stars_pass.ensures (ap not c.if-not-stars_pass.false) _ c.hold-stars.ensures _
    c.from.ensures c.answered.ensures shape.end (ap not c.if-not-answered.true)

pub returns-then-not-sizes_pass : goal.returns-then-not-sizes_pass
returns-then-not-sizes_pass c =
    let shape = c.args.shape in
    tells_17 c.args.job.now shape.rooms shape.first shape.pairs (few_rooms _ c.requires.0) c.requires.1 c.if-shape-gt-MOST_PAIRS.false _ _ _
    c.entries_pass.ensures (ap not c.if-not-entries_pass.false) c.stars_pass.ensures (ap not c.if-not-stars_pass.false) _ c.hold-stars.ensures _
    c.from.ensures c.answered.ensures (ap not c.if-not-answered.false) shape.end c.requires.2 _ c.hold_sizes-sizes.ensures _ c.from-2.ensures _
    c.sizes_pass.ensures (ap not c.if-not-sizes_pass.true)

pub returns : goal.returns
returns c =
    let shape = c.args.shape in
    tells_job c.args.job.now shape.rooms shape.first shape.pairs (few_rooms _ c.requires.0) c.requires.1 c.if-shape-gt-MOST_PAIRS.false _ _ _
    c.entries_pass.ensures (ap not c.if-not-entries_pass.false) c.stars_pass.ensures (ap not c.if-not-stars_pass.false) _ c.hold-stars.ensures _
    c.from.ensures c.answered.ensures (ap not c.if-not-answered.false) shape.end c.requires.2 _ c.hold_sizes-sizes.ensures _ c.from-2.ensures _
    c.sizes_pass.ensures (ap not c.if-not-sizes_pass.false)
