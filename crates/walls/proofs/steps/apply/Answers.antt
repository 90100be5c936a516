use mathlib.Core.Path.{◌≡◌}
use Rattle.walls.specs.declared.Step.TheVariants.{Kept, Raised, Over}
use Rattle.walls.specs.Steps.{Lifts}
use Rattle.walls.proofs.Grow.{ran_up, ran_raised, ran_over, ran_back}
use Rattle.walls.proofs.steps.apply.Goals as goal

pub returns-then-w-gt0 : goal.returns-then-w-gt0
returns-then-w-gt0 c =
    ran_up c.lift-up.result c.args.f.now c.lift-up.new.f c.args.a c.args.b c.args.w
    c.args.top c.if-w-gt0.true c.requires.1 c.lift-up.ensures

pub returns-in-Kept : goal.returns-in-Kept
returns-in-Kept c =
    let e : c.lift-up.result ≡ Kept = cc in
    let h : Lifts Kept c.args.f.now c.lift-up.new.f c.args.a c.args.b c.args.w c.args.top = rw e at c.lift-up.ensures in
    ran_back c.lift.result c.args.f.now c.lift-up.new.f c.lift.new.f c.args.a c.args.b c.args.w
    c.args.top c.if-w-gt0.false c.requires.0 h c.lift.ensures

pub returns-in-Raised : goal.returns-in-Raised
returns-in-Raised c =
    let e : c.lift-up.result ≡ Raised = cc in
    let h : Lifts Raised c.args.f.now c.lift-up.new.f c.args.a c.args.b c.args.w c.args.top = rw e at c.lift-up.ensures in
    ran_raised c.args.f.now c.lift-up.new.f c.args.a c.args.b c.args.w c.args.top c.if-w-gt0.false c.requires.1 h

pub returns-in-Over : goal.returns-in-Over
returns-in-Over c =
    let e : c.lift-up.result ≡ Over = cc in
    let h : Lifts Over c.args.f.now c.lift-up.new.f c.args.a c.args.b c.args.w c.args.top = rw e at c.lift-up.ensures in
    ran_over c.args.f.now c.lift-up.new.f c.args.a c.args.b c.args.w c.args.top c.if-w-gt0.false h
