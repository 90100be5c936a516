use mathlib.Core.Path.{refl}
use native.Mathlib.Omega.{arith}
use borrow.Author.Rules.{rules}
use lib.Dec.{eqb}
use Rattle.std.proofs.lemmas.List.{length_push}
use Rattle.std.proofs.lemmas.Iterator.Consumers.{YieldsList-turn, YieldsList-end}
use Rattle.std.proofs.lemmas.Iterator.Splits.{YieldsList-from_slice_split}
use Rattle.job_texts.proofs.AllLines.{turn_here, turn_last, lines_first, lines_wrong, lines_next, no_rooms_lem, lines_done}
use Rattle.job_texts.proofs.whole.read_lines.Goals as goal

pub loop-bytes-init : goal.loop-bytes-init
loop-bytes-init c = (refl, lines_first _ _ c.no_rooms-rooms.ensures)

pub returns-in-Err : goal.returns-in-Err
returns-in-Err c =
    let t = YieldsList-turn (YieldsList-from_slice_split _ (λ b. eqb b 10) c.args.text.now (cc) (cc) c.split-bytes-items.ensures.closure (λ x b q k. search rules)) c.loop-bytes.yielded _ c.loop-bytes.yielded_by _ _ c.in-Some.bytes c.in-Some.is c.next.ensures.steps in
    lines_wrong _ _ _ _ c.loop-bytes.invariant.1 _ (turn_here _ _ _ _ c.loop-bytes.invariant.0 t) _ c.line_row.ensures _ c.in-Err.is

pub loop-bytes-preserved : goal.loop-bytes-preserved
loop-bytes-preserved c =
    let t = YieldsList-turn (YieldsList-from_slice_split _ (λ b. eqb b 10) c.args.text.now (cc) (cc) c.split-bytes-items.ensures.closure (λ x b q k. search rules)) c.loop-bytes.yielded _ c.loop-bytes.yielded_by _ _ c.in-Some.bytes c.in-Some.is c.next.ensures.steps in (
      omega (arith, length_push c.loop-bytes.yielded c.in-Some.bytes),
      lines_next _ _ _ _ c.loop-bytes.invariant.1 _ (turn_here _ _ _ _ c.loop-bytes.invariant.0 t) _ c.line_row.ensures _ c.in-Ok.is,
    )

pub returns-then-rooms-eq0 : goal.returns-then-rooms-eq0
returns-then-rooms-eq0 c =
    let t = YieldsList-end (YieldsList-from_slice_split _ (λ b. eqb b 10) c.args.text.now (cc) (cc) c.split-bytes-items.ensures.closure (λ x b q k. search rules)) c.loop-bytes.yielded _ c.loop-bytes.yielded_by _ _ c.in-None.is c.next.ensures.steps in
    no_rooms_lem _ _ _ _ (turn_last _ _ _ c.loop-bytes.invariant.0 t.1) c.loop-bytes.invariant.1 c.if-rooms-eq0.true

pub returns : goal.returns
returns c =
    let t = YieldsList-end (YieldsList-from_slice_split _ (λ b. eqb b 10) c.args.text.now (cc) (cc) c.split-bytes-items.ensures.closure (λ x b q k. search rules)) c.loop-bytes.yielded _ c.loop-bytes.yielded_by _ _ c.in-None.is c.next.ensures.steps in
    lines_done _ _ _ _ (turn_last _ _ _ c.loop-bytes.invariant.0 t.1) c.loop-bytes.invariant.1 c.if-rooms-eq0.false
