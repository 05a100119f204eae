-- Each line is added behind those ahead of it, or it is the first that is wrong. Assumes nothing.
use Rattle.std.proofs.Common.{length}
use Rattle.std.proofs.lemmas.List.{length_push}
use Rattle.std.proofs.lemmas.Iterator.Consumers.{YieldsList-from_enumerate, YieldsList-at, YieldsList-turn, YieldsList-end}
use Rattle.std.proofs.lemmas.Iterator.Splits.{YieldsList-from_lines}
use Rattle.script.specs.Scripts.{content}
use Rattle.words.proofs.Rows.{IsLine, is_line}
use Rattle.script.proofs.Rows.{rows_more, rows_all, fault_here}
use Rattle.script.proofs.texts.add_lines.Goals as goal
use Rattle.script.proofs.texts.add_lines.Goals.{In-Some}

line_here : (c : In-Some) → IsLine c.args.text.now (length c.loop-i.yielded) c.in-Some.i c.in-Some.line.now
line_here c =
    let all = YieldsList-from_enumerate (YieldsList-at c.enumerate-i-items.ensures.source (YieldsList-from_lines c.args.text.now c.lines.ensures.rest)) c.enumerate-i-items.ensures.count in
    let road = YieldsList-at c.into_iter-i-iterator.ensures.into_iter_gives all in
    is_line c.args.text.now (length c.loop-i.yielded) c.in-Some.i c.in-Some.line.now (YieldsList-turn road c.loop-i.yielded _ c.loop-i.yielded_by _ _ (c.in-Some.i, c.in-Some.line) c.in-Some.is c.next.ensures.steps)

pub loop-i-preserved : goal.loop-i-preserved
loop-i-preserved c =
    let here = line_here (goal.at.loop-i-preserved c).In-Some in
    let more = rows_more _ _ _ _ here (content c.args.script.now) (content c.loop-i.script) (content c.add_line.new.script) c.loop-i.invariant c.in-Ok.ensures in
    rw length_push more

pub returns-in-Err : goal.returns-in-Err
returns-in-Err c = fault_here _ _ _ _ (line_here (goal.at.returns-in-Err c).In-Some) (content c.args.script.now) (content c.loop-i.script) c.loop-i.invariant _ c.in-Err.ensures

pub returns : goal.returns
returns c =
    let all = YieldsList-from_enumerate (YieldsList-at c.enumerate-i-items.ensures.source (YieldsList-from_lines c.args.text.now c.lines.ensures.rest)) c.enumerate-i-items.ensures.count in
    let road = YieldsList-at c.into_iter-i-iterator.ensures.into_iter_gives all in
    let over = YieldsList-end road c.loop-i.yielded _ c.loop-i.yielded_by _ _ c.in-None.is c.next.ensures.steps in
    rows_all c.args.text.now (length c.loop-i.yielded) over.1 (content c.args.script.now) (content c.loop-i.script) c.loop-i.invariant
