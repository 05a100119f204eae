use Rattle.std.proofs.Common.{◌<◌, length, get_or, slice_set, Ok, sym, subst, ap, ◌∙◌}
use Rattle.calls.specs.Calls.{cursor_rule}
use Rattle.calls.specs.Replies.{WorkedBy}
use Rattle.layout.specs.Program.{program}
use Rattle.replay.specs.Histories.{fits}
use Rattle.replay.specs.Runs.{Applied}
use Rattle.replay.proofs.Calling.{cursor_applied, cursor_there}
use Rattle.replay.proofs.make.Goals as goal

pub returns-in_ok-call_cursor-in-Cursor : goal.returns-in_ok-call_cursor-in-Cursor
returns-in_ok-call_cursor-in-Cursor g c =
    let pos = g.C.Cursor.pos in
    let k = c.in-Cursor.k in
    let cs = c.args.cursors.now in
    let a = c.in_ok-call_cursor-in-Cursor.field-0 in
    let z = c.index-cursors-k.result in
    let there : k < length cs = cursor_there (length cs) k c.in-Cursor.call (ap (fits (length cs)) (sym c.in-Cursor.is) ∙ c.requires) in
    let ok : WorkedBy (cursor_rule c.in-Cursor.call (pos (get_or cs k z)) (program c.args.layout.now)) (Ok a) (program c.call_cursor.new.layout) (pos c.call_cursor.new.cursor) =
    subst (λ r. WorkedBy (cursor_rule c.in-Cursor.call (pos (get_or cs k z)) (program c.args.layout.now)) r (program c.call_cursor.new.layout) (pos c.call_cursor.new.cursor)) c.in_ok-call_cursor-in-Cursor.was c.call_cursor.ensures.rule in
    subst (λ q. Applied pos q (Ok a) c.args.layout.now c.call_cursor.new.layout cs (slice_set cs k c.call_cursor.new.cursor)) (sym c.in-Cursor.is) (cursor_applied pos cs k z there c.in-Cursor.call a c.args.layout.now c.call_cursor.new.layout c.call_cursor.new.cursor ok c.call_cursor.ensures.layout_stays c.call_cursor.ensures.cursor_stays)
