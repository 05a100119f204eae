-- What the cut at the first dot tells of the line. Assumes nothing.
use Rattle.std.proofs.Common.{None, Some, sym, ◌∙◌}
use Rattle.lines.proofs.Dots.{undotted, dotted, unnamed}
use Rattle.lines.proofs.call.Goals as goal
use Rattle.lines.proofs.call.Goals.{in-None+in_ok-layout_command-in-None, in-Some+in_ok-cursor_command-in-Some}

pub returns-in_err-layout_command-in-None : goal.returns-in_err-layout_command-in-None
returns-in_err-layout_command-in-None c = rw c.from_residual.ensures (undotted _ _ c.in-None.ensures.cases None c.in_err-layout_command-in-None.ensures)

pub returns-in_err-cursor_command-in-Some : goal.returns-in_err-cursor_command-in-Some
returns-in_err-cursor_command-in-Some c =
    rw c.from_residual-in_err-cursor_command-in-Some.ensures
    (dotted _ _ (c.in-Some.name, c.in-Some.call) c.in-Some.ensures.cases (sym c.is_name.ensures ∙ c.if-is_name.true) None c.in_err-cursor_command-in-Some.ensures)

pub returns-in-Some-2 : goal.returns-in-Some-2
returns-in-Some-2 c = unnamed _ _ (c.in-Some.name, c.in-Some.call) c.in-Some.ensures.cases (sym c.is_name.ensures ∙ c.if-is_name.false)

pub returns : goal.returns
returns c = elim c.match-split_once.branch [
  | in-None+in_ok-layout_command-in-None w ↦ rw w.result-is (undotted _ _ w.in-None.ensures.cases (Some w.in_ok-layout_command-in-None.field-0) w.in_ok-layout_command-in-None.ensures)
  | in-Some+in_ok-cursor_command-in-Some w ↦
      rw w.result-is
      (dotted _ _ (w.in-Some.name, w.in-Some.call) w.in-Some.ensures.cases (sym w.is_name.ensures ∙ w.if-is_name.true) (Some w.in_ok-cursor_command-in-Some.field-0) w.in_ok-cursor_command-in-Some.ensures)
]
