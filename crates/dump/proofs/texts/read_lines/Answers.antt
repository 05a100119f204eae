-- What stops the lines is the fault. Assumes nothing.
use Rattle.words.specs.Words.{rows}
use Rattle.dump.specs.Parts.{Stops, nothing}
use Rattle.dump.proofs.Back.{text_told}
use Rattle.dump.proofs.texts.read_lines.Goals as goal

pub returns-in_err-add_lines : goal.returns-in_err-add_lines
returns-in_err-add_lines c =
    let stops : Stops (rows c.args.text.now) nothing c.in_err-add_lines.field-0.0 = rw (c.new.ensures.items, c.new-2.ensures.items) at c.in_err-add_lines.ensures in
    text_told c.args.text.now c.from_residual.result _ c.from_residual.ensures.1 stops
