-- The words say a line or they do not, and the line is added or it is refused. Assumes nothing.
use Rattle.std.proofs.Common.{◌≡◌, sym, ap, ◌∙◌}
use Rattle.words.specs.Words.{texts, words_of}
use Rattle.dump.specs.Lines.{Says}
use Rattle.dump.specs.Parts.{part, IsUnread}
use Rattle.words.proofs.Rows.{some_texts}
use Rattle.dump.proofs.Rows.{pushed, unread}
use Rattle.dump.proofs.texts.Partial.add_line.Goals as goal

pub returns-in_err-read_line : goal.returns-in_err-read_line
returns-in_err-read_line c =
    let row : texts c.deref.result.now ≡ words_of c.args.text.now = ap texts c.deref.ensures.value ∙ c.in_ok-words.ensures in
    let wrong : IsUnread (words_of c.args.text.now) c.in_err-read_line.field-0.0 = rw row at c.in_err-read_line.ensures in
    unread _ (part c.args.self.now) _ c.from_residual-in_err-read_line.result c.in_err-read_line.field-0.0 (some_texts _ _ _ c.in_ok-words.ensures c.in_ok-words.words.ok.0 (sym c.is_empty.ensures ∙ c.if-is_empty.false)) c.from_residual-in_err-read_line.ensures.1 wrong

pub returns : goal.returns
returns c =
    let row : texts c.deref.result.now ≡ words_of c.args.text.now = ap texts c.deref.ensures.value ∙ c.in_ok-words.ensures in
    let says : Says (words_of c.args.text.now) c.in_ok-read_line.field-0 = rw row at c.in_ok-read_line.ensures in
    pushed (words_of c.args.text.now) (part c.args.self.now) (part c.push.new.self) c.in_ok-read_line.field-0 says c.push.result c.push.ensures
