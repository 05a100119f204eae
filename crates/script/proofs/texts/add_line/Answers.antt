-- The words say a line or they do not, and the line is added or it is refused. Assumes nothing.
use Rattle.std.proofs.Common.{◌≡◌, sym, ap, ◌∙◌}
use Rattle.words.specs.Words.{texts, words_of}
use Rattle.words.proofs.Rows.{some_texts}
use Rattle.script.specs.Scripts.{IsWrong, content}
use Rattle.lines.specs.Lines.{Says, said}
use Rattle.script.proofs.Rows.{pushed, wrong_words}
use Rattle.script.proofs.texts.add_line.Goals as goal

pub returns-in_err-read : goal.returns-in_err-read
returns-in_err-read c =
    let row : texts c.deref.result.now ≡ words_of c.args.text.now = ap texts c.deref.ensures.value ∙ c.in_ok-words.ensures in
    let some = some_texts _ _ _ c.in_ok-words.ensures c.in_ok-words.words.ok.0 (sym c.is_empty.ensures ∙ c.if-is_empty.false) in
    let wrong : IsWrong c.args.script.now.names (words_of c.args.text.now) c.in_err-read.field-0.0 = rw row at (c.in_err-read.ensures (λ none. some (sym row ∙ none)) c.args.script.now.names) in
    wrong_words _ (content c.args.script.now) _ c.from_residual-in_err-read.result c.in_err-read.field-0.0 c.from_residual-in_err-read.ensures.1 wrong

pub returns : goal.returns
returns c =
    let row : texts c.deref.result.now ≡ words_of c.args.text.now = ap texts c.deref.ensures.value ∙ c.in_ok-words.ensures in
    let says : Says (words_of c.args.text.now) (said c.in_ok-read.field-0) = rw row at c.in_ok-read.ensures in
    pushed (words_of c.args.text.now) (content c.args.script.now) (content c.push.new.self) (said c.in_ok-read.field-0) says c.push.result c.push.ensures
