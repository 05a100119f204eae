-- What the first word tells. Assumes nothing.
use Rattle.std.proofs.Common.{◌≡◌, ◌≢◌, sym, ◌∙◌, codes}
use Rattle.std.specs.Cmp.Lexicographic.{bytes_decides}
use Rattle.lines.proofs.FirstWords.{new_line, call_line}
use Rattle.lines.proofs.begun_by.Goals as goal

pub returns-then-eq : goal.returns-then-eq
returns-then-eq c =
    let same : c.args.word.now ≡ codes "cursor" = (bytes_decides _ _).0 (sym c.eq.ensures ∙ c.if-eq.true) in
    rw same (new_line _ _ c.new_cursor.ensures)

pub returns-in_ok-read : goal.returns-in_ok-read
returns-in_ok-read c =
    let other : c.args.word.now ≢ codes "cursor" = λ same. let eq = (bytes_decides c.args.word.now (codes "cursor")).1 same in cc in
    call_line _ _ _ other _ c.in_ok-read.ensures c.call.ensures
