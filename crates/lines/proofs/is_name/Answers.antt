-- There is a byte, so all rests on what they are. Assumes nothing.
use Rattle.std.proofs.Common.{◌≡◌, false, ◌==◌, length, rules, tests}
use Rattle.std.proofs.lemmas.Iterator.{YieldsList-from_slice}
use Rattle.std.proofs.lemmas.Iterator.Search.{all_from_yields_List}
use Rattle.lines.specs.Lines.{is_name_byte}
use Rattle.lines.proofs.is_name.Goals as goal

pub returns-then-not-is_empty : goal.returns-then-not-is_empty
returns-then-not-is_empty c =
    let all = all_from_yields_List is_name_byte _ _ c.all.result c.all.ensures.ran (YieldsList-from_slice _ c.iter.ensures.rest) (λ x b q k. search (rules, tests)) in
    let some : (length c.args.word.now == 0) ≡ false = cc in
    rw some cc
