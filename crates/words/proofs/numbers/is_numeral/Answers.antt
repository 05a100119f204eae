-- The first digit is well, so all rests on the others. Assumes nothing.
use Rattle.std.proofs.Common.{◌≡◌, true, rules, tests}
use Rattle.std.specs.Char.{is_ascii_digit}
use Rattle.std.proofs.lemmas.Iterator.{YieldsList-from_slice}
use Rattle.std.proofs.lemmas.Iterator.Search.{all_from_yields_List}
use Rattle.words.specs.Numbers.{begins_well}
use Rattle.words.proofs.numbers.is_numeral.Goals as goal

pub returns-then-begins_well : goal.returns-then-begins_well
returns-then-begins_well c =
    let all = all_from_yields_List is_ascii_digit _ _ c.all.result c.all.ensures.ran (YieldsList-from_slice _ c.iter.ensures.rest) (λ x b q k. search (rules, tests)) in
    let well : begins_well c.args.digits.now ≡ true = cc in
    rw well cc
