use Rattle.comparison.proofs.Scripts.{is_compared, read_is, scripts_compared}
use Rattle.comparison.proofs.texts.compare_texts.Goals as goal

pub unwrap-requires : goal.unwrap-requires
unwrap-requires c =
    let first = read_is _ c.args.first.now _ c.in_ok-first.first c.in_ok-first.ensures.cases c.parse.ensures.reads in
    let second = read_is _ c.args.second.now _ c.in_ok-second.second c.in_ok-second.ensures.cases c.parse-2.ensures.reads in
    is_compared c.args.first.now c.args.second.now c.in_ok-first.first c.in_ok-second.second _ _ _ first second c.deref.ensures.value c.deref-2.ensures.value c.in_ok-compared.ensures

pub returns : goal.returns
returns c =
    let first = read_is _ c.args.first.now _ c.in_ok-first.first c.in_ok-first.ensures.cases c.parse.ensures.reads in
    let second = read_is _ c.args.second.now _ c.in_ok-second.second c.in_ok-second.ensures.cases c.parse-2.ensures.reads in
    scripts_compared c.args.first.now c.args.second.now c.in_ok-first.first c.in_ok-second.second _ _ _ _ first second c.deref.ensures.value c.deref-2.ensures.value c.in_ok-compared.ensures c.unwrap.ensures
