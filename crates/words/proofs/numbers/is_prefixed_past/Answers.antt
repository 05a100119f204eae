-- The prefix is cut off, or is not there. Assumes nothing.
use Rattle.std.proofs.Common.{◌++◌, sym, ap, ◌∙◌}
use Rattle.words.proofs.Prefixes.{stripped, not_stripped}
use Rattle.words.proofs.numbers.is_prefixed_past.Goals as goal

pub returns-in-Some : goal.returns-in-Some
returns-in-Some c =
    let (n, split, digits, fits) = c.in-Some.ensures.cases in
    c.is_past.ensures ∙ stripped c.args.prefix.now c.args.word.now c.in-Some.digits.now (split.1 ∙ ap (λ ds. c.args.prefix.now ++ ds) (sym digits))

pub returns-in-None : goal.returns-in-None
returns-in-None c = not_stripped _ _ c.in-None.ensures.cases
