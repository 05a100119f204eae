-- No line has the words, and a number in them may be why. Assumes nothing.
use Rattle.std.proofs.Common.{◌≡◌, ℕ, List, Bor, rules, tests, sym, ◌∙◌}
use Rattle.std.specs.List.{list_any}
use Rattle.std.proofs.lemmas.Iterator.{YieldsList-from_slice}
use Rattle.std.proofs.lemmas.Iterator.Search.{any_from_yields_List}
use Rattle.words.specs.Words.{texts}
use Rattle.words.specs.Numbers.{is_too_large}
use Rattle.words.proofs.Rows.{any_texts}
use Rattle.script.proofs.Rows.{says_nothing}
use Rattle.script.proofs.texts.read.Goals as goal
use Rattle.script.proofs.texts.read.Goals.{After-any}

any_is : (c : After-any) → c.any.result ≡ list_any is_too_large (texts c.args.words.now)
any_is c =
    any_from_yields_List (λ (w : Bor (List ℕ)). is_too_large w.now) _ _ c.any.result c.any.ensures.ran (YieldsList-from_slice _ c.iter.ensures.rest) (λ x b q k. search (rules, tests))
    ∙ sym (any_texts is_too_large c.args.words.now)

pub returns-then-any : goal.returns-then-any
returns-then-any c some names = (says_nothing _ c.in_default.ensures, sym (any_is (goal.at.returns-then-any c).After-any) ∙ c.if-any.true)

pub returns-else-any : goal.returns-else-any
returns-else-any c some names = (some, says_nothing _ c.in_default.ensures, sym (any_is (goal.at.returns-else-any c).After-any) ∙ c.if-any.false)
