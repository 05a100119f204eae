-- No line has the words, and a number in them may be why. Assumes nothing.
use Rattle.std.proofs.Common.{◌≡◌, ℕ, List, Bor, rules, tests, sym, ◌∙◌}
use Rattle.std.specs.List.{list_any}
use Rattle.std.proofs.lemmas.Iterator.{YieldsList-from_slice}
use Rattle.std.proofs.lemmas.Iterator.Search.{any_from_yields_List}
use Rattle.words.specs.Words.{texts}
use Rattle.dump.specs.Dumps.{names_too_large}
use Rattle.words.proofs.Rows.{any_texts}
use Rattle.dump.proofs.Rows.{unreadable}
use Rattle.dump.proofs.texts.read_line.Goals as goal
use Rattle.dump.proofs.texts.read_line.Goals.{After-any}

any_is : (c : After-any) → c.any.result ≡ list_any names_too_large (texts c.args.words.now)
any_is c =
    any_from_yields_List (λ (w : Bor (List ℕ)). names_too_large w.now) _ _ c.any.result c.any.ensures.ran (YieldsList-from_slice _ c.iter.ensures.rest) (λ x b q k. search (rules, tests))
    ∙ sym (any_texts names_too_large c.args.words.now)

pub returns-then-any : goal.returns-then-any
returns-then-any c = unreadable _ _ c.in_default.ensures (sym (any_is (goal.at.returns-then-any c).After-any) ∙ c.if-any.true)

pub returns-else-any : goal.returns-else-any
returns-else-any c = unreadable _ _ c.in_default.ensures (sym (any_is (goal.at.returns-else-any c).After-any) ∙ c.if-any.false)
