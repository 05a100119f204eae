-- No other call is given a position. Assumes nothing.
use Rattle.std.proofs.Common.{◌≡◌, ◌≢◌, ◌↔◌, ℕ, List, Option, Some, None, codes, rules}
use Rattle.calls.specs.declared.CursorCall.{CursorCall}
use Rattle.cursor.specs.declared.CursorPosition.{CursorPosition}
use Rattle.cursor.specs.declared.CursorPosition.TheVariants.{Nowhere, At, Before, After}
use Rattle.call_names.specs.Forms.{call_form, position_args}

module _ (name : List ℕ) (set : name ≢ codes "set_position") (at : name ≢ codes "at_position") where
  pub no_call : (p : CursorPosition) (c : CursorCall) → ◌≡◌ {A = Option CursorCall} None (Some c) ↔ call_form c ≡ record { name = name; args = position_args p }
  no_call Nowhere c = search rules
  no_call (At i) c = search rules
  no_call (Before b) c = search rules
  no_call (After b) c = search rules
