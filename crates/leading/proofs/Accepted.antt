-- An accepted call had a yes to each of its questions, and went where it leads. Assumes nothing.
use Rattle.std.proofs.Common.{◌≡◌, Bool, true, false, cond, List, [], ◌∷◌, ◌++◌, Some, None, Option, sym, refl}
use Rattle.std.proofs.lemmas.Option.{none-some}
use Rattle.entities.specs.Program.{Program}
use Rattle.faults.specs.Questions.{Question, first_no}
use Rattle.faults.specs.Refusals.{Refusal, accepted, refused}
use Rattle.cursor.specs.Positions.{standing}
use Rattle.cursor.specs.declared.CursorPosition.{CursorPosition}
use Rattle.cursor.specs.declared.CursorPosition.TheVariants.{Nowhere, At, Before, After}
use Rattle.cursor_faults.specs.Edits.{worked}
use Rattle.cursor_faults.specs.Moves.{moved}
use Rattle.cursor_faults.specs.Questions.{standing_asked}
use Rattle.calls.specs.Replies.{Reply, as_reply}

-- ---- the questions

yes_of : (c : Bool) (o : Option Refusal) (r : Refusal) → cond c o (Some r) ≡ None → (c ≡ true) × (o ≡ None)
yes_of true o r e = (refl, e)
yes_of false o r e = absurd (none-some r (sym e))

-- each question has its yes
abbrev pub AllYes : List Question → Type 0
AllYes [] = Unit {0}
AllYes (q ∷ qs) = (q.yes ≡ true) × AllYes qs

pub all_yes : (qs : List Question) → first_no qs ≡ None → AllYes qs
all_yes [] e = tt
all_yes (q ∷ qs) e = let y = yes_of q.yes (first_no qs) q.no e in (y.0, all_yes qs y.1)

-- also where it is asked among others whether the cursor stands
pub stood : (at : CursorPosition) (p : Program) (qs : List Question) → AllYes (standing_asked at p ++ qs) → standing at p ≡ true
stood Nowhere p qs y = refl
stood (At i) p qs y = y.0
stood (Before b) p qs y = y.0
stood (After b) p qs y = y.0

pub stood_alone : (at : CursorPosition) (p : Program) → AllYes (standing_asked at p) → standing at p ≡ true
stood_alone Nowhere p y = refl
stood_alone (At i) p y = y.0
stood_alone (Before b) p y = y.0
stood_alone (After b) p y = y.0

-- ---- the answer

not_refused : {A : Type 0} (q : Refusal) (a : A) → refused q ≡ accepted a → ⊥
not_refused q a e = cc

module _ {A : Type 0} (f : A → Reply) (r : Reply) where
  -- a call that moves the cursor to `new`
  pub moved_stands : (o : Option Refusal) (a : A) (new old : CursorPosition) (p : Program) → as_reply f (moved o a new old).answer ≡ accepted r → (o ≡ None → standing new p ≡ true) → standing (moved o a new old).place p ≡ true
  moved_stands None a new old p e h = h refl
  moved_stands (Some q) a new old p e h = absurd (not_refused q r e)

  -- a cursor edit that makes the program `new` and moves the cursor to `to`
  pub worked_stands : (o : Option Refusal) (a : A) (new : Program) (to : CursorPosition) (old : Program) (at : CursorPosition) → as_reply f (worked o a new to old at).answer ≡ accepted r → (o ≡ None → standing to new ≡ true) → standing (worked o a new to old at).place (worked o a new to old at).after ≡ true
  worked_stands None a new to old at e h = h refl
  worked_stands (Some q) a new to old at e h = absurd (not_refused q r e)
