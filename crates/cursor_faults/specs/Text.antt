-- How the refusal of a cursor call is written. Assumes nothing.
use Rattle.std.specs.Prelude.{ℕ, List, [], ◌++◌, Some, None, Option, codes, decimal}
use Rattle.faults.specs.declared.Entity.{Entity}
use Rattle.faults.specs.declared.LayoutFault.{LayoutFault}
use Rattle.faults.specs.Refusals.{Refusal}
use Rattle.faults.specs.Text.{layer_text, entity_text, fault_text}
use Rattle.cursor_faults.specs.Refusals.{cursor_refusal_of, carried}
use Rattle.cursor_faults.specs.declared.CursorFault.{CursorFault}
use Rattle.cursor_faults.specs.declared.CursorFault.TheVariants.{Stale, WrongPosition, Empty, Layout}

-- what is wrong, where it is the cursor that refused
abbrev pub own_reason_text : CursorFault → List ℕ
own_reason_text (Stale e) = codes "is not inserted"
own_reason_text WrongPosition = codes "not at this position"
own_reason_text (Empty e) = codes "has no instructions"
own_reason_text (Layout f) = []

-- the entity at fault, where there is one, ahead of what is wrong with it
abbrev pub about_text : Option Entity → List ℕ → List ℕ
about_text None reason = reason
about_text (Some e) reason = entity_text e ++ codes " " ++ reason

-- a refusal of the layout's is written as the layout writes it
abbrev pub written : Option LayoutFault → Refusal → (reason : List ℕ) → List ℕ
written (Some f) r reason = fault_text f
written None r reason = codes "refused with " ++ decimal r.number ++ codes " by the " ++ layer_text r.layer ++ codes ": " ++ about_text r.entity reason

abbrev pub cursor_fault_text : CursorFault → List ℕ
cursor_fault_text f = written (carried f) (cursor_refusal_of f) (own_reason_text f)
