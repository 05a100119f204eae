-- The questions that each cursor call must pass, read top to bottom; a list that goes on in another is asked first. Assumes nothing.
use Rattle.std.specs.Prelude.{◌≡◌, Bool, true, false, cond, not, List, [], ◌∷◌, ◌++◌, Some, None, Ok, Err, Result, ◌==◌}
use Rattle.entities.specs.declared.Block.{Block}
use Rattle.entities.specs.declared.Inst.{Inst}
use Rattle.faults.specs.declared.Entity.TheVariants.{Block as the_block, Inst as the_inst}
use Rattle.faults.specs.declared.LayoutFault.TheVariants.{OutOfRange, NotInserted, AlreadyInserted}
use Rattle.entities.specs.Program.{Program}
use Rattle.entities.specs.Reading.{inserted_block, inserted_inst, slots_of, empty}
use Rattle.faults.specs.Questions.{Question, ask, first_no, in_range_block, in_range_inst}
use Rattle.cursor.specs.declared.CursorPosition.{CursorPosition}
use Rattle.cursor.specs.declared.CursorPosition.TheVariants.{Nowhere, At, Before, After}
use Rattle.cursor_faults.specs.declared.CursorFault.{CursorFault}
use Rattle.cursor_faults.specs.declared.CursorFault.TheVariants.{Stale, WrongPosition, Empty}
use Rattle.cursor_faults.specs.Refusals.{cursor_refusal_of}

-- a question that the cursor asks
abbrev pub cursor_asks : Bool → CursorFault → Question
cursor_asks q f = record { yes = q; no = cursor_refusal_of f }

-- ---- gotos

abbrev pub goto_inst_asked : Inst → Program → List Question
goto_inst_asked i p =
    ask (in_range_inst i) (OutOfRange (the_inst i))
    ∷ ask (inserted_inst i p) (NotInserted (the_inst i))
    ∷ []

abbrev pub goto_block_asked : Block → Program → List Question
goto_block_asked b p =
    ask (in_range_block b) (OutOfRange (the_block b))
    ∷ ask (inserted_block b p) (NotInserted (the_block b))
    ∷ []

-- to the first or the last instruction of a block
abbrev pub goto_end_asked : Block → Program → List Question
goto_end_asked b p =
    ask (in_range_block b) (OutOfRange (the_block b))
    ∷ ask (inserted_block b p) (NotInserted (the_block b))
    ∷ cursor_asks (not (empty (slots_of b p))) (Empty (the_block b))
    ∷ []

-- ---- steps and position questions: is the cursor Nowhere or on something inserted?

abbrev pub standing_asked : CursorPosition → Program → List Question
standing_asked Nowhere p = []
standing_asked (At i) p = cursor_asks (inserted_inst i p) (Stale (the_inst i)) ∷ []
standing_asked (Before b) p = cursor_asks (inserted_block b p) (Stale (the_block b)) ∷ []
standing_asked (After b) p = cursor_asks (inserted_block b p) (Stale (the_block b)) ∷ []

-- ---- cursor edits

-- can an instruction be put in here?
abbrev pub takes_inst : CursorPosition → Bool
takes_inst Nowhere = false
takes_inst (At i) = true
takes_inst (Before b) = false
takes_inst (After b) = true

-- is it at an instruction?
abbrev pub is_at : CursorPosition → Bool
is_at Nowhere = false
is_at (At i) = true
is_at (Before b) = false
is_at (After b) = false

-- is i not inserted, or the very instruction that is replaced?
abbrev pub may_replace : Inst → CursorPosition → Program → Bool
may_replace i Nowhere p = not (inserted_inst i p)
may_replace i (At k) p = cond (i.0 == k.0) true (not (inserted_inst i p))
may_replace i (Before b) p = not (inserted_inst i p)
may_replace i (After b) p = not (inserted_inst i p)

abbrev pub put_inst_asked : Inst → CursorPosition → Program → List Question
put_inst_asked i at p =
    ask (in_range_inst i) (OutOfRange (the_inst i))
    ∷ (standing_asked at p
    ++ (cursor_asks (takes_inst at) WrongPosition
    ∷ ask (not (inserted_inst i p)) (AlreadyInserted (the_inst i))
    ∷ []))

abbrev pub take_inst_asked : CursorPosition → Program → List Question
take_inst_asked at p = standing_asked at p ++ (cursor_asks (is_at at) WrongPosition ∷ [])

abbrev pub replace_inst_asked : Inst → CursorPosition → Program → List Question
replace_inst_asked i at p =
    ask (in_range_inst i) (OutOfRange (the_inst i))
    ∷ (standing_asked at p
    ++ (cursor_asks (is_at at) WrongPosition
    ∷ ask (may_replace i at p) (AlreadyInserted (the_inst i))
    ∷ []))

abbrev pub put_block_asked : Block → CursorPosition → Program → List Question
put_block_asked b at p =
    ask (in_range_block b) (OutOfRange (the_block b))
    ∷ (standing_asked at p
    ++ (ask (not (inserted_block b p)) (AlreadyInserted (the_block b))
    ∷ []))

-- a fault is that of the first no; without one every question has its yes, and `Found` holds
abbrev pub CursorFirstNo : {A : Type 0} → List Question → Result A CursorFault → Type 0 → Type 0
CursorFirstNo qs (Err f) Found = first_no qs ≡ Some (cursor_refusal_of f)
CursorFirstNo qs (Ok a) Found = (first_no qs ≡ None) × Found
