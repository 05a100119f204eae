-- What a call answers, and how it is refused, case by case. Assumes nothing.
use Rattle.std.specs.Prelude.{◌≡◌, ℕ, Some, Ok, Err, Option, Result}
use Rattle.entities.specs.declared.Block.{Block}
use Rattle.entities.specs.declared.Inst.{Inst}
use Rattle.entities.specs.Program.{Program}
use Rattle.faults.specs.Refusals.{Refusal, Told, accepted, refused, refusal_of}
use Rattle.cursor.specs.declared.CursorPosition.{CursorPosition}
use Rattle.cursor_faults.specs.declared.CursorFault.{CursorFault}
use Rattle.cursor_faults.specs.Refusals.{cursor_refusal_of}
use Rattle.cursor_faults.specs.Moves.{Moved}
use Rattle.cursor_faults.specs.Edits.{Worked}
use Rattle.calls.specs.declared.Answer.{Answer}
use Rattle.calls.specs.declared.Answer.TheVariants.{Wrote, Took, Inst as InstAnswer, Block as BlockAnswer, Position, Done}
use Rattle.calls.specs.declared.CallFault.{CallFault}
use Rattle.calls.specs.declared.CallFault.TheVariants.{Layout, Cursor}

-- what an accepted call answers
pub data Reply : Type 0 where
  wrote : ℕ → Reply
  took : Option Inst → ℕ → Reply
  reached_inst : Option Inst → Reply
  reached_block : Option Block → Reply
  position : Option CursorPosition → Reply
  done : Reply

abbrev pub reply_of : Answer → Reply
reply_of (Wrote n) = wrote n
reply_of (Took i n) = took (Some i) n
reply_of (InstAnswer i) = reached_inst i
reply_of (BlockAnswer b) = reached_block b
reply_of (Position at) = position at
reply_of Done = done

-- the layout's and the cursor's refusals are told as they tell them
abbrev pub call_refusal_of : CallFault → Refusal
call_refusal_of (Layout f) = refusal_of f
call_refusal_of (Cursor f) = cursor_refusal_of f

-- what a call tells
abbrev pub call_told : Result Answer CallFault → Told Reply
call_told (Ok a) = accepted (reply_of a)
call_told (Err f) = refused (call_refusal_of f)

-- what a cursor call tells
abbrev pub replied : Result Answer CursorFault → Told Reply
replied (Ok a) = accepted (reply_of a)
replied (Err f) = refused (cursor_refusal_of f)

-- a rule's answer as the reply of a call
abbrev pub as_reply : {A : Type 0} → (A → Reply) → Told A → Told Reply
as_reply f (accepted a) = accepted (f a)
as_reply f (refused r) = refused r

-- a cursor call that answered r and left the cursor at `to` went by the rule
pub record MovedBy (rule : Moved Reply) (r : Result Answer CursorFault) (to : CursorPosition) : Type 0 where
  pub answer : replied r ≡ rule.answer
  pub place : to ≡ rule.place

-- a cursor call that answered r and left the program `after` and the cursor at `to` went by the rule
pub record WorkedBy (rule : Worked Reply) (r : Result Answer CursorFault) (after : Program) (to : CursorPosition) : Type 0 where
  pub answer : replied r ≡ rule.answer
  pub program : after ≡ rule.after
  pub place : to ≡ rule.place
