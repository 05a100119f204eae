-- Answers and refusals as a script's output has them. Assumes nothing.
use Rattle.std.specs.Prelude.{ℕ, Bool, true, false, List, [], ◌++◌, codes, decimal, Option, Some, None, Ok, Err}
use Rattle.std.specs.List.{flat_map}
use Rattle.std.specs.declared.cmp.Ordering.{Ordering}
use Rattle.std.specs.declared.cmp.Ordering.TheVariants.{Less, Equal, Greater}
use Rattle.entities.specs.declared.Inst.{Inst}
use Rattle.entities.specs.declared.Block.{Block}
use Rattle.faults.specs.declared.Entity.{Entity}
use Rattle.faults.specs.declared.Entity.TheVariants.{Block as the_block, Inst as the_inst}
use Rattle.faults.specs.Refusals.{Refusal}
use Rattle.faults.specs.Text.{layer_text, entity_text}
use Rattle.cursor.specs.declared.CursorPosition.{CursorPosition}
use Rattle.cursor_faults.specs.declared.CursorFault.TheVariants as cursor_fault
use Rattle.calls.specs.declared.Answer.{Answer}
use Rattle.calls.specs.declared.Answer.TheVariants as answer
use Rattle.calls.specs.declared.CallFault.{CallFault}
use Rattle.calls.specs.declared.CallFault.TheVariants.{Layout, Cursor}
use Rattle.calls.specs.Replies.{call_refusal_of}
use Rattle.printed.specs.declared.Reply.{Reply}
use Rattle.printed.specs.declared.Reply.TheVariants as reply
use Rattle.printed.specs.declared.Entry.{Entry}
use Rattle.printed.specs.declared.BlockLine.{BlockLine}
use Rattle.words.specs.Words.{unwords}
use Rattle.words.specs.Entities.{block_text, inst_text}
use Rattle.forms.specs.Args.{args_words}
use Rattle.call_names.specs.Forms.{position_args}
use Rattle.lines.specs.Lines.{Said, said, said_words}

-- what is there, or else the other text
abbrev pub entity_or : List ℕ → Option Entity → List ℕ
entity_or other None = other
entity_or other (Some e) = entity_text e

abbrev pub number_text : Option ℕ → List ℕ
number_text None = codes "none"
number_text (Some n) = decimal n

abbrev pub flag_text : Bool → List ℕ
flag_text true = codes "true"
flag_text false = codes "false"

abbrev pub order_text : Ordering → List ℕ
order_text Less = codes "Less"
order_text Equal = codes "Equal"
order_text Greater = codes "Greater"

-- a position is written as it is given to a call
abbrev pub position_text : CursorPosition → List ℕ
position_text p = unwords (args_words (position_args p))

abbrev pub found_position_text : Option CursorPosition → List ℕ
found_position_text None = codes "none"
found_position_text (Some p) = position_text p

-- ---- refusals

-- is it the layout's, which a cursor carries?
abbrev pub carried_text : CallFault → List ℕ
carried_text (Cursor (cursor_fault.Layout f)) = codes " in cursor"
carried_text _ = []

abbrev pub refusal_text : Refusal → (carried : List ℕ) → List ℕ
refusal_text r carried = codes "refused " ++ decimal r.number ++ codes " by " ++ layer_text r.layer ++ carried ++ codes ": " ++ entity_or (codes "-") r.entity

abbrev pub call_fault_text : CallFault → List ℕ
call_fault_text f = refusal_text (call_refusal_of f) (carried_text f)

-- ---- answers

abbrev pub answer_text : Answer → List ℕ
answer_text (answer.Wrote n) = codes "wrote " ++ decimal n
answer_text (answer.Took i n) = codes "took " ++ entity_text (the_inst i) ++ codes ", wrote " ++ decimal n
answer_text (answer.Inst i) = inst_text i
answer_text (answer.Block b) = block_text b
answer_text (answer.Position p) = found_position_text p
answer_text answer.Done = codes "done"

abbrev pub reply_text : Reply → List ℕ
reply_text (reply.Outcome (Ok a)) = answer_text a
reply_text (reply.Outcome (Err f)) = call_fault_text f
reply_text (reply.Order (Ok o)) = order_text o
reply_text (reply.Order (Err f)) = call_fault_text (Layout f)
reply_text (reply.PointBlock (Ok b)) = entity_text (the_block b)
reply_text (reply.PointBlock (Err f)) = call_fault_text (Layout f)
reply_text (reply.Flag b) = flag_text b
reply_text (reply.Block b) = block_text b
reply_text (reply.Inst i) = inst_text i
reply_text (reply.Number n) = number_text n
reply_text (reply.Position p) = position_text p

-- where the cursor then is, for a call of one
abbrev pub then_text : Option CursorPosition → List ℕ
then_text None = []
then_text (Some p) = codes "; " ++ position_text p

-- what was said, its reply, and where the cursor then is
abbrev pub told_text : Said → Reply → Option CursorPosition → List ℕ
told_text l r at = unwords (said_words l) ++ codes " -> " ++ reply_text r ++ then_text at

abbrev pub entry_text : Entry → List ℕ
entry_text e = told_text (said e.line) e.reply e.position

-- ---- walks

abbrev pub cold_text : Bool → List ℕ
cold_text true = codes " cold"
cold_text false = []

abbrev pub slot_text : Inst × ℕ → List ℕ
slot_text s = codes " " ++ entity_text (the_inst s.0) ++ codes "/" ++ decimal s.1

-- a block, whether it is cold, and its slots
abbrev pub block_text_with : Block → (cold : Bool) → List (Inst × ℕ) → List ℕ
block_text_with b cold slots = entity_text (the_block b) ++ cold_text cold ++ codes ":" ++ flat_map slot_text slots

abbrev pub block_line_text : BlockLine → List ℕ
block_line_text b = block_text_with b.block b.cold b.slots.now
