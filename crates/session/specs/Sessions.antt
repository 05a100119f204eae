-- What a session answers, and how it gets one cursor more. Assumes nothing.
use Rattle.std.specs.Prelude.{◌≡◌, ℕ, [], ◌∷◌, ◌++◌, map, slice_get, Some, None, Option}
use Rattle.std.specs.declared.cmp.Ordering.{Ordering}
use Rattle.entities.specs.declared.Block.{Block}
use Rattle.entities.specs.Program.{Program}
use Rattle.entities.specs.Reading.{inserted_block, inst_block, entry_block, last_block, prev_block, next_block, first_inst, last_inst, next_inst, prev_inst, shown_seq, is_cold, exactly_one, slots_of}
use Rattle.faults.specs.Refusals.{Told, told, told_found}
use Rattle.faults.specs.Rules.{pp_block_rule, pp_cmp_rule}
use Rattle.cursor.specs.declared.CursorPosition.{CursorPosition}
use Rattle.cursor.specs.declared.CursorPosition.TheVariants.{Nowhere}
use Rattle.cursor.specs.declared.any.AnyCursor.{AnyCursor}
use Rattle.cursor.specs.declared.any.AnyCursor.TheVariants.{Func, Word}
use Rattle.cursor.specs.Kinds.{any_position}
use Rattle.cursor.specs.SourceLocs.{no_location}
use Rattle.cursor.specs.Positions.{current_inst, current_block}
use Rattle.commands.specs.declared.Question.{Question}
use Rattle.commands.specs.declared.Question.TheVariants as question
use Rattle.commands.specs.declared.CursorQuestion.{CursorQuestion}
use Rattle.commands.specs.declared.CursorQuestion.TheVariants as cursor_question
use Rattle.commands.specs.declared.CursorKind.{CursorKind}
use Rattle.commands.specs.declared.CursorKind.TheVariants as kind
use Rattle.printed.specs.declared.Reply.{Reply}
use Rattle.printed.specs.declared.Reply.TheVariants as reply
use Rattle.session.specs.declared.Session.{Session}

-- layout and cursors are the very same
pub record Unchanged (s t : Session) : Type 0 where
  pub layout : t.layout ≡ s.layout
  pub cursors : t.cursors.items ≡ s.cursors.items

-- ---- questions of the layout

-- the reply tells the order, or the refusal
abbrev pub TellsOrder : Told Ordering → Reply → Type 0
TellsOrder t (reply.Order r) = told r ≡ t
TellsOrder t _ = ⊥

-- the reply tells the block, or the refusal
abbrev pub TellsBlock : Told (Option Block) → Reply → Type 0
TellsBlock t (reply.PointBlock r) = told_found r ≡ t
TellsBlock t _ = ⊥

-- r is what the question answers of program p
abbrev pub Answers : Question → Program → Reply → Type 0
Answers (question.PpCmp a b) p r = TellsOrder (pp_cmp_rule a b p) r
Answers (question.PpBlock a) p r = TellsBlock (pp_block_rule a p) r
Answers (question.IsBlockInserted b) p r = r ≡ reply.Flag (inserted_block b p)
Answers (question.InstBlock i) p r = r ≡ reply.Block (inst_block i p)
Answers question.EntryBlock p r = r ≡ reply.Block (entry_block p)
Answers question.LastBlock p r = r ≡ reply.Block (last_block p)
Answers (question.PrevBlock b) p r = r ≡ reply.Block (prev_block b p)
Answers (question.NextBlock b) p r = r ≡ reply.Block (next_block b p)
Answers (question.FirstInst b) p r = r ≡ reply.Inst (first_inst b p)
Answers (question.LastInst b) p r = r ≡ reply.Inst (last_inst b p)
Answers (question.NextInst i) p r = r ≡ reply.Inst (next_inst i p)
Answers (question.PrevInst i) p r = r ≡ reply.Inst (prev_inst i p)
Answers (question.InstSeq i) p r = r ≡ reply.Number (shown_seq i p)
Answers (question.IsCold b) p r = r ≡ reply.Flag (is_cold b p)
Answers (question.BlockContainsExactlyOneInst b) p r = r ≡ reply.Flag (exactly_one (slots_of b p))
Answers question.BlockCapacity p r = r ≡ reply.Number (Some 256)

-- ---- cursors

-- the position of the cursor with this index
abbrev pub place_at : ℕ → Session → Option CursorPosition
place_at k s = slice_get (map any_position s.cursors.items) k

-- what the question answers of a cursor that is at a position
abbrev pub asked_at : CursorQuestion → CursorPosition → Program → Reply
asked_at cursor_question.CurrentInst at p = reply.Inst (current_inst at)
asked_at cursor_question.CurrentBlock at p = reply.Block (current_block at p)
asked_at cursor_question.Position at p = reply.Position at

-- the same of one that may not be there
abbrev pub cursor_answer : CursorQuestion → Option CursorPosition → Program → Option Reply
cursor_answer q None p = None
cursor_answer q (Some at) p = Some (asked_at q at p)

-- is it a cursor of the kind, and has it no source location?
abbrev pub IsKind : CursorKind → AnyCursor → Type 0
IsKind kind.Func (Func c) = c.srcloc ≡ no_location
IsKind kind.Func (Word c) = ⊥
IsKind kind.Word (Func c) = ⊥
IsKind kind.Word (Word c) = Unit {0}

-- a new cursor of the kind
pub record IsNew (kind : CursorKind) (cursor : AnyCursor) : Type 0 where
  pub is_kind : IsKind kind cursor
  pub nowhere : any_position cursor ≡ Nowhere

-- from s to t, a new cursor of the kind was put behind those that were there
pub record AddsCursor (kind : CursorKind) (s t : Session) : Type 0 where
  pub cursor : AnyCursor
  pub is_new : IsNew kind cursor
  pub cursors : t.cursors.items ≡ s.cursors.items ++ (cursor ∷ [])
  pub layout : t.layout ≡ s.layout
