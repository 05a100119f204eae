-- What an edit of the tables did, and the parts of the tables that it writes. Assumes nothing.
use Rattle.std.specs.Prelude.{◌≡◌, ℕ, List, [], ◌∷◌, ◌++◌, Some, None, Option}
use Rattle.chain.specs.Chain.{Misses}
use Rattle.chain.specs.Table.{alter, cut_table, if_none}
use Rattle.chain.specs.declared.Ends.{Ends}
use Rattle.entities.specs.Nodes.{inst_links, inst_place, marks}
use Rattle.entities.specs.Numbering.{numbered}
use Rattle.entities.specs.Program.{Line, Program, Slot, blocks_of, in_block, insts_of, with_lines, with_slots}
use Rattle.entities.specs.declared.Block.{Block}
use Rattle.entities.specs.declared.Inst.{Inst}
use Rattle.entities.specs.declared.nodes.BlockNode.{BlockNode}
use Rattle.entities.specs.declared.nodes.InstNode.{InstNode}
use Rattle.entities.specs.declared.nodes.Tables.{Tables}
use Rattle.listing.specs.Lawful.{Sound, Wired, listed, program_of, slot_of}

-- tables u, made from t by an edit, hold the lines ls; the marks are those of t
pub record Edited (t u : Tables) (ls : List Line) : Type 0 where
  pub wired : Wired u
  pub list : listed u ≡ ls
  pub cold : marks u.blocks ≡ marks t.blocks

-- from t an edit made the sound tables u, which hold the lines ls with the marks of t
pub record Becomes (t u : Tables) (ls : List Line) : Type 0 where
  pub sound : Sound u
  pub program : program_of u ≡ with_lines (program_of t) ls

abbrev pub BlockIn : Block → Tables → Type 0
BlockIn b t = Misses (Some b) (blocks_of (listed t)) → ⊥

abbrev pub BlockOut : Block → Tables → Type 0
BlockOut b t = Misses (Some b) (blocks_of (listed t))

abbrev pub InstIn : Inst → Tables → Type 0
InstIn i t = Misses (Some i) (insts_of (listed t)) → ⊥

abbrev pub InstOut : Inst → Tables → Type 0
InstOut i t = Misses (Some i) (insts_of (listed t))

-- ---- parts written

abbrev pub with_blocks : Tables → List BlockNode → Tables
with_blocks t bs = record { blocks = bs; insts = t.insts; ends = t.ends }

abbrev pub with_insts : Tables → List InstNode → Tables
with_insts t is = record { blocks = t.blocks; insts = is; ends = t.ends }

abbrev pub with_inst_ends : BlockNode → Ends Inst → BlockNode
with_inst_ends n e = record { prev = n.prev; next = n.next; first_inst = e.first; last_inst = e.last; cold = n.cold }

abbrev pub with_block : InstNode → Option Block → InstNode
with_block n b = record { block = b; prev = n.prev; next = n.next; seq = n.seq }

-- the tables once the block chain is edited
abbrev pub after_blocks : Tables → List BlockNode → Ends Block → Tables
after_blocks t bs e = record { blocks = bs; insts = t.insts; ends = e }

-- the tables once the instruction chain of block b is edited: its table and its ends
abbrev pub after_insts : Tables → Block → List InstNode → Ends Inst → Tables
after_insts t b is e = with_blocks (with_insts t is) (alter t.blocks b.0 (λ n. with_inst_ends n e))

-- the slot of an instruction that is linked in and not numbered yet: it has the number that its node holds
abbrev pub unnumbered : Tables → Inst → Slot
unnumbered t i = slot_of t.insts i

-- the lines once i is linked in at the end of b
abbrev pub linked_last : Inst → Block → Tables → List Line
linked_last i b t = in_block b (λ ss. ss ++ (unnumbered t i ∷ [])) (listed t)

-- i was linked into block b of the sound tables `before`, behind the slots sa of its line and ahead of sb, which made the tables u. Once it
-- is numbered there, `writes` numbers are stored and the program is p
pub record Linked (u : Tables) (i : Inst) (b : Block) (writes : ℕ) (p : Program) : Type 0 where
  pub before : Tables
  pub ahead : List Line
  pub it : Line
  pub behind : List Line
  pub sa : List Slot
  pub sb : List Slot
  pub sound : Sound before
  pub list : listed before ≡ ahead ++ (it ∷ behind)
  pub here : it.block ≡ b
  pub cut : it.slots ≡ sa ++ sb
  pub edited : Edited before u (ahead ++ (with_slots it (sa ++ (unnumbered before i ∷ sb)) ∷ behind))
  pub count : writes ≡ (numbered sa i sb).writes
  pub program : p ≡ with_lines (program_of before) (ahead ++ (with_slots it (numbered sa i sb).slots ∷ behind))

-- ---- a block split ahead of an instruction

-- the ends of what stays ahead of a cut, where p is directly ahead of it
abbrev pub ends_ahead : Ends Inst → Option Inst → Ends Inst
ends_ahead e p = record { first = if_none p None e.first; last = p }

-- the tables once i and all that follow it, in block b with the ends e, are cut off behind p and are the chain of block nb: they still
-- name b
abbrev pub cut_off : Tables → Ends Inst → Option Inst → Block → Inst → Block → Tables
cut_off t e p nb i b = record {
  blocks = alter (alter t.blocks b.0 (λ n. with_inst_ends n (ends_ahead e p))) nb.0 (λ n. with_inst_ends n (record { first = Some i; last = e.last }));
  insts = cut_table inst_place inst_links t.insts p i;
  ends = t.ends;
}

-- the table once each of these instructions names block b
abbrev pub named : List InstNode → List Inst → Block → List InstNode
named t [] b = t
named t (i ∷ is) b = named (alter t i.0 (λ n. with_block n (Some b))) is b
