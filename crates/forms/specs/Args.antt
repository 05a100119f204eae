-- The words behind the name of a call. Assumes nothing.
use Rattle.std.specs.Prelude.{ℕ, List, [], ◌∷◌, codes}
use Rattle.entities.specs.declared.progpoint.ProgramPoint.{ProgramPoint}
use Rattle.entities.specs.declared.progpoint.ProgramPoint.TheVariants.{Inst as inst_point, Block as block_point}
use Rattle.faults.specs.declared.Entity.{Entity}
use Rattle.faults.specs.declared.Entity.TheVariants.{Block as the_block, Inst as the_inst}
use Rattle.faults.specs.Text.{entity_text}
use Rattle.words.specs.Entities.{FitsEntity}
use Rattle.forms.specs.declared.Arg.{Arg}
use Rattle.forms.specs.declared.Arg.TheVariants.{Block, Inst, Nowhere, At, Before, After}
use Rattle.forms.specs.declared.Args.{Args}
use Rattle.forms.specs.declared.Args.TheVariants as args

abbrev pub arg_text : Arg → List ℕ
arg_text (Block b) = entity_text (the_block b)
arg_text (Inst i) = entity_text (the_inst i)
arg_text Nowhere = codes "nowhere"
arg_text At = codes "at"
arg_text Before = codes "before"
arg_text After = codes "after"

abbrev pub args_words : Args → List (List ℕ)
args_words args.None = []
args_words (args.One a) = arg_text a ∷ []
args_words (args.Two a b) = arg_text a ∷ arg_text b ∷ []

-- a number has up to 32 bits
abbrev pub FitsArg : Arg → Type 0
FitsArg (Block b) = FitsEntity (the_block b)
FitsArg (Inst i) = FitsEntity (the_inst i)
FitsArg Nowhere = Unit {0}
FitsArg At = Unit {0}
FitsArg Before = Unit {0}
FitsArg After = Unit {0}

abbrev pub FitsArgs : Args → Type 0
FitsArgs args.None = Unit {0}
FitsArgs (args.One a) = FitsArg a
FitsArgs (args.Two a b) = FitsArg a × FitsArg b

-- the argument that is this block or instruction
abbrev pub entity_arg : Entity → Arg
entity_arg (the_block b) = Block b
entity_arg (the_inst i) = Inst i

-- the argument that is this point
abbrev pub point_arg : ProgramPoint → Arg
point_arg (inst_point i) = Inst i
point_arg (block_point b) = Block b
