-- An instruction put in in two steps: linked into a block, and then numbered. Assumes nothing.
use Rattle.std.specs.Prelude.{◌≡◌, ℕ}
use Rattle.entities.specs.declared.Block.{Block}
use Rattle.entities.specs.declared.Inst.{Inst}
use Rattle.entities.specs.declared.nodes.Tables.{Tables}
use Rattle.entities.specs.Numbering.{appended_inst, inserted_before, numbered_before, numbered_last}
use Rattle.entities.specs.Program.{Program}
use Rattle.entities.specs.Reading.{slots_of, slots_with}
use Rattle.listing.specs.Edits.{Linked}
use Rattle.listing.specs.Lawful.{program_of}

-- from t to u, i was put in at the end of b, and r numbers were stored
pub record Appended (t u : Tables) (i : Inst) (b : Block) (r : ℕ) : Type 0 where
  pub count : r ≡ (numbered_last (slots_of b (program_of t)) i).writes
  pub program : program_of u ≡ appended_inst i b (program_of t)

-- from t to u, i was put in directly ahead of `before`, and r numbers were stored
pub record Inserted (t u : Tables) (i before : Inst) (r : ℕ) : Type 0 where
  pub count : r ≡ (numbered_before i before (slots_with before (program_of t))).writes
  pub program : program_of u ≡ inserted_before i before (program_of t)

-- ---- half way: i is linked into block b, where it is to be numbered

pub record LinkedLast (t u : Tables) (i : Inst) (b : Block) : Type 0 where
  pub linked : Linked u i b (numbered_last (slots_of b (program_of t)) i).writes (appended_inst i b (program_of t))

pub record LinkedBefore (t u : Tables) (i before : Inst) (b : Block) : Type 0 where
  pub linked : Linked u i b (numbered_before i before (slots_with before (program_of t))).writes (inserted_before i before (program_of t))

-- somewhere
pub record SomeLinked (u : Tables) (i : Inst) (b : Block) : Type 0 where
  pub writes : ℕ
  pub program : Program
  pub linked : Linked u i b writes program
