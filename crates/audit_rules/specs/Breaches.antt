-- Which rule is the first that tables break, and where. Assumes nothing.
use Rattle.std.specs.Prelude.{◌≡◌, ℕ, ◌<◌, List, ◌∷◌, ◌++◌, Some, None}
use Rattle.std.specs.List.{All}
use Rattle.entities.specs.Nodes.{block_place, inst_place}
use Rattle.entities.specs.Program.{Line}
use Rattle.entities.specs.declared.Block.{Block}
use Rattle.entities.specs.declared.nodes.Tables.{Tables}
use Rattle.faults.specs.declared.Entity.TheVariants.{Block as the_block, Inst as the_inst}
use Rattle.listing.specs.Lawful.{Filled, listed}
use Rattle.audit_rules.specs.Rules.{BlockChain, BlockInside, EndsInside, InTable, InstChains, InstInside, Rises, UnmetBare, UnmetBlockBare, UnmetInstBare}
use Rattle.verdicts.specs.declared.Breach.{Breach}
use Rattle.verdicts.specs.declared.Breach.TheVariants.{InTable as in_table, BlockChain as block_chain, InstChains as inst_chains, UnmetBare as unmet_bare, RisingNumbers as rising_numbers}

-- x is the lowest for which P fails
pub record Lowest {K : Type 0} (place : K → ℕ) (P : K → Type 0) (x : K) : Type 0 where
  pub fault : P x → ⊥
  pub spared : (k : K) → place k < place x → P k

-- b is the block of the earliest of these lines for which P fails
pub record Earliest (P : Line → Type 0) (ls : List Line) (b : Block) : Type 0 where
  pub ahead : List Line
  pub it : Line
  pub behind : List Line
  pub is : ls ≡ ahead ++ (it ∷ behind)
  pub block : it.block ≡ b
  pub spared : All P ahead
  pub fault : P it → ⊥

-- the rules ahead of the broken one hold
abbrev pub Ahead : Tables → Breach → Type 0
Ahead t (in_table e) = Unit {0}
Ahead t block_chain = InTable t
Ahead t (inst_chains b) = InTable t × BlockChain t
Ahead t (unmet_bare e) = InTable t × BlockChain t × InstChains t
Ahead t (rising_numbers b) = InTable t × BlockChain t × InstChains t × UnmetBare t

-- the rule is broken, and what is named is the first at fault: an end, which names nothing, ahead of all blocks, and those ahead of all
-- instructions
abbrev pub Broken : Tables → Breach → Type 0
Broken t (in_table None) = EndsInside t.blocks t.ends → ⊥
Broken t (in_table (Some (the_block b))) = EndsInside t.blocks t.ends × Lowest block_place (BlockInside t.blocks t.insts) b
Broken t (in_table (Some (the_inst i))) = EndsInside t.blocks t.ends × ((b : Block) → BlockInside t.blocks t.insts b) × Lowest inst_place (InstInside t.blocks t.insts) i
Broken t block_chain = BlockChain t → ⊥
Broken t (inst_chains b) = Earliest (Filled t) (listed t) b
Broken t (unmet_bare (the_block b)) = Lowest block_place (UnmetBlockBare t) b
Broken t (unmet_bare (the_inst i)) = ((b : Block) → UnmetBlockBare t b) × Lowest inst_place (UnmetInstBare t) i
Broken t (rising_numbers b) = Earliest Rises (listed t) b

-- so the rule is the first that is broken
abbrev pub FirstBroken : Tables → Breach → Type 0
FirstBroken t x = Ahead t x × Broken t x
