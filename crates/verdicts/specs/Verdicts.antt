-- Which rule a verdict says is broken, and what it says is at fault. Assumes nothing.
use Rattle.std.specs.Prelude.{Some, None, Option}
use Rattle.faults.specs.declared.Entity.{Entity}
use Rattle.faults.specs.declared.Entity.TheVariants.{Block as the_block}
use Rattle.verdicts.specs.declared.Breach.{Breach}
use Rattle.verdicts.specs.declared.Breach.TheVariants.{InTable, BlockChain, InstChains, UnmetBare, RisingNumbers}
use Rattle.verdicts.specs.declared.Rule.{Rule}
use Rattle.verdicts.specs.declared.Rule.TheVariants.{InTable as in_table, BlockChain as block_chain, InstChains as inst_chains, UnmetBare as unmet_bare, RisingNumbers as rising_numbers}
use Rattle.verdicts.specs.declared.Verdict.{Verdict}
use Rattle.verdicts.specs.declared.Verdict.TheVariants.{Lawful, Broken}

-- the rule that is broken
abbrev pub rule_of : Breach → Rule
rule_of (InTable e) = in_table
rule_of BlockChain = block_chain
rule_of (InstChains b) = inst_chains
rule_of (UnmetBare e) = unmet_bare
rule_of (RisingNumbers b) = rising_numbers

-- what is at fault, where something is named
abbrev pub fault_of : Breach → Option Entity
fault_of (InTable e) = e
fault_of BlockChain = None
fault_of (InstChains b) = Some (the_block b)
fault_of (UnmetBare e) = Some e
fault_of (RisingNumbers b) = Some (the_block b)

-- the same of a verdict: nothing where the tables are lawful
abbrev pub broken_rule : Verdict → Option Rule
broken_rule Lawful = None
broken_rule (Broken x) = Some (rule_of x)

-- what is at fault, likewise
abbrev pub at_fault : Verdict → Option Entity
at_fault Lawful = None
at_fault (Broken x) = fault_of x
