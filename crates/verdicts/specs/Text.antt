-- How a verdict and a refusal are written. Assumes nothing.
use Rattle.std.specs.Prelude.{ℕ, List, ◌++◌, Some, None, Option, codes, decimal}
use Rattle.faults.specs.declared.Entity.{Entity}
use Rattle.faults.specs.Text.{entity_text, layer_text}
use Rattle.verdicts.specs.Refusals.{refusal_of}
use Rattle.verdicts.specs.Verdicts.{fault_of, rule_of}
use Rattle.verdicts.specs.declared.AuditFault.{AuditFault}
use Rattle.verdicts.specs.declared.AuditFault.TheVariants.{TooManyNodes}
use Rattle.verdicts.specs.declared.Rule.{Rule}
use Rattle.verdicts.specs.declared.Rule.TheVariants.{InTable, BlockChain, InstChains, UnmetBare, RisingNumbers}
use Rattle.verdicts.specs.declared.Verdict.{Verdict}
use Rattle.verdicts.specs.declared.Verdict.TheVariants.{Lawful, Broken}

-- the name of a rule
abbrev pub rule_text : Rule → List ℕ
rule_text InTable = codes "in-table"
rule_text BlockChain = codes "block chain"
rule_text InstChains = codes "instruction chains"
rule_text UnmetBare = codes "unmet nodes are bare"
rule_text RisingNumbers = codes "rising numbers"

-- what is at fault, or a dash
abbrev pub named_text : Option Entity → List ℕ
named_text None = codes "-"
named_text (Some e) = entity_text e

-- the rule, and what is at fault
abbrev pub verdict_text : Verdict → List ℕ
verdict_text Lawful = codes "lawful"
verdict_text (Broken x) = rule_text (rule_of x) ++ codes ": " ++ named_text (fault_of x)

-- what is wrong
abbrev pub reason_text : AuditFault → List ℕ
reason_text TooManyNodes = codes "too many nodes"

-- the refusal, as those of the layout are written
abbrev pub fault_text : AuditFault → List ℕ
fault_text f = codes "refused with " ++ decimal (refusal_of f).number ++ codes " by the " ++ layer_text (refusal_of f).layer ++ codes ": " ++ reason_text f
