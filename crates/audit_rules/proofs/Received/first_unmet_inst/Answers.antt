use Rattle.std.proofs.Common.{arith}
use Rattle.entities.specs.Nodes.{inst_place}
use Rattle.entities.specs.Program.{insts_of}
use Rattle.listing.specs.Lawful.{listed}
use Rattle.audit_rules.proofs.Meeting.{length_met, insts_told}
use Rattle.audit_rules.specs.Tables.{tables}
use Rattle.audit_rules.proofs.Received.first_unmet_inst.Goals as goal

pub first_unmarked_inst-requires-clause-met : goal.first_unmarked_inst-requires-clause-met
first_unmarked_inst-requires-clause-met c = omega (arith, length_met inst_place (insts_of (listed (tables c.args.self))) 1024 c.requires.met)

pub returns : goal.returns
returns c = insts_told (tables c.args.self) c.requires.few_insts c.requires.inst_chains c.requires.met c.first_unmarked_inst.result c.first_unmarked_inst.ensures
