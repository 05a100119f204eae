use Rattle.std.proofs.Common.{arith}
use Rattle.entities.specs.Nodes.{block_place}
use Rattle.entities.specs.Program.{blocks_of}
use Rattle.listing.specs.Lawful.{listed}
use Rattle.audit_rules.proofs.Meeting.{length_met, blocks_told}
use Rattle.audit_rules.specs.Tables.{tables}
use Rattle.audit_rules.proofs.Received.first_unmet_block.Goals as goal

pub first_unmarked_block-requires-clause-met : goal.first_unmarked_block-requires-clause-met
first_unmarked_block-requires-clause-met c = omega (arith, length_met block_place (blocks_of (listed (tables c.args.self))) 256 c.requires.met)

pub returns : goal.returns
returns c = blocks_told (tables c.args.self) c.requires.few_blocks c.requires.block_chain c.requires.met c.first_unmarked_block.result c.first_unmarked_block.ensures
