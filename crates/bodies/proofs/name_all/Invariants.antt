use Rattle.std.proofs.Common.{length}
use Rattle.chain.specs.Chain.{keys_from}
use Rattle.entities.specs.Nodes.{inst_links, inst_place}
use Rattle.listing.proofs.Naming.{Going}
use Rattle.listing.specs.Edits.{named}
use Rattle.bodies.proofs.name_all.Given as goal

abbrev pub invariant-loop-at : goal.invariant-loop-at
invariant-loop-at l = Going l.insts l.at l.block (named l.initial.insts (keys_from inst_place inst_links l.initial.insts l.initial.at) l.block)

abbrev pub decreases-loop-at : goal.decreases-loop-at
decreases-loop-at l = length (keys_from inst_place inst_links l.insts l.at)
