use Rattle.std.proofs.Common.{◌≡◌, replicate, None, ap, []}
use Rattle.entities.specs.declared.nodes.BlockNode.{BlockNode}
use Rattle.entities.specs.declared.nodes.Tables.{Tables}
use Rattle.entities.specs.Nodes.{no_inst, only_mark}
use Rattle.listing.proofs.Empty.{emptied}
use Rattle.listing.specs.Lawful.{Sound, program_of}
use Rattle.tables.proofs.repeated.Goals as goal

abbrev all : BlockNode → Tables
all n = record { blocks = replicate 256 n; insts = replicate 1024 no_inst; ends = record { first = None; last = None } }

found : (n : BlockNode) → n ≡ only_mark n.cold → (Sound (all n)) × (program_of (all n) ≡ record { lines = []; cold = replicate 256 n.cold })
found n e = emptied (all n) n.cold (ap all e)

pub invariant_of-result : goal.invariant_of-result
invariant_of-result c = record { sound = (found c.args.block c.requires).0 }

pub returns : goal.returns
returns c = (found c.args.block c.requires).1
