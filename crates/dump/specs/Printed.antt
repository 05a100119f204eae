-- Tables that are kept elsewhere. Assumes nothing.
use Rattle.entities.specs.declared.nodes.Tables.{Tables}
use Rattle.dump.specs.declared.printed.DumpRef.{DumpRef}

-- the tables and ends that are to be printed
abbrev pub tables_behind : DumpRef → Tables
tables_behind d = record { blocks = d.blocks.now; insts = d.insts.now; ends = d.ends }
